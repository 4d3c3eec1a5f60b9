-- A question that is asked twice.
use Rattle.std.specs.Prelude.{◌≡◌, ℕ, ◌+◌, length}
use Rattle.engine.specs.Held.{Held, Every}
use Rattle.engine.specs.Questions.{Question, none, posed, GoodLiteral}
use Rattle.store.specs.Assumes.{assumed_in}
use Rattle.store.specs.declared.assumed.Assumed.{Assumed}
use Rattle.twice.specs.declared.Round.{Round}
use Rattle.twice.specs.declared.Round.TheVariants.{First, Second}

-- in the first round, a whole second one is left besides
abbrev pub steps_left : Round → ℕ → ℕ → ℕ
steps_left First Q left = left + Q
steps_left Second Q left = left

abbrev pub in_round : Round → ℕ → Question → Question
in_round round Q none = none
in_round round Q (posed ls left) = posed ls (steps_left round Q left)

-- the literals that are kept are those of the engine's open question, and they are good
abbrev pub Agrees : Assumed → Held → Question → Type 0
Agrees a h none = Unit {0}
Agrees a h (posed ls left) = (assumed_in a ≡ ls) × Every (GoodLiteral h.variables ls) (length ls)
