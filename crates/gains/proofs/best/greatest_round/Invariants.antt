use Rattle.std.proofs.Common.{◌≡◌, ℕ, ◌<◌}
use Rattle.rules.specs.Rule.{at}
use Rattle.rules.specs.Terms.{coefficient}
use Rattle.counting.specs.Counting.{number_in}
use Rattle.counting.specs.Gain.{heavy}
use Rattle.counting.specs.Order.{flag}
use Rattle.gains.specs.Gains.{weights, BestFrom}
use Rattle.gains.proofs.best.greatest_round.Given as goal

-- the members are the literals from some weight on, and `best` is the best round before it
abbrev pub invariant-loop-place : goal.invariant-loop-place
invariant-loop-place l =
    (from : ℕ) × ((i : ℕ) → i < 80 → flag l.members i ≡ heavy (coefficient l.core.rule.now) (weights l.core.rule.now (at l.price)) from i)
    × BestFrom l.core.rule.now (at l.price) from l.best

abbrev pub decreases-loop-place : goal.decreases-loop-place
decreases-loop-place l = number_in 80 (flag l.members)
