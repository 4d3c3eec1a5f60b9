-- The count rule of greatest gain that follows from a core.
use Rattle.std.specs.Prelude.{◌≡◌, ℕ, ◌*◌, ◌<◌, ◌≤◌, Bool, true, false, cond, ℤ, Some, None, Option, Ok, Err, Result, ◌≢◌, nat_lt}
use Rattle.rules.specs.Rule.{size}
use Rattle.rules.specs.Terms.{coefficient}
use Rattle.rules.specs.declared.term.Rule.{Rule}
use Rattle.derive.specs.Derive.{Follows}
use Rattle.cores.specs.declared.core_of.CannotBeMet.{CannotBeMet}
use Rattle.cores.specs.Cores.{sizes, RuleIs, CanBeMet}
use Rattle.counting.specs.Counting.{count_row}
use Rattle.counting.specs.Gain.{heavy}
use Rattle.counting.specs.Rounds.{weight_under, NoneGainsMore, FirstGreatest, BestBelow, NoneLighter}
use Rattle.gains.specs.declared.kinds.Round.{Round}
use Rattle.gains.specs.declared.kinds.CountRule.{CountRule}

-- what a round gains
abbrev pub gain : Round → ℕ
gain r = r.count * r.weight

-- the weights of a core's literals under a price
abbrev pub weights : Rule → (ℕ → ℤ) → ℕ → ℕ
weights core price = weight_under price (coefficient core)

-- a lightest variable of y among those below k
pub record Lightest (w : ℕ → ℕ) (y : ℕ → Bool) (k p : ℕ) : Type 0 where
  pub below : p < k
  pub member : y p ≡ true
  pub least : (i : ℕ) → i < k → y i ≡ true → w p ≤ w i

abbrev pub LightestBelow : (ℕ → ℕ) → (ℕ → Bool) → ℕ → Option ℕ → Type 0
LightestBelow w y k None = (i : ℕ) → i < k → y i ≡ false
LightestBelow w y k (Some p) = Lightest w y k p

-- of two rounds the one that gains more, and of equals the first
abbrev pub better : Option Round → Round → Round
better None next = next
better (Some r) next = cond (nat_lt (gain r) (gain next)) next r

-- the best round once all literals lighter than `from` are weakened
abbrev pub BestFrom : Rule → (ℕ → ℤ) → ℕ → Option Round → Type 0
BestFrom core price from None = NoneLighter 80 (coefficient core) (weights core price) from
BestFrom core price from (Some r) = BestBelow 80 (coefficient core) core.degree (weights core price) from r.weight r.count

-- the first round of greatest gain, and no count rule that follows from the core gains more
pub record Greatest (core : Rule) (price : ℕ → ℤ) (r : Round) : Type 0 where
  pub first : FirstGreatest 80 (coefficient core) core.degree (weights core price) r.weight r.count
  pub none_more : NoneGainsMore 80 (coefficient core) core.degree (weights core price) (gain r)

-- without a round the core says nothing: its degree is 0
abbrev pub Found : Rule → (ℕ → ℤ) → Option Round → Type 0
Found core price None = core.degree ≡ 0
Found core price (Some r) = Greatest core price r

-- every literal of the core weighs something
abbrev pub AllWeigh : Rule → (ℕ → ℤ) → Type 0
AllWeigh core price = (i : ℕ) → i < 80 → (size (coefficient core i) ≢ 0) → 0 < weights core price i

-- the round that a count rule stands for
abbrev pub round_of : CountRule → Round
round_of k = record { weight = k.weight; count = k.rule.degree }

-- the count rule that is kept: its literals are those of the core from its weight on, it follows from the core, it is the first
-- of greatest gain, and no other gains more; where every literal weighs something, it gains
pub record KeptIs (core : Rule) (price : ℕ → ℤ) (k : CountRule) : Type 0 where
  pub can : CanBeMet core
  pub rule : RuleIs k.rule (count_row (heavy (coefficient core) (weights core price) k.weight) (coefficient core)) k.rule.degree
  pub follows : Follows 80 (coefficient core) core.degree (coefficient k.rule) k.rule.degree
  pub greatest : Greatest core price (round_of k)
  pub gains : AllWeigh core price → 0 < gain (round_of k)

-- what comes of a core: the count rule that is kept, none where the core says nothing, or that it cannot be met
abbrev pub BestOf : Rule → (ℕ → ℤ) → Result (Option CountRule) CannotBeMet → Type 0
BestOf core price (Ok (Some k)) = KeptIs core price k
BestOf core price (Ok None) = core.degree ≡ 0
BestOf core price (Err _) = sizes 80 (coefficient core) < core.degree
