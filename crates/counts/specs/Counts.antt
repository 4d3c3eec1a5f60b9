-- What counting gives.
use Rattle.std.specs.Prelude.{ℕ, ◌<◌, ◌≤◌, true, ℤ, Some, None, Option}
use Rattle.rules.specs.Rule.{size}
use Rattle.rules.specs.Terms.{coefficient}
use Rattle.rules.specs.declared.term.Rule.{Rule}
use Rattle.cores.specs.Cores.{sizes, CanBeMet}
use Rattle.counting.specs.Counting.{Least}

-- the place r is from `start` on, and nothing from there on is greater than what stands at it
pub record GreatestFrom (a : ℕ → ℤ) (order : ℕ → ℕ) (start r : ℕ) : Type 0 where
  pub from : start ≤ r
  pub within : r < 80
  pub most : (j : ℕ) → start ≤ j → j < 80 → size (a (order j)) ≤ size (a (order r))

-- the count of a rule: the least number of its terms that reach the degree, or none where all together miss it
abbrev pub CountOf : Rule → Option ℕ → Type 0
CountOf r None = sizes 80 (coefficient r) < r.degree
CountOf r (Some b) = CanBeMet r × Least 80 (coefficient r) r.degree (λ i. true) b
