-- Items that stand on variables, as literals and terms do: f tells the variable of each.
use Rattle.std.specs.Prelude.{◌≡◌, ℕ, ◌<◌, List, map, slice_index_or}

abbrev pub stands_at : {X : Type 0} → (X → ℕ) → List X → ℕ → ℕ
stands_at f xs i = slice_index_or (map f xs) i 0

-- some item before index i stands on the same variable
abbrev pub StandsBefore : {X : Type 0} → (X → ℕ) → List X → ℕ → Type 0
StandsBefore f xs i = (j : ℕ) × (j < i) × (stands_at f xs j ≡ stands_at f xs i)

-- the item of index i stands on one of the n variables, and none before it on the same
pub record StandsAlone {X : Type 0} (f : X → ℕ) (n : ℕ) (xs : List X) (i : ℕ) : Type 0 where
  pub known : stands_at f xs i < n
  pub once : StandsBefore f xs i → ⊥
