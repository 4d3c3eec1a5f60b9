-- What is found among marks.
use Rattle.std.specs.Prelude.{◌≡◌, ℕ, ◌<◌, Bool, true, false, cond, Some, None, Option, ◌≢◌, nat_lt}
use Rattle.rules.specs.declared.Mark.{Mark}
use Rattle.rules.specs.declared.Mark.TheVariants.{Free, Zero}
use Rattle.backtrack.specs.Clause.{opposed}

-- the last 0 among the first d marks
abbrev pub ZeroFound : (ℕ → Mark) → ℕ → Option ℕ → Type 0
ZeroFound p d None = (j : ℕ) → j < d → p j ≢ Zero
ZeroFound p d (Some t) = (t < d) × (p t ≡ Zero) × ((j : ℕ) → t < j → j < d → p j ≢ Zero)

-- whether two marks of the first d exclude each other
abbrev pub OpposedFound : (ℕ → Mark) → (ℕ → Mark) → ℕ → Bool → Type 0
OpposedFound a b d true = (v : ℕ) × (v < d) × (opposed (a v) (b v) ≡ true)
OpposedFound a b d false = (v : ℕ) → v < d → opposed (a v) (b v) ≡ false

-- no marks after t
abbrev pub cleared : (ℕ → Mark) → ℕ → ℕ → Mark
cleared p t i = cond (nat_lt t i) Free (p i)
