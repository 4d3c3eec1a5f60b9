-- Literals as a quote writes them: x or -x, and then the number of a part.
use Rattle.std.specs.Prelude.{◌≡◌, ℕ, ◌<◌, ◌≤◌, min, Bool, true, false, List, ◌∷◌, length, Some, None, Option, slice_index}
use Rattle.std.specs.Str.Parse.{digits_value}
use Rattle.board.specs.declared.words.Literal.{Literal}

-- bytes that write a number: digits, and at least one
pub record Numeric (ds : List ℕ) : Type 0 where
  pub some : 0 < length ds
  pub digits : (i : ℕ) → i < length ds → (48 ≤ slice_index ds i) × (slice_index ds i ≤ 57)

-- the number that they write; from 1000 on all numbers are read as 1000, which no sheet has a part for
abbrev pub number : List ℕ → ℕ
number ds = min 1000 (digits_value 10 ds)

abbrev pub Numeral : List ℕ → Option ℕ → Type 0
Numeral ds None = Numeric ds → ⊥
Numeral ds (Some n) = Numeric ds × (n ≡ number ds)

-- the number of the part that a word names without a sign: x, and then digits
abbrev pub PartNumber : List ℕ → Option ℕ → Type 0
PartNumber word None = (ds : List ℕ) → word ≡ 120 ∷ ds → Numeric ds → ⊥
PartNumber word (Some n) = (ds : List ℕ) × (word ≡ 120 ∷ ds) × Numeric ds × (n ≡ number ds)

-- what stands before the digits of a literal: x where the part is taken, -x where it is left out
abbrev pub written : Bool → List ℕ → List ℕ
written true ds = 120 ∷ ds
written false ds = 45 ∷ 120 ∷ ds

-- what a word says: a literal, or nothing
abbrev pub Says : List ℕ → Option Literal → Type 0
Says word None = (taken : Bool) (ds : List ℕ) → word ≡ written taken ds → Numeric ds → ⊥
Says word (Some l) = (ds : List ℕ) × (word ≡ written l.taken ds) × Numeric ds × (l.part ≡ number ds)
