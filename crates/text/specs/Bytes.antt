-- Bytes by their class, runs of them, fixed spellings and decimal numbers.
use Rattle.std.specs.Prelude.{◌≡◌, ℕ, ◌+◌, ◌-◌, ◌*◌, ◌<◌, ◌≤◌, Bool, true, false, cond, not, List, length, drop, ℤ, pos, neg_ℤ, codes, fold, ◌==◌, nat_le, nat_lt, slice_index}
use Rattle.text.specs.declared.reader.Class.{Class}
use Rattle.text.specs.declared.reader.Class.TheVariants.{Digit, Blank, Inline}
use Rattle.text.specs.declared.reader.Sign.{Sign}
use Rattle.text.specs.declared.reader.Sign.TheVariants.{Variables, Constraints, Minimise, AtLeast, Equal, End}

-- the bytes of a class
unfoldable pub belongs : Class → ℕ → Bool
belongs Digit b = cond (nat_le 48 b) (nat_le b 57) false
belongs Blank b = cond (b == 32) true (cond (b == 9) true (cond (b == 10) true (b == 13)))
belongs Inline b = not (b == 10)

-- a byte of the class stands at i
abbrev pub sees : List ℕ → Class → ℕ → Bool
sees text c i = cond (nat_lt i (length text)) (belongs c (slice_index text i)) false

-- the byte b stands at i
abbrev pub stands : List ℕ → ℕ → ℕ → Bool
stands text b i = cond (nat_lt i (length text)) (slice_index text i == b) false

-- from `from` to `end`, and no further, all bytes are of the class
pub record Run (c : Class) (text : List ℕ) (from end : ℕ) : Type 0 where
  pub forward : from ≤ end
  pub within : end ≤ length text
  pub all : (i : ℕ) → from ≤ i → i < end → sees text c i ≡ true
  pub stops : sees text c end ≡ false

-- how each fixed token is spelt
abbrev pub spelling : Sign → List ℕ
spelling Variables = codes "* #variable="
spelling Constraints = codes "#constraint="
spelling Minimise = codes "min:"
spelling AtLeast = codes ">="
spelling Equal = codes "="
spelling End = codes ";"

-- the number that decimal digits write
unfoldable pub decimal : List ℕ → ℕ
decimal ds = fold (λ n b. n * 10 + (b - 48)) 0 ds

abbrev pub signed : Bool → ℕ → ℤ
signed minus m = cond minus (neg_ℤ (pos m)) (pos m)

-- the number that a sign and digits, or digits alone, write
abbrev pub number_of : List ℕ → ℤ
number_of bs =
    cond (slice_index bs 0 == 45) (neg_ℤ (pos (decimal (drop 1 bs))))
    (cond (slice_index bs 0 == 43) (pos (decimal (drop 1 bs)))
    (pos (decimal bs)))

-- the number after a name's letter
abbrev pub index_of : List ℕ → ℕ
index_of bs = decimal (drop 1 bs)
