-- The layout of a table: which word is which, and what each may hold.
use Rattle.std.specs.Prelude.{◌≡◌, ℕ, ◌+◌, ◌-◌, ◌*◌, ◌/◌, ◌%◌, ◌<◌, Bool, cond, not, ◌&&◌, List, length, ℤ, pos, negsuc, ◌≤ℤ◌, Ok, Err, Result, ◌==◌, nat_lt, slice_index_or, unsigned_abs}
use Rattle.faults.specs.declared.fault.RunFault.{RunFault}
use Rattle.faults.specs.declared.fault.RunFault.TheVariants.{Sheet, TableLength, Layout}
use Rattle.table.specs.declared.place.Limits.{Limits}
use Rattle.table.specs.declared.place.Place.{Place}
use Rattle.table.specs.declared.place.Place.TheVariants.{Parts, Rules, Base, Priced, Weight, Degree, Coefficient}

-- the word of an index
abbrev pub word : List ℤ → ℕ → ℤ
word T w = slice_index_or T w (pos 0)

-- how many parts the sheet declares, and how many rules it has
abbrev pub parts_of : List ℤ → ℕ
parts_of T = unsigned_abs (word T 0)

abbrev pub rules_of : List ℤ → ℕ
rules_of T = unsigned_abs (word T 1)

-- the part i is declared, and the rule k is there: both from 0
abbrev pub declared : List ℤ → ℕ → Bool
declared T i = nat_lt i (parts_of T)

abbrev pub stated : List ℤ → ℕ → Bool
stated T k = nat_lt k (rules_of T)

-- what the price starts from, and whether there is a price line
abbrev pub base : List ℤ → ℤ
base T = word T 2

abbrev pub priced : List ℤ → Bool
priced T = not (unsigned_abs (word T 3) == 0)

-- the weight of a part, the degree of a rule, and the coefficient in a rule of a part
abbrev pub weight : List ℤ → ℕ → ℤ
weight T i = word T (4 + i)

abbrev pub degree : List ℤ → ℕ → ℕ
degree T k = unsigned_abs (word T (44 + 41 * k))

abbrev pub coefficient : List ℤ → ℕ → ℕ → ℤ
coefficient T k i = word T (44 + 41 * k + (1 + i))

-- what the word of an index is
unfoldable pub place_of : ℕ → Place
place_of w =
    cond (w == 0) Parts
    (cond (w == 1) Rules
    (cond (w == 2) Base
    (cond (w == 3) Priced
    (cond (nat_lt w 44) (Weight (w - 4))
    (cond ((w - 44) % 41 == 0) (Degree ((w - 44) / 41))
    (Coefficient ((w - 44) / 41) ((w - 44) % 41 - 1)))))))

-- the limits of a word; no more than 0 where it is not used
abbrev pub range : ℤ → ℤ → Limits
range low high = record { least = low; most = high }

abbrev pub used : Bool → Limits → Limits
used b l = cond b l (range (pos 0) (pos 0))

abbrev pub limits_of : List ℤ → Place → Limits
limits_of T Parts = range (pos 1) (pos 40)
limits_of T Rules = range (pos 0) (pos 64)
limits_of T Base = used (priced T) (range (negsuc 3999999) (pos 0))
limits_of T Priced = range (pos 0) (pos 1)
limits_of T (Weight i) = used (priced T && declared T i) (range (negsuc 99999) (pos 100000))
limits_of T (Degree k) = used (stated T k) (range (pos 0) (pos 140000000))
limits_of T (Coefficient k i) = used (stated T k && declared T i) (range (negsuc 999999) (pos 1000000))

-- the word of an index is within its limits
abbrev pub Within : Limits → ℤ → Type 0
Within l v = (l.least ≤ℤ v) × (v ≤ℤ l.most)

abbrev pub Fine : List ℤ → ℕ → Type 0
Fine T w = Within (limits_of T (place_of w)) (word T w)

-- a table that has the layout
pub record Sound (T : List ℤ) : Type 0 where
  pub whole : length T ≡ 2668
  pub fine : (w : ℕ) → w < 2668 → Fine T w

-- the word w is the first that is not within its limits
pub record FirstBad (T : List ℤ) (w : ℕ) : Type 0 where
  pub whole : length T ≡ 2668
  pub within : w < 2668
  pub before : (v : ℕ) → v < w → Fine T v
  pub bad : Fine T w → ⊥

-- what the check answers
abbrev pub Verdict : List ℤ → Result Unit RunFault → Type 0
Verdict T (Ok _) = Sound T
Verdict T (Err TableLength) = length T ≡ 2668 → ⊥
Verdict T (Err (Layout w)) = FirstBad T w
Verdict T (Err (Sheet fault)) = ⊥
