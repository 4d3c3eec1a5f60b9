-- How written sums and rules become words of the table: normal form.
use Rattle.std.specs.Prelude.{◌≡◌, ℕ, suc, ◌+◌, ◌-◌, ◌*◌, ◌≤◌, List, [], ◌∷◌, ◌++◌, map, length, replicate, ℤ, pos, negsuc, ◌+ℤ◌, neg_ℤ, Some, None, Option, slice_index_or, unsigned_abs}
use Rattle.std.specs.Option.{unwrap_or}
use Rattle.lines.specs.declared.line.Comparison.{Comparison}
use Rattle.lines.specs.declared.line.Comparison.TheVariants.{AtLeast, Equal}
use Rattle.lines.specs.declared.line.Rule.{Rule}
use Rattle.lines.specs.declared.line.Sum.{Sum}

-- the coefficient of a part, 0 where it is not named
abbrev pub given : Option ℤ → ℤ
given o = unwrap_or o (pos 0)

-- the coefficients of a sum, a word for each part: negative for a complement, 0 for no term
unfoldable pub words : Sum → List ℤ
words s = map given s.terms

-- every sign turned
unfoldable pub turn : List ℤ → List ℤ
turn cs = map neg_ℤ cs

-- how far a number lies below 0
abbrev pub below : ℤ → ℕ
below (pos a) = 0
below (negsuc a) = suc a

-- the sizes of the negative coefficients together
abbrev pub negatives : List ℤ → ℕ
negatives [] = 0
negatives (c ∷ cs) = below c + negatives cs

-- a number, or 0 where it is below
abbrev pub floored : ℤ → ℕ
floored (pos a) = a
floored (negsuc a) = 0

-- A rule of the table: the coefficients of its literals that are true together reach the degree.
pub record Row : Type 0 where
  pub degree : ℕ
  pub coefs : List ℤ

-- The normal form of a sum that is at least b. A negative coefficient stands for its size on the complement, so the
-- degree grows by that size; a degree below 0 is 0.
abbrev pub at_least : List ℤ → ℤ → Row
at_least cs b = record { degree = floored (b +ℤ pos (negatives cs)); coefs = cs }

-- the rows of a rule: an equation is two, the second with all signs turned
abbrev pub rows_by : Comparison → List ℤ → ℤ → List Row
rows_by AtLeast cs b = at_least cs b ∷ []
rows_by Equal cs b = at_least cs b ∷ at_least (turn cs) (neg_ℤ b) ∷ []

abbrev pub rule_rows : Rule → List Row
rule_rows q = rows_by q.comparison (words q.sum) q.bound

-- the rows of the rules, in their order
abbrev pub all_rows : List Rule → List Row
all_rows [] = []
all_rows (q ∷ qs) = rule_rows q ++ all_rows qs

-- rows as words: each a degree and its coefficients
abbrev pub row_words : Row → List ℤ
row_words r = pos r.degree ∷ r.coefs

unfoldable pub laid : List Row → List ℤ
laid [] = []
laid (r ∷ rs) = row_words r ++ laid rs

-- rows after the words in front of them, and 0 in every word after them
abbrev pub table_with : List ℤ → List Row → List ℤ
table_with front rs = front ++ (laid rs ++ replicate (2624 - 41 * length rs) (pos 0))

-- forty coefficients of at most a million in size
pub record Narrow (cs : List ℤ) : Type 0 where
  pub forty : length cs ≡ 40
  pub small : (i : ℕ) → unsigned_abs (slice_index_or cs i (pos 0)) ≤ 1000000

-- c0: the negative prices together
abbrev pub base_of : List ℤ → ℤ
base_of cs = neg_ℤ (pos (negatives cs))

-- every row has forty coefficients
abbrev pub Lined : List Row → Type 0
Lined [] = Unit {0}
Lined (r ∷ rs) = (length r.coefs ≡ 40) × Lined rs

-- The table T, which had k rows, has become U, which has these rows after them, with whatever words stood in front.
abbrev pub Appends : ℕ → List ℤ → List ℤ → List Row → Type 0
Appends k T U more = (front : List ℤ) (rs : List Row) → length front ≡ 44 → Lined rs → length rs ≡ k → T ≡ table_with front rs → U ≡ table_with front (rs ++ more)

-- The words in front of the rows: the numbers of parts and of rows, c0, 1 for a price line or else 0, and the weights.
abbrev pub front_of : ℕ → ℕ → Option Sum → List ℤ
front_of parts rows None = pos parts ∷ pos rows ∷ pos 0 ∷ pos 0 ∷ replicate 40 (pos 0)
front_of parts rows (Some s) = pos parts ∷ pos rows ∷ base_of (words s) ∷ pos 1 ∷ words s

-- prices are as narrow as coefficients
abbrev pub NarrowPrice : Option Sum → Type 0
NarrowPrice None = Unit {0}
NarrowPrice (Some s) = Narrow (words s)

-- The table T, with nothing in front of its rows, has become U, with these words in front.
abbrev pub Fronts : List ℤ → List ℤ → List ℤ → Type 0
Fronts T U front = (rs : List Row) → T ≡ table_with (replicate 44 (pos 0)) rs → U ≡ table_with front rs
