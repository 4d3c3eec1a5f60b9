-- What written rules and prices say of a choice, over the integers. A choice takes or leaves each part; x1 is part 0 here.
use Rattle.std.specs.Prelude.{◌≡◌, ℕ, suc, Bool, cond, List, [], ◌∷◌, ℤ, pos, ◌+ℤ◌, ◌≤ℤ◌, Some, None, Option}
use Rattle.lines.specs.declared.line.Comparison.{Comparison}
use Rattle.lines.specs.declared.line.Comparison.TheVariants.{AtLeast, Equal}
use Rattle.lines.specs.declared.line.Rule.{Rule}
use Rattle.lines.specs.declared.line.Sum.{Sum}
use Rattle.rows.specs.Rows.{given}
use Rattle.opb.specs.Language.{Language}
use Rattle.opb.specs.Sheets.{Written, Says, table_of}
use Rattle.table.specs.Layout.{Sound}
use Rattle.table.specs.Meaning.{Meets, price}

-- the value of a sum: the coefficients of the parts that are taken, added up
abbrev pub value_of : List (Option ℤ) → (ℕ → Bool) → ℤ
value_of [] x = pos 0
value_of (o ∷ os) x = cond (x 0) (given o) (pos 0) +ℤ value_of os (λ i. x (suc i))

abbrev pub value : Sum → (ℕ → Bool) → ℤ
value s x = value_of s.terms x

-- what a comparison says of a value and a right side
abbrev pub Compares : Comparison → ℤ → ℤ → Type 0
Compares AtLeast v b = b ≤ℤ v
Compares Equal v b = v ≡ b

abbrev pub TrueFor : (ℕ → Bool) → Rule → Type 0
TrueFor x q = Compares q.comparison (value q.sum x) q.bound

-- every rule comes true
abbrev pub AllTrue : (ℕ → Bool) → List Rule → Type 0
AllTrue x [] = Unit {0}
AllTrue x (q ∷ qs) = TrueFor x q × AllTrue x qs

-- what a choice costs: the value of the price sum, 0 without a price line
abbrev pub cost : (ℕ → Bool) → Option Sum → ℤ
cost x None = pos 0
cost x (Some s) = value s x

-- the table T says of every choice what the sheet says
pub record Means (s : Written) (T : List ℤ) : Type 0 where
  pub rules_kept : (x : ℕ → Bool) → Meets T x → AllTrue x s.rules
  pub rules_held : (x : ℕ → Bool) → AllTrue x s.rules → Meets T x
  pub price_is : (x : ℕ → Bool) → price T x ≡ cost x s.price

abbrev pub TableMeans : Type 0
TableMeans = (text : List ℕ) (s : Written) → Says text s → Means s (table_of s)

-- The table of a sheet has the layout of a table.
abbrev pub TableSound : Type 0
TableSound = (text : List ℕ) (s : Written) → Language text s → Sound (table_of s)
