-- What the lines of a list of cores say.
use Rattle.std.specs.Prelude.{◌≡◌, ℕ, ◌<◌, ◌≤◌, List, ℤ, pos, map, ◌==◌, All, take}
use Rattle.std.specs.List.{slice_split, after_first, before_first}
use Rattle.std.specs.Str.Parse.{IsNumeral, digits_value, signed_digits_value, without_leading_plus, without_leading_sign}
use Rattle.rules.specs.Rule.{at}
use Rattle.rules.specs.Terms.{coefficient}
use Rattle.core_text.specs.declared.line.Row.{Row}
use Rattle.core_text.specs.declared.line.Line.{Line}

-- the bytes of a comma and of a tabulator
abbrev pub comma : ℕ
comma = 44

abbrev pub tabulator : ℕ
tabulator = 9

-- a text is these numbers, with a comma between each two
abbrev pub fields : List ℕ → List (List ℕ)
fields text = slice_split (λ b. b == comma) text

abbrev pub number : List ℕ → ℤ
number field = signed_digits_value 10 field

abbrev pub IsNumber : List ℕ → Type 0
IsNumber field = IsNumeral 10 (without_leading_sign field)

abbrev pub ReadsRow : List ℕ → List ℤ → Type 0
ReadsRow text row = (row ≡ map number (fields text)) × All IsNumber (fields text)

-- the numbers of a text stand at the first places of a row, and 0 at the others
pub record RowOf (text : List ℕ) (row : Row) : Type 0 where
  pub within : row.length ≤ 80
  pub reads : ReadsRow text (take row.length row.numbers)
  pub others : (i : ℕ) → row.length ≤ i → i < 80 → at row.numbers i ≡ pos 0

-- what stands before the first tabulator, and behind it
abbrev pub before : List ℕ → List ℕ
before text = before_first (λ b. b == tabulator) text

abbrev pub behind : List ℕ → List ℕ
behind text = after_first (λ b. b == tabulator) text

-- the coefficients, the degree and the weights stand in the first three fields, and the rest is behind them
pub record ReadsLine (text : List ℕ) (line : Line) : Type 0 where
  pub coefficients : (row : List ℤ) × ReadsRow (before text) row × ((i : ℕ) → i < 80 → coefficient line.rule i ≡ at row i)
  pub degree : line.rule.degree ≡ digits_value 10 (without_leading_plus (before (behind text)))
  pub weights : RowOf (before (behind (behind text))) line.weights
  pub rest : line.rest.now ≡ behind (behind (behind text))
