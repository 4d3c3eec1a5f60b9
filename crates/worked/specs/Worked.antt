-- Readings that are worked out.
use Rattle.std.specs.Prelude.{◌≡◌, ℕ, List, [], ◌∷◌, ◌++◌, replicate, ℤ, pos, negsuc, codes, unsigned_abs}
use Rattle.rules.specs.Sum.{total}
use Rattle.table.specs.Layout.{base, weight}
use Rattle.lines.specs.declared.line.Rule.{Rule}
use Rattle.rows.specs.Rows.{Row, rule_rows}
use Rattle.opb.specs.Language.{Language, LanguageRule}
use Rattle.opb.specs.Sheets.{Written, table_of}

-- a row about x1 and x2 alone
abbrev pub about_two : ℤ → ℤ → ℕ → Row
about_two a b d = record { degree = d; coefs = a ∷ b ∷ replicate 38 (pos 0) }

-- the text writes one rule, and these are its rows
abbrev pub RuleGives : List ℕ → List Row → Type 0
RuleGives text rows = (q : Rule) × LanguageRule text 40 64 q × (rule_rows q ≡ rows)

-- the sum of a table's weights, without their signs
abbrev pub weights_sum : List ℤ → ℕ
weights_sum T = total (λ i. unsigned_abs (weight T i)) 40

-- the text writes a sheet, and its table has this c0 and this sum of weights
abbrev pub SheetGives : List ℕ → ℤ → ℕ → Type 0
SheetGives text c0 S = (s : Written) × Language text s × (base (table_of s) ≡ c0) × (weights_sum (table_of s) ≡ S)

pub record WorkedReadings : Type 0 where
  -- 2 not-x1 + 3 x2 >= 2
  pub complement : RuleGives (codes "-2 x1 3 x2 >= 0 ;") (about_two (negsuc 1) (pos 3) 2 ∷ [])
  -- x1 + x2 >= 1 and not-x1 + not-x2 >= 1
  pub equation : RuleGives (codes "1 x1 1 x2 = 1 ;") (about_two (pos 1) (pos 1) 1 ∷ about_two (negsuc 0) (negsuc 0) 1 ∷ [])
  -- a degree below 0 is 0
  pub floor : RuleGives (codes "-1 x1 >= -5 ;") (about_two (negsuc 0) (pos 0) 0 ∷ [])
  -- c0 is -3, and the weights are 3 and 2
  pub prices : SheetGives (codes "* #variable= 2 #constraint= 0" ++ 10 ∷ codes "min: -3 x1 2 x2 ;") (negsuc 2) 5
