-- A whole sheet as a form, and its table.
use Rattle.std.specs.Prelude.{◌≡◌, ℕ, ◌-◌, Bool, cond, List, [], ◌∷◌, ◌++◌, length, ℤ, Some, None, Ok, Err, Option, Result, nat_lt}
use Rattle.faults.specs.declared.fault.TextFault.{TextFault}
use Rattle.faults.specs.declared.fault.TextFault.TheVariants.{Misplaced}
use Rattle.faults.specs.declared.fault.SheetFault.{SheetFault}
use Rattle.faults.specs.declared.fault.SheetFault.TheVariants.{Text, Count}
use Rattle.forms.specs.Forms.{Form, Then, Loop, Branch, From, Just, Give, Lifted, outcome, got, bad}
use Rattle.text.specs.declared.reader.Limit.TheVariants.{Coefficient}
use Rattle.text.specs.Bytes.{stands}
use Rattle.text.specs.Tokens.{short, Limited, Gap}
use Rattle.lines.specs.declared.line.Rule.{Rule}
use Rattle.lines.specs.declared.line.Sum.{Sum}
use Rattle.lines.specs.Lines.{Numbers, HeaderLine, PriceLine, RuleAfter, Blanks}
use Rattle.rows.specs.Rows.{all_rows, front_of, table_with}

-- A sheet as written: what its header announces, its price line, if any, and its rules.
pub record Written : Type 0 where
  pub header : Numbers
  pub price : Option Sum
  pub rules : List Rule

-- the price line, if one stands here, with the gap after it
abbrev pub Price : List ℕ → ℕ → Form (Option Sum) SheetFault
Price text n =
    Branch (stands text 109) (Then (PriceLine text n) (λ s. Then (Lifted Text (Gap text)) (λ _. Give (Ok (Some s)))))
    (Give (Ok None))

-- one more rule may begin at `start` after those that there are
abbrev pub expected : ℕ → ℕ → ℕ → Result (Unit {0}) SheetFault
expected announced count start = cond (nat_lt count announced) (Ok tt) (Err (Count start))

-- a rule after `count` others, which take that many rows, with the gap after it
abbrev pub RuleLine : List ℕ → Numbers → ℕ → ℕ → Form Rule SheetFault
RuleLine text h count rows =
    From (λ start. Then (Lifted Text (Limited text Coefficient)) (λ a. Then (Give (expected h.rules count start)) (λ _.
    Then (RuleAfter text h.parts (64 - rows) a) (λ q. Then (Lifted Text (Gap text)) (λ _. Give (Ok q))))))

-- how many rows rules take
abbrev pub rows_of : List Rule → ℕ
rows_of qs = length (all_rows qs)

abbrev pub NextRule : List ℕ → Numbers → List Rule → Form (List Rule) SheetFault
NextRule text h qs = Then (RuleLine text h (length qs) (rows_of qs)) (λ q. Give (Ok (qs ++ q ∷ [])))

abbrev pub unended : List ℕ → ℕ → Bool
unended text i = nat_lt i (length text)

-- there are as many rules as the header announces
abbrev pub complete : List ℕ → Numbers → List Rule → Result (List Rule) SheetFault
complete text h qs = cond (nat_lt (length qs) h.rules) (Err (Count (length text))) (Ok qs)

-- rules up to the end of the text
abbrev pub Rules : List ℕ → Numbers → Form (List Rule) SheetFault
Rules text h = Then (Loop (unended text) (NextRule text h) []) (λ qs. Give (complete text h qs))

-- what follows the header
abbrev pub Body : List ℕ → Numbers → Form Written SheetFault
Body text h =
    Then (Lifted Text (Gap text)) (λ _. Then (Price text h.parts) (λ p. Then (Rules text h) (λ qs.
    Give (Ok (record { header = h; price = p; rules = qs })))))

-- a whole text
abbrev pub Whole : List ℕ → Form Written SheetFault
Whole text = Then (Lifted Text (Give (short text))) (λ _. Then (Lifted Text (HeaderLine text)) (Body text))

-- the table of a sheet
abbrev pub table_of : Written → List ℤ
table_of s = table_with (front_of s.header.parts (rows_of s.rules) s.price) (all_rows s.rules)

-- The text says the sheet s, or is refused for the fault e.
abbrev pub Says : List ℕ → Written → Type 0
Says text s = (to : ℕ) × Whole text 0 (got s to)

abbrev pub Refused : List ℕ → SheetFault → Type 0
Refused text e = Whole text 0 (bad e)

-- A text says one sheet at most, is refused for one fault at most, and never both.
abbrev pub OneReading : Type 0
OneReading =
    ((text : List ℕ) (s t : Written) → Says text s → Says text t → s ≡ t)
    × ((text : List ℕ) (e f : SheetFault) → Refused text e → Refused text f → e ≡ f)
    × ((text : List ℕ) (s : Written) (e : SheetFault) → Says text s → Refused text e → ⊥)

-- nothing stands here any more
abbrev pub ended : List ℕ → ℕ → Result (Unit {0}) TextFault
ended text at = cond (nat_lt at (length text)) (Err (Misplaced at)) (Ok tt)

abbrev pub End : List ℕ → Form (Unit {0}) TextFault
End text = Just (λ at. outcome (ended text at) at)

-- one rule alone about n parts, for which so many rows are left: blanks may stand around it, and nothing else
abbrev pub AloneHere : List ℕ → ℕ → ℕ → Form Rule SheetFault
AloneHere text n room =
    Then (Blanks text) (λ _. Then (Lifted Text (Limited text Coefficient)) (λ a. Then (RuleAfter text n room a) (λ q.
    Then (Blanks text) (λ _. Then (Lifted Text (End text)) (λ _. Give (Ok q))))))

-- the whole text of one rule
abbrev pub Alone : List ℕ → ℕ → ℕ → Form Rule SheetFault
Alone text n room = Then (Lifted Text (Give (short text))) (λ _. AloneHere text n room)

-- The text says the rule q, or is refused for the fault e.
abbrev pub SaysRule : List ℕ → ℕ → ℕ → Rule → Type 0
SaysRule text n room q = (to : ℕ) × Alone text n room 0 (got q to)

abbrev pub RefusedRule : List ℕ → ℕ → ℕ → SheetFault → Type 0
RefusedRule text n room e = Alone text n room 0 (bad e)
