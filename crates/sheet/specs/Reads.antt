-- What the calls that read a sheet have done.
use Rattle.lines.specs.Lines.{Numbers}
use Rattle.std.specs.Prelude.{◌≡◌, ℕ, ◌≤◌, List, [], length, replicate, ℤ, pos, Ok, Err, Result, ◌≢◌}
use Rattle.faults.specs.declared.fault.RunFault.{RunFault}
use Rattle.faults.specs.declared.fault.RunFault.TheVariants as run
use Rattle.faults.specs.declared.fault.SheetFault.{SheetFault}
use Rattle.text.specs.declared.reader.Reader.{Reader}
use Rattle.text.specs.Reading.{Step}
use Rattle.lines.specs.declared.line.Rule.{Rule}
use Rattle.rows.specs.Rows.{all_rows, table_with}
use Rattle.meaning.specs.Means.{Means}
use Rattle.table.specs.Layout.{Sound}
use Rattle.opb.specs.Language.{Language}
use Rattle.opb.specs.Sheets.{Written, Rules, Body, rows_of, Says, Refused, table_of}

-- the table T, which had no rows, has become U, which has the rows of these rules
abbrev pub Holds : List ℤ → List ℤ → List Rule → Type 0
Holds T U qs = (front : List ℤ) → length front ≡ 44 → T ≡ table_with front [] → U ≡ table_with front (all_rows qs)

-- rules were read into the table, and they take that many rows
pub record Filled (h : Numbers) (r s : Reader) (T U : List ℤ) (rows : ℕ) : Type 0 where
  pub rules : List Rule
  pub read : Step (λ t. Rules t h) r s (Ok rules)
  pub count : rows ≡ rows_of rules
  pub few : rows ≤ 64
  pub holds : Holds T U rules

abbrev pub RulesRead : Numbers → Reader → Reader → List ℤ → List ℤ → Result ℕ SheetFault → Type 0
RulesRead h r s T U (Ok rows) = Filled h r s T U rows
RulesRead h r s T U (Err e) = Step (λ t. Rules t h) r s (Err e)

-- a table of zeros
abbrev pub Zeros : List ℤ → Type 0
Zeros T = T ≡ replicate 2668 (pos 0)

-- what follows the header was read into a table of zeros
pub record Laid (h : Numbers) (r s : Reader) (U : List ℤ) : Type 0 where
  pub sheet : Written
  pub read : Step (λ t. Body t h) r s (Ok sheet)
  pub table : U ≡ table_of sheet

abbrev pub BodyRead : Numbers → Reader → Reader → List ℤ → Result (Unit {0}) SheetFault → Type 0
BodyRead h r s U (Ok _) = Laid h r s U
BodyRead h r s U (Err e) = Step (λ t. Body t h) r s (Err e)

-- a whole text was read into a table of zeros
pub record Said (text : List ℕ) (U : List ℤ) : Type 0 where
  pub sheet : Written
  pub says : Says text sheet
  pub table : U ≡ table_of sheet

abbrev pub TextRead : List ℕ → List ℤ → Result (Unit {0}) SheetFault → Type 0
TextRead text U (Ok _) = Said text U
TextRead text U (Err e) = Refused text e

-- and where it was refused the table was cleared
abbrev pub Settled : List ℕ → List ℤ → Result (Unit {0}) SheetFault → Type 0
Settled text U (Ok _) = Said text U
Settled text U (Err e) = Refused text e × Zeros U

-- the table U is that of a sheet which the text writes
pub record Held (text : List ℕ) (U : List ℤ) : Type 0 where
  pub sheet : Written
  pub written : Language text sheet
  pub table : U ≡ table_of sheet

-- What a call that read `text` into the table T has done: U is the table now, and r the answer.
abbrev pub Came : List ℕ → List ℤ → List ℤ → Result (Unit {0}) RunFault → Type 0
Came text T U (Ok _) = (length T ≡ 2668) × Held text U
Came text T U (Err (run.Sheet e)) = (length T ≡ 2668) × Refused text e × Zeros U
Came text T U (Err run.TableLength) = (length T ≢ 2668) × (U ≡ T)
Came text T U (Err (run.Layout w)) = ⊥

-- Reading is exact. Which answer comes and what the table then holds is fixed by the text: a text of the language gives
-- its sheet's table, and any other text its one fault and a table of zeros. The table means what the text says, and has the
-- layout of a table.
pub record Reading (text : List ℕ) (T U : List ℤ) (r : Result (Unit {0}) RunFault) : Type 0 where
  pub came : Came text T U r
  pub unfit : (length T ≢ 2668) → (r ≡ Err run.TableLength) × (U ≡ T)
  pub read : length T ≡ 2668 → (s : Written) → Language text s → (r ≡ Ok tt) × (U ≡ table_of s)
  pub refuse : length T ≡ 2668 → (e : SheetFault) → Refused text e → (r ≡ Err (run.Sheet e)) × Zeros U
  pub unique : (s t : Written) → Language text s → Language text t → s ≡ t
  pub means : (s : Written) → Language text s → Means s (table_of s)
  pub sound : (s : Written) → Language text s → Sound (table_of s)
