-- What reading one rule against a sheet comes to.
use Rattle.std.specs.Prelude.{◌≡◌, ℕ, ◌-◌, List, length, ℤ, Ok, Err, Result, ◌≢◌}
use Rattle.faults.specs.declared.fault.RunFault.{RunFault}
use Rattle.faults.specs.declared.fault.RunFault.TheVariants.{Sheet, TableLength, Layout}
use Rattle.faults.specs.declared.fault.SheetFault.{SheetFault}
use Rattle.lines.specs.declared.line.Rule.{Rule}
use Rattle.opb.specs.Language.{LanguageRule}
use Rattle.opb.specs.Sheets.{SaysRule, RefusedRule}
use Rattle.table.specs.Layout.{Sound, FirstBad, parts_of, rules_of}

-- one rule alone was read
abbrev pub AloneRead : List ℕ → ℕ → ℕ → Result Rule SheetFault → Type 0
AloneRead text n room (Ok q) = SaysRule text n room q
AloneRead text n room (Err e) = RefusedRule text n room e

-- how many rows the sheet in the table T has left
abbrev pub room_in : List ℤ → ℕ
room_in T = 64 - rules_of T

-- What a call came to that read `text` against the sheet in the table T: first the table is judged, then the text.
abbrev pub Came : List ℕ → List ℤ → Result Rule RunFault → Type 0
Came text T (Ok q) = Sound T × LanguageRule text (parts_of T) (room_in T) q
Came text T (Err (Sheet e)) = Sound T × RefusedRule text (parts_of T) (room_in T) e
Came text T (Err TableLength) = length T ≡ 2668 → ⊥
Came text T (Err (Layout w)) = FirstBad T w

-- Reading a rule is exact: the answer is fixed by the table and by the text.
pub record Reading (text : List ℕ) (T : List ℤ) (r : Result Rule RunFault) : Type 0 where
  pub came : Came text T r
  pub read : Sound T → (q : Rule) → LanguageRule text (parts_of T) (room_in T) q → r ≡ Ok q
  pub refuse : Sound T → (e : SheetFault) → RefusedRule text (parts_of T) (room_in T) e → r ≡ Err (Sheet e)
  pub unfit : (length T ≢ 2668) → r ≡ Err TableLength
  pub broken : (w : ℕ) → FirstBad T w → r ≡ Err (Layout w)
