-- Which layer, number and place each fault stands for.
use Rattle.std.specs.Prelude.{ℕ}
use Rattle.faults.specs.declared.fault.TextFault.{TextFault}
use Rattle.faults.specs.declared.fault.TextFault.TheVariants.{TooLong, Misplaced, Beyond, Cut}
use Rattle.faults.specs.declared.fault.SheetFault.{SheetFault}
use Rattle.faults.specs.declared.fault.SheetFault.TheVariants.{Text, Unknown, Repeated, Count, NoRoom}
use Rattle.faults.specs.declared.fault.RunFault.{RunFault}
use Rattle.faults.specs.declared.fault.RunFault.TheVariants.{Sheet, TableLength, Layout}
use Rattle.faults.specs.declared.fault.EngineFault.{EngineFault}
use Rattle.faults.specs.declared.fault.EngineFault.TheVariants.{Variables, Full, Term, Rule, NoQuestion}
use Rattle.faults.specs.declared.fault.Refusal.{Refusal}

abbrev told : ℕ → ℕ → ℕ → Refusal
told l n p = record { layer = l; number = n; place = p }

-- layer 1, the text
abbrev pub text_refusal : TextFault → Refusal
text_refusal TooLong = told 1 1 16384
text_refusal (Misplaced at) = told 1 2 at
text_refusal (Beyond at) = told 1 3 at
text_refusal (Cut at) = told 1 4 at

-- layer 2, the sheet; a text's fault is still the text's
abbrev pub sheet_refusal : SheetFault → Refusal
sheet_refusal (Text fault) = text_refusal fault
sheet_refusal (Unknown at) = told 2 5 at
sheet_refusal (Repeated at) = told 2 6 at
sheet_refusal (Count at) = told 2 7 at
sheet_refusal (NoRoom at) = told 2 8 at

-- layer 3, the run
abbrev pub run_refusal : RunFault → Refusal
run_refusal (Sheet fault) = sheet_refusal fault
run_refusal TableLength = told 3 11 2668
run_refusal (Layout word) = told 3 12 word

-- layer 4, holders of rules and engines
abbrev pub engine_refusal : EngineFault → Refusal
engine_refusal (Variables total) = told 4 13 total
engine_refusal (Full room) = told 4 14 room
engine_refusal (Term index) = told 4 15 index
engine_refusal (Rule index) = told 4 16 index
engine_refusal NoQuestion = told 4 17 0
