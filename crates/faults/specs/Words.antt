-- What each fault says in words.
use Rattle.std.specs.Prelude.{ℕ, List, ◌++◌, codes, decimal}
use Rattle.faults.specs.declared.fault.TextFault.{TextFault}
use Rattle.faults.specs.declared.fault.TextFault.TheVariants.{TooLong, Misplaced, Beyond, Cut}
use Rattle.faults.specs.declared.fault.SheetFault.{SheetFault}
use Rattle.faults.specs.declared.fault.SheetFault.TheVariants.{Text, Unknown, Repeated, Count, NoRoom}
use Rattle.faults.specs.declared.fault.RunFault.{RunFault}
use Rattle.faults.specs.declared.fault.RunFault.TheVariants.{Sheet, TableLength, Layout}
use Rattle.faults.specs.declared.fault.EngineFault.{EngineFault}
use Rattle.faults.specs.declared.fault.EngineFault.TheVariants.{Variables, Full, Term, Rule, NoQuestion}
use Rattle.faults.specs.declared.fault.Refusal.{Refusal}

abbrev pub text_words : TextFault → List ℕ
text_words TooLong = codes "the text has more than 16,384 bytes"
text_words (Misplaced at) = codes "this cannot stand here"
text_words (Beyond at) = codes "this number is beyond its limits"
text_words (Cut at) = codes "the text ends too early"

abbrev pub sheet_words : SheetFault → List ℕ
sheet_words (Text fault) = text_words fault
sheet_words (Unknown at) = codes "the sheet declares no such part"
sheet_words (Repeated at) = codes "this part is named before in the same sum"
sheet_words (Count at) = codes "the header line announces another number of rules"
sheet_words (NoRoom at) = codes "no row is left for this rule: a sheet has at most 64 rules, and `=` makes two"

abbrev pub run_words : RunFault → List ℕ
run_words (Sheet fault) = sheet_words fault
run_words TableLength = codes "the table does not have 2,668 words"
run_words (Layout word) = codes "this word of the table is not within its limits"

abbrev pub engine_words : EngineFault → List ℕ
engine_words (Variables total) = decimal total ++ codes " variables are not 1 to 80, or none would be added"
engine_words (Full room) = codes "no more rules than " ++ (decimal room ++ codes " can be held")
engine_words (Term index) = codes "the term or literal " ++ (decimal index ++ codes ", or the degree, is out of range or repeats a variable")
engine_words (Rule index) = codes "there is no rule " ++ (decimal index ++ codes ", or its degree cannot become that")
engine_words NoQuestion = codes "no question is open"

-- a refusal's layer, number and place, with a blank between each two
abbrev pub three_numbers : Refusal → List ℕ
three_numbers r = decimal r.layer ++ (codes " " ++ (decimal r.number ++ (codes " " ++ decimal r.place)))
