use Rattle.std.proofs.Common.{◌-◌, List, [], length}
use Rattle.lines.specs.declared.line.Rule.{Rule}
use Rattle.lines.specs.Lines.{numbers}
use Rattle.text.proofs.Steps.{Going}
use Rattle.opb.specs.Sheets.{NextRule, unended}
use Rattle.sheet.proofs.Turns.{SoFar}
use Rattle.sheet.proofs.rules.Given as goal

abbrev pub invariant-loop-reader : goal.invariant-loop-reader
invariant-loop-reader l = (qs : List Rule) × Going unended (λ t. NextRule t (numbers l.header)) l.initial.reader [] l.reader qs × SoFar l.initial.table l.table l.progress.rows l.progress.rules qs

abbrev pub decreases-loop-reader : goal.decreases-loop-reader
decreases-loop-reader l = length l.initial.reader.text.now - l.reader.at
