use Rattle.std.proofs.Common.{◌-◌, length}
use Rattle.text.proofs.Steps.{Going}
use Rattle.lines.specs.Lines.{Term, goes_on}
use Rattle.lines.proofs.terms.Given as goal

abbrev pub invariant-loop-parts : goal.invariant-loop-parts
invariant-loop-parts l = Going (λ t. goes_on t l.line) (λ t. Term t l.parts.number l.line) l.initial.reader l.initial.sum l.reader l.sum

abbrev pub decreases-loop-parts : goal.decreases-loop-parts
decreases-loop-parts l = length l.initial.reader.text.now - l.reader.at
