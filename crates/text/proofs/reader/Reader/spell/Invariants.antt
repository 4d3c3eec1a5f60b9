use Rattle.text.proofs.Spelling.{Spelling}
use Rattle.text.proofs.reader.Reader.spell.Given as goal

abbrev pub invariant-loop-b : goal.invariant-loop-b
invariant-loop-b l = Spelling l.start l.spelling l.initial.self l.b-index l.self
