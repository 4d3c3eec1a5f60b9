use Rattle.std.specs.Fmt.{HasWritten, IsPlainFormatter}
use Rattle.board.specs.Board.{choice}
use Rattle.notation.specs.Text.{literals_text}
use Rattle.notation.proofs.shown.LiteralsDisplay.fmt.Given as goal

abbrev pub invariant-loop-part : goal.invariant-loop-part
invariant-loop-part g l = IsPlainFormatter l.initial.f → HasWritten g.W.Write.write_str_gives l.initial.f (literals_text (choice l.self.board.marks) l.part) l.f
