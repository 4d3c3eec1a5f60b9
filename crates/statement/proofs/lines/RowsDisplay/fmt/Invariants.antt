use Rattle.std.specs.Fmt.{HasWritten, IsPlainFormatter}
use Rattle.board.specs.Board.{choice}
use Rattle.statement.specs.Statement.{rows_text}
use Rattle.statement.proofs.lines.RowsDisplay.fmt.Given as goal

abbrev pub invariant-loop-rule : goal.invariant-loop-rule
invariant-loop-rule g l = IsPlainFormatter l.initial.f → HasWritten g.W.Write.write_str_gives l.initial.f (rows_text l.sheet.words.now (choice l.board.marks) l.rule) l.f
