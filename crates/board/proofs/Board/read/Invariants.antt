use Rattle.std.proofs.Common.{map, take, string_bytes}
use Rattle.board.specs.Board.{bare, Marks}
use Rattle.board.proofs.Board.read.Given as goal

-- the words so far have made the board's marks
abbrev pub invariant-loop-index : goal.invariant-loop-index
invariant-loop-index l = Marks l.sheet.words.now (take l.index-counter (map string_bytes l.words)) bare l.board.marks
