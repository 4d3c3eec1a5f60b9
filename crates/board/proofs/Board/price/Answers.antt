use Rattle.std.proofs.Common.{arith, w32, FitsSigned, rules}
use Rattle.std.proofs.lemmas.Int.{ints}
use Rattle.board.specs.Board.{choice}
use Rattle.table.specs.Layout.{weight}
use Rattle.board.proofs.Sums.{open_same}
use Rattle.board.proofs.Board.price.Goals as goal

pub returns : goal.returns
returns c =
    let fit : FitsSigned w32 c.base.result = search rules in
    let sum = open_same c.weights.result.now (weight c.args.sheet.now.words.now) (choice c.args.self.now.marks) c.weights.ensures.each in
    omega (arith, ints)
