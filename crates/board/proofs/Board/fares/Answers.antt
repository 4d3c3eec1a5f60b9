use Rattle.std.proofs.Common.{ℕ, ap₂, ◌∙◌}
use Rattle.board.specs.Board.{choice}
use Rattle.table.specs.Layout.{coefficient}
use Rattle.board.proofs.Sums.{open_same}
use Rattle.board.proofs.Board.fares.Goals as goal

pub returns : goal.returns
returns c =
    let row = c.args.row.now in
    ap₂ (λ (r n : ℕ). record { reached = r; needed = n })
    (c.sum.ensures ∙ open_same c.coefficients.result.now (coefficient row.sheet.words.now row.number) (choice c.args.self.now.marks) c.coefficients.ensures.each)
    c.degree.ensures.value
