use Rattle.std.proofs.Common.{ℕ, List, ℤ, ◌++◌, sym, ap, ap₂, ◌∙◌, rules}
use Rattle.std.proofs.Output.{has_written_append, has_written_of_eq}
use Rattle.board.specs.Board.{choice}
use Rattle.statement.specs.Statement.{fare_text, row_text, rows_text}
use Rattle.statement.proofs.More.{rows_more}
use Rattle.statement.proofs.lines.RowsDisplay.fmt.Goals as goal

pub loop-rule-preserved : goal.loop-rule-preserved
loop-rule-preserved g c =
    let T = c.args.self.now.0.sheet.words.now in
    let x = choice c.args.self.now.0.board.marks in
    let k = c.loop-rule.rule in
    let row = c.row-row.result in
    λ p. has_written_of_eq _ _ _ _ _
    (ap (λ (bs : List ℕ). rows_text T x k ++ bs)
    (ap (fare_text row.sheet.words.now row.number) c.fares-judgement.ensures ∙ ap₂ (λ (S : List ℤ) (n : ℕ). row_text S x n) c.row-row.ensures.0 c.row-row.ensures.1)
    ∙ sym (rows_more T x k))
    (has_written_append _ _ _ _ _ _ (c.loop-rule.invariant p) (search rules))
