use Rattle.std.proofs.Common.{sym, ◌∙◌}
use Rattle.std.proofs.lemmas.Bool.{eqb-true, eq-eqb}
use Rattle.board.proofs.Counting.{meets_from_none, none_from_meets}
use Rattle.board.proofs.Board.meets.Goals as goal

pub returns : goal.returns
returns c = (
  λ e. meets_from_none _ _ (sym c.broken.ensures ∙ eqb-true c.broken.result 0 e),
  λ m. eq-eqb c.broken.result 0 (c.broken.ensures ∙ none_from_meets _ _ m),
)
