use Rattle.std.proofs.Common.{sym, refl}
use Rattle.text.proofs.Steps.{step_goes, step_stops, step_give, step_well, step_taken, err_is}
use Rattle.sheet.proofs.price.Goals as goal

pub returns-in_err-sum : goal.returns-in_err-sum
returns-in_err-sum c =
    step_taken _ _ _ _ _ _ (sym c.if-not-stands_at.ensures) (step_stops _ _ _ _ _ _ c.in_err-sum.ensures (err_is _ _ c.from_residual.ensures.1))

pub returns : goal.returns
returns c =
    step_taken _ _ _ _ _ _ (sym c.if-not-stands_at.ensures)
    (step_goes _ _ _ _ _ _ _ c.in_ok-sum.ensures (step_goes _ _ _ _ _ _ _ (step_well _ _ _ _ _ c.gap.ensures) (step_give _ _ _ refl)))
