use Rattle.std.proofs.Common.{sym, refl}
use Rattle.text.proofs.Steps.{step_goes, step_stops, step_give, step_taken, step_left, err_is}
use Rattle.lines.proofs.compared.Goals as goal

pub returns-in_err-sign : goal.returns-in_err-sign
returns-in_err-sign c =
    step_taken _ _ _ _ _ _ (sym c.if-stands_at.ensures) (step_stops _ _ _ _ _ _ c.in_err-sign.ensures.reads (err_is _ _ c.from_residual.ensures.1))

pub returns-in_err-sign-2 : goal.returns-in_err-sign-2
returns-in_err-sign-2 c =
    step_left _ _ _ _ _ _ (sym c.if-stands_at.ensures) (step_stops _ _ _ _ _ _ c.in_err-sign-2.ensures.reads (err_is _ _ c.from_residual-in_err-sign-2.ensures.1))

pub returns-in_ok-sign : goal.returns-in_ok-sign
returns-in_ok-sign c =
    step_taken _ _ _ _ _ _ (sym c.if-stands_at.ensures) (step_goes _ _ _ _ _ _ _ c.in_ok-sign.ensures.reads (step_give _ _ _ refl))

pub returns-in_ok-sign-2 : goal.returns-in_ok-sign-2
returns-in_ok-sign-2 c =
    step_left _ _ _ _ _ _ (sym c.if-stands_at.ensures) (step_goes _ _ _ _ _ _ _ c.in_ok-sign-2.ensures.reads (step_give _ _ _ refl))
