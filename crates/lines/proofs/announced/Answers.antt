use Rattle.text.proofs.Steps.{step_goes, step_stops, err_is}
use Rattle.lines.proofs.announced.Goals as goal

pub returns-in_err-sign : goal.returns-in_err-sign
returns-in_err-sign c = step_stops _ _ _ _ _ _ c.in_err-sign.ensures.reads (err_is _ _ c.from_residual.ensures.1)

pub returns : goal.returns
returns c = step_goes _ _ _ _ _ _ _ c.in_ok-sign.ensures.reads (step_goes _ _ _ _ _ _ _ c.pass.ensures c.value.ensures)
