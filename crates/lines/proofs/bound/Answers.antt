use Rattle.std.proofs.Common.{Ok, ap, w32, SFits, rules}
use Rattle.text.proofs.Steps.{step_goes, step_stops, step_give, err_is}
use Rattle.std.proofs.lemmas.Int.{to_z-of_z}
use Rattle.lines.proofs.bound.Goals as goal

pub returns-in_err-bound : goal.returns-in_err-bound
returns-in_err-bound c =
    step_goes _ _ _ _ _ _ _ c.pass.ensures (step_stops _ _ _ _ _ _ c.in_err-bound.ensures (err_is _ _ c.from_residual.ensures.1))

pub returns-in_err-sign : goal.returns-in_err-sign
returns-in_err-sign c =
    step_goes _ _ _ _ _ _ _ c.pass.ensures (step_goes _ _ _ _ _ _ _ c.in_ok-bound.ensures
    (step_goes _ _ _ _ _ _ _ c.pass-2.ensures (step_stops _ _ _ _ _ _ c.in_err-sign.ensures.reads (err_is _ _ c.from_residual-in_err-sign.ensures.1))))

pub returns : goal.returns
returns c =
    let fits : SFits w32 c.in_ok-bound.bound = search rules in
    step_goes _ _ _ _ _ _ _ c.pass.ensures (step_goes _ _ _ _ _ _ _ c.in_ok-bound.ensures
    (step_goes _ _ _ _ _ _ _ c.pass-2.ensures (step_goes _ _ _ _ _ _ _ c.in_ok-sign.ensures.reads (step_give _ _ _ (ap Ok (to_z-of_z w32 _ fits))))))
