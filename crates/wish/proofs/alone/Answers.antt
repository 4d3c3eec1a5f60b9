use Rattle.std.proofs.Common.{refl, w32, SFits, rules}
use Rattle.std.proofs.lemmas.Int.{to_z-of_z}
use Rattle.text.proofs.Steps.{step_goes, step_stops, step_give, step_well, step_fault, err_is}
use Rattle.lines.proofs.Parts.{rule_at}
use Rattle.wish.proofs.alone.Goals as goal

pub returns-in_err-first : goal.returns-in_err-first
returns-in_err-first c =
    step_goes _ _ _ _ _ _ _ (step_well _ _ _ _ _ c.pass.ensures) (step_stops _ _ _ _ _ _ (step_fault _ _ _ _ _ c.in_err-first.ensures) (err_is _ _ c.from_residual.ensures.1))

pub returns-in_err-rule : goal.returns-in_err-rule
returns-in_err-rule c =
    let fits : SFits w32 c.in_ok-first.first = search rules in
    step_goes _ _ _ _ _ _ _ (step_well _ _ _ _ _ c.pass.ensures) (step_goes _ _ _ _ _ _ _ (step_well _ _ _ _ _ c.in_ok-first.ensures)
    (step_stops _ _ _ _ _ _ (rule_at _ _ _ _ _ _ _ (to_z-of_z w32 _ fits) c.in_err-rule.ensures.reads) (err_is _ _ c.from_residual-in_err-rule.ensures.1)))

pub returns-in_err-at_end : goal.returns-in_err-at_end
returns-in_err-at_end c =
    let fits : SFits w32 c.in_ok-first.first = search rules in
    step_goes _ _ _ _ _ _ _ (step_well _ _ _ _ _ c.pass.ensures) (step_goes _ _ _ _ _ _ _ (step_well _ _ _ _ _ c.in_ok-first.ensures)
    (step_goes _ _ _ _ _ _ _ (rule_at _ _ _ _ _ _ _ (to_z-of_z w32 _ fits) c.in_ok-rule.ensures.reads)
    (step_goes _ _ _ _ _ _ _ (step_well _ _ _ _ _ c.pass-2.ensures) (step_stops _ _ _ _ _ _ (step_fault _ _ _ _ _ c.in_err-at_end.ensures) (err_is _ _ c.from_residual-in_err-at_end.ensures.1)))))

pub returns : goal.returns
returns c =
    let fits : SFits w32 c.in_ok-first.first = search rules in
    step_goes _ _ _ _ _ _ _ (step_well _ _ _ _ _ c.pass.ensures) (step_goes _ _ _ _ _ _ _ (step_well _ _ _ _ _ c.in_ok-first.ensures)
    (step_goes _ _ _ _ _ _ _ (rule_at _ _ _ _ _ _ _ (to_z-of_z w32 _ fits) c.in_ok-rule.ensures.reads)
    (step_goes _ _ _ _ _ _ _ (step_well _ _ _ _ _ c.pass-2.ensures) (step_goes _ _ _ _ _ _ _ (step_well _ _ _ _ _ c.in_ok-at_end.ensures) (step_give _ _ _ refl)))))
