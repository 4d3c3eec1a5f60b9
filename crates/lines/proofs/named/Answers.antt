use Rattle.std.proofs.Common.{refl, w32, SFits}
use Rattle.text.proofs.Steps.{step_goes, step_stops, step_from, step_give, step_well, told_err}
use Rattle.std.proofs.lemmas.Int.{to_z-of_z}
use Rattle.lines.proofs.Parts.{placed_at}
use Rattle.lines.proofs.named.Goals as goal

pub returns-in_err-part : goal.returns-in_err-part
returns-in_err-part c =
    step_goes _ _ _ _ _ _ _ (step_well _ _ _ _ _ c.pass.ensures)
    (step_stops _ _ _ _ _ _ (step_from _ _ _ _ (step_stops _ _ _ _ _ _ c.in_err-part.ensures.reads refl)) (told_err _ _ _ c.from_residual.ensures.1))

pub returns-in_err-place : goal.returns-in_err-place
returns-in_err-place c =
    let fits : SFits w32 c.args.coefficient = c.ranges.coefficient in
    let given = placed_at c.args.sum.now c.pass.new.self.at c.in_ok-part.part _ _ _ (to_z-of_z w32 _ fits) c.in_err-place.ensures in
    step_goes _ _ _ _ _ _ _ (step_well _ _ _ _ _ c.pass.ensures)
    (step_stops _ _ _ _ _ _ (step_from _ _ _ _ (step_goes _ _ _ _ _ _ _ c.in_ok-part.ensures.reads (step_give _ _ _ given)))
    (told_err _ _ _ c.from_residual-in_err-place.ensures.1))

pub returns : goal.returns
returns c =
    let fits : SFits w32 c.args.coefficient = c.ranges.coefficient in
    let given = placed_at c.args.sum.now c.pass.new.self.at c.in_ok-part.part _ _ _ (to_z-of_z w32 _ fits) c.in_ok-place.ensures in
    step_goes _ _ _ _ _ _ _ (step_well _ _ _ _ _ c.pass.ensures)
    (step_goes _ _ _ _ _ _ _ (step_from _ _ _ _ (step_goes _ _ _ _ _ _ _ c.in_ok-part.ensures.reads (step_give _ _ _ given)))
    (step_goes _ _ _ _ _ _ _ (step_well _ _ _ _ _ c.pass-2.ensures) (step_give _ _ _ refl)))
