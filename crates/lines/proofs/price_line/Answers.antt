use Rattle.std.proofs.Common.{refl, w32, SFits, rules}
use Rattle.text.proofs.Steps.{step_goes, step_stops, step_give, step_well, step_fault, err_is}
use Rattle.std.proofs.lemmas.Int.{to_z-of_z}
use Rattle.lines.specs.declared.line.Line.TheVariants as line
use Rattle.lines.proofs.Parts.{terms_at}
use Rattle.lines.proofs.price_line.Goals as goal

pub returns-in_err-first : goal.returns-in_err-first
returns-in_err-first c = step_stops _ _ _ _ _ _ (step_fault _ _ _ _ _ c.in_err-first.ensures) (err_is _ _ c.from_residual.ensures.1)

pub returns-in_err-sum : goal.returns-in_err-sum
returns-in_err-sum c =
    let fits : SFits w32 c.in_ok-first.first = search rules in
    let sum = terms_at _ line.Price _ _ _ _ _ (to_z-of_z w32 _ fits) c.in_err-sum.ensures in
    step_goes _ _ _ _ _ _ _ (step_well _ _ _ _ _ c.in_ok-first.ensures) (step_stops _ _ _ _ _ _ sum (err_is _ _ c.from_residual-in_err-sum.ensures.1))

pub returns-in_err-sign : goal.returns-in_err-sign
returns-in_err-sign c =
    let fits : SFits w32 c.in_ok-first.first = search rules in
    let sum = terms_at _ line.Price _ _ _ _ _ (to_z-of_z w32 _ fits) c.in_ok-sum.ensures in
    step_goes _ _ _ _ _ _ _ (step_well _ _ _ _ _ c.in_ok-first.ensures) (step_goes _ _ _ _ _ _ _ sum
    (step_stops _ _ _ _ _ _ (step_fault _ _ _ _ _ c.in_err-sign.ensures.reads) (err_is _ _ c.from_residual-in_err-sign.ensures.1)))

pub returns : goal.returns
returns c =
    let fits : SFits w32 c.in_ok-first.first = search rules in
    let sum = terms_at _ line.Price _ _ _ _ _ (to_z-of_z w32 _ fits) c.in_ok-sum.ensures in
    step_goes _ _ _ _ _ _ _ (step_well _ _ _ _ _ c.in_ok-first.ensures) (step_goes _ _ _ _ _ _ _ sum
    (step_goes _ _ _ _ _ _ _ (step_well _ _ _ _ _ c.in_ok-sign.ensures.reads) (step_give _ _ _ refl)))
