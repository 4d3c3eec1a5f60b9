use Rattle.std.proofs.Common.{w32, SFits, rules}
use Rattle.text.proofs.Steps.{step_goes, step_stops, step_well, step_fault, told_err}
use Rattle.std.proofs.lemmas.Int.{to_z-of_z}
use Rattle.lines.proofs.Parts.{limited_at, named_at}
use Rattle.lines.proofs.term.Goals as goal

pub returns-in_err-coefficient : goal.returns-in_err-coefficient
returns-in_err-coefficient c =
    step_stops _ _ _ _ _ _ (step_fault _ _ _ _ _ (limited_at _ _ _ _ _ c.limit-limit.ensures c.in_err-coefficient.ensures)) (told_err _ _ _ c.from_residual.ensures.1)

pub returns : goal.returns
returns c =
    let fits : SFits w32 c.in_ok-coefficient.coefficient = search rules in
    let rest = named_at _ _ _ _ _ _ _ (to_z-of_z w32 _ fits) c.named.ensures in
    step_goes _ _ _ _ _ _ _ (step_well _ _ _ _ _ (limited_at _ _ _ _ _ c.limit-limit.ensures c.in_ok-coefficient.ensures)) rest
