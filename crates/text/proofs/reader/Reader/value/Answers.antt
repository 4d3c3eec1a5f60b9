use Rattle.std.proofs.Common.{ℕ, ap, ◌∙◌}
use Rattle.text.specs.Tokens.{limited}
use Rattle.text.specs.Reading.{written}
use Rattle.text.proofs.Said.{said}
use Rattle.text.proofs.Steps.{step_goes, step_stops, step_from, step_give, err_is}
use Rattle.text.proofs.reader.Reader.value.Goals as goal

pub returns-in_err-number : goal.returns-in_err-number
returns-in_err-number c = step_from _ _ _ _ (step_stops _ _ _ _ _ _ c.in_err-number.ensures.reads (err_is _ _ c.from_residual.ensures.1))

pub returns : goal.returns
returns c =
    let e = said c.args.limit c.in_ok-number.field-0 c.in_ok-number.ensures.kind in
    let at = ap (λ (i : ℕ). limited c.args.limit i (written c.in_ok-number.field-0)) c.in_ok-number.ensures.covers.0 in
    step_from _ _ _ _ (step_goes _ _ _ _ _ _ _ c.in_ok-number.ensures.reads (step_give _ _ _ (c.value.ensures ∙ e ∙ at)))
