use Rattle.std.proofs.Common.{arith, rules}
use Rattle.text.proofs.Steps.{step_goes, step_stops, step_give, seen_err}
use Rattle.text.specs.declared.reader.Limit.TheVariants.{Parts, Rules}
use Rattle.text.specs.declared.reader.Sign.TheVariants.{Variables, Constraints}
use Rattle.lines.proofs.Parts.{announced_within, size_read, parts_size, rules_size}
use Rattle.lines.proofs.header.Goals as goal

pub returns-in_err-parts : goal.returns-in_err-parts
returns-in_err-parts c = step_stops _ _ _ _ _ _ c.in_err-parts.ensures (seen_err _ _ _ c.from_residual.ensures.1)

pub returns-in_err-rules : goal.returns-in_err-rules
returns-in_err-rules c = step_goes _ _ _ _ _ _ _ c.in_ok-parts.ensures (step_goes _ _ _ _ _ _ _ c.pass.ensures
    (step_stops _ _ _ _ _ _ c.in_err-rules.ensures (seen_err _ _ _ c.from_residual-in_err-rules.ensures.1)))

pub returns-in_err-line : goal.returns-in_err-line
returns-in_err-line c = step_goes _ _ _ _ _ _ _ c.in_ok-parts.ensures (step_goes _ _ _ _ _ _ _ c.pass.ensures
    (step_goes _ _ _ _ _ _ _ c.in_ok-rules.ensures (step_stops _ _ _ _ _ _ c.in_err-line.ensures (seen_err _ _ _ c.from_residual-in_err-line.ensures.1))))

pub invariant_of-result : goal.invariant_of-result
invariant_of-result c =
    let e = size_read c.in_ok-parts.parts _ (search rules) c.unsigned_abs.ensures.value in
    let n = parts_size c.in_ok-parts.parts (announced_within _ Variables Parts _ _ _ c.in_ok-parts.ensures.reads) in
    record { few = omega (arith, n.1) }

pub invariant_of-result-2 : goal.invariant_of-result-2
invariant_of-result-2 c =
    let e = size_read c.in_ok-parts.parts _ (search rules) c.unsigned_abs.ensures.value in
    let f = size_read c.in_ok-rules.rules _ (search rules) c.unsigned_abs-2.ensures.value in
    let n = parts_size c.in_ok-parts.parts (announced_within _ Variables Parts _ _ _ c.in_ok-parts.ensures.reads) in
    let m = rules_size c.in_ok-rules.rules (announced_within _ Constraints Rules _ _ _ c.in_ok-rules.ensures.reads) in
    record { some = omega (arith, n.0); few = omega (arith, m) }

pub returns : goal.returns
returns c =
    let e = size_read c.in_ok-parts.parts _ (search rules) c.unsigned_abs.ensures.value in
    let f = size_read c.in_ok-rules.rules _ (search rules) c.unsigned_abs-2.ensures.value in
    step_goes _ _ _ _ _ _ _ c.in_ok-parts.ensures (step_goes _ _ _ _ _ _ _ c.pass.ensures
    (step_goes _ _ _ _ _ _ _ c.in_ok-rules.ensures (step_goes _ _ _ _ _ _ _ c.in_ok-line.ensures (step_give _ _ _ (cc)))))
