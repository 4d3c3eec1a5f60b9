use Rattle.std.proofs.Common.{rules, ◌≤◌, length, take, arith, ◌∙◌}
use Rattle.std.specs.List.{zip}
use Rattle.std.proofs.lemmas.Iterator.{YieldsList-from_slice, YieldsList-from_map, YieldsList-from_take, YieldsList-from_zip}
use Rattle.std.proofs.lemmas.Iterator.Adapters.{fits_from_length, at_most_from_yields_List}
use Rattle.std.proofs.lemmas.Iterator.Consumers.{sum_from_yields_List}
use Rattle.rules.proofs.Taken.{gives, taken_length, gives_open}
use Rattle.rules.proofs.reach.sum_left.Goals as goal

pub sum-requires-clause-fits : goal.sum-requires-clause-fits
sum-requires-clause-fits c =
    let few : length (take c.args.variables (zip c.args.coefficients.now c.args.marks.now)) ≤ 80 = omega (arith, taken_length c.args.coefficients.now c.args.marks.now c.args.variables (omega arith) (omega arith)) in
    fits_from_length _ _ 80 _
    (at_most_from_yields_List (YieldsList-from_take c.args.variables (YieldsList-from_zip (YieldsList-from_slice c.args.coefficients.now (cc)) (YieldsList-from_slice c.args.marks.now (cc))) (cc)) few)
    c.map.ensures.closure (omega arith) (λ x r q k. (search rules, omega (arith, k.met)))

pub returns : goal.returns
returns c =
    sum_from_yields_List c.map.result _ c.sum.ensures.ran
    (YieldsList-from_map _ gives (YieldsList-from_take c.args.variables (YieldsList-from_zip (YieldsList-from_slice c.args.coefficients.now (cc)) (YieldsList-from_slice c.args.marks.now (cc))) (cc)) c.map.ensures.closure (λ x r q k. search rules))
    ∙ gives_open c.args.coefficients.now c.args.marks.now c.args.variables (omega arith) (omega arith)
