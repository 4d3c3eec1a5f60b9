use Rattle.std.proofs.Common.{◌∙◌, arith, rules}
use Rattle.std.proofs.lemmas.Iterator.{YieldsList-from_slice, YieldsList-from_map, YieldsList-from_zip}
use Rattle.std.proofs.lemmas.Iterator.Adapters.{fits_from_length, at_most_from_yields_List}
use Rattle.std.proofs.lemmas.Iterator.Consumers.{sum_from_yields_List, YieldsList-from_filter}
use Rattle.counts.proofs.Outside.{outside, first_size, few_outside, outside_summed}
use Rattle.counts.proofs.count.sum_outside.Goals as goal

pub sum-requires-clause-fits : goal.sum-requires-clause-fits
sum-requires-clause-fits c =
    fits_from_length _ _ 80 _
    (at_most_from_yields_List (YieldsList-from_filter _ outside (YieldsList-from_zip (YieldsList-from_slice c.args.coefficients.now (cc)) (YieldsList-from_slice c.args.members.now (cc))) c.filter.ensures.closure (λ x r q k. search rules)) (few_outside c.args.coefficients.now c.args.members.now (omega arith) (omega arith)))
    c.map.ensures.closure (omega arith) (λ x r q k. (search rules, omega (arith, k.met)))

pub returns : goal.returns
returns c =
    sum_from_yields_List c.map.result _ c.sum.ensures.ran
    (YieldsList-from_map _ first_size (YieldsList-from_filter _ outside (YieldsList-from_zip (YieldsList-from_slice c.args.coefficients.now (cc)) (YieldsList-from_slice c.args.members.now (cc))) c.filter.ensures.closure (λ x r q k. search rules)) c.map.ensures.closure (λ x r q k. search rules))
    ∙ outside_summed c.args.coefficients.now c.args.members.now (omega arith) (omega arith)
