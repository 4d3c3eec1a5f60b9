use Rattle.std.proofs.Common.{◌∙◌, pos, arith, rules}
use Rattle.std.proofs.lemmas.Iterator.{YieldsList-from_slice, YieldsList-from_map}
use Rattle.std.proofs.lemmas.Iterator.Adapters.{fits_from_length, at_most_from_yields_List}
use Rattle.std.proofs.lemmas.Iterator.Consumers.{sum_from_yields_List}
use Rattle.rules.specs.Rule.{at, size}
use Rattle.rules.proofs.Sum.{total_bound}
use Rattle.rules.proofs.Summed.{summed}
use Rattle.cores.proofs.core_of.sum_of.Goals as goal

pub sum-requires-clause-fits : goal.sum-requires-clause-fits
sum-requires-clause-fits c =
    fits_from_length _ _ 80 _ (at_most_from_yields_List (YieldsList-from_slice c.args.coefficients.now (cc)) (omega arith)) c.map.ensures.closure (omega arith)
    (λ x r q k. (search rules, omega (arith, k.met)))

pub returns-clause-value : goal.returns-clause-value
returns-clause-value c =
    sum_from_yields_List c.map.result _ c.sum.ensures.ran (YieldsList-from_map _ size (YieldsList-from_slice c.args.coefficients.now (cc)) c.map.ensures.closure (λ x r q k. search rules))
    ∙ summed size (λ i. size (at c.args.coefficients.now i)) c.args.coefficients.now (pos 0) 80 (omega arith) (λ i l. search rules)

pub returns-clause-bound : goal.returns-clause-bound
returns-clause-bound c =
    let a = at c.args.coefficients.now in
    omega (arith, returns-clause-value c, total_bound 80 2147483648 (λ i. size (a i)) (λ i l. search rules))
