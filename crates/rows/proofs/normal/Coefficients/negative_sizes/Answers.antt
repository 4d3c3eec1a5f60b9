use Rattle.std.proofs.Common.{◌≡◌, length, ◌∙◌, arith, rules}
use Rattle.std.proofs.lemmas.Iterator.{YieldsList-from_slice, YieldsList-from_map}
use Rattle.std.proofs.lemmas.Iterator.Consumers.{sum_from_yields_List, fits_from_yields_list}
use Rattle.rows.specs.Rows.{below}
use Rattle.rows.proofs.Words.{sum_below, negatives_small}
use Rattle.rows.proofs.normal.Coefficients.negative_sizes.Goals as goal

pub sum-requires-clause-fits : goal.sum-requires-clause-fits
sum-requires-clause-fits c =
    let forty : length c.args.self.now.words ≡ 40 = search rules in
    fits_from_yields_list c.map.result _ (YieldsList-from_map _ below (YieldsList-from_slice c.args.self.now.words (cc)) c.map.ensures.closure (λ x r q k. search rules))
    (omega (arith, sum_below c.args.self.now.words, negatives_small c.args.self.now.words 1000000 c.args.self.now.narrow))

pub returns : goal.returns
returns c =
    let forty : length c.args.self.now.words ≡ 40 = search rules in
    let e = sum_from_yields_List c.map.result _ c.sum.ensures.ran (YieldsList-from_map _ below (YieldsList-from_slice c.args.self.now.words (cc)) c.map.ensures.closure (λ x r q k. search rules)) ∙ sum_below c.args.self.now.words in
    record { value = e; bound = omega (arith, negatives_small c.args.self.now.words 1000000 c.args.self.now.narrow) }
