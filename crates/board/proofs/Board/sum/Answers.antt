use Rattle.std.proofs.Common.{arith, rules, ◌∙◌}
use Rattle.std.proofs.lemmas.Iterator.{YieldsList-from_slice, YieldsList-from_map, YieldsList-from_zip}
use Rattle.std.proofs.lemmas.Iterator.Consumers.{sum_from_yields_List, fits_from_yields_list}
use Rattle.board.proofs.Sums.{gives, gives_open, gives_bound}
use Rattle.board.proofs.Board.sum.Goals as goal

pub sum-requires-clause-fits : goal.sum-requires-clause-fits
sum-requires-clause-fits c =
    fits_from_yields_list c.map.result _
    (YieldsList-from_map _ gives (YieldsList-from_zip (YieldsList-from_slice c.args.self.now.marks (cc)) (YieldsList-from_slice c.args.coefficients.now (cc))) c.map.ensures.closure (λ x r q k. search rules))
    (omega (arith, gives_bound c.args.self.now.marks c.args.coefficients.now (omega arith) c.requires.long c.requires.small))

pub returns : goal.returns
returns c =
    sum_from_yields_List c.map.result _ c.sum.ensures.ran
    (YieldsList-from_map _ gives (YieldsList-from_zip (YieldsList-from_slice c.args.self.now.marks (cc)) (YieldsList-from_slice c.args.coefficients.now (cc))) c.map.ensures.closure (λ x r q k. search rules))
    ∙ gives_open c.args.self.now.marks c.args.coefficients.now (omega arith) c.requires.long
