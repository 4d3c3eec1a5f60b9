use Rattle.std.proofs.Common.{pos, nat_abs, length, take, drop, ap, ◌≡◌, ◌+◌, ◌∙◌, arith, rules, length-drop}
use Rattle.std.proofs.lemmas.Iterator.{YieldsList-from_slice, YieldsList-from_map}
use Rattle.std.proofs.lemmas.Iterator.Adapters.{fits_from_length, at_most_from_yields_List}
use Rattle.std.proofs.lemmas.Iterator.Consumers.{sum_from_yields_List}
use Rattle.std.proofs.lemmas.List.{get_or-take, get_or-drop, length-take-le}
use Rattle.rules.proofs.Summed.{summed}
use Rattle.try_texts.specs.Outcomes.{word}
use Rattle.try_texts.proofs.outcome.sizes.Goals as goal

pub sum-requires-clause-fits : goal.sum-requires-clause-fits
sum-requires-clause-fits c =
    let T = c.args.table.now in
    let long : length (take 40 (drop 4 T)) ≡ 40 = length-take-le 40 (drop 4 T) (omega (arith, length-drop 4 T)) in
    fits_from_length _ _ 40 _ (at_most_from_yields_List (YieldsList-from_slice (take 40 (drop 4 c.args.table.now)) (cc)) (omega arith)) c.map.ensures.closure (omega arith)
    (λ x r q k. (search rules, omega (arith, k.met)))

pub returns : goal.returns
returns c =
    let T = c.args.table.now in
    let long : length (take 40 (drop 4 T)) ≡ 40 = length-take-le 40 (drop 4 T) (omega (arith, length-drop 4 T)) in
    sum_from_yields_List c.map.result _ c.sum.ensures.ran
    (YieldsList-from_map _ nat_abs (YieldsList-from_slice (take 40 (drop 4 c.args.table.now)) (cc)) c.map.ensures.closure (λ x r q k. search rules))
    ∙ summed nat_abs (λ i. nat_abs (word T (4 + i))) (take 40 (drop 4 T)) (pos 0) 40 long
    (λ i l. ap nat_abs (get_or-take 40 (drop 4 T) i (pos 0) l ∙ get_or-drop 4 T i (pos 0)))
