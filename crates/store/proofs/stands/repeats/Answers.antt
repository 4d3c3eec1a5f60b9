use Rattle.std.proofs.Common.{◌≡◌, take, ap, ◌∙◌, sym, rules, tests}
use Rattle.std.proofs.lemmas.Iterator.{YieldsList-from_slice, cases_from_any}
use Rattle.std.proofs.lemmas.List.{get_or-map}
use Rattle.store.proofs.Standing.{decided}
use Rattle.store.proofs.stands.repeats.Goals as goal

pub returns : goal.returns
returns g c =
    let f = g.T.OnVariable.variable in
    let xs = c.args.items.now in
    let d = c.index-items-i.result in
    let v = c.variable-variable.result in
    decided f xs c.args.i d c.requires v c.any.result
    (c.variable-variable.ensures ∙ (ap f c.index-items-i.is ∙ sym (get_or-map f xs c.args.i d 0 c.requires)))
    (cases_from_any _ _ _ (λ x. f x ≡ v) (λ x. f x ≡ v → ⊥) c.any.ensures.ran (YieldsList-from_slice (take c.args.i xs) c.iter.ensures.rest) (λ x q k. search (rules, tests)) (λ x q k. search (rules, tests)))
