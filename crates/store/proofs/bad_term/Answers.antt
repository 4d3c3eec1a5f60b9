use Rattle.std.proofs.Common.{rules, tests}
use Rattle.std.proofs.lemmas.Iterator.{first_from_Range}
use Rattle.engine.specs.Held.{GoodTerm}
use Rattle.store.proofs.Standing.{first_bad}
use Rattle.store.proofs.bad_term.Goals as goal

pub returns : goal.returns
returns c =
    let ts = c.args.terms.now in
    first_bad (GoodTerm c.args.most c.args.variables ts) _ c.find.result
    (first_from_Range _ _ _ _ (λ i. GoodTerm c.args.most c.args.variables ts i → ⊥) (λ i. GoodTerm c.args.most c.args.variables ts i) c.find.ensures.ran (λ x q k. search (rules, tests)) (λ x q k. search (rules, tests)))
