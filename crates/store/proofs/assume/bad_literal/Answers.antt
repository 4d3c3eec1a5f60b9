use Rattle.std.proofs.Common.{rules, tests}
use Rattle.std.proofs.lemmas.Iterator.{first_from_Range}
use Rattle.rules.specs.declared.term.Literal.{Literal}
use Rattle.store.specs.Stands.{StandsAlone}
use Rattle.store.proofs.Standing.{first_bad, first_bad_literal}
use Rattle.store.proofs.assume.bad_literal.Goals as goal

pub returns : goal.returns
returns c =
    let P : _ → Type 0 = StandsAlone (λ (l : Literal). l.variable) c.args.variables c.args.literals.now in
    first_bad_literal c.args.variables c.args.literals.now _ c.find.result
    (first_bad P _ c.find.result
    (first_from_Range _ _ _ _ (λ i. P i → ⊥) P c.find.ensures.ran (λ x q k. search (rules, tests)) (λ x q k. search (rules, tests))))
