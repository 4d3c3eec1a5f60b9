use Rattle.std.proofs.Common.{rules, length, Some, None, ap, ◌∙◌, subst, arith}
use Rattle.std.proofs.lemmas.Iterator.{first_from_Range}
use Rattle.table.specs.Layout.{Fine, Sound, FirstBad}
use Rattle.table.proofs.check.Goals as goal

pub returns-in-Some : goal.returns-in-Some
returns-in-Some c =
    let T = c.in-Ok.table.now in
    let found = first_from_Range _ _ _ (Some c.in-Some.word) (λ w. Fine T w → ⊥) (Fine T) c.in-Some.ensures.ran (λ w q k. search (rules, k.called.met)) (λ w q k. (search rules, search (rules, k.called.met))) in
    subst (λ U. FirstBad U c.in-Some.word) c.in-Ok.ensures.1.same
    (record { whole = ap length c.in-Ok.ensures.1.same ∙ c.in-Ok.ensures.1.long; within = found.1; before = λ v l. found.3 v (omega arith) l; bad = found.2 })

pub returns-in-None : goal.returns-in-None
returns-in-None c =
    let T = c.in-Ok.table.now in
    let none = first_from_Range _ _ _ None (λ w. Fine T w → ⊥) (Fine T) c.in-None.ensures.ran (λ w q k. search (rules, k.called.met)) (λ w q k. (search rules, search (rules, k.called.met))) in
    subst Sound c.in-Ok.ensures.1.same (record { whole = ap length c.in-Ok.ensures.1.same ∙ c.in-Ok.ensures.1.long; fine = λ w l. none w (omega arith) l })
