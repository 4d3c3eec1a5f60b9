use Rattle.std.proofs.Common.{subst, rules, tests}
use Rattle.std.proofs.lemmas.Iterator.{first_from_Range}
use Rattle.rules.specs.Rule.{marked}
use Rattle.engine.specs.Held.{FirstBroken, BreaksRule}
use Rattle.table.specs.Layout.{parts_of}
use Rattle.ledger.specs.View.{held_by, rule_at}
use Rattle.ledger.specs.Reading.{first_found}
use Rattle.ledger.proofs.holder.SheetRuleHolder.first_broken.Goals as goal

pub returns : goal.returns
returns c =
    let T = c.checked-table.result.words.now in
    let m = marked c.args.marks.now in
    subst (λ X. FirstBroken (held_by X) c.args.marks.now c.find.result) c.checked-table.ensures
    (first_found T c.rules.result c.args.marks.now c.find.result c.rules.ensures.value
    (first_from_Range _ _ _ _ (λ k. BreaksRule (parts_of T) (rule_at T k) m) (λ k. BreaksRule (parts_of T) (rule_at T k) m → ⊥) c.find.ensures.ran (λ x q k. search (rules, tests)) (λ x q k. search (rules, tests))))
