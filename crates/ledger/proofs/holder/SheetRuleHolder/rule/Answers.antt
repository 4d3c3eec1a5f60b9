use Rattle.std.proofs.Common.{◌<◌, sym, refl, ap, ◌∙◌, arith}
use Rattle.table.specs.Layout.{rules_of}
use Rattle.ledger.specs.View.{rule_at}
use Rattle.ledger.specs.Reading.{count_held, nth_held}
use Rattle.ledger.proofs.holder.SheetRuleHolder.rule.Goals as goal

pub returns-then-k-rules : goal.returns-then-k-rules
returns-then-k-rules c =
    let T = c.args.self.now.words in
    let same = ap rules_of c.checked-table.ensures in
    (omega (arith, count_held T, c.rules.ensures.value, c.if-k-rules.true), refl)

pub returns : goal.returns
returns c =
    let T = c.args.self.now.words in
    let k = c.args.k in
    let same = ap rules_of c.checked-table.ensures in
    let there : k < rules_of T = omega (arith, c.rules.ensures.value, c.if-k-rules.false) in
    let row = c.row.ensures in
    (omega (arith, count_held T), c.rule_at.ensures ∙ (ap (λ X. rule_at X c.row.result.number) (row.0 ∙ c.checked-table.ensures) ∙ (ap (rule_at T) row.1 ∙ sym (nth_held T k there))))
