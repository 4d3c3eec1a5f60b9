use Rattle.std.proofs.Common.{sym, ap, ◌∙◌}
use Rattle.table.specs.Layout.{rules_of}
use Rattle.ledger.specs.Reading.{count_held}
use Rattle.ledger.proofs.holder.SheetRuleHolder.rules.Goals as goal

pub returns : goal.returns
returns c = c.rules.ensures.value ∙ (ap rules_of c.checked.ensures ∙ sym (count_held c.args.self.now.words))
