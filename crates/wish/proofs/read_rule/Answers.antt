use Rattle.text.proofs.Steps.{err_is}
use Rattle.wish.proofs.Exactly.{exactly, table_refused, rule_refused, rule_read}
use Rattle.wish.proofs.read_rule.Goals as goal

pub returns-in_err-check : goal.returns-in_err-check
returns-in_err-check c = rw (err_is _ _ c.from_residual.ensures.1) (exactly _ _ _ (table_refused _ _ _ c.in_err-check.ensures))

pub returns-in_err-rule : goal.returns-in_err-rule
returns-in_err-rule c =
    rw (err_is _ _ c.from_residual-in_err-rule.ensures.1)
    (exactly _ _ _ (rule_refused _ _ _ c.in_ok-check.ensures c.new-sheet.ensures _ _ c.parts.ensures.value c.rules.ensures.value _ c.in_err-rule.ensures))

pub returns : goal.returns
returns c = exactly _ _ _ (rule_read _ _ _ c.in_ok-check.ensures c.new-sheet.ensures _ _ c.parts.ensures.value c.rules.ensures.value _ c.in_ok-rule.ensures)
