use Rattle.std.proofs.Common.{[], ◌∷◌, ◌++◌, arith}
use Rattle.text.proofs.Steps.{err_is, going_none, going_more, going_less}
use Rattle.opb.proofs.Narrow.{rule_narrow}
use Rattle.sheet.proofs.Turns.{so_far_none, so_far_more, next_goes, rule_onward, open_end, rules_break, rules_few, rules_end}
use Rattle.sheet.proofs.rules.Goals as goal

pub returns-in_err-rule : goal.returns-in_err-rule
returns-in_err-rule c =
    rules_break _ _ _ _ _ _ _ _ c.loop-reader.invariant.1 c.loop-reader.invariant.2 _ _ _ _ c.loop-reader-test.true c.in_err-rule.ensures.reads (err_is _ _ c.from_residual.ensures.1)

pub put_rule-requires : goal.put_rule-requires
put_rule-requires c =
    let n = rule_narrow _ _ _ _ _ _ _ c.in_ok-rule.ensures.reads.reads in
    record { room = omega (arith, c.loop-reader.progress.few, c.in_ok-rule.ensures.room); narrow = n.0; low = n.1 }

pub loop-reader-smaller : goal.loop-reader-smaller
loop-reader-smaller c =
    let s = c.loop-reader.invariant.2 in
    going_less _ _ _ _ _ _ c.loop-reader.invariant.1 _ _ (rule_onward _ _ _ _ _ _ _ c.in_ok-rule.ensures.reads.reads)
    (next_goes _ _ _ c.loop-reader.invariant.0 s.count_is s.rows_is _ _ _ c.in_ok-rule.ensures.reads)

pub loop-reader-init : goal.loop-reader-init
loop-reader-init c = ([], going_none _ _ _ _, so_far_none _ _ _ c.new-progress.ensures.1 c.new-progress.ensures.0)

pub loop-reader-preserved : goal.loop-reader-preserved
loop-reader-preserved c =
    let s = c.loop-reader.invariant.2 in
    let n = rule_narrow _ _ _ _ _ _ _ c.in_ok-rule.ensures.reads.reads in (
      c.loop-reader.invariant.0 ++ c.in_ok-rule.rule ∷ [],
      going_more _ _ _ _ _ _ c.loop-reader.invariant.1 _ _ (open_end _ _ c.loop-reader-test.true)
          (next_goes _ _ _ c.loop-reader.invariant.0 s.count_is s.rows_is _ _ _ c.in_ok-rule.ensures.reads),
      so_far_more _ _ _ _ _ _ _ c.loop-reader.invariant.0 _ s n.0 c.with-progress.ensures.rows c.with-progress.ensures.rules c.put_rule.ensures,
    )

pub returns-then-progress-header : goal.returns-then-progress-header
returns-then-progress-header c = rules_few _ _ _ _ _ _ _ _ c.loop-reader.invariant.1 c.loop-reader.invariant.2 c.loop-reader.table c.loop-reader-test.false c.if-progress-header.true

pub returns : goal.returns
returns c = rules_end _ _ _ _ _ _ _ _ c.loop-reader.invariant.1 c.loop-reader.invariant.2 c.loop-reader.progress.few c.loop-reader-test.false c.if-progress-header.false
