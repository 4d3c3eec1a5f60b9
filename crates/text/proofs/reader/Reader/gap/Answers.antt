use Rattle.std.proofs.Common.{sym}
use Rattle.text.proofs.Steps.{step_goes, going_none, going_more, going_done, going_less}
use Rattle.text.proofs.Progress.{comment_onward}
use Rattle.text.proofs.reader.Reader.gap.Goals as goal

pub loop-self-init : goal.loop-self-init
loop-self-init c = going_none _ _ _ _

pub loop-self-smaller : goal.loop-self-smaller
loop-self-smaller c =
    going_less _ _ _ _ _ _ c.loop-self.invariant _ _ (comment_onward _ _ _ (sym c.loop-self-test.ensures) c.comment.ensures.reads) c.comment.ensures

pub loop-self-preserved : goal.loop-self-preserved
loop-self-preserved c = going_more _ _ _ _ _ _ c.loop-self.invariant _ _ (sym c.loop-self-test.ensures) c.comment.ensures

pub returns : goal.returns
returns c = step_goes _ _ _ _ _ _ _ c.pass.ensures (going_done _ _ _ _ _ _ c.loop-self.invariant (sym c.loop-self-test.ensures))
