use Rattle.std.proofs.Common.{◌≡◌, arith}
use Rattle.ask.proofs.Runs.{just_posed, since_before, goes_on, still_open}
use Rattle.ask.proofs.ask.Goals as goal

pub loop-before-init : goal.loop-before-init
loop-before-init g c = λ s r. (s, r)

pub loop-before-preserved : goal.loop-before-preserved
loop-before-preserved g c =
    λ s r.
    let old = c.loop-before.invariant s r in
    let told = rw c.in-Going.is at (c.in_ok-answer.ensures.stepped old.0) in
    (c.step.ensures.kept old.0, goes_on _ _ _ _ _ _ _ _ old.1 told)

pub returns : goal.returns
returns g c =
    let p = c.in_ok-pose.ensures.posed in
    let start = just_posed g.E.Engine.pledge c.args.assumed.now (g.E.RuleHolder.held c.pose.new.self) (g.E.Engine.question c.pose.new.self) p.2 in
    let steps : c.loop-before.before ≡ c.args.allowance = omega (arith, c.loop-before.auto.before-end, c.loop-before-test.false) in
    record {
      asked = λ s. rw steps at (still_open _ _ _ _ (g.E.RuleHolder.held c.loop-before.engine) _ _ (g.E.Engine.question c.loop-before.engine) (since_before _ _ _ _ _ _ _ p.1 (c.loop-before.invariant (c.pose.ensures.kept s) start).1) p.0 _ steps);
      kept = λ s. (c.loop-before.invariant (c.pose.ensures.kept s) start).0;
    }
