use Rattle.ask.specs.Asking.{Running}
use Rattle.ask.proofs.ask.Given as goal

abbrev pub invariant-loop-before : goal.invariant-loop-before
invariant-loop-before g l =
    let held = g.E.RuleHolder.held in
    let question = g.E.Engine.question in
    g.E.Engine.sound l.initial.engine
    → Running g.E.Engine.pledge l.assumed (held l.initial.engine) 0 (held l.initial.engine) (question l.initial.engine)
    → g.E.Engine.sound l.engine × Running g.E.Engine.pledge l.assumed (held l.initial.engine) l.before (held l.engine) (question l.engine)
