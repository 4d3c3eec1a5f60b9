use Rattle.std.proofs.Common.{refl}
use Rattle.solve.proofs.Telling.{solved}
use Rattle.solve.proofs.solve.Goals as goal

pub returns : goal.returns
returns g c =
    let loaded = c.in_ok-load.ensures in
    solved g.H.RuleHolder.limits g.E.Engine.pledge (g.H.RuleHolder.held c.args.holder.now) (g.E.RuleHolder.held c.load.new.engine) (g.E.RuleHolder.held c.ask.new.engine)
    (g.E.Engine.question c.load.new.engine) (g.E.Engine.question c.ask.new.engine) c.args.allowance c.ask.result loaded.loads.0 (c.ask.ensures.asked (loaded.sound refl))
