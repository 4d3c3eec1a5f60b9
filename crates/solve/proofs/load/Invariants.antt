use Rattle.std.proofs.Common.{◌≡◌}
use Rattle.engine.specs.Questions.{none}
use Rattle.solve.specs.Loads.{FirstRules}
use Rattle.solve.proofs.load.Given as goal

abbrev pub invariant-loop-k : goal.invariant-loop-k
invariant-loop-k g l =
    FirstRules (g.H.RuleHolder.held l.holder) l.k (g.E.RuleHolder.held l.engine)
    × (g.E.Engine.question l.engine ≡ none) × g.E.Engine.sound l.engine
