use Rattle.rules.specs.Rule.{at}
use Rattle.counting.specs.Order.{flag}
use Rattle.gains.specs.Gains.{weights, LightestBelow}
use Rattle.gains.proofs.rounds.Weighted.lightest.Given as goal

abbrev pub invariant-loop-i : goal.invariant-loop-i
invariant-loop-i l = LightestBelow (weights l.self.core.now (at l.self.price.now)) (flag l.members) l.i l.found
