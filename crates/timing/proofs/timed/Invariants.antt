use Rattle.std.proofs.Common.{◌≤◌}
use Rattle.std.specs.Duration.{as_nanos}
use Rattle.timing.proofs.timed.Given as goal

abbrev pub invariant-loop : goal.invariant-loop
invariant-loop g l = goal.F-IsAlwaysCallable g l.work × (as_nanos l.shortest ≤ 1000000000)
