use Rattle.std.proofs.Common.{◌≡◌, ◌-◌, ◌^◌, min, map}
use Rattle.tally.specs.Tallies.{written}
use Rattle.tally.proofs.compared.Given as goal

-- the lines so far are counted
abbrev pub invariant-loop-line : goal.invariant-loop-line
invariant-loop-line g l =
    goal.F-IsAlwaysCallable g l.compare × (l.tally.things.now ≡ l.things) × (l.tally.tried ≡ min (written (map (λ x. x.now) l.yielded)) (2 ^ 32 - 1))
