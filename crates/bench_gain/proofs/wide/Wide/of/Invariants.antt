use Rattle.std.proofs.Common.{◌≡◌, ◌*◌, ◌≤◌, length}
use Rattle.bench_gain.proofs.wide.Wide.of.Given as goal

abbrev pub invariant-loop-i : goal.invariant-loop-i
invariant-loop-i l = (length l.coefficients ≡ 80) × (length l.weights ≡ 80) × (l.sum ≤ 1000000 * l.i)
