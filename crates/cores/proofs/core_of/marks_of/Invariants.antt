use Rattle.std.proofs.Common.{◌≡◌, ℕ, ◌<◌, length, map, reverse}
use Rattle.rules.specs.Rule.{marked}
use Rattle.rules.specs.Terms.{only}
use Rattle.cores.proofs.core_of.marks_of.Given as goal

-- the literals so far are marked
abbrev pub invariant-loop-literal : goal.invariant-loop-literal
invariant-loop-literal l = (length l.marks ≡ 80) × ((i : ℕ) → i < 80 → marked l.marks i ≡ only (reverse (map (λ x. x.now) l.yielded)) i)
