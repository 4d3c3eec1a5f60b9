use Rattle.std.proofs.Common.{◌≡◌, ℕ, length, take}
use Rattle.rules.specs.Rule.{marked}
use Rattle.rules.specs.Terms.{only}
use Rattle.store.proofs.assumed.Assumed.of.Given as goal

abbrev pub invariant-loop-i : goal.invariant-loop-i
invariant-loop-i l =
    (length l.chosen ≡ 80) × (take l.i l.chosen ≡ take l.i l.literals)
    × (length l.marks ≡ 80) × ((v : ℕ) → marked l.marks v ≡ only (take l.i l.literals) v)
