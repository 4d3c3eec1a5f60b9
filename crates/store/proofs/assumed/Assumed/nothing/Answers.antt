use Rattle.std.proofs.Common.{refl, arith}
use Rattle.store.proofs.Distinct.{free_marks}
use Rattle.store.proofs.assumed.Assumed.nothing.Goals as goal

pub invariant_of-result : goal.invariant_of-result
invariant_of-result c = record { room = omega arith; whole = refl; wide = refl; agrees = (λ v. free_marks 80 v) }
