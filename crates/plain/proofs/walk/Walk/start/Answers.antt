use Rattle.std.proofs.Common.{refl}
use Rattle.store.proofs.Distinct.{free_marks}
use Rattle.plain.proofs.walk.Walk.start.Goals as goal

pub returns : goal.returns
returns c = record { free = λ i. free_marks 80 i; depth = refl }
