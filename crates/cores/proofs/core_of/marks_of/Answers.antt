use Rattle.std.proofs.Common.{refl}
use Rattle.std.proofs.lemmas.List.{get_or-replicate}
use Rattle.rules.specs.declared.Mark.TheVariants.{Free}
use Rattle.cores.proofs.core_of.marks_of.Goals as goal

pub loop-literal-init : goal.loop-literal-init
loop-literal-init c = (refl, λ i l. get_or-replicate 80 i Free Free l)
