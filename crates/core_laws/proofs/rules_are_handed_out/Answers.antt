use Rattle.core_laws.proofs.Handed.{handed_out}
use Rattle.core_laws.proofs.rules_are_handed_out.Goals as goal

pub returns : goal.returns
returns c = handed_out
