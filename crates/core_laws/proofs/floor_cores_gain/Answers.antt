use Rattle.core_laws.proofs.Steps.{floor_gains}
use Rattle.core_laws.proofs.floor_cores_gain.Goals as goal

pub returns : goal.returns
returns c = floor_gains
