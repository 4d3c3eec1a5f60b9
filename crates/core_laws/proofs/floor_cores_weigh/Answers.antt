use Rattle.core_laws.proofs.Steps.{floor_cores}
use Rattle.core_laws.proofs.floor_cores_weigh.Goals as goal

pub returns : goal.returns
returns c = floor_cores
