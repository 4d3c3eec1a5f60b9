use Rattle.core_laws.proofs.Steps.{kept_suits}
use Rattle.core_laws.proofs.kept_rules_suit.Goals as goal

pub returns : goal.returns
returns c = kept_suits
