use Rattle.reform_laws.proofs.Reform.{reformulating}
use Rattle.reform_laws.proofs.reformulating_keeps_the_price.Goals as goal

pub returns : goal.returns
returns c = reformulating
