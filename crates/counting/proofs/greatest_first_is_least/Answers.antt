use Rattle.counting.proofs.Counting.{greatest_first}
use Rattle.counting.proofs.greatest_first_is_least.Goals as goal

pub returns : goal.returns
returns c = greatest_first
