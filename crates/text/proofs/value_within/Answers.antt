use Rattle.std.proofs.Common.{arith}
use Rattle.std.proofs.lemmas.Int.{ints}
use Rattle.text.proofs.value_within.Goals as goal

pub returns-then-contains : goal.returns-then-contains
returns-then-contains c = let cases = c.contains.ensures.cases in grind (arith, ints)

pub returns-else-contains : goal.returns-else-contains
returns-else-contains c = let cases = c.contains.ensures.cases in grind (arith, ints)
