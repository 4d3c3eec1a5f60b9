use Rattle.std.proofs.Common.{arith}
use Rattle.store.proofs.Standing.{good_term}
use Rattle.store.proofs.is_good.Goals as goal

pub returns-then-coefficient-most : goal.returns-then-coefficient-most
returns-then-coefficient-most c = good_term _ _ _ _ _ (omega arith) (omega arith) c.stands_alone.ensures
