use Rattle.std.proofs.Common.{ap}
use Rattle.store.proofs.Views.{raise_has, raised_row, with_rules}
use Rattle.store.proofs.keep.Store.raise.Goals as goal

pub returns-clause-raised : goal.returns-clause-raised
returns-clause-raised c =
    let s = c.args.self.now in (
      raise_has s c.args.k c.args.degree c.if-k-self.false c.if-degree-self.false c.if-degree-gt-MOST.false,
      ap (with_rules s.variables) (raised_row s c.args.k c.args.degree c.if-k-self.false),
    )
