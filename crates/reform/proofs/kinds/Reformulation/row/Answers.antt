use Rattle.std.proofs.Common.{pos, rules}
use Rattle.rules.proofs.Made.{made}
use Rattle.reform.specs.Reforming.{new_row}
use Rattle.reform.proofs.kinds.Reformulation.row.Goals as goal

pub returns : goal.returns
returns c =
    made _ _ (new_row c.args.self.now.rule c.args.self.now.variables c.args.self.now.fresh c.args.kind) _ (pos 0) 80 c.from_fn.ensures.items (λ k y q l call. (search rules, search rules))
