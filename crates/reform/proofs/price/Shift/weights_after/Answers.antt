use Rattle.std.proofs.Common.{pos, rules}
use Rattle.rules.proofs.Made.{made}
use Rattle.reform.specs.Reforming.{reweighted}
use Rattle.reform.proofs.price.Shift.weights_after.Goals as goal

pub returns : goal.returns
returns c =
    made _ _ (reweighted c.args.self.now.price.now c.args.self.now.fresh.variables c.args.self.now.fresh.number c.args.self.now.counted.now) _ (pos 0) 80 c.from_fn.ensures.items (λ k y q l call. (search rules, search rules))
