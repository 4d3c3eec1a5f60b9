use Rattle.std.proofs.Common.{false, cond, eqb, rules}
use Rattle.rules.specs.Rule.{at}
use Rattle.rules.proofs.Made.{made}
use Rattle.counting.specs.Order.{flag}
use Rattle.gains.specs.Gains.{weights}
use Rattle.gains.proofs.rounds.Weighted.weaken.Goals as goal

pub returns : goal.returns
returns c =
    let w = weights c.args.self.now.core.now (at c.args.self.now.price.now) in
    made _ _ (λ i. cond (eqb (w i) (w c.args.lightest)) false (flag c.args.members.now i)) _ false 80 c.from_fn.ensures.items (λ k y q l call. (search rules, search rules))
