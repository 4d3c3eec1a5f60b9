use Rattle.std.proofs.Common.{pos, refl, rules}
use Rattle.rules.specs.Rule.{at}
use Rattle.rules.specs.Terms.{coefficient}
use Rattle.rules.proofs.Made.{made}
use Rattle.counting.specs.Counting.{count_row}
use Rattle.counting.specs.Gain.{heavy}
use Rattle.gains.specs.Gains.{weights}
use Rattle.gains.proofs.rounds.Weighted.count_rule.Goals as goal

pub returns-clause-rule : goal.returns-clause-rule
returns-clause-rule c =
    let a = coefficient c.args.self.now.core.now in
    let w = weights c.args.self.now.core.now (at c.args.self.now.price.now) in
    record { row = made _ _ (count_row (heavy a w c.args.round.weight) a) _ (pos 0) 80 c.from_fn.ensures.items (λ k y q l call. (search rules, search rules)); degree = refl }
