use Rattle.std.proofs.Common.{false, not, eqb, rules}
use Rattle.rules.specs.Rule.{size}
use Rattle.rules.specs.Terms.{coefficient}
use Rattle.rules.proofs.Made.{made}
use Rattle.gains.proofs.rounds.literals_of.Goals as goal

pub returns : goal.returns
returns c = made _ _ (λ i. not (eqb (size (coefficient c.args.core.now i)) 0)) _ false 80 c.from_fn.ensures.items (λ k y q l call. (search rules, search rules))
