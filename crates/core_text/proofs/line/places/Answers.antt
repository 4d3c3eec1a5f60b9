use Rattle.std.proofs.Common.{pos, rules}
use Rattle.rules.specs.Rule.{at}
use Rattle.rules.proofs.Made.{made}
use Rattle.core_text.proofs.line.places.Goals as goal

pub returns : goal.returns
returns c = made _ _ (at c.args.numbers.now) _ (pos 0) 80 c.from_fn.ensures.items (λ k y q l call. (search rules, search rules))
