use Rattle.std.proofs.Common.{rules}
use Rattle.rules.specs.Rule.{marked}
use Rattle.rules.specs.declared.Mark.TheVariants.{Free}
use Rattle.rules.proofs.Made.{made}
use Rattle.finder.proofs.board_of.Goals as goal

pub returns : goal.returns
returns c = made _ _ (marked c.args.marks.now) _ Free 40 c.from_fn.ensures.items (λ k y q l call. (search rules, search rules))
