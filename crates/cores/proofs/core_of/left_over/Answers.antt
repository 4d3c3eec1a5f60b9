use Rattle.std.proofs.Common.{cond, pos, rules}
use Rattle.rules.specs.Rule.{at, marked}
use Rattle.rules.proofs.Made.{made}
use Rattle.cores.specs.Cores.{is_false}
use Rattle.cores.proofs.core_of.left_over.Goals as goal

pub returns : goal.returns
returns c =
    let a = at c.args.coefficients.now in
    let m = marked c.args.marks.now in
    made _ _ (λ i. cond (is_false (a i) (m i)) (a i) (pos 0)) _ (pos 0) 80 c.from_fn.ensures.items (λ k y q l call. (search rules, search rules))
