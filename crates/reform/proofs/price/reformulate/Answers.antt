use Rattle.std.proofs.Common.{◌≡◌, ℕ, Some, refl, ap, ◌∙◌, arith, rules}
use Rattle.rules.specs.Rule.{at}
use Rattle.rules.specs.Terms.{coefficient}
use Rattle.reform_laws.specs.Reform.{rules_needed, new_weight}
use Rattle.reform.specs.declared.kinds.Room.{Room}
use Rattle.reform.specs.Reforming.{fresh_of, Suited, HasRoom}
use Rattle.reform.proofs.Made.{literals_few, made}
use Rattle.reform.proofs.price.reformulate.Goals as goal

pub invariant_of-result : goal.invariant_of-result
invariant_of-result c =
    let k = c.args.counted.now in
    let some : c.constant_after.result ≡ Some c.in_ok-constant.constant = search rules in
    let fits = rw some at c.constant_after.ensures in
    let limits = fits.0 in
    let suits : Suited c.args.price.now c.args.variables k = record { each = c.if-not-each_suits.ensures.0 refl; enough = limits.enough; small = limits.small; fits = limits.fits } in
    let fresh : c.needs-needed.result.variables ≡ fresh_of k.rule = ap (λ (r : Room). r.variables) c.needs-needed.ensures in
    record { within = omega arith; counted = omega (arith, literals_few _ _ _ suits) }

pub returns : goal.returns
returns c =
    let k = c.args.counted.now in
    let some : c.constant_after.result ≡ Some c.in_ok-constant.constant = search rules in
    let fits = rw some at c.constant_after.ensures in
    let limits = fits.0 in
    let suits : Suited c.args.price.now c.args.variables k = record { each = c.if-not-each_suits.ensures.0 refl; enough = limits.enough; small = limits.small; fits = limits.fits } in
    let fresh : c.needs-needed.result.variables ≡ fresh_of k.rule = ap (λ (r : Room). r.variables) c.needs-needed.ensures in
    let rules : c.needs-needed.result.rules ≡ rules_needed (fresh_of k.rule) = ap (λ (r : Room). r.rules) c.needs-needed.ensures in
    let has : HasRoom c.args.room c.args.variables k.rule = record { variables = omega arith; rules = omega arith; width = omega arith } in
    made c.args.price.now c.args.variables k suits c.args.room has _ refl refl fresh fits.1
    (λ i l. c.weights_after-weights.ensures i l ∙ ap (λ (n : ℕ). new_weight (coefficient k.rule) (at c.args.price.now.weights) c.args.variables n k.weight i) fresh)
