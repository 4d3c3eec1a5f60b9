use Rattle.std.proofs.Common.{ℕ, ◌+◌, ◌<◌, Some, sym, ap, subst, pos_of_ne-zero, arith}
use Rattle.rules.specs.Rule.{at}
use Rattle.rules.specs.Terms.{coefficient}
use Rattle.counting.specs.Counting.{Least}
use Rattle.counting.specs.Order.{flag}
use Rattle.gains.specs.Gains.{weights, BestFrom}
use Rattle.gains.proofs.Passing.{starts, passes, left_is, fewer, ends_empty, ends_zero}
use Rattle.gains.proofs.best.greatest_round.Goals as goal

pub loop-place-init : goal.loop-place-init
loop-place-init c = (0, starts c.args.core.now.rule.now (at c.args.price.now) _ c.literals-members.ensures, λ i l s. omega arith)

pub loop-place-smaller : goal.loop-place-smaller
loop-place-smaller c =
    fewer c.args.core.now.rule.now (at c.args.price.now) c.loop-place.invariant.0 _ c.loop-place.invariant.1 c.in-Some.place c.in-Some.ensures _ c.weaken-members.ensures

pub loop-place-preserved : goal.loop-place-preserved
loop-place-preserved c =
    let core = c.args.core.now.rule.now in
    let price = at c.args.price.now in
    let from = c.loop-place.invariant.0 in
    let is = c.loop-place.invariant.1 in
    let light = c.in-Some.ensures in
    let some : 0 < c.count_members-count.result = pos_of_ne-zero c.if-count-eq0.false in
    let next = ap (λ (t : ℕ). record { weight = t; count = c.count_members-count.result }) c.weight_at-weight.ensures in (
      weights core price c.in-Some.place + 1,
      left_is core price from _ is c.in-Some.place light _ c.weaken-members.ensures,
      subst (λ r. BestFrom core price (weights core price c.in-Some.place + 1) (Some r)) (sym c.better.ensures)
          (passes core price from _ is c.in-Some.place light c.loop-place.best c.loop-place.invariant.2 c.count_members-count.result c.count_members-count.ensures.least some _ next),
    )

pub returns-then-count-eq0 : goal.returns-then-count-eq0
returns-then-count-eq0 c =
    ends_zero c.args.core.now.rule.now (at c.args.price.now) c.loop-place.invariant.0 _ c.loop-place.invariant.1 c.loop-place.best c.loop-place.invariant.2
    (subst (λ b. Least 80 (coefficient c.args.core.now.rule.now) c.args.core.now.rule.now.degree (flag c.loop-place.members) b) c.if-count-eq0.true c.count_members-count.ensures.least)

pub returns-in_default : goal.returns-in_default
returns-in_default c = ends_empty c.args.core.now.rule.now (at c.args.price.now) c.loop-place.invariant.0 _ c.loop-place.invariant.1 c.args.core.now.can c.loop-place.best c.loop-place.invariant.2 c.in_default.ensures
