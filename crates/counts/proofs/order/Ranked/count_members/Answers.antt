use Rattle.std.proofs.Common.{◌≡◌, ◌+◌, ◌<◌, arith}
use Rattle.rules.specs.Terms.{coefficient}
use Rattle.counting.specs.Counting.{sum_outside}
use Rattle.counting.specs.Order.{in_order, flag}
use Rattle.counting.proofs.Order.{walk_starts, walk_takes, walk_passes, walk_ends, walk_reaches}
use Rattle.counting.proofs.Ranks.{descends}
use Rattle.counts.proofs.order.Ranked.count_members.Goals as goal
use Rattle.counts.proofs.order.Ranked.count_members.Goals.{then-members-variable, else-members-variable}

pub loop-variable-init : goal.loop-variable-init
loop-variable-init c =
    let r = c.args.self.now in
    let o = descends 80 (coefficient r.rule.now) (in_order r.order) r.ranks in
    (omega arith, omega arith, walk_starts 80 _ _ _ _ o)

pub returns-then-degree-sum : goal.returns-then-degree-sum
returns-then-degree-sum c =
    let r = c.args.self.now in
    let o = descends 80 (coefficient r.rule.now) (in_order r.order) r.ranks in
    record { least = walk_ends 80 _ _ _ _ o _ _ _ c.loop-variable.invariant.2 (omega (arith, c.lowered-degree.ensures)); bound = omega arith }

pub loop-variable-preserved : goal.loop-variable-preserved
loop-variable-preserved c =
    let r = c.args.self.now in
    let o = descends 80 (coefficient r.rule.now) (in_order r.order) r.ranks in
    let short : sum_outside 80 (coefficient r.rule.now) (flag c.args.members.now) + c.loop-variable.sum < r.rule.now.degree = omega (arith, c.lowered-degree.ensures) in
    elim c.if-members-variable.branch [
      | then-members-variable w ↦ (
        omega (arith, w.sum-is, w.from-sum.ensures, w.size_at.type_inv),
        omega (arith, w.count-is),
        rw (w.sum-is, w.from-sum.ensures, w.size_at.ensures, w.count-is) (walk_takes 80 _ _ _ _ o _ _ _ c.loop-variable.invariant.2 (omega arith) w.if-members-variable.true short),
      )
      | else-members-variable w ↦ (
        omega (arith, w.sum-is),
        omega (arith, w.count-is),
        rw (w.sum-is, w.count-is) (walk_passes 80 _ _ _ _ o _ _ _ c.loop-variable.invariant.2 (omega arith) w.if-members-variable.false),
      )
    ]

pub returns : goal.returns
returns c =
    let r = c.args.self.now in
    let o = descends 80 (coefficient r.rule.now) (in_order r.order) r.ranks in
    let all : c.loop-variable.variable-index ≡ 80 = omega arith in
    let walked = c.loop-variable.invariant.2 in
    let whole = rw all at walked in
    record { least = walk_ends 80 _ _ _ _ o _ _ _ walked (omega (arith, walk_reaches 80 _ _ _ _ o _ _ whole, r.can)); bound = omega arith }
