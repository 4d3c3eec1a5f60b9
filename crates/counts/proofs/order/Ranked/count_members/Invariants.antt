use Rattle.std.proofs.Common.{◌*◌, ◌≤◌}
use Rattle.rules.specs.Terms.{coefficient}
use Rattle.counting.specs.Order.{in_order, flag, place_in, Walked}
use Rattle.counts.proofs.order.Ranked.count_members.Given as goal

-- the members among the first places are taken
abbrev pub invariant-loop-variable : goal.invariant-loop-variable
invariant-loop-variable l =
    (l.sum ≤ 4294967296 * l.variable-index) × (l.count ≤ l.variable-index)
    × Walked 80 (coefficient l.self.rule.now) l.self.rule.now.degree (flag l.members) (place_in (in_order l.self.order) 80) l.variable-index l.sum l.count
