-- What the checks give, and what is made of it.
use Rattle.std.proofs.Common.{◌≡◌, ℕ, ◌+◌, ◌*◌, ◌<◌, ◌≤◌, refl, arith}
use Rattle.rules.specs.Rule.{at, size}
use Rattle.rules.specs.Terms.{coefficient}
use Rattle.rules.proofs.Sum.{total_bound}
use Rattle.gains.specs.declared.kinds.CountRule.{CountRule}
use Rattle.reform_laws.specs.Reform.{new_weight}
use Rattle.reform_laws.proofs.Reform.{reformulating}
use Rattle.reform.specs.declared.kinds.Price.{Price}
use Rattle.reform.specs.declared.kinds.Room.{Room}
use Rattle.reform.specs.declared.kinds.Reformulation.{Reformulation}
use Rattle.reform.specs.Reforming.{fresh_of, Suited, HasRoom, Reformulated}

module _ (p : Price) (v : ℕ) (k : CountRule) (suits : Suited p v k) where
  -- a count rule has at most one literal on each variable
  pub literals_few : k.rule.degree + fresh_of k.rule ≤ 80
  literals_few = omega (arith, suits.enough, total_bound 80 1 (λ i. size (coefficient k.rule i)) (λ i l. (suits.each i l).unit))

  pub made : (room : Room) → HasRoom room v k.rule → (r : Reformulation) → r.rule ≡ k.rule → r.variables ≡ v → r.fresh ≡ fresh_of k.rule
      → r.price.constant ≡ p.constant + k.rule.degree * k.weight
      → ((i : ℕ) → i < 80 → at r.price.weights i ≡ new_weight (coefficient k.rule) (at p.weights) v (fresh_of k.rule) k.weight i)
      → Suited p v k × HasRoom room v k.rule × Reformulated p v k r
  made room has r rule variables fresh constant weights = (
    suits,
    has,
    record {
      rule = rule;
      variables = variables;
      fresh = fresh;
      constant = constant;
      weights = weights;
      promise = reformulating (coefficient k.rule) k.rule.degree k.weight v (fresh_of k.rule) p.constant (at p.weights) r.price.constant (at r.price.weights)
          suits refl has.width constant weights;
    },
  )
