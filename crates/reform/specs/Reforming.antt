-- What reformulating gives.
use Rattle.std.specs.Prelude.{◌≡◌, ℕ, ◌+◌, ◌-◌, ◌*◌, ◌^◌, ◌<◌, ◌≤◌, cond, ℤ, Some, None, Option, Ok, Err, Result, ◌==◌}
use Rattle.rules.specs.Rule.{at}
use Rattle.rules.specs.Terms.{coefficient}
use Rattle.rules.specs.declared.term.Rule.{Rule}
use Rattle.cores.specs.Cores.{sizes, RuleIs}
use Rattle.gains.specs.declared.kinds.CountRule.{CountRule}
use Rattle.reform_laws.specs.Reform.{fresh_needed, rules_needed, at_least_row, at_most_row, order_row, new_weight, Suits, Promise}
use Rattle.reform.specs.declared.kinds.Price.{Price}
use Rattle.reform.specs.declared.kinds.Room.{Room}
use Rattle.reform.specs.declared.kinds.NewRule.{NewRule}
use Rattle.reform.specs.declared.kinds.NewRule.TheVariants.{AtLeast, AtMost, Order}
use Rattle.reform.specs.declared.kinds.Reformulation.{Reformulation}
use Rattle.reform.specs.declared.kinds.Unreformed.{Unreformed}
use Rattle.reform.specs.declared.kinds.Unreformed.TheVariants.{Unsuited, NoRoom}

-- what a count rule needs
abbrev pub fresh_of : Rule → ℕ
fresh_of r = fresh_needed (coefficient r) r.degree

abbrev pub needed : Rule → Room
needed r = record { variables = fresh_of r; rules = rules_needed (fresh_of r) }

-- the count rule suits the price
abbrev pub Suited : Price → ℕ → CountRule → Type 0
Suited p v k = Suits (coefficient k.rule) k.rule.degree k.weight p.constant (at p.weights) v

-- what the count, the weight and the new constant must stay within
pub record Limits (p : Price) (k : CountRule) : Type 0 where
  pub enough : k.rule.degree ≤ sizes 80 (coefficient k.rule)
  pub small : k.weight < 2 ^ 31
  pub fits : p.constant + k.rule.degree * k.weight < 2 ^ 64

-- the new constant, and the new weights with f fresh variables after the v that there are
abbrev pub raised : Price → CountRule → ℕ
raised p k = p.constant + k.rule.degree * k.weight

abbrev pub reweighted : Price → ℕ → ℕ → CountRule → ℕ → ℤ
reweighted p v f k = new_weight (coefficient k.rule) (at p.weights) v f k.weight

-- there is room: for its fresh variables, also among the 80 that a rule can speak of, and for its rules
pub record HasRoom (room : Room) (v : ℕ) (r : Rule) : Type 0 where
  pub variables : fresh_of r ≤ room.variables
  pub rules : rules_needed (fresh_of r) ≤ room.rules
  pub width : v + fresh_of r ≤ 80

-- the price is reformulated by the count rule k: the constant grows by count × weight, the weights are the new ones, the
-- fresh variables come after the v that there were, and the promise is kept
pub record Reformulated (p : Price) (v : ℕ) (k : CountRule) (r : Reformulation) : Type 0 where
  pub rule : r.rule ≡ k.rule
  pub variables : r.variables ≡ v
  pub fresh : r.fresh ≡ fresh_of k.rule
  pub constant : r.price.constant ≡ raised p k
  pub weights : (i : ℕ) → i < 80 → at r.price.weights i ≡ reweighted p v (fresh_of k.rule) k i
  pub promise : Promise (coefficient k.rule) k.rule.degree k.weight v (fresh_of k.rule) p.constant (at p.weights) r.price.constant (at r.price.weights)

-- what comes of a price and a count rule
abbrev pub OutcomeOf : Price → ℕ → CountRule → Room → Result Reformulation Unreformed → Type 0
OutcomeOf p v k room (Ok r) = Suited p v k × HasRoom room v k.rule × Reformulated p v k r
OutcomeOf p v k room (Err Unsuited) = Suited p v k → ⊥
OutcomeOf p v k room (Err NoRoom) = Suited p v k × (HasRoom room v k.rule → ⊥)

-- ---- the rules
-- the new rules in their order
abbrev pub nth : ℕ → NewRule
nth k = cond (k == 0) AtLeast (cond (k == 1) AtMost (Order (k - 2)))

-- the row and the degree of each, for the count rule r over v variables
abbrev pub new_row : Rule → ℕ → ℕ → NewRule → ℕ → ℤ
new_row r v f AtLeast = at_least_row (coefficient r) v f
new_row r v f AtMost = at_most_row (coefficient r) v f
new_row r v f (Order j) = order_row v j

abbrev pub new_degree : Rule → ℕ → NewRule → ℕ
new_degree r f AtLeast = r.degree + f
new_degree r f AtMost = f
new_degree r f (Order j) = 1

-- an order rule speaks of two fresh variables
abbrev pub Among : ℕ → NewRule → Type 0
Among f AtLeast = Unit {0}
Among f AtMost = Unit {0}
Among f (Order j) = j + 1 < f

-- the k-th new rule, from 0; there are as many as are needed
abbrev pub NewRuleAt : Reformulation → ℕ → Option Rule → Type 0
NewRuleAt r k None = rules_needed r.fresh ≤ k
NewRuleAt r k (Some q) = (k < rules_needed r.fresh) × RuleIs q (new_row r.rule r.variables r.fresh (nth k)) (new_degree r.rule r.fresh (nth k))
