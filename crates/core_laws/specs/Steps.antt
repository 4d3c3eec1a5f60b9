-- How the steps from a rule to the reformulated price fit together.
use Rattle.std.specs.Prelude.{◌≡◌, ℕ, zero, suc, ◌+◌, ◌*◌, ◌^◌, ◌<◌, ◌≤◌, List, ℤ, pos, negsuc, Some, Option, Ok, Result}
use Rattle.rules.specs.Rule.{at, Met, Broken}
use Rattle.rules.specs.Terms.{only, coefficient}
use Rattle.rules.specs.declared.Mark.{Mark}
use Rattle.rules.specs.declared.Mark.TheVariants.{Free, Zero, One}
use Rattle.rules.specs.declared.term.Literal.{Literal}
use Rattle.rules.specs.declared.term.Rule.{Rule}
use Rattle.cores.specs.declared.core_of.CannotBeMet.{CannotBeMet}
use Rattle.cores.specs.Cores.{CoreIs}
use Rattle.gains.specs.declared.kinds.CountRule.{CountRule}
use Rattle.gains.specs.Gains.{gain, round_of, AllWeigh, KeptIs, BestOf}
use Rattle.reform_laws.specs.Reform.{rules_needed, MeetsNew}
use Rattle.reform.specs.declared.kinds.Price.{Price}
use Rattle.reform.specs.declared.kinds.Reformulation.{Reformulation}
use Rattle.reform.specs.Reforming.{Suited, NewRuleAt}

-- the mark that makes a weighted literal false; none where there is no weight
abbrev pub weightless_mark : ℤ → Mark
weightless_mark (pos zero) = Free
weightless_mark (pos (suc c)) = Zero
weightless_mark (negsuc c) = One

-- exactly the literals that weigh something are assumed false
abbrev pub AssumesWeighted : (ℕ → ℤ) → List Literal → Type 0
AssumesWeighted price ls = (i : ℕ) → i < 80 → only ls i ≡ weightless_mark (price i)

-- A lower bound on the price, its floor, rises by the cores of rules that are broken where all weighted literals are false.
-- Where the weighted literals are assumed false, every literal of the core weighs something.
abbrev pub FloorCoresWeigh : Type 0
FloorCoresWeigh = (r : Rule) (ls : List Literal) (k : Rule) (price : ℕ → ℤ) → CoreIs r ls k → AssumesWeighted price ls → AllWeigh k price

-- Where moreover these literals break the rule, a core that can be met has a count rule that gains.
abbrev pub FloorCoresGain : Type 0
FloorCoresGain = (r : Rule) (ls : List Literal) (core : Rule) (price : ℕ → ℤ) (best : Result (Option CountRule) CannotBeMet) → CoreIs r ls core → AssumesWeighted price ls
    → Broken 80 (coefficient r) r.degree (only ls) → BestOf core price best → (k : CountRule) × (best ≡ Ok (Some k)) × (0 < gain (round_of k))

-- the core and the price speak of the first v variables only
pub record Over (v : ℕ) (core : Rule) (price : ℕ → ℤ) : Type 0 where
  pub absent : (i : ℕ) → i < 80 → v ≤ i → coefficient core i ≡ pos 0
  pub weightless : (i : ℕ) → i < 80 → v ≤ i → price i ≡ pos 0

-- The count rule that is kept of a core suits the price that it was found with.
abbrev pub KeptRulesSuit : Type 0
KeptRulesSuit = (core : Rule) (p : Price) (v : ℕ) (k : CountRule) → KeptIs core (at p.weights) k → Over v core (at p.weights)
    → k.weight < 2 ^ 31 → p.constant + k.rule.degree * k.weight < 2 ^ 64 → Suited p v k

-- these are the new rules of a reformulation, as they are handed out
abbrev pub NewRules : Reformulation → (ℕ → Rule) → Type 0
NewRules r q = (k : ℕ) → k < rules_needed r.fresh → NewRuleAt r k (Some (q k))

abbrev pub MeetsEach : Reformulation → (ℕ → Rule) → (ℕ → Mark) → Type 0
MeetsEach r q s = (k : ℕ) → k < rules_needed r.fresh → Met 80 (coefficient (q k)) (q k).degree s

-- To meet the rules that are handed out is to meet the new rules that the promise speaks of.
pub record RulesHandedOut : Type 0 where
  pub to : (r : Reformulation) (q : ℕ → Rule) (s : ℕ → Mark) → NewRules r q → MeetsEach r q s
      → MeetsNew (coefficient r.rule) r.rule.degree r.variables r.fresh s
  pub from : (r : Reformulation) (q : ℕ → Rule) (s : ℕ → Mark) → NewRules r q
      → MeetsNew (coefficient r.rule) r.rule.degree r.variables r.fresh s → MeetsEach r q s
