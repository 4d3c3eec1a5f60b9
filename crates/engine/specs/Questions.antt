-- What an engine means beyond its rules, the question that is open and how many steps are left for it, and what its calls
-- do to that.
use Rattle.std.specs.Prelude.{◌≡◌, ℕ, ◌+◌, ◌<◌, ◌≤◌, min, List, [], length, Ok, Err, Result, ◌≢◌, slice_index_or, slice_set}
use Rattle.faults.specs.declared.fault.EngineFault.{EngineFault}
use Rattle.faults.specs.declared.fault.EngineFault.TheVariants.{Variables, Full, Term, Rule, NoQuestion}
use Rattle.rules.specs.Rule.{marked, Full as Fully}
use Rattle.rules.specs.Terms.{only}
use Rattle.rules.specs.declared.Mark.{Mark}
use Rattle.rules.specs.declared.term.Literal.{Literal}
use Rattle.rules.specs.declared.term.Rule.{Rule as Row}
use Rattle.derive.specs.Derive.{Extends}
use Rattle.engine.specs.Held.{Held, Limits, Fits, nth, no_literal, BreaksRule, MeetsAll, FollowsFrom, FirstBad, Every}
use Rattle.engine.specs.declared.answer.Answer.{Answer}
use Rattle.engine.specs.declared.answer.Answer.TheVariants.{Going, Yes, No}

-- no question, or one: the literals that it assumes, and the steps that are left for its answer
pub data Question : Type 0 where
  none : Question
  posed : List Literal → ℕ → Question

-- the limits of every engine
abbrev pub engine_limits : Limits
engine_limits = record { room = 160; coefficient = 1000000000; degree = 1000000000 }

-- an open question has 1 to Q steps left
abbrev pub WithinPledge : ℕ → Question → Type 0
WithinPledge Q none = Unit {0}
WithinPledge Q (posed ls left) = (0 < left) × (left ≤ Q)

-- ---- begin, grow, raise
-- a number of variables that an engine can have
abbrev pub Countable : ℕ → Type 0
Countable n = (0 < n) × (n ≤ 80)

abbrev pub empty : ℕ → Held
empty n = record { variables = n; rules = [] }

abbrev pub with_variables : ℕ → Held → Held
with_variables n h = record { variables = n; rules = h.rules }

-- the greatest number that a machine word holds
abbrev pub greatest : ℕ
greatest = 18446744073709551615

-- no rules and no question, or number 13 with the number wanted
abbrev pub Begun : ℕ → Held → Question → Result Unit EngineFault → Held → Question → Type 0
Begun n h q (Ok _) h' q' = Countable n × (h' ≡ empty n) × (q' ≡ none)
Begun n h q (Err e) h' q' = (Countable n → ⊥) × (e ≡ Variables n) × (h' ≡ h) × (q' ≡ q)

-- so many variables more, or number 13 with the total wanted, as far as a word holds it
abbrev pub Grown : ℕ → Held → Question → Result Unit EngineFault → Held → Question → Type 0
Grown by h q (Ok _) h' q' = (0 < by) × (h.variables + by ≤ 80) × (h' ≡ with_variables (h.variables + by) h) × (q' ≡ none)
Grown by h q (Err e) h' q' = (0 < by → h.variables + by ≤ 80 → ⊥) × (e ≡ Variables (min greatest (h.variables + by))) × (h' ≡ h) × (q' ≡ q)

-- the same rule with another degree
abbrev pub with_degree : ℕ → Row → Row
with_degree d r = record { coefficients = r.coefficients; degree = d }

abbrev pub with_raised : ℕ → ℕ → Held → Held
with_raised k d h = record { variables = h.variables; rules = slice_set h.rules k (with_degree d (nth h.rules k)) }

-- rule k is there, and d is neither lower than its degree nor beyond the limit
pub record CanRaise (l : Limits) (h : Held) (k d : ℕ) : Type 0 where
  pub there : k < length h.rules
  pub higher : (nth h.rules k).degree ≤ d
  pub most : d ≤ l.degree

-- the degree is lifted, or number 16 with the rule
abbrev pub Raised : Limits → ℕ → ℕ → Held → Question → Result Unit EngineFault → Held → Question → Type 0
Raised l k d h q (Ok _) h' q' = CanRaise l h k d × (h' ≡ with_raised k d h) × (q' ≡ none)
Raised l k d h q (Err e) h' q' = (CanRaise l h k d → ⊥) × (e ≡ Rule k) × (h' ≡ h) × (q' ≡ q)

-- ---- pose
abbrev pub literal_at : List Literal → ℕ → Literal
literal_at ls i = slice_index_or ls i no_literal

-- the literal of index i is of one of the n variables, and no literal before it has the same variable
pub record GoodLiteral (n : ℕ) (ls : List Literal) (i : ℕ) : Type 0 where
  pub known : (literal_at ls i).variable < n
  pub once : (j : ℕ) → j < i → (literal_at ls j).variable ≢ (literal_at ls i).variable

-- the question q' assumes the literals and has 1 to Q steps
pub record Opened (Q : ℕ) (ls : List Literal) (q' : Question) : Type 0 where
  pub left : ℕ
  pub some : 0 < left
  pub most : left ≤ Q
  pub is : q' ≡ posed ls left

-- the question is open, whatever was open before, or number 15 with the first literal that is not good
abbrev pub Posed : ℕ → List Literal → Held → Question → Result Unit EngineFault → Held → Question → Type 0
Posed Q ls h q (Ok _) h' q' = Every (GoodLiteral h.variables ls) (length ls) × (h' ≡ h) × Opened Q ls q'
Posed Q ls h q (Err (Term i)) h' q' = FirstBad (GoodLiteral h.variables ls) (length ls) i × (h' ≡ h) × (q' ≡ q)
Posed Q ls h q (Err (Variables n)) h' q' = ⊥
Posed Q ls h q (Err (Full room)) h' q' = ⊥
Posed Q ls h q (Err (Rule k)) h' q' = ⊥
Posed Q ls h q (Err NoQuestion) h' q' = ⊥

-- ---- step
-- marks that meet every held rule and every assumed literal
pub record Solution (h : Held) (ls : List Literal) (m : ℕ → Mark) : Type 0 where
  pub full : Fully h.variables m
  pub assumed : Extends (only ls) m
  pub meets : MeetsAll h m

-- a rule that follows from the held ones and is broken when only the assumed literals are marked
pub record Refutation (h : Held) (ls : List Literal) (r : Row) : Type 0 where
  pub fits : Fits engine_limits h.variables r
  pub follows : FollowsFrom h r
  pub broken : BreaksRule h.variables r (only ls)

-- what an answer says of the rules and the assumed literals
abbrev pub Says : Held → List Literal → Answer → Type 0
Says h ls Going = Unit {0}
Says h ls (Yes ms) = Solution h ls (marked ms)
Says h ls (No r) = Refutation h ls r

-- what an answer leaves of the question: fewer steps, but at least one, or no question
abbrev pub Leaves : List Literal → ℕ → Answer → Question → Type 0
Leaves ls left Going q' = (fewer : ℕ) × (0 < fewer) × (fewer < left) × (q' ≡ posed ls fewer)
Leaves ls left (Yes ms) q' = q' ≡ none
Leaves ls left (No r) q' = q' ≡ none

-- a question was open, and this is its answer
pub record Answered (h : Held) (q : Question) (a : Answer) (q' : Question) : Type 0 where
  pub assumed : List Literal
  pub left : ℕ
  pub was : q ≡ posed assumed left
  pub leaves : Leaves assumed left a q'
  pub says : Says h assumed a

-- no rule changes; the answer, or number 17 without a question
abbrev pub Stepped : Held → Question → Result Answer EngineFault → Held → Question → Type 0
Stepped h q (Ok a) h' q' = (h' ≡ h) × Answered h q a q'
Stepped h q (Err e) h' q' = (h' ≡ h) × (q ≡ none) × (e ≡ NoQuestion) × (q' ≡ q)
