-- What a holder of rules means, a number of variables and a list of rules, and what its calls do to that.
use Rattle.std.specs.Prelude.{◌≡◌, ℕ, ◌<◌, ◌≤◌, false, List, [], ◌∷◌, ◌++◌, length, get_or, pos, Some, None, Ok, Err, Option, Result, ◌≢◌, slice_index_or}
use Rattle.faults.specs.declared.fault.EngineFault.{EngineFault}
use Rattle.faults.specs.declared.fault.EngineFault.TheVariants.{Variables, Full, Term, Rule, NoQuestion}
use Rattle.rules.specs.Rule.{marked, size, Full as Fully, Met, Broken}
use Rattle.rules.specs.Terms.{coefficient, row_of}
use Rattle.rules.specs.declared.Mark.{Mark}
use Rattle.rules.specs.declared.term.Literal.{Literal}
use Rattle.rules.specs.declared.term.Term.{Term as Pair}
use Rattle.rules.specs.declared.term.Rule.{Rule as Row}

-- a number of variables, and rules in the order in which they were added
pub record Held : Type 0 where
  pub variables : ℕ
  pub rules : List Row

-- how many rules a holder takes, and how large their coefficients and degrees may be
pub record Limits : Type 0 where
  pub room : ℕ
  pub coefficient : ℕ
  pub degree : ℕ

-- the rule of an index; past the end, one that every marking meets
abbrev pub blank : Row
blank = record { coefficients = []; degree = 0 }

abbrev pub nth : List Row → ℕ → Row
nth rs k = slice_index_or rs k blank

-- ---- what rules say of marks
-- the rule is met, or broken, by the marks of n variables
abbrev pub MeetsRule : ℕ → Row → (ℕ → Mark) → Type 0
MeetsRule n r m = Met n (coefficient r) r.degree m

abbrev pub BreaksRule : ℕ → Row → (ℕ → Mark) → Type 0
BreaksRule n r m = Broken n (coefficient r) r.degree m

-- every held rule is met
abbrev pub MeetsAll : Held → (ℕ → Mark) → Type 0
MeetsAll h m = (k : ℕ) → k < length h.rules → MeetsRule h.variables (nth h.rules k) m

-- every full marking that meets the held rules meets this one too
abbrev pub FollowsFrom : Held → Row → Type 0
FollowsFrom h r = (m : ℕ → Mark) → Fully h.variables m → MeetsAll h m → MeetsRule h.variables r m

-- a rule over n variables that is within the limits
pub record Fits (l : Limits) (n : ℕ) (r : Row) : Type 0 where
  pub sizes : (i : ℕ) → size (coefficient r i) ≤ l.coefficient
  pub beyond : (i : ℕ) → n ≤ i → coefficient r i ≡ pos 0
  pub degree : r.degree ≤ l.degree

-- ---- questions that change nothing
-- rule k as it is held, or number 16 where there is none
abbrev pub Copied : Held → ℕ → Result Row EngineFault → Type 0
Copied h k (Ok r) = (k < length h.rules) × (r ≡ nth h.rules k)
Copied h k (Err e) = (length h.rules ≤ k) × (e ≡ Rule k)

-- the rules before i are not broken
abbrev pub NoneBroken : Held → ℕ → (ℕ → Mark) → Type 0
NoneBroken h i m = (k : ℕ) → k < i → BreaksRule h.variables (nth h.rules k) m → ⊥

-- the first rule that the marks break
abbrev pub FirstBroken : Held → List Mark → Option ℕ → Type 0
FirstBroken h ms None = NoneBroken h (length h.rules) (marked ms)
FirstBroken h ms (Some k) = (k < length h.rules) × BreaksRule h.variables (nth h.rules k) (marked ms) × NoneBroken h k (marked ms)

-- ---- adding a rule
-- a literal, and a term, where nothing stands
abbrev pub no_literal : Literal
no_literal = record { variable = 0; negated = false }

abbrev pub no_term : Pair
no_term = record { coefficient = 0; literal = no_literal }

abbrev pub variable_of : List Pair → ℕ → ℕ
variable_of ts i = (get_or ts i no_term).literal.variable

-- the coefficient of the term of index i is 1 to most, its variable is one of the n, and no term before it has the same
pub record GoodTerm (most n : ℕ) (ts : List Pair) (i : ℕ) : Type 0 where
  pub some : 0 < (get_or ts i no_term).coefficient
  pub small : (get_or ts i no_term).coefficient ≤ most
  pub known : variable_of ts i < n
  pub once : (j : ℕ) → j < i → variable_of ts j ≢ variable_of ts i

-- i is the first index below n at which the property fails
pub record FirstBad (P : ℕ → Type 0) (n i : ℕ) : Type 0 where
  pub within : i < n
  pub before : (j : ℕ) → j < i → P j
  pub bad : P i → ⊥

abbrev pub Every : (ℕ → Type 0) → ℕ → Type 0
Every P n = (i : ℕ) → i < n → P i

-- the rule of a list of terms
abbrev pub rule_of : List Pair → ℕ → Row
rule_of ts d = record { coefficients = row_of ts; degree = d }

abbrev pub with_rule : Row → Held → Held
with_rule r h = record { variables = h.variables; rules = h.rules ++ (r ∷ []) }

-- the holder has room, and the terms and the degree are in range
pub record CanAdd (l : Limits) (h : Held) (ts : List Pair) (d : ℕ) : Type 0 where
  pub room : length h.rules < l.room
  pub terms : Every (GoodTerm l.coefficient h.variables ts) (length ts)
  pub degree : d ≤ l.degree

-- number 14 with the room; else 15 with the first term that is not good; else, of the degree, with the number of terms
abbrev pub NotAdded : Limits → Held → List Pair → ℕ → EngineFault → Type 0
NotAdded l h ts d (Full room) = (l.room ≤ length h.rules) × (room ≡ l.room)
NotAdded l h ts d (Term i) = (length h.rules < l.room) × (i ≤ length ts)
    × (i < length ts → FirstBad (GoodTerm l.coefficient h.variables ts) (length ts) i)
    × (i ≡ length ts → Every (GoodTerm l.coefficient h.variables ts) (length ts) × (l.degree < d))
NotAdded l h ts d (Variables n) = ⊥
NotAdded l h ts d (Rule k) = ⊥
NotAdded l h ts d NoQuestion = ⊥

-- the rule stands at the end, or the call is refused and nothing has changed
abbrev pub Added : Limits → Held → List Pair → ℕ → Result Unit EngineFault → Held → Type 0
Added l h ts d (Ok _) h' = CanAdd l h ts d × (h' ≡ with_rule (rule_of ts d) h)
Added l h ts d (Err e) h' = NotAdded l h ts d e × (h' ≡ h)
