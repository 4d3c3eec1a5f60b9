-- Rules that are loaded from a holder into an engine, and what the engine's answer says of the holder.
use Rattle.std.specs.Prelude.{◌≡◌, ℕ, ◌<◌, ◌≤◌, ◌⊎◌, List, length, Ok, Err, Result}
use Rattle.faults.specs.declared.fault.EngineFault.{EngineFault}
use Rattle.faults.specs.declared.fault.EngineFault.TheVariants.{Variables}
use Rattle.rules.specs.Rule.{marked, Full as Fully}
use Rattle.rules.specs.Terms.{coefficient}
use Rattle.rules.specs.declared.Mark.{Mark}
use Rattle.rules.specs.declared.term.Rule.{Rule as Row}
use Rattle.rules.specs.declared.term.Term.{Term as Pair}
use Rattle.engine.specs.Held.{Held, Limits, nth, MeetsAll, NotAdded}
use Rattle.engine.specs.Questions.{Question, none, engine_limits, Countable}
use Rattle.engine.specs.declared.answer.Answer.{Answer}
use Rattle.engine.specs.declared.answer.Answer.TheVariants.{Going, Yes, No}
use Rattle.ask.specs.declared.Asked.{Asked}
use Rattle.solve.specs.Listed.{Lists}

-- the same coefficients and the same degree
pub record SameRule (r s : Row) : Type 0 where
  pub coefficients : (i : ℕ) → coefficient s i ≡ coefficient r i
  pub degree : s.degree ≡ r.degree

-- the same number of variables, and the first n rules, no more
pub record FirstRules (h : Held) (n : ℕ) (h' : Held) : Type 0 where
  pub variables : h'.variables ≡ h.variables
  pub count : length h'.rules ≡ n
  pub each : (k : ℕ) → k < n → SameRule (nth h.rules k) (nth h'.rules k)

-- a holder with variables, whose limits are within those of engines
pub record Loadable (l : Limits) (h : Held) : Type 0 where
  pub some : 0 < h.variables
  pub room : l.room ≤ engine_limits.room
  pub coefficient : l.coefficient ≤ engine_limits.coefficient
  pub degree : l.degree ≤ engine_limits.degree

-- rule k is the first that an engine with these variables and the rules before it does not take, and e is its refusal
pub record RefusedRule (h : Held) (e : EngineFault) (h' : Held) (k : ℕ) (ts : List Pair) : Type 0 where
  pub there : k < length h.rules
  pub first : FirstRules h k h'
  pub lists : Lists (nth h.rules k).coefficients ts
  pub refused : NotAdded engine_limits h' ts (nth h.rules k).degree e

-- what stops a loading: no engine has so many variables, or a rule is refused
abbrev pub Stopped : Held → EngineFault → Held → Type 0
Stopped h e h' = ((Countable h.variables → ⊥) × (e ≡ Variables h.variables)) ⊎ ((k : ℕ) × (ts : List Pair) × RefusedRule h e h' k ts)

-- the engine holds the same rules and has no question open; refused is only a holder that cannot be loaded, by what stops it
abbrev pub Loads : Limits → Held → Result Unit EngineFault → Held → Question → Type 0
Loads l h (Ok _) h' q' = FirstRules h (length h.rules) h' × (q' ≡ none)
Loads l h (Err e) h' q' = (Loadable l h → ⊥) × Stopped h e h'

-- what an answer says of all rules: yes gives marks that meet them, no says that none do
abbrev pub Tells : Held → Answer → Type 0
Tells h Going = Unit {0}
Tells h (Yes ms) = Fully h.variables (marked ms) × MeetsAll h (marked ms)
Tells h (No r) = (m : ℕ → Mark) → Fully h.variables m → MeetsAll h m → ⊥

-- how many steps an answer took: all that were allowed, or no more
abbrev pub Took : ℕ → ℕ → Answer → ℕ → Type 0
Took Q allowance Going steps = steps ≡ allowance
Took Q allowance (Yes ms) steps = (steps ≤ allowance) × (steps ≤ Q)
Took Q allowance (No r) steps = (steps ≤ allowance) × (steps ≤ Q)

abbrev pub Solves : Limits → ℕ → Held → ℕ → Result Asked EngineFault → Type 0
Solves l Q h allowance (Ok a) = Tells h a.answer × Took Q allowance a.answer a.steps
Solves l Q h allowance (Err e) = (Loadable l h → ⊥) × ((h' : Held) × Stopped h e h')
