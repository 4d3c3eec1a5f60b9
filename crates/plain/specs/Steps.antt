-- What the calls of the plain engine do, beyond what every engine's do.
use Rattle.std.specs.Prelude.{◌≡◌, ℕ, ◌+◌, ◌<◌, ◌≤◌, Bool, true, false, ◌⊎◌, length, Some, None, Option, Ok, Err, Result, ◌≢◌}
use Rattle.faults.specs.declared.fault.EngineFault.{EngineFault}
use Rattle.rules.specs.Rule.{marked}
use Rattle.rules.specs.Terms.{coefficient, only}
use Rattle.rules.specs.declared.term.Rule.{Rule as Row}
use Rattle.engine.specs.Held.{nth, BreaksRule, NoneBroken}
use Rattle.engine.specs.declared.answer.Answer.{Answer}
use Rattle.engine.specs.declared.answer.Answer.TheVariants.{Going, Yes, No}
use Rattle.store.specs.View.{held_in}
use Rattle.store.specs.Assumes.{assumed_in}
use Rattle.store.specs.declared.keep.Store.{Store}
use Rattle.backtrack.specs.Walk.{deeper, turned, left}
use Rattle.backtrack.specs.Clause.{opposed, refuted}
use Rattle.rules.specs.declared.Mark.TheVariants.{Zero}
use Rattle.engine.specs.Questions.{Question, none, posed}
use Rattle.plain.specs.Ready.{at_walk}
use Rattle.plain.specs.declared.search.Search.{Search}
use Rattle.plain.specs.declared.search.Reached.{Reached}
use Rattle.plain.specs.declared.search.Reached.TheVariants.{Onward, Solved, Ended}
use Rattle.plain.specs.declared.state.Plain.{Plain}

-- the question that is open, with a step for each node of the tree that is left
abbrev pub question_of : Store → Option Search → Question
question_of s None = none
question_of s (Some x) = posed (assumed_in x.assumed) (left s.variables (at_walk x.walk) x.walk.depth)

abbrev pub asked_by : Plain → Question
asked_by s = question_of s.store s.asking

-- nothing has changed
pub record Same (s t : Plain) : Type 0 where
  pub store : t.store ≡ s.store
  pub asking : t.asking ≡ s.asking

-- a rule that is added closes the question; a refused one changes nothing
abbrev pub Adds : Plain → Result Unit EngineFault → Plain → Type 0
Adds s (Ok _) t = t.asking ≡ None
Adds s (Err e) t = Same s t

-- the marks break an assumed literal, or a rule
pub record BrokenLiteral (x : Search) : Type 0 where
  pub variable : ℕ
  pub within : variable < x.walk.depth
  pub opposes : opposed (only (assumed_in x.assumed) variable) (at_walk x.walk variable) ≡ true

pub record BrokenRule (s : Store) (x : Search) : Type 0 where
  pub rule : ℕ
  pub there : rule < length (held_in s).rules
  pub breaks : BreaksRule s.variables (nth (held_in s).rules rule) (at_walk x.walk)

abbrev pub BrokenNow : Store → Search → Type 0
BrokenNow s x = BrokenLiteral x ⊎ BrokenRule s x

-- no assumed literal is broken, and no rule
pub record Unbroken (s : Store) (x : Search) : Type 0 where
  pub literals : (v : ℕ) → v < x.walk.depth → opposed (only (assumed_in x.assumed) v) (at_walk x.walk v) ≡ false
  pub rules : NoneBroken (held_in s) (length (held_in s).rules) (at_walk x.walk)

abbrev pub BrokenHere : Store → Search → Bool → Type 0
BrokenHere s x true = BrokenNow s x
BrokenHere s x false = Unbroken s x

-- ---- where the search stands after a step
-- the next variable has 0
pub record Deepened (s : Store) (x y : Search) : Type 0 where
  pub sound : Unbroken s x
  pub room : x.walk.depth < s.variables
  pub marks : (i : ℕ) → at_walk y.walk i ≡ deeper (at_walk x.walk) x.walk.depth i
  pub depth : y.walk.depth ≡ x.walk.depth + 1

-- the last 0 has turned to 1, and the marks after it are cleared
pub record Turned (s : Store) (x y : Search) : Type 0 where
  pub broken : BrokenNow s x
  pub at : ℕ
  pub within : at < x.walk.depth
  pub was : at_walk x.walk at ≡ Zero
  pub last : (j : ℕ) → at < j → j < x.walk.depth → at_walk x.walk j ≢ Zero
  pub marks : (i : ℕ) → at_walk y.walk i ≡ turned (at_walk x.walk) at i
  pub depth : y.walk.depth ≡ at + 1

-- the clause of all assumed literals' complements
pub record IsClause (x : Search) (r : Row) : Type 0 where
  pub coefficients : (v : ℕ) → coefficient r v ≡ refuted (marked x.assumed.marks v)
  pub degree : r.degree ≡ 1

-- by what is reached: on it goes by one of these, and assumes the same; nothing is broken and all variables are marked; or
-- something is broken and no 0 is left
abbrev pub Reaches : Store → Search → Reached → Search → Type 0
Reaches s x Onward y = (y.assumed ≡ x.assumed) × (Deepened s x y ⊎ Turned s x y)
Reaches s x Solved y = Unbroken s x × (s.variables ≤ x.walk.depth) × (y ≡ x)
Reaches s x Ended y = BrokenNow s x × ((j : ℕ) → j < x.walk.depth → at_walk x.walk j ≢ Zero) × (y ≡ x)

-- by the answer: on it goes by one of these, and assumes the same; yes gives the marks as they are, all variables being
-- marked; no comes where no 0 is left, by the clause
abbrev pub Searched : Store → Search → Answer → Search → Type 0
Searched s x Going y = (y.assumed ≡ x.assumed) × (Deepened s x y ⊎ Turned s x y)
Searched s x (Yes ms) y = Unbroken s x × (s.variables ≤ x.walk.depth) × (ms ≡ x.walk.marks)
Searched s x (No r) y = IsClause x r × BrokenNow s x × ((j : ℕ) → j < x.walk.depth → at_walk x.walk j ≢ Zero)

-- what a search is after an answer: it goes on, or it is closed
abbrev pub After : Answer → Search → Option Search → Type 0
After Going y o = o ≡ Some y
After (Yes ms) y o = o ≡ None
After (No r) y o = o ≡ None

-- the open search makes a step; without one nothing changes
abbrev pub Walked : Plain → Result Answer EngineFault → Plain → Type 0
Walked s (Ok a) t = (x y : Search) × (s.asking ≡ Some x) × Searched s.store x a y × After a y t.asking
Walked s (Err e) t = t.asking ≡ s.asking
