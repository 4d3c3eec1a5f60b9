-- The forms of a grammar. A form relates a place of a text to what reading comes to from there on: a value and the
-- place right behind what was read, or the first fault from left to right. Sentences of a grammar are put together
-- from smaller forms: one after another, again and again, one or the other.
use Rattle.std.specs.Prelude.{◌≡◌, ℕ, ◌<◌, ◌≤◌, Bool, true, false, Ok, Err, Result}

-- What reading from one place on comes to.
pub data Outcome (A E : Type 0) : Type 0 where
  got : A → ℕ → Outcome A E
  bad : E → Outcome A E

-- A form says which outcomes there are from each place.
abbrev pub Form : Type 0 → Type 0 → Type 1
Form A E = ℕ → Outcome A E → Type 0

-- First F, then G, which may depend on what F read. The first fault ends it.
pub data Then {A B E : Type 0} (F : Form A E) (G : A → Form B E) (from : ℕ) : Outcome B E → Type 0 where
  goes : (a : A) (mid : ℕ) (o : Outcome B E) → F from (got a mid) → G a mid o → Then F G from o
  stops : (e : E) → F from (bad e) → Then F G from (bad e)

-- Turn after turn, as long as the test says so of the place where the next one would begin.
pub data Loop {A E : Type 0} (more : ℕ → Bool) (Turn : A → Form A E) : A → ℕ → Outcome A E → Type 0 where
  done : (a : A) (from : ℕ) → more from ≡ false → Loop more Turn a from (got a from)
  turn : (a b : A) (from mid : ℕ) (o : Outcome A E) → more from ≡ true → Turn a from (got b mid) → Loop more Turn b mid o → Loop more Turn a from o
  breaks : (a : A) (from : ℕ) (e : E) → more from ≡ true → Turn a from (bad e) → Loop more Turn a from (bad e)

-- F where the test says so of the place, else G.
pub data Branch {A E : Type 0} (test : ℕ → Bool) (F G : Form A E) (from : ℕ) (o : Outcome A E) : Type 0 where
  taken : test from ≡ true → F from o → Branch test F G from o
  left : test from ≡ false → G from o → Branch test F G from o

-- A form that knows where it begins.
pub record From {A E : Type 0} (F : ℕ → Form A E) (from : ℕ) (o : Outcome A E) : Type 0 where
  pub begun : F from from o

-- What is known without reading further: the outcome is computed from the place.
pub record Just {A E : Type 0} (f : ℕ → Outcome A E) (from : ℕ) (o : Outcome A E) : Type 0 where
  pub is : o ≡ f from

-- A result at a place, as an outcome.
abbrev pub outcome : {A E : Type 0} → Result A E → ℕ → Outcome A E
outcome (Ok v) to = got v to
outcome (Err e) to = bad e

-- A result that is known already; nothing is read.
pub record Give {A E : Type 0} (x : Result A E) (from : ℕ) (o : Outcome A E) : Type 0 where
  pub is : o ≡ outcome x from

-- F, whose faults travel up inside those of the layer above.
pub data Lifted {A E D : Type 0} (up : E → D) (F : Form A E) (from : ℕ) : Outcome A D → Type 0 where
  well : (a : A) (to : ℕ) → F from (got a to) → Lifted up F from (got a to)
  fault : (e : E) → F from (bad e) → Lifted up F from (bad (up e))

-- At each place there is at most one outcome.
abbrev pub Exact : {A E : Type 0} → Form A E → Type 0
Exact {A} {E} F = (from : ℕ) (o p : Outcome A E) → F from o → F from p → o ≡ p

-- Reading does not go back; reading goes on by a byte at least.
abbrev pub Forward : {A E : Type 0} → Form A E → Type 0
Forward {A} F = (from to : ℕ) (a : A) → F from (got a to) → from ≤ to

abbrev pub Onward : {A E : Type 0} → Form A E → Type 0
Onward {A} F = (from to : ℕ) (a : A) → F from (got a to) → from < to

-- An outcome that stays within a text of that length.
abbrev pub Inside : {A E : Type 0} → ℕ → Outcome A E → Type 0
Inside len (got a to) = to ≤ len
Inside len (bad e) = Unit {0}

-- From each place of a text of that length there is an outcome.
abbrev pub Total : {A E : Type 0} → ℕ → Form A E → Type 0
Total {A} {E} len F = (from : ℕ) → from ≤ len → (o : Outcome A E) × F from o × Inside len o
