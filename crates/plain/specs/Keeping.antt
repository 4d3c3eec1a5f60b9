-- The invariants of the plain engine and of its search as records, and their fields.
use Rattle.std.specs.Prelude.{◌≡◌, ℕ, ◌<◌, ◌≤◌, Some, Option, ◌≢◌, refl}
use Rattle.std.specs.Option.{ForSome}
use Rattle.std.proofs.Common.{sym, subst, inl, inr, arith}
use Rattle.std.proofs.lemmas.Bool.{cases_lt}
use Rattle.rules.specs.Terms.{only}
use Rattle.rules.specs.declared.Mark.{Mark}
use Rattle.rules.specs.declared.Mark.TheVariants.{Free, Zero, One}
use Rattle.store.specs.View.{held_in}
use Rattle.store.specs.Assumes.{assumed_in}
use Rattle.store.specs.declared.keep.Store.{Store}
use Rattle.backtrack.specs.Walk.{Path, Exhausted}
use Rattle.plain.specs.Ready.{Ready, at_walk}
use Rattle.plain.specs.declared.walk.Walk.{Walk}
use Rattle.plain.specs.declared.search.Search.{Search}
use Rattle.plain.specs.declared.state.Plain.{Plain}

-- what is not marked otherwise is free
stable : (m : Mark) → ((m ≢ Free) → ⊥) → m ≡ Free
stable Free h = refl
stable Zero h = absurd (h (λ e. let z : ◌≡◌ {A = ℕ} 0 1 = cc in omega arith))
stable One h = absurd (h (λ e. let z : ◌≡◌ {A = ℕ} 0 1 = cc in omega arith))

-- exactly the first variables are marked
pub path_of : (x : Search) (n : ℕ) → x.walk.depth ≤ n → Path n (at_walk x.walk) x.walk.depth
path_of x n l = record { deep = l; marked = x.marked; free = λ i b. stable (at_walk x.walk i) (λ h. omega (arith, x.first i h)) }

-- the fields of a search's invariant
abbrev pub Marks : Walk → Type 0
Marks w = record {
  marked : (i : ℕ) → i < w.depth → at_walk w i ≢ Free;
  first : (i : ℕ) → (at_walk w i ≢ Free) → i < w.depth;
}

pub marks : (w : Walk) (n : ℕ) → Path n (at_walk w) w.depth → Marks w
marks w n p = record { marked = p.marked; first = λ i h. elim (cases_lt i w.depth) [ inl l ↦ l | inr l ↦ absurd (h (p.free i l)) ] }

pub ready : (p : Plain) (x : Search) → p.asking ≡ Some x → Ready p.store x.assumed x.walk
ready p x e = record {
  path = path_of x p.store.variables (p.deep x e);
  beyond = λ v l. stable (only (assumed_in x.assumed) v) (λ h. omega (arith, p.known x e v h));
  exhausted = p.exhausted x e;
}

-- the fields of the state's invariant
abbrev pub Fields : Store → Option Search → Type 0
Fields s o = record {
  deep : ForSome o (λ x. x.walk.depth ≤ s.variables);
  known : ForSome o (λ x. (v : ℕ) → (only (assumed_in x.assumed) v ≢ Free) → v < s.variables);
  exhausted : ForSome o (λ x. Exhausted (held_in s) (assumed_in x.assumed) (at_walk x.walk) x.walk.depth);
}

pub fields : (s : Store) (o : Option Search) → ForSome o (λ x. Ready s x.assumed x.walk) → Fields s o
fields s o r = record {
  deep = λ x e. (r x e).path.deep;
  known = λ x e v h. elim (cases_lt v s.variables) [ inl l ↦ l | inr l ↦ absurd (h ((r x e).beyond v l)) ];
  exhausted = λ x e. (r x e).exhausted;
}

-- a search that is ready may be open
pub fields_open : (s : Store) (y : Search) → Ready s y.assumed y.walk → Fields s (Some y)
fields_open s y r = fields s (Some y) (λ x e. let q : y ≡ x = cc in subst (λ (z : Search). Ready s z.assumed z.walk) q r)

-- a store that is the same keeps it
pub fields_same : (p : Plain) (s : Store) → s ≡ p.store → Fields s p.asking
fields_same p s e = subst (λ t. Fields t p.asking) (sym e) (fields p.store p.asking (ready p))
