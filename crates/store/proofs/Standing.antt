-- Which items stand alone, and that good literals and terms do.
use Rattle.std.proofs.Common.{◌≡◌, ℕ, ◌<◌, ◌≤◌, Bool, true, false, List, length, get_or, take, Decides, MatchBool, Option, Some, None, MatchOption, sym, refl, ap, ◌∙◌, arith}
use borrow.Author.Tests.{clash}
use Rattle.std.specs.List.{AllWithin, HoldsAt}
use Rattle.std.proofs.lemmas.List.{get_or-map, length-take-le, get_or-take}
use Rattle.std.proofs.Math.ListN as lists
use Rattle.rules.specs.declared.term.Literal.{Literal}
use Rattle.rules.specs.declared.term.Term.{Term as Pair}
use Rattle.engine.specs.Held.{no_literal, no_term, variable_of, GoodTerm, FirstBad, Every}
use Rattle.engine.specs.Questions.{literal_at, GoodLiteral}
use Rattle.store.specs.Stands.{stands_at, StandsBefore, StandsAlone}

module _ {X : Type 0} (f : X → ℕ) (xs : List X) (i : ℕ) (d : X) (inside : i < length xs) where
  front : (k : ℕ) → k < i → stands_at f xs k ≡ f (get_or (take i xs) k d)
  front k l = get_or-map f xs k d 0 (omega arith) ∙ ap f (sym (get_or-take i xs k d l))

  -- what a search among the items before says of the item of index i
  pub decided : (v : ℕ) (r : Bool) → v ≡ stands_at f xs i
      → MatchBool r ((k : ℕ) × (k < length (take i xs)) × HoldsAt (λ x. f x ≡ v) (take i xs) k) (AllWithin (λ x. f x ≡ v → ⊥) (take i xs) 0 (length (take i xs)))
      → Decides r (StandsBefore f xs i)
  decided v true is m =
      let l : m.0 < i = omega (arith, m.1, length-take-le i xs (omega arith)) in
      ((λ e. (m.0, l, front m.0 l ∙ (m.2 d ∙ is))), λ h. refl)
  decided v false is m = (
    (λ e. absurd (clash e)),
    (λ h. absurd (m h.0 d (omega arith) (omega (arith, h.1, length-take-le i xs (omega arith))) (sym (front h.0 h.1) ∙ (h.2 ∙ sym is)))),
  )

literal_stands : (ls : List Literal) (i : ℕ) → stands_at (λ (l : Literal). l.variable) ls i ≡ (literal_at ls i).variable
literal_stands ls i = lists.get_or-map (λ (l : Literal). l.variable) ls i no_literal

term_stands : (ts : List Pair) (i : ℕ) → stands_at (λ (t : Pair). t.literal.variable) ts i ≡ variable_of ts i
term_stands ts i = lists.get_or-map (λ (t : Pair). t.literal.variable) ts i no_term

-- a literal is good exactly where it stands alone
stands_good : (n : ℕ) (ls : List Literal) (i : ℕ) → StandsAlone (λ (l : Literal). l.variable) n ls i → GoodLiteral n ls i
stands_good n ls i s = record {
  known = omega (arith, s.known, literal_stands ls i);
  once = λ j l q. s.once (j, l, literal_stands ls j ∙ (q ∙ sym (literal_stands ls i)));
}

good_stands : (n : ℕ) (ls : List Literal) (i : ℕ) → GoodLiteral n ls i → StandsAlone (λ (l : Literal). l.variable) n ls i
good_stands n ls i g = record {
  known = omega (arith, g.known, literal_stands ls i);
  once = λ b. g.once b.0 b.1 (sym (literal_stands ls b.0) ∙ (b.2 ∙ literal_stands ls i));
}

pub first_bad_literal : (n : ℕ) (ls : List Literal) (k : ℕ) (r : Option ℕ) → MatchOption r (Every (StandsAlone (λ (l : Literal). l.variable) n ls) k) (λ i. FirstBad (StandsAlone (λ (l : Literal). l.variable) n ls) k i)
    → MatchOption r (Every (GoodLiteral n ls) k) (λ i. FirstBad (GoodLiteral n ls) k i)
first_bad_literal n ls k None h = λ i l. stands_good n ls i (h i l)
first_bad_literal n ls k (Some i) h = record { within = h.within; before = λ j l. stands_good n ls j (h.before j l); bad = λ g. h.bad (good_stands n ls i g) }

-- so is a term whose coefficient is in range
pub good_term : (most n : ℕ) (ts : List Pair) (i : ℕ) (r : Bool) → 0 < (get_or ts i no_term).coefficient → (get_or ts i no_term).coefficient ≤ most
    → Decides r (StandsAlone (λ (t : Pair). t.literal.variable) n ts i) → Decides r (GoodTerm most n ts i)
good_term most n ts i r some small h = (
  (λ e. let s = h.0 e in record {
    some = some;
    small = small;
    known = omega (arith, s.known, term_stands ts i);
    once = λ j l q. s.once (j, l, term_stands ts j ∙ (q ∙ sym (term_stands ts i)));
  }),
  (λ g. h.1 (record {
    known = omega (arith, g.known, term_stands ts i);
    once = λ b. g.once b.0 b.1 (sym (term_stands ts b.0) ∙ (b.2 ∙ term_stands ts i));
  })),
)

-- the first index that fails
pub first_bad : (P : ℕ → Type 0) (n : ℕ) (r : Option ℕ) → MatchOption r ((k : ℕ) → 0 ≤ k → k < n → P k) (λ i. (0 ≤ i) × (i < n) × (P i → ⊥) × ((k : ℕ) → 0 ≤ k → k < i → P k))
    → MatchOption r (Every P n) (λ i. FirstBad P n i)
first_bad P n None h = λ i l. h i (omega arith) l
first_bad P n (Some i) h = record { within = h.1; before = λ j l. h.3 j (omega arith) l; bad = h.2 }
