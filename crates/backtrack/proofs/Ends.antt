-- How a path ends: broken, with a solution, or with none.
use Rattle.std.proofs.Common.{◌≡◌, ℕ, zero, suc, ◌<◌, ◌≤◌, Bool, true, false, ◌⊎◌, List, length, sym, refl, ap, ◌∙◌, inl, inr, arith}
use borrow.Author.Tests.{clash}
use Rattle.std.proofs.lemmas.Bool.{cases_eq, cases_lt, cases_Bool}
use Rattle.rules.specs.Rule.{size, kept, Full}
use Rattle.rules.specs.Terms.{coefficient, only}
use Rattle.rules.proofs.Sum.{total_none, part_le}
use Rattle.rules.specs.declared.Mark.{Mark}
use Rattle.rules.specs.declared.Mark.TheVariants.{Free, Zero, One}
use Rattle.rules.specs.declared.term.Literal.{Literal}
use Rattle.rules.specs.declared.term.Rule.{Rule as Row}
use Rattle.derive.specs.Derive.{Keeps, Extends}
use Rattle.derive.proofs.Marks.{marks_refute}
use Rattle.engine.specs.Held.{Held, nth, BreaksRule, NoneBroken}
use Rattle.engine.specs.Questions.{Solution, Refutation}
use Rattle.backtrack.specs.Walk.{Path, Dead}
use Rattle.backtrack.specs.Clause.{refuted, opposed}

-- ---- no solution has the marks
pub dead_by_rule : (h : Held) (ls : List Literal) (p : ℕ → Mark) (k : ℕ) → k < length h.rules → BreaksRule h.variables (nth h.rules k) p → Dead h ls p
dead_by_rule h ls p k l broken s sol e = marks_refute.unmet h.variables _ _ p s e broken (sol.meets k l)

opposed_clash : (a b s : Mark) → opposed a b ≡ true → Keeps a s → Keeps b s → ⊥
opposed_clash Free b s o x y = clash o
opposed_clash Zero Free s o x y = clash o
opposed_clash Zero Zero s o x y = clash o
opposed_clash Zero One s o x y = let z : ◌≡◌ {A = ℕ} 0 1 = cc in omega arith
opposed_clash One Free s o x y = clash o
opposed_clash One Zero s o x y = let z : ◌≡◌ {A = ℕ} 0 1 = cc in omega arith
opposed_clash One One s o x y = clash o

pub dead_by_literal : (h : Held) (ls : List Literal) (p : ℕ → Mark) (v : ℕ) → opposed (only ls v) (p v) ≡ true → Dead h ls p
dead_by_literal h ls p v o s sol e = opposed_clash (only ls v) (p v) (s v) o (sol.assumed v) (e v)

-- ---- a solution
keeps_unopposed : (a b : Mark) → (b ≡ Free → ⊥) → opposed a b ≡ false → Keeps a b
keeps_unopposed Free b f o = tt
keeps_unopposed Zero Free f o = absurd (f refl)
keeps_unopposed Zero Zero f o = refl
keeps_unopposed Zero One f o = absurd (clash (sym o))
keeps_unopposed One Free f o = absurd (f refl)
keeps_unopposed One Zero f o = absurd (clash (sym o))
keeps_unopposed One One f o = refl

-- full marks that oppose no assumed literal extend these
extends_assumed : (n : ℕ) (ls : List Literal) (s : ℕ → Mark) → Full n s → ((v : ℕ) → n ≤ v → only ls v ≡ Free) → ((v : ℕ) → v < n → opposed (only ls v) (s v) ≡ false) → Extends (only ls) s
extends_assumed n ls s full beyond calm v =
    elim (cases_lt v n) [
      | inl l ↦ keeps_unopposed (only ls v) (s v) (full v l) (calm v l)
      | inr l ↦ rw (beyond v l) tt
    ]

pub solution_here : (h : Held) (ls : List Literal) (p : ℕ → Mark) (d : ℕ) → Path h.variables p d → d ≡ h.variables → ((v : ℕ) → h.variables ≤ v → only ls v ≡ Free)
    → ((v : ℕ) → v < d → opposed (only ls v) (p v) ≡ false) → NoneBroken h (length h.rules) p → Solution h ls p
solution_here h ls p d path end beyond calm none = record {
  full = λ i l. path.marked i (omega arith);
  assumed = extends_assumed h.variables ls p (λ i l. path.marked i (omega arith)) beyond (λ v l. calm v (omega arith));
  meets = λ k l. elim (cases_lt _ _) [ inl b ↦ absurd (none k l b) | inr m ↦ m ];
}

-- ---- the clause of the complements of the assumed literals
first_true : (f : ℕ → Bool) (n : ℕ) → ((v : ℕ) → v < n → f v ≡ false) ⊎ ((v : ℕ) × (v < n) × (f v ≡ true))
first_true f zero = inl (λ v l. absurd (omega arith))
first_true f (suc n) =
    elim (first_true f n) [
      | inr x ↦ inr (x.0, omega (arith, x.1), x.2)
      | inl none ↦ elim (cases_Bool (f n)) [
        | inl t ↦ inr (n, omega arith, t)
        | inr f' ↦ inl (λ v l. elim (cases_eq v n) [ inl e ↦ rw e f' | inr ne ↦ none v (omega arith) ])
      ]
    ]

refuted_false : (m : Mark) → kept (refuted m) m ≡ 0
refuted_false Free = refl
refuted_false Zero = refl
refuted_false One = refl

refuted_true : (a b : Mark) → opposed a b ≡ true → kept (refuted a) b ≡ 1
refuted_true Free b o = absurd (clash o)
refuted_true Zero Free o = absurd (clash o)
refuted_true Zero Zero o = absurd (clash o)
refuted_true Zero One o = refl
refuted_true One Free o = absurd (clash o)
refuted_true One Zero o = refl
refuted_true One One o = absurd (clash o)

refuted_small : (m : Mark) → size (refuted m) ≤ 1000000000
refuted_small Free = omega arith
refuted_small Zero = omega arith
refuted_small One = omega arith

module _ (h : Held) (ls : List Literal) (r : Row) (is : (v : ℕ) → coefficient r v ≡ refuted (only ls v)) (one : r.degree ≡ 1)
    (beyond : (v : ℕ) → h.variables ≤ v → only ls v ≡ Free) where
  clause_broken : BreaksRule h.variables r (only ls)
  clause_broken =
      let none = total_none h.variables (λ i. kept (coefficient r i) (only ls i)) (λ i l. ap (λ a. kept a (only ls i)) (is i) ∙ refuted_false (only ls i)) in
      omega arith

  pub clause_refutes : ((s : ℕ → Mark) → Solution h ls s → ⊥) → Refutation h ls r
  clause_refutes none = record {
    fits = record {
      sizes = λ i. rw (is i) (refuted_small (only ls i));
      beyond = λ i l. is i ∙ ap refuted (beyond i l);
      degree = omega arith;
    };
    follows = λ m full meets. elim (first_true (λ v. opposed (only ls v) (m v)) h.variables) [
      | inl calm ↦ absurd (none m (record { full = full; assumed = extends_assumed h.variables ls m full beyond calm; meets = meets }))
      | inr x ↦
          let some = part_le h.variables (λ i. kept (coefficient r i) (m i)) x.0 x.1 in
          let gives : kept (coefficient r x.0) (m x.0) ≡ 1 = ap (λ a. kept a (m x.0)) (is x.0) ∙ refuted_true (only ls x.0) (m x.0) x.2 in
          omega arith
    ];
    broken = clause_broken;
  }
