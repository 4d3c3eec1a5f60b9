-- No solution is passed.
use Rattle.std.proofs.Common.{◌≡◌, ℕ, zero, suc, ◌+◌, ◌<◌, cond, eqb, ◌⊎◌, List, sym, refl, ap, ◌∙◌, subst, inl, inr, arith}
use Rattle.std.proofs.lemmas.Bool.{eq-eqb, ne_eqb, lt-ltb, le-ltb, cases_eq, cases_lt, cases_order}
use Rattle.rules.specs.declared.Mark.{Mark}
use Rattle.rules.specs.declared.Mark.TheVariants.{Free, Zero, One}
use Rattle.rules.specs.declared.term.Literal.{Literal}
use Rattle.derive.specs.Derive.{Keeps, Extends}
use Rattle.engine.specs.Held.{Held}
use Rattle.engine.specs.Questions.{Solution}
use Rattle.backtrack.specs.Walk.{Path, deeper, turned, LastZero, NoZero, Exhausted, Dead}

-- ---- marks
same_or_not : (a b : Mark) → (a ≡ b) ⊎ (a ≡ b → ⊥)
same_or_not Free Free = inl refl
same_or_not Free Zero = inr (λ e. let z : ◌≡◌ {A = ℕ} 0 1 = cc in omega arith)
same_or_not Free One = inr (λ e. let z : ◌≡◌ {A = ℕ} 0 1 = cc in omega arith)
same_or_not Zero Free = inr (λ e. let z : ◌≡◌ {A = ℕ} 0 1 = cc in omega arith)
same_or_not Zero Zero = inl refl
same_or_not Zero One = inr (λ e. let z : ◌≡◌ {A = ℕ} 0 1 = cc in omega arith)
same_or_not One Free = inr (λ e. let z : ◌≡◌ {A = ℕ} 0 1 = cc in omega arith)
same_or_not One Zero = inr (λ e. let z : ◌≡◌ {A = ℕ} 0 1 = cc in omega arith)
same_or_not One One = inl refl

pub zero_not_one : (m : Mark) → m ≡ Zero → m ≡ One → ⊥
zero_not_one m z o = let y : ◌≡◌ {A = ℕ} 0 1 = cc in omega arith

zero_not_free : (m : Mark) → m ≡ Zero → m ≡ Free → ⊥
zero_not_free m z o = let y : ◌≡◌ {A = ℕ} 0 1 = cc in omega arith

one_not_free : (m : Mark) → m ≡ One → m ≡ Free → ⊥
one_not_free m z o = let y : ◌≡◌ {A = ℕ} 0 1 = cc in omega arith

keeps_itself : (m : Mark) → Keeps m m
keeps_itself Free = tt
keeps_itself Zero = refl
keeps_itself One = refl

-- a mark that is there and is not 1 is 0
other_is_zero : (m : Mark) → (m ≡ Free → ⊥) → (m ≡ One → ⊥) → m ≡ Zero
other_is_zero Free f o = absurd (f refl)
other_is_zero Zero f o = refl
other_is_zero One f o = absurd (o refl)

-- ---- the next marks at each place
pub deeper_at : (p : ℕ → Mark) (d : ℕ) → deeper p d d ≡ Zero
deeper_at p d = ap (λ b. cond b Zero (p d)) (eq-eqb d d refl)

pub deeper_other : (p : ℕ → Mark) (d i : ℕ) → (i ≡ d → ⊥) → deeper p d i ≡ p i
deeper_other p d i ne = ap (λ b. cond b Zero (p i)) (ne_eqb i d ne)

pub turned_below : (p : ℕ → Mark) (t i : ℕ) → i < t → turned p t i ≡ p i
turned_below p t i l = ap (λ b. cond b (p i) (cond (eqb i t) One Free)) (lt-ltb i t l)

pub turned_at : (p : ℕ → Mark) (t : ℕ) → turned p t t ≡ One
turned_at p t = ap (λ b. cond b (p t) (cond (eqb t t) One Free)) (le-ltb t t (omega arith)) ∙ ap (λ b. cond b One Free) (eq-eqb t t refl)

pub turned_above : (p : ℕ → Mark) (t i : ℕ) → t < i → turned p t i ≡ Free
turned_above p t i l = ap (λ b. cond b (p i) (cond (eqb i t) One Free)) (le-ltb i t (omega arith)) ∙ ap (λ b. cond b One Free) (ne_eqb i t (λ e. omega arith))

-- ---- two markings agree on the first d variables, or differ first at some place
record Differ (p s : ℕ → Mark) (d : ℕ) : Type 0 where
  place : ℕ
  within : place < d
  differs : s place ≡ p place → ⊥
  same : (j : ℕ) → j < place → s j ≡ p j

compare : (p s : ℕ → Mark) (d : ℕ) → ((j : ℕ) → j < d → s j ≡ p j) ⊎ Differ p s d
compare p s zero = inl (λ j l. absurd (omega arith))
compare p s (suc d) =
    elim (compare p s d) [
      | inr f ↦ inr (record { place = f.place; within = omega (arith, f.within); differs = f.differs; same = f.same })
      | inl same ↦ elim (same_or_not (s d) (p d)) [
        | inl e ↦ inl (λ j l. elim (cases_eq j d) [ inl q ↦ rw q e | inr b ↦ same j (omega arith) ])
        | inr ne ↦ inr (record { place = d; within = omega arith; differs = ne; same = same })
      ]
    ]

-- marks that agree on the path's variables extend it
agrees_extends : (n : ℕ) (p s : ℕ → Mark) (d : ℕ) → Path n p d → ((j : ℕ) → j < d → s j ≡ p j) → Extends p s
agrees_extends n p s d path same i =
    elim (cases_lt i d) [
      | inl l ↦ rw (same i l) (keeps_itself (p i))
      | inr l ↦ rw (path.free i l) tt
    ]

-- ---- the laws
-- at the start nothing was passed
pub exhausted_start : (h : Held) (ls : List Literal) (p : ℕ → Mark) → Exhausted h ls p 0
exhausted_start h ls p s sol b = omega (arith, b.within)

-- with a 0 more, what was passed was passed before
pub exhausted_deeper : (h : Held) (ls : List Literal) (p q : ℕ → Mark) (d : ℕ) → ((i : ℕ) → q i ≡ deeper p d i) → Exhausted h ls p d → Exhausted h ls q (d + 1)
exhausted_deeper h ls p q d is old s sol b =
    elim (cases_eq b.place d) [
      | inl e ↦ zero_not_one (q d) (is d ∙ deeper_at p d) (subst (λ i. q i ≡ One) e b.one)
      | inr ne ↦ old s sol (record {
        place = b.place;
        within = omega (arith, b.within);
        one = sym (is b.place ∙ deeper_other p d b.place ne) ∙ b.one;
        zero = b.zero;
        same = λ j l. b.same j l ∙ (is j ∙ deeper_other p d j (λ e. omega (arith, b.within)));
      })
    ]

-- a marking that is the same up to the path's last 0, which it has too, is on the path or was passed
below_last_zero : (h : Held) (ls : List Literal) (n : ℕ) (p s : ℕ → Mark) (d t : ℕ) → Path n p d → h.variables ≡ n → LastZero p d t → Dead h ls p → Exhausted h ls p d
    → Solution h ls s → s t ≡ Zero → ((j : ℕ) → j < t → s j ≡ p j) → ⊥
below_last_zero h ls n p s d t path wide last dead old sol off same =
    elim (compare p s d) [
      | inl all ↦ dead s sol (agrees_extends n p s d path all)
      | inr f ↦
          let at = f.place in
          let past : t < at = elim (cases_order t at) [
            | inl e ↦ absurd (f.differs (subst (λ i. s i ≡ p i) e (off ∙ sym last.zero)))
            | inr o ↦ elim o [ inl l ↦ l | inr l ↦ absurd (f.differs (same at l)) ]
          ] in
          let one = last.later at past f.within in
          old s sol (record {
            place = at;
            within = f.within;
            one = one;
            zero = other_is_zero (s at) (sol.full at (omega (arith, f.within, path.deep))) (λ o. f.differs (o ∙ sym one));
            same = f.same;
          })
    ]

-- the last 0 is turned where no solution has the path's marks
pub exhausted_turned : (h : Held) (ls : List Literal) (n : ℕ) (p q : ℕ → Mark) (d t : ℕ) → Path n p d → h.variables ≡ n → LastZero p d t → Dead h ls p
    → ((i : ℕ) → q i ≡ turned p t i) → Exhausted h ls p d → Exhausted h ls q (t + 1)
exhausted_turned h ls n p q d t path wide last dead is old s sol b =
    elim (cases_eq b.place t) [
      | inl e ↦ below_last_zero h ls n p s d t path wide last dead old sol
          (subst (λ i. s i ≡ Zero) e b.zero)
          (λ j l. b.same j (omega (arith, e)) ∙ (is j ∙ turned_below p t j l))
      | inr ne ↦
          let l : b.place < t = omega (arith, b.within, ne) in
          old s sol (record {
            place = b.place;
            within = omega (arith, last.below);
            one = sym (is b.place ∙ turned_below p t b.place l) ∙ b.one;
            zero = b.zero;
            same = λ j k. b.same j k ∙ (is j ∙ turned_below p t j (omega arith));
          })
    ]

-- without a 0 to turn there is no solution
pub none_left : (h : Held) (ls : List Literal) (n : ℕ) (p : ℕ → Mark) (d : ℕ) → Path n p d → h.variables ≡ n → NoZero p d → Dead h ls p → Exhausted h ls p d
    → (s : ℕ → Mark) → Solution h ls s → ⊥
none_left h ls n p d path wide ones dead old s sol =
    elim (compare p s d) [
      | inl all ↦ dead s sol (agrees_extends n p s d path all)
      | inr f ↦
          let one = ones f.place f.within in
          old s sol (record {
            place = f.place;
            within = f.within;
            one = one;
            zero = other_is_zero (s f.place) (sol.full f.place (omega (arith, f.within, path.deep))) (λ o. f.differs (o ∙ sym one));
            same = f.same;
          })
    ]

-- ---- paths
pub path_start : (n : ℕ) (p : ℕ → Mark) → ((i : ℕ) → p i ≡ Free) → Path n p 0
path_start n p free = record { deep = omega arith; marked = λ i l. absurd (omega arith); free = λ i l. free i }

pub path_deeper : (n : ℕ) (p q : ℕ → Mark) (d : ℕ) → d < n → ((i : ℕ) → q i ≡ deeper p d i) → Path n p d → Path n q (d + 1)
path_deeper n p q d l is path = record {
  deep = omega arith;
  marked = λ i b e. elim (cases_eq i d) [
    | inl at ↦ zero_not_free (q d) (is d ∙ deeper_at p d) (subst (λ j. q j ≡ Free) at e)
    | inr ne ↦ path.marked i (omega arith) (sym (is i ∙ deeper_other p d i ne) ∙ e)
  ];
  free = λ i b. is i ∙ (deeper_other p d i (λ e. omega arith) ∙ path.free i (omega arith));
}

pub path_turned : (n : ℕ) (p q : ℕ → Mark) (d t : ℕ) → t < d → ((i : ℕ) → q i ≡ turned p t i) → Path n p d → Path n q (t + 1)
path_turned n p q d t l is path = record {
  deep = omega (arith, path.deep);
  marked = λ i b e. elim (cases_eq i t) [
    | inl at ↦ one_not_free (q t) (is t ∙ turned_at p t) (subst (λ j. q j ≡ Free) at e)
    | inr ne ↦ let k : i < t = omega arith in path.marked i (omega arith) (sym (is i ∙ turned_below p t i k) ∙ e)
  ];
  free = λ i b. is i ∙ turned_above p t i (omega arith);
}
