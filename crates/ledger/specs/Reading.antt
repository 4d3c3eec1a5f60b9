-- What the rules of a table are, by place; that they are within the limits; and that they say what the table says.
use Rattle.std.specs.Prelude.{◌≡◌, ℕ, zero, suc, ◌+◌, ◌-◌, ◌*◌, ◌<◌, ◌≤◌, Bool, true, false, ◌&&◌, List, length, replicate, ℤ, pos, negsuc, Option, Some, None, MatchOption, nat_lt, refl}
use Rattle.std.proofs.Common.{sym, ap, subst, ◌∙◌, inl, inr, arith}
use Rattle.std.proofs.lemmas.List.FromFn.{length-map-range_with_len, get_or-map-range_with_len, fill_by_all}
use Rattle.std.proofs.lemmas.List.{get_or_past}
use Rattle.std.proofs.lemmas.Int.{ints}
use Rattle.std.proofs.lemmas.Bool.{cases_lt, cond-true, cond-false, lt-ltb, le-ltb, and_right}
use Rattle.rules.specs.Sum.{total}
use Rattle.rules.specs.Rule.{at, marked, size, kept, open_sum}
use Rattle.rules.specs.declared.Mark.{Mark}
use Rattle.rules.specs.declared.Mark.TheVariants.{Free, Zero, One}
use Rattle.rules.specs.declared.term.Rule.{Rule as Row}
use Rattle.rules.proofs.Sum.{total_same}
use Rattle.engine.specs.Held.{Fits, nth, blank, MeetsRule, BreaksRule, NoneBroken, FirstBroken}
use Rattle.table.specs.declared.place.Place.{Place}
use Rattle.table.specs.Layout.{parts_of, rules_of, coefficient, declared, stated, range, used, limits_of, Within, Fine}
use Rattle.table.specs.Meaning.{chosen}
use Rattle.table.proofs.Places.{place_coefficient, parts_most, rules_most, degree_most, coefficient_most}
use Rattle.ledger.specs.View.{sheet_limits, coefficient_at, row_at, rule_at, held_by, SameMeaning}

-- ---- by place
pub no_terms : (n i : ℕ) → at (replicate n (pos 0)) i ≡ pos 0
no_terms zero i = refl
no_terms (suc n) zero = refl
no_terms (suc n) (suc i) = no_terms n i

pub row_length : (T : List ℤ) (k : ℕ) → length (row_at T k) ≡ 80
unfolding row_at
row_length T k = length-map-range_with_len (coefficient_at T k) 0 80

pub row_place : (T : List ℤ) (k i : ℕ) → at (row_at T k) i ≡ coefficient_at T k i
unfolding row_at
row_place T k i =
    elim (cases_lt i 80) [
      | inl l ↦ get_or-map-range_with_len (coefficient_at T k) 0 80 i i (pos 0) l (omega arith)
      | inr l ↦ get_or_past (row_at T k) i (pos 0) (omega (arith, row_length T k)) ∙ sym (cond-false (nat_lt i 40) (coefficient T k i) (pos 0) (le-ltb i 40 (omega arith)))
    ]

-- a list of eighty that has the coefficients at their places is the row
pub row_is : (T : List ℤ) (k : ℕ) (row : List ℤ) → length row ≡ 80 → ((i : ℕ) → i < 80 → at row i ≡ coefficient_at T k i) → row ≡ row_at T k
unfolding row_at
row_is T k row whole h = fill_by_all (coefficient_at T k) row 80 (pos 0) whole h

pub inner : (T : List ℤ) (k i : ℕ) → i < 40 → coefficient_at T k i ≡ coefficient T k i
inner T k i l = cond-true (nat_lt i 40) (coefficient T k i) (pos 0) (lt-ltb i 40 l)

pub outer : (T : List ℤ) (k i : ℕ) → 40 ≤ i → coefficient_at T k i ≡ pos 0
outer T k i l = cond-false (nat_lt i 40) (coefficient T k i) (pos 0) (le-ltb i 40 l)

pub count_held : (T : List ℤ) → length (held_by T).rules ≡ rules_of T
count_held T = length-map-range_with_len (rule_at T) 0 (rules_of T)

-- there are few variables, and the rules are no more than the room
pub held_few : (T : List ℤ) → ((w : ℕ) → w < 2668 → Fine T w) → (held_by T).variables ≤ 80
held_few T fine = omega (arith, parts_most T fine)

pub held_room : (T : List ℤ) → ((w : ℕ) → w < 2668 → Fine T w) → length (held_by T).rules ≤ sheet_limits.room
held_room T fine = omega (arith, count_held T, rules_most T fine)

pub nth_held : (T : List ℤ) (k : ℕ) → k < rules_of T → nth (held_by T).rules k ≡ rule_at T k
nth_held T k l = get_or-map-range_with_len (rule_at T) 0 (rules_of T) k k blank l (omega arith)

-- a rule is broken exactly where its row is
pub broken_held : (T : List ℤ) (k : ℕ) (m : ℕ → Mark) → k < rules_of T → BreaksRule (parts_of T) (rule_at T k) m → BreaksRule (parts_of T) (nth (held_by T).rules k) m
broken_held T k m l = subst (λ (r : Row). BreaksRule (parts_of T) r m) (sym (nth_held T k l))

pub none_held : (T : List ℤ) (i : ℕ) (m : ℕ → Mark) → i ≤ rules_of T
    → ((k : ℕ) → k < i → BreaksRule (parts_of T) (rule_at T k) m → ⊥) → NoneBroken (held_by T) i m
none_held T i m l h k b x = h k b (subst (λ (r : Row). BreaksRule (parts_of T) r m) (nth_held T k (omega arith)) x)

-- the first row that is broken is the first rule that is
pub first_found : (T : List ℤ) (n : ℕ) (ms : List Mark) (r : Option ℕ) → n ≡ rules_of T
    → MatchOption r ((k : ℕ) → 0 ≤ k → k < n → BreaksRule (parts_of T) (rule_at T k) (marked ms) → ⊥)
    (λ i. (0 ≤ i) × (i < n) × BreaksRule (parts_of T) (rule_at T i) (marked ms) × ((k : ℕ) → 0 ≤ k → k < i → BreaksRule (parts_of T) (rule_at T k) (marked ms) → ⊥))
    → FirstBroken (held_by T) ms r
first_found T n ms None is h = λ k l. none_held T (rules_of T) (marked ms) (omega arith) (λ j b. h j (omega arith) (omega arith)) k (omega (arith, count_held T))
first_found T n ms (Some i) is h =
    (omega (arith, count_held T, h.1), broken_held T i (marked ms) (omega (arith, h.1)) h.2, none_held T i (marked ms) (omega (arith, h.1)) (λ j b. h.3 j (omega arith) b))

-- ---- limits
unused : (b : Bool) (lo hi v : ℤ) → b ≡ false → Within (used b (range lo hi)) v → v ≡ pos 0
unused true lo hi v e h = let z : ◌≡◌ {A = ℕ} 0 1 = cc in absurd (omega arith)
unused false lo hi v e h = omega (arith, ints)

module _ (T : List ℤ) (fine : (w : ℕ) → w < 2668 → Fine T w) where
  pub undeclared_zero : (k i : ℕ) → k < 64 → i < 40 → parts_of T ≤ i → coefficient T k i ≡ pos 0
  undeclared_zero k i l b n =
      unused (stated T k && declared T i) (negsuc 999999) (pos 1000000) (coefficient T k i) (and_right (stated T k) (declared T i) (le-ltb i (parts_of T) n))
      (subst (λ (q : Place). Within (limits_of T q) (coefficient T k i)) (place_coefficient k i b) (fine (44 + 41 * k + (1 + i)) (omega arith)))

  pub beyond_zero : (k i : ℕ) → k < 64 → parts_of T ≤ i → coefficient_at T k i ≡ pos 0
  beyond_zero k i l n =
      elim (cases_lt i 40) [
        | inl b ↦ inner T k i b ∙ undeclared_zero k i l b n
        | inr b ↦ outer T k i b
      ]

  pub small : (k i : ℕ) → k < 64 → size (coefficient_at T k i) ≤ 1000000
  small k i l =
      elim (cases_lt i 40) [
        | inl b ↦ omega (arith, ap size (inner T k i b), coefficient_most T fine k i l b)
        | inr b ↦ omega (arith, ap size (outer T k i b))
      ]

  pub held_fits : (k : ℕ) → k < length (held_by T).rules → Fits sheet_limits (parts_of T) (nth (held_by T).rules k)
  held_fits k l =
      let b : k < rules_of T = omega (arith, count_held T) in
      let r : k < 64 = omega (arith, rules_most T fine) in
      subst (λ (x : Row). Fits sheet_limits (parts_of T) x) (sym (nth_held T k b))
      (record {
        sizes = λ i. omega (arith, ap size (row_place T k i), small k i r);
        beyond = λ i n. row_place T k i ∙ beyond_zero k i r n;
        degree = degree_most T fine k r;
      })

-- ---- what the rules say
kept_none : (m : Mark) → kept (pos 0) m ≡ 0
kept_none Free = refl
kept_none Zero = refl
kept_none One = refl

-- places that give nothing may be left out
total_rest : (n m : ℕ) (f : ℕ → ℕ) → ((i : ℕ) → n ≤ i → f i ≡ 0) → total f (m + n) ≡ total f n
unfolding total
total_rest n zero f h = ap (total f) (omega arith)
total_rest n (suc m) f h =
    let e : suc m + n ≡ suc (m + n) = omega arith in
    ap (total f) e ∙ omega (arith, total_rest n m f h, h (m + n) (omega arith))

module _ (T : List ℤ) (fine : (w : ℕ) → w < 2668 → Fine T w) where
  -- a rule gives as much over the parts as over all forty places
  pub same_sum : (k : ℕ) (m : ℕ → Mark) → k < 64 → open_sum (parts_of T) (at (row_at T k)) m ≡ open_sum 40 (coefficient T k) m
  same_sum k m l =
      let f : ℕ → ℕ = λ i. kept (at (row_at T k) i) (m i) in
      let most = parts_most T fine in
      let none : (i : ℕ) → parts_of T ≤ i → f i ≡ 0 = λ i n. ap (λ (z : ℤ). kept z (m i)) (row_place T k i ∙ beyond_zero T fine k i l n) ∙ kept_none (m i) in
      let e : 40 ≡ 40 - parts_of T + parts_of T = omega arith in
      sym (ap (total f) e ∙ total_rest (parts_of T) (40 - parts_of T) f none)
      ∙ total_same 40 f (λ i. kept (coefficient T k i) (m i)) (λ i b. ap (λ (z : ℤ). kept z (m i)) (row_place T k i ∙ inner T k i b))

  pub same_meaning : SameMeaning T (held_by T)
  same_meaning = record {
    of_table = λ x h k l.
        let b : k < rules_of T = omega (arith, count_held T) in
        let r : k < 64 = omega (arith, rules_most T fine) in
        subst (λ (y : Row). MeetsRule (parts_of T) y (chosen x)) (sym (nth_held T k b)) (omega (arith, same_sum k (chosen x) r, h k b));
    of_rules = λ x h k b.
        let r : k < 64 = omega (arith, rules_most T fine) in
        let met : MeetsRule (parts_of T) (rule_at T k) (chosen x) = subst (λ (y : Row). MeetsRule (parts_of T) y (chosen x)) (nth_held T k b) (h k (omega (arith, count_held T))) in
        omega (arith, same_sum k (chosen x) r);
  }
