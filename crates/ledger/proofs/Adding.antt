-- One rule more: the next row is written and the number of rules is one more.
use Rattle.std.proofs.Common.{◌≡◌, ℕ, zero, suc, ◌+◌, ◌-◌, ◌*◌, ◌/◌, ◌%◌, ◌<◌, ◌≤◌, Bool, true, false, not, ◌&&◌, eqb, ltb, List, [], ◌∷◌, ◌++◌, map, length, set, replicate, ℤ, pos, negsuc, ◌+ℤ◌, nat_abs, ◌≤ℤ◌, sym, refl, ap, ◌∙◌, subst, inl, inr, arith, length-set}
use lib.ListN.{length-replicate}
use Rattle.std.specs.List.{range_with_len}
use Rattle.std.proofs.lemmas.List.FromFn.{length-map-range_with_len, get_or-map-range_with_len, map-range_with_len_more, fill_by_all}
use Rattle.std.proofs.lemmas.List.{get_or-set_same, get_or-set_other}
use Rattle.std.proofs.lemmas.Int.{ints}
use Rattle.std.proofs.lemmas.Bool.{cases_lt, cases_eq, lt-ltb, ltb-false, and_cases}
use Rattle.std.proofs.lemmas.Bool.Decides.{nat_tests}
use Rattle.rules.specs.Rule.{at, size, kept}
use Rattle.rules.proofs.Sum.{total_same}
use Rattle.rules.specs.Terms.{signed, placed, row_of}
use Rattle.rules.specs.declared.term.Term.{Term as Pair}
use Rattle.rules.specs.declared.term.Rule.{Rule as Row}
use Rattle.engine.specs.Held.{Held, Every, GoodTerm, blank, rule_of, with_rule}
use Rattle.store.proofs.Rows.{row_small, row_beyond}
use Rattle.table.specs.declared.place.Limits.{Limits}
use Rattle.table.specs.declared.place.Place.{Place}
use Rattle.table.specs.declared.place.Place.TheVariants.{Parts, Rules, Base, Priced, Weight, Degree, Coefficient}
use Rattle.table.specs.Layout.{word, base, weight, parts_of, rules_of, degree, coefficient, declared, stated, priced, place_of, range, used, limits_of, Within, Fine}
use Rattle.table.specs.Meaning.{chosen, weights}
use Rattle.table.proofs.Places.{parts_most, place_parts, place_rules, place_base, place_priced, place_weight, place_degree, place_coefficient}
use Rattle.ledger.specs.View.{coefficient_at, row_at, rule_at, held_by}
use Rattle.ledger.specs.Taking.{Written, SamePrice}
use Rattle.ledger.specs.Reading.{row_length, row_place, row_is, inner, outer}

-- a word that is used, or 0
used_fits : (b : Bool) (lo hi v : ℤ) → lo ≤ℤ v → v ≤ℤ hi → (b ≡ false → v ≡ pos 0) → Within (used b (range lo hi)) v
used_fits true lo hi v x y f = (x, y)
used_fits false lo hi v x y f = let e = f refl in (omega (arith, ints), omega (arith, ints))

-- T has k rules; U has one more, with this degree and this row, and else the words of T
pub record Pushed (T : List ℤ) (k d : ℕ) (row : List ℤ) (U : List ℤ) : Type 0 where
  pub was : rules_of T ≡ k
  pub count : word U 1 ≡ pos (k + 1)
  pub degree : word U (44 + 41 * k) ≡ pos d
  pub coefficients : (i : ℕ) → i < 40 → coefficient U k i ≡ at row i
  pub before : (w : ℕ) → (w ≡ 1 → ⊥) → w < 44 + 41 * k → word U w ≡ word T w
  pub after : (w : ℕ) → 44 + 41 * k + 41 ≤ w → word U w ≡ word T w

-- the row is written, and then the number of rules
pub written_pushed : (T : List ℤ) (k d : ℕ) (row W : List ℤ) (v : ℤ) → length W ≡ 2668 → rules_of T ≡ k → v ≡ pos (k + 1) → Written T k d row W → Pushed T k d row (set W 1 v)
written_pushed T k d row W v whole was is p =
    record {
      was = was;
      count = get_or-set_same W 1 v (pos 0) (omega arith) ∙ is;
      degree = get_or-set_other W 1 (44 + 41 * k) v (pos 0) (λ e. omega arith) ∙ p.degree;
      coefficients = λ i l. get_or-set_other W 1 (44 + 41 * k + (1 + i)) v (pos 0) (λ e. omega arith) ∙ p.coefficients i l;
      before = λ w ne l. get_or-set_other W 1 w v (pos 0) ne ∙ p.before w l;
      after = λ w l. get_or-set_other W 1 w v (pos 0) (λ e. omega arith) ∙ p.after w l;
    }

placed_length : (row : List ℤ) (ts : List Pair) → length (placed row ts) ≡ length row
placed_length row [] = refl
placed_length row (t ∷ ts) = placed_length (set row t.literal.variable (signed t)) ts ∙ simp length-set

pub row_of_length : (ts : List Pair) → length (row_of ts) ≡ 80
row_of_length ts = placed_length (replicate 80 (pos 0)) ts ∙ length-replicate 80 (pos 0)

abbrev held_of : ℕ → List Row → Held
held_of n rs = record { variables = n; rules = rs }

module _ (T : List ℤ) (k d : ℕ) (row : List ℤ) (U : List ℤ) (p : Pushed T k d row U) where
  same_parts : parts_of U ≡ parts_of T
  same_parts = ap nat_abs (p.before 0 (λ e. omega arith) (omega arith))

  same_priced : priced U ≡ priced T
  same_priced = ap (λ (z : ℤ). not (eqb (nat_abs z) 0)) (p.before 3 (λ e. omega arith) (omega arith))

  pub more : rules_of U ≡ k + 1
  more = ap nat_abs p.count

  -- ---- the price
  same_weights : (x : ℕ → Bool) → weights U x ≡ weights T x
  same_weights x =
      total_same 40 (λ i. kept (weight U i) (chosen x i)) (λ i. kept (weight T i) (chosen x i))
      (λ i b. ap (λ (z : ℤ). kept z (chosen x i)) (p.before (4 + i) (λ e. omega arith) (omega arith)))

  pub same_price : SamePrice T U
  same_price = record {
    line = same_priced;
    choices = λ x. ap (λ (z : ℤ). z +ℤ pos (weights U x)) (p.before 2 (λ e. omega arith) (omega arith)) ∙ ap (λ (n : ℕ). base T +ℤ pos n) (same_weights x);
  }

  -- ---- the rules
  same_word : (j i : ℕ) → (j ≡ k → ⊥) → i < 41 → word U (44 + 41 * j + i) ≡ word T (44 + 41 * j + i)
  same_word j i ne b =
      elim (cases_lt j k) [
        | inl l ↦ p.before (44 + 41 * j + i) (λ e. omega arith) (omega arith)
        | inr l ↦ p.after (44 + 41 * j + i) (omega arith)
      ]

  same_coefficient : (j i : ℕ) → (j ≡ k → ⊥) → i < 40 → coefficient U j i ≡ coefficient T j i
  same_coefficient j i ne b = same_word j (1 + i) ne (omega arith)

  same_degree : (j : ℕ) → (j ≡ k → ⊥) → word U (44 + 41 * j) ≡ word T (44 + 41 * j)
  same_degree j ne = let e : 44 + 41 * j + 0 ≡ 44 + 41 * j = omega arith in subst (λ (w : ℕ). word U w ≡ word T w) e (same_word j 0 ne (omega arith))

  same_at : (j i : ℕ) → (j ≡ k → ⊥) → coefficient_at U j i ≡ coefficient_at T j i
  same_at j i ne =
      elim (cases_lt i 40) [
        | inl b ↦ inner U j i b ∙ (same_coefficient j i ne b ∙ sym (inner T j i b))
        | inr b ↦ outer U j i b ∙ sym (outer T j i b)
      ]

  old_rule : (j : ℕ) → j < k → rule_at U j ≡ rule_at T j
  old_rule j l =
      let ne : j ≡ k → ⊥ = λ e. omega arith in
      let rows : row_at U j ≡ row_at T j = row_is T j (row_at U j) (row_length U j) (λ i b. row_place U j i ∙ same_at j i ne) in
      let degrees : degree U j ≡ degree T j = ap nat_abs (same_degree j ne) in
      cc

  new_rule : length row ≡ 80 → ((i : ℕ) → 40 ≤ i → at row i ≡ pos 0) → rule_at U k ≡ record { coefficients = row; degree = d }
  new_rule wide zeros =
      let rows : row ≡ row_at U k = row_is U k row wide (λ i b. elim (cases_lt i 40) [
        | inl l ↦ sym (p.coefficients i l) ∙ sym (inner U k i l)
        | inr l ↦ zeros i l ∙ sym (outer U k i l)
      ]) in
      let degrees : degree U k ≡ d = ap nat_abs p.degree in
      cc

  old_rules : map (rule_at U) (range_with_len 0 k) ≡ map (rule_at T) (range_with_len 0 k)
  old_rules =
      fill_by_all (rule_at T) (map (rule_at U) (range_with_len 0 k)) k blank (length-map-range_with_len (rule_at U) 0 k)
      (λ j l. get_or-map-range_with_len (rule_at U) 0 k j j blank l (omega arith) ∙ old_rule j l)

  pub held_more : length row ≡ 80 → ((i : ℕ) → 40 ≤ i → at row i ≡ pos 0) → held_by U ≡ with_rule (record { coefficients = row; degree = d }) (held_by T)
  held_more wide zeros =
      let new : Row = record { coefficients = row; degree = d } in
      let rules : (held_by U).rules ≡ (held_by T).rules ++ (new ∷ []) =
      ap (λ (n : ℕ). map (rule_at U) (range_with_len 0 n)) more
      ∙ (map-range_with_len_more (rule_at U) 0 k k (omega arith)
      ∙ (ap (λ (rs : List Row). rs ++ (rule_at U k ∷ [])) old_rules
      ∙ (ap (λ (r : Row). map (rule_at T) (range_with_len 0 k) ++ (r ∷ [])) (new_rule wide zeros)
      ∙ ap (λ (n : ℕ). map (rule_at T) (range_with_len 0 n) ++ (new ∷ [])) (sym p.was)))) in
      ap (λ (n : ℕ). held_of n (held_by U).rules) same_parts ∙ ap (held_of (parts_of T)) rules

  -- ---- the layout
  at_place : (w : ℕ) (q : Place) (v : ℤ) → place_of w ≡ q → word U w ≡ v → Within (limits_of U q) v → Fine U w
  at_place w q v e s f = subst (λ (x : Place). Within (limits_of U x) (word U w)) (sym e) (subst (λ (z : ℤ). Within (limits_of U q) z) (sym s) f)

  -- a word that is as it was, with the limits that it had
  module _ (fine : (w : ℕ) → w < 2668 → Fine T w) (room : k < 64) where
    moved : (w : ℕ) (q : Place) → w < 2668 → place_of w ≡ q → limits_of U q ≡ limits_of T q → word U w ≡ word T w → Fine U w
    moved w q l e same s =
        at_place w q (word T w) e s
        (subst (λ (x : Limits). Within x (word T w)) (sym same) (subst (λ (x : Place). Within (limits_of T x) (word T w)) e (fine w l)))

    low_word : (w : ℕ) → w < 44 → Fine U w
    low_word zero l = moved 0 Parts (omega arith) place_parts refl (p.before 0 (λ e. omega arith) (omega arith))
    low_word (suc zero) l = at_place 1 Rules (pos (k + 1)) place_rules p.count (omega (arith, ints), omega (arith, ints))
    low_word (suc (suc zero)) l = moved 2 Base (omega arith) place_base (ap (λ (b : Bool). used b (range (negsuc 3999999) (pos 0))) same_priced) (p.before 2 (λ e. omega arith) (omega arith))
    low_word (suc (suc (suc zero))) l = moved 3 Priced (omega arith) place_priced refl (p.before 3 (λ e. omega arith) (omega arith))
    low_word (suc (suc (suc (suc i)))) l =
        let e : 4 + i ≡ suc (suc (suc (suc i))) = omega arith in
        subst (λ (x : ℕ). Fine U x) e
        (moved (4 + i) (Weight i) (omega arith) (place_weight i (omega arith))
        (ap (λ (b : Bool). used (b && declared U i) (range (negsuc 99999) (pos 100000))) same_priced
        ∙ ap (λ (n : ℕ). used (priced T && ltb i n) (range (negsuc 99999) (pos 100000))) same_parts)
        (p.before (4 + i) (λ q. omega arith) (omega arith)))

    same_stated : (j : ℕ) → (j ≡ k → ⊥) → stated U j ≡ stated T j
    same_stated j ne = let e = more in let f = p.was in grind (arith, nat_tests)

    old_word : (j i : ℕ) → j < 64 → i < 41 → (j ≡ k → ⊥) → Fine U (44 + 41 * j + i)
    old_word j zero l b ne =
        let e : 44 + 41 * j ≡ 44 + 41 * j + 0 = omega arith in
        subst (λ (x : ℕ). Fine U x) e
        (moved (44 + 41 * j) (Degree j) (omega arith) (place_degree j) (ap (λ (t : Bool). used t (range (pos 0) (pos 140000000))) (same_stated j ne)) (same_degree j ne))
    old_word j (suc i) l b ne =
        let e : 44 + 41 * j + (1 + i) ≡ 44 + 41 * j + suc i = omega arith in
        subst (λ (x : ℕ). Fine U x) e
        (moved (44 + 41 * j + (1 + i)) (Coefficient j i) (omega arith) (place_coefficient j i (omega arith))
        (ap (λ (t : Bool). used (t && declared U i) (range (negsuc 999999) (pos 1000000))) (same_stated j ne)
        ∙ ap (λ (n : ℕ). used (stated T j && ltb i n) (range (negsuc 999999) (pos 1000000))) same_parts)
        (same_coefficient j i ne (omega arith)))

    -- the row that is written
    module _ (most : d ≤ 140000000) (small : (i : ℕ) → size (at row i) ≤ 1000000) (beyond : (i : ℕ) → parts_of T ≤ i → at row i ≡ pos 0) where
      stated_now : stated U k ≡ true
      stated_now = lt-ltb k (rules_of U) (omega (arith, more))

      new_word : (i : ℕ) → i < 41 → Fine U (44 + 41 * k + i)
      new_word zero b =
          let e : 44 + 41 * k ≡ 44 + 41 * k + 0 = omega arith in
          subst (λ (x : ℕ). Fine U x) e
          (at_place (44 + 41 * k) (Degree k) (pos d) (place_degree k) p.degree
          (used_fits (stated U k) (pos 0) (pos 140000000) (pos d) (omega (arith, ints)) (omega (arith, ints)) (λ f. absurd (no_false stated_now f))))
        where
          no_false : {t : Bool} → t ≡ true → t ≡ false → ⊥
          no_false a f = let z : ◌≡◌ {A = ℕ} 0 1 = cc in omega arith
      new_word (suc i) b =
          let e : 44 + 41 * k + (1 + i) ≡ 44 + 41 * k + suc i = omega arith in
          let s = small i in
          subst (λ (x : ℕ). Fine U x) e
          (at_place (44 + 41 * k + (1 + i)) (Coefficient k i) (at row i) (place_coefficient k i (omega arith)) (p.coefficients i (omega arith))
          (used_fits (stated U k && declared U i) (negsuc 999999) (pos 1000000) (at row i) (omega (arith, ints)) (omega (arith, ints))
          (λ f. elim (and_cases (stated U k) (declared U i) f) [
            | inl g ↦ let t = stated_now in let z : ◌≡◌ {A = ℕ} 0 1 = cc in absurd (omega arith)
            | inr g ↦ beyond i (omega (arith, ltb-false i (parts_of U) g, same_parts))
          ])))

      by_row : (j i : ℕ) → j < 64 → i < 41 → Fine U (44 + 41 * j + i)
      by_row j i l b =
          elim (cases_eq j k) [
            | inl e ↦ subst (λ (x : ℕ). Fine U (44 + 41 * x + i)) (sym e) (new_word i b)
            | inr ne ↦ old_word j i l b ne
          ]

      pub fine_more : (w : ℕ) → w < 2668 → Fine U w
      fine_more w l =
          elim (cases_lt w 44) [
            | inl b ↦ low_word w b
            | inr b ↦
                let q : 44 + 41 * ((w - 44) / 41) + (w - 44) % 41 ≡ w = omega arith in
                let m : (w - 44) % 41 < 41 = omega arith in
                let n : (w - 44) / 41 < 64 = omega arith in
                subst (λ (x : ℕ). Fine U x) q (by_row ((w - 44) / 41) ((w - 44) % 41) n m)
          ]

-- the table U is that of T with one rule more
pub record Outcome (T : List ℤ) (d : ℕ) (ts : List Pair) (U : List ℤ) : Type 0 where
  pub whole : length U ≡ 2668
  pub fine : (w : ℕ) → w < 2668 → Fine U w
  pub held : held_by U ≡ with_rule (rule_of ts d) (held_by T)
  pub price : SamePrice T U

-- so it is where the terms are good, their row is written, and the number of rules is one more
module _ (T : List ℤ) (fine : (w : ℕ) → w < 2668 → Fine T w) (k d : ℕ) (ts : List Pair) (row W : List ℤ) (v : ℤ)
    (good : Every (GoodTerm 1000000 (parts_of T) ts) (length ts)) (is_row : row ≡ row_of ts) (room : k < 64) (most : d ≤ 140000000)
    (whole : length W ≡ 2668) (was : rules_of T ≡ k) (next : v ≡ pos (k + 1)) (written : Written T k d row W) where
  is_pushed : Pushed T k d row (set W 1 v)
  is_pushed = written_pushed T k d row W v whole was next written

  beyond : (i : ℕ) → parts_of T ≤ i → at row i ≡ pos 0
  beyond i l = ap (λ (r : List ℤ). at r i) is_row ∙ row_beyond 1000000 (parts_of T) ts good i l

  added_fine : (w : ℕ) → w < 2668 → Fine (set W 1 v) w
  added_fine =
      fine_more T k d row (set W 1 v) is_pushed fine room most
      (λ i. omega (arith, ap (λ (r : List ℤ). size (at r i)) is_row, row_small 1000000 (parts_of T) ts good i)) beyond

  added_held : held_by (set W 1 v) ≡ with_rule (rule_of ts d) (held_by T)
  added_held =
      held_more T k d row (set W 1 v) is_pushed (ap length is_row ∙ row_of_length ts) (λ i l. beyond i (omega (arith, parts_most T fine)))
      ∙ ap (λ (r : List ℤ). with_rule (record { coefficients = r; degree = d }) (held_by T)) is_row

  pub outcome : Outcome T d ts (set W 1 v)
  outcome = record { whole = simp length-set whole; fine = added_fine; held = added_held; price = same_price T k d row (set W 1 v) is_pushed }
