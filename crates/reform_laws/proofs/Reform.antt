-- A reformulation keeps its promise: each marking of the old variables that meets the count rule has exactly one setting of the
-- fresh ones, at the same price.
use Rattle.std.proofs.Common.{◌≡◌, ℕ, zero, suc, ◌+◌, ◌-◌, ◌*◌, ◌<◌, ◌≤◌, true, false, cond, eqb, ℤ, pos, sym, refl, ap, ◌∙◌, subst, inl, inr, add-zero, mul_comm, mul-pos, mul-add, arith}
use Rattle.std.proofs.lemmas.Bool.{cases_lt, cases_eq, eq-eqb, ne_eqb}
use Rattle.rules.specs.Sum.{total}
use Rattle.rules.specs.Rule.{size, kept, Full, open_sum, Met}
use Rattle.rules.specs.declared.Mark.{Mark}
use Rattle.rules.specs.declared.Mark.TheVariants.{Free, Zero, One}
use Rattle.rules.proofs.Sum.{total_le, total_same, total_add, total_times, total_none, total_le_but, part_le}
use Rattle.rules.proofs.Rule.{kept_le_size}
use Rattle.cores.specs.Cores.{sizes}
use Rattle.counting.proofs.Counting.{kept_none}
use Rattle.reform_laws.specs.Reform.{fresh_needed, fresh, at_least_row, at_most_row, order_row, MeetsNew, less, new_weight, Suits, Setting, OneSetting, Promise, Reformulating}
use Rattle.reform_laws.proofs.Fresh.{fresh_old, fresh_in, fresh_out, one_if, fresh_count, old, new, beyond, place, kept_zero, mark_cases, both_marks, both_literals, kept_less, size_less, set_fresh, kept_old, set_on, set_off, set_full}

module _ (u : ℕ → ℤ) (b t v k c : ℕ) (w : ℕ → ℤ) (suits : Suits u b t c w v) (needed : k ≡ fresh_needed u b) (room : v + k ≤ 80) where
  many : sizes 80 u ≡ b + k
  many = omega (arith, suits.enough)

  -- 1 for a fresh variable that is 1
  abbrev one_at : (ℕ → Mark) → ℕ → ℕ
  one_at s i = cond (fresh v k i) (kept (pos 1) (s i)) 0

  -- ---- the weights
  module _ (w' : ℕ → ℤ) (are : (i : ℕ) → i < 80 → w' i ≡ new_weight u w v k t i) where
    weight_fresh : (i : ℕ) → i < 80 → v ≤ i → i < v + k → w' i ≡ pos t
    weight_fresh i b g l = are i b ∙ ap (λ f. cond f (pos t) (cond (eqb (size (u i)) 0) (w i) (less t (w i)))) (fresh_in v k i g l)

    weight_other : (i : ℕ) → i < 80 → fresh v k i ≡ false → w' i ≡ cond (eqb (size (u i)) 0) (w i) (less t (w i))
    weight_other i b e = are i b ∙ ap (λ f. cond f (pos t) (cond (eqb (size (u i)) 0) (w i) (less t (w i)))) e

    weight_kept : (i : ℕ) → i < 80 → fresh v k i ≡ false → size (u i) ≡ 0 → w' i ≡ w i
    weight_kept i b e z = weight_other i b e ∙ ap (λ f. cond f (w i) (less t (w i))) (eq-eqb (size (u i)) 0 z)

    weight_less : (i : ℕ) → i < 80 → fresh v k i ≡ false → (size (u i) ≡ 0 → ⊥) → w' i ≡ less t (w i)
    weight_less i b e n = weight_other i b e ∙ ap (λ f. cond f (w i) (less t (w i))) (ne_eqb (size (u i)) 0 n)

    weight_beyond : (i : ℕ) → i < 80 → v + k ≤ i → w' i ≡ pos 0
    weight_beyond i b o =
        let far : v ≤ i = omega arith in
        weight_kept i b (fresh_out v k i o) (ap size ((suits.each i b).absent far)) ∙ (suits.each i b).weightless far

    size_at : (i : ℕ) → i < 80 → size (w i) + t * one_if (fresh v k i) ≡ size (w' i) + t * size (u i)
    size_at i lt = elim (place v k i) [
      | old l ↦ elim (cases_eq (size (u i)) 0) [
        | inl z ↦ omega (
          arith,
          ap (λ f. t * one_if f) (fresh_old v k i l),
          ap size (weight_kept i lt (fresh_old v k i l) z),
          ap (λ s. t * s) z,
        )
        | inr n ↦
            let one : size (u i) ≡ 1 = omega (arith, (suits.each i lt).unit, nonzero (size (u i)) n) in
            omega (
              arith,
              ap (λ f. t * one_if f) (fresh_old v k i l),
              ap size (weight_less i lt (fresh_old v k i l) n),
              size_less t (u i) (w i) ((suits.each i lt).heavy n),
              ap (λ s. t * s) one,
            )
      ]
      | new g l ↦ omega (
        arith,
        ap (λ f. t * one_if f) (fresh_in v k i g l),
        ap size (weight_fresh i lt g l),
        ap size ((suits.each i lt).weightless g),
        ap (λ s. t * size s) ((suits.each i lt).absent g),
      )
      | beyond o ↦
          let far : v ≤ i = omega arith in
          omega (
            arith,
            ap (λ f. t * one_if f) (fresh_out v k i o),
            ap size (weight_beyond i lt o),
            ap size ((suits.each i lt).weightless far),
            ap (λ s. t * size s) ((suits.each i lt).absent far),
          )
    ]
      where
        nonzero : (n : ℕ) → (n ≡ 0 → ⊥) → 1 ≤ n
        nonzero zero f = absurd (f refl)
        nonzero (suc n) f = omega arith

    size_sum : sizes 80 w ≡ sizes 80 w' + b * t
    size_sum =
        let all : total (λ i. size (w i) + t * one_if (fresh v k i)) 80 ≡ total (λ i. size (w' i) + t * size (u i)) 80 = total_same 80 _ _ size_at in
        let left : total (λ i. size (w i) + t * one_if (fresh v k i)) 80 ≡ sizes 80 w + t * k =
        total_add 80 _ _ ∙ ap (λ (n : ℕ). sizes 80 w + n) (total_times 80 t _ ∙ ap (λ (n : ℕ). t * n) (fresh_count v k room)) in
        let right : total (λ i. size (w' i) + t * size (u i)) 80 ≡ sizes 80 w' + t * (b + k) =
        total_add 80 _ _ ∙ ap (λ (n : ℕ). sizes 80 w' + n) (total_times 80 t _ ∙ ap (λ (n : ℕ). t * n) many) in
        omega (arith, mul-add t b k, mul_comm t b)

    -- the price of a marking and a setting of the fresh variables
    price_at : (m s : ℕ → Mark) → Setting v k m s → (i : ℕ) → i < 80 → kept (w i) (m i) + t * one_at s i ≡ kept (w' i) (s i) + t * kept (u i) (s i)
    price_at m s set i lt = elim (place v k i) [
      | old l ↦ elim (cases_eq (size (u i)) 0) [
        | inl z ↦ omega (
          arith,
          ap (λ f. t * cond f (kept (pos 1) (s i)) 0) (fresh_old v k i l),
          ap (λ a. kept a (s i)) (weight_kept i lt (fresh_old v k i l) z),
          ap (kept (w i)) (set.same i l),
          ap (λ n. t * n) (nothing (kept (u i) (s i)) (size (u i)) (kept_le_size (u i) (s i)) z),
        )
        | inr n ↦ omega (
          arith,
          ap (λ f. t * cond f (kept (pos 1) (s i)) 0) (fresh_old v k i l),
          ap (λ a. kept a (s i)) (weight_less i lt (fresh_old v k i l) n),
          ap (kept (w i)) (set.same i l),
          kept_less t (u i) (w i) (s i) (suits.each i lt).unit n ((suits.each i lt).heavy n),
        )
      ]
      | new g l ↦ omega (
        arith,
        ap (λ f. t * cond f (kept (pos 1) (s i)) 0) (fresh_in v k i g l),
        ap (λ a. kept a (s i)) (weight_fresh i lt g l),
        times (s i),
        kept_zero (w i) (m i) ((suits.each i lt).weightless g),
        ap (λ n. t * n) (kept_zero (u i) (s i) ((suits.each i lt).absent g)),
      )
      | beyond o ↦
          let far : v ≤ i = omega arith in
          omega (
            arith,
            ap (λ f. t * cond f (kept (pos 1) (s i)) 0) (fresh_out v k i o),
            kept_zero (w' i) (s i) (weight_beyond i lt o),
            kept_zero (w i) (m i) ((suits.each i lt).weightless far),
            ap (λ n. t * n) (kept_zero (u i) (s i) ((suits.each i lt).absent far)),
          )
    ]
      where
        nothing : (x y : ℕ) → x ≤ y → y ≡ 0 → x ≡ 0
        nothing x y l e = omega arith

        times : (a : Mark) → kept (pos t) a ≡ t * kept (pos 1) a
        times Free = omega arith
        times Zero = omega arith
        times One = omega arith

    price_sum : (m s : ℕ → Mark) → Setting v k m s → open_sum 80 w m + t * total (one_at s) 80 ≡ open_sum 80 w' s + t * open_sum 80 u s
    price_sum m s set =
        let all : total (λ i. kept (w i) (m i) + t * one_at s i) 80 ≡ total (λ i. kept (w' i) (s i) + t * kept (u i) (s i)) 80 = total_same 80 _ _ (price_at m s set) in
        let left : total (λ i. kept (w i) (m i) + t * one_at s i) 80 ≡ open_sum 80 w m + t * total (one_at s) 80 =
        total_add 80 _ _ ∙ ap (λ (n : ℕ). open_sum 80 w m + n) (total_times 80 t _) in
        let right : total (λ i. kept (w' i) (s i) + t * kept (u i) (s i)) 80 ≡ open_sum 80 w' s + t * open_sum 80 u s =
        total_add 80 _ _ ∙ ap (λ (n : ℕ). open_sum 80 w' s + n) (total_times 80 t _) in
        sym left ∙ all ∙ right

  -- ---- the count, and how many fresh variables are 1
  module _ (s : ℕ → Mark) (full : Full (v + k) s) where
    least_at : (i : ℕ) → i < 80 → kept (at_least_row u v k i) (s i) + one_at s i ≡ kept (u i) (s i) + one_if (fresh v k i)
    least_at i lt = elim (place v k i) [
      | old l ↦ rw (fresh_old v k i l) refl
      | new g l ↦ rw (fresh_in v k i g l) (omega (arith, both_marks (s i) (full i l), kept_zero (u i) (s i) ((suits.each i lt).absent g)))
      | beyond o ↦ rw (fresh_out v k i o) refl
    ]

    most_at : (i : ℕ) → i < 80 → kept (at_most_row u v k i) (s i) + kept (u i) (s i) ≡ size (u i) + one_at s i
    most_at i lt = elim (place v k i) [
      | old l ↦ rw (fresh_old v k i l) (omega (arith, both_literals (u i) (s i) (suits.each i lt).unit (full i (omega arith))))
      | new g l ↦ rw (fresh_in v k i g l) (omega (arith, kept_zero (u i) (s i) ((suits.each i lt).absent g), ap size ((suits.each i lt).absent g)))
      | beyond o ↦
          let far : v ≤ i = omega arith in
          rw (fresh_out v k i o, (suits.each i lt).absent far) (omega (arith, kept_none (s i)))
    ]

    least_sum : open_sum 80 (at_least_row u v k) s + total (one_at s) 80 ≡ open_sum 80 u s + k
    least_sum =
        let all = total_same 80 _ _ least_at in
        let left = total_add 80 (λ i. kept (at_least_row u v k i) (s i)) (one_at s) in
        let right = total_add 80 (λ i. kept (u i) (s i)) (λ i. one_if (fresh v k i)) in
        omega (arith, fresh_count v k room)

    most_sum : open_sum 80 (at_most_row u v k) s + open_sum 80 u s ≡ b + k + total (one_at s) 80
    most_sum =
        let all = total_same 80 _ _ most_at in
        let left = total_add 80 (λ i. kept (at_most_row u v k i) (s i)) (λ i. kept (u i) (s i)) in
        let right = total_add 80 (λ i. size (u i)) (one_at s) in
        omega (arith, many)

    -- where the new rules are met, so many fresh variables are 1 as true literals pass the count
    ones_sum : MeetsNew u b v k s → open_sum 80 u s ≡ b + total (one_at s) 80
    ones_sum h = omega (arith, least_sum, most_sum, h.at_least, h.at_most)

    -- after a 0 comes no 1
    module _ (h : MeetsNew u b v k s) where
      next_zero : (n : ℕ) → n + 1 < k → s (v + n) ≡ Zero → s (v + n + 1) ≡ Zero
      next_zero n l z = elim (mark_cases (s (v + n + 1)) (full (v + n + 1) (omega arith))) [
        | inl q ↦ q
        | inr o ↦
            let none : open_sum 80 (order_row v n) s ≡ 0 =
            total_none 80 _ (λ i q. elim (cases_eq i (v + n)) [
              | inl e ↦ rw (e, eq-eqb (v + n) (v + n) refl, z) refl
              | inr ne ↦ elim (cases_eq i (v + n + 1)) [
                | inl e ↦ rw (e, ne_eqb (v + n + 1) (v + n) (λ j. omega arith), eq-eqb (v + n + 1) (v + n + 1) refl, o) refl
                | inr no2 ↦ rw (ne_eqb i (v + n) ne, ne_eqb i (v + n + 1) no2) (kept_none (s i))
              ]
            ]) in
            absurd (omega (arith, h.order n l))
      ]

      later_zero : (n d : ℕ) → n + d < k → s (v + n) ≡ Zero → s (v + (n + d)) ≡ Zero
      later_zero n zero l z = rw (add-zero n) z
      later_zero n (suc d) l z =
          let e : v + (n + suc d) ≡ v + (n + d) + 1 = omega arith in
          rw e (next_zero (n + d) (omega arith) (later_zero n d (omega arith) z))

  -- of two settings, where one has a 1 and the other a 0, the first has more ones
  module _ (s r : ℕ → Mark) (fs : Full (v + k) s) (fr : Full (v + k) r) (hs : MeetsNew u b v k s) (hr : MeetsNew u b v k r) where
    fewer_at : (n : ℕ) → n < k → s (v + n) ≡ One → r (v + n) ≡ Zero → (i : ℕ) → i < 80 → one_at r i ≤ one_at s i
    fewer_at n l o z i lt = elim (place v k i) [
      | old q ↦ rw (fresh_old v k i q) (omega arith)
      | beyond q ↦ rw (fresh_out v k i q) (omega arith)
      | new g q ↦ rw (fresh_in v k i g q) (elim (cases_lt (i - v) n) [
        | inl before ↦ elim (mark_cases (s i) (fs i q)) [
          | inr one-here ↦ rw one-here (kept_le_size (pos 1) (r i))
          | inl zero-here ↦
              let e : v + (i - v) ≡ i = omega arith in
              let e2 : i - v + (n - (i - v)) ≡ n = omega arith in
              let there : s (v + (i - v + (n - (i - v)))) ≡ Zero = later_zero s fs hs (i - v) (n - (i - v)) (omega arith) (rw e zero-here) in
              let at_n : s (v + n) ≡ Zero = subst (λ (a : ℕ). s (v + a) ≡ Zero) e2 there in
              let z' : ◌≡◌ {A = ℕ} 0 1 = cc in
              absurd (omega arith)
        ]
        | inr after ↦
            let e : v + (n + (i - v - n)) ≡ i = omega arith in
            let there : r (v + (n + (i - v - n))) ≡ Zero = later_zero r fr hr n (i - v - n) (omega arith) z in
            let here : r i ≡ Zero = subst (λ (a : ℕ). r a ≡ Zero) e there in
            rw here (omega arith)
      ])
    ]

    fewer_ones : (n : ℕ) → n < k → s (v + n) ≡ One → r (v + n) ≡ Zero → total (one_at r) 80 < total (one_at s) 80
    fewer_ones n l o z =
        let f : fresh v k (v + n) ≡ true = fresh_in v k (v + n) (omega arith) (omega arith) in
        let os : one_at s (v + n) ≡ 1 = rw (f, o) refl in
        let or : one_at r (v + n) ≡ 0 = rw (f, z) refl in
        omega (arith, total_le_but 80 (one_at r) (one_at s) (v + n) (omega arith) (λ i q ne. fewer_at n l o z i q))

  -- the same literals are true under every setting
  count_same : (m s : ℕ → Mark) → Setting v k m s → open_sum 80 u s ≡ open_sum 80 u m
  count_same m s set = total_same 80 _ _ (λ i lt. elim (cases_lt i v) [
    | inl l ↦ ap (kept (u i)) (set.same i l)
    | inr g ↦ kept_zero (u i) (s i) ((suits.each i lt).absent g) ∙ sym (kept_zero (u i) (m i) ((suits.each i lt).absent g))
  ])

  only_one : (m s r : ℕ → Mark) → Setting v k m s → Setting v k m r → MeetsNew u b v k s → MeetsNew u b v k r → (i : ℕ) → i < v + k → s i ≡ r i
  only_one m s r ss sr hs hr i l = elim (cases_lt i v) [
    | inl q ↦ ss.same i q ∙ sym (sr.same i q)
    | inr g ↦
        let e : v + (i - v) ≡ i = omega arith in
        let os = ones_sum s ss.full hs in
        let or = ones_sum r sr.full hr in
        let cs = count_same m s ss in
        let cr = count_same m r sr in
        elim (mark_cases (s i) (ss.full i l)) [
          | inl a ↦ elim (mark_cases (r i) (sr.full i l)) [
            | inl a2 ↦ a ∙ sym a2
            | inr o2 ↦ absurd (omega (arith, fewer_ones r s sr.full ss.full hr hs (i - v) (omega arith) (rw e o2) (rw e a)))
          ]
          | inr o ↦ elim (mark_cases (r i) (sr.full i l)) [
            | inl a2 ↦ absurd (omega (arith, fewer_ones s r ss.full sr.full hs hr (i - v) (omega arith) (rw e o) (rw e a2)))
            | inr o2 ↦ o ∙ sym o2
          ]
        ]
  ]

  -- ---- the setting: of the fresh variables as many are 1 as true literals pass the count
  module _ (m : ℕ → Mark) (full : Full v m) (met : Met 80 u b m) where
    abbrev j : ℕ
    j = open_sum 80 u m - b

    few : j ≤ k
    few = omega (arith, many, total_le 80 (λ i. kept (u i) (m i)) (λ i. size (u i)) (λ i l. kept_le_size (u i) (m i)))

    abbrev s : ℕ → Mark
    s = set_fresh v j m

    sets : Setting v k m s
    sets = record { same = λ i l. kept_old v j m i l; full = set_full v j m k full }

    one_same : (i : ℕ) → i < 80 → one_at s i ≡ one_if (fresh v j i)
    one_same i lt = elim (place v k i) [
      | old l ↦ rw (fresh_old v k i l, fresh_old v j i l) refl
      | new g l ↦ elim (cases_lt i (v + j)) [
        | inl q ↦ rw (fresh_in v k i g l, fresh_in v j i g q, set_on v j m i g q) refl
        | inr q ↦ rw (fresh_in v k i g l, fresh_out v j i q, set_off v j m i q) refl
      ]
      | beyond o ↦ rw (fresh_out v k i o, fresh_out v j i (omega (arith, few))) refl
    ]

    ones : total (one_at s) 80 ≡ j
    ones = total_same 80 _ _ one_same ∙ fresh_count v j (omega (arith, few))

    order_met : (n : ℕ) → n + 1 < k → Met 80 (order_row v n) 1 s
    order_met n l = elim (cases_lt n j) [
      | inl q ↦
          let here : kept (order_row v n (v + n)) (s (v + n)) ≡ 1 = rw (eq-eqb (v + n) (v + n) refl, set_on v j m (v + n) (omega arith) (omega arith)) refl in
          omega (arith, part_le 80 (λ i. kept (order_row v n i) (s i)) (v + n) (omega arith))
      | inr q ↦
          let here : kept (order_row v n (v + n + 1)) (s (v + n + 1)) ≡ 1 =
          rw (ne_eqb (v + n + 1) (v + n) (λ e. omega arith), eq-eqb (v + n + 1) (v + n + 1) refl, set_off v j m (v + n + 1) (omega arith)) refl in
          omega (arith, part_le 80 (λ i. kept (order_row v n i) (s i)) (v + n + 1) (omega arith))
    ]

    meets : MeetsNew u b v k s
    meets = record {
      at_least = omega (arith, least_sum s sets.full, ones, count_same m s sets);
      at_most = omega (arith, most_sum s sets.full, ones, count_same m s sets);
      order = order_met;
    }

    one_setting : OneSetting u b v k m
    one_setting = record { setting = s; is = sets; meets = meets; only = λ r sr hr i l. only_one m r s sr sets hr meets i l }

  no_setting : (m r : ℕ → Mark) → (Met 80 u b m → ⊥) → Setting v k m r → MeetsNew u b v k r → ⊥
  no_setting m r un sr hr = un (omega (arith, ones_sum r sr.full hr, count_same m r sr))

  module _ (c' : ℕ) (w' : ℕ → ℤ) (raised : c' ≡ c + b * t) (are : (i : ℕ) → i < 80 → w' i ≡ new_weight u w v k t i) where
    same_price : (m r : ℕ → Mark) → Setting v k m r → MeetsNew u b v k r → c' + open_sum 80 w' r ≡ c + open_sum 80 w m
    same_price m r sr hr =
        omega (
          arith,
          price_sum w' are m r sr,
          ap (λ n. t * n) (ones_sum r sr.full hr),
          mul-add t b (total (one_at r) 80),
          mul_comm t b,
        )

    pub promise : Promise u b t v k c w c' w'
    promise = record {
      one = λ m full met. one_setting m full met;
      none = no_setting;
      price = same_price;
      whole = omega (arith, size_sum w' are);
      loses = λ i l n.
          let lt : i < 80 = omega arith in
          ap (λ a. size a + t) (weight_less w' are i lt (fresh_old v k i l) n) ∙ size_less t (u i) (w i) ((suits.each i lt).heavy n);
      keeps = λ i l z. weight_kept w' are i (omega arith) (fresh_old v k i l) z;
      weightless = weight_beyond w' are;
      gains = λ p q. omega (arith, mul-pos p q);
    }

pub reformulating : Reformulating
reformulating u b t v k c w c' w' suits needed room raised are = promise u b t v k c w suits needed room c' w' raised are
