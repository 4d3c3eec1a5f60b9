-- From one round to the next: what is known of the gains grows with the weight below which literals are weakened.
use Rattle.std.proofs.Common.{◌≡◌, ℕ, ◌+◌, ◌*◌, ◌<◌, ◌≤◌, Bool, true, false, cond, not, eqb, ltb, ℤ, sym, refl, ap, ◌∙◌, subst, inl, inr, zero-mul, arith}
use Rattle.std.proofs.lemmas.Bool.{cases_eq, cases_lt, cases_Bool, eq-eqb, ne_eqb, lt-ltb, le-ltb}
use Rattle.rules.specs.Sum.{total}
use Rattle.rules.specs.Rule.{size}
use Rattle.rules.proofs.Sum.{total_same, total_none, part_le}
use Rattle.counting.specs.Counting.{sum_outside, Reaches, Least, CountFollows}
use Rattle.counting.specs.Gain.{OfCore, Smallest, heavy}
use Rattle.counting.specs.Rounds.{Round, NoneGainsMore, FirstGreatest, BestBelow, NoneLighter}
use Rattle.counting.proofs.Counting.{clash, count_law}
use Rattle.counting.proofs.Gain.{follows_wider, heavy_suffices}

-- the same set has the same least number
pub least_same : (n : ℕ) (a : ℕ → ℤ) (d : ℕ) (y z : ℕ → Bool) (b : ℕ) → ((i : ℕ) → i < n → y i ≡ z i) → Least n a d y b → Least n a d z b
least_same n a d y z b same l = record {
  choice = l.choice;
  reaches = moved y z same l.choice l.reaches;
  number = l.number;
  no_fewer = λ p r. l.no_fewer p (moved z y (λ i k. sym (same i k)) p r);
}
  where
    moved : (u v : ℕ → Bool) → ((i : ℕ) → i < n → u i ≡ v i) → (p : ℕ → Bool) → Reaches n a d u p → Reaches n a d v p
    moved u v e p r = record {
      within = λ i k f. r.within i k (e i k ∙ f);
      enough = omega (arith, r.enough, total_same n (λ i. cond (u i) 0 (size (a i))) (λ i. cond (v i) 0 (size (a i))) (λ i k. ap (λ t. cond t 0 (size (a i))) (e i k)));
    }

-- ---- which literals are heavy
pub heavy_is : (a : ℕ → ℤ) (w : ℕ → ℕ) (t i : ℕ) → (size (a i) ≡ 0 → ⊥) → t ≤ w i → heavy a w t i ≡ true
heavy_is a w t i c l = ap (λ z. cond z false (not (ltb (w i) t))) (ne_eqb (size (a i)) 0 c) ∙ ap not (le-ltb (w i) t l)

pub heavy_none : (a : ℕ → ℤ) (w : ℕ → ℕ) (t i : ℕ) → size (a i) ≡ 0 → heavy a w t i ≡ false
heavy_none a w t i e = ap (λ z. cond z false (not (ltb (w i) t))) (eq-eqb (size (a i)) 0 e)

pub heavy_light : (a : ℕ → ℤ) (w : ℕ → ℕ) (t i : ℕ) → w i < t → heavy a w t i ≡ false
heavy_light a w t i l = elim (cases_eq (size (a i)) 0) [
  | inl e ↦ heavy_none a w t i e
  | inr ne ↦ ap (λ z. cond z false (not (ltb (w i) t))) (ne_eqb (size (a i)) 0 ne) ∙ ap not (lt-ltb (w i) t l)
]

pub heavy_of_core : (a : ℕ → ℤ) (w : ℕ → ℕ) (t i : ℕ) → heavy a w t i ≡ true → size (a i) ≡ 0 → ⊥
heavy_of_core a w t i h e = clash (heavy a w t i) h (heavy_none a w t i e)

pub heavy_weighs : (a : ℕ → ℤ) (w : ℕ → ℕ) (t i : ℕ) → heavy a w t i ≡ true → t ≤ w i
heavy_weighs a w t i h = elim (cases_lt (w i) t) [ inl l ↦ clash (heavy a w t i) h (heavy_light a w t i l) | inr g ↦ g ]

-- a set is the literals from `from` on, and t is its smallest weight
module _ (n : ℕ) (a : ℕ → ℤ) (d : ℕ) (w : ℕ → ℕ) (from : ℕ) (y : ℕ → Bool) (is : (i : ℕ) → i < n → y i ≡ heavy a w from i) where
  -- a literal of the core that is heavy enough is in it
  pub member_from : (i : ℕ) → i < n → (size (a i) ≡ 0 → ⊥) → from ≤ w i → y i ≡ true
  member_from i l c g = is i l ∙ heavy_is a w from i c g

  pub of_core : (i : ℕ) → i < n → y i ≡ true → size (a i) ≡ 0 → ⊥
  of_core i l e = heavy_of_core a w from i (sym (is i l) ∙ e)

  -- nothing is in it: every rule's smallest weight is below
  pub none_left : ((i : ℕ) → i < n → y i ≡ false) → (z : ℕ → Bool) (s : ℕ) → OfCore n a z → Smallest n w z s → s < from
  none_left none z s o m = elim (cases_lt s from) [
    | inl l ↦ l
    | inr g ↦
        let at = m.place in
        clash (y at) (member_from at m.below (o at m.below m.member) (omega (arith, m.weighs))) (none at m.below)
  ]

  module _ (p : ℕ) (lp : p < n) (member : y p ≡ true) (lightest : (i : ℕ) → i < n → y i ≡ true → w p ≤ w i) where
    abbrev t : ℕ
    t = w p

    from_le : from ≤ t
    from_le = heavy_weighs a w from p (sym (is p lp) ∙ member)

    -- the set is the literals from t on
    pub heavy_same : (i : ℕ) → i < n → y i ≡ heavy a w t i
    heavy_same i l = elim (cases_Bool (y i)) [
      | inl e ↦ e ∙ sym (heavy_is a w t i (of_core i l e) (lightest i l e))
      | inr e ↦ elim (cases_Bool (heavy a w t i)) [
        | inr f ↦ e ∙ sym f
        | inl h ↦ clash (y i) (member_from i l (heavy_of_core a w t i h) (omega (arith, heavy_weighs a w t i h, from_le))) e
      ]
    ]

    pub smallest_here : Smallest n w (heavy a w t) t
    smallest_here = record {
      place = p;
      below = lp;
      member = sym (heavy_same p lp) ∙ member;
      weighs = refl;
      no_less = λ i l h. heavy_weighs a w t i h;
    }

    -- without those of weight t it is the literals from t + 1 on
    pub weakened_is : (z : ℕ → Bool) → ((i : ℕ) → i < n → z i ≡ cond (eqb (w i) t) false (y i)) → (i : ℕ) → i < n → z i ≡ heavy a w (t + 1) i
    weakened_is z e i l = e i l ∙ elim (cases_eq (w i) t) [
      | inl q ↦ ap (λ b. cond b false (y i)) (eq-eqb (w i) t q) ∙ sym (heavy_light a w (t + 1) i (omega arith))
      | inr ne ↦ ap (λ b. cond b false (y i)) (ne_eqb (w i) t ne) ∙ elim (cases_Bool (y i)) [
        | inl m ↦ m ∙ sym (heavy_is a w (t + 1) i (of_core i l m) (omega (arith, past t (w i) (lightest i l m) ne)))
        | inr f ↦ f ∙ sym (elim (cases_lt (w i) (t + 1)) [
          | inl lt ↦ heavy_light a w (t + 1) i lt
          | inr ge ↦ elim (cases_eq (size (a i)) 0) [
            | inl none ↦ heavy_none a w (t + 1) i none
            | inr some ↦ clash (y i) (member_from i l some (omega (arith, from_le))) f
          ]
        ])
      ]
    ]
      where
        past : (k j : ℕ) → k ≤ j → (j ≡ k → ⊥) → k + 1 ≤ j
        past k j m ne = elim (cases_lt k j) [ inl b ↦ omega arith | inr g ↦ absurd (ne (omega arith)) ]

    -- a rule whose smallest weight is not below `from` has none below t
    heavier : (z : ℕ → Bool) (s : ℕ) → OfCore n a z → Smallest n w z s → from ≤ s → t ≤ s
    heavier z s o m g =
        let at = m.place in
        omega (arith, m.weighs, lightest at m.below (member_from at m.below (o at m.below m.member) (omega (arith, m.weighs))))

    module _ (b : ℕ) (count : Least n a d y b) where
      least_here : Least n a d (heavy a w t) b
      least_here = least_same n a d y (heavy a w t) b heavy_same count

      pub round_here : 0 < b → Round n a d w t b
      round_here some = record { smallest = smallest_here; count = least_here; some = some }

      -- of the rules with the smallest weight t none gains more than b × t
      none_more_here : (z : ℕ → Bool) (s c : ℕ) → OfCore n a z → Smallest n w z s → CountFollows n a d z c → from ≤ s → s < t + 1 → c * s ≤ b * t
      none_more_here z s c o m f g l =
          let e : s ≡ t = omega (arith, heavier z s o m g) in
          subst (λ k. c * k ≤ b * t) (sym e) (heavy_suffices.gain n a d w z t c b o (subst (λ k. Smallest n w z k) e m) f least_here)

      -- the first round is the best so far
      pub best_first : 0 < b → NoneLighter n a w from → BestBelow n a d w (t + 1) t b
      best_first some none = record {
        round = round_here some;
        before = λ s c r l.
            let m = r.smallest in
            absurd (omega (arith, heavier (heavy a w s) s (λ i k h. heavy_of_core a w s i h) m (omega (arith, m.weighs, none m.place m.below (heavy_of_core a w s m.place m.member)))));
        none_more = λ z s c o m f l. none_more_here z s c o m f (omega (arith, m.weighs, none m.place m.below (o m.place m.below m.member))) l;
      }

      module _ (u g : ℕ) (best : BestBelow n a d w from u g) where
        -- a round that gains no more is passed over
        pub best_stays : b * t ≤ g * u → BestBelow n a d w (t + 1) u g
        best_stays le = record {
          round = best.round;
          before = best.before;
          none_more = λ z s c o m f l. elim (cases_lt s from) [
            | inl lt ↦ best.none_more z s c o m f lt
            | inr ge ↦ omega (arith, none_more_here z s c o m f ge l)
          ];
        }

        -- one that gains more is the best
        pub best_changes : 0 < b → g * u < b * t → BestBelow n a d w (t + 1) t b
        best_changes some more = record {
          round = round_here some;
          before = λ s c r l. elim (cases_lt s from) [
            | inl lt ↦ omega (arith, best.none_more (heavy a w s) s c (λ i k h. heavy_of_core a w s i h) r.smallest (follows s c r) lt)
            | inr ge ↦ absurd (omega (arith, heavier (heavy a w s) s (λ i k h. heavy_of_core a w s i h) r.smallest ge))
          ];
          none_more = λ z s c o m f l. elim (cases_lt s from) [
            | inl lt ↦ omega (arith, best.none_more z s c o m f lt)
            | inr ge ↦ none_more_here z s c o m f ge l
          ];
        }
          where
            follows : (s c : ℕ) → Round n a d w s c → CountFollows n a d (heavy a w s) c
            follows s c r = count_law.upto n a d (heavy a w s) c c r.count (omega arith)

  -- a count of 0: no rule over literals from `from` on counts anything
  none_counts : Least n a d y 0 → (z : ℕ → Bool) (s c : ℕ) → OfCore n a z → Smallest n w z s → CountFollows n a d z c → from ≤ s → c * s ≡ 0
  none_counts count z s c o m f g =
      let wider : (i : ℕ) → i < n → z i ≡ true → y i ≡ true = λ i l e. member_from i l (o i l e) (omega (arith, m.no_less i l e)) in
      let most : c ≤ 0 = count_law.no_more n a d y 0 c count (follows_wider n a d z y c wider f) in
      let none : c ≡ 0 = omega arith in
      ap (λ k. k * s) none ∙ zero-mul s

  -- ---- the end: nothing is left, or the count is 0
  module _ (u g : ℕ) (best : BestBelow n a d w from u g) where
    pub all_below : ((i : ℕ) → i < n → y i ≡ false) → NoneGainsMore n a d w (g * u)
    all_below none z s c o m f = best.none_more z s c o m f (none_left none z s o m)

    pub none_beyond : Least n a d y 0 → NoneGainsMore n a d w (g * u)
    none_beyond count z s c o m f = elim (cases_lt s from) [
      | inl lt ↦ best.none_more z s c o m f lt
      | inr ge ↦ omega (arith, none_counts count z s c o m f ge)
    ]

    pub first_greatest : NoneGainsMore n a d w (g * u) → FirstGreatest n a d w u g
    first_greatest h = record {
      round = best.round;
      before = best.before;
      greatest = λ s c r. h (heavy a w s) s c (λ i k e. heavy_of_core a w s i e) r.smallest (count_law.upto n a d (heavy a w s) c c r.count (omega arith));
    }

  -- ---- no round at all: the degree is 0
  module _ (lighter : NoneLighter n a w from) where
    outside_none : sum_outside n a y ≡ 0
    outside_none = total_none n _ (λ i l. elim (cases_eq (size (a i)) 0) [
      | inl e ↦ nothing (size (a i)) (y i) e
      | inr ne ↦ ap (λ b. cond b 0 (size (a i))) (member_from i l ne (lighter i l ne))
    ])
      where
        nothing : (x : ℕ) (b : Bool) → x ≡ 0 → cond b 0 x ≡ 0
        nothing x true e = refl
        nothing x false e = e

    pub nothing_counted : Least n a d y 0 → d ≡ 0
    nothing_counted count =
        let none : (i : ℕ) → i < n → ◌≡◌ {A = ℕ} (cond (count.choice i) 1 0) 0 = λ i l. omega (arith, part_le n (λ j. cond (count.choice j) 1 0) i l, count.number) in
        omega (arith, count.reaches.enough, outside_none, total_none n (λ i. cond (count.choice i) (size (a i)) 0) (λ i l. off (size (a i)) (count.choice i) (none i l)))
      where
        off : (x : ℕ) (b : Bool) → ◌≡◌ {A = ℕ} (cond b 1 0) 0 → cond b x 0 ≡ 0
        off x true e = absurd (omega arith)
        off x false e = refl

    pub nothing_left : ((i : ℕ) → i < n → y i ≡ false) → d ≤ total (λ i. size (a i)) n → d ≡ 0
    nothing_left none can =
        omega (arith, total_none n (λ i. size (a i)) (λ i l. elim (cases_eq (size (a i)) 0) [ inl e ↦ e | inr ne ↦ clash (y i) (member_from i l ne (lighter i l ne)) (none i l) ]))
