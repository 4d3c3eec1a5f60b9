-- The rounds of a core under a price, one after another.
use Rattle.std.proofs.Common.{◌≡◌, ℕ, ◌+◌, ◌<◌, ◌≤◌, Bool, true, false, cond, not, eqb, ltb, ℤ, Some, None, Option, Ok, MatchOption, IsSomeAnd, sym, refl, ap, ◌∙◌, subst, ap₂, inl, inr, mul-pos, arith}
use Rattle.std.proofs.lemmas.Bool.{cases_Bool, ltb-true, ltb-false, eq-eqb, le-ltb}
use Rattle.rules.specs.Rule.{size}
use Rattle.rules.specs.Terms.{coefficient}
use Rattle.rules.specs.declared.term.Rule.{Rule}
use Rattle.rules.proofs.Sum.{total_le_but}
use Rattle.derive.specs.Derive.{Follows}
use Rattle.cores.specs.Cores.{RuleIs, CanBeMet}
use Rattle.cores.proofs.Left.{follows_same}
use Rattle.counting.specs.Counting.{number_in, Least, count_row}
use Rattle.counting.specs.Gain.{heavy}
use Rattle.counting.proofs.Counting.{count_law}
use Rattle.counting.proofs.Rounds.{best_first, best_stays, best_changes, weakened_is, all_below, none_beyond, first_greatest, nothing_counted, nothing_left, heavy_of_core}
use Rattle.gains.specs.declared.kinds.Round.{Round}
use Rattle.gains.specs.declared.kinds.CountRule.{CountRule}
use Rattle.gains.specs.Gains.{gain, weights, Lightest, better, BestFrom, Greatest, Found, KeptIs, BestOf}

module _ (core : Rule) (price : ℕ → ℤ) where
  abbrev a : ℕ → ℤ
  a = coefficient core

  abbrev w : ℕ → ℕ
  w = weights core price

  -- at first every literal is a member
  pub starts : (y : ℕ → Bool) → ((i : ℕ) → i < 80 → y i ≡ not (eqb (size (a i)) 0)) → (i : ℕ) → i < 80 → y i ≡ heavy a w 0 i
  starts y h i l = h i l ∙ all (eqb (size (a i)) 0) ∙ ap (λ t. cond (eqb (size (a i)) 0) false (not t)) (sym (le-ltb (w i) 0 (omega arith)))
    where
      all : (b : Bool) → not b ≡ cond b false true
      all true = refl
      all false = refl

  module _ (from : ℕ) (y : ℕ → Bool) (is : (i : ℕ) → i < 80 → y i ≡ heavy a w from i) where
    module _ (p : ℕ) (light : Lightest w y 80 p) where
      -- a round is passed
      pub passes : (best : Option Round) → BestFrom core price from best → (b : ℕ) → Least 80 a core.degree y b → 0 < b → (next : Round) → next ≡ record { weight = w p; count = b }
          → BestFrom core price (w p + 1) (Some (better best next))
      passes None h b count some next e =
          subst (λ (r : Round). BestFrom core price (w p + 1) (Some r)) (sym e)
          (best_first 80 a core.degree w from y is p light.below light.member light.least b count some h)
      passes (Some r) h b count some next e = elim (cases_Bool (ltb (gain r) (gain next))) [
        | inl t ↦
            subst (λ (q : Round). BestFrom core price (w p + 1) (Some q)) (sym (ap (λ c. cond c next r) t))
            (subst (λ (q : Round). BestFrom core price (w p + 1) (Some q)) (sym e)
            (best_changes 80 a core.degree w from y is p light.below light.member light.least b count r.weight r.count h some
            (omega (arith, ltb-true (gain r) (gain next) t, ap gain e))))
        | inr f ↦
            subst (λ (q : Round). BestFrom core price (w p + 1) (Some q)) (sym (ap (λ c. cond c next r) f))
            (best_stays 80 a core.degree w from y is p light.below light.member light.least b count r.weight r.count h
            (omega (arith, ltb-false (gain r) (gain next) f, ap gain e)))
      ]

      -- and the lightest are weakened
      module _ (z : ℕ → Bool) (left : (i : ℕ) → i < 80 → z i ≡ cond (eqb (w i) (w p)) false (y i)) where
        pub left_is : (i : ℕ) → i < 80 → z i ≡ heavy a w (w p + 1) i
        left_is = weakened_is 80 a core.degree w from y is p light.below light.member light.least z left

        pub fewer : number_in 80 z < number_in 80 y
        fewer =
            let none : z p ≡ false = left p light.below ∙ ap (λ c. cond c false (y p)) (eq-eqb (w p) (w p) refl) in
            omega (
              arith,
              total_le_but 80 (λ i. cond (z i) 1 0) (λ i. cond (y i) 1 0) p light.below (λ i l ne. drop_at i l),
              ap {B = ℕ} (λ c. cond c 1 0) none,
              ap {B = ℕ} (λ c. cond c 1 0) light.member,
            )
          where
            less : (c d : Bool) → ◌≤◌ (cond (cond c false d) 1 0) (cond d 1 0)
            less true true = omega arith
            less true false = omega arith
            less false d = omega arith

            drop_at : (i : ℕ) → i < 80 → ◌≤◌ (cond (z i) 1 0) (cond (y i) 1 0)
            drop_at i l = subst (λ (c : Bool). ◌≤◌ (cond c 1 0) (cond (y i) 1 0)) (sym (left i l)) (less (eqb (w i) (w p)) (y i))

    -- the end
    pub ends_empty : CanBeMet core → (best : Option Round) → BestFrom core price from best → ((i : ℕ) → i < 80 → y i ≡ false) → Found core price best
    ends_empty can None h none = nothing_left 80 a core.degree w from y is h none can
    ends_empty can (Some r) h none =
        let most = all_below 80 a core.degree w from y is r.weight r.count h none in
        record { first = first_greatest 80 a core.degree w from y is r.weight r.count h most; none_more = most }

    pub ends_zero : (best : Option Round) → BestFrom core price from best → Least 80 a core.degree y 0 → Found core price best
    ends_zero None h count = nothing_counted 80 a core.degree w from y is h count
    ends_zero (Some r) h count =
        let most = none_beyond 80 a core.degree w from y is r.weight r.count h count in
        record { first = first_greatest 80 a core.degree w from y is r.weight r.count h most; none_more = most }

  -- the rule of the greatest round
  module _ (can : CanBeMet core) (r : Round) (g : Greatest core price r) where
    pub kept : (k : CountRule) → RuleIs k.rule (count_row (heavy a w r.weight) a) r.count → k.weight ≡ r.weight → KeptIs core price k
    kept k e f = record {
      can = can;
      rule = record { row = λ i l. e.row i l ∙ ap (λ t. count_row (heavy a w t) a i) (sym f); degree = refl };
      follows = follows_same 80 a (count_row (heavy a w r.weight) a) (coefficient k.rule) core.degree k.rule.degree e.row
          (subst (λ b. Follows 80 a core.degree (count_row (heavy a w r.weight) a) b) (sym e.degree) (count_law.upto 80 a core.degree (heavy a w r.weight) r.count r.count g.first.round.count (omega arith)));
      greatest = subst (λ q. Greatest core price q) (same r.weight r.count k.weight k.rule.degree f e.degree) g;
      gains = λ all.
          let m = g.first.round.smallest in
          let some : 0 < r.weight = omega (arith, m.weighs, all m.place m.below (heavy_of_core a w r.weight m.place m.member)) in
          subst (λ q. 0 < gain q) (same r.weight r.count k.weight k.rule.degree f e.degree) (mul-pos g.first.round.some some);
    }
      where
        same : (t b u c : ℕ) → u ≡ t → c ≡ b → ◌≡◌ {A = Round} (record { weight = t; count = b }) (record { weight = u; count = c })
        same t b u c p q = ap₂ (λ (x y : ℕ). record { weight = x; count = y }) (sym p) (sym q)

  -- what comes of a core that can be met
  pub best_of : CanBeMet core → (found : Option Round) → Found core price found → (r : Option CountRule) → (P : Round → CountRule → Type 0)
      → ((x : Round) (k : CountRule) → P x k → RuleIs k.rule (count_row (heavy a w x.weight) a) x.count × (k.weight ≡ x.weight))
      → MatchOption found (r ≡ None) (λ x. IsSomeAnd r (P x)) → BestOf core price (Ok r)
  best_of can None h r P means m = subst (λ (q : Option CountRule). BestOf core price (Ok q)) (sym m) h
  best_of can (Some x) h None P means m = absurd m
  best_of can (Some x) h (Some k) P means m = let e = means x k m in kept can x h k e.0 e.1
