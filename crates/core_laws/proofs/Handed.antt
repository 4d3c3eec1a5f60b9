-- The rules that are handed out, one by one.
use Rattle.std.proofs.Common.{◌≡◌, ℕ, zero, suc, ◌+◌, ◌-◌, ◌<◌, ◌≤◌, cond, eqb, ℤ, sym, refl, ap, ◌∙◌, subst, inl, inr, arith}
use Rattle.std.proofs.lemmas.Bool.{cases_eq, ne_eqb}
use Rattle.rules.specs.Rule.{kept, Met}
use Rattle.rules.specs.Terms.{coefficient}
use Rattle.rules.specs.declared.Mark.{Mark}
use Rattle.rules.specs.declared.term.Rule.{Rule}
use Rattle.rules.proofs.Sum.{total_same}
use Rattle.cores.specs.Cores.{RuleIs}
use Rattle.reform_laws.specs.Reform.{MeetsNew}
use Rattle.reform.specs.declared.kinds.NewRule.{NewRule}
use Rattle.reform.specs.declared.kinds.NewRule.TheVariants.{AtLeast, AtMost, Order}
use Rattle.reform.specs.declared.kinds.Reformulation.{Reformulation}
use Rattle.reform.specs.Reforming.{nth, new_row, new_degree}
use Rattle.core_laws.specs.Steps.{NewRules, MeetsEach, RulesHandedOut}

-- a rule that is written is met where its row is
met_to : (q : Rule) (a : ℕ → ℤ) (d : ℕ) (s : ℕ → Mark) → RuleIs q a d → Met 80 (coefficient q) q.degree s → Met 80 a d s
met_to q a d s e m = omega (arith, e.degree, total_same 80 (λ i. kept (coefficient q i) (s i)) (λ i. kept (a i) (s i)) (λ i l. ap (λ (z : ℤ). kept z (s i)) (e.row i l)))

met_from : (q : Rule) (a : ℕ → ℤ) (d : ℕ) (s : ℕ → Mark) → RuleIs q a d → Met 80 a d s → Met 80 (coefficient q) q.degree s
met_from q a d s e m = omega (arith, e.degree, total_same 80 (λ i. kept (coefficient q i) (s i)) (λ i. kept (a i) (s i)) (λ i l. ap (λ (z : ℤ). kept z (s i)) (e.row i l)))

-- from 2 on they are the order rules
nth_order : (k : ℕ) → (k ≡ 0 → ⊥) → (k ≡ 1 → ⊥) → nth k ≡ Order (k - 2)
nth_order k n m = ap (λ t. cond t AtLeast (cond (eqb k 1) AtMost (Order (k - 2)))) (ne_eqb k 0 n) ∙ ap (λ t. cond t AtMost (Order (k - 2))) (ne_eqb k 1 m)

module _ (r : Reformulation) (q : ℕ → Rule) (s : ℕ → Mark) (new : NewRules r q) where
  abbrev is_nth : ℕ → NewRule → Type 0
  is_nth k kind = RuleIs (q k) (new_row r.rule r.variables r.fresh kind) (new_degree r.rule r.fresh kind)

  order_is : (j : ℕ) → j + 1 < r.fresh → is_nth (j + 2) (Order j)
  order_is j l =
      let here = (new (j + 2) (omega arith)).1 in
      let e : j + 2 - 2 ≡ j = omega arith in
      subst (is_nth (j + 2)) (nth_order (j + 2) (λ z. omega arith) (λ z. omega arith) ∙ ap Order e) here

  pub meets_to : MeetsEach r q s → MeetsNew (coefficient r.rule) r.rule.degree r.variables r.fresh s
  meets_to m = record {
    at_least = met_to (q 0) _ _ s (new 0 (omega arith)).1 (m 0 (omega arith));
    at_most = met_to (q 1) _ _ s (new 1 (omega arith)).1 (m 1 (omega arith));
    order = λ j l. met_to (q (j + 2)) _ _ s (order_is j l) (m (j + 2) (omega arith));
  }

  pub meets_from : MeetsNew (coefficient r.rule) r.rule.degree r.variables r.fresh s → MeetsEach r q s
  meets_from m k l = elim (cases_eq k 0) [
    | inl e ↦ subst (λ k. Met 80 (coefficient (q k)) (q k).degree s) (sym e) (met_from (q 0) _ _ s (new 0 (omega arith)).1 m.at_least)
    | inr ne ↦ elim (cases_eq k 1) [
      | inl e ↦ subst (λ k. Met 80 (coefficient (q k)) (q k).degree s) (sym e) (met_from (q 1) _ _ s (new 1 (omega arith)).1 m.at_most)
      | inr no2 ↦ met_from (q k) _ _ s (subst (is_nth k) (nth_order k ne no2) (new k l).1) (m.order (k - 2) (omega (arith, two_or_more k ne no2)))
    ]
  ]
    where
      two_or_more : (k : ℕ) → (k ≡ 0 → ⊥) → (k ≡ 1 → ⊥) → 2 ≤ k
      two_or_more zero n m = absurd (n refl)
      two_or_more (suc zero) n m = absurd (m refl)
      two_or_more (suc (suc k)) n m = omega arith

pub handed_out : RulesHandedOut
handed_out = record { to = λ r q s n. meets_to r q s n; from = λ r q s n. meets_from r q s n }
