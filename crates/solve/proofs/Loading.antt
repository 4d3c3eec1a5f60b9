-- Rules are loaded one by one, and none is refused.
use Rattle.std.proofs.Common.{◌≡◌, ℕ, ◌+◌, ◌<◌, ◌≤◌, List, [], ◌∷◌, ◌++◌, length, ℤ, pos, sym, ap, ◌∙◌, subst, inl, inr, arith}
use Rattle.std.proofs.lemmas.List.{get_or_append_left, get_or_at, length_push}
use Rattle.std.proofs.lemmas.Bool.{cases_eq, cases_lt}
use Rattle.faults.specs.declared.fault.EngineFault.{EngineFault}
use Rattle.faults.specs.declared.fault.EngineFault.TheVariants.{Variables, Full, Term, Rule, NoQuestion}
use Rattle.rules.specs.Rule.{at, size}
use Rattle.rules.specs.Terms.{coefficient}
use Rattle.rules.specs.declared.term.Term.{Term as Pair}
use Rattle.rules.specs.declared.term.Rule.{Rule as Row}
use Rattle.engine.specs.Held.{Held, Limits, Fits, nth, blank, variable_of, GoodTerm, Every, rule_of, with_rule, NotAdded}
use Rattle.engine.specs.Questions.{engine_limits, empty}
use Rattle.solve.specs.Listed.{Lists}
use Rattle.solve.specs.Loads.{FirstRules, Loadable, Stopped}

pub no_rules_yet : (h h' : Held) (n : ℕ) → h' ≡ empty n → n ≡ h.variables → FirstRules h 0 h'
no_rules_yet h h' n e v = record {
  variables = ap (λ (x : Held). x.variables) e ∙ v;
  count = ap (λ (x : Held). length x.rules) e;
  each = λ k l. absurd (omega arith);
}

-- the terms of a rule within the limits are good
good_terms : (row : List ℤ) (ts : List Pair) (most n : ℕ) → Lists row ts → ((i : ℕ) → size (at row i) ≤ most) → ((i : ℕ) → n ≤ i → at row i ≡ pos 0) → Every (GoodTerm most n ts) (length ts)
good_terms row ts most n lists small beyond j l = record {
  some = lists.some j l;
  small = omega (arith, lists.size_is j l, small (variable_of ts j));
  known = elim (cases_lt (variable_of ts j) n) [
    | inl b ↦ b
    | inr b ↦ absurd (omega (arith, lists.some j l, lists.size_is j l, ap size (beyond (variable_of ts j) b)))
  ];
  once = λ i b e. omega (arith, lists.order i j b l);
}

-- one rule more
pub one_more_rule : (h h' h'' : Held) (k : ℕ) (r : Row) (ts : List Pair) → FirstRules h k h' → r ≡ nth h.rules k → Lists r.coefficients ts
    → h'' ≡ with_rule (rule_of ts r.degree) h' → FirstRules h (k + 1) h''
one_more_rule h h' h'' k r ts first is lists e = subst (FirstRules h (k + 1)) (sym e) (record {
  variables = first.variables;
  count = length_push h'.rules (rule_of ts r.degree) ∙ ap (λ n. n + 1) first.count;
  each = λ j l. elim (cases_eq j k) [
    | inl at_end ↦
        let new : nth (h'.rules ++ (rule_of ts r.degree ∷ [])) j ≡ rule_of ts r.degree = get_or_at h'.rules (rule_of ts r.degree) [] blank j (first.count ∙ sym at_end) in
        let old : nth h.rules j ≡ r = ap (nth h.rules) at_end ∙ sym is in
        record {
          coefficients = λ i. ap (λ x. coefficient x i) new ∙ (lists.row_is i ∙ ap (λ x. coefficient x i) (sym old));
          degree = ap (λ (x : Row). x.degree) new ∙ ap (λ (x : Row). x.degree) (sym old);
        }
    | inr ne ↦
        let b : j < length h'.rules = omega (arith, first.count) in
        let same : nth (h'.rules ++ (rule_of ts r.degree ∷ [])) j ≡ nth h'.rules j = get_or_append_left h'.rules (rule_of ts r.degree ∷ []) blank j b in
        let old = first.each j (omega arith) in
        record {
          coefficients = λ i. ap (λ x. coefficient x i) same ∙ old.coefficients i;
          degree = ap (λ (x : Row). x.degree) same ∙ old.degree;
        }
  ];
})

-- a rule of a holder that can be loaded is not refused
module _ (l : Limits) (h h' : Held) (k : ℕ) (r : Row) (ts : List Pair) (first : FirstRules h k h') (there : k < length h.rules) (room : length h.rules ≤ l.room)
    (fits : Fits l h.variables (nth h.rules k)) (is : r ≡ nth h.rules k) (lists : Lists r.coefficients ts) (can : Loadable l h) where
  good : Every (GoodTerm 1000000000 h'.variables ts) (length ts)
  good = good_terms r.coefficients ts 1000000000 h'.variables lists
      (λ i. omega (arith, ap (λ x. size (coefficient x i)) is, fits.sizes i, can.coefficient))
      (λ i b. ap (λ x. coefficient x i) is ∙ fits.beyond i (omega (arith, first.variables)))

  pub not_refused : (e : EngineFault) → NotAdded engine_limits h' ts r.degree e → ⊥
  not_refused (Full n) x = omega (arith, x.0, first.count, can.room)
  not_refused (Term i) x =
      elim (cases_eq i (length ts)) [
        | inl end ↦ omega (arith, (x.3 end).1, ap (λ (y : Row). y.degree) is, fits.degree, can.degree)
        | inr ne ↦ let b : i < length ts = omega (arith, x.1) in (x.2 b).bad (good i b)
      ]
  not_refused (Variables n) x = x
  not_refused (Rule n) x = x
  not_refused NoQuestion x = x

-- a rule that is refused stops the loading
pub stopped_rule : (h h' h'' : Held) (k : ℕ) (r : Row) (ts : List Pair) → FirstRules h k h' → k < length h.rules → r ≡ nth h.rules k → Lists r.coefficients ts
    → (e : EngineFault) → NotAdded engine_limits h' ts r.degree e → h'' ≡ h' → Stopped h e h''
stopped_rule h h' h'' k r ts first there is lists e refused same =
    inr (
      k,
      ts,
      record {
        there = there;
        first = subst (FirstRules h k) (sym same) first;
        lists = subst (λ (x : Row). Lists x.coefficients ts) is lists;
        refused = subst (λ (x : Held). NotAdded engine_limits x ts (nth h.rules k).degree e) (sym same) (subst (λ (x : Row). NotAdded engine_limits h' ts x.degree e) is refused);
      },
    )
