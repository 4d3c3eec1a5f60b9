-- The literals of a core weigh something, and the rule that is kept of it suits the price.
use Rattle.std.proofs.Common.{◌≡◌, ℕ, zero, suc, ◌+◌, ◌<◌, ◌≤◌, Bool, true, false, cond, not, ℤ, pos, negsuc, Some, None, Ok, Err, sym, refl, ap, ◌∙◌, subst, arith}
use Rattle.rules.specs.Rule.{at, size}
use Rattle.rules.specs.Terms.{only, coefficient}
use Rattle.rules.specs.declared.term.Rule.{Rule}
use Rattle.rules.proofs.Sum.{total_same, total_add}
use Rattle.cores.specs.Cores.{is_false, sizes}
use Rattle.counting.specs.Counting.{number_in, unit_of, Least}
use Rattle.counting.specs.Gain.{heavy}
use Rattle.counting.specs.Rounds.{literal_weight}
use Rattle.counting.proofs.Counting.{clash}
use Rattle.counting.proofs.Rounds.{heavy_weighs, heavy_of_core}
use Rattle.gains.specs.declared.kinds.CountRule.{CountRule}
use Rattle.gains.specs.Gains.{weights, KeptIs}
use Rattle.reform_laws.specs.Reform.{SuitsAt}
use Rattle.reform.specs.declared.kinds.Price.{Price}
use Rattle.core_laws.specs.Steps.{weightless_mark, FloorCoresWeigh, FloorCoresGain, Over, KeptRulesSuit}

-- ---- what is left of a rule is assumed false, and so weighs something
weighs_at : (a p : ℤ) → is_false a (weightless_mark p) ≡ true → 0 < literal_weight a p
weighs_at (pos x) (pos zero) e = clash true refl (sym e)
weighs_at (negsuc x) (pos zero) e = clash true refl (sym e)
weighs_at (pos x) (pos (suc c)) e = omega arith
weighs_at (negsuc x) (pos (suc c)) e = clash true refl (sym e)
weighs_at (pos x) (negsuc c) e = clash true refl (sym e)
weighs_at (negsuc x) (negsuc c) e = omega arith

left_weighs : (f : Bool) (a p k : ℤ) → is_false a (weightless_mark p) ≡ f → k ≡ cond (not f) (pos 0) a → (size k ≡ 0 → ⊥) → 0 < literal_weight k p
left_weighs true a p k e q n = subst (λ z. 0 < literal_weight z p) (sym q) (weighs_at a p e)
left_weighs false a p k e q n = absurd (n (ap size q))

pub floor_cores : FloorCoresWeigh
floor_cores r ls k price c h i l n =
    left_weighs (is_false (coefficient r i) (only ls i)) (coefficient r i) (price i) (coefficient k i)
    (ap (is_false (coefficient r i)) (sym (h i l))) (c.is.row i l) n

pub floor_gains : FloorCoresGain
floor_gains r ls core price (Err e) c h b f = absurd (omega (arith, c.can))
floor_gains r ls core price (Ok None) c h b f = absurd (omega (arith, c.some b))
floor_gains r ls core price (Ok (Some k)) c h b f = (k, refl, f.gains (floor_cores r ls core price c h))

-- ---- a term of the count rule
abbrev term : Bool → ℤ → ℤ
term h a = cond h (unit_of a) (pos 0)

unit_size : (a : ℤ) → size (unit_of a) ≤ 1
unit_size (pos zero) = omega arith
unit_size (pos (suc x)) = omega arith
unit_size (negsuc x) = omega arith

term_size : (h : Bool) (a : ℤ) → size (term h a) ≤ 1
term_size true a = unit_size a
term_size false a = omega arith

unit_weighs : (a w : ℤ) → (size (unit_of a) ≡ 0 → ⊥) → literal_weight (unit_of a) w ≡ literal_weight a w
unit_weighs (pos zero) w n = absurd (n refl)
unit_weighs (pos (suc x)) (pos c) n = refl
unit_weighs (pos (suc x)) (negsuc c) n = refl
unit_weighs (negsuc x) (pos c) n = refl
unit_weighs (negsuc x) (negsuc c) n = refl

term_weighs : (t : ℕ) (h : Bool) (a w : ℤ) → (h ≡ true → t ≤ literal_weight a w) → (size (term h a) ≡ 0 → ⊥) → t ≤ literal_weight (term h a) w
term_weighs t true a w g n = subst (λ x. t ≤ x) (sym (unit_weighs a w n)) (g refl)
term_weighs t false a w g n = absurd (n refl)

term_absent : (h : Bool) (a : ℤ) → a ≡ pos 0 → term h a ≡ pos 0
term_absent true a e = ap unit_of e
term_absent false a e = refl

unit_one : (a : ℤ) → (size a ≡ 0 → ⊥) → size (unit_of a) ≡ 1
unit_one (pos zero) n = absurd (n refl)
unit_one (pos (suc x)) n = refl
unit_one (negsuc x) n = refl

term_counts : (h : Bool) (a : ℤ) → (h ≡ true → size a ≡ 0 → ⊥) → ◌≡◌ {A = ℕ} (cond h 1 0) (size (term h a))
term_counts true a n = sym (unit_one a (n refl))
term_counts false a n = refl

-- ---- the count is at most the number of literals
split_at : (b : Bool) (x : ℕ) → cond b 0 x + cond b x 0 ≡ x
split_at true x = omega arith
split_at false x = omega arith

count_most : (a : ℕ → ℤ) (d : ℕ) (y : ℕ → Bool) (b : ℕ) → d ≤ sizes 80 a → Least 80 a d y b → b ≤ number_in 80 y
count_most a d y b can l = l.no_fewer y (record {
  within = λ i k e. e;
  enough = omega (
    arith,
    total_add 80 (λ i. cond (y i) 0 (size (a i))) (λ i. cond (y i) (size (a i)) 0),
    total_same 80 (λ i. cond (y i) 0 (size (a i)) + cond (y i) (size (a i)) 0) (λ i. size (a i)) (λ i k. split_at (y i) (size (a i))),
  );
})

module _ (core : Rule) (p : Price) (k : CountRule) (kept : KeptIs core (at p.weights) k) where
  abbrev a : ℕ → ℤ
  a = coefficient core

  abbrev w : ℕ → ℕ
  w = weights core (at p.weights)

  abbrev y : ℕ → Bool
  y = heavy a w k.weight

  suits_at : (v : ℕ) → Over v core (at p.weights) → (i : ℕ) → i < 80 → SuitsAt v k.weight i (coefficient k.rule i) (at p.weights i)
  suits_at v over i l = subst (λ z. SuitsAt v k.weight i z (at p.weights i)) (sym (kept.rule.row i l)) (record {
    unit = term_size (y i) (a i);
    heavy = λ n. term_weighs k.weight (y i) (a i) (at p.weights i) (λ e. heavy_weighs a w k.weight i e) n;
    absent = λ g. term_absent (y i) (a i) (over.absent i l g);
    weightless = λ g. over.weightless i l g;
  })

  counted : (i : ℕ) → i < 80 → ◌≡◌ {A = ℕ} (cond (y i) 1 0) (size (coefficient k.rule i))
  counted i l = term_counts (y i) (a i) (λ e. heavy_of_core a w k.weight i e) ∙ ap size (sym (kept.rule.row i l))

  enough : k.rule.degree ≤ sizes 80 (coefficient k.rule)
  enough = omega (
    arith,
    count_most a core.degree y k.rule.degree kept.can kept.greatest.first.round.count,
    total_same 80 (λ i. cond (y i) 1 0) (λ i. size (coefficient k.rule i)) counted,
  )

pub kept_suits : KeptRulesSuit
kept_suits core p v k kept over small fits = record { each = suits_at core p k kept v over; enough = enough core p k kept; small = small; fits = fits }
