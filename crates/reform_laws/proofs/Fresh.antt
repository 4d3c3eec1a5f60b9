-- Where the fresh variables stand, how many there are, and what one term gives.
use Rattle.std.proofs.Common.{◌≡◌, ℕ, zero, suc, ◌+◌, ◌-◌, ◌*◌, ◌<◌, ◌≤◌, min, Bool, true, false, cond, ltb, ◌⊎◌, ℤ, pos, negsuc, sym, refl, ap, ◌∙◌, inl, inr, zero-mul, arith, ltb-false, ltb-true, le-ltb, lt-ltb}
use Rattle.std.proofs.lemmas.Bool.{cases_lt}
use Rattle.rules.specs.Sum.{total}
use Rattle.rules.specs.Rule.{size, kept, Full}
use Rattle.rules.specs.declared.Mark.{Mark}
use Rattle.rules.specs.declared.Mark.TheVariants.{Free, Zero, One}
use Rattle.counting.specs.Rounds.{literal_weight}
use Rattle.counting.proofs.Counting.{kept_none}
use Rattle.reform_laws.specs.Reform.{fresh, turned, less}

pub fresh_old : (v k i : ℕ) → i < v → fresh v k i ≡ false
fresh_old v k i l = ap (λ t. cond t false (ltb i (v + k))) (lt-ltb i v l)

pub fresh_in : (v k i : ℕ) → v ≤ i → i < v + k → fresh v k i ≡ true
fresh_in v k i g l = ap (λ t. cond t false (ltb i (v + k))) (le-ltb i v g) ∙ lt-ltb i (v + k) l

pub fresh_out : (v k i : ℕ) → v + k ≤ i → fresh v k i ≡ false
fresh_out v k i g = ap (λ t. cond t false (ltb i (v + k))) (le-ltb i v (omega arith)) ∙ le-ltb i (v + k) g

abbrev pub one_if : Bool → ℕ
one_if b = cond b 1 0

-- so many fresh places
count_upto : (v k n : ℕ) → total (λ i. one_if (fresh v k i)) n ≡ min (n - v) k
unfolding total
count_upto v k zero = omega arith
count_upto v k (suc n) =
    let r = count_upto v k n in
    elim (cases_lt n v) [
      | inl l ↦ let z : one_if (fresh v k n) ≡ 0 = ap one_if (fresh_old v k n l) in omega arith
      | inr g ↦ elim (cases_lt n (v + k)) [
        | inl l ↦ let z : one_if (fresh v k n) ≡ 1 = ap one_if (fresh_in v k n g l) in omega arith
        | inr o ↦ let z : one_if (fresh v k n) ≡ 0 = ap one_if (fresh_out v k n o) in omega arith
      ]
    ]

pub fresh_count : (v k : ℕ) → v + k ≤ 80 → total (λ i. one_if (fresh v k i)) 80 ≡ k
fresh_count v k l = omega (arith, count_upto v k 80)

-- a variable that there was, a fresh one, or one beyond
pub data Place (v k i : ℕ) : Type 0 where
  old : i < v → Place v k i
  new : v ≤ i → i < v + k → Place v k i
  beyond : v + k ≤ i → Place v k i

pub place : (v k i : ℕ) → Place v k i
place v k i = elim (cases_lt i v) [ inl l ↦ old l | inr g ↦ elim (cases_lt i (v + k)) [ inl l ↦ new g l | inr o ↦ beyond o ] ]

-- ---- one term
pub kept_zero : (a : ℤ) (m : Mark) → a ≡ pos 0 → kept a m ≡ 0
kept_zero a m e = ap (λ z. kept z m) e ∙ kept_none m

pub mark_cases : (m : Mark) → (m ≡ Free → ⊥) → (m ≡ Zero) ⊎ (m ≡ One)
mark_cases Free f = absurd (f refl)
mark_cases Zero f = inl refl
mark_cases One f = inr refl

pub both_marks : (m : Mark) → (m ≡ Free → ⊥) → kept (negsuc 0) m + kept (pos 1) m ≡ 1
both_marks Free f = absurd (f refl)
both_marks Zero f = refl
both_marks One f = refl

-- a literal or its complement is true
pub both_literals : (u : ℤ) (m : Mark) → size u ≤ 1 → (m ≡ Free → ⊥) → kept (turned u) m + kept u m ≡ size u
both_literals u Free s f = absurd (f refl)
both_literals (pos zero) Zero s f = refl
both_literals (pos zero) One s f = refl
both_literals (pos (suc zero)) Zero s f = refl
both_literals (pos (suc zero)) One s f = refl
both_literals (pos (suc (suc c))) Zero s f = absurd (omega arith)
both_literals (pos (suc (suc c))) One s f = absurd (omega arith)
both_literals (negsuc zero) Zero s f = refl
both_literals (negsuc zero) One s f = refl
both_literals (negsuc (suc c)) Zero s f = absurd (omega arith)
both_literals (negsuc (suc c)) One s f = absurd (omega arith)

-- nothing taken away
less_none : (a : ℤ) → less 0 a ≡ a
less_none (pos c) = ap pos (omega arith)
less_none (negsuc c) = ap (λ b. cond b (pos 0) (negsuc (c - 0))) (le-ltb c 0 (omega arith)) ∙ ap negsuc (omega arith)

none_less : (t : ℕ) (u w : ℤ) (m : Mark) → t ≤ 0 → kept w m ≡ kept (less t w) m + t * kept u m
none_less t u w m l =
    let z : t ≡ 0 = omega arith in
    omega (arith, ap (λ s. kept (less s w) m) z ∙ ap (λ a. kept a m) (less_none w), ap (λ s. s * kept u m) z ∙ zero-mul (kept u m))

less_below : (t c : ℕ) (b : Bool) → ltb c t ≡ b → t ≤ suc c → (m : Mark) → kept (negsuc c) m ≡ kept (cond b (pos 0) (negsuc (c - t))) m + t * kept (negsuc 0) m
less_below t c true e l Free = let h : c < t = ltb-true c t e in omega arith
less_below t c true e l Zero = let h : c < t = ltb-true c t e in omega arith
less_below t c true e l One = omega arith
less_below t c false e l Free = let h : t ≤ c = ltb-false c t e in omega arith
less_below t c false e l Zero = let h : t ≤ c = ltb-false c t e in omega arith
less_below t c false e l One = omega arith

-- what a literal that loses t gives less
pub kept_less : (t : ℕ) (u w : ℤ) (m : Mark) → size u ≤ 1 → (size u ≡ 0 → ⊥) → t ≤ literal_weight u w → kept w m ≡ kept (less t w) m + t * kept u m
kept_less t (pos zero) w m s n l = absurd (n refl)
kept_less t (pos (suc zero)) (pos c) Free s n l = omega arith
kept_less t (pos (suc zero)) (pos c) Zero s n l = omega arith
kept_less t (pos (suc zero)) (pos c) One s n l = omega arith
kept_less t (pos (suc zero)) (negsuc c) m s n l = none_less t (pos 1) (negsuc c) m l
kept_less t (pos (suc (suc x))) w m s n l = absurd (omega arith)
kept_less t (negsuc zero) (pos c) m s n l = none_less t (negsuc 0) (pos c) m l
kept_less t (negsuc zero) (negsuc c) m s n l = less_below t c (ltb c t) refl l m
kept_less t (negsuc (suc x)) w m s n l = absurd (omega arith)

none_lost : (t : ℕ) (w : ℤ) → t ≤ 0 → size (less t w) + t ≡ size w
none_lost t w l =
    let z : t ≡ 0 = omega arith in
    omega (arith, ap (λ s. size (less s w)) z ∙ ap size (less_none w))

size_less_below : (t c : ℕ) (b : Bool) → ltb c t ≡ b → t ≤ suc c → size (cond b (pos 0) (negsuc (c - t))) + t ≡ suc c
size_less_below t c true e l = let h : c < t = ltb-true c t e in omega arith
size_less_below t c false e l = let h : t ≤ c = ltb-false c t e in omega arith

pub size_less : (t : ℕ) (u w : ℤ) → t ≤ literal_weight u w → size (less t w) + t ≡ size w
size_less t (pos x) (pos c) l = omega arith
size_less t (pos x) (negsuc c) l = none_lost t (negsuc c) l
size_less t (negsuc x) (pos c) l = none_lost t (pos c) l
size_less t (negsuc x) (negsuc c) l = size_less_below t c (ltb c t) refl l

-- ---- the fresh variables set: the first j are 1
abbrev pub set_fresh : ℕ → ℕ → (ℕ → Mark) → ℕ → Mark
set_fresh v j m i = cond (ltb i v) (m i) (cond (ltb i (v + j)) One Zero)

module _ (v j : ℕ) (m : ℕ → Mark) where
  pub kept_old : (i : ℕ) → i < v → set_fresh v j m i ≡ m i
  kept_old i l = ap (λ t. cond t (m i) (cond (ltb i (v + j)) One Zero)) (lt-ltb i v l)

  pub set_on : (i : ℕ) → v ≤ i → i < v + j → set_fresh v j m i ≡ One
  set_on i g l = ap (λ t. cond t (m i) (cond (ltb i (v + j)) One Zero)) (le-ltb i v g) ∙ ap (λ t. cond t One Zero) (lt-ltb i (v + j) l)

  pub set_off : (i : ℕ) → v + j ≤ i → set_fresh v j m i ≡ Zero
  set_off i l = ap (λ t. cond t (m i) (cond (ltb i (v + j)) One Zero)) (le-ltb i v (omega arith)) ∙ ap (λ t. cond t One Zero) (le-ltb i (v + j) l)

  pub set_full : (k : ℕ) → Full v m → Full (v + k) (set_fresh v j m)
  set_full k f i l e = elim (cases_lt i v) [
    | inl b ↦ f i b (sym (kept_old i b) ∙ e)
    | inr g ↦ elim (cases_lt i (v + j)) [
      | inl b ↦ let y = set_on i g b in let z : ◌≡◌ {A = ℕ} 0 1 = cc in omega arith
      | inr o ↦ let y = set_off i o in let z : ◌≡◌ {A = ℕ} 0 1 = cc in omega arith
    ]
  ]
