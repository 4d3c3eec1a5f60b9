-- The rounds and the new price that are worked out, with the division and the counts that stand in their crates.
use Rattle.std.proofs.Common.{◌≡◌, ℕ, zero, suc, ◌+◌, ◌*◌, ◌<◌, ◌≤◌, Bool, true, false, cond, not, eqb, List, [], ◌∷◌, get_or, ℤ, pos, sym, refl, ap, ◌∙◌, subst, arith}
use Rattle.rules.specs.Sum.{total}
use Rattle.rules.specs.Rule.{at, size}
use Rattle.derive.proofs.Derive.{worked_division}
use Rattle.counting.specs.Counting.{sum_in, sum_outside, number_in, Least}
use Rattle.counting.specs.Gain.{heavy, Smallest}
use Rattle.counting.specs.Rounds.{Round}
use Rattle.counting.proofs.Counting.{clash, greatest_first}
use Rattle.counting.proofs.Worked.{worked_counts}
use Rattle.counting.proofs.Rounds.{heavy_weighs}
use Rattle.reform_laws.specs.Reform.{new_weight, less}
use Rattle.reform_laws.proofs.Fresh.{fresh_out}
use Rattle.worked.specs.Derived.{core, price, weights, WorkedRounds, counted, WorkedPrice, WorkedDerivations}

-- ---- what holds of the first five variables and of all others
by_five : (P : ℕ → Type 0) → P 0 → P 1 → P 2 → P 3 → P 4 → ((i : ℕ) → P (suc (suc (suc (suc (suc i)))))) → (i : ℕ) → P i
by_five P a b c d e f zero = a
by_five P a b c d e f (suc zero) = b
by_five P a b c d e f (suc (suc zero)) = c
by_five P a b c d e f (suc (suc (suc zero))) = d
by_five P a b c d e f (suc (suc (suc (suc zero)))) = e
by_five P a b c d e f (suc (suc (suc (suc (suc i))))) = f i

-- chosen: a stored set
abbrev stored : List Bool → ℕ → Bool
stored bs i = get_or bs i false

no : {P : Type 0} → true ≡ false → P
no e = clash true refl e

nope : {P : Type 0} → false ≡ true → P
nope e = clash true refl (sym e)

-- a choice from the first five, checked at each
module _ (a : ℕ → ℤ) (d : ℕ) (y : ℕ → Bool) (p : List Bool) (last : ℕ) where
  pub record Checks (i : ℕ) : Type 0 where
    pub within : y i ≡ false → stored p i ≡ false
    pub taken : stored p i ≡ true → last ≤ size (a i)
    pub left : y i ≡ true → stored p i ≡ false → size (a i) ≤ last

  chosen : ((i : ℕ) → Checks i) → d ≤ sum_outside 80 a y + sum_in 80 a (stored p) → sum_outside 80 a y + sum_in 80 a (stored p) < d + last → (b : ℕ) → number_in 80 (stored p) ≡ b → Least 80 a d y b
  chosen c enough tight b e =
      subst (λ n. Least 80 a d y n) e (greatest_first 80 a d y (stored p) last (record {
        reaches = record { within = λ i l. (c i).within; enough = enough };
        taken = λ i l. (c i).taken;
        left = λ i l. (c i).left;
        tight = tight;
      }))

-- ---- the rounds of the core
count_3 : Least 80 core 7 (heavy core weights 3) 3
unfolding total
count_3 = chosen core 7 (heavy core weights 3) (true ∷ true ∷ true ∷ []) 2
    (by_five (Checks core 7 (heavy core weights 3) (true ∷ true ∷ true ∷ []) 2)
    (record { within = λ e. no e; taken = λ e. omega arith; left = λ e f. no f })
    (record { within = λ e. no e; taken = λ e. omega arith; left = λ e f. no f })
    (record { within = λ e. no e; taken = λ e. omega arith; left = λ e f. no f })
    (record { within = λ e. no e; taken = λ e. nope e; left = λ e f. omega arith })
    (record { within = λ e. no e; taken = λ e. nope e; left = λ e f. omega arith })
    (λ i. record { within = λ e. refl; taken = λ e. nope e; left = λ e f. omega arith }))
    (omega arith) (omega arith) 3 refl

count_6 : Least 80 core 7 (heavy core weights 6) 2
unfolding total
count_6 = chosen core 7 (heavy core weights 6) (true ∷ false ∷ true ∷ []) 2
    (by_five (Checks core 7 (heavy core weights 6) (true ∷ false ∷ true ∷ []) 2)
    (record { within = λ e. no e; taken = λ e. omega arith; left = λ e f. no f })
    (record { within = λ e. refl; taken = λ e. nope e; left = λ e f. nope e })
    (record { within = λ e. no e; taken = λ e. omega arith; left = λ e f. no f })
    (record { within = λ e. no e; taken = λ e. nope e; left = λ e f. omega arith })
    (record { within = λ e. no e; taken = λ e. nope e; left = λ e f. omega arith })
    (λ i. record { within = λ e. refl; taken = λ e. nope e; left = λ e f. omega arith }))
    (omega arith) (omega arith) 2 refl

count_7 : Least 80 core 7 (heavy core weights 7) 1
unfolding total
count_7 = chosen core 7 (heavy core weights 7) (true ∷ []) 3
    (by_five (Checks core 7 (heavy core weights 7) (true ∷ []) 3)
    (record { within = λ e. no e; taken = λ e. omega arith; left = λ e f. no f })
    (record { within = λ e. refl; taken = λ e. nope e; left = λ e f. nope e })
    (record { within = λ e. refl; taken = λ e. nope e; left = λ e f. omega arith })
    (record { within = λ e. refl; taken = λ e. nope e; left = λ e f. nope e })
    (record { within = λ e. refl; taken = λ e. nope e; left = λ e f. omega arith })
    (λ i. record { within = λ e. refl; taken = λ e. nope e; left = λ e f. omega arith }))
    (omega arith) (omega arith) 1 refl

count_9 : Least 80 core 7 (heavy core weights 9) 0
unfolding total
count_9 = chosen core 7 (heavy core weights 9) [] 2
    (by_five (Checks core 7 (heavy core weights 9) [] 2)
    (record { within = λ e. refl; taken = λ e. nope e; left = λ e f. nope e })
    (record { within = λ e. refl; taken = λ e. nope e; left = λ e f. nope e })
    (record { within = λ e. refl; taken = λ e. nope e; left = λ e f. omega arith })
    (record { within = λ e. refl; taken = λ e. nope e; left = λ e f. nope e })
    (record { within = λ e. refl; taken = λ e. nope e; left = λ e f. nope e })
    (λ i. record { within = λ e. refl; taken = λ e. nope e; left = λ e f. omega arith }))
    (omega arith) (omega arith) 0 refl

smallest_at : (t p : ℕ) → p < 80 → heavy core weights t p ≡ true → weights p ≡ t → Smallest 80 weights (heavy core weights t) t
smallest_at t p l m e = record { place = p; below = l; member = m; weighs = e; no_less = λ i k h. heavy_weighs core weights t i h }

round_3 : Round 80 core 7 weights 3 3
round_3 = record { smallest = smallest_at 3 1 (omega arith) refl refl; count = count_3; some = omega arith }

round_6 : Round 80 core 7 weights 6 2
round_6 = record { smallest = smallest_at 6 3 (omega arith) refl refl; count = count_6; some = omega arith }

-- a set has one least number
least_once : {n d : ℕ} {a : ℕ → ℤ} {y : ℕ → Bool} (b c : ℕ) → Least n a d y b → Least n a d y c → b ≡ c
least_once b c l m = omega (arith, l.no_fewer m.choice m.reaches, l.number, m.no_fewer l.choice l.reaches, m.number)

pub record Bounded (s c : ℕ) : Type 0 where
  pub most : c * s ≤ 12
  pub before : s < 6 → c * s < 12

bounded : (s c : ℕ) → Round 80 core 7 weights s c → Bounded s c
bounded s c r = at_place r.smallest.place r.smallest.member r.smallest.weighs
  where
    known : (t b : ℕ) → t ≡ s → Least 80 core 7 (heavy core weights t) b → Bounded t b → Bounded s c
    known t b e l h =
        let n : b ≡ c = least_once b c (subst (λ x. Least 80 core 7 (heavy core weights x) b) e l) r.count in
        subst (λ x. Bounded s x) n (subst (λ x. Bounded x b) e h)

    at_place : (p : ℕ) → heavy core weights s p ≡ true → weights p ≡ s → Bounded s c
    at_place zero h e = known 7 1 e count_7 (record { most = omega arith; before = λ l. omega arith })
    at_place (suc zero) h e = known 3 3 e count_3 (record { most = omega arith; before = λ l. omega arith })
    at_place (suc (suc zero)) h e = known 9 0 e count_9 (record { most = omega arith; before = λ l. omega arith })
    at_place (suc (suc (suc zero))) h e = known 6 2 e count_6 (record { most = omega arith; before = λ l. absurd (omega arith) })
    at_place (suc (suc (suc (suc zero)))) h e = known 7 1 e count_7 (record { most = omega arith; before = λ l. omega arith })
    at_place (suc (suc (suc (suc (suc p))))) h e = nope h

rounds : WorkedRounds
unfolding total
rounds = record {
  first = round_3;
  first_gain = refl;
  weakened = by_five (λ i. i < 5 → heavy core weights 6 i ≡ not (eqb i 1)) (λ l. refl) (λ l. refl) (λ l. refl) (λ l. refl) (λ l. refl) (λ i l. absurd (omega arith));
  lowered = refl;
  second = round_6;
  second_gain = refl;
  kept = record { round = round_6; before = λ s c r. (bounded s c r).before; greatest = λ s c r. (bounded s c r).most };
}

-- ---- the price
abbrev new_price : ℕ → ℤ
new_price = at (pos 1 ∷ pos 3 ∷ pos 3 ∷ pos 0 ∷ pos 1 ∷ pos 6 ∷ pos 6 ∷ [])

beyond : (i : ℕ) → 7 ≤ i → counted i ≡ pos 0 → price i ≡ pos 0 → new_weight counted price 5 2 6 i ≡ pos 0
beyond i l u w =
    ap (λ f. cond f (pos 6) (cond (eqb (size (counted i)) 0) (price i) (less 6 (price i)))) (fresh_out 5 2 i (omega arith))
    ∙ ap (λ z. cond (eqb (size z) 0) (price i) (less 6 (price i))) u ∙ w

new_price_at : (i : ℕ) → new_weight counted price 5 2 6 i ≡ new_price i
new_price_at zero = refl
new_price_at (suc zero) = refl
new_price_at (suc (suc zero)) = refl
new_price_at (suc (suc (suc zero))) = refl
new_price_at (suc (suc (suc (suc zero)))) = refl
new_price_at (suc (suc (suc (suc (suc zero))))) = refl
new_price_at (suc (suc (suc (suc (suc (suc zero)))))) = refl
new_price_at (suc (suc (suc (suc (suc (suc (suc i))))))) = beyond (suc (suc (suc (suc (suc (suc (suc i))))))) (omega arith) refl refl

reformulated : WorkedPrice
unfolding total
reformulated = record { fresh = refl; constant = refl; new_weights = λ i l. new_price_at i }

pub derivations : WorkedDerivations
derivations = record { division = worked_division; counts = worked_counts; rounds = rounds; price = reformulated }
