-- The laws of the sum over places.
use Rattle.std.proofs.Common.{◌≡◌, ℕ, zero, suc, ◌+◌, ◌*◌, ◌<◌, ◌≤◌, refl, inl, inr, suc-mul, eq-or-lt_of_le, mul-add, add-one, arith}
use Rattle.rules.specs.Sum.{total}

pub total_le : (n : ℕ) (f g : ℕ → ℕ) → ((i : ℕ) → i < n → f i ≤ g i) → total f n ≤ total g n
unfolding total
total_le zero f g h = omega arith
total_le (suc n) f g h = omega (arith, total_le n f g (λ i l. h i (omega arith)), h n (omega arith))

pub total_same : (n : ℕ) (f g : ℕ → ℕ) → ((i : ℕ) → i < n → f i ≡ g i) → total f n ≡ total g n
unfolding total
total_same zero f g h = refl
total_same (suc n) f g h = omega (arith, total_same n f g (λ i l. h i (omega arith)), h n (omega arith))

pub total_add : (n : ℕ) (f g : ℕ → ℕ) → total (λ i. f i + g i) n ≡ total f n + total g n
unfolding total
total_add zero f g = omega arith
total_add (suc n) f g = omega (arith, total_add n f g)

pub total_times : (n k : ℕ) (f : ℕ → ℕ) → total (λ i. k * f i) n ≡ k * total f n
unfolding total
total_times zero k f = omega arith
total_times (suc n) k f = omega (arith, total_times n k f, mul-add k (total f n) (f n))

-- all but the place t are at most, and t's own parts are told
pub total_le_but : (n : ℕ) (f g : ℕ → ℕ) (t : ℕ) → t < n → ((i : ℕ) → i < n → (i ≡ t → ⊥) → f i ≤ g i) → total f n + g t ≤ total g n + f t
unfolding total
total_le_but zero f g t l h = absurd (omega arith)
total_le_but (suc n) f g t l h =
    let upto : t ≤ n = omega arith in
    elim (eq-or-lt_of_le upto) [
      | inl e ↦ rw e (omega (arith, total_le n f g (λ i k. h i (omega arith) (λ q. omega arith))))
      | inr b ↦ omega (arith, total_le_but n f g t b (λ i k. h i (omega arith)), h n (omega arith) (λ q. omega arith))
    ]

pub total_same_but : (n : ℕ) (f g : ℕ → ℕ) (t : ℕ) → t < n → ((i : ℕ) → i < n → (i ≡ t → ⊥) → f i ≡ g i) → total f n + g t ≡ total g n + f t
total_same_but n f g t l h = omega (arith, total_le_but n f g t l (λ i k q. omega (arith, h i k q)), total_le_but n g f t l (λ i k q. omega (arith, h i k q)))

-- one part is at most the whole
pub part_le : (n : ℕ) (f : ℕ → ℕ) (i : ℕ) → i < n → f i ≤ total f n
unfolding total
part_le zero f i l = absurd (omega arith)
part_le (suc n) f i l =
    let upto : i ≤ n = omega arith in
    elim (eq-or-lt_of_le upto) [ inl e ↦ rw e (omega arith) | inr b ↦ omega (arith, part_le n f i b) ]

-- a loop's step
pub total_more : (f : ℕ → ℕ) (i : ℕ) → total f (i + 1) ≡ total f i + f i
unfolding total
total_more f i = rw (add-one i) refl

pub total_start : (f : ℕ → ℕ) → total f 0 ≡ 0
unfolding total
total_start f = refl

pub total_none : (n : ℕ) (f : ℕ → ℕ) → ((i : ℕ) → i < n → f i ≡ 0) → total f n ≡ 0
unfolding total
total_none zero f h = refl
total_none (suc n) f h = omega (arith, total_none n f (λ i l. h i (omega arith)), h n (omega arith))

pub total_ones : (n : ℕ) → total (λ j. 1) n ≡ n
unfolding total
total_ones zero = refl
total_ones (suc n) = omega (arith, total_ones n)

-- each part is at most b
pub total_bound : (n b : ℕ) (f : ℕ → ℕ) → ((i : ℕ) → i < n → f i ≤ b) → total f n ≤ n * b
unfolding total
total_bound zero b f h = omega arith
total_bound (suc n) b f h = omega (arith, total_bound n b f (λ i l. h i (omega arith)), h n (omega arith), suc-mul n b)
