-- The sum of a list is the sum over its places.
use Rattle.std.proofs.Common.{◌≡◌, ℕ, zero, suc, ◌+◌, ◌*◌, ◌<◌, ◌≤◌, List, length, take, get_or, map, sum, sum_by, refl, ◌∙◌, sym, ap, add-one, arith}
use Rattle.std.proofs.lemmas.List.{get_or-map, length-map, take_all}
use Rattle.std.proofs.lemmas.List.Sums.{sum_by_more}
use Rattle.rules.specs.Sum.{total}
use Rattle.rules.proofs.Sum.{total_bound}

first_summed : (f : ℕ → ℕ) (ys : List ℕ) (n : ℕ) → n ≤ length ys → ((i : ℕ) → i < length ys → get_or ys i 0 ≡ f i) → sum (take n ys) ≡ total f n
unfolding total
first_summed f ys zero l h = refl
first_summed f ys (suc n) l h =
    let more : sum_by (λ x. x) (take (n + 1) ys) ≡ sum_by (λ x. x) (take n ys) + get_or ys n 0 = sum_by_more (λ x. x) ys n 0 (omega arith) in
    let one : sum (take (suc n) ys) ≡ sum (take n ys) + get_or ys n 0 = ap (λ k. sum (take k ys)) (sym (add-one n)) ∙ more in
    omega (arith, one, first_summed f ys n (omega arith) h, h n (omega arith))

-- what a function gives of a list's items, together
pub summed : {X : Type 0} (g : X → ℕ) (f : ℕ → ℕ) (xs : List X) (d : X) (n : ℕ) → length xs ≡ n → ((i : ℕ) → i < n → g (get_or xs i d) ≡ f i) → sum (map g xs) ≡ total f n
summed g f xs d n e h =
    let long : length (map g xs) ≡ n = length-map xs g ∙ e in
    let each : (i : ℕ) → i < length (map g xs) → get_or (map g xs) i 0 ≡ f i = λ i l. get_or-map g xs i d 0 (omega arith) ∙ h i (omega arith) in
    let whole : take n (map g xs) ≡ map g xs = take_all n (map g xs) (omega arith) in
    ap sum (sym whole) ∙ first_summed f (map g xs) n (omega arith) each

-- each of them is at most b
pub summed_bound : {X : Type 0} (g : X → ℕ) (xs : List X) (d : X) (n b : ℕ) → length xs ≡ n → ((i : ℕ) → i < n → g (get_or xs i d) ≤ b) → sum (map g xs) ≤ n * b
summed_bound g xs d n b e h = omega (arith, summed g (λ i. g (get_or xs i d)) xs d n e (λ i l. refl), total_bound n b (λ i. g (get_or xs i d)) h)
