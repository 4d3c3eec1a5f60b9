-- Words that are made from others, and what is summed of them.
use Rattle.std.proofs.Common.{◌≡◌, ℕ, suc, ◌+◌, ◌*◌, ◌<◌, ◌≤◌, List, [], ◌∷◌, ◌++◌, map, length, get_or, take, drop, set, sum, ℤ, pos, negsuc, nat_abs, sym, refl, ap, ◌∙◌, append_assoc, arith, ◌-ℤ◌, neg_ℤ, w32, SFits, to_z, of_z}
use Rattle.std.proofs.lemmas.Int.{ints}
use Rattle.std.proofs.lemmas.List.{take_more_set, drop-set-lt}
use Rattle.std.proofs.lemmas.List.Sums.{sum-map}
use Rattle.std.proofs.lemmas.List.Recursion.{is_sum_by}
use Rattle.rows.specs.Rows.{below, negatives}

-- each of the words is what h makes of the one at its place
pub mapped : {X : Type 0} (h : X → ℤ) (xs : List X) (ys : List ℤ) (d : X) → length ys ≡ length xs → ((i : ℕ) → i < length xs → get_or ys i (pos 0) ≡ h (get_or xs i d)) → ys ≡ map h xs
mapped h [] [] d e f = refl
mapped h [] (y ∷ ys) d e f = absurd (omega arith)
mapped h (x ∷ xs) [] d e f = absurd (omega arith)
mapped h (x ∷ xs) (y ∷ ys) d e f =
    ap (λ (z : ℤ). z ∷ ys) (f 0 (omega arith)) ∙ ap (λ (zs : List ℤ). h x ∷ zs) (mapped h xs ys d (omega arith) (λ i l. f (suc i) (omega arith)))

-- a word whose sign is turned
pub negated : (z : ℤ) → nat_abs z ≤ 100000000 → to_z w32 (of_z w32 (pos 0 -ℤ to_z w32 (of_z w32 z))) ≡ neg_ℤ z
negated z h = grind (arith, ints)

pub negated_fits : (z : ℤ) → nat_abs z ≤ 100000000 → SFits w32 (pos 0 -ℤ to_z w32 (of_z w32 z))
negated_fits z h = grind (arith, ints)

-- the sizes of the negative coefficients, summed
pub sum_below : (cs : List ℤ) → sum (map below cs) ≡ negatives cs
sum_below cs = sum-map below cs ∙ sym (is_sum_by negatives below refl (λ c ds. refl) cs)

pub below_small : (c : ℤ) → below c ≤ nat_abs c
below_small (pos a) = omega arith
below_small (negsuc a) = omega arith

pub negatives_small : (cs : List ℤ) (n : ℕ) → ((i : ℕ) → nat_abs (get_or cs i (pos 0)) ≤ n) → negatives cs ≤ n * length cs
negatives_small [] n h = omega arith
negatives_small (c ∷ cs) n h = omega (arith, below_small c, h 0, negatives_small cs n (λ i. h (suc i)))

-- a word, and forty after it
pub row_put : (T U ws : List ℤ) (start : ℕ) (v u : ℤ) → start < length T → U ≡ take (start + 1) (set T start v) ++ (ws ++ drop (start + 1 + 40) (set T start v)) → v ≡ u → U ≡ take start T ++ (u ∷ ws ++ drop (start + 41) T)
row_put T U ws start v u l h e =
    let far : start < start + 1 + 40 = omega arith in
    let n : start + 1 + 40 ≡ start + 41 = omega arith in
    h ∙ ap (λ (x : List ℤ). x ++ (ws ++ drop (start + 1 + 40) (set T start v))) (take_more_set T start v l)
    ∙ append_assoc (take start T) (v ∷ []) (ws ++ drop (start + 1 + 40) (set T start v))
    ∙ ap (λ (x : List ℤ). take start T ++ (v ∷ ws ++ x)) (drop-set-lt (start + 1 + 40) T start v far)
    ∙ ap (λ (i : ℕ). take start T ++ (v ∷ ws ++ drop i T)) n
    ∙ ap (λ (x : ℤ). take start T ++ (x ∷ ws ++ drop (start + 41) T)) e
