-- The sum of what a test lets through.
use Rattle.std.proofs.Common.{◌≡◌, ℕ, ◌+◌, ◌≤◌, Bool, true, false, cond, not, List, [], ◌∷◌, length, map, sum, filter, ℤ, pos, sym, refl, ap, ◌∙◌, arith}
use Rattle.std.proofs.lemmas.List.Sums.{sum_by-cons, length-filter, count_by-le-length}
use Rattle.std.proofs.lemmas.Slice.Zip.{get_or-zip, length-zip}
use Rattle.std.specs.List.{zip}
use Rattle.rules.specs.Rule.{at, size}
use Rattle.rules.proofs.Summed.{summed}
use Rattle.counting.specs.Counting.{sum_outside}
use Rattle.counting.specs.Order.{flag}

filter_summed : {X : Type 0} (t : X → Bool) (g : X → ℕ) (xs : List X) → sum (map g (filter t xs)) ≡ sum (map (λ x. cond (t x) (g x) 0) xs)
filter_summed t g [] = refl
filter_summed {X} t g (x ∷ xs) = first (t x) ∙ ap (λ (n : ℕ). cond (t x) (g x) 0 + n) (filter_summed t g xs) ∙ sym (sum_by-cons (λ n. n) (cond (t x) (g x) 0) (map (λ x. cond (t x) (g x) 0) xs))
  where
    first : (b : Bool) → sum (map g (cond b (x ∷ filter t xs) (filter t xs))) ≡ cond b (g x) 0 + sum (map g (filter t xs))
    first true = sum_by-cons (λ n. n) (g x) (map g (filter t xs))
    first false = omega arith

-- a coefficient beside a variable's membership
abbrev pub outside : ℤ × Bool → Bool
outside p = not p.1

abbrev pub first_size : ℤ × Bool → ℕ
first_size p = size p.0

module _ (xs : List ℤ) (ys : List Bool) (l : length xs ≡ 80) (m : length ys ≡ 80) where
  pub few_outside : length (filter outside (zip xs ys)) ≤ 80
  few_outside = omega (arith, length-filter outside (zip xs ys), count_by-le-length outside (zip xs ys), length-zip xs ys)

  pub outside_summed : sum (map first_size (filter outside (zip xs ys))) ≡ sum_outside 80 (at xs) (flag ys)
  outside_summed =
      filter_summed outside first_size (zip xs ys)
      ∙ summed (λ p. cond (outside p) (first_size p) 0) (λ i. cond (flag ys i) 0 (size (at xs i))) (zip xs ys) (pos 0, false) 80 (omega (arith, length-zip xs ys))
      (λ i b. ap (λ p. cond (outside p) (first_size p) 0) (get_or-zip xs ys i (pos 0, false) (omega arith) (omega arith)) ∙ turned (flag ys i) (size (at xs i)))
    where
      turned : (b : Bool) (x : ℕ) → cond (not b) x 0 ≡ cond b 0 x
      turned true x = refl
      turned false x = refl
