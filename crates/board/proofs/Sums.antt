-- What a board reaches, summed over lists.
use Rattle.std.proofs.Common.{◌≡◌, ℕ, ◌*◌, ◌<◌, ◌≤◌, Bool, cond, ◌&&◌, List, ℤ, pos, get_or, length, map, sum, nat_abs, sym, ap, ◌∙◌, arith}
use Rattle.std.specs.List.{zip, filter, range_with_len}
use Rattle.std.proofs.lemmas.List.FromFn.{length-range_with_len, get_or-range_with_len}
use Rattle.std.proofs.lemmas.List.Sums.{length-filter, sum-map}
use Rattle.std.proofs.lemmas.Bool.{lt-ltb}
use Rattle.std.proofs.lemmas.Slice.Zip.{get_or-zip, length-zip}
use Rattle.rules.specs.Rule.{at, marked, kept, open_sum}
use Rattle.rules.specs.declared.Mark.{Mark}
use Rattle.rules.specs.declared.Mark.TheVariants.{Free}
use Rattle.rules.proofs.Rule.{kept_le_size}
use Rattle.rules.specs.Sum.{total}
use Rattle.rules.proofs.Sum.{total_same}
use Rattle.rules.proofs.Summed.{summed, summed_bound}
use Rattle.table.specs.Meaning.{mark, chosen}
use Rattle.board.specs.Board.{is_one, choice}

-- what a coefficient gives beside the mark of its part
abbrev pub gives : Mark × ℤ → ℕ
gives p = kept p.1 (mark (is_one p.0))

module _ (ms : List Mark) (xs : List ℤ) (l : length ms ≡ 40) (m : length xs ≡ 40) where
  whole : length (zip ms xs) ≡ 40
  whole = omega (arith, length-zip ms xs)

  pub gives_open : sum (map gives (zip ms xs)) ≡ open_sum 40 (at xs) (chosen (choice ms))
  gives_open =
      summed gives (λ i. kept (at xs i) (chosen (choice ms) i)) (zip ms xs) (Free, pos 0) 40 whole
      (λ i b. ap gives (get_or-zip ms xs i (Free, pos 0) (omega arith) (omega arith)) ∙ ap (λ t. kept (at xs i) (mark (t && is_one (marked ms i)))) (sym (lt-ltb i 40 b)))

  pub gives_bound : ((i : ℕ) → i < 40 → nat_abs (at xs i) ≤ 1000000) → sum (map gives (zip ms xs)) ≤ 40 * 1000000
  gives_bound small =
      summed_bound gives (zip ms xs) (Free, pos 0) 40 1000000 whole
      (λ i b. let e = ap gives (get_or-zip ms xs i (Free, pos 0) (omega arith) (omega arith)) in omega (arith, e, kept_le_size (at xs i) (mark (is_one (marked ms i))), small i b))

-- the sum of one row of coefficients is that of another, if they are the same
pub open_same : (xs : List ℤ) (a : ℕ → ℤ) (x : ℕ → Bool) → ((i : ℕ) → i < 40 → at xs i ≡ a i) → open_sum 40 (at xs) (chosen x) ≡ open_sum 40 a (chosen x)
open_same xs a x same = total_same 40 _ _ (λ i l. ap (λ c. kept c (chosen x i)) (same i l))

-- how many numbers below n pass a test
pub passed : (p : ℕ → Bool) (n : ℕ) → length (filter p (range_with_len 0 n)) ≡ total (λ k. cond (p k) 1 0) n
passed p n =
    length-filter p (range_with_len 0 n) ∙ sym (sum-map (λ k. cond (p k) 1 0) (range_with_len 0 n))
    ∙ summed (λ k. cond (p k) 1 0) (λ k. cond (p k) 1 0) (range_with_len 0 n) 0 n (length-range_with_len 0 n) (λ i l. let e : get_or (range_with_len 0 n) i 0 ≡ i = omega (arith, get_or-range_with_len 0 n i 0 l) in ap (λ (k : ℕ). cond {A = ℕ} (p k) 1 0) e)
