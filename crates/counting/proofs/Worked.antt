-- The coefficients 3, 1, 1, 1.
use Rattle.std.proofs.Common.{◌≡◌, ℕ, zero, suc, ◌<◌, ◌≤◌, Bool, true, false, arith}
use Rattle.rules.specs.Sum.{total}
use Rattle.rules.specs.Rule.{size}
use Rattle.counting.specs.Counting.{ChosenGreatestFirst, worked_row, WorkedCounts}
use Rattle.counting.proofs.Counting.{greatest_first}

abbrev first_three : ℕ → Bool
first_three zero = true
first_three (suc zero) = true
first_three (suc (suc zero)) = true
first_three (suc (suc (suc i))) = false

one_or_more : (i : ℕ) → i < 4 → 1 ≤ size (worked_row i)
one_or_more zero l = omega arith
one_or_more (suc zero) l = omega arith
one_or_more (suc (suc zero)) l = omega arith
one_or_more (suc (suc (suc zero))) l = omega arith
one_or_more (suc (suc (suc (suc i)))) l = absurd (omega arith)

clash : {P : Type 0} → true ≡ false → P
clash e = let z : ◌≡◌ {A = ℕ} 0 1 = cc in absurd (omega arith)

last_at : (i : ℕ) → first_three i ≡ false → size (worked_row i) ≤ 1
last_at zero e = clash e
last_at (suc zero) e = omega arith
last_at (suc (suc zero)) e = omega arith
last_at (suc (suc (suc zero))) e = omega arith
last_at (suc (suc (suc (suc i)))) e = omega arith

three : ChosenGreatestFirst 4 worked_row 5 (λ i. true) first_three 1
unfolding total
three = record {
  reaches = record { within = λ i l e. clash e; enough = omega arith };
  taken = λ i l e. one_or_more i l;
  left = λ i l e f. last_at i f;
  tight = omega arith;
}

four : ChosenGreatestFirst 4 worked_row 6 (λ i. true) (λ i. true) 1
unfolding total
four = record {
  reaches = record { within = λ i l e. e; enough = omega arith };
  taken = λ i l e. one_or_more i l;
  left = λ i l e f. clash f;
  tight = omega arith;
}

pub worked_counts : WorkedCounts
unfolding total
worked_counts = record { five = greatest_first _ _ _ _ _ _ three; six = greatest_first _ _ _ _ _ _ four }
