-- What a term gives is at most its size.
use Rattle.std.proofs.Common.{ℕ, ◌*◌, ◌<◌, ◌≤◌, ℤ, pos, negsuc, arith}
use Rattle.rules.specs.Rule.{size, kept, open_sum}
use Rattle.rules.specs.declared.Mark.{Mark}
use Rattle.rules.specs.declared.Mark.TheVariants.{Free, Zero, One}
use Rattle.rules.proofs.Sum.{total_bound}

pub kept_le_size : (a : ℤ) (m : Mark) → kept a m ≤ size a
kept_le_size (pos c) Free = omega arith
kept_le_size (pos c) Zero = omega arith
kept_le_size (pos c) One = omega arith
kept_le_size (negsuc c) Free = omega arith
kept_le_size (negsuc c) Zero = omega arith
kept_le_size (negsuc c) One = omega arith

-- a bound for each size is one for the sum
pub open_bound : (n b : ℕ) (a : ℕ → ℤ) (m : ℕ → Mark) → ((i : ℕ) → i < n → size (a i) ≤ b) → open_sum n a m ≤ n * b
open_bound n b a m h = total_bound n b _ (λ i l. omega (arith, kept_le_size (a i) (m i), h i l))
