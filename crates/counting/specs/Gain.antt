-- The gain of a count rule. Every literal has a weight w, and "at least c literals of y are true" gains c times the smallest
-- weight in y: so much, at least, do the true literals of y weigh where the rule is met.
use Rattle.std.specs.Prelude.{◌≡◌, ℕ, ◌*◌, ◌<◌, ◌≤◌, Bool, true, false, cond, not, ℤ, ◌==◌, ◌≢◌, nat_lt}
use Rattle.rules.specs.Rule.{size}
use Rattle.counting.specs.Counting.{Least, CountFollows}

-- y holds literals of the core only
abbrev pub OfCore : ℕ → (ℕ → ℤ) → (ℕ → Bool) → Type 0
OfCore n a y = (i : ℕ) → i < n → y i ≡ true → size (a i) ≢ 0

-- t is the smallest weight in y
pub record Smallest (n : ℕ) (w : ℕ → ℕ) (y : ℕ → Bool) (t : ℕ) : Type 0 where
  pub place : ℕ
  pub below : place < n
  pub member : y place ≡ true
  pub weighs : w place ≡ t
  pub no_less : (i : ℕ) → i < n → y i ≡ true → t ≤ w i

-- the literals of the core whose weight is t or more
abbrev pub heavy : (ℕ → ℤ) → (ℕ → ℕ) → ℕ → ℕ → Bool
heavy a w t i = cond (size (a i) == 0) false (not (nat_lt (w i) t))

-- To search all count rules over a core's literals it is enough to look at the literals from a weight on, for each weight
-- that there is: with t the smallest weight in y, these have the smallest weight t too, and a gain that is no smaller.
pub record HeavySuffices : Type 0 where
  pub smallest : (n : ℕ) (a : ℕ → ℤ) (w : ℕ → ℕ) (y : ℕ → Bool) (t : ℕ)
      → OfCore n a y → Smallest n w y t → Smallest n w (heavy a w t) t
  pub follows : (n : ℕ) (a : ℕ → ℤ) (d : ℕ) (w : ℕ → ℕ) (y : ℕ → Bool) (t c : ℕ)
      → OfCore n a y → Smallest n w y t → CountFollows n a d y c → CountFollows n a d (heavy a w t) c
  pub gain : (n : ℕ) (a : ℕ → ℤ) (d : ℕ) (w : ℕ → ℕ) (y : ℕ → Bool) (t c b : ℕ)
      → OfCore n a y → Smallest n w y t → CountFollows n a d y c → Least n a d (heavy a w t) b → c * t ≤ b * t
