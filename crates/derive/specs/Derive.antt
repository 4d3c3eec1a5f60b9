-- What follows from a rule: a row of signed coefficients a over n parts, with the degree d.
use Rattle.std.specs.Prelude.{ℕ, ◌+◌, ◌-◌, ◌/◌, ◌<◌, ◌≡◌, Bool, cond, [], ◌∷◌, ℤ, pos, negsuc}
use Rattle.rules.specs.Sum.{total}
use Rattle.rules.specs.Rule.{at, size, Full, open_sum, Met, Broken}
use Rattle.rules.specs.declared.Mark.{Mark}
use Rattle.rules.specs.declared.Mark.TheVariants.{Free, Zero, One}

-- every full marking that meets a with d meets b with e
abbrev pub Follows : ℕ → (ℕ → ℤ) → ℕ → (ℕ → ℤ) → ℕ → Type 0
Follows n a d b e = (m : ℕ → Mark) → Full n m → Met n a d m → Met n b e m

-- a part that is marked keeps its mark
abbrev pub Keeps : Mark → Mark → Type 0
Keeps Free s = Unit {0}
Keeps Zero s = s ≡ Zero
Keeps One s = s ≡ One

-- the marks s are the marks m and more
abbrev pub Extends : (ℕ → Mark) → (ℕ → Mark) → Type 0
Extends m s = (i : ℕ) → Keeps (m i) (s i)

-- the literal of the term at t is forced: t is free, and without its coefficient the degree is out of reach
pub record Forces (n : ℕ) (a : ℕ → ℤ) (d : ℕ) (m : ℕ → Mark) (t : ℕ) : Type 0 where
  pub below : t < n
  pub unmarked : m t ≡ Free
  pub short : open_sum n a m < d + size (a t)

-- the mark that makes the literal of a coefficient true
abbrev pub true_mark : ℤ → Mark
true_mark (pos c) = One
true_mark (negsuc c) = Zero

-- weakening: the terms that p picks are dropped, and the degree is less by their coefficients
abbrev pub weakened : (ℕ → Bool) → (ℕ → ℤ) → ℕ → ℤ
weakened p a i = cond (p i) (pos 0) (a i)

abbrev pub dropped : (ℕ → Bool) → (ℕ → ℤ) → ℕ → ℕ
dropped p a i = cond (p i) (size (a i)) 0

abbrev pub weakened_degree : ℕ → (ℕ → Bool) → (ℕ → ℤ) → ℕ → ℕ
weakened_degree n p a d = d - total (dropped p a) n

-- division by c, rounding up
abbrev pub rounded : ℕ → ℕ → ℕ
rounded c x = (x + (c - 1)) / c

-- a coefficient divided by c, rounding its size up
abbrev pub divided : ℕ → ℤ → ℤ
divided c (pos x) = pos (rounded c x)
divided c (negsuc x) = negsuc (x / c)

-- The laws.
pub record MarksRefute : Type 0 where
  pub stays : (n : ℕ) (a : ℕ → ℤ) (d : ℕ) (m s : ℕ → Mark) → Extends m s → Broken n a d m → Broken n a d s
  pub unmet : (n : ℕ) (a : ℕ → ℤ) (d : ℕ) (m s : ℕ → Mark) → Extends m s → Broken n a d m → Met n a d s → ⊥

abbrev pub ForcesLiteral : Type 0
ForcesLiteral = (n : ℕ) (a : ℕ → ℤ) (d : ℕ) (m s : ℕ → Mark) (t : ℕ)
    → Forces n a d m t → Extends m s → Full n s → Met n a d s → s t ≡ true_mark (a t)

abbrev pub Weakening : Type 0
Weakening = (n : ℕ) (a : ℕ → ℤ) (d : ℕ) (p : ℕ → Bool) → Follows n a d (weakened p a) (weakened_degree n p a d)

abbrev pub Division : Type 0
Division = (n : ℕ) (a : ℕ → ℤ) (d c : ℕ) → 0 < c → Follows n a d (λ i. divided c (a i)) (rounded c d)

-- 3 x1 + 2 x2 >= 4 divided by 3 is x1 + x2 >= 2
pub record WorkedDivision : Type 0 where
  pub coefficients : (i : ℕ) → divided 3 (at (pos 3 ∷ pos 2 ∷ []) i) ≡ at (pos 1 ∷ pos 1 ∷ []) i
  pub degree : rounded 3 4 ≡ 2
