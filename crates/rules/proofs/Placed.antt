-- The row of a list of terms.
use Rattle.std.proofs.Common.{◌≡◌, ℕ, zero, suc, ◌≤◌, List, [], ◌∷◌, ◌++◌, length, set, replicate, ℤ, pos, negsuc, refl, ◌∙◌, arith, length-set}
use Rattle.rules.specs.Rule.{at, size}
use Rattle.rules.specs.Terms.{signed, placed}
use Rattle.rules.specs.declared.term.Term.{Term}

-- a coefficient of size 0 is 0
pub size_zero : (a : ℤ) → size a ≤ 0 → a ≡ pos 0
size_zero (pos zero) l = refl
size_zero (pos (suc c)) l = absurd (omega arith)
size_zero (negsuc c) l = absurd (omega arith)

pub zeros : (n i : ℕ) → at (replicate n (pos 0)) i ≡ pos 0
zeros zero i = refl
zeros (suc n) zero = refl
zeros (suc n) (suc i) = zeros n i

-- one term more, at the end
pub placed_push : (row : List ℤ) (ts : List Term) (t : Term) → placed row (ts ++ (t ∷ [])) ≡ set (placed row ts) t.literal.variable (signed t)
placed_push row [] t = refl
placed_push row (x ∷ ts) t = placed_push (set row x.literal.variable (signed x)) ts t

pub placed_length : (row : List ℤ) (ts : List Term) → length (placed row ts) ≡ length row
placed_length row [] = refl
placed_length row (x ∷ ts) = placed_length (set row x.literal.variable (signed x)) ts ∙ length-set row x.literal.variable (signed x)
