-- Backtracking over the variables in their order. The marks p of the first d variables are a path in a binary tree, whose
-- nodes are passed from left to right: 0 before 1.
use Rattle.std.specs.Prelude.{◌≡◌, ℕ, suc, ◌+◌, ◌-◌, ◌^◌, ◌<◌, ◌≤◌, cond, List, ◌==◌, ◌≢◌, nat_lt}
use Rattle.rules.specs.Sum.{total}
use Rattle.rules.specs.declared.Mark.{Mark}
use Rattle.rules.specs.declared.Mark.TheVariants.{Free, Zero, One}
use Rattle.rules.specs.declared.term.Literal.{Literal}
use Rattle.derive.specs.Derive.{Extends}
use Rattle.engine.specs.Held.{Held}
use Rattle.engine.specs.Questions.{Solution}

-- exactly the first d of the n variables are marked
pub record Path (n : ℕ) (p : ℕ → Mark) (d : ℕ) : Type 0 where
  pub deep : d ≤ n
  pub marked : (i : ℕ) → i < d → p i ≢ Free
  pub free : (i : ℕ) → d ≤ i → p i ≡ Free

-- the next variable gets 0
abbrev pub deeper : (ℕ → Mark) → ℕ → ℕ → Mark
deeper p d i = cond (i == d) Zero (p i)

-- the variable t turns to 1, and those after it are cleared
abbrev pub turned : (ℕ → Mark) → ℕ → ℕ → Mark
turned p t i = cond (nat_lt i t) (p i) (cond (i == t) One Free)

-- t is the last of the first d variables that is 0
pub record LastZero (p : ℕ → Mark) (d t : ℕ) : Type 0 where
  pub below : t < d
  pub zero : p t ≡ Zero
  pub later : (j : ℕ) → t < j → j < d → p j ≡ One

abbrev pub NoZero : (ℕ → Mark) → ℕ → Type 0
NoZero p d = (j : ℕ) → j < d → p j ≡ One

-- the marks s were passed before the path came to p: they are the same up to a variable that is 1 in p and 0 in s
pub record Before (p : ℕ → Mark) (d : ℕ) (s : ℕ → Mark) : Type 0 where
  pub place : ℕ
  pub within : place < d
  pub one : p place ≡ One
  pub zero : s place ≡ Zero
  pub same : (j : ℕ) → j < place → s j ≡ p j

-- no solution was passed
abbrev pub Exhausted : Held → List Literal → (ℕ → Mark) → ℕ → Type 0
Exhausted h ls p d = (s : ℕ → Mark) → Solution h ls s → Before p d s → ⊥

-- no solution has the marks p
abbrev pub Dead : Held → List Literal → (ℕ → Mark) → Type 0
Dead h ls p = (s : ℕ → Mark) → Solution h ls s → Extends p s → ⊥

-- the nodes of a tree of depth k
abbrev pub tree : ℕ → ℕ
tree k = 2 ^ (k + 1) - 1

-- the nodes that are still to come to the right of a path: the other branch at each 0
abbrev pub at_zero : Mark → ℕ → ℕ
at_zero Free k = 0
at_zero Zero k = k
at_zero One k = 0

abbrev pub beside : ℕ → (ℕ → Mark) → ℕ → ℕ
beside n p i = at_zero (p i) (tree (n - suc i))

-- the nodes from the path's end on, that one included
abbrev pub left : ℕ → (ℕ → Mark) → ℕ → ℕ
left n p d = tree (n - d) + total (beside n p) d
