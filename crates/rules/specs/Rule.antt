-- Rules over n parts: a row of signed coefficients (negative for a complement, 0 for no term) and a degree.
use Rattle.std.specs.Prelude.{ℕ, suc, ◌<◌, ◌≤◌, List, ℤ, pos, negsuc, ◌≢◌, slice_index_or, unsigned_abs}
use Rattle.rules.specs.Sum.{total}
use Rattle.rules.specs.declared.Mark.{Mark}
use Rattle.rules.specs.declared.Mark.TheVariants.{Free, Zero, One}

-- what stands at each place of a stored row, and of stored marks
abbrev pub at : List ℤ → ℕ → ℤ
at row i = slice_index_or row i (pos 0)

abbrev pub marked : List Mark → ℕ → Mark
marked marks i = slice_index_or marks i Free

-- a coefficient without its sign
abbrev pub size : ℤ → ℕ
size a = unsigned_abs a

-- what a term still can give: its size, unless its literal is marked false
abbrev pub kept : ℤ → Mark → ℕ
kept (pos c) Free = c
kept (pos c) Zero = 0
kept (pos c) One = c
kept (negsuc c) Free = suc c
kept (negsuc c) Zero = suc c
kept (negsuc c) One = 0

-- every part below n is marked
abbrev pub Full : ℕ → (ℕ → Mark) → Type 0
Full n m = (i : ℕ) → i < n → m i ≢ Free

-- the sum of the coefficients of the literals that are not marked false; at a full marking, of the true ones
abbrev pub open_sum : ℕ → (ℕ → ℤ) → (ℕ → Mark) → ℕ
open_sum n a m = total (λ i. kept (a i) (m i)) n

-- the degree can still be reached; at a full marking, it is reached
abbrev pub Met : ℕ → (ℕ → ℤ) → ℕ → (ℕ → Mark) → Type 0
Met n a d m = d ≤ open_sum n a m

-- the degree is out of reach, whatever the free parts become
abbrev pub Broken : ℕ → (ℕ → ℤ) → ℕ → (ℕ → Mark) → Type 0
Broken n a d m = open_sum n a m < d
