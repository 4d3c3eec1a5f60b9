-- The terms of a rule.
use Rattle.std.specs.Prelude.{◌≡◌, ℕ, ◌<◌, List, length, ℤ, slice_index_or}
use Rattle.rules.specs.Rule.{at, size}
use Rattle.rules.specs.Terms.{row_of}
use Rattle.rules.specs.declared.term.Term.{Term as Pair}
use Rattle.engine.specs.Held.{no_term, variable_of}

-- the terms stand for the row: each is of a variable of its own, in their order, and has that variable's coefficient
pub record Lists (row : List ℤ) (ts : List Pair) : Type 0 where
  pub row_is : (v : ℕ) → at (row_of ts) v ≡ at row v
  pub some : (j : ℕ) → j < length ts → 0 < (slice_index_or ts j no_term).coefficient
  pub size_is : (j : ℕ) → j < length ts → (slice_index_or ts j no_term).coefficient ≡ size (at row (variable_of ts j))
  pub order : (i j : ℕ) → i < j → j < length ts → variable_of ts i < variable_of ts j
