-- What a search for a board says of the sheet's table.
use Rattle.std.specs.Prelude.{◌≡◌, ℕ, ◌≤◌, Bool, List, ℤ}
use Rattle.table.specs.Meaning.{Meets}
use Rattle.board.specs.Board.{choice}
use Rattle.finder.specs.declared.found.Found.{Found}
use Rattle.finder.specs.declared.found.Found.TheVariants.{Fits, Nothing, Unfinished}
use Rattle.finder.specs.declared.found.Finding.{Finding}

-- the board meets the table; or no choice of parts does; or all steps that were allowed were made
abbrev pub IsSo : ℕ → List ℤ → ℕ → Found → ℕ → Type 0
IsSo Q T allowance (Fits b) steps = Meets T (choice b.marks) × (steps ≤ allowance) × (steps ≤ Q)
IsSo Q T allowance Nothing steps = ((x : ℕ → Bool) → Meets T x → ⊥) × (steps ≤ allowance) × (steps ≤ Q)
IsSo Q T allowance Unfinished steps = steps ≡ allowance

abbrev pub Finds : ℕ → List ℤ → ℕ → Finding → Type 0
Finds Q T allowance f = IsSo Q T allowance f.found f.steps
