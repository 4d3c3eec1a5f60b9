-- What comes of a table that is offered as a sheet, of a row that is written, and of a rule that is added.
use Rattle.std.specs.Prelude.{◌≡◌, ℕ, ◌+◌, ◌*◌, ◌<◌, ◌≤◌, Bool, List, ℤ, pos, Ok, Err, Result}
use Rattle.faults.specs.declared.fault.RunFault.{RunFault}
use Rattle.faults.specs.declared.fault.EngineFault.{EngineFault}
use Rattle.rules.specs.Rule.{at}
use Rattle.table.specs.Layout.{word, coefficient, priced, Sound, Verdict}
use Rattle.table.specs.Meaning.{price}
use Rattle.ledger.specs.View.{held_by, SameMeaning}
use Rattle.ledger.specs.declared.state.Sheet.{Sheet}

-- a sheet of the same words, whose rules say what the table says, or what the check refuses
abbrev pub Taken : List ℤ → Result Sheet RunFault → Type 0
Taken T (Ok s) = Sound T × (s.words ≡ T) × SameMeaning T (held_by s.words)
Taken T (Err e) = Verdict T (Err e)

-- row k has this degree and these coefficients, and every other word is as it was
pub record Written (T : List ℤ) (k d : ℕ) (row : List ℤ) (T' : List ℤ) : Type 0 where
  pub degree : word T' (44 + 41 * k) ≡ pos d
  pub coefficients : (i : ℕ) → i < 40 → coefficient T' k i ≡ at row i
  pub before : (w : ℕ) → w < 44 + 41 * k → word T' w ≡ word T w
  pub after : (w : ℕ) → 44 + 41 * k + 41 ≤ w → word T' w ≡ word T w

-- every choice costs what it cost
pub record SamePrice (T T' : List ℤ) : Type 0 where
  pub line : priced T' ≡ priced T
  pub choices : (x : ℕ → Bool) → price T' x ≡ price T x

-- a rule that is added leaves the price as it was; a rule that is refused changes no word
abbrev pub Adds : Sheet → Result Unit EngineFault → Sheet → Type 0
Adds s (Ok _) t = SamePrice s.words t.words
Adds s (Err e) t = t.words ≡ s.words
