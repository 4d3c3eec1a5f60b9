-- What is said of a text that was read.
use Rattle.std.specs.Prelude.{◌≡◌, ℕ, ◌+◌, ◌<◌, List, length, ℤ, pos, Ok, Err, Result, slice_index_or, unsigned_abs}
use Rattle.faults.specs.Refusals.{run_refusal}
use Rattle.faults.specs.declared.fault.RunFault.{RunFault}
use Rattle.rules.specs.Sum.{total}
use Rattle.sheet.specs.Reads.{Reading}
use Rattle.try_texts.specs.declared.outcome.Outcome.{Outcome}
use Rattle.try_texts.specs.declared.outcome.Outcome.TheVariants.{Accepted, Refused}
use Rattle.try_texts.specs.declared.outcome.Summary.{Summary}

abbrev pub word : List ℤ → ℕ → ℤ
word T w = slice_index_or T w (pos 0)

-- every word is 0
abbrev pub Clear : List ℤ → Type 0
Clear T = (w : ℕ) → w < length T → word T w ≡ pos 0

-- the sizes of the first n weights together
abbrev pub sizes_of : List ℤ → ℕ → ℕ
sizes_of T n = total (λ i. unsigned_abs (word T (4 + i))) n

abbrev pub summary_of : List ℤ → Summary
summary_of T = record { parts = word T 0; rows = word T 1; priced = word T 3; base = word T 2; weights = sizes_of T 40 }

-- what is said of an answer and the table that it came with
abbrev pub told : List ℤ → Result (Unit {0}) RunFault → Outcome
told U (Ok _) = Accepted (summary_of U)
told U (Err e) = Refused (run_refusal e)

-- What is said of a text is right: it is told of the answer to a read of the text, and of the table that it left.
pub record Right (text : List ℕ) (o : Outcome) : Type 0 where
  pub before : List ℤ
  pub after : List ℤ
  pub answer : Result (Unit {0}) RunFault
  pub whole : length before ≡ 2668
  pub read : Reading text before after answer
  pub said : o ≡ told after answer
