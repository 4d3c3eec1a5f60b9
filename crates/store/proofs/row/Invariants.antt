use Rattle.std.proofs.Common.{◌≡◌, length, drop}
use Rattle.rules.specs.Terms.{placed, row_of}
use Rattle.store.proofs.row.Given as goal

abbrev pub invariant-loop-term : goal.invariant-loop-term
invariant-loop-term l = (length l.row ≡ 80) × (placed l.row (drop l.term-index l.terms) ≡ row_of l.terms)
