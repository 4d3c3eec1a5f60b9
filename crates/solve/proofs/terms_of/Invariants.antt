use Rattle.std.proofs.Common.{◌≤◌, length}
use Rattle.solve.proofs.Listing.{Front}
use Rattle.solve.proofs.terms_of.Given as goal

abbrev pub invariant-loop-variable : goal.invariant-loop-variable
invariant-loop-variable l = (length l.terms.items ≤ l.variable) × Front l.row l.variable l.terms.items
