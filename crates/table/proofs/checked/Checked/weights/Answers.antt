use Rattle.std.proofs.Common.{nat_abs, ap, arith}
use Rattle.table.proofs.Places.{between, weight_most}
use Rattle.table.proofs.checked.Checked.weights.Goals as goal

pub returns-clause-each : goal.returns-clause-each
returns-clause-each c = between c.args.self.now.words.now 4 44

pub returns-clause-bound : goal.returns-clause-bound
returns-clause-bound c = λ i l. omega (arith, ap nat_abs (between c.args.self.now.words.now 4 44 i l), weight_most _ c.args.self.now.fine i l)
