use Rattle.std.proofs.Common.{refl}
use Rattle.plain.specs.Keeping.{fields_same}
use Rattle.plain.proofs.calls.PlainEngine.raise.Goals as goal

pub invariant_of-self : goal.invariant_of-self
invariant_of-self c = fields_same c.args.self.now c.raise.new.self (c.in_err-raise.ensures.refused refl)
