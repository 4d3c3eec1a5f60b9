use Rattle.std.proofs.Common.{◌≡◌, min, take}
use Rattle.text.specs.Bytes.{decimal}
use Rattle.text.proofs.capped.Given as goal

abbrev pub invariant-loop-b : goal.invariant-loop-b
invariant-loop-b l = l.sum ≡ min 100000001 (decimal (take l.b-index l.digits))
