use Rattle.std.proofs.Common.{◌-◌, length}
use Rattle.faults.specs.declared.fault.TextFault.{TextFault}
use Rattle.text.specs.Bytes.{stands}
use Rattle.text.specs.Tokens.{Comment}
use Rattle.text.proofs.Steps.{Going}
use Rattle.text.proofs.reader.Reader.gap.Given as goal

abbrev pub invariant-loop-self : goal.invariant-loop-self
invariant-loop-self l = Going {E = TextFault} (λ t. stands t 42) Comment l.initial.self tt l.self tt

abbrev pub decreases-loop-self : goal.decreases-loop-self
decreases-loop-self l = length l.initial.self.text.now - l.self.at
