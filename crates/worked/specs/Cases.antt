-- All cases that are worked out, in one statement.
use Rattle.worked.specs.Worked.{WorkedReadings}
use Rattle.worked.specs.Derived.{WorkedDerivations}

pub record WorkedCases : Type 0 where
  pub readings : WorkedReadings
  pub derivations : WorkedDerivations
