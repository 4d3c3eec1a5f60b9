-- What a store of rules means.
use Rattle.std.specs.Prelude.{◌≡◌, ℕ, take, Ok, Err, Result}
use Rattle.faults.specs.declared.fault.EngineFault.{EngineFault}
use Rattle.faults.specs.declared.fault.EngineFault.TheVariants.{Rule}
use Rattle.engine.specs.Held.{Held}
use Rattle.engine.specs.Questions.{engine_limits, CanRaise, with_raised}
use Rattle.store.specs.declared.keep.Store.{Store}

-- its variables, and the rules up to its count
abbrev pub held_in : Store → Held
held_in s = record { variables = s.variables; rules = take s.count s.rules }

-- the degree of rule k is lifted, or number 16
abbrev pub Raises : ℕ → ℕ → Held → Result Unit EngineFault → Held → Type 0
Raises k d h (Ok _) h' = CanRaise engine_limits h k d × (h' ≡ with_raised k d h)
Raises k d h (Err e) h' = (CanRaise engine_limits h k d → ⊥) × (e ≡ Rule k) × (h' ≡ h)
