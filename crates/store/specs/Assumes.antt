-- The literals that a question assumes.
use Rattle.std.specs.Prelude.{◌≡◌, ℕ, List, length, take, Ok, Err, Result}
use Rattle.faults.specs.declared.fault.EngineFault.{EngineFault}
use Rattle.faults.specs.declared.fault.EngineFault.TheVariants.{Variables, Full, Term, Rule, NoQuestion}
use Rattle.rules.specs.declared.term.Literal.{Literal}
use Rattle.engine.specs.Held.{FirstBad, Every}
use Rattle.engine.specs.Questions.{GoodLiteral}
use Rattle.store.specs.declared.assumed.Assumed.{Assumed}

-- the literals up to the count
abbrev pub assumed_in : Assumed → List Literal
assumed_in a = take a.count a.literals

-- all are good and are assumed, or the first that is not good
abbrev pub Takes : ℕ → List Literal → Result Assumed EngineFault → Type 0
Takes n ls (Ok a) = Every (GoodLiteral n ls) (length ls) × (assumed_in a ≡ ls)
Takes n ls (Err (Term i)) = FirstBad (GoodLiteral n ls) (length ls) i
Takes n ls (Err (Variables total)) = ⊥
Takes n ls (Err (Full room)) = ⊥
Takes n ls (Err (Rule k)) = ⊥
Takes n ls (Err NoQuestion) = ⊥
