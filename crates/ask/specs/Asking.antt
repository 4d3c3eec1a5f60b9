-- One question asked to its end.
use Rattle.std.specs.Prelude.{◌≡◌, ℕ, ◌+◌, ◌<◌, ◌≤◌, List, length, Ok, Err, Result}
use Rattle.faults.specs.declared.fault.EngineFault.{EngineFault}
use Rattle.rules.specs.declared.term.Literal.{Literal}
use Rattle.engine.specs.Held.{Held, Every}
use Rattle.engine.specs.Questions.{Question, none, posed, GoodLiteral, Posed, Says}
use Rattle.engine.specs.declared.answer.Answer.{Answer}
use Rattle.engine.specs.declared.answer.Answer.TheVariants.{Going, Yes, No}
use Rattle.ask.specs.declared.Asked.{Asked}

-- the question of these literals is open after so many steps, and with those that are left they are at most Q; no rule has changed
pub record Running (Q : ℕ) (ls : List Literal) (h : Held) (steps : ℕ) (h' : Held) (q' : Question) : Type 0 where
  pub left : ℕ
  pub some : 0 < left
  pub budget : steps + left ≤ Q
  pub held : h' ≡ h
  pub asks : q' ≡ posed ls left

-- by the answer: the allowance is used up and the question still open, or it is closed within the allowance and Q steps
abbrev pub Ends : ℕ → List Literal → Held → ℕ → ℕ → Answer → Held → Question → Type 0
Ends Q ls h allowance steps Going h' q' = (steps ≡ allowance) × Running Q ls h steps h' q'
Ends Q ls h allowance steps (Yes ms) h' q' = (0 < steps) × (steps ≤ allowance) × (steps ≤ Q) × (h' ≡ h) × (q' ≡ none)
Ends Q ls h allowance steps (No r) h' q' = (0 < steps) × (steps ≤ allowance) × (steps ≤ Q) × (h' ≡ h) × (q' ≡ none)

-- the literals are good, and the answer says of the rules and the literals what every engine's does
pub record Reported (Q : ℕ) (ls : List Literal) (h : Held) (allowance : ℕ) (a : Asked) (h' : Held) (q' : Question) : Type 0 where
  pub good : Every (GoodLiteral h.variables ls) (length ls)
  pub says : Says h ls a.answer
  pub ends : Ends Q ls h allowance a.steps a.answer h' q'

-- a report, or what posing the question is refused with
abbrev pub Asking : ℕ → List Literal → ℕ → Held → Question → Result Asked EngineFault → Held → Question → Type 0
Asking Q ls allowance h q (Ok a) h' q' = Reported Q ls h allowance a h' q'
Asking Q ls allowance h q (Err e) h' q' = Posed Q ls h q (Err e) h' q'
