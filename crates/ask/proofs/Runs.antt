-- A question runs from step to step.
use Rattle.std.proofs.Common.{◌≡◌, ℕ, ◌+◌, List, length, Ok, sym, refl, ap, ◌∙◌, arith}
use Rattle.rules.specs.declared.term.Literal.{Literal}
use Rattle.engine.specs.Held.{Held, Every}
use Rattle.engine.specs.Questions.{Question, posed, GoodLiteral, Opened, Answered, Stepped}
use Rattle.engine.specs.declared.answer.Answer.{Answer}
use Rattle.engine.specs.declared.answer.Answer.TheVariants.{Going}
use Rattle.ask.specs.Asking.{Running, Reported}

-- a question that was just posed
pub just_posed : (Q : ℕ) (ls : List Literal) (h : Held) (q : Question) → Opened Q ls q → Running Q ls h 0 h q
just_posed Q ls h q o = record { left = o.left; some = o.some; budget = omega (arith, o.most); held = refl; asks = o.is }

module _ (Q : ℕ) (ls : List Literal) (h h' h2 : Held) (steps : ℕ) (q q2 : Question) (run : Running Q ls h steps h' q) where
  -- the open question is the one that was answered
  same_literals : (a : Answer) (n : Answered h' q a q2) → n.assumed ≡ ls
  same_literals a n = let e : posed n.assumed n.left ≡ posed ls run.left = sym n.was ∙ run.asks in cc

  same_left : (a : Answer) (n : Answered h' q a q2) → n.left ≡ run.left
  same_left a n = let e : posed n.assumed n.left ≡ posed ls run.left = sym n.was ∙ run.asks in cc

  pub goes_on : Stepped h' q (Ok Going) h2 q2 → Running Q ls h (steps + 1) h2 q2
  goes_on s =
      let n = s.1 in
      let l = n.leaves in
      record {
        left = l.0;
        some = l.1;
        budget = omega (arith, run.budget, l.2, same_left Going n);
        held = s.0 ∙ run.held;
        asks = l.3 ∙ ap (λ x. posed x l.0) (same_literals Going n);
      }

  pub still_open : Every (GoodLiteral h.variables ls) (length ls) → (allowance : ℕ) → steps ≡ allowance → Reported Q ls h allowance (record { answer = Going; steps = steps }) h' q
  still_open good allowance e = record { good = good; says = tt; ends = (e, run) }

-- posing changed no rule
pub since_before : (Q : ℕ) (ls : List Literal) (h h1 h' : Held) (steps : ℕ) (q : Question) → h1 ≡ h → Running Q ls h1 steps h' q → Running Q ls h steps h' q
since_before Q ls h h1 h' steps q e run = record { left = run.left; some = run.some; budget = run.budget; held = run.held ∙ e; asks = run.asks }
