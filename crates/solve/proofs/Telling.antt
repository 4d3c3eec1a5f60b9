-- What an engine with the same rules answers is true of the holder.
use Rattle.std.proofs.Common.{◌≡◌, ℕ, ◌<◌, List, [], length, Ok, Err, Result, sym, ap, ◌∙◌, subst, arith}
use Rattle.faults.specs.declared.fault.EngineFault.{EngineFault}
use Rattle.faults.specs.declared.fault.EngineFault.TheVariants.{Variables, Full, Term, Rule, NoQuestion}
use Rattle.rules.specs.Rule.{marked, kept, open_sum, Full as Fully}
use Rattle.rules.specs.Terms.{coefficient, only}
use Rattle.rules.proofs.Sum.{total_same}
use Rattle.rules.specs.declared.Mark.{Mark}
use Rattle.rules.specs.declared.term.Literal.{Literal}
use Rattle.rules.specs.declared.term.Rule.{Rule as Row}
use Rattle.derive.proofs.Marks.{marks_refute}
use Rattle.engine.specs.Held.{Held, Limits, MeetsAll}
use Rattle.engine.specs.Questions.{Question, Says, Posed}
use Rattle.engine.specs.declared.answer.Answer.{Answer}
use Rattle.engine.specs.declared.answer.Answer.TheVariants.{Going, Yes, No}
use Rattle.ask.specs.Asking.{Ends, Asking}
use Rattle.ask.specs.declared.Asked.{Asked}
use Rattle.solve.specs.Loads.{SameRule, FirstRules, Tells, Took, Solves}

same_sum : (n n' : ℕ) (r s : Row) (m : ℕ → Mark) → n' ≡ n → SameRule r s → open_sum n' (coefficient s) m ≡ open_sum n (coefficient r) m
same_sum n n' r s m e same = ap (λ k. open_sum k (coefficient s) m) e ∙ total_same n _ _ (λ i l. ap (λ a. kept a (m i)) (same.coefficients i))

module _ (h h' : Held) (first : FirstRules h (length h.rules) h') where
  met_there : (m : ℕ → Mark) → MeetsAll h m → MeetsAll h' m
  met_there m all k l =
      let b : k < length h.rules = omega (arith, first.count) in
      let same = first.each k b in
      omega (arith, all k b, same_sum h.variables h'.variables _ _ m first.variables same, same.degree)

  met_here : (m : ℕ → Mark) → MeetsAll h' m → MeetsAll h m
  met_here m all k l =
      let b : k < length h'.rules = omega (arith, first.count) in
      let same = first.each k l in
      omega (arith, all k b, same_sum h.variables h'.variables _ _ m first.variables same, same.degree)

  pub tells : (a : Answer) → Says h' [] a → Tells h a
  tells Going s = tt
  tells (Yes ms) s = (subst (λ n. Fully n (marked ms)) first.variables s.full, met_here (marked ms) s.meets)
  tells (No r) s = λ m full all.
      marks_refute.unmet h'.variables (coefficient r) r.degree (only []) m (λ i. tt) s.broken
      (s.follows m (subst (λ n. Fully n m) (sym first.variables) full) (met_there m all))

pub took : (Q : ℕ) (ls : List Literal) (h h' : Held) (q : Question) (allowance steps : ℕ) (a : Answer) → Ends Q ls h allowance steps a h' q → Took Q allowance a steps
took Q ls h h' q allowance steps Going e = e.0
took Q ls h h' q allowance steps (Yes ms) e = (e.1, e.2)
took Q ls h h' q allowance steps (No r) e = (e.1, e.2)

-- the question without literals is never refused
pub always_posed : (Q : ℕ) (h h' : Held) (q q' : Question) (e : EngineFault) → Posed Q [] h q (Err e) h' q' → ⊥
always_posed Q h h' q q' (Term i) p = omega (arith, p.0.within)
always_posed Q h h' q q' (Variables n) p = p
always_posed Q h h' q q' (Full n) p = p
always_posed Q h h' q q' (Rule n) p = p
always_posed Q h h' q q' NoQuestion p = p

-- so what asking an engine with the same rules comes to is true of the holder
pub solved : (l : Limits) (Q : ℕ) (h h' h'' : Held) (q q' : Question) (allowance : ℕ) (r : Result Asked EngineFault) → FirstRules h (length h.rules) h'
    → Asking Q [] allowance h' q r h'' q' → Solves l Q h allowance r
solved l Q h h' h'' q q' allowance (Ok a) first told = (tells h h' first a.answer told.says, took Q [] h' h'' q' allowance a.steps a.answer told.ends)
solved l Q h h' h'' q q' allowance (Err e) first told = absurd (always_posed Q h' h'' q q' e told)
