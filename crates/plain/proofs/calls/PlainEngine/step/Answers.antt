use Rattle.std.proofs.Common.{Some, None, sym, refl, subst}
use Rattle.engine.specs.Questions.{none, Answered}
use Rattle.engine.specs.declared.answer.Answer.TheVariants.{Going}
use Rattle.store.specs.View.{held_in}
use Rattle.plain.specs.Steps.{Searched, After, question_of}
use Rattle.plain.specs.Keeping.{ready, fields_open}
use Rattle.plain.specs.Stepping.{ready_after, answered, yes, no}
use Rattle.plain.proofs.calls.PlainEngine.step.Goals as goal
use Rattle.plain.proofs.calls.PlainEngine.step.Goals.{in-Solved, in-Ended}

pub invariant_of-self-in-Onward : goal.invariant_of-self-in-Onward
invariant_of-self-in-Onward c =
    let p = c.args.self.now in
    fields_open p.store c.step.new.self (ready_after p.store c.in-Some.search (ready p c.in-Some.search c.in-Some.is) c.step.new.self c.in-Onward.ensures)

pub returns-in-Onward : goal.returns-in-Onward
returns-in-Onward c =
    let p = c.args.self.now in
    let x = c.in-Some.search in
    let y = c.step.new.self in
    record {
      stepped = (refl, subst (λ o. Answered (held_in p.store) (question_of p.store o) Going (question_of p.store (Some y))) (sym c.in-Some.is) (answered p.store x (ready p x c.in-Some.is) Going y (Some y) c.in-Onward.ensures refl));
      walked = (x, y, c.in-Some.is, c.in-Onward.ensures, refl);
    }

pub returns : goal.returns
returns c =
    let p = c.args.self.now in
    let x = c.in-Some.search in
    let y = c.step.new.self in
    let a = c.match-step.answer in
    let said : Searched p.store x a y × After a y None =
    elim c.match-step.branch [
      | in-Solved w ↦ subst (λ z. Searched p.store x z y × After z y None) (sym w.answer-is) (yes p.store x y w.in-Solved.ensures, refl)
      | in-Ended w ↦ subst (λ z. Searched p.store x z y × After z y None) (sym w.answer-is) (no p.store x y _ w.in-Ended.ensures w.clause.ensures, refl)
    ] in
    record {
      stepped = (refl, subst (λ o. Answered (held_in p.store) (question_of p.store o) a none) (sym c.in-Some.is) (answered p.store x (ready p x c.in-Some.is) a y None said.0 said.1));
      walked = (x, y, c.in-Some.is, said.0, said.1);
    }
