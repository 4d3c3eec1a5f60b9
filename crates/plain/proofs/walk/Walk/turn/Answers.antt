use Rattle.std.proofs.Common.{cond, sym, refl, ap, ◌∙◌, inl, inr, arith, length-set}
use Rattle.std.proofs.lemmas.List.{get_or-set_same, get_or-set_other}
use Rattle.std.proofs.lemmas.Bool.{cases_order, lt-ltb, le-ltb}
use Rattle.rules.specs.Rule.{marked}
use Rattle.rules.specs.declared.Mark.TheVariants.{Free, One}
use Rattle.backtrack.proofs.Passing.{turned_below, turned_at, turned_above}
use Rattle.plain.proofs.walk.Walk.turn.Goals as goal

pub invariant_of-self : goal.invariant_of-self
invariant_of-self c = record { wide = simp length-set c.clear_after.ensures.wide; deep = omega (arith, c.requires) }

pub returns : goal.returns
returns c = record {
  marks = λ i.
      let p = marked c.args.self.now.marks in
      let t = c.args.t in
      let set_to = c.clear_after.new.marks in
      elim (cases_order i t) [
        | inl e ↦ rw e (get_or-set_same set_to t One Free (omega (arith, c.clear_after.ensures.wide, c.requires)) ∙ sym (turned_at p t))
        | inr o ↦ elim o [
          | inl l ↦ get_or-set_other set_to t i One Free (λ e. omega arith) ∙ (c.clear_after.ensures.marks i ∙ (ap (λ b. cond b Free (p i)) (le-ltb t i (omega arith)) ∙ sym (turned_below p t i l)))
          | inr l ↦ get_or-set_other set_to t i One Free (λ e. omega arith) ∙ (c.clear_after.ensures.marks i ∙ (ap (λ b. cond b Free (p i)) (lt-ltb t i l) ∙ sym (turned_above p t i l)))
        ]
      ];
  depth = refl;
}
