use Rattle.std.proofs.Common.{pos, sym, ap, ◌∙◌, inl, inr, arith, rules}
use Rattle.std.proofs.lemmas.List.{get_or_past}
use Rattle.std.proofs.lemmas.Bool.{cases_lt}
use Rattle.rules.specs.declared.Mark.TheVariants.{Free}
use Rattle.rules.specs.Rule.{marked}
use Rattle.rules.proofs.Made.{made}
use Rattle.backtrack.specs.Clause.{refuted}
use Rattle.plain.proofs.moves.clause_row.Goals as goal

pub returns : goal.returns
returns c i =
    elim (cases_lt i 80) [
      | inl l ↦ made _ _ (λ k. refuted (marked c.args.marks.now k)) _ (pos 0) 80 c.from_fn.ensures.items (λ k y q l call. (search rules, search rules)) i l
      | inr l ↦ get_or_past c.from_fn.result i (pos 0) (omega (arith, c.from_fn.ensures.items.long)) ∙ sym (ap refuted (get_or_past c.args.marks.now i Free (omega (arith, c.told-marks))))
    ]
