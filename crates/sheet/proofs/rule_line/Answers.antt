use Rattle.std.proofs.Common.{refl, w32, SFits, rules}
use Rattle.std.proofs.lemmas.Int.{to_z-of_z}
use Rattle.text.proofs.Steps.{step_goes, step_stops, step_from, step_give, step_well, step_fault, err_is}
use Rattle.lines.proofs.Parts.{rule_at}
use Rattle.sheet.proofs.Turns.{surplus, awaited}
use Rattle.sheet.proofs.rule_line.Goals as goal

pub returns-in_err-first : goal.returns-in_err-first
returns-in_err-first c = record {
  room = search rules;
  reads = step_from _ _ _ _ (step_stops _ _ _ _ _ _ (step_fault _ _ _ _ _ c.in_err-first.ensures) (err_is _ _ c.from_residual.ensures.1));
}

pub returns-then-progress-header : goal.returns-then-progress-header
returns-then-progress-header c = record {
  room = tt;
  reads = step_from _ _ _ _ (step_goes _ _ _ _ _ _ _ (step_well _ _ _ _ _ c.in_ok-first.ensures)
      (step_stops _ _ _ _ _ _ (step_give _ _ _ (surplus _ _ _ c.if-progress-header.true)) refl));
}

pub returns-in_err-rule : goal.returns-in_err-rule
returns-in_err-rule c =
    let fits : SFits w32 c.in_ok-first.first = search rules in
    record {
      room = search rules;
      reads = step_from _ _ _ _ (step_goes _ _ _ _ _ _ _ (step_well _ _ _ _ _ c.in_ok-first.ensures)
          (step_goes _ _ _ _ _ _ _ (step_give _ _ _ (awaited _ _ _ c.if-progress-header.false))
          (step_stops _ _ _ _ _ _ (rule_at _ _ _ _ _ _ _ (to_z-of_z w32 _ fits) c.in_err-rule.ensures.reads) (err_is _ _ c.from_residual-in_err-rule.ensures.1))));
    }

pub returns : goal.returns
returns c =
    let fits : SFits w32 c.in_ok-first.first = search rules in
    record {
      room = c.in_ok-rule.ensures.room;
      reads = step_from _ _ _ _ (step_goes _ _ _ _ _ _ _ (step_well _ _ _ _ _ c.in_ok-first.ensures)
          (step_goes _ _ _ _ _ _ _ (step_give _ _ _ (awaited _ _ _ c.if-progress-header.false))
          (step_goes _ _ _ _ _ _ _ (rule_at _ _ _ _ _ _ _ (to_z-of_z w32 _ fits) c.in_ok-rule.ensures.reads)
          (step_goes _ _ _ _ _ _ _ (step_well _ _ _ _ _ c.gap.ensures) (step_give _ _ _ refl)))));
    }
