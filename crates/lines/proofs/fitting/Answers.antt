use Rattle.std.proofs.Common.{rules}
use Rattle.text.proofs.Steps.{step_goes, step_stops, step_from, step_give, step_well, step_fault, err_is}
use Rattle.lines.proofs.Parts.{no_room, has_room}
use Rattle.lines.proofs.fitting.Goals as goal

pub returns-in_err-comparison : goal.returns-in_err-comparison
returns-in_err-comparison c = record {
  room = search rules;
  reads = step_from _ _ _ _ (step_stops _ _ _ _ _ _ (step_fault _ _ _ _ _ c.in_err-comparison.ensures) (err_is _ _ c.from_residual.ensures.1));
}

pub returns-then-room-rows : goal.returns-then-room-rows
returns-then-room-rows c = record {
  room = tt;
  reads = step_from _ _ _ _ (step_goes _ _ _ _ _ _ _ (step_well _ _ _ _ _ c.in_ok-comparison.ensures) (step_give _ _ _ (no_room _ _ _ (search rules))));
}

pub returns : goal.returns
returns c = record {
  room = search rules;
  reads = step_from _ _ _ _ (step_goes _ _ _ _ _ _ _ (step_well _ _ _ _ _ c.in_ok-comparison.ensures) (step_give _ _ _ (has_room _ _ _ (search rules))));
}
