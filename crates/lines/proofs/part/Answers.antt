use Rattle.std.proofs.Common.{rules, arith}
use Rattle.text.proofs.Steps.{step_goes, step_stops, step_from, step_give, step_well, step_fault, err_is}
use Rattle.lines.proofs.Parts.{unknown, known_part}
use Rattle.lines.proofs.part.Goals as goal

pub returns-in_err-name : goal.returns-in_err-name
returns-in_err-name c = record {
  known = search rules;
  reads = step_from _ _ _ _ (step_stops _ _ _ _ _ _ (step_fault _ _ _ _ _ c.in_err-name.ensures.reads) (err_is _ _ c.from_residual.ensures.1));
}

pub returns-then-contains : goal.returns-then-contains
returns-then-contains c = record {
  known = let cases = c.contains.ensures.cases in (grind arith, grind arith);
  reads = let cases = c.contains.ensures.cases in step_from _ _ _ _ (step_goes _ _ _ _ _ _ _ (step_well _ _ _ _ _ c.in_ok-name.ensures.reads)
      (step_give _ _ _ (known_part _ _ _ _ c.index-part.ensures (c.args.parts.few) (grind arith) (grind arith))));
}

pub returns-else-contains : goal.returns-else-contains
returns-else-contains c = record {
  known = tt;
  reads = let cases = c.contains.ensures.cases in step_from _ _ _ _ (step_goes _ _ _ _ _ _ _ (step_well _ _ _ _ _ c.in_ok-name.ensures.reads)
      (step_give _ _ _ (unknown _ _ _ _ c.index-part.ensures (c.args.parts.few) (λ l h. grind arith))));
}
