use Rattle.std.proofs.Common.{w32, SFits, rules}
use Rattle.text.proofs.Steps.{step_goes, step_stops, step_give, step_well, step_fault, err_is}
use Rattle.std.proofs.lemmas.Int.{to_z-of_z}
use Rattle.lines.specs.declared.line.Line.TheVariants as line
use Rattle.lines.proofs.Parts.{terms_at}
use Rattle.lines.proofs.rule_after.Goals as goal

pub returns-in_err-sum : goal.returns-in_err-sum
returns-in_err-sum c =
    let fits : SFits w32 c.args.first = c.ranges.first in
    let sum = terms_at _ line.Rule _ _ _ _ _ (to_z-of_z w32 _ fits) c.in_err-sum.ensures in
    record { room = search rules; reads = step_stops _ _ _ _ _ _ sum (err_is _ _ c.from_residual.ensures.1) }

pub returns-in_err-comparison : goal.returns-in_err-comparison
returns-in_err-comparison c =
    let fits : SFits w32 c.args.first = c.ranges.first in
    let sum = terms_at _ line.Rule _ _ _ _ _ (to_z-of_z w32 _ fits) c.in_ok-sum.ensures in
    record {
      room = search rules;
      reads = step_goes _ _ _ _ _ _ _ sum (step_stops _ _ _ _ _ _ c.in_err-comparison.ensures.reads (err_is _ _ c.from_residual-in_err-comparison.ensures.1));
    }

pub returns-in_err-bound : goal.returns-in_err-bound
returns-in_err-bound c =
    let fits : SFits w32 c.args.first = c.ranges.first in
    let sum = terms_at _ line.Rule _ _ _ _ _ (to_z-of_z w32 _ fits) c.in_ok-sum.ensures in
    record {
      room = search rules;
      reads = step_goes _ _ _ _ _ _ _ sum (step_goes _ _ _ _ _ _ _ c.in_ok-comparison.ensures.reads
          (step_stops _ _ _ _ _ _ (step_fault _ _ _ _ _ c.in_err-bound.ensures) (err_is _ _ c.from_residual-in_err-bound.ensures.1)));
    }

pub returns : goal.returns
returns c =
    let fits : SFits w32 c.args.first = c.ranges.first in
    let sum = terms_at _ line.Rule _ _ _ _ _ (to_z-of_z w32 _ fits) c.in_ok-sum.ensures in
    let small : SFits w32 c.in_ok-bound.bound = search rules in
    record {
      room = c.in_ok-comparison.ensures.room;
      reads = step_goes _ _ _ _ _ _ _ sum (step_goes _ _ _ _ _ _ _ c.in_ok-comparison.ensures.reads
          (step_goes _ _ _ _ _ _ _ (step_well _ _ _ _ _ c.in_ok-bound.ensures) (step_give _ _ _ (simp to_z-of_z))));
    }
