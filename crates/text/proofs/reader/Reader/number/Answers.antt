use Rattle.std.proofs.Common.{refl, rules}
use Rattle.text.proofs.Made.{shows, number_behind, number_made}
use Rattle.text.proofs.Steps.{step_goes, step_stops, step_from, seen_err}
use Rattle.text.proofs.reader.Reader.number.Goals as goal

pub returns-in_err-digits : goal.returns-in_err-digits
returns-in_err-digits c = record {
  reads = step_from _ _ _ _ (step_goes _ _ _ _ _ _ _ c.minus.ensures (step_stops _ _ _ _ _ _ c.in_err-digits.ensures (seen_err _ _ _ c.from_residual.ensures.1)));
  covers = search rules;
  kind = search rules;
}

pub since-bytes-requires : goal.since-bytes-requires
since-bytes-requires c = number_behind _ _ _ _ c.in_ok-digits.ensures refl _ c.minus.ensures

pub returns : goal.returns
returns c = record {
  reads = number_made _ _ _ _ c.in_ok-digits.ensures c.since-bytes.ensures _ c.minus.ensures;
  covers = (refl, shows c.args.self.now _ _ _ c.in_ok-digits.ensures c.since-bytes.ensures c.minus.ensures.same);
  kind = tt;
}
