use Rattle.std.proofs.Common.{refl, arith, rules}
use Rattle.text.proofs.Made.{shows, name_behind, name_made}
use Rattle.text.proofs.Steps.{step_goes, step_stops, step_from, seen_err}
use Rattle.text.proofs.reader.Reader.name.Goals as goal

pub returns-in_err-byte : goal.returns-in_err-byte
returns-in_err-byte c = record {
  reads = step_from _ _ _ _ (step_stops _ _ _ _ _ _ c.in_err-byte.ensures (seen_err _ _ _ c.from_residual.ensures.1));
  covers = search rules;
  kind = search rules;
}

pub returns-in_err-digits : goal.returns-in_err-digits
returns-in_err-digits c = record {
  reads = step_from _ _ _ _ (step_goes _ _ _ _ _ _ _ c.in_ok-byte.ensures (rw (seen_err _ _ _ c.from_residual-in_err-digits.ensures.1) c.in_err-digits.ensures));
  covers = search rules;
  kind = search rules;
}

pub since-bytes-requires : goal.since-bytes-requires
since-bytes-requires c = omega (arith, name_behind _ _ _ _ c.in_ok-digits.ensures refl c.in_ok-byte.ensures)

pub returns : goal.returns
returns c = record {
  reads = name_made _ _ _ _ c.in_ok-digits.ensures c.since-bytes.ensures c.in_ok-byte.ensures;
  covers = (refl, shows c.args.self.now _ _ _ c.in_ok-digits.ensures c.since-bytes.ensures c.in_ok-byte.ensures.same);
  kind = tt;
}
