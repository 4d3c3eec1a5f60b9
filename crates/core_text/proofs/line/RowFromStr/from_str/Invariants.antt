use Rattle.std.proofs.Common.{◌≡◌, map, All}
use Rattle.core_text.specs.Lines.{number, IsNumber}
use Rattle.core_text.proofs.line.RowFromStr.from_str.Given as goal

-- the numbers are those of the fields so far
abbrev pub invariant-loop-number : goal.invariant-loop-number
invariant-loop-number l = record {
  values : l.numbers.items ≡ map number (map (λ f. f.now) l.yielded);
  numerals : All IsNumber (map (λ f. f.now) l.yielded);
}
