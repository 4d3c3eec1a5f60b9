use Rattle.std.proofs.Common.{◌≡◌, List, ℕ, take, ap, ◌∙◌, rules}
use Rattle.std.specs.Str.Parse.{digits_value, without_leading_plus}
use Rattle.core_text.specs.Lines.{RowOf, before, behind}
use Rattle.core_text.proofs.Cut.{cut}
use Rattle.core_text.proofs.Rows.{whole_row}
use Rattle.core_text.proofs.line.LineTryFromRefStr.try_from.Goals as goal

pub returns : goal.returns
returns c =
    let text = c.args.line.now in
    let first = cut text _ c.split_once.ensures.cases _ c.in_ok-coefficients.ensures.ok_part in
    let second = cut _ _ c.split_once-2.ensures.cases _ c.in_ok-degree.ensures.ok_part in
    let third = cut _ _ c.split_once-3.ensures.cases _ c.in_ok-weights.ensures.ok_part in
    let after : c.in_ok-degree.after.now ≡ behind (behind text) = second.1 ∙ ap behind first.1 in
    let degree : c.in_ok-map_err.field-0 ≡ digits_value 10 (without_leading_plus c.in_ok-degree.degree.now) = search rules in
    let read = c.in_ok-parse.field-0 in
    let row : RowOf c.in_ok-coefficients.coefficients.now read = search rules in
    let weights : RowOf c.in_ok-weights.weights.now c.in_ok-parse-2.field-0 = search rules in
    record {
      coefficients = (take read.length read.numbers, rw first.0 at row.reads, whole_row _ read (search rules) row);
      degree = degree ∙ ap (λ (t : List ℕ). digits_value 10 (without_leading_plus t)) (second.0 ∙ ap before first.1);
      weights = rw (third.0 ∙ ap before after) at weights;
      rest = third.1 ∙ ap behind after;
    }
