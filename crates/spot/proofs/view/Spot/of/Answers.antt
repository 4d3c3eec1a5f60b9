use Rattle.std.proofs.Common.{◌≡◌, ◌≤◌, ◌+◌, nat_eq, length, take, ap, ◌∙◌, subst, arith, rules}
use Rattle.std.proofs.lemmas.Iterator.{YieldsList-from_slice}
use Rattle.std.proofs.lemmas.Iterator.Consumers.{count_from_yields_List, YieldsList-from_filter}
use Rattle.std.proofs.lemmas.List.{take_rest}
use Rattle.std.proofs.lemmas.List.Sums.{length-filter}
use Rattle.spot.specs.Spot.{line_ends, Ends, Unbroken}
use Rattle.spot.proofs.Lines.{begins_whole, ends_whole, unbroken_whole}
use Rattle.spot.proofs.view.Spot.of.Goals as goal

pub returns-clause-line : goal.returns-clause-line
returns-clause-line c =
    let text = c.args.text.now in
    let place = c.min-place.result in
    let l : place ≤ length text = omega arith in
    let whole : length (take place text) ≡ place = search rules in
    let count : c.count.result ≡ line_ends text place = count_from_yields_List c.filter.result _ c.count.ensures.ran (YieldsList-from_filter _ (λ b. nat_eq b 10) (YieldsList-from_slice (take place text) (cc)) c.filter.ensures.closure (λ b t q k. search rules)) ∙ length-filter (λ b. nat_eq b 10) (take place text) in
    let start : c.line_start.result ≤ place = omega arith in
    record {
      number = ap (λ n. n + 1) count;
      begins = begins_whole text place l c.line_start.result start c.line_start.ensures.begins;
      before = start;
      ends = ends_whole text place l c.line_left.result (subst (λ xs. Ends xs c.line_left.result) (take_rest text place) c.line_left.ensures.ends);
      after = omega arith;
      within = search rules;
      unbroken = unbroken_whole text place l c.line_start.result c.line_left.result (subst (Unbroken (take place text) c.line_start.result) whole c.line_start.ensures.unbroken) (subst (λ xs. Unbroken xs 0 c.line_left.result) (take_rest text place) c.line_left.ensures.unbroken);
    }
