use Rattle.std.proofs.Common.{◌<◌, ◌≤◌, length, sym, ap, ◌∙◌, subst, arith, length-set}
use borrow.Author.Tests.{clash}
use Rattle.rules.specs.Rule.{at, size}
use Rattle.rules.specs.Terms.{coefficient}
use Rattle.rules.specs.declared.term.Rule.{Rule as Row}
use Rattle.store.proofs.Rows.{row_small, row_beyond, one_rule_more}
use Rattle.engine.specs.Held.{with_rule}
use Rattle.store.specs.View.{held_in}
use Rattle.store.proofs.Views.{count_held, added_row}
use Rattle.store.proofs.keep.Store.add.Goals as goal

pub returns : goal.returns
returns c =
    let s = c.args.self.now in
    record {
      added = (
        record { room = omega (arith, count_held s, c.if-self-ge-ROOM.false); terms = c.in_default.ensures; degree = c.if-degree-gt-MOST.false },
        added_row s (record { coefficients = c.row.result; degree = c.args.degree }) c.if-self-ge-ROOM.false
            ∙ ap (λ row. with_rule (record { coefficients = row; degree = c.args.degree }) (held_in s)) c.row.ensures,
      );
      refused = λ z. absurd (clash (sym z));
    }

pub invariant_of-self : goal.invariant_of-self
invariant_of-self c =
    let s = c.args.self.now in
    let ts = c.args.terms.now in
    let new : Row = record { coefficients = c.row.result; degree = c.args.degree } in
    let good = c.in_default.ensures in
    let room : s.count < length s.rules = omega (arith, s.whole, c.if-self-ge-ROOM.false) in
    let row = c.row.ensures in record {
      few = s.few;
      room = omega (arith, c.if-self-ge-ROOM.false);
      whole = simp length-set s.whole;
      sizes = (λ k i l. one_rule_more (λ r. size (coefficient r i) ≤ 1000000000) s.rules s.count new room (λ j b. s.sizes j i b)
          (subst (λ xs. size (at xs i) ≤ 1000000000) (sym row) (row_small 1000000000 s.variables ts good i)) k l);
      beyond = (λ k i l out. one_rule_more (λ r. size (coefficient r i) ≤ 0) s.rules s.count new room (λ j b. s.beyond j i b out)
          (subst (λ xs. size (at xs i) ≤ 0) (sym row) (omega (arith, ap size (row_beyond 1000000000 s.variables ts good i out)))) k l);
      degrees = (λ k l. one_rule_more (λ r. r.degree ≤ 1000000000) s.rules s.count new room s.degrees c.if-degree-gt-MOST.false k l);
    }
