use Rattle.std.proofs.Common.{◌≡◌, ◌<◌, ◌||◌, Bool, ◌++◌, not, pos, ◌==◌, slice_index_or, sym, ap, ap₂, ◌∙◌, arith, w32, FitsSigned, rules}
use Rattle.std.proofs.lemmas.Int.{to_z-of_z}
use Rattle.std.proofs.Output.{has_written_append, has_written_of_eq}
use Rattle.rules.specs.declared.term.Term.{Term}
use Rattle.table.specs.Layout.{coefficient}
use Rattle.notation.specs.Text.{terms_text, next_text, signed_term, rule_line}
use Rattle.notation.proofs.Texts.{terms_next, some_next, rule_line_some, rule_line_none}
use Rattle.notation.proofs.shown.RuleTextDisplay.fmt.Goals as goal

pub loop-part-preserved : goal.loop-part-preserved
loop-part-preserved g c =
    let T = c.args.self.now.row.sheet.words.now in
    let k = c.args.self.now.row.number in
    let n = c.loop-part.part in
    let l : n < 40 = omega arith in
    let a = slice_index_or c.coefficients-coefficient-items.result.now n (pos 0) in
    let e : a ≡ coefficient T k n = c.coefficients-coefficient-items.ensures.each n l in
    let fit : FitsSigned w32 a = search rules in
    let term : c.term-term.result ≡ signed_term a n = simp to_z-of_z at c.term-term.ensures in
    record {
      wrote = λ p. has_written_of_eq _ _ _ _ _ (ap₂ (λ (f : Bool) (t : Term). terms_text T k n ++ next_text f t) c.loop-part.invariant.some term ∙ terms_next T k n a l e) (has_written_append _ _ _ _ _ _ (c.loop-part.invariant.wrote p) (search rules));
      some = ap₂ (λ (f : Bool) (t : Term). f || not (t.coefficient == 0)) c.loop-part.invariant.some term ∙ some_next T k n a e;
    }

pub returns-then-follows-clause-writes : goal.returns-then-follows-clause-writes
returns-then-follows-clause-writes g c =
    let T = c.args.self.now.row.sheet.words.now in
    let k = c.args.self.now.row.number in
    let all : c.loop-part.part ≡ 40 = omega arith in
    λ p ok. has_written_of_eq _ _ _ _ _
    (rule_line_some (terms_text T k c.loop-part.part) c.degree-degree.result (sym c.loop-part.invariant.some ∙ c.if-follows.true) ∙ ap₂ rule_line (ap (terms_text T k) all) c.degree-degree.ensures.value)
    (has_written_append _ _ _ _ _ _ (c.loop-part.invariant.wrote p) (search rules))

pub returns-else-follows-clause-writes : goal.returns-else-follows-clause-writes
returns-else-follows-clause-writes g c =
    let T = c.args.self.now.row.sheet.words.now in
    let k = c.args.self.now.row.number in
    let all : c.loop-part.part ≡ 40 = omega arith in
    λ p ok. has_written_of_eq _ _ _ _ _
    (rule_line_none (terms_text T k c.loop-part.part) c.degree-degree.result (sym c.loop-part.invariant.some ∙ c.if-follows.false) ∙ ap₂ rule_line (ap (terms_text T k) all) c.degree-degree.ensures.value)
    (has_written_append _ _ _ _ _ _ (c.loop-part.invariant.wrote p) (search rules))
