use Rattle.std.proofs.Common.{string_bytes, arith, rules, sym, ap, ◌∙◌, Err, map, ◌≡◌, subst}
use Rattle.board.proofs.Reading.{marks_all, marks_more, refused_here, was_err, was_ok}
use Rattle.board.proofs.Taking.{takes_as_said}
use Rattle.board.specs.Board.{Named, Read}
use Rattle.board.specs.declared.words.Misread.{Misread}
use Rattle.board.proofs.Board.read.Goals as goal

pub returns-in_err-map_err-clause-steps : goal.returns-in_err-map_err-clause-steps
returns-in_err-map_err-clause-steps c =
    let T = c.args.sheet.now.words.now in
    let was = was_err c.name.result _ _ (sym c.in_err-map_err.ensures.variant) c.in_err-map_err.ensures.cases in
    let m : Misread = record { index = c.loop-index.index-counter; trouble = was.0 } in
    let made : c.in_err-map_err.field-0.0 ≡ m = search (rules, was.2) in
    let gave : c.from_residual.result ≡ Err c.in_err-map_err.field-0.0 = search rules in
    let named = subst (λ r. Named T c.as_bytes.result.now c.loop-index.board.marks r c.name.new.self.marks) was.1 c.name.ensures in
    subst (λ r. Read T (map string_bytes c.args.words.now) r) (sym (gave ∙ ap Err made)) (
      c.loop-index.board.marks,
      refused_here string_bytes T c.args.words.now c.loop-index.index-counter c.loop-index.board.marks c.loop-index.invariant
          c.index-words-index.result _ (omega arith) c.index-words-index.is c.as_bytes.ensures.value was.0 _ named,
    )

pub loop-index-preserved : goal.loop-index-preserved
loop-index-preserved c =
    let named = subst (λ r. Named c.args.sheet.now.words.now c.as_bytes.result.now c.loop-index.board.marks r c.name.new.self.marks) (was_ok c.name.result (sym c.in_ok-map_err.ensures.variant)) c.name.ensures in
    marks_more string_bytes c.args.sheet.now.words.now c.args.words.now c.loop-index.index-counter c.loop-index.board.marks c.loop-index.invariant
    c.index-words-index.result _ (omega arith) c.index-words-index.is c.as_bytes.ensures.value _ named

pub returns : goal.returns
returns c =
    let all = marks_all string_bytes c.args.sheet.now.words.now c.args.words.now c.loop-index.index-counter c.loop-index.board.marks c.loop-index.invariant (omega arith) in
    record { steps = all; taken = takes_as_said c.args.sheet.now.words.now _ c.loop-index.board.marks all }
