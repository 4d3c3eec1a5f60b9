use Rattle.std.proofs.Common.{◌≡◌, ℕ, Bool, List, ◌++◌, not, codes, sym, ap, ◌∙◌, arith, rules}
use Rattle.std.proofs.Output.{has_written_append, has_written_of_eq}
use Rattle.rules.specs.Words.{literal_words}
use Rattle.board.specs.Board.{choice}
use Rattle.notation.specs.Text.{literal_text, literals_text}
use Rattle.notation.proofs.Texts.{literal_same, literals_more}
use Rattle.notation.proofs.shown.LiteralsDisplay.fmt.Goals as goal

pub loop-part-preserved : goal.loop-part-preserved
loop-part-preserved g c =
    let x = choice c.args.self.now.board.marks in
    let n = c.loop-part.part in
    let word : literal_words c.literal_of-literal.result ≡ literal_text (x n) n =
    ap literal_words c.literal_of-literal.ensures ∙ ap (λ (b : Bool). literal_words (record { variable = n; negated = not b })) c.takes.ensures ∙ literal_same (x n) n (omega arith) in
    λ p. has_written_of_eq _ _ _ _ _ (ap (λ (bs : List ℕ). literals_text x n ++ (codes " " ++ bs)) word ∙ sym (literals_more x n)) (has_written_append _ _ _ _ _ _ (c.loop-part.invariant p) (search rules))
