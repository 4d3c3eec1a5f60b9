use Rattle.std.proofs.Common.{◌≡◌, ℕ, ◌+◌, nat_le, List, ap, ap₂, ◌∙◌}
use Rattle.std.specs.Fmt.{styled_decimal}
use Rattle.std.proofs.Output.{has_written_of_eq}
use Rattle.notation.specs.Text.{rule_text}
use Rattle.statement.specs.Statement.{right_text, row_line, verdict_word}
use Rattle.statement.proofs.More.{set_right}
use Rattle.statement.proofs.lines.FareDisplay.fmt.Goals as goal

pub returns-clause-writes : goal.returns-clause-writes
returns-clause-writes g c =
    let k = c.args.self.now.row.number in
    let j = c.args.self.now.judgement in
    let rule = rule_text c.args.self.now.row.sheet.words.now k in
    let number : styled_decimal c.laid_out.result (k + 1) ≡ right_text 4 (k + 1) = ap (λ s. styled_decimal s (k + 1)) c.laid_out.ensures ∙ set_right 4 (k + 1) in
    let reached : styled_decimal c.laid_out-2.result j.reached ≡ right_text 7 j.reached = ap (λ s. styled_decimal s j.reached) c.laid_out-2.ensures ∙ set_right 7 j.reached in
    let needed : styled_decimal c.laid_out-3.result j.needed ≡ right_text 6 j.needed = ap (λ s. styled_decimal s j.needed) c.laid_out-3.ensures ∙ set_right 6 j.needed in
    λ p ok. has_written_of_eq _ _ _ _ _
    (ap₂ (λ (a b : List ℕ). row_line a b (styled_decimal c.laid_out-2.result j.reached) (styled_decimal c.laid_out-3.result j.needed) rule) number (c.verdict_word-verdict.ensures ∙ ap verdict_word c.is_met.ensures)
    ∙ ap₂ (λ (a b : List ℕ). row_line (right_text 4 (k + 1)) (verdict_word (nat_le j.needed j.reached)) a b rule) reached needed)
    (c.write.ensures.writes p ok)
