use Rattle.std.proofs.Common.{ℕ, ap, ap₂, ◌∙◌}
use Rattle.std.proofs.Output.{has_written_of_eq}
use Rattle.table.specs.Layout.{parts_of, rules_of}
use Rattle.statement.specs.Statement.{price_word, holdings_line}
use Rattle.statement.proofs.lines.HoldingsDisplay.fmt.Goals as goal

pub returns-clause-writes : goal.returns-clause-writes
returns-clause-writes g c =
    let T = c.args.self.now.sheet.words.now in
    let line = c.price_word-line.result.now in
    λ p ok. has_written_of_eq _ _ _ _ _
    (ap₂ (λ (n r : ℕ). holdings_line n r line) c.parts-parts.ensures.value c.rules-rules.ensures.value
    ∙ ap (holdings_line (parts_of T) (rules_of T)) (c.price_word-line.ensures ∙ ap price_word c.is_priced.ensures))
    (c.write.ensures.writes p ok)
