use Rattle.std.proofs.Common.{◌≡◌, length, min, take, ap, ◌∙◌, rules}
use Rattle.std.proofs.lemmas.List.{take_min}
use Rattle.rules.specs.Rule.{at}
use Rattle.core_text.proofs.line.Row.places.Goals as goal

pub returns : goal.returns
returns c i l =
    let row = c.args.self.now in
    let first : c.min.result ≡ min row.length (length row.numbers) = search rules in
    c.places.ensures i l ∙ ap (λ xs. at xs i) (ap (λ n. take n row.numbers) first ∙ take_min row.length row.numbers)
