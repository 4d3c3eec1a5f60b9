use Rattle.std.proofs.Common.{◌≡◌, pos, rules}
use Rattle.rules.proofs.Made.{made}
use Rattle.ledger.specs.View.{coefficient_at, row_at}
use Rattle.ledger.specs.Reading.{row_is}
use Rattle.ledger.proofs.rows.rule_at.Goals as goal

pub returns : goal.returns
returns c =
    let T = c.args.row.now.sheet.words.now in
    let k = c.args.row.now.number in
    let row : c.from_fn.result ≡ row_at T k = row_is T k c.from_fn.result c.from_fn.ensures.items.long
    (λ i b. made _ _ (coefficient_at T k) _ (pos 0) 80 c.from_fn.ensures.items (λ j y q l call. (search rules, search rules)) i b) in
    let degree = c.degree.ensures.value in
    cc
