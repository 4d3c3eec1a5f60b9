use Rattle.std.proofs.Common.{length, ◌≡◌, rules, subst, sym}
use Rattle.rows.specs.Rows.{Narrow}
use Rattle.rows.proofs.Laid.{turn_narrow}
use Rattle.rows.proofs.normal.Coefficients.turned.Goals as goal

pub invariant_of-result : goal.invariant_of-result
invariant_of-result c =
    let forty : length c.args.self.now.words ≡ 40 = search rules in
    let n : Narrow c.turned_words-words.result = subst Narrow (sym c.turned_words-words.ensures) (turn_narrow c.args.self.now.words (record { forty = forty; small = c.args.self.now.narrow })) in
    record { narrow = n.small }
