use Rattle.std.proofs.Common.{◌≡◌, ◌<◌, length, get_or, pos, neg_ℤ, rules, ◌∙◌, sym, subst, arith}
use Rattle.rules.proofs.Made.{made}
use Rattle.rows.specs.Rows.{turn}
use Rattle.rows.proofs.Words.{mapped, negated}
use Rattle.rows.proofs.normal.Coefficients.turned_words.Goals as goal

pub returns : goal.returns
unfolding turn
returns c =
    let words = c.args.self.now.words in
    let forty : length words ≡ 40 = search rules in
    let at = made _ _ (λ i. neg_ℤ (get_or words i (pos 0))) _ (pos 0) 40 c.from_fn.ensures.items (λ k y q l call.
    let e = negated (get_or words k (pos 0)) (omega (arith, c.args.self.now.narrow k)) in
    (search rules, search rules)) in
    mapped neg_ℤ words _ (pos 0) (c.from_fn.ensures.items.long ∙ sym forty) (λ i l. at i (subst (λ n. i < n) forty l))
