use Rattle.std.proofs.Common.{◌≡◌, length, None, slice_index_or, pos, rules, ◌∙◌, sym, subst, ◌<◌}
use Rattle.rules.proofs.Made.{made}
use Rattle.rows.specs.Rows.{given}
use Rattle.rows.proofs.Words.{mapped}
use Rattle.rows.proofs.words_of.Goals as goal

pub returns : goal.returns
returns c =
    let forty : length c.args.terms.now ≡ 40 = search rules in
    let at = made _ _ (λ i. given (slice_index_or c.args.terms.now i None)) _ (pos 0) 40 c.from_fn.ensures.items (λ k y q l call. (search rules, search rules)) in
    mapped given c.args.terms.now _ None (c.from_fn.ensures.items.long ∙ sym forty) (λ i l. at i (subst (λ n. i < n) forty l))
