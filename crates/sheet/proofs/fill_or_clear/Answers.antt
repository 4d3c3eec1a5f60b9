use Rattle.std.proofs.Common.{◌≡◌, ℕ, length, replicate, pos, ap, ◌∙◌, rules}
use Rattle.sheet.proofs.fill_or_clear.Goals as goal

pub read_text-requires : goal.read_text-requires
read_text-requires c =
    let whole : length c.args.table.now ≡ 2668 = search rules in
    c.fill.ensures.after (λ y h. h) ∙ ap (λ (n : ℕ). replicate n (pos 0)) whole

pub returns-in-Err : goal.returns-in-Err
returns-in-Err c =
    let whole : length c.read_text.new.table ≡ 2668 = search rules in
    (c.in-Err.ensures, c.fill-in-Err.ensures.after (λ y h. h) ∙ ap (λ (n : ℕ). replicate n (pos 0)) whole)
