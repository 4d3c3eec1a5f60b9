use Rattle.std.proofs.Common.{◌≡◌, ◌+◌, ◌-◌, ◌≤◌, List, ◌++◌, length, take, drop, ℤ, sym, ap, ◌∙◌, append_assoc, arith, rules}
use Rattle.std.proofs.lemmas.List.{take_all}
use Rattle.std.proofs.lemmas.Slice.{put_mid-paste}
use Rattle.rows.proofs.put_words.Goals as goal

pub returns : goal.returns
returns c =
    let forty : length c.args.words.now ≡ 40 = search rules in
    let k : 40 ≡ c.args.start + 40 - c.args.start = omega arith in
    let l : length c.args.words.now ≤ 40 = omega arith in
    put_mid-paste c.args.start _ c.args.table.now _ c.args.words.now 40 c.copy_from_slice.ensures.after k (sym forty)
    ∙ append_assoc (take c.args.start c.args.table.now) (take 40 c.args.words.now) (drop (c.args.start + 40) c.args.table.now)
    ∙ ap (λ (w : List ℤ). take c.args.start c.args.table.now ++ (w ++ drop (c.args.start + 40) c.args.table.now)) (take_all 40 c.args.words.now l)
