use Rattle.std.proofs.Common.{◌+◌, ◌*◌, ◌<◌, length, ◌∙◌, w32, SFits, rules}
use Rattle.std.proofs.lemmas.Int.{to_z-of_z}
use Rattle.rows.proofs.Laid.{row_laid}
use Rattle.rows.proofs.Words.{row_put}
use Rattle.rows.proofs.normal.AtLeast.put.Goals as goal

pub returns : goal.returns
returns c =
    let d : SFits w32 c.degree.result = search rules in
    let l : 44 + 41 * c.args.row < length c.args.table.now = search rules in
    let put = row_put c.args.table.now _ c.args.self.now.coefficients.words (44 + 41 * c.args.row) _ _ l c.put_words.ensures (to_z-of_z w32 c.degree.result d ∙ c.degree.ensures) in
    λ front rs head lined rows before. row_laid front rs _ c.args.table.now _ c.args.row head lined rows c.requires before put
