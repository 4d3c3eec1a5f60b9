use Rattle.std.proofs.Common.{[], ◌∷◌, sym, refl, ap, ◌∙◌, subst, w32, SFits, rules}
use Rattle.std.proofs.lemmas.Int.{to_z-of_z}
use Rattle.lines.specs.declared.line.Comparison.{Comparison}
use Rattle.rows.specs.Rows.{words, turn, rows_by, at_least, Appends}
use Rattle.rows.proofs.Laid.{appends_both, appends_as}
use Rattle.rows.proofs.put_rule.Goals as goal

pub returns-in-Equal : goal.returns-in-Equal
returns-in-Equal c =
    let fits : SFits w32 c.args.rule.now.bound = search rules in
    subst (λ (k : Comparison). Appends c.args.row c.args.table.now c.put-in-Equal.new.table (rows_by k (words c.args.rule.now.sum) c.args.rule.now.bound))
    (sym c.in-Equal.is)
    (appends_both c.args.row 1 _ c.put.new.table _ (at_least (words c.args.rule.now.sum) c.args.rule.now.bound ∷ []) _ (c.requires.narrow.forty, tt) refl
    (appends_as _ _ _ _ _ _ _ c.of.ensures (to_z-of_z w32 _ fits) c.put.ensures)
    (appends_as _ _ _ _ _ _ _ (c.turned.ensures.coefficients ∙ ap turn c.of.ensures) (search rules) c.put-in-Equal.ensures))
