use Rattle.std.proofs.Common.{sym, ◌∙◌, length-set, w32, SFits, rules}
use Rattle.std.proofs.lemmas.List.{at_drop_all}
use Rattle.std.proofs.lemmas.Int.{to_z-of_z}
use Rattle.rules.specs.Terms.{placed}
use Rattle.store.proofs.Views.{row_step}
use Rattle.store.proofs.row.Goals as goal

pub loop-term-preserved : goal.loop-term-preserved
loop-term-preserved c =
    let fit : SFits w32 c.signed_coefficient.result = search rules in (
      simp length-set c.loop-term.invariant.0,
      row_step c.loop-term.row c.args.terms.now c.loop-term.term-index _ _ c.loop-term-test.true (simp to_z-of_z c.signed_coefficient.ensures) c.loop-term.invariant.1,
    )

pub returns : goal.returns
returns c = sym (at_drop_all (placed c.loop-term.row) c.args.terms.now c.loop-term.term-index c.loop-term-test.false) ∙ c.loop-term.invariant.1
