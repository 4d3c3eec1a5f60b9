use Rattle.std.proofs.Common.{sym, w32, SFits}
use Rattle.text.proofs.Steps.{err_is, going_none, going_more, going_done, going_stops, going_less}
use Rattle.std.proofs.lemmas.Int.{to_z-of_z}
use Rattle.lines.proofs.Parts.{named_at, terms_stops, terms_goes}
use Rattle.lines.proofs.Progress.{onward_term}
use Rattle.lines.proofs.terms.Goals as goal

pub returns-in_err-named : goal.returns-in_err-named
returns-in_err-named c =
    let fits : SFits w32 c.args.first = c.ranges.first in
    let named = named_at _ _ _ _ _ _ _ (to_z-of_z w32 _ fits) c.in_err-named.ensures in
    terms_stops _ _ _ _ c.new-sum.ensures _ _ _ _ named (err_is _ _ c.from_residual.ensures.1)

pub returns-in_err-term : goal.returns-in_err-term
returns-in_err-term c =
    let fits : SFits w32 c.args.first = c.ranges.first in
    let named = named_at _ _ _ _ _ _ _ (to_z-of_z w32 _ fits) c.in_ok-named.ensures in
    terms_goes _ _ _ _ c.new-sum.ensures _ _ _ _ _ named
    (going_stops _ _ _ _ _ _ c.loop-parts.invariant _ _ _ (sym c.loop-parts-test.ensures) c.in_err-term.ensures (err_is _ _ c.from_residual-in_err-term.ensures.1))

pub loop-parts-init : goal.loop-parts-init
loop-parts-init c = going_none _ _ _ _

pub loop-parts-smaller : goal.loop-parts-smaller
loop-parts-smaller c =
    going_less _ _ _ _ _ _ c.loop-parts.invariant _ _ (onward_term _ _ _ c.loop-parts.sum _ _ _ c.in_ok-term.ensures.reads) c.in_ok-term.ensures

pub loop-parts-preserved : goal.loop-parts-preserved
loop-parts-preserved c = going_more _ _ _ _ _ _ c.loop-parts.invariant _ _ (sym c.loop-parts-test.ensures) c.in_ok-term.ensures

pub returns : goal.returns
returns c =
    let fits : SFits w32 c.args.first = c.ranges.first in
    let named = named_at _ _ _ _ _ _ _ (to_z-of_z w32 _ fits) c.in_ok-named.ensures in
    terms_goes _ _ _ _ c.new-sum.ensures _ _ _ _ _ named (going_done _ _ _ _ _ _ c.loop-parts.invariant (sym c.loop-parts-test.ensures))
