use Rattle.std.proofs.Common.{sym, subst}
use Rattle.ledger.specs.View.{held_by, SameMeaning}
use Rattle.ledger.specs.Reading.{same_meaning}
use Rattle.ledger.proofs.state.Sheet.from_table.Goals as goal

pub returns : goal.returns
returns c =
    let T = c.args.table.now in
    let sound = c.in_ok-check.ensures in
    let same = c.copy_from_slice.ensures.after in
    (sound, same, subst (λ xs. SameMeaning T (held_by xs)) (sym same) (same_meaning T sound.fine))
