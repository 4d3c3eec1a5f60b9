use Rattle.std.proofs.Common.{subst}
use Rattle.ledger.specs.View.{held_by}
use Rattle.solve.specs.Loads.{Tells, Took}
use Rattle.finder.proofs.Boards.{sheet_loads, board_meets, no_board}
use Rattle.finder.proofs.find.Goals as goal

pub unreachable-requires : goal.unreachable-requires
unreachable-requires g c = c.in-Err.ensures.0 (sheet_loads c.args.sheet.now.words c.args.sheet.now.fine)

pub returns-in-Yes : goal.returns-in-Yes
returns-in-Yes g c =
    let s = c.args.sheet.now in
    let told = subst (Tells (held_by s.words)) c.in-Yes.is c.in-Ok.ensures.0 in
    let took = subst (λ a. Took g.E.Engine.pledge c.args.allowance a c.in-Ok.field-0.steps) c.in-Yes.is c.in-Ok.ensures.1 in
    (board_meets s.words s.fine c.in-Yes.marks c.board_of.result.marks c.board_of.ensures told.0 told.1, took.0, took.1)

pub returns-in-No : goal.returns-in-No
returns-in-No g c =
    let s = c.args.sheet.now in
    let told = subst (Tells (held_by s.words)) c.in-No.is c.in-Ok.ensures.0 in
    let took = subst (λ a. Took g.E.Engine.pledge c.args.allowance a c.in-Ok.field-0.steps) c.in-No.is c.in-Ok.ensures.1 in
    (no_board s.words s.fine told, took.0, took.1)
