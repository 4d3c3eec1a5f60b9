-- A table that was read has the layout of a table.
use Rattle.std.proofs.Common.{sym, subst}
use Rattle.table.specs.Layout.{Sound}
use Rattle.audit.proofs.audit.Goals as goal

pub new-requires : goal.new-requires
new-requires c =
    let read = c.in-Ok.ensures in
    let held = read.came.1 in
    subst Sound (sym held.table) (read.sound held.sheet held.written)
