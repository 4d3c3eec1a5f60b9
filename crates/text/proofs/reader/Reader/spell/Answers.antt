use Rattle.std.proofs.Common.{refl}
use Rattle.text.proofs.Spelling.{spelling_more, spelling_done, spelling_stops}
use Rattle.text.proofs.Steps.{err_is}
use Rattle.text.proofs.reader.Reader.spell.Goals as goal

pub loop-b-init : goal.loop-b-init
loop-b-init c = record { same = refl; rest = λ o h. h }

pub loop-b-preserved : goal.loop-b-preserved
loop-b-preserved c = spelling_more _ _ _ _ _ c.loop-b.invariant _ c.loop-b-test.true c.in_ok-byte.ensures

pub returns-in_err-byte : goal.returns-in_err-byte
returns-in_err-byte c = spelling_stops _ _ _ _ _ c.loop-b.invariant _ _ _ c.loop-b-test.true c.in_err-byte.ensures (err_is _ _ c.from_residual.ensures.1)

pub returns : goal.returns
returns c = spelling_done _ _ _ _ _ c.loop-b.invariant c.loop-b-test.false
