use Rattle.text.proofs.Steps.{err_is}
use Rattle.wish.proofs.Exactly.{too_long, whole_read}
use Rattle.wish.proofs.read_alone.Goals as goal

pub returns-in_err-check_length : goal.returns-in_err-check_length
returns-in_err-check_length c = too_long _ _ _ _ _ c.in_err-check_length.ensures (err_is _ _ c.from_residual.ensures.1)

pub returns : goal.returns
returns c = whole_read _ _ _ c.in_ok-check_length.ensures _ c.new-reader.ensures.0 c.new-reader.ensures.1 _ _ c.alone.ensures
