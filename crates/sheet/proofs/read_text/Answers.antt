use Rattle.text.proofs.Steps.{err_is}
use Rattle.sheet.proofs.Whole.{too_long, header_wrong, whole_read}
use Rattle.sheet.proofs.read_text.Goals as goal

pub returns-in_err-check_length : goal.returns-in_err-check_length
returns-in_err-check_length c = too_long _ _ _ _ c.in_err-check_length.ensures (err_is _ _ c.from_residual.ensures.1)

pub returns-in_err-header : goal.returns-in_err-header
returns-in_err-header c =
    header_wrong _ c.in_ok-check_length.ensures _ c.new-reader.ensures.0 c.new-reader.ensures.1 _ _ _ _ c.in_err-header.ensures (err_is _ _ c.from_residual-in_err-header.ensures.1)

pub returns : goal.returns
returns c =
    whole_read _ c.in_ok-check_length.ensures _ c.new-reader.ensures.0 c.new-reader.ensures.1 _ _ _ _ _ c.in_ok-header.ensures c.body.ensures
