use Rattle.std.proofs.Common.{◌≡◌, length, refl, rules}
use Rattle.text.proofs.Steps.{err_is}
use Rattle.sheet.proofs.Whole.{exactly}
use Rattle.sheet.proofs.read.Goals as goal

pub returns-in_default : goal.returns-in_default
returns-in_default c = exactly _ _ _ _ (c.in_default.ensures.cases, refl)

pub returns-in_err-fill_or_clear : goal.returns-in_err-fill_or_clear
returns-in_err-fill_or_clear c =
    let whole : length c.args.table.now ≡ 2668 = search rules in
    rw (err_is _ _ c.from_residual.ensures.1) (exactly _ _ _ _ (whole, c.in_err-fill_or_clear.ensures.0, c.in_err-fill_or_clear.ensures.1))

pub returns : goal.returns
returns c =
    let whole : length c.args.table.now ≡ 2668 = search rules in
    exactly _ _ _ _ (whole, c.in_ok-fill_or_clear.ensures)
