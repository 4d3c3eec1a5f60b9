use Rattle.std.proofs.Common.{◌≡◌, sym, subst, rules}
use Rattle.std.specs.Option.{option_copied}
use Rattle.rows.specs.Rows.{NarrowPrice}
use Rattle.text.proofs.Steps.{err_is}
use Rattle.opb.proofs.Narrow.{narrow_price}
use Rattle.sheet.proofs.Whole.{price_wrong, rules_wrong, body_laid, fronts_as}
use Rattle.sheet.proofs.body.Goals as goal

pub returns-in_err-price : goal.returns-in_err-price
returns-in_err-price c = price_wrong _ _ _ _ c.gap.ensures _ _ _ c.in_err-price.ensures (err_is _ _ c.from_residual.ensures.1)

pub returns-in_err-rows : goal.returns-in_err-rows
returns-in_err-rows c =
    rules_wrong _ _ _ _ c.gap.ensures _ c.in_ok-price.ensures _ c.args.table.now _ _ _ c.in_err-rows.ensures (err_is _ _ c.from_residual-in_err-rows.ensures.1)

pub put_front-requires : goal.put_front-requires
put_front-requires c =
    let same : option_copied c.as_ref.result ≡ c.in_ok-price.price = search rules in
    record { small = c.in_ok-rows.ensures.few; narrow = subst NarrowPrice (sym same) (narrow_price _ _ _ _ _ c.in_ok-price.ensures.reads) }

pub returns : goal.returns
returns c =
    let same : option_copied c.as_ref.result ≡ c.in_ok-price.price = search rules in
    body_laid _ _ _ _ c.gap.ensures _ c.in_ok-price.ensures _ c.args.table.now _ _ _ c.requires c.in_ok-rows.ensures (fronts_as _ _ _ _ _ _ same c.put_front.ensures)
