use Rattle.std.proofs.Common.{◌≡◌, ℕ, ◌<◌, ◌∙◌, arith}
use Rattle.rules.specs.Rule.{at, marked}
use Rattle.cores.specs.Cores.{core_row, core_degree}
use Rattle.cores.proofs.Left.{dropped_is, row_is, sizes_same, core_is}
use Rattle.cores.proofs.core_of.core_of.Goals as goal

pub returns-then-sum_of-lowered : goal.returns-then-sum_of-lowered
returns-then-sum_of-lowered c =
    let r = c.args.rule.now in
    let ls = c.args.assumed.now in
    let m = marked c.marks_of-marks.result in
    let row : (i : ℕ) → i < 80 → at c.left_over-coefficients.result i ≡ core_row r ls i = λ i l. c.left_over-coefficients.ensures i l ∙ row_is r ls m c.marks_of-marks.ensures i l in
    omega (arith, dropped_is r ls m c.marks_of-marks.ensures, sizes_same 80 _ _ row)

pub returns : goal.returns
returns c =
    let r = c.args.rule.now in
    let ls = c.args.assumed.now in
    let m = marked c.marks_of-marks.result in
    let row : (i : ℕ) → i < 80 → at c.left_over-coefficients.result i ≡ core_row r ls i = λ i l. c.left_over-coefficients.ensures i l ∙ row_is r ls m c.marks_of-marks.ensures i l in
    let degree : c.saturating_sub-lowered.result ≡ core_degree r ls = omega (arith, dropped_is r ls m c.marks_of-marks.ensures) in
    core_is r ls _ (record { row = row; degree = degree }) (omega (arith, sizes_same 80 _ _ row))
