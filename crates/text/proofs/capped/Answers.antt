use Rattle.std.proofs.Common.{ℕ, ◌+◌, ◌-◌, ◌*◌, ◌<◌, length, arith}
use Rattle.std.proofs.lemmas.List.Sums.{fold_more}
use Rattle.text.specs.Bytes.{decimal}
use Rattle.text.proofs.capped.Goals as goal

pub loop-b-preserved : goal.loop-b-preserved
unfolding decimal
loop-b-preserved c =
    let lt : c.loop-b.b-index < length c.args.digits.now = omega arith in
    let step = fold_more (λ (n b : ℕ). n * 10 + (b - 48)) 0 c.args.digits.now c.loop-b.b-index 0 lt in
    omega arith
