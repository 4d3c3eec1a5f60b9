use Rattle.std.proofs.Common.{◌≡◌, ℕ, ◌+◌, ◌-◌, ◌*◌, ◌<◌, List, ℤ, pos, drop, get_or, take, nat_abs, ap, ◌∙◌, arith}
use Rattle.table.specs.Layout.{word, coefficient}
use Rattle.table.proofs.Places.{between, coefficient_most}
use Rattle.table.proofs.checked.Row.coefficients.Goals as goal

here : (T : List ℤ) (k i : ℕ) → i < 40 → get_or (take (44 + 41 * k + 1 + 40 - (44 + 41 * k + 1)) (drop (44 + 41 * k + 1) T)) i (pos 0) ≡ coefficient T k i
here T k i l =
    let same : 44 + 41 * k + 1 + i ≡ 44 + 41 * k + (1 + i) = omega arith in
    between T (44 + 41 * k + 1) (44 + 41 * k + 1 + 40) i (omega arith) ∙ ap (word T) same

pub returns-clause-each : goal.returns-clause-each
returns-clause-each c = here c.args.self.now.sheet.words.now c.args.self.now.number

pub returns-clause-bound : goal.returns-clause-bound
returns-clause-bound c =
    λ i l. omega (arith, ap nat_abs (here c.args.self.now.sheet.words.now c.args.self.now.number i l), coefficient_most _ c.args.self.now.sheet.fine c.args.self.now.number i c.args.self.now.there l)
