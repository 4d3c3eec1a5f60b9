use Rattle.std.proofs.Common.{◌≡◌, ℕ, ◌-◌, ◌<◌, ◌≤◌, length, get_or, take, arith, rules, below_more}
use Rattle.std.specs.Char.{digit_value}
use Rattle.std.proofs.lemmas.Int.Digits.{digits_value_more}
use Rattle.std.proofs.lemmas.List.{take_all}
use Rattle.board.proofs.literal.numeral.Goals as goal

of_digit : (b : ℕ) → 48 ≤ b → b ≤ 57 → digit_value b ≡ b - 48
of_digit b low high = grind arith

pub loop-byte-preserved : goal.loop-byte-preserved
loop-byte-preserved c =
    let bytes = c.args.bytes.now in
    let i = c.loop-byte.byte-index in
    let lt : i < length bytes = omega arith in
    let digit = rw c.if-not-is_ascii_digit.false at c.is_ascii_digit.ensures.cases in
    let low : 48 ≤ get_or bytes i 0 = omega arith in
    let high : get_or bytes i 0 ≤ 57 = omega arith in
    let d = of_digit _ low high in
    let v = digits_value_more 10 bytes i lt in
    (omega arith, below_more (λ j. (48 ≤ get_or bytes j 0) × (get_or bytes j 0 ≤ 57)) i c.loop-byte.invariant.1 (low, high))

pub returns : goal.returns
returns c =
    let bytes = c.args.bytes.now in
    let all : c.loop-byte.byte-index ≡ length bytes = omega arith in
    let whole : take c.loop-byte.byte-index bytes ≡ bytes = take_all _ bytes (omega arith) in
    (record { some = search rules; digits = λ i l. c.loop-byte.invariant.1 i (omega arith) }, rw (← whole) c.loop-byte.invariant.0)
