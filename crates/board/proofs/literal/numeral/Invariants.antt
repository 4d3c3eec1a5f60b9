use Rattle.std.proofs.Common.{◌≡◌, ℕ, ◌<◌, ◌≤◌, get_or, take}
use Rattle.board.specs.Literal.{number}
use Rattle.board.proofs.literal.numeral.Given as goal

abbrev pub invariant-loop-byte : goal.invariant-loop-byte
invariant-loop-byte l =
    (l.number ≡ number (take l.byte-index l.bytes)) × ((i : ℕ) → i < l.byte-index → (48 ≤ get_or l.bytes i 0) × (get_or l.bytes i 0 ≤ 57))
