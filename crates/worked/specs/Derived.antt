-- Derivations that are worked out: a division, two counts, and one core from its rounds to the new price.
use Rattle.std.specs.Prelude.{◌≡◌, ℕ, ◌+◌, ◌-◌, ◌*◌, ◌<◌, not, [], ◌∷◌, ℤ, pos, ◌==◌}
use Rattle.rules.specs.Rule.{at}
use Rattle.derive.specs.Derive.{WorkedDivision}
use Rattle.counting.specs.Counting.{sum_outside, count_row, WorkedCounts}
use Rattle.counting.specs.Gain.{heavy}
use Rattle.counting.specs.Rounds.{weight_under, Round, FirstGreatest}
use Rattle.reform_laws.specs.Reform.{fresh_needed, new_weight}

-- the core 3 x1 + 3 x2 + 2 x3 + x4 + x5 >= 7, with the weights 7, 3, 9, 6, 7
abbrev pub core : ℕ → ℤ
core = at (pos 3 ∷ pos 3 ∷ pos 2 ∷ pos 1 ∷ pos 1 ∷ [])

abbrev pub price : ℕ → ℤ
price = at (pos 7 ∷ pos 3 ∷ pos 9 ∷ pos 6 ∷ pos 7 ∷ [])

abbrev pub weights : ℕ → ℕ
weights = weight_under price core

pub record WorkedRounds : Type 0 where
  -- all five literals: count 3, gain 9
  pub first : Round 80 core 7 weights 3 3
  pub first_gain : 3 * 3 ≡ 9
  -- weakening x2 leaves degree 4, count 2, gain 12
  pub weakened : (i : ℕ) → i < 5 → heavy core weights 6 i ≡ not (i == 1)
  pub lowered : 7 - sum_outside 80 core (heavy core weights 6) ≡ 4
  pub second : Round 80 core 7 weights 6 2
  pub second_gain : 2 * 6 ≡ 12
  -- that one is kept
  pub kept : FirstGreatest 80 core 7 weights 6 2

-- the rule that is kept: at least 2 of x1, x3, x4, x5
abbrev pub counted : ℕ → ℤ
counted = count_row (heavy core weights 6) core

pub record WorkedPrice : Type 0 where
  -- two fresh variables after the five, the constant 12, and the weights 1, 3, 3, 0, 1 and twice 6
  pub fresh : fresh_needed counted 2 ≡ 2
  pub constant : 0 + 2 * 6 ≡ 12
  pub new_weights : (i : ℕ) → i < 80 → new_weight counted price 5 2 6 i ≡ at (pos 1 ∷ pos 3 ∷ pos 3 ∷ pos 0 ∷ pos 1 ∷ pos 6 ∷ pos 6 ∷ []) i

pub record WorkedDerivations : Type 0 where
  pub division : WorkedDivision
  pub counts : WorkedCounts
  pub rounds : WorkedRounds
  pub price : WorkedPrice
