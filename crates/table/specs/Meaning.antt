-- What a table says: which choices of parts meet it, and what a choice costs.
use Rattle.std.specs.Prelude.{ℕ, ◌<◌, ◌≤◌, Bool, true, false, List, ℤ, pos, ◌+ℤ◌}
use Rattle.rules.specs.Rule.{open_sum}
use Rattle.rules.specs.declared.Mark.{Mark}
use Rattle.rules.specs.declared.Mark.TheVariants.{Zero, One}
use Rattle.table.specs.Layout.{base, weight, rules_of, degree, coefficient}

-- a choice takes or leaves each part, so it marks every part
abbrev pub mark : Bool → Mark
mark true = One
mark false = Zero

abbrev pub chosen : (ℕ → Bool) → ℕ → Mark
chosen x i = mark (x i)

-- the sum that rule k reaches: the coefficients of its true literals
abbrev pub reached : List ℤ → ℕ → (ℕ → Bool) → ℕ
reached T k x = open_sum 40 (coefficient T k) (chosen x)

-- a choice meets the sheet where each rule reaches its degree
abbrev pub Meets : List ℤ → (ℕ → Bool) → Type 0
Meets T x = (k : ℕ) → k < rules_of T → degree T k ≤ reached T k x

-- the weights of the price line's true literals, and the whole price
abbrev pub weights : List ℤ → (ℕ → Bool) → ℕ
weights T x = open_sum 40 (weight T) (chosen x)

abbrev pub price : List ℤ → (ℕ → Bool) → ℤ
price T x = base T +ℤ pos (weights T x)
