-- How many literals of a core must be true. A core is a rule: a row of signed coefficients a over n parts and a degree d. A
-- set of its literals is given by the parts that they stand on.
use Rattle.std.specs.Prelude.{◌≡◌, ℕ, zero, suc, ◌+◌, ◌<◌, ◌≤◌, Bool, true, false, cond, [], ◌∷◌, ℤ, pos, negsuc}
use Rattle.rules.specs.Sum.{total}
use Rattle.rules.specs.Rule.{at, size}
use Rattle.derive.specs.Derive.{Follows}

-- the coefficients of the literals in p together; of those outside y; and how many there are in p
abbrev pub sum_in : ℕ → (ℕ → ℤ) → (ℕ → Bool) → ℕ
sum_in n a p = total (λ i. cond (p i) (size (a i)) 0) n

abbrev pub sum_outside : ℕ → (ℕ → ℤ) → (ℕ → Bool) → ℕ
sum_outside n a y = total (λ i. cond (y i) 0 (size (a i))) n

abbrev pub number_in : ℕ → (ℕ → Bool) → ℕ
number_in n p = total (λ i. cond (p i) 1 0) n

abbrev pub Within : ℕ → (ℕ → Bool) → (ℕ → Bool) → Type 0
Within n p y = (i : ℕ) → i < n → y i ≡ false → p i ≡ false

-- p is a choice from y that reaches the degree together with everything outside y
pub record Reaches (n : ℕ) (a : ℕ → ℤ) (d : ℕ) (y p : ℕ → Bool) : Type 0 where
  pub within : Within n p y
  pub enough : d ≤ sum_outside n a y + sum_in n a p

-- b is the least number of members of y that reach the degree: some b of them do, and no fewer
pub record Least (n : ℕ) (a : ℕ → ℤ) (d : ℕ) (y : ℕ → Bool) (b : ℕ) : Type 0 where
  pub choice : ℕ → Bool
  pub reaches : Reaches n a d y choice
  pub number : number_in n choice ≡ b
  pub no_fewer : (p : ℕ → Bool) → Reaches n a d y p → b ≤ number_in n p

-- a term of coefficient 1 on the same literal, where there is one
abbrev pub unit_of : ℤ → ℤ
unit_of (pos zero) = pos 0
unit_of (pos (suc c)) = pos 1
unit_of (negsuc c) = negsuc 0

-- the row that counts the true literals of y
abbrev pub count_row : (ℕ → Bool) → (ℕ → ℤ) → ℕ → ℤ
count_row y a i = cond (y i) (unit_of (a i)) (pos 0)

-- "at least c literals of y are true" follows from the core
abbrev pub CountFollows : ℕ → (ℕ → ℤ) → ℕ → (ℕ → Bool) → ℕ → Type 0
CountFollows n a d y c = Follows n a d (count_row y a) c

-- p was chosen from y greatest first and no longer than needed: none left out is greater than `last`, none taken is smaller,
-- the degree is reached, and would not be with less by `last`
pub record ChosenGreatestFirst (n : ℕ) (a : ℕ → ℤ) (d : ℕ) (y p : ℕ → Bool) (last : ℕ) : Type 0 where
  pub reaches : Reaches n a d y p
  pub taken : (i : ℕ) → i < n → p i ≡ true → last ≤ size (a i)
  pub left : (i : ℕ) → i < n → y i ≡ true → p i ≡ false → size (a i) ≤ last
  pub tight : sum_outside n a y + sum_in n a p < d + last

-- The laws.
abbrev pub GreatestFirst : Type 0
GreatestFirst = (n : ℕ) (a : ℕ → ℤ) (d : ℕ) (y p : ℕ → Bool) (last : ℕ)
    → ChosenGreatestFirst n a d y p last → Least n a d y (number_in n p)

pub record CountLaw : Type 0 where
  pub upto : (n : ℕ) (a : ℕ → ℤ) (d : ℕ) (y : ℕ → Bool) (b c : ℕ) → Least n a d y b → c ≤ b → CountFollows n a d y c
  pub no_more : (n : ℕ) (a : ℕ → ℤ) (d : ℕ) (y : ℕ → Bool) (b c : ℕ) → Least n a d y b → CountFollows n a d y c → c ≤ b

-- 3, 1, 1, 1
abbrev pub worked_row : ℕ → ℤ
worked_row = at (pos 3 ∷ pos 1 ∷ pos 1 ∷ pos 1 ∷ [])

pub record WorkedCounts : Type 0 where
  pub five : Least 4 worked_row 5 (λ i. true) 3
  pub six : Least 4 worked_row 6 (λ i. true) 4
