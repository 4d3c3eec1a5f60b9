-- Reformulating a price by a count rule. The count rule has the row u, whose coefficients are 1 in size or 0, and the count b:
-- at least b of its literals are true. There are v variables, and k fresh ones come after them, z(b + 1) to z(b + k), where
-- b + k is the number of the rule's literals: z(j) says that at least j of them are true. A price is a constant c and a row w
-- of weights; each literal of the count rule weighs at least t, and t of each is moved to the constant and the fresh
-- variables.
use Rattle.std.specs.Prelude.{◌≡◌, ℕ, zero, suc, ◌+◌, ◌-◌, ◌*◌, ◌^◌, ◌<◌, ◌≤◌, Bool, false, cond, ℤ, pos, negsuc, ◌==◌, ◌≢◌, nat_lt}
use Rattle.rules.specs.Rule.{size, Full, open_sum, Met}
use Rattle.rules.specs.declared.Mark.{Mark}
use Rattle.cores.specs.Cores.{sizes}
use Rattle.counting.specs.Rounds.{literal_weight}

-- ---- what a reformulation needs
-- the fresh variables of a count rule: as many as it has literals beyond its count
abbrev pub fresh_needed : (ℕ → ℤ) → ℕ → ℕ
fresh_needed u b = sizes 80 u - b

-- its rules: two, and one for each two neighbours among the fresh variables
abbrev pub rules_needed : ℕ → ℕ
rules_needed k = 2 + (k - 1)

-- ---- the rules
-- a variable is one of the fresh ones
abbrev pub fresh : ℕ → ℕ → ℕ → Bool
fresh v k i = cond (nat_lt i v) false (nat_lt i (v + k))

-- a term of coefficient 1 on the complement
abbrev pub turned : ℤ → ℤ
turned (pos zero) = pos 0
turned (pos (suc c)) = negsuc 0
turned (negsuc c) = pos 1

-- the literals of u and the complements of all z: at least b + k of them are true, so sum u is at least b + sum z
abbrev pub at_least_row : (ℕ → ℤ) → ℕ → ℕ → ℕ → ℤ
at_least_row u v k i = cond (fresh v k i) (negsuc 0) (u i)

-- the complements of the literals of u and all z: at least k of them are true, so sum u is at most b + sum z
abbrev pub at_most_row : (ℕ → ℤ) → ℕ → ℕ → ℕ → ℤ
at_most_row u v k i = cond (fresh v k i) (pos 1) (turned (u i))

-- the fresh variable after v + j is true only where v + j is: one of v + j and the complement of v + j + 1 is true
abbrev pub order_row : ℕ → ℕ → ℕ → ℤ
order_row v j i = cond (i == v + j) (pos 1) (cond (i == v + j + 1) (negsuc 0) (pos 0))

-- s meets the new rules
pub record MeetsNew (u : ℕ → ℤ) (b v k : ℕ) (s : ℕ → Mark) : Type 0 where
  pub at_least : Met 80 (at_least_row u v k) (b + k) s
  pub at_most : Met 80 (at_most_row u v k) k s
  pub order : (j : ℕ) → j + 1 < k → Met 80 (order_row v j) 1 s

-- ---- the price
-- a weight without t
abbrev pub less : ℕ → ℤ → ℤ
less t (pos c) = pos (c - t)
less t (negsuc c) = cond (nat_lt c t) (pos 0) (negsuc (c - t))

-- each literal of the count rule loses t, each fresh variable weighs t, the others keep their weight
abbrev pub new_weight : (ℕ → ℤ) → (ℕ → ℤ) → ℕ → ℕ → ℕ → ℕ → ℤ
new_weight u w v k t i = cond (fresh v k i) (pos t) (cond (size (u i) == 0) (w i) (less t (w i)))

-- ---- a count rule that suits a price over v variables
-- at one variable: those that there are not have no literal and no weight, a literal's coefficient is 1 in size, and it weighs
-- at least t
pub record SuitsAt (v t i : ℕ) (u w : ℤ) : Type 0 where
  pub unit : size u ≤ 1
  pub heavy : (size u ≢ 0) → t ≤ literal_weight u w
  pub absent : v ≤ i → u ≡ pos 0
  pub weightless : v ≤ i → w ≡ pos 0

-- at each variable; and the count, the weight and the new constant stay within their limits
pub record Suits (u : ℕ → ℤ) (b t : ℕ) (c : ℕ) (w : ℕ → ℤ) (v : ℕ) : Type 0 where
  pub each : (i : ℕ) → i < 80 → SuitsAt v t i (u i) (w i)
  pub enough : b ≤ sizes 80 u
  pub small : t < 2 ^ 31
  pub fits : c + b * t < 2 ^ 64

-- ---- the promise
-- s keeps the marks of the v variables, and marks the k fresh ones too
pub record Setting (v k : ℕ) (m s : ℕ → Mark) : Type 0 where
  pub same : (i : ℕ) → i < v → s i ≡ m i
  pub full : Full (v + k) s

-- there is exactly one setting of the fresh variables that meets the new rules
pub record OneSetting (u : ℕ → ℤ) (b v k : ℕ) (m : ℕ → Mark) : Type 0 where
  pub setting : ℕ → Mark
  pub is : Setting v k m setting
  pub meets : MeetsNew u b v k setting
  pub only : (s : ℕ → Mark) → Setting v k m s → MeetsNew u b v k s → (i : ℕ) → i < v + k → s i ≡ setting i

pub record Promise (u : ℕ → ℤ) (b t v k : ℕ) (c : ℕ) (w : ℕ → ℤ) (c' : ℕ) (w' : ℕ → ℤ) : Type 0 where
  -- a marking that meets the count rule has exactly one setting of the fresh variables, every other has none
  pub one : (m : ℕ → Mark) → Full v m → Met 80 u b m → OneSetting u b v k m
  pub none : (m s : ℕ → Mark) → (Met 80 u b m → ⊥) → Setting v k m s → MeetsNew u b v k s → ⊥
  -- under it the constant and the weights of the true literals come to the same
  pub price : (m s : ℕ → Mark) → Setting v k m s → MeetsNew u b v k s → c' + open_sum 80 w' s ≡ c + open_sum 80 w m
  -- so do the constant and all weights
  pub whole : c' + sizes 80 w' ≡ c + sizes 80 w
  -- a literal of the count rule loses t, and no more than it has; no other loses anything
  pub loses : (i : ℕ) → i < v → (size (u i) ≢ 0) → size (w' i) + t ≡ size (w i)
  pub keeps : (i : ℕ) → i < v → size (u i) ≡ 0 → w' i ≡ w i
  -- there are no weights beyond the fresh variables
  pub weightless : (i : ℕ) → i < 80 → v + k ≤ i → w' i ≡ pos 0
  -- a count and a weight that are not 0 gain
  pub gains : 0 < b → 0 < t → c < c'

-- A reformulation keeps its promise.
abbrev pub Reformulating : Type 0
Reformulating = (u : ℕ → ℤ) (b t v k : ℕ) (c : ℕ) (w : ℕ → ℤ) (c' : ℕ) (w' : ℕ → ℤ)
    → Suits u b t c w v → k ≡ fresh_needed u b → v + k ≤ 80 → c' ≡ c + b * t → ((i : ℕ) → i < 80 → w' i ≡ new_weight u w v k t i)
    → Promise u b t v k c w c' w'
