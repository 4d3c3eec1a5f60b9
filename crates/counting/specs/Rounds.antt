-- The rounds in which the lightest literals of a core are weakened, and the first round of greatest gain. A core is a row a
-- over n variables with the degree d, and w are the weights of its literals.
use Rattle.std.specs.Prelude.{ℕ, suc, ◌*◌, ◌<◌, ◌≤◌, Bool, ℤ, pos, negsuc, ◌≢◌}
use Rattle.rules.specs.Rule.{size}
use Rattle.counting.specs.Counting.{Least, CountFollows}
use Rattle.counting.specs.Gain.{OfCore, Smallest, heavy}

-- the weight of a literal under a price: the price's coefficient where the price has the same literal, else 0
abbrev pub literal_weight : ℤ → ℤ → ℕ
literal_weight (pos c) (pos x) = x
literal_weight (pos c) (negsuc x) = 0
literal_weight (negsuc c) (pos x) = 0
literal_weight (negsuc c) (negsuc x) = suc x

abbrev pub weight_under : (ℕ → ℤ) → (ℕ → ℤ) → ℕ → ℕ
weight_under price a i = literal_weight (a i) (price i)

-- a round: every literal lighter than t is weakened, t is the smallest weight that is left, and the count b is not 0
pub record Round (n : ℕ) (a : ℕ → ℤ) (d : ℕ) (w : ℕ → ℕ) (t b : ℕ) : Type 0 where
  pub smallest : Smallest n w (heavy a w t) t
  pub count : Least n a d (heavy a w t) b
  pub some : 0 < b

-- no count rule over literals of the core that follows from it, whatever the set and the count, gains more than g
abbrev pub NoneGainsMore : ℕ → (ℕ → ℤ) → ℕ → (ℕ → ℕ) → ℕ → Type 0
NoneGainsMore n a d w g = (y : ℕ → Bool) (s c : ℕ) → OfCore n a y → Smallest n w y s → CountFollows n a d y c → c * s ≤ g

-- the first round of greatest gain: the rounds go from the smallest weight up, those before it gain less, none gains more
pub record FirstGreatest (n : ℕ) (a : ℕ → ℤ) (d : ℕ) (w : ℕ → ℕ) (t b : ℕ) : Type 0 where
  pub round : Round n a d w t b
  pub before : (s c : ℕ) → Round n a d w s c → s < t → c * s < b * t
  pub greatest : (s c : ℕ) → Round n a d w s c → c * s ≤ b * t

-- what is known once all literals lighter than `from` are weakened: the same, of the rules whose smallest weight is below
-- `from`
pub record BestBelow (n : ℕ) (a : ℕ → ℤ) (d : ℕ) (w : ℕ → ℕ) (from t b : ℕ) : Type 0 where
  pub round : Round n a d w t b
  pub before : (s c : ℕ) → Round n a d w s c → s < t → c * s < b * t
  pub none_more : (y : ℕ → Bool) (s c : ℕ) → OfCore n a y → Smallest n w y s → CountFollows n a d y c → s < from → c * s ≤ b * t

-- no literal of the core is lighter than `from`
abbrev pub NoneLighter : ℕ → (ℕ → ℤ) → (ℕ → ℕ) → ℕ → Type 0
NoneLighter n a w from = (i : ℕ) → i < n → (size (a i) ≢ 0) → from ≤ w i
