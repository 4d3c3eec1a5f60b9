-- The core of a rule under assumed literals: what is left when every literal that is not assumed false is weakened.
use Rattle.std.specs.Prelude.{◌≡◌, ℕ, ◌<◌, ◌≤◌, Bool, true, false, not, List, ℤ, pos, negsuc, Result, Ok, Err}
use Rattle.rules.specs.Sum.{total}
use Rattle.rules.specs.Rule.{size, Broken}
use Rattle.rules.specs.Terms.{only, coefficient}
use Rattle.rules.specs.declared.Mark.{Mark}
use Rattle.rules.specs.declared.Mark.TheVariants.{Free, Zero, One}
use Rattle.rules.specs.declared.term.Literal.{Literal}
use Rattle.rules.specs.declared.term.Rule.{Rule}
use Rattle.derive.specs.Derive.{Follows, weakened, weakened_degree}
use Rattle.cores.specs.declared.core_of.CannotBeMet.{CannotBeMet}

-- the literal of a coefficient is false under a mark of its variable
abbrev pub is_false : ℤ → Mark → Bool
is_false (pos c) Free = false
is_false (pos c) Zero = true
is_false (pos c) One = false
is_false (negsuc c) Free = false
is_false (negsuc c) Zero = false
is_false (negsuc c) One = true

-- the literals of a rule that are not assumed false
abbrev pub loose : Rule → List Literal → ℕ → Bool
loose r ls i = not (is_false (coefficient r i) (only ls i))

-- the core: these weakened
abbrev pub core_row : Rule → List Literal → ℕ → ℤ
core_row r ls = weakened (loose r ls) (coefficient r)

abbrev pub core_degree : Rule → List Literal → ℕ
core_degree r ls = weakened_degree 80 (loose r ls) (coefficient r) r.degree

-- all coefficients of a row over n variables together
abbrev pub sizes : ℕ → (ℕ → ℤ) → ℕ
sizes n a = total (λ i. size (a i)) n

-- the degree can be reached: all literals true do it
abbrev pub CanBeMet : Rule → Type 0
CanBeMet r = r.degree ≤ sizes 80 (coefficient r)

-- a rule has these coefficients and this degree
pub record RuleIs (r : Rule) (a : ℕ → ℤ) (d : ℕ) : Type 0 where
  pub row : (i : ℕ) → i < 80 → coefficient r i ≡ a i
  pub degree : r.degree ≡ d

-- k is the core of r under the literals ls: it can be met, it follows from r, and where these literals break r its degree is
-- not 0
pub record CoreIs (r : Rule) (ls : List Literal) (k : Rule) : Type 0 where
  pub is : RuleIs k (core_row r ls) (core_degree r ls)
  pub can : CanBeMet k
  pub follows : Follows 80 (coefficient r) r.degree (coefficient k) k.degree
  pub some : Broken 80 (coefficient r) r.degree (only ls) → 0 < k.degree

-- what comes of a rule: its core, or that its core cannot be met
abbrev pub CoreOf : Rule → List Literal → Result Rule CannotBeMet → Type 0
CoreOf r ls (Ok k) = CoreIs r ls k
CoreOf r ls (Err _) = sizes 80 (core_row r ls) < core_degree r ls
