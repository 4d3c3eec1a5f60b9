-- What weakening leaves of a rule.
use Rattle.std.proofs.Common.{◌≡◌, ℕ, ◌<◌, ◌≤◌, Bool, true, false, cond, not, List, ℤ, pos, negsuc, refl, ap, ◌∙◌, arith}
use Rattle.rules.specs.Sum.{total}
use Rattle.rules.specs.Rule.{size, kept, open_sum, Broken}
use Rattle.rules.specs.Terms.{only, coefficient}
use Rattle.rules.specs.declared.Mark.{Mark}
use Rattle.rules.specs.declared.Mark.TheVariants.{Free, Zero, One}
use Rattle.rules.specs.declared.term.Literal.{Literal}
use Rattle.rules.specs.declared.term.Rule.{Rule}
use Rattle.rules.proofs.Sum.{total_same}
use Rattle.derive.specs.Derive.{Follows, dropped}
use Rattle.derive.proofs.Derive.{weakening}
use Rattle.cores.specs.Cores.{is_false, loose, core_row, core_degree, sizes, RuleIs, CoreIs}

-- what is not false is what the marks leave open
open_at : (a : ℤ) (m : Mark) → kept a m ≡ cond (not (is_false a m)) (size a) 0
open_at (pos c) Free = refl
open_at (pos c) Zero = refl
open_at (pos c) One = refl
open_at (negsuc c) Free = refl
open_at (negsuc c) Zero = refl
open_at (negsuc c) One = refl

left_at : (b : Bool) (a : ℤ) → cond b a (pos 0) ≡ cond (not b) (pos 0) a
left_at true a = refl
left_at false a = refl

-- a rule with the same coefficients follows too
pub follows_same : (n : ℕ) (a b c : ℕ → ℤ) (d e : ℕ) → ((i : ℕ) → i < n → c i ≡ b i) → Follows n a d b e → Follows n a d c e
follows_same n a b c d e same f m full met =
    omega (arith, f m full met, total_same n (λ i. kept (c i) (m i)) (λ i. kept (b i) (m i)) (λ i l. ap (λ (z : ℤ). kept z (m i)) (same i l)))

module _ (r : Rule) (ls : List Literal) (marks : ℕ → Mark) (are : (i : ℕ) → i < 80 → marks i ≡ only ls i) where
  pub dropped_is : open_sum 80 (coefficient r) marks ≡ total (dropped (loose r ls) (coefficient r)) 80
  dropped_is = total_same 80 _ _ (λ i l. ap (kept (coefficient r i)) (are i l) ∙ open_at (coefficient r i) (only ls i))

  pub row_is : (i : ℕ) → i < 80 → cond (is_false (coefficient r i) (marks i)) (coefficient r i) (pos 0) ≡ core_row r ls i
  row_is i l =
      ap (λ (m : Mark). cond (is_false (coefficient r i) m) (coefficient r i) (pos 0)) (are i l) ∙ left_at (is_false (coefficient r i) (only ls i)) (coefficient r i)

pub sizes_same : (n : ℕ) (a b : ℕ → ℤ) → ((i : ℕ) → i < n → a i ≡ b i) → sizes n a ≡ sizes n b
sizes_same n a b h = total_same n _ _ (λ i l. ap size (h i l))

-- where the assumed literals break the rule, weakening leaves a degree
pub degree_left : (r : Rule) (ls : List Literal) → Broken 80 (coefficient r) r.degree (only ls) → 0 < core_degree r ls
degree_left r ls b = omega (arith, dropped_is r ls (only ls) (λ i l. refl))

pub core_is : (r : Rule) (ls : List Literal) (k : Rule) → RuleIs k (core_row r ls) (core_degree r ls) → core_degree r ls ≤ sizes 80 (core_row r ls) → CoreIs r ls k
core_is r ls k e h = record {
  is = e;
  can = omega (arith, e.degree, sizes_same 80 (coefficient k) (core_row r ls) e.row);
  follows = λ m full met.
      omega (arith, e.degree, follows_same 80 (coefficient r) (core_row r ls) (coefficient k) r.degree (core_degree r ls) e.row (weakening 80 (coefficient r) r.degree (loose r ls)) m full met);
  some = λ b. omega (arith, e.degree, degree_left r ls b);
}
