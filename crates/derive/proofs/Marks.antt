-- More marks leave a term less to give.
use Prim.Native.Nat.{ℕ, ◌+◌, ◌≤◌, ◌<◌}
use mathlib.Core.Path.{◌≡◌, refl}
use native.Mathlib.Omega.{arith}
use lib.IntN.{ℤ, pos, negsuc}
use Rattle.rules.specs.Rule.{size, kept, open_sum}
use Rattle.rules.specs.declared.Mark.{Mark}
use Rattle.rules.specs.declared.Mark.TheVariants.{Free, Zero, One}
use Rattle.rules.proofs.Sum.{total_le, total_le_but}
use Rattle.rules.proofs.Rule.{kept_le_size}
use Rattle.derive.specs.Derive.{Keeps, Extends, true_mark, MarksRefute, ForcesLiteral}

pub kept_free : (a : ℤ) → kept a Free ≡ size a
kept_free (pos c) = refl
kept_free (negsuc c) = refl

pub kept_less : (a : ℤ) (m s : Mark) → Keeps m s → kept a s ≤ kept a m
kept_less a Free s k = rw (kept_free a) (kept_le_size a s)
kept_less a Zero s k = rw k (omega arith)
kept_less a One s k = rw k (omega arith)

pub open_less : (n : ℕ) (a : ℕ → ℤ) (m s : ℕ → Mark) → Extends m s → open_sum n a s ≤ open_sum n a m
open_less n a m s e = total_le n _ _ (λ i l. kept_less (a i) (m i) (s i) (e i))

pub marks_refute : MarksRefute
marks_refute = record {
  stays = λ n a d m s e b. omega (arith, open_less n a m s e);
  unmet = λ n a d m s e b h. omega (arith, open_less n a m s e);
}

-- a marked literal that gives anything is true
gives_true : (a : ℤ) (m : Mark) → (m ≡ Free → ⊥) → 0 < kept a m → m ≡ true_mark a
gives_true a Free f g = absurd (f refl)
gives_true (pos c) Zero f g = absurd (omega arith)
gives_true (pos c) One f g = refl
gives_true (negsuc c) Zero f g = refl
gives_true (negsuc c) One f g = absurd (omega arith)

pub forces_literal : ForcesLiteral
forces_literal n a d m s t f e full h =
    let le : open_sum n a s + kept (a t) (m t) ≤ open_sum n a m + kept (a t) (s t) =
    total_le_but n _ _ t f.below (λ i l q. kept_less (a i) (m i) (s i) (e i)) in
    let free : kept (a t) (m t) ≡ size (a t) = rw f.unmarked (kept_free (a t)) in
    gives_true (a t) (s t) (full t f.below) (omega (arith, f.short))
