-- Weakening and division.
use Prim.Native.Nat.{ℕ, zero, suc, ◌+◌, ◌-◌, ◌*◌, ◌≤◌, ◌<◌}
use mathlib.Core.Path.{◌≡◌, refl}
use mathlib.Core.Bool.{Bool, true, false, cond}
use native.Mathlib.Omega.{arith}
use native.Mathlib.Nat.{mul-add, div-lt_iff_lt-mul, lt-mul-div-succ, mul_comm}
use mathlib.Core.List.{[], ◌∷◌}
use lib.IntN.{ℤ, pos, negsuc}
use Rattle.rules.specs.Rule.{at, size, kept}
use Rattle.rules.specs.declared.Mark.{Mark}
use Rattle.rules.specs.declared.Mark.TheVariants.{Free, Zero, One}
use Rattle.rules.proofs.Sum.{total_le, total_add, total_times}
use Rattle.rules.proofs.Rule.{kept_le_size}
use Rattle.derive.specs.Derive.{weakened, dropped, rounded, divided, Weakening, Division, WorkedDivision}

kept_weakened : (p : Bool) (a : ℤ) (m : Mark) → kept a m ≤ kept (cond p (pos 0) a) m + cond p (size a) 0
kept_weakened true a m = omega (arith, kept_le_size a m)
kept_weakened false a m = omega arith

pub weakening : Weakening
weakening n a d p m f h =
    omega (
      arith,
      total_le n _ _ (λ i l. kept_weakened (p i) (a i) (m i)),
      total_add n (λ i. kept (weakened p a i) (m i)) (dropped p a),
    )

-- c times the rounded quotient is at least x, and it is the least such number
rounded_ge : (x c : ℕ) → 0 < c → x ≤ c * rounded c x
rounded_ge x c h = omega (arith, lt-mul-div-succ (x + (c - 1)) h, mul-add c (rounded c x) 1)

rounded_least : (x c y : ℕ) → 0 < c → x ≤ c * y → rounded c x ≤ y
rounded_least x c y h l =
    let below : rounded c x < suc y =
    (div-lt_iff_lt-mul {k = c} {x = x + (c - 1)} {y = suc y} h).1 (omega (arith, mul_comm (suc y) c, mul-add c y 1)) in
    omega arith

kept_divided : (c : ℕ) → 0 < c → (a : ℤ) (m : Mark) → kept a m ≤ c * kept (divided c a) m
kept_divided c h (pos x) Free = rounded_ge x c h
kept_divided c h (pos x) Zero = omega arith
kept_divided c h (pos x) One = rounded_ge x c h
kept_divided c h (negsuc x) Free = omega (arith, lt-mul-div-succ x h)
kept_divided c h (negsuc x) Zero = omega (arith, lt-mul-div-succ x h)
kept_divided c h (negsuc x) One = omega arith

pub division : Division
division n a d c h m f e =
    rounded_least d c _ h
    (omega (arith, total_le n _ _ (λ i l. kept_divided c h (a i) (m i)), total_times n c (λ i. kept (divided c (a i)) (m i))))

worked_each : (i : ℕ) → divided 3 (at (pos 3 ∷ pos 2 ∷ []) i) ≡ at (pos 1 ∷ pos 1 ∷ []) i
worked_each zero = refl
worked_each (suc zero) = refl
worked_each (suc (suc i)) = refl

pub worked_division : WorkedDivision
worked_division = record { coefficients = worked_each; degree = refl }
