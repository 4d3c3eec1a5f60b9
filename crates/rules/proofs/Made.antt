-- What an array holds that is made from its places.
use Rattle.std.proofs.Common.{◌≡◌, ℕ, zero, suc, ◌+◌, ◌<◌, ◌≤◌, List, slice_index_or, refl, ◌∙◌, inl, inr, subst, eq-or-lt_of_le, arith}
use Rattle.std.specs.Array.{IsFromFnResult, IsFromFnResultFrom}
use denote.Param.Members.{Mut, Called}

module _ {F B : Type 0} (g : Mut F (ℕ × Unit {0}) B) (f : F) (h : ℕ → B) (ys : List B) (d : B) where
  from_place : (t : F) (i n : ℕ) → t ≡ f → ((k : ℕ) (y : B) (q : F) → k < i + n → Called g f (k, tt) y q → (q ≡ f) × (y ≡ h k)) → IsFromFnResultFrom g t ys i n → (k : ℕ) → i ≤ k → k < i + n → slice_index_or ys k d ≡ h k
  from_place t i zero e w r k low high = absurd (omega arith)
  from_place t i (suc n) e w (q, y, here, call, rest) k low high =
      let gave : (q ≡ f) × (y ≡ h i) = w i y q (omega arith) (subst (λ (x : F). Called g x (i, tt) y q) e call) in
      elim (eq-or-lt_of_le low) [
        | inl same ↦ subst (λ j. slice_index_or ys j d ≡ h j) same (here.1 d ∙ gave.1)
        | inr more ↦ from_place q (i + 1) n gave.0 (λ j x p l. w j x p (omega arith)) rest k (omega arith) (omega arith)
      ]

  -- each element is what the function makes of its place, where no call changes what it captured
  pub made : (n : ℕ) → IsFromFnResult g f ys n → ((k : ℕ) (y : B) (q : F) → k < n → Called g f (k, tt) y q → (q ≡ f) × (y ≡ h k)) → (k : ℕ) → k < n → slice_index_or ys k d ≡ h k
  made n r w k l = from_place f 0 n refl (λ j x p m. w j x p (omega arith)) r.each k (omega arith) (omega arith)
