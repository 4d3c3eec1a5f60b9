-- The literals from a weight on have the greatest gain.
use Rattle.std.proofs.Common.{◌≡◌, ℕ, ◌*◌, ◌<◌, ◌≤◌, Bool, true, false, cond, not, eqb, ltb, ℤ, pos, sym, refl, mul-le-mul_right, arith, ltb-false, ltb-true, ne_eqb}
use Rattle.rules.specs.Rule.{size, kept}
use Rattle.rules.specs.declared.Mark.{Mark}
use Rattle.rules.proofs.Sum.{total_le}
use Rattle.counting.specs.Counting.{unit_of, count_row, Least, CountFollows}
use Rattle.counting.specs.Gain.{OfCore, Smallest, heavy, HeavySuffices}
use Rattle.counting.proofs.Counting.{clash, kept_none, count_law}

-- what is heavy weighs t or more, and what is of the core and weighs that is heavy
heavy_weighs : (w t : ℕ) (z l : Bool) → ltb w t ≡ l → cond z false (not l) ≡ true → t ≤ w
heavy_weighs w t true l e h = clash true refl (sym h)
heavy_weighs w t false true e h = clash true refl (sym h)
heavy_weighs w t false false e h = omega (arith, ltb-false)

weighs_heavy : (w t : ℕ) (z l : Bool) → ltb w t ≡ l → z ≡ false → t ≤ w → cond z false (not l) ≡ true
weighs_heavy w t true l e f h = clash true refl f
weighs_heavy w t false true e f h = absurd (omega (arith, ltb-true))
weighs_heavy w t false false e f h = refl

-- a greater set counts no less
more_at : (y h : Bool) (u : ℤ) (m : Mark) → (y ≡ true → h ≡ true) → kept (cond y u (pos 0)) m ≤ kept (cond h u (pos 0)) m
more_at true true u m i = omega arith
more_at true false u m i = clash true refl (sym (i refl))
more_at false h u m i = omega (arith, kept_none m)

pub follows_wider : (n : ℕ) (a : ℕ → ℤ) (d : ℕ) (y z : ℕ → Bool) (c : ℕ) → ((i : ℕ) → i < n → y i ≡ true → z i ≡ true)
    → CountFollows n a d y c → CountFollows n a d z c
follows_wider n a d y z c wider h m full met =
    omega (
      arith,
      h m full met,
      total_le n (λ i. kept (count_row y a i) (m i)) (λ i. kept (count_row z a i) (m i)) (λ i l. more_at (y i) (z i) (unit_of (a i)) (m i) (wider i l)),
    )

module _ (n : ℕ) (a : ℕ → ℤ) (w : ℕ → ℕ) (y : ℕ → Bool) (t : ℕ) (o : OfCore n a y) (s : Smallest n w y t) where
  members_heavy : (i : ℕ) → i < n → y i ≡ true → heavy a w t i ≡ true
  members_heavy i l e = weighs_heavy (w i) t (eqb (size (a i)) 0) (ltb (w i) t) refl (ne_eqb (size (a i)) 0 (o i l e)) (s.no_less i l e)

  heavy_smallest : Smallest n w (heavy a w t) t
  heavy_smallest = record {
    place = s.place;
    below = s.below;
    member = members_heavy s.place s.below s.member;
    weighs = s.weighs;
    no_less = λ i l e. heavy_weighs (w i) t (eqb (size (a i)) 0) (ltb (w i) t) refl e;
  }

  heavy_follows : (d c : ℕ) → CountFollows n a d y c → CountFollows n a d (heavy a w t) c
  heavy_follows d c h = follows_wider n a d y (heavy a w t) c members_heavy h

  heavy_gain : (d c b : ℕ) → CountFollows n a d y c → Least n a d (heavy a w t) b → c * t ≤ b * t
  heavy_gain d c b h l = mul-le-mul_right t (count_law.no_more n a d (heavy a w t) b c l (heavy_follows d c h))

pub heavy_suffices : HeavySuffices
heavy_suffices = record {
  smallest = heavy_smallest;
  follows = λ n a d w y t c o s. heavy_follows n a w y t o s d c;
  gain = λ n a d w y t c b o s. heavy_gain n a w y t o s d c b;
}
