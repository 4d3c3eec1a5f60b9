-- The least number that reaches a degree, and the count rules that follow from a core.
use Rattle.std.proofs.Common.{◌≡◌, ℕ, zero, suc, ◌+◌, ◌*◌, ◌<◌, ◌≤◌, Bool, true, false, cond, ℤ, pos, negsuc, sym, refl, ◌∙◌, mul-add, arith}
use native.Mathlib.Nat.{lt_of_mul-lt-mul_left}
use Rattle.rules.specs.Sum.{total}
use Rattle.rules.specs.Rule.{size, kept, Full, open_sum, Met}
use Rattle.rules.specs.declared.Mark.{Mark}
use Rattle.rules.specs.declared.Mark.TheVariants.{Free, Zero, One}
use Rattle.rules.proofs.Sum.{total_le, total_add, total_times}
use Rattle.rules.proofs.Rule.{kept_le_size}
use Rattle.derive.specs.Derive.{true_mark}
use Rattle.counting.specs.Counting.{number_in, Reaches, Least, unit_of, count_row, CountFollows, ChosenGreatestFirst, GreatestFirst, CountLaw}

pub clash : {P : Type 0} (b : Bool) → b ≡ true → b ≡ false → P
clash b t f = let z : ◌≡◌ {A = ℕ} 0 1 = let w : true ≡ false = sym t ∙ f in cc in absurd (omega arith)

-- ---- greatest first
-- at one place: what q takes more than p is at most `last`, what it takes less is at least that
fewer_at : (last x : ℕ) (y p q : Bool) → (p ≡ true → last ≤ x) → (y ≡ true → p ≡ false → x ≤ last) → (y ≡ false → q ≡ false)
    → cond q x 0 + last * cond p 1 0 ≤ cond p x 0 + last * cond q 1 0
fewer_at last x y true true t l w = omega arith
fewer_at last x y true false t l w = omega (arith, t refl)
fewer_at last x true false true t l w = omega (arith, l refl refl)
fewer_at last x false false true t l w = clash true refl (w refl)
fewer_at last x y false false t l w = omega arith

module _ (n : ℕ) (a : ℕ → ℤ) (d : ℕ) (y p : ℕ → Bool) (last : ℕ) (g : ChosenGreatestFirst n a d y p last) where
  no_fewer : (q : ℕ → Bool) → Reaches n a d y q → number_in n p ≤ number_in n q
  no_fewer q r =
      let each : total (λ i. cond (q i) (size (a i)) 0 + last * cond (p i) 1 0) n ≤ total (λ i. cond (p i) (size (a i)) 0 + last * cond (q i) 1 0) n =
      total_le n _ _ (λ i l. fewer_at last (size (a i)) (y i) (p i) (q i) (g.taken i l) (g.left i l) (r.within i l)) in
      let less : number_in n p < suc (number_in n q) =
      lt_of_mul-lt-mul_left last (omega (
        arith,
        g.tight,
        r.enough,
        total_add n (λ i. cond (q i) (size (a i)) 0) (λ i. last * cond (p i) 1 0),
        total_times n last (λ i. cond (p i) 1 0),
        total_add n (λ i. cond (p i) (size (a i)) 0) (λ i. last * cond (q i) 1 0),
        total_times n last (λ i. cond (q i) 1 0),
        mul-add last (number_in n q) 1,
      )) in
      omega arith

pub greatest_first : GreatestFirst
greatest_first n a d y p last g =
    record { choice = p; reaches = g.reaches; number = refl; no_fewer = no_fewer n a d y p last g }

-- ---- no more than b: everything outside y true, and of y what the choice takes
abbrev opposite : ℤ → Mark
opposite (pos c) = Zero
opposite (negsuc c) = One

abbrev marking : (y p : ℕ → Bool) (a : ℕ → ℤ) → ℕ → Mark
marking y p a i = cond (y i) (cond (p i) (true_mark (a i)) (opposite (a i))) (true_mark (a i))

kept_true : (a : ℤ) → kept a (true_mark a) ≡ size a
kept_true (pos c) = refl
kept_true (negsuc c) = refl

marked_at : (a : ℤ) → (true_mark a ≡ Free → ⊥) × (opposite a ≡ Free → ⊥)
marked_at (pos c) = ((λ e. let z : ◌≡◌ {A = ℕ} 0 1 = cc in omega arith), (λ e. let z : ◌≡◌ {A = ℕ} 0 1 = cc in omega arith))
marked_at (negsuc c) = ((λ e. let z : ◌≡◌ {A = ℕ} 0 1 = cc in omega arith), (λ e. let z : ◌≡◌ {A = ℕ} 0 1 = cc in omega arith))

full_at : (a : ℤ) (y p : Bool) → cond y (cond p (true_mark a) (opposite a)) (true_mark a) ≡ Free → ⊥
full_at a true true e = (marked_at a).0 e
full_at a true false e = (marked_at a).1 e
full_at a false p e = (marked_at a).0 e

meets_at : (a : ℤ) (y p : Bool) → (y ≡ false → p ≡ false)
    → cond y 0 (size a) + cond p (size a) 0 ≤ kept a (cond y (cond p (true_mark a) (opposite a)) (true_mark a))
meets_at a true true w = omega (arith, kept_true a)
meets_at a true false w = omega arith
meets_at a false true w = clash true refl (w refl)
meets_at a false false w = omega (arith, kept_true a)

unit_at : (a : ℤ) → (kept (unit_of a) (true_mark a) ≤ 1) × (kept (unit_of a) (opposite a) ≡ 0)
unit_at (pos zero) = (omega arith, omega arith)
unit_at (pos (suc x)) = (omega arith, omega arith)
unit_at (negsuc x) = (omega arith, omega arith)

pub kept_none : (m : Mark) → kept (pos 0) m ≡ 0
kept_none Free = refl
kept_none Zero = refl
kept_none One = refl

counted_at : (a : ℤ) (y p : Bool)
    → kept (cond y (unit_of a) (pos 0)) (cond y (cond p (true_mark a) (opposite a)) (true_mark a)) ≤ cond p 1 0
counted_at a true true = (unit_at a).0
counted_at a true false = omega (arith, (unit_at a).1)
counted_at a false p = omega (arith, kept_none (true_mark a))

count_no_more : (n : ℕ) (a : ℕ → ℤ) (d : ℕ) (y : ℕ → Bool) (b c : ℕ) → Least n a d y b → CountFollows n a d y c → c ≤ b
count_no_more n a d y b c l h =
    let p = l.choice in
    let m = marking y p a in
    let full : Full n m = λ i k. full_at (a i) (y i) (p i) in
    let met : Met n a d m =
    omega (
      arith,
      l.reaches.enough,
      total_le n (λ i. cond (y i) 0 (size (a i)) + cond (p i) (size (a i)) 0) (λ i. kept (a i) (m i))
          (λ i k. meets_at (a i) (y i) (p i) (l.reaches.within i k)),
      total_add n (λ i. cond (y i) 0 (size (a i))) (λ i. cond (p i) (size (a i)) 0),
    ) in
    let few : open_sum n (count_row y a) m ≤ number_in n p = total_le n _ _ (λ i k. counted_at (a i) (y i) (p i)) in
    omega (arith, h m full met, l.number)

-- ---- up to b: the literals of y that are true reach the degree
-- a term's literal is true, and its coefficient is not 0
abbrev gives : ℤ → Mark → Bool
gives (pos zero) m = false
gives (pos (suc c)) Free = true
gives (pos (suc c)) Zero = false
gives (pos (suc c)) One = true
gives (negsuc c) Free = true
gives (negsuc c) Zero = true
gives (negsuc c) One = false

given_at : (a : ℤ) (m : Mark) → (kept a m ≤ cond (gives a m) (size a) 0) × (cond (gives a m) 1 0 ≤ kept (unit_of a) m)
given_at (pos zero) m = (omega (arith, kept_none m), omega arith)
given_at (pos (suc c)) Free = (omega arith, omega arith)
given_at (pos (suc c)) Zero = (omega arith, omega arith)
given_at (pos (suc c)) One = (omega arith, omega arith)
given_at (negsuc c) Free = (omega arith, omega arith)
given_at (negsuc c) Zero = (omega arith, omega arith)
given_at (negsuc c) One = (omega arith, omega arith)

abbrev true_of : (y : ℕ → Bool) (a : ℕ → ℤ) (m : ℕ → Mark) → ℕ → Bool
true_of y a m i = cond (y i) (gives (a i) (m i)) false

enough_at : (a : ℤ) (m : Mark) (y : Bool) → kept a m ≤ cond y 0 (size a) + cond (cond y (gives a m) false) (size a) 0
enough_at a m true = omega (arith, (given_at a m).0)
enough_at a m false = omega (arith, kept_le_size a m)

units_at : (a : ℤ) (m : Mark) (y : Bool) → cond (cond y (gives a m) false) 1 0 ≤ kept (cond y (unit_of a) (pos 0)) m
units_at a m true = (given_at a m).1
units_at a m false = omega arith

outside_at : (y b : Bool) → y ≡ false → cond y b false ≡ false
outside_at true b e = clash true refl e
outside_at false b e = refl

count_upto : (n : ℕ) (a : ℕ → ℤ) (d : ℕ) (y : ℕ → Bool) (b c : ℕ) → Least n a d y b → c ≤ b → CountFollows n a d y c
count_upto n a d y b c l le m full h =
    let q = true_of y a m in
    let r : Reaches n a d y q = record {
      within = λ i k e. outside_at (y i) (gives (a i) (m i)) e;
      enough = omega (
        arith,
        total_le n (λ i. kept (a i) (m i)) (λ i. cond (y i) 0 (size (a i)) + cond (q i) (size (a i)) 0)
            (λ i k. enough_at (a i) (m i) (y i)),
        total_add n (λ i. cond (y i) 0 (size (a i))) (λ i. cond (q i) (size (a i)) 0),
      );
    } in
    let most : number_in n q ≤ open_sum n (count_row y a) m = total_le n _ _ (λ i k. units_at (a i) (m i) (y i)) in
    omega (arith, l.no_fewer q r)

pub count_law : CountLaw
count_law = record { upto = count_upto; no_more = count_no_more }
