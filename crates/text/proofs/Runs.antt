-- Runs of bytes: there is one from each place, and only one.
use Rattle.std.proofs.Common.{◌≡◌, ℕ, zero, suc, ◌+◌, ◌-◌, ◌<◌, ◌≤◌, Bool, true, false, ltb, List, length, refl, subst, arith}
use Rattle.forms.proofs.Exactness.{both}
use Rattle.text.specs.declared.reader.Class.{Class}
use Rattle.text.specs.Bytes.{sees, Run}

pub empty : (c : Class) (text : List ℕ) (from end : ℕ) → Run c text from end → end ≤ from → sees text c from ≡ false
empty c text from end r h =
    let e : end ≡ from = omega (arith, r.forward) in
    subst (λ (x : ℕ). sees text c x ≡ false) e r.stops

not_less : (c : Class) (text : List ℕ) (from end end' : ℕ) → Run c text from end → Run c text from end' → end < end' → ⊥
not_less c text from end end' r r' h = both _ (r'.all end r.forward h) r.stops

pub run_unique : (c : Class) (text : List ℕ) (from end end' : ℕ) → Run c text from end → Run c text from end' → end ≡ end'
run_unique c text from end end' r r' =
    let p = not_less c text from end end' r r' in
    let q = not_less c text from end' end r' r in
    omega arith

-- a run begins with a byte of its class, unless it is empty
pub run_begins : (c : Class) (text : List ℕ) (from end : ℕ) → Run c text from end → sees text c from ≡ true → from < end
run_begins c text from end r h = by (ltb from end) refl
  where
    by : (b : Bool) → ltb from end ≡ b → from < end
    by true p = grind arith
    by false p =
        let f = r.forward in
        let q : end ≡ from = grind arith in
        both _ h (subst (λ (i : ℕ). sees text c i ≡ false) q r.stops)

seen_within : (text : List ℕ) (c : Class) (i : ℕ) → sees text c i ≡ true → i < length text
seen_within text c i h = grind arith

-- one byte more in front
longer : (text : List ℕ) (c : Class) (from : ℕ) → from ≤ length text → (b : Bool) → sees text c from ≡ b → (from < length text → (end : ℕ) × Run c text (from + 1) end) → (end : ℕ) × Run c text from end
longer text c from le false e k = (from, record { forward = omega arith; within = le; all = λ i h l. absurd (omega arith); stops = e })
longer text c from le true e k =
    let w = k (seen_within text c from e) in
    let r = w.1 in
    let f = r.forward in
    (w.0, record { forward = omega arith; within = r.within; all = λ i h l. at w.0 r i h l; stops = r.stops })
  where
    at : (end : ℕ) → Run c text (from + 1) end → (i : ℕ) → from ≤ i → i < end → sees text c i ≡ true
    at end r i h l = by_place (ltb from i) refl
      where
        by_place : (b : Bool) → ltb from i ≡ b → sees text c i ≡ true
        by_place true p = r.all i (grind arith) l
        by_place false p = let q : from ≡ i = grind arith in subst (λ (j : ℕ). sees text c j ≡ true) q e

run_within : (text : List ℕ) (c : Class) (fuel from : ℕ) → from ≤ length text → length text - from < fuel → (end : ℕ) × Run c text from end
run_within text c zero from le h = absurd (omega arith)
run_within text c (suc fuel) from le h = longer text c from le (sees text c from) refl (λ l. run_within text c fuel (from + 1) (omega arith) (omega arith))

pub run_some : (text : List ℕ) (c : Class) (from : ℕ) → from ≤ length text → (end : ℕ) × Run c text from end
run_some text c from le = run_within text c (suc (length text - from)) from le (omega arith)
