-- What stands in a text that is written out: each fact is a computed test.
use Rattle.std.proofs.Common.{◌≡◌, ℕ, zero, suc, ◌+◌, ◌<◌, ◌≤◌, Bool, true, false, cond, ltb, List, length, ℤ, pos, neg_ℤ, ◌≤ℤ◌, refl, subst, arith}
use lib.Signed.{le_z}
use Rattle.std.proofs.lemmas.Int.{ints}
use Rattle.std.specs.List.{between}
use Rattle.forms.proofs.Exactness.{both}
use Rattle.text.specs.declared.reader.Class.{Class}
use Rattle.text.specs.declared.reader.Class.TheVariants.{Digit}
use Rattle.text.specs.declared.reader.Limit.{Limit}
use Rattle.text.specs.declared.reader.Sign.{Sign}
use Rattle.text.specs.Bytes.{sees, stands, Run, spelling, decimal}
use Rattle.text.specs.Tokens.{low, high}
use Rattle.opb.specs.Language.{SpeltAt, unsigned, negative, DigitsAt, NumberAt, NameAt}

-- n bytes of the class stand from `from` on
abbrev pub all_sees : List ℕ → Class → ℕ → ℕ → Bool
all_sees text c from zero = true
all_sees text c from (suc n) = cond (sees text c (from + n)) (all_sees text c from n) false

all_seen : (text : List ℕ) (c : Class) (from n : ℕ) → all_sees text c from n ≡ true → (i : ℕ) → from ≤ i → i < from + n → sees text c i ≡ true
all_seen text c from zero h i a b = absurd (omega arith)
all_seen text c from (suc n) h i a b = by (λ k. all_seen text c from n k) (sees text c (from + n)) refl h
  where
    at : (d : Bool) → ltb i (from + n) ≡ d → sees text c (from + n) ≡ true → all_sees text c from n ≡ true → ((j : ℕ) → from ≤ j → j < from + n → sees text c j ≡ true) → sees text c i ≡ true
    at true e s k f = f i a (grind arith)
    at false e s k f = let q : from + n ≡ i = grind arith in subst (λ (j : ℕ). sees text c j ≡ true) q s

    by : (all_sees text c from n ≡ true → (j : ℕ) → from ≤ j → j < from + n → sees text c j ≡ true) → (s : Bool) → sees text c (from + n) ≡ s → cond s (all_sees text c from n) false ≡ true → sees text c i ≡ true
    by f true e k = at (ltb i (from + n)) refl e k (f k)
    by f false e k = both false k refl

pub run_of : (text : List ℕ) (c : Class) (from n : ℕ) → all_sees text c from n ≡ true → sees text c (from + n) ≡ false → from + n ≤ length text → Run c text from (from + n)
run_of text c from n h e l = record { forward = omega arith; within = l; all = all_seen text c from n h; stops = e }

digits_of : (text : List ℕ) (from n v : ℕ) → 0 < n → all_sees text Digit from n ≡ true → sees text Digit (from + n) ≡ false → from + n ≤ length text → v ≡ decimal (between from (from + n) text) → DigitsAt text from (from + n) v
digits_of text from n v p h e l d = record { some = omega arith; run = run_of text Digit from n h e l; is = d }

bounded : (l : Limit) (z : ℤ) → le_z (low l) z ≡ true → le_z z (high l) ≡ true → (low l ≤ℤ z) × (z ≤ℤ high l)
bounded l z a b = (grind (arith, ints), grind (arith, ints))

pub plain : (text : List ℕ) (l : Limit) (from n v : ℕ) → stands text 45 from ≡ false → stands text 43 from ≡ false → 0 < n → all_sees text Digit from n ≡ true → sees text Digit (from + n) ≡ false → from + n ≤ length text → v ≡ decimal (between from (from + n) text) → le_z (low l) (pos v) ≡ true → le_z (pos v) (high l) ≡ true → NumberAt text l from (from + n) (pos v)
plain text l from n v a b p h e i d x y =
    let w = bounded l (pos v) x y in
    record { first = from; minus = false; size = v; sign_at = unsigned a b refl refl; digits = digits_of text from n v p h e i d; is = refl; least = w.0; most = w.1 }

pub below_nought : (text : List ℕ) (l : Limit) (from n v : ℕ) → stands text 45 from ≡ true → 0 < n → all_sees text Digit (from + 1) n ≡ true → sees text Digit (from + 1 + n) ≡ false → from + 1 + n ≤ length text → v ≡ decimal (between (from + 1) (from + 1 + n) text) → le_z (low l) (neg_ℤ (pos v)) ≡ true → le_z (neg_ℤ (pos v)) (high l) ≡ true → NumberAt text l from (from + 1 + n) (neg_ℤ (pos v))
below_nought text l from n v a p h e i d x y =
    let w = bounded l (neg_ℤ (pos v)) x y in
    record { first = from + 1; minus = true; size = v; sign_at = negative a refl refl; digits = digits_of text (from + 1) n v p h e i d; is = refl; least = w.0; most = w.1 }

pub name_of : (text : List ℕ) (p from n k : ℕ) → stands text 120 from ≡ true → 0 < n → all_sees text Digit (from + 1) n ≡ true → sees text Digit (from + 1 + n) ≡ false → from + 1 + n ≤ length text → k ≡ decimal (between (from + 1) (from + 1 + n) text) → 1 ≤ k → k ≤ p → NameAt text p from (from + 1 + n) k
name_of text p from n k a q h e i d x y = record { letter = a; digits = digits_of text (from + 1) n k q h e i d; least = x; most = y }

pub spelt_of : (text : List ℕ) (s : Sign) (from : ℕ) → between from (from + length (spelling s)) text ≡ spelling s → from + length (spelling s) ≤ length text → SpeltAt text s from (from + length (spelling s))
spelt_of text s from h l = record { end = refl; inside = l; is = h }
