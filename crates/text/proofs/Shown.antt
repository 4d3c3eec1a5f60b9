-- What the bytes that a token shows say.
use Rattle.std.proofs.Common.{◌≡◌, ℕ, suc, ◌+◌, ◌-◌, ◌<◌, ◌≤◌, Bool, true, false, cond, eqb, List, ◌∷◌, length, get_or, refl, arith}
use Rattle.std.specs.List.{between}
use Rattle.std.proofs.lemmas.List.{drop_more}
use Rattle.forms.specs.Forms.{Outcome, got}
use Rattle.faults.specs.declared.fault.TextFault.{TextFault}
use Rattle.text.specs.Bytes.{stands, decimal, signed, number_of, index_of}
use Rattle.text.specs.Tokens.{minus}

-- one byte, and the rest
pub between_cons : (text : List ℕ) (from to : ℕ) → from < to → to ≤ length text → between from to text ≡ get_or text from 0 ∷ between (from + 1) to text
between_cons text from to h l =
    let lt : from < length text = omega arith in
    let n : to - from ≡ suc (to - (from + 1)) = omega arith in
    rw (drop_more text from 0 lt) (rw n refl)

pub stands_is : (text : List ℕ) (b i : ℕ) → stands text b i ≡ true → eqb (get_or text i 0) b ≡ true
stands_is text b i h = grind arith

pub stands_not : (text : List ℕ) (b i : ℕ) → i < length text → stands text b i ≡ false → eqb (get_or text i 0) b ≡ false
stands_not text b i l h = grind arith

pub stands_within : (text : List ℕ) (b i : ℕ) → stands text b i ≡ true → i < length text
stands_within text b i h = grind arith

-- the sign, and the digits after it
pub number_shown : (text : List ℕ) (at first to : ℕ) (m : Bool) → got m first ≡ minus text at → first < to → to ≤ length text → number_of (between at to text) ≡ signed m (decimal (between first to text))
number_shown text at first to m h lt le = by (stands text 45 at) (stands text 43 at) refl refl h
  where
    by : (d e : Bool) → stands text 45 at ≡ d → stands text 43 at ≡ e → ◌≡◌ {A = Outcome Bool TextFault} (got m first) (cond d (got true (at + 1)) (cond e (got false (at + 1)) (got false at))) → number_of (between at to text) ≡ signed m (decimal (between first to text))
    by true e p q r =
        let a : m ≡ true = cc in
        let b : first ≡ at + 1 = cc in
        let k = stands_is text 45 at p in
        rw (between_cons text at to (omega arith) le) (rw (k, a, b) refl)
    by false true p q r =
        let a : m ≡ false = cc in
        let b : first ≡ at + 1 = cc in
        let j = stands_not text 45 at (stands_within text 43 at q) p in
        let k = stands_is text 43 at q in
        rw (between_cons text at to (omega arith) le) (rw (j, k, a, b) refl)
    by false false p q r =
        let a : m ≡ false = cc in
        let b : first ≡ at = cc in
        let l : at < length text = omega arith in
        let j = stands_not text 45 at l p in
        let k = stands_not text 43 at l q in
        rw (a, b) (rw (between_cons text at to (omega arith) le) (rw (j, k) refl))

pub name_shown : (text : List ℕ) (at to : ℕ) → at < to → to ≤ length text → index_of (between at to text) ≡ decimal (between (at + 1) to text)
name_shown text at to lt le = rw (between_cons text at to lt le) refl
