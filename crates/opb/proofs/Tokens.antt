-- Tokens as the reader's forms have them, and as the language has them, are the same.
use Rattle.std.proofs.Common.{◌≡◌, ℕ, ◌+◌, ◌<◌, ◌≤◌, Bool, true, false, cond, ltb, leb, List, [], ◌∷◌, length, get_or, ℤ, ◌≤ℤ◌, Ok, Err, Result, sym, refl, ap, ◌∙◌, subst, arith}
use lib.Signed.{le_z}
use Rattle.std.proofs.lemmas.Int.{ints}
use Rattle.std.proofs.lemmas.List.Edits.{between_none}
use Rattle.std.specs.List.{between}
use Rattle.faults.specs.declared.fault.TextFault.{TextFault}
use Rattle.faults.specs.declared.fault.TextFault.TheVariants.{Beyond}
use Rattle.faults.specs.declared.fault.SheetFault.{SheetFault}
use Rattle.faults.specs.declared.fault.SheetFault.TheVariants.{Text, Unknown}
use Rattle.forms.specs.Forms.{Outcome, got, bad, outcome, Then, goes, Loop, done, turn, Give, Lifted, well}
use Rattle.forms.proofs.Exactness.{apart}
use Rattle.text.specs.declared.reader.Class.TheVariants.{Digit, Blank}
use Rattle.text.specs.declared.reader.Limit.{Limit}
use Rattle.text.specs.declared.reader.Sign.{Sign}
use Rattle.text.specs.declared.reader.Sign.TheVariants as sign
use Rattle.text.specs.Bytes.{belongs, sees, stands, Run, spelling, signed}
use Rattle.text.specs.Tokens.{missing, passed, Byte, Bytes, whole, here, Spelt, Digits, some, minus, Minus, Number, Name, low, high, limited, Limited, Comment, Gap}
use Rattle.text.proofs.Shown.{between_cons, stands_is, stands_within}
use Rattle.lines.specs.Lines.{known, Part}
use Rattle.lines.proofs.Parts.{number_within}
use Rattle.opb.specs.Language.{SpeltAt, SignAt, unsigned, plus, negative, DigitsAt, NumberAt, NameAt, GapAt, blanks, comment}

-- fixed spellings
bytes_sound : (text : List ℕ) (start : ℕ) (bs : List ℕ) (from to : ℕ) → from ≤ length text → Bytes text start bs from (got tt to) → (to ≡ from + length bs) × (to ≤ length text) × (between from to text ≡ bs)
bytes_sound text start [] from to l (whole _) = (omega arith, l, between_none text from)
bytes_sound text start (b ∷ bs) from to l (here _ _ _ _ s h) =
    let i = stands_within text b from s in
    let w = bytes_sound text start bs (from + 1) to (omega arith) h in
    let e = w.0 in
    let n = w.1 in
    let q = stands_is text b from s in
    let v : get_or text from 0 ≡ b = grind arith in
    (omega arith, n, between_cons text from to (omega arith) n ∙ ap (λ (x : ℕ). x ∷ between (from + 1) to text) v ∙ ap (λ (xs : List ℕ). b ∷ xs) w.2)

bytes_complete : (text : List ℕ) (start : ℕ) (bs : List ℕ) (from to : ℕ) → to ≡ from + length bs → to ≤ length text → between from to text ≡ bs → Bytes text start bs from (got tt to)
bytes_complete text start [] from to e n h = let q : from ≡ to = omega arith in subst (λ (x : ℕ). Bytes text start [] from (got tt x)) q (whole from)
bytes_complete text start (b ∷ bs) from to e n h =
    let c = sym (between_cons text from to (omega arith) n) ∙ h in
    let v : get_or text from 0 ≡ b = cc in
    let t : between (from + 1) to text ≡ bs = cc in
    let i : from < length text = omega arith in
    here b bs from _ (grind arith) (bytes_complete text start bs (from + 1) to (omega arith) n t)

-- no spelling is empty
begins_within : (text : List ℕ) (s : Sign) (start from to : ℕ) → Bytes text start (spelling s) from (got tt to) → from ≤ length text
begins_within text sign.Variables start from to (here b _ _ _ s _) = omega (arith, stands_within text b from s)
begins_within text sign.Constraints start from to (here b _ _ _ s _) = omega (arith, stands_within text b from s)
begins_within text sign.Minimise start from to (here b _ _ _ s _) = omega (arith, stands_within text b from s)
begins_within text sign.AtLeast start from to (here b _ _ _ s _) = omega (arith, stands_within text b from s)
begins_within text sign.Equal start from to (here b _ _ _ s _) = omega (arith, stands_within text b from s)
begins_within text sign.End start from to (here b _ _ _ s _) = omega (arith, stands_within text b from s)

pub spelt_sound : (text : List ℕ) (s : Sign) (from to : ℕ) → Spelt text s from (got tt to) → SpeltAt text s from to
spelt_sound text s from to h =
    let w = bytes_sound text from (spelling s) from to (begins_within text s from from to h.begun) h.begun in
    record { end = w.0; inside = w.1; is = w.2 }

pub spelt_complete : (text : List ℕ) (s : Sign) (from to : ℕ) → SpeltAt text s from to → Spelt text s from (got tt to)
spelt_complete text s from to h = record { begun = bytes_complete text from (spelling s) from to h.end h.inside h.is }

-- signs
pub sign_sound : (text : List ℕ) (from first : ℕ) (m : Bool) → got m first ≡ minus text from → SignAt text from first m
sign_sound text from first m h = by (stands text 45 from) (stands text 43 from) refl refl h
  where
    by : (d e : Bool) → stands text 45 from ≡ d → stands text 43 from ≡ e → ◌≡◌ {A = Outcome Bool TextFault} (got m first) (cond d (got true (from + 1)) (cond e (got false (from + 1)) (got false from))) → SignAt text from first m
    by true e p q r = negative p (cc) (cc)
    by false true p q r = plus q (cc) (cc)
    by false false p q r = unsigned p q (cc) (cc)

plus_alone : (text : List ℕ) (i : ℕ) → stands text 43 i ≡ true → stands text 45 i ≡ false
plus_alone text i h = grind arith

pub sign_complete : (text : List ℕ) (from first : ℕ) (m : Bool) → SignAt text from first m → got m first ≡ minus text from
sign_complete text from first m (unsigned p q e f) = rw (p, q) (cc)
sign_complete text from first m (plus p e f) = let q = plus_alone text from p in rw (q, p) (cc)
sign_complete text from first m (negative p e f) = rw p (cc)

-- numbers
limits_sound : (l : Limit) (z : ℤ) → (le_z (low l) z ≡ true) × (le_z z (high l) ≡ true) → (low l ≤ℤ z) × (z ≤ℤ high l)
limits_sound l z h = let a = h.0 in let b = h.1 in (grind (arith, ints), grind (arith, ints))

limits_complete : (l : Limit) (z : ℤ) → low l ≤ℤ z → z ≤ℤ high l → (le_z (low l) z ≡ true) × (le_z z (high l) ≡ true)
limits_complete l z a b = (grind (arith, ints), grind (arith, ints))

number_parts : (text : List ℕ) (from to : ℕ) (z : ℤ) → Number text from (got z to) → (first : ℕ) × (m : Bool) × (d : ℕ) × SignAt text from first m × DigitsAt text first to d × (z ≡ signed m d)
number_parts text from to z h = by h.begun
  where
    by : Then (Minus text) (λ m. Then (Digits text from) (λ d. Give (Ok (signed m d)))) from (got z to) → (first : ℕ) × (m : Bool) × (d : ℕ) × SignAt text from first m × DigitsAt text first to d × (z ≡ signed m d)
    by (goes m first _ s (goes d mid _ (some _ _ lt run v) g)) =
        let e = g.is in
        let t : mid ≡ to = cc in
        let q : z ≡ signed m d = cc in
        (first, m, d, sign_sound text from first m s.is, subst (λ (i : ℕ). DigitsAt text first i d) t (record { some = lt; run = run; is = v }), q)

given_limit : (text : List ℕ) (l : Limit) (from to : ℕ) (z : ℤ) → Limited text l from (got z to) → Number text from (got z to)
given_limit text l from to z h = by h.begun
  where
    settled : (y : ℤ) (mid : ℕ) (a b : Bool) → le_z (low l) y ≡ a → le_z y (high l) ≡ b → Number text from (got y mid) → ◌≡◌ {A = Outcome ℤ TextFault} (got z to) (outcome (cond a (cond b (Ok y) (Err (Beyond from))) (Err (Beyond from))) mid) → Number text from (got z to)
    settled y mid true true p q n e =
        let s : y ≡ z = cc in
        let t : mid ≡ to = cc in
        subst (λ (i : ℕ). Number text from (got z i)) t (subst (λ (v : ℤ). Number text from (got v mid)) s n)
    settled y mid true false p q n e = apart z to (Beyond from) e
    settled y mid false b p q n e = apart z to (Beyond from) e

    by : Then (Number text) (λ y. Give (limited l from y)) from (got z to) → Number text from (got z to)
    by (goes y mid _ n g) = settled y mid (le_z (low l) y) (le_z y (high l)) refl refl n g.is

pub number_sound : (text : List ℕ) (l : Limit) (from to : ℕ) (z : ℤ) → Limited text l from (got z to) → NumberAt text l from to z
number_sound text l from to z h =
    let w = number_parts text from to z (given_limit text l from to z h) in
    let b = limits_sound l z (number_within text l from to z h) in
    record { first = w.0; minus = w.1; size = w.2; sign_at = w.3; digits = w.4; is = w.5; least = b.0; most = b.1 }

pub number_complete : (text : List ℕ) (l : Limit) (from to : ℕ) (z : ℤ) → NumberAt text l from to z → Limited text l from (got z to)
number_complete text l from to z h =
    let d = h.digits in
    let b = limits_complete l z h.least h.most in
    let n : Number text from (got z to) = record {
      begun = goes h.minus h.first _ (record { is = sign_complete text from h.first h.minus h.sign_at })
          (goes h.size to _ (some h.size to d.some d.run d.is) (record { is = ap (λ (v : ℤ). got v to) h.is }));
    } in
    record { begun = goes z to _ n (record { is = rw (b.0, b.1) refl }) }

-- names
known_is : (n start k to v : ℕ) (mid : ℕ) → ◌≡◌ {A = Outcome ℕ SheetFault} (got v to) (outcome (known n start k) mid) → (1 ≤ k) × (k ≤ n) × (k ≡ v) × (mid ≡ to)
known_is n start k to v mid h = by (ltb 0 k) (leb k n) refl refl h
  where
    by : (c d : Bool) → ltb 0 k ≡ c → leb k n ≡ d → ◌≡◌ {A = Outcome ℕ SheetFault} (got v to) (outcome (cond c (cond d (Ok k) (Err (Unknown start))) (Err (Unknown start))) mid) → (1 ≤ k) × (k ≤ n) × (k ≡ v) × (mid ≡ to)
    by true true p q r = (grind arith, grind arith, cc, cc)
    by true false p q r = apart v to (Unknown start) r
    by false d p q r = apart v to (Unknown start) r

is_known : (n start k : ℕ) → 1 ≤ k → k ≤ n → Ok k ≡ known n start k
is_known n start k a b = grind arith

pub byte_sound : (text : List ℕ) (b start from to : ℕ) → Byte text b start from (got tt to) → (stands text b from ≡ true) × (to ≡ from + 1)
byte_sound text b start from to h = by (stands text b from) refl h.is
  where
    by : (d : Bool) → stands text b from ≡ d → ◌≡◌ {A = Outcome (Unit {0}) TextFault} (got tt to) (cond d (got tt (from + 1)) (bad (missing text start from))) → (stands text b from ≡ true) × (to ≡ from + 1)
    by true p q = (p, cc)
    by false p q = apart tt to (missing text start from) q

pub byte_complete : (text : List ℕ) (b start from : ℕ) → stands text b from ≡ true → Byte text b start from (got tt (from + 1))
byte_complete text b start from h = record { is = rw h refl }

pub name_sound : (text : List ℕ) (n from to k : ℕ) → Part text n from (got k to) → NameAt text n from to k
name_sound text n from to k h = by h.begun
  where
    at : (mid v : ℕ) → Then (Byte text 120 from) (λ _. Digits text from) from (got v mid) → (stands text 120 from ≡ true) × DigitsAt text (from + 1) mid v
    at mid v (goes _ first _ b (some _ _ lt run e)) =
        let w = byte_sound text 120 from from first (b) in
        (w.0, subst (λ (i : ℕ). DigitsAt text i mid v) w.1 (record { some = lt; run = run; is = e }))

    by : Then (Lifted Text (Name text)) (λ v. Give (known n from v)) from (got k to) → NameAt text n from to k
    by (goes v mid _ (well _ _ m) g) =
        let w = known_is n from v to k mid g.is in
        let p = at mid v m.begun in
        let d = subst (λ (i : ℕ). DigitsAt text (from + 1) i v) w.3 p.1 in
        let e = w.2 in
        record { letter = p.0; digits = subst (λ (x : ℕ). DigitsAt text (from + 1) to x) e d; least = subst (λ (x : ℕ). 1 ≤ x) e w.0; most = subst (λ (x : ℕ). x ≤ n) e w.1 }

pub name_complete : (text : List ℕ) (n from to k : ℕ) → NameAt text n from to k → Part text n from (got k to)
name_complete text n from to k h =
    let d = h.digits in
    record {
      begun = goes k to _
          (well k to (record { begun = goes tt (from + 1) _ (byte_complete text 120 from from h.letter) (some k to d.some d.run d.is) }))
          (record { is = ap (λ (z : Result ℕ SheetFault). outcome z to) (is_known n from k h.least h.most) });
    }

-- gaps
comments_sound : (text : List ℕ) (start from to : ℕ) → Run Blank text start from → Loop (stands text 42) (Comment text) tt from (got tt to) → GapAt text start to
comments_sound text start from to r (done _ _ h) = blanks start from r h
comments_sound text start from to r (turn _ _ _ mid _ h (goes _ end _ (passed _ c) (passed _ b)) rest) = comment start from end to r h c (comments_sound text end mid to b rest)

pub gap_sound : (text : List ℕ) (from to : ℕ) → Gap text from (got tt to) → GapAt text from to
gap_sound text from to (goes _ mid _ (passed _ r) l) = comments_sound text from mid to r l

pub gap_complete : (text : List ℕ) (from to : ℕ) → GapAt text from to → Gap text from (got tt to)
gap_complete text from to (blanks _ _ r h) = goes tt to _ (passed to r) (done tt to h)
gap_complete text from to (comment _ star end _ r h c g) = goes tt star _ (passed star r) (again (gap_complete text end to g))
  where
    again : Gap text end (got tt to) → Loop (stands text 42) (Comment text) tt star (got tt to)
    again (goes _ mid _ b l) = turn tt tt star mid _ h (goes tt end _ (passed end c) b) l

-- how tokens begin
pub spelt_first : (text : List ℕ) (s : Sign) (b : ℕ) (bs : List ℕ) (from to : ℕ) → spelling s ≡ b ∷ bs → SpeltAt text s from to → stands text b from ≡ true
spelt_first text s b bs from to e h = by (subst (λ (xs : List ℕ). Bytes text from xs from (got tt to)) e (spelt_complete text s from to h).begun)
  where
    by : Bytes text from (b ∷ bs) from (got tt to) → stands text b from ≡ true
    by (here _ _ _ _ k _) = k

digit_range : (text : List ℕ) (i : ℕ) → sees text Digit i ≡ true → (i < length text) × (43 ≤ get_or text i 0) × (get_or text i 0 ≤ 57)
unfolding belongs
digit_range text i h = (grind arith, grind arith, grind arith)

sign_range : (text : List ℕ) (b i : ℕ) → 43 ≤ b → b ≤ 57 → stands text b i ≡ true → (i < length text) × (43 ≤ get_or text i 0) × (get_or text i 0 ≤ 57)
sign_range text b i l m h = (grind arith, grind arith, grind arith)

number_range : (text : List ℕ) (l : Limit) (from to : ℕ) (z : ℤ) → NumberAt text l from to z → (from < length text) × (43 ≤ get_or text from 0) × (get_or text from 0 ≤ 57)
number_range text l from to z h = by h.sign_at
  where
    by : SignAt text from h.first h.minus → (from < length text) × (43 ≤ get_or text from 0) × (get_or text from 0 ≤ 57)
    by (unsigned p q e f) =
        let d = h.digits in
        digit_range text from (d.run.all from (omega arith) (omega (arith, d.some)))
    by (plus p e f) = sign_range text 43 from (omega arith) (omega arith) p
    by (negative p e f) = sign_range text 45 from (omega arith) (omega arith) p

outside_range : (text : List ℕ) (b i : ℕ) → (i < length text) × (43 ≤ get_or text i 0) × (get_or text i 0 ≤ 57) → 57 < b → stands text b i ≡ false
outside_range text b i h l = let m = h.2 in grind arith

-- a number does not begin with this byte
pub number_not : (text : List ℕ) (l : Limit) (from to : ℕ) (z : ℤ) (b : ℕ) → NumberAt text l from to z → 57 < b → stands text b from ≡ false
number_not text l from to z b h p = outside_range text b from (number_range text l from to z h) p

pub number_inside : (text : List ℕ) (l : Limit) (from to : ℕ) (z : ℤ) → NumberAt text l from to z → from < length text
number_inside text l from to z h = (number_range text l from to z h).0
