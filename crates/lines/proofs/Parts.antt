-- The tests of the code are those of the forms.
use Rattle.std.proofs.Common.{◌≡◌, ℕ, ◌<◌, ◌≤◌, min, Bool, true, false, cond, ltb, leb, List, ℤ, nat_abs, Ok, Err, Result, refl, ap, ◌∙◌, subst, arith, w32, SFits, to_z, of_z}
use lib.Signed.{le_z}
use Rattle.std.proofs.lemmas.Int.{ints, to_z-of_z}
use Rattle.faults.specs.declared.fault.SheetFault.{SheetFault}
use Rattle.faults.specs.declared.fault.SheetFault.TheVariants.{Unknown, NoRoom}
use Rattle.faults.specs.declared.fault.TextFault.{TextFault}
use Rattle.faults.specs.declared.fault.TextFault.TheVariants.{Beyond}
use Rattle.forms.specs.Forms.{Outcome, got, outcome, Then, goes, Give, Loop}
use Rattle.forms.proofs.Exactness.{apart}
use Rattle.text.specs.declared.reader.Limit.{Limit}
use Rattle.text.specs.declared.reader.Limit.TheVariants.{Parts, Rules}
use Rattle.text.specs.declared.reader.Reader.{Reader}
use Rattle.text.specs.declared.reader.Sign.{Sign}
use Rattle.text.specs.Reading.{Step}
use Rattle.text.specs.Tokens.{Number, Limited, limited, low, high}
use Rattle.lines.specs.declared.line.Comparison.{Comparison}
use Rattle.lines.specs.Lines.{known, fitting, rows_for, Announced, empty, placed, Named, Term, Terms, goes_on, RuleAfter}
use Rattle.lines.specs.declared.line.Rule.{Rule}
use Rattle.lines.specs.declared.line.Line.{Line}
use Rattle.lines.specs.declared.line.Sum.{Sum}
use Rattle.text.proofs.Steps.{step_goes, step_stops}

-- m is k, or past every part
pub unknown : (n start k m : ℕ) → m ≡ min 100000001 k → n ≤ 40 → (1 ≤ m → m ≤ n → ⊥) → Err (Unknown start) ≡ known n start k
unknown n start k m e s h = by (ltb 0 k) (leb k n) refl refl
  where
    by : (c d : Bool) → ltb 0 k ≡ c → leb k n ≡ d → ◌≡◌ {A = Result ℕ SheetFault} (Err (Unknown start)) (cond c (cond d (Ok k) (Err (Unknown start))) (Err (Unknown start)))
    by true true p q =
        let low : 0 < k = grind arith in
        let high : k ≤ n = grind arith in
        absurd (h (omega arith) (omega arith))
    by true false p q = refl
    by false d p q = refl

pub known_part : (n start k m : ℕ) → m ≡ min 100000001 k → n ≤ 40 → 1 ≤ m → m ≤ n → Ok m ≡ known n start k
known_part n start k m e s h l =
    let same : m ≡ k = omega arith in
    let low : 0 < k = omega arith in
    let high : k ≤ n = omega arith in
    rw same (grind arith)

pub no_room : (room start : ℕ) (c : Comparison) → room < rows_for c → Err (NoRoom start) ≡ fitting room start c
no_room room start c h = grind arith

pub has_room : (room start : ℕ) (c : Comparison) → rows_for c ≤ room → Ok c ≡ fitting room start c
has_room room start c h = grind arith

pub limited_at : (m l : Limit) (r s : Reader) (x : Result ℤ TextFault) → m ≡ l → Step (λ t. Limited t m) r s x → Step (λ t. Limited t l) r s x
limited_at m l r s x e h = subst (λ (k : Limit). Step (λ t. Limited t k) r s x) e h

-- a number that was read is within its limits
limited_is : (l : Limit) (start mid to : ℕ) (y z : ℤ) → ◌≡◌ {A = Outcome ℤ TextFault} (got z to) (outcome (limited l start y) mid) → (le_z (low l) z ≡ true) × (le_z z (high l) ≡ true)
limited_is l start mid to y z h = by (le_z (low l) y) (le_z y (high l)) refl refl h
  where
    by : (a b : Bool) → le_z (low l) y ≡ a → le_z y (high l) ≡ b → ◌≡◌ {A = Outcome ℤ TextFault} (got z to) (outcome (cond a (cond b (Ok y) (Err (Beyond start))) (Err (Beyond start))) mid) → (le_z (low l) z ≡ true) × (le_z z (high l) ≡ true)
    by true true p q e = let same : y ≡ z = cc in (cc, cc)
    by true false p q e = apart z to (Beyond start) e
    by false b p q e = apart z to (Beyond start) e

pub number_within : (text : List ℕ) (l : Limit) (from to : ℕ) (z : ℤ) → Limited text l from (got z to) → (le_z (low l) z ≡ true) × (le_z z (high l) ≡ true)
number_within text l from to z h = by h.begun
  where
    by : Then (Number text) (λ y. Give (limited l from y)) from (got z to) → (le_z (low l) z ≡ true) × (le_z z (high l) ≡ true)
    by (goes y mid _ n g) = limited_is l from mid to y z g.is

pub announced_within : (text : List ℕ) (s : Sign) (l : Limit) (from to : ℕ) (z : ℤ) → Announced text s l from (got z to) → (le_z (low l) z ≡ true) × (le_z z (high l) ≡ true)
announced_within text s l from to z (goes _ mid _ a (goes _ next _ b n)) = number_within text l next to z n

pub size_read : (z : ℤ) (n : ℕ) → SFits w32 z → n ≡ nat_abs (to_z w32 (of_z w32 z)) → n ≡ nat_abs z
size_read z n f e = e ∙ ap nat_abs (to_z-of_z w32 z f)

pub parts_size : (z : ℤ) → (le_z (low Parts) z ≡ true) × (le_z z (high Parts) ≡ true) → (0 < nat_abs z) × (nat_abs z ≤ 40)
parts_size z h = let a = h.0 in let b = h.1 in (grind (arith, ints), grind (arith, ints))

pub rules_size : (z : ℤ) → (le_z (low Rules) z ≡ true) × (le_z z (high Rules) ≡ true) → nat_abs z ≤ 64
rules_size z h = let a = h.0 in let b = h.1 in grind (arith, ints)

-- a sum begins with no part named
module _ (n : ℕ) (l : Line) (a : ℤ) (q : Sum) (none : q ≡ empty) (r s : Reader) where
  pub terms_stops : (e : SheetFault) (x : Result Sum SheetFault) → Step (λ t. Named t n a q) r s (Err e) → x ≡ Err e → Step (λ t. Terms t n l a) r s x
  terms_stops e x h f = step_stops _ _ _ _ _ _ (subst (λ (z : Sum). Step (λ t. Named t n a z) r s (Err e)) none h) f

  pub terms_goes : (b : Sum) (u : Reader) (x : Result Sum SheetFault) → Step (λ t. Named t n a q) r s (Ok b) → Step (λ t. Loop (goes_on t l) (Term t n l) b) s u x → Step (λ t. Terms t n l a) r u x
  terms_goes b u x h f = step_goes _ _ _ _ _ _ _ (subst (λ (z : Sum). Step (λ t. Named t n a z) r s (Ok b)) none h) f

pub rule_at : (n room : ℕ) (z a : ℤ) (r s : Reader) (x : Result Rule SheetFault) → z ≡ a → Step (λ t. RuleAfter t n room z) r s x → Step (λ t. RuleAfter t n room a) r s x
rule_at n room z a r s x e h = subst (λ (y : ℤ). Step (λ t. RuleAfter t n room y) r s x) e h

-- a coefficient that was passed on is the same
pub named_at : (n : ℕ) (z a : ℤ) (q : Sum) (r s : Reader) (x : Result Sum SheetFault) → z ≡ a → Step (λ t. Named t n z q) r s x → Step (λ t. Named t n a q) r s x
named_at n z a q r s x e h = subst (λ (y : ℤ). Step (λ t. Named t n y q) r s x) e h

pub terms_at : (n : ℕ) (l : Line) (z a : ℤ) (r s : Reader) (x : Result Sum SheetFault) → z ≡ a → Step (λ t. Terms t n l z) r s x → Step (λ t. Terms t n l a) r s x
terms_at n l z a r s x e h = subst (λ (y : ℤ). Step (λ t. Terms t n l y) r s x) e h

pub placed_at : (q : Sum) (at k : ℕ) (z a : ℤ) (x : Result Sum SheetFault) → z ≡ a → x ≡ placed q at z k → x ≡ placed q at a k
placed_at q at k z a x e h = h ∙ ap (λ (y : ℤ). placed q at y k) e
