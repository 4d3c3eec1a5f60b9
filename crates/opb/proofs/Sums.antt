-- Sums and lines as the reader's forms have them, and as the language has them, are the same.
use Rattle.std.proofs.Common.{◌≡◌, ℕ, zero, suc, ◌-◌, Bool, true, false, cond, not, List, get_or, replicate, ℤ, is_some, None, Ok, Err, Option, sym, refl, ap, ◌∙◌, subst, arith}
use Rattle.faults.specs.declared.fault.SheetFault.{SheetFault}
use Rattle.faults.specs.declared.fault.SheetFault.TheVariants.{Repeated}
use Rattle.forms.specs.Forms.{Outcome, got, outcome, Then, goes, Loop, done, turn, Give, well}
use Rattle.forms.proofs.Exactness.{apart}
use Rattle.text.specs.declared.reader.Limit.{Limit}
use Rattle.text.specs.declared.reader.Class.TheVariants.{Blank}
use Rattle.text.specs.Bytes.{Run}
use Rattle.text.specs.Tokens.{passed}
use Rattle.lines.specs.declared.line.Line.{Line}
use Rattle.lines.specs.declared.line.Line.TheVariants as line
use Rattle.lines.specs.declared.line.Sum.{Sum}
use Rattle.lines.specs.Lines.{empty, put, names, placed, Part, Named, limit_of, goes_on, Term, Terms}
use Rattle.opb.specs.Language.{NumberAt, NameAt, PairsAt, none, more, SumAt}
use Rattle.opb.proofs.Narrow.{same_give}
use Rattle.opb.proofs.Tokens.{number_sound, number_complete, number_not, name_sound, name_complete}

-- pairs
placed_is : (s q : Sum) (start k mid to : ℕ) (a : ℤ) → ◌≡◌ {A = Outcome Sum SheetFault} (got q to) (outcome (placed s start a k) mid) → (names s k ≡ false) × (put s k a ≡ q) × (mid ≡ to)
placed_is s q start k mid to a h = by (names s k) refl h
  where
    by : (b : Bool) → names s k ≡ b → ◌≡◌ {A = Outcome Sum SheetFault} (got q to) (outcome (cond b (Err (Repeated start)) (Ok (put s k a))) mid) → (names s k ≡ false) × (put s k a ≡ q) × (mid ≡ to)
    by true p r = apart q to (Repeated start) r
    by false p r = (p, cc, cc)

pub give_place : {A E : Type 0} (v w : A) (from to : ℕ) → Give {E = E} (Ok v) from (got w to) → from ≡ to
give_place v w from to g = let e = g.is in cc

-- what follows a coefficient
pub record NamedAt (text : List ℕ) (n from to : ℕ) (s : Sum) (a : ℤ) (q : Sum) : Type 0 where
  pub part : ℕ
  pub next : ℕ
  pub after : ℕ
  pub gap : Run Blank text from next
  pub name : NameAt text n next after part
  pub rest : Run Blank text after to
  pub free : names s part ≡ false
  pub is : put s part a ≡ q

named_sound : (text : List ℕ) (n from to : ℕ) (a : ℤ) (s q : Sum) → Named text n a s from (got q to) → NamedAt text n from to s a q
named_sound text n from to a s q (goes _ m1 _ (well _ _ (passed _ b)) (goes p m2 _ f (goes _ m3 _ (well _ _ (passed _ c)) g))) = by f.begun
  where
    by : Then (Part text n) (λ k. Give (placed s m1 a k)) m1 (got p m2) → NamedAt text n from to s a q
    by (goes k m4 _ m e) =
        let w = placed_is s p m1 k m4 m2 a e.is in
        let t = give_place p q m3 to g in
        record {
          part = k;
          next = m1;
          after = m2;
          gap = b;
          name = subst (λ (i : ℕ). NameAt text n m1 i k) w.2 (name_sound text n m1 m4 k m);
          rest = subst (λ (i : ℕ). Run Blank text m2 i) t c;
          free = w.0;
          is = w.1 ∙ same_give p q m3 to g;
        }

named_complete : (text : List ℕ) (n from to : ℕ) (a : ℤ) (s : Sum) (k next after : ℕ) → Run Blank text from next → NameAt text n next after k → Run Blank text after to → names s k ≡ false → Named text n a s from (got (put s k a) to)
named_complete text n from to a s k next after b m c f =
    goes tt next _ (well tt next (passed next b)) (goes (put s k a) after _
    (record { begun = goes k after _ (name_complete text n next after k m) (record { is = rw f refl }) })
    (goes tt to _ (well tt to (passed to c)) (record { is = refl })))

-- the sum goes on where a number stands
more_follows : (text : List ℕ) (l : Line) (m : Limit) (from to : ℕ) (z : ℤ) → NumberAt text m from to z → goes_on text l from ≡ true
more_follows text line.Price m from to z h = ap not (number_not text m from to z 59 h (omega arith))
more_follows text line.Rule m from to z h = rw (number_not text m from to z 62 h (omega arith)) (ap not (number_not text m from to z 61 h (omega arith)))

pairs_sound : (text : List ℕ) (n : ℕ) (l : Line) (from to : ℕ) (s q : Sum) → Loop (goes_on text l) (Term text n l) s from (got q to) → PairsAt text n (limit_of l) from to s q × (goes_on text l to ≡ false)
pairs_sound text n l from to s q (done _ _ h) = (none from s, h)
pairs_sound text n l from to s q (turn _ p _ mid _ h (goes a m2 _ (well _ _ v) k) rest) =
    let w = named_sound text n m2 mid a s p k in
    let r = pairs_sound text n l mid to p q rest in
    let c = number_sound text (limit_of l) from m2 a v in (
      more from mid to s q a w.part (record { mid = m2; next = w.next; after = w.after; coefficient = c; gap = w.gap; name = w.name; rest = w.rest }) w.free
          (subst (λ (x : Sum). PairsAt text n (limit_of l) mid to x q) (sym w.is) r.0),
      r.1,
    )

pairs_complete : (text : List ℕ) (n : ℕ) (l : Line) (from to : ℕ) (s q : Sum) → PairsAt text n (limit_of l) from to s q → goes_on text l to ≡ false → Loop (goes_on text l) (Term text n l) s from (got q to)
pairs_complete text n l from to s q (none _ _) h = done s from h
pairs_complete text n l from to s q (more _ mid _ _ _ a k p f rest) h =
    turn s (put s k a) from mid _ (more_follows text l (limit_of l) from p.mid a p.coefficient)
    (goes a p.mid _ (well a p.mid (number_complete text (limit_of l) from p.mid a p.coefficient)) (named_complete text n p.mid mid a s k p.next p.after p.gap p.name p.rest f))
    (pairs_complete text n l mid to (put s k a) q rest h)

nothing : (n i : ℕ) → is_some (get_or {A = Option ℤ} (replicate n None) i None) ≡ false
nothing zero i = refl
nothing (suc n) zero = refl
nothing (suc n) (suc i) = nothing n i

empty_free : (k : ℕ) → names empty k ≡ false
empty_free k = nothing 40 (k - 1)

-- a sum whose first coefficient is read already
pub sum_sound : (text : List ℕ) (n : ℕ) (l : Line) (from mid to : ℕ) (a : ℤ) (q : Sum) → NumberAt text (limit_of l) from mid a → Terms text n l a mid (got q to) → SumAt text n (limit_of l) from to q × (goes_on text l to ≡ false)
sum_sound text n l from mid to a q c (goes p m2 _ k rest) =
    let w = named_sound text n mid m2 a empty p k in
    let r = pairs_sound text n l m2 to p q rest in (
      record {
        mid = m2;
        coef = a;
        part = w.part;
        first = record { mid = mid; next = w.next; after = w.after; coefficient = c; gap = w.gap; name = w.name; rest = w.rest };
        rest = subst (λ (x : Sum). PairsAt text n (limit_of l) m2 to x q) (sym w.is) r.0;
      },
      r.1,
    )

pub sum_complete : (text : List ℕ) (n : ℕ) (l : Line) (from to : ℕ) (q : Sum) → (h : SumAt text n (limit_of l) from to q) → goes_on text l to ≡ false → Terms text n l h.coef h.first.mid (got q to)
sum_complete text n l from to q h e =
    let p = h.first in
    goes (put empty h.part h.coef) h.mid _ (named_complete text n p.mid h.mid h.coef empty h.part p.next p.after p.gap p.name p.rest (empty_free h.part))
    (pairs_complete text n l h.mid to (put empty h.part h.coef) q h.rest e)
