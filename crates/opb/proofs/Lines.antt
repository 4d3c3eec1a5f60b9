-- The header, the price line and rules as the reader's forms have them, and as the language has them, are the same.
use Rattle.std.proofs.Common.{◌≡◌, ℕ, ◌+◌, ◌≤◌, Bool, true, false, cond, not, leb, List, [], ◌∷◌, ℤ, nat_abs, Some, None, Ok, Err, Option, Result, sym, refl, ap, ◌∙◌, subst, arith}
use Rattle.faults.specs.declared.fault.SheetFault.{SheetFault}
use Rattle.faults.specs.declared.fault.SheetFault.TheVariants.{Text, NoRoom}
use Rattle.forms.specs.Forms.{Outcome, got, outcome, Then, goes, taken, left, Give, Lifted, well}
use Rattle.forms.proofs.Exactness.{apart}
use Rattle.text.specs.declared.reader.Limit.TheVariants as limit
use Rattle.text.specs.declared.reader.Sign.TheVariants as sign
use Rattle.text.specs.Bytes.{stands}
use Rattle.text.specs.Tokens.{passed}
use Rattle.lines.specs.declared.line.Comparison.{Comparison}
use Rattle.lines.specs.declared.line.Comparison.TheVariants.{AtLeast, Equal}
use Rattle.lines.specs.declared.line.Line.TheVariants as line
use Rattle.lines.specs.declared.line.Rule.{Rule}
use Rattle.lines.specs.declared.line.Sum.{Sum}
use Rattle.lines.specs.Lines.{Numbers, goes_on, HeaderLine, Compared, rows_for, fitting, Fitting, RuleAfter}
use Rattle.opb.specs.Language.{SpeltAt, NumberAt, GapAt, SumAt, HeaderAt, PriceAt, absent, present, ComparedAt, at_least, equal, RuleAt}
use Rattle.opb.specs.Sheets.{Price}
use Rattle.opb.proofs.Narrow.{same_give}
use Rattle.opb.proofs.Sums.{give_place, sum_sound, sum_complete}
use Rattle.opb.proofs.Tokens.{spelt_sound, spelt_complete, spelt_first, number_sound, number_complete, byte_sound, byte_complete, gap_sound, gap_complete}

-- the header
pub header_sound : (text : List ℕ) (to : ℕ) (h : Numbers) → HeaderLine text 0 (got h to) → HeaderAt text to h
header_sound text to h (goes n m3 _ (goes _ m1 _ a (goes _ m2 _ (passed _ b) c)) (goes _ m4 _ (passed _ d) (goes m m7 _ (goes _ m5 _ e (goes _ m6 _ (passed _ f) g)) (goes _ m9 _ (goes _ m8 _ (passed _ i) j) k)))) =
    let w = byte_sound text 10 m8 m8 m9 j.begun in
    let t = give_place (record { parts = nat_abs n; rules = nat_abs m }) h m9 to k in
    record {
      p1 = m1;
      p2 = m2;
      p3 = m3;
      p4 = m4;
      p5 = m5;
      p6 = m6;
      p7 = m7;
      p8 = m8;
      n = n;
      m = m;
      variables = spelt_sound text sign.Variables 0 m1 a;
      gap_1 = b;
      parts = number_sound text limit.Parts m2 m3 n c;
      gap_2 = d;
      constraints = spelt_sound text sign.Constraints m4 m5 e;
      gap_3 = f;
      rules = number_sound text limit.Rules m6 m7 m g;
      line = i;
      feed = w.0;
      end = sym t ∙ w.1;
      is = sym (same_give (record { parts = nat_abs n; rules = nat_abs m }) h m9 to k);
    }

pub header_complete : (text : List ℕ) (to : ℕ) (h : Numbers) → HeaderAt text to h → HeaderLine text 0 (got h to)
header_complete text to h w =
    let last : got h to ≡ got (record { parts = nat_abs w.n; rules = nat_abs w.m }) (w.p8 + 1) = cc (w.is, w.end) in
    goes w.n w.p3 _
    (goes tt w.p1 _ (spelt_complete text sign.Variables 0 w.p1 w.variables) (goes tt w.p2 _ (passed w.p2 w.gap_1) (number_complete text limit.Parts w.p2 w.p3 w.n w.parts)))
    (goes tt w.p4 _ (passed w.p4 w.gap_2) (goes w.m w.p7 _
    (goes tt w.p5 _ (spelt_complete text sign.Constraints w.p4 w.p5 w.constraints) (goes tt w.p6 _ (passed w.p6 w.gap_3) (number_complete text limit.Rules w.p6 w.p7 w.m w.rules)))
    (goes tt (w.p8 + 1) _ (goes tt w.p8 _ (passed w.p8 w.line) (record { begun = byte_complete text 10 w.p8 w.p8 w.feed }))
    (record { is = last }))))

-- the sign that closes a sum
ends_price : (text : List ℕ) (i to : ℕ) → SpeltAt text sign.End i to → goes_on text line.Price i ≡ false
ends_price text i to h = ap not (spelt_first text sign.End 59 [] i to refl h)

ends_rule : (text : List ℕ) (i to : ℕ) (c : Comparison) → ComparedAt text i to c → goes_on text line.Rule i ≡ false
ends_rule text i to c (at_least h) = rw (spelt_first text sign.AtLeast 62 (61 ∷ []) i to refl h) refl
ends_rule text i to c (equal h) = let k = spelt_first text sign.Equal 61 [] i to refl h in by (stands text 62 i) k
  where
    by : (b : Bool) → stands text 61 i ≡ true → cond b false (not (stands text 61 i)) ≡ false
    by true k = refl
    by false k = ap not k

-- the price line, with the gap after it
pub price_sound : (text : List ℕ) (n from to : ℕ) (p : Option Sum) → Price text n from (got p to) → PriceAt text n from to p
price_sound text n from to p (left t g) =
    let e = same_give None p from to g in
    subst (λ (o : Option Sum). PriceAt text n from to o) e (absent t (sym (give_place None p from to g)))
price_sound text n from to p (taken t (goes s m4 _ (goes a m2 _ (well _ _ (goes _ m0 _ w (goes _ m1 _ (passed _ b) v))) (goes q m3 _ k (goes _ m5 _ (well _ _ e) g))) (goes _ m6 _ (well _ _ f) i))) =
    let c = number_sound text limit.Price m1 m2 a v in
    let x = sum_sound text n line.Price m1 m2 m3 a q c k in
    let s-is = same_give q s m5 m4 g in
    let there = give_place q s m5 m4 g in
    let y = subst (λ (j : ℕ). SpeltAt text sign.End m3 j) there (spelt_sound text sign.End m3 m5 e) in
    let z = subst (λ (j : ℕ). GapAt text m4 j) (give_place (Some s) p m6 to i) (gap_sound text m4 m6 f) in
    subst (λ (o : Option Sum). PriceAt text n from to o) (same_give (Some s) p m6 to i)
    (present m0 m1 m3 m4 s (spelt_sound text sign.Minimise from m0 w) b (subst (λ (j : Sum). SumAt text n limit.Price m1 m3 j) s-is x.0) y z)

pub price_complete : (text : List ℕ) (n from to : ℕ) (p : Option Sum) → PriceAt text n from to p → Price text n from (got p to)
price_complete text n from to p (absent t e) = left t (record { is = ap (got None) e })
price_complete text n from to p (present p1 p2 p3 p4 s w b x y z) =
    taken (spelt_first text sign.Minimise 109 (105 ∷ 110 ∷ 58 ∷ []) from p1 refl w)
    (goes s p4 _ (goes x.coef x.first.mid _
    (well x.coef x.first.mid (goes tt p1 _ (spelt_complete text sign.Minimise from p1 w) (goes tt p2 _ (passed p2 b) (number_complete text limit.Price p2 x.first.mid x.coef x.first.coefficient))))
    (goes s p3 _ (sum_complete text n line.Price p2 p3 s x (ends_price text p3 p4 y)) (goes tt p4 _ (well tt p4 (spelt_complete text sign.End p3 p4 y)) (record { is = refl }))))
    (goes tt to _ (well tt to (gap_complete text p4 to z)) (record { is = refl })))

-- comparison signs
compared_sound : (text : List ℕ) (from to : ℕ) (c : Comparison) → Compared text from (got c to) → ComparedAt text from to c
compared_sound text from to c (taken t (goes _ mid _ s g)) =
    subst (λ (k : Comparison). ComparedAt text from to k) (same_give AtLeast c mid to g)
    (at_least (subst (λ (i : ℕ). SpeltAt text sign.AtLeast from i) (give_place AtLeast c mid to g) (spelt_sound text sign.AtLeast from mid s)))
compared_sound text from to c (left t (goes _ mid _ s g)) =
    subst (λ (k : Comparison). ComparedAt text from to k) (same_give Equal c mid to g)
    (equal (subst (λ (i : ℕ). SpeltAt text sign.Equal from i) (give_place Equal c mid to g) (spelt_sound text sign.Equal from mid s)))

equal_alone : (text : List ℕ) (i : ℕ) → stands text 61 i ≡ true → stands text 62 i ≡ false
equal_alone text i h = grind arith

compared_complete : (text : List ℕ) (from to : ℕ) (c : Comparison) → ComparedAt text from to c → Compared text from (got c to)
compared_complete text from to c (at_least s) = taken (spelt_first text sign.AtLeast 62 (61 ∷ []) from to refl s) (goes tt to _ (spelt_complete text sign.AtLeast from to s) (record { is = refl }))
compared_complete text from to c (equal s) = left (equal_alone text from (spelt_first text sign.Equal 61 [] from to refl s)) (goes tt to _ (spelt_complete text sign.Equal from to s) (record { is = refl }))

fitting_is : (room start mid to : ℕ) (c d : Comparison) → ◌≡◌ {A = Outcome Comparison SheetFault} (got d to) (outcome (fitting room start c) mid) → (rows_for c ≤ room) × (c ≡ d) × (mid ≡ to)
fitting_is room start mid to c d h = by (leb (rows_for c) room) refl h
  where
    by : (b : Bool) → leb (rows_for c) room ≡ b → ◌≡◌ {A = Outcome Comparison SheetFault} (got d to) (outcome (cond b (Ok c) (Err (NoRoom start))) mid) → (rows_for c ≤ room) × (c ≡ d) × (mid ≡ to)
    by true p q = (grind arith, cc, cc)
    by false p q = apart d to (NoRoom start) q

is_fitting : (room start : ℕ) (c : Comparison) → rows_for c ≤ room → Ok c ≡ fitting room start c
is_fitting room start c h = grind arith

fitting_sound : (text : List ℕ) (room from to : ℕ) (c : Comparison) → Fitting text room from (got c to) → ComparedAt text from to c × (rows_for c ≤ room)
fitting_sound text room from to c h = by h.begun
  where
    by : Then (Lifted Text (Compared text)) (λ k. Give (fitting room from k)) from (got c to) → ComparedAt text from to c × (rows_for c ≤ room)
    by (goes k mid _ (well _ _ d) g) =
        let w = fitting_is room from mid to k c g.is in
        let e = compared_sound text from mid k d in
        (subst (λ (i : ℕ). ComparedAt text from i c) w.2 (subst (λ (x : Comparison). ComparedAt text from mid x) w.1 e), subst (λ (x : Comparison). rows_for x ≤ room) w.1 w.0)

-- a rule whose first coefficient is read already
pub rule_sound : (text : List ℕ) (n room from mid to : ℕ) (a : ℤ) (q : Rule) → NumberAt text limit.Coefficient from mid a → RuleAfter text n room a mid (got q to) → RuleAt text n from to q × (rows_for q.comparison ≤ room)
rule_sound text n room from mid to a q c (goes s m1 _ t (goes k m2 _ f (goes b m6 _ (well _ _ (goes _ m3 _ (passed _ g) (goes v m4 _ u (goes _ m5 _ (passed _ i) (goes _ m7 _ e j))))) l))) =
    let x = sum_sound text n line.Rule from mid m1 a s c t in
    let y = fitting_sound text room m1 m2 k f in
    let b-is = same_give v b m7 m6 j in
    let q-is = same_give (record { sum = s; comparison = k; bound = b }) q m6 to l in
    let e6 = give_place v b m7 m6 j in
    let e7 = give_place (record { sum = s; comparison = k; bound = b }) q m6 to l in
    let w : RuleAt text n from to (record { sum = s; comparison = k; bound = b }) = record {
      p1 = m1;
      p2 = m2;
      p3 = m3;
      p4 = m4;
      p5 = m5;
      sum = x.0;
      compared = y.0;
      gap_1 = g;
      right_side = subst (λ (z : ℤ). NumberAt text limit.RightSide m3 m4 z) b-is (number_sound text limit.RightSide m3 m4 v u);
      gap_2 = i;
      end = subst (λ (p : ℕ). SpeltAt text sign.End m5 p) (e6 ∙ e7) (spelt_sound text sign.End m5 m7 e);
    } in
    (subst (λ (z : Rule). RuleAt text n from to z) q-is w, subst (λ (z : Rule). rows_for z.comparison ≤ room) q-is y.1)

pub rule_complete : (text : List ℕ) (n room from to : ℕ) (q : Rule) → (h : RuleAt text n from to q) → rows_for q.comparison ≤ room → RuleAfter text n room h.sum.coef h.sum.first.mid (got q to)
rule_complete text n room from to q h r =
    goes q.sum h.p1 _ (sum_complete text n line.Rule from h.p1 q.sum h.sum (ends_rule text h.p1 h.p2 q.comparison h.compared))
    (goes q.comparison h.p2 _
    (record {
      begun = goes q.comparison h.p2 _ (well q.comparison h.p2 (compared_complete text h.p1 h.p2 q.comparison h.compared))
          (record { is = ap (λ (z : Result Comparison SheetFault). outcome z h.p2) (is_fitting room h.p1 q.comparison r) });
    })
    (goes q.bound to _
    (well q.bound to (goes tt h.p3 _ (passed h.p3 h.gap_1) (goes q.bound h.p4 _ (number_complete text limit.RightSide h.p3 h.p4 q.bound h.right_side)
    (goes tt h.p5 _ (passed h.p5 h.gap_2) (goes tt to _ (spelt_complete text sign.End h.p5 to h.end) (record { is = refl }))))))
    (record { is = refl })))
