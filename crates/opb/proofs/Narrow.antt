-- What was read is small: forty coefficients of at most a million in size, and right sides of at most a hundred million.
use Rattle.std.proofs.Common.{◌≡◌, ℕ, zero, suc, ◌-◌, ◌≤◌, Bool, true, false, cond, ltb, List, [], ◌∷◌, ◌++◌, map, length, get_or, set, replicate, ℤ, pos, nat_abs, Some, None, Ok, Err, Option, refl, ap, ◌∙◌, subst, arith, length-set}
use lib.Signed.{le_z}
use Rattle.std.proofs.lemmas.Int.{ints}
use Rattle.faults.specs.declared.fault.SheetFault.{SheetFault}
use Rattle.faults.specs.declared.fault.SheetFault.TheVariants.{Text, Repeated, Count}
use Rattle.forms.specs.Forms.{Outcome, got, outcome, Then, goes, Loop, done, turn, taken, left, Give, Lifted, well}
use Rattle.forms.proofs.Exactness.{apart}
use Rattle.text.specs.declared.reader.Limit.{Limit}
use Rattle.text.specs.declared.reader.Limit.TheVariants as limit
use Rattle.text.specs.declared.reader.Sign.TheVariants.{Minimise}
use Rattle.text.specs.Tokens.{Limited, Gap, low, high}
use Rattle.lines.specs.declared.line.Line.{Line}
use Rattle.lines.specs.declared.line.Line.TheVariants as line
use Rattle.lines.specs.declared.line.Rule.{Rule}
use Rattle.lines.specs.declared.line.Sum.{Sum}
use Rattle.lines.specs.Lines.{Numbers, empty, put, names, placed, Part, Named, Term, Terms, Bound, RuleAfter, PriceLine, limit_of, goes_on}
use Rattle.lines.proofs.Parts.{number_within, announced_within}
use Rattle.rows.specs.Rows.{Narrow, NarrowPrice, words, given}
use Rattle.opb.specs.Sheets.{Written, Price, RuleLine, NextRule, Rules, unended, complete, expected, Says}

-- a sum whose coefficients are small
pub record Small (s : Sum) : Type 0 where
  pub forty : length s.terms ≡ 40
  pub small : (i : ℕ) → nat_abs (given (get_or s.terms i None)) ≤ 1000000

set_small : (ts : List (Option ℤ)) (j : ℕ) (a : ℤ) → nat_abs a ≤ 1000000 → ((i : ℕ) → nat_abs (given (get_or ts i None)) ≤ 1000000) → (i : ℕ) → nat_abs (given (get_or (set ts j (Some a)) i None)) ≤ 1000000
set_small [] j a h f i = omega arith
set_small (t ∷ ts) zero a h f zero = h
set_small (t ∷ ts) zero a h f (suc i) = f (suc i)
set_small (t ∷ ts) (suc j) a h f zero = f zero
set_small (t ∷ ts) (suc j) a h f (suc i) = set_small ts j a h (λ k. f (suc k)) i

none_small : (n i : ℕ) → nat_abs (given (get_or (replicate n None) i None)) ≤ 1000000
none_small zero i = omega arith
none_small (suc n) zero = omega arith
none_small (suc n) (suc i) = none_small n i

empty_small : Small empty
empty_small = record { forty = refl; small = none_small 40 }

placed_small : (s q : Sum) (start k mid to : ℕ) (a : ℤ) → nat_abs a ≤ 1000000 → Small s → ◌≡◌ {A = Outcome Sum SheetFault} (got q to) (outcome (placed s start a k) mid) → Small q
placed_small s q start k mid to a h f e = by (names s k) e
  where
    by : (b : Bool) → ◌≡◌ {A = Outcome Sum SheetFault} (got q to) (outcome (cond b (Err (Repeated start)) (Ok (put s k a))) mid) → Small q
    by true p = apart q to (Repeated start) p
    by false p =
        let same : put s k a ≡ q = cc in
        subst Small same (record { forty = length-set s.terms (k - 1) (Some a) ∙ f.forty; small = set_small s.terms (k - 1) a h f.small })

pub same_give : {A E : Type 0} (v w : A) (from to : ℕ) → Give {E = E} (Ok v) from (got w to) → v ≡ w
same_give v w from to g = let e = g.is in cc

named_small : (text : List ℕ) (n from to : ℕ) (a : ℤ) (s q : Sum) → nat_abs a ≤ 1000000 → Small s → Named text n a s from (got q to) → Small q
named_small text n from to a s q h f (goes _ m1 _ b (goes p m2 _ r (goes _ m3 _ c g))) = subst Small (same_give p q m3 to g) (at r.begun)
  where
    at : Then (Part text n) (λ k. Give (placed s m1 a k)) m1 (got p m2) → Small p
    at (goes k m4 _ part e) = placed_small s p m1 k m4 m2 a h f e.is

within_size : (l : Line) (z : ℤ) → (le_z (low (limit_of l)) z ≡ true) × (le_z z (high (limit_of l)) ≡ true) → nat_abs z ≤ 1000000
within_size line.Price z h = let a = h.0 in let b = h.1 in grind (arith, ints)
within_size line.Rule z h = let a = h.0 in let b = h.1 in grind (arith, ints)

lifted_within : (text : List ℕ) (l : Limit) (from to : ℕ) (z : ℤ) → Lifted Text (Limited text l) from (got z to) → (le_z (low l) z ≡ true) × (le_z z (high l) ≡ true)
lifted_within text l from to z (well _ _ h) = number_within text l from to z h

terms_small : (text : List ℕ) (n : ℕ) (l : Line) (from to : ℕ) (s q : Sum) → Small s → Loop (goes_on text l) (Term text n l) s from (got q to) → Small q
terms_small text n l from to s q f (done _ _ h) = f
terms_small text n l from to s q f (turn _ p _ mid _ h (goes a m2 _ v k) rest) =
    terms_small text n l mid to p q (named_small text n m2 mid a s p (within_size l a (lifted_within text (limit_of l) from m2 a v)) f k) rest

sum_small : (text : List ℕ) (n : ℕ) (l : Line) (from to : ℕ) (a : ℤ) (q : Sum) → nat_abs a ≤ 1000000 → Terms text n l a from (got q to) → Small q
sum_small text n l from to a q h (goes p mid _ k rest) = terms_small text n l mid to p q (named_small text n from mid a empty p h empty_small k) rest

-- as words of the table
given_at : (ts : List (Option ℤ)) (i : ℕ) → get_or (map given ts) i (pos 0) ≡ given (get_or ts i None)
given_at [] i = refl
given_at (t ∷ ts) zero = refl
given_at (t ∷ ts) (suc i) = given_at ts i

map_length : (ts : List (Option ℤ)) → length (map given ts) ≡ length ts
map_length [] = refl
map_length (t ∷ ts) = ap suc (map_length ts)

small_words : (s : Sum) → Small s → Narrow (words s)
unfolding words
small_words s h = record { forty = map_length s.terms ∙ h.forty; small = λ i. omega (arith, ap nat_abs (given_at s.terms i), h.small i) }

pub price_narrow : (text : List ℕ) (n from to : ℕ) (s : Sum) → PriceLine text n from (got s to) → Narrow (words s)
price_narrow text n from to s (goes a m1 _ (well _ _ f) (goes p m2 _ t (goes _ m3 _ e g))) =
    subst (λ (x : Sum). Narrow (words x)) (same_give p s m3 to g)
    (small_words p (sum_small text n line.Price m1 m2 a p (within_size line.Price a (announced_within text Minimise limit.Price from m1 a f)) t))

right_size : (z : ℤ) → (le_z (low limit.RightSide) z ≡ true) × (le_z z (high limit.RightSide) ≡ true) → nat_abs z ≤ 100000000
right_size z h = let a = h.0 in let b = h.1 in grind (arith, ints)

bound_small : (text : List ℕ) (from to : ℕ) (b : ℤ) → Bound text from (got b to) → nat_abs b ≤ 100000000
bound_small text from to b (goes _ m1 _ s (goes v m2 _ n (goes _ m3 _ t (goes _ m4 _ e g)))) =
    subst (λ (z : ℤ). nat_abs z ≤ 100000000) (same_give v b m4 to g) (right_size v (number_within text limit.RightSide m1 m2 v n))

rule_small : (text : List ℕ) (n room from to : ℕ) (a : ℤ) (q : Rule) → nat_abs a ≤ 1000000 → RuleAfter text n room a from (got q to) → Narrow (words q.sum) × (nat_abs q.bound ≤ 100000000)
rule_small text n room from to a q h (goes s m1 _ t (goes c m2 _ f (goes b m3 _ (well _ _ e) g))) =
    let same = same_give (record { sum = s; comparison = c; bound = b }) q m3 to g in (
      subst (λ (x : Rule). Narrow (words x.sum)) same (small_words s (sum_small text n line.Rule from m1 a s h t)),
      subst (λ (x : Rule). nat_abs x.bound ≤ 100000000) same (bound_small text m2 m3 b e),
    )

pub rule_narrow : (text : List ℕ) (h : Numbers) (count rows from to : ℕ) (q : Rule) → RuleLine text h count rows from (got q to) → Narrow (words q.sum) × (nat_abs q.bound ≤ 100000000)
rule_narrow text h count rows from to q r = by r.begun
  where
    by : Then (Lifted Text (Limited text limit.Coefficient)) (λ a. Then (Give (expected h.rules count from)) (λ _. Then (RuleAfter text h.parts (64 - rows) a) (λ q. Then (Lifted Text (Gap text)) (λ _. Give (Ok q))))) from (got q to) → Narrow (words q.sum) × (nat_abs q.bound ≤ 100000000)
    by (goes a m1 _ v (goes _ m2 _ e (goes p m3 _ k (goes _ m4 _ w g)))) =
        let f = rule_small text h.parts (64 - rows) m2 m3 a p (within_size line.Rule a (lifted_within text limit.Coefficient from m1 a v)) k in
        subst (λ (x : Rule). Narrow (words x.sum) × (nat_abs x.bound ≤ 100000000)) (same_give p q m4 to g) f

pub narrow_price : (text : List ℕ) (n from to : ℕ) (p : Option Sum) → Price text n from (got p to) → NarrowPrice p
narrow_price text n from to p (taken t (goes s m1 _ k (goes _ m2 _ g e))) = subst NarrowPrice (same_give (Some s) p m2 to e) (price_narrow text n from m1 s k)
narrow_price text n from to p (left t e) = subst NarrowPrice (same_give None p from to e) tt

-- every rule is narrow
abbrev pub AllNarrow : List Rule → Type 0
AllNarrow [] = Unit {0}
AllNarrow (q ∷ qs) = Narrow (words q.sum) × AllNarrow qs

all_more : (qs : List Rule) (q : Rule) → AllNarrow qs → Narrow (words q.sum) → AllNarrow (qs ++ q ∷ [])
all_more [] q a h = (h, tt)
all_more (p ∷ ps) q a h = (a.0, all_more ps q a.1 h)

rules_loop : (text : List ℕ) (h : Numbers) (from to : ℕ) (ps qs : List Rule) → AllNarrow ps → Loop (unended text) (NextRule text h) ps from (got qs to) → AllNarrow qs
rules_loop text h from to ps qs a (done _ _ e) = a
rules_loop text h from to ps qs a (turn _ ms _ mid _ e (goes q m2 _ r g) rest) =
    rules_loop text h mid to ms qs (subst AllNarrow (same_give (ps ++ q ∷ []) ms m2 mid g) (all_more ps q a (rule_narrow text h _ _ from m2 q r).0)) rest

complete_is : (text : List ℕ) (h : Numbers) (ps qs : List Rule) (mid to : ℕ) → ◌≡◌ {A = Outcome (List Rule) SheetFault} (got qs to) (outcome (complete text h ps) mid) → ps ≡ qs
complete_is text h ps qs mid to e = by (ltb (length ps) h.rules) e
  where
    by : (b : Bool) → ◌≡◌ {A = Outcome (List Rule) SheetFault} (got qs to) (outcome (cond b (Err (Count (length text))) (Ok ps)) mid) → ps ≡ qs
    by true p = apart qs to (Count (length text)) p
    by false p = cc

rules_narrow : (text : List ℕ) (h : Numbers) (from to : ℕ) (qs : List Rule) → Rules text h from (got qs to) → AllNarrow qs
rules_narrow text h from to qs (goes ps mid _ l g) = subst AllNarrow (complete_is text h ps qs mid to g.is) (rules_loop text h from mid [] ps tt l)

-- what a text says is narrow
pub said_narrow : (text : List ℕ) (s : Written) → Says text s → AllNarrow s.rules × NarrowPrice s.price
said_narrow text s (to, goes _ m1 _ w (goes h m2 _ d (goes _ m3 _ g (goes p m4 _ f (goes qs m5 _ r e))))) =
    let same = same_give (record { header = h; price = p; rules = qs }) s m5 to e in (
      subst (λ (z : Written). AllNarrow z.rules) same (rules_narrow text h m4 m5 qs r),
      subst (λ (z : Written). NarrowPrice z.price) same (narrow_price text h.parts m3 m4 p f),
    )
