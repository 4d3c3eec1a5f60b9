-- The table of a sheet has the layout of a table.
use Rattle.std.proofs.Common.{◌≡◌, ℕ, zero, suc, ◌+◌, ◌-◌, ◌*◌, ◌≤◌, List, [], ◌∷◌, ◌++◌, map, length, get_or, set, replicate, ℤ, pos, negsuc, ◌+ℤ◌, neg_ℤ, nat_abs, Some, None, Option, refl, ap, ◌∙◌, mul-suc, arith, length-set}
use Rattle.std.proofs.lemmas.Int.{ints}
use Rattle.text.specs.declared.reader.Limit.{Limit}
use Rattle.text.specs.declared.reader.Limit.TheVariants as limit
use Rattle.lines.specs.declared.line.Comparison.{Comparison}
use Rattle.lines.specs.declared.line.Comparison.TheVariants.{AtLeast, Equal}
use Rattle.lines.specs.declared.line.Rule.{Rule}
use Rattle.lines.specs.declared.line.Sum.{Sum}
use Rattle.lines.specs.Lines.{empty, put}
use Rattle.rows.specs.Rows.{given, words, turn, below, negatives, floored, Row, at_least, rows_by, rule_rows, all_rows}
use Rattle.opb.specs.Language.{NumberAt, PairsAt, none, more, SumAt, PriceAt, absent, present, RulesAt, ended, rule}

-- every number of the list is at most m in size, and those from place n on are 0
pub record Slim (m n : ℕ) (cs : List ℤ) : Type 0 where
  pub forty : length cs ≡ 40
  pub small : (i : ℕ) → nat_abs (get_or cs i (pos 0)) ≤ m
  pub bare : (i : ℕ) → n ≤ i → get_or cs i (pos 0) ≡ pos 0

-- the same of a sum's terms
abbrev term_at : List (Option ℤ) → ℕ → ℤ
term_at ts i = given (get_or ts i None)

record SlimSum (m n : ℕ) (ts : List (Option ℤ)) : Type 0 where
  forty : length ts ≡ 40
  small : (i : ℕ) → nat_abs (term_at ts i) ≤ m
  bare : (i : ℕ) → n ≤ i → term_at ts i ≡ pos 0

set_term : (ts : List (Option ℤ)) (j : ℕ) (a : ℤ) (i : ℕ) → (P : ℤ → Type 0) → P (term_at ts i) → (i ≡ j → P a) → P (term_at (set ts j (Some a)) i)
set_term [] j a i P p f = p
set_term (t ∷ ts) zero a zero P p f = f refl
set_term (t ∷ ts) zero a (suc i) P p f = p
set_term (t ∷ ts) (suc j) a zero P p f = p
set_term (t ∷ ts) (suc j) a (suc i) P p f = set_term ts j a i P p (λ e. f (ap suc e))

put_slim : (m n : ℕ) (s : Sum) (k : ℕ) (a : ℤ) → 1 ≤ k → k ≤ n → nat_abs a ≤ m → SlimSum m n s.terms → SlimSum m n (put s k a).terms
put_slim m n s k a l h b f = record {
  forty = length-set s.terms (k - 1) (Some a) ∙ f.forty;
  small = λ i. set_term s.terms (k - 1) a i (λ z. nat_abs z ≤ m) (f.small i) (λ e. b);
  bare = λ i p. set_term s.terms (k - 1) a i (λ z. z ≡ pos 0) (f.bare i p) (λ e. absurd (omega arith));
}

none_term : (n i : ℕ) → term_at (replicate n None) i ≡ pos 0
none_term zero i = refl
none_term (suc n) zero = refl
none_term (suc n) (suc i) = none_term n i

empty_slim : (m n : ℕ) → SlimSum m n empty.terms
empty_slim m n = record { forty = refl; small = λ i. omega (arith, ap nat_abs (none_term 40 i)); bare = λ i p. none_term 40 i }

-- the greatest size of a number within its limits
abbrev most : Limit → ℕ
most limit.Parts = 40
most limit.Rules = 64
most limit.Price = 100000
most limit.Coefficient = 1000000
most limit.RightSide = 100000000

sized : (text : List ℕ) (l : Limit) (from to : ℕ) (z : ℤ) → NumberAt text l from to z → nat_abs z ≤ most l
sized text limit.Parts from to z h = let a = h.least in let b = h.most in omega (arith, ints)
sized text limit.Rules from to z h = let a = h.least in let b = h.most in omega (arith, ints)
sized text limit.Price from to z h = let a = h.least in let b = h.most in omega (arith, ints)
sized text limit.Coefficient from to z h = let a = h.least in let b = h.most in omega (arith, ints)
sized text limit.RightSide from to z h = let a = h.least in let b = h.most in omega (arith, ints)

pairs_slim : (text : List ℕ) (n : ℕ) (l : Limit) (from to : ℕ) (s q : Sum) → SlimSum (most l) n s.terms → PairsAt text n l from to s q → SlimSum (most l) n q.terms
pairs_slim text n l from to s q f (none _ _) = f
pairs_slim text n l from to s q f (more _ mid _ _ _ a k p e rest) =
    pairs_slim text n l mid to (put s k a) q (put_slim (most l) n s k a p.name.least p.name.most (sized text l from p.mid a p.coefficient) f) rest

sum_slim : (text : List ℕ) (n : ℕ) (l : Limit) (from to : ℕ) (q : Sum) → SumAt text n l from to q → SlimSum (most l) n q.terms
sum_slim text n l from to q h =
    let p = h.first in
    pairs_slim text n l h.mid to (put empty h.part h.coef) q
    (put_slim (most l) n empty h.part h.coef p.name.least p.name.most (sized text l from p.mid h.coef p.coefficient) (empty_slim (most l) n)) h.rest

-- as words
word_term : (ts : List (Option ℤ)) (i : ℕ) → get_or (map given ts) i (pos 0) ≡ term_at ts i
word_term [] i = refl
word_term (t ∷ ts) zero = refl
word_term (t ∷ ts) (suc i) = word_term ts i

map_length : {X : Type 0} (f : X → ℤ) (xs : List X) → length (map f xs) ≡ length xs
map_length f [] = refl
map_length f (x ∷ xs) = ap suc (map_length f xs)

words_slim : (m n : ℕ) (s : Sum) → SlimSum m n s.terms → Slim m n (words s)
unfolding words
words_slim m n s f = record {
  forty = map_length given s.terms ∙ f.forty;
  small = λ i. omega (arith, ap nat_abs (word_term s.terms i), f.small i);
  bare = λ i p. word_term s.terms i ∙ f.bare i p;
}

turn_term : (cs : List ℤ) (i : ℕ) → get_or (map neg_ℤ cs) i (pos 0) ≡ neg_ℤ (get_or cs i (pos 0))
turn_term [] i = refl
turn_term (c ∷ cs) zero = refl
turn_term (c ∷ cs) (suc i) = turn_term cs i

neg_size : (z : ℤ) (m : ℕ) → nat_abs z ≤ m → nat_abs (neg_ℤ z) ≤ m
neg_size z m h = omega (arith, ints)

turn_slim : (m n : ℕ) (cs : List ℤ) → Slim m n cs → Slim m n (turn cs)
unfolding turn
turn_slim m n cs f = record {
  forty = map_length neg_ℤ cs ∙ f.forty;
  small = λ i. omega (arith, ap nat_abs (turn_term cs i), neg_size (get_or cs i (pos 0)) m (f.small i));
  bare = λ i p. turn_term cs i ∙ ap neg_ℤ (f.bare i p);
}

-- the negative ones together
below_most : (z : ℤ) → below z ≤ nat_abs z
below_most (pos x) = omega arith
below_most (negsuc x) = omega arith

pub negatives_most : (m : ℕ) (cs : List ℤ) → ((i : ℕ) → nat_abs (get_or cs i (pos 0)) ≤ m) → negatives cs ≤ m * length cs
negatives_most m [] f = omega arith
negatives_most m (c ∷ cs) f =
    let a = f 0 in
    let b = negatives_most m cs (λ i. f (suc i)) in
    let d = below_most c in
    omega (arith, mul-suc m (length cs))

floored_most : (b : ℤ) (n m : ℕ) → nat_abs b ≤ m → floored (b +ℤ pos n) ≤ m + n
floored_most b n m h = by (b +ℤ pos n) refl
  where
    by : (z : ℤ) → z ≡ b +ℤ pos n → floored z ≤ m + n
    by (pos x) e = omega (arith, ints)
    by (negsuc x) e = omega arith

-- a row within the table's limits
pub record Fit (n : ℕ) (r : Row) : Type 0 where
  pub degree_most : r.degree ≤ 140000000
  pub coefs_slim : Slim 1000000 n r.coefs

abbrev pub AllFit : ℕ → List Row → Type 0
AllFit n [] = Unit {0}
AllFit n (r ∷ rs) = Fit n r × AllFit n rs

row_fit : (n : ℕ) (cs : List ℤ) (b : ℤ) → Slim 1000000 n cs → nat_abs b ≤ 100000000 → Fit n (at_least cs b)
row_fit n cs b f h =
    let a = negatives_most 1000000 cs f.small in
    let d : negatives cs ≤ 40000000 = omega (arith, ap (λ (k : ℕ). 1000000 * k) f.forty) in
    record { degree_most = omega (arith, floored_most b (negatives cs) 100000000 h); coefs_slim = f }

append_fit : (n : ℕ) (rs ss : List Row) → AllFit n rs → AllFit n ss → AllFit n (rs ++ ss)
append_fit n [] ss a b = b
append_fit n (r ∷ rs) ss a b = (a.0, append_fit n rs ss a.1 b)

rows_fit : (n : ℕ) (k : Comparison) (cs : List ℤ) (b : ℤ) → Slim 1000000 n cs → nat_abs b ≤ 100000000 → AllFit n (rows_by k cs b)
rows_fit n AtLeast cs b f h = (row_fit n cs b f h, tt)
rows_fit n Equal cs b f h = (row_fit n cs b f h, (row_fit n (turn cs) (neg_ℤ b) (turn_slim 1000000 n cs f) (neg_size b 100000000 h), tt))

pub rules_fit : (text : List ℕ) (n from : ℕ) (qs : List Rule) → RulesAt text n from qs → AllFit n (all_rows qs)
rules_fit text n from qs (ended _ e) = tt
rules_fit text n from qs (rule _ mid next q ps r g rest) =
    append_fit n (rule_rows q) (all_rows ps)
    (rows_fit n q.comparison (words q.sum) q.bound (words_slim 1000000 n q.sum (sum_slim text n limit.Coefficient from r.p1 q.sum r.sum)) (sized text limit.RightSide r.p3 r.p4 q.bound r.right_side))
    (rules_fit text n next ps rest)

-- the prices within the table's limits
abbrev pub PriceSlim : ℕ → Option Sum → Type 0
PriceSlim n None = Unit {0}
PriceSlim n (Some s) = Slim 100000 n (words s)

pub price_slim : (text : List ℕ) (n from to : ℕ) (p : Option Sum) → PriceAt text n from to p → PriceSlim n p
price_slim text n from to p (absent t e) = tt
price_slim text n from to p (present p1 p2 p3 p4 s w b x y z) = words_slim 100000 n s (sum_slim text n limit.Price p2 p3 s x)

pub parts_fit : (text : List ℕ) (from to : ℕ) (z : ℤ) → NumberAt text limit.Parts from to z → (1 ≤ nat_abs z) × (nat_abs z ≤ 40)
parts_fit text from to z h = let a = h.least in let b = h.most in (omega (arith, ints), omega (arith, ints))
