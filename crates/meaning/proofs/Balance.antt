-- Normal form, coefficient by coefficient: what a row reaches is the value of its sum and the sizes of its negative
-- coefficients.
use Rattle.std.proofs.Common.{◌≡◌, ℕ, zero, suc, ◌+◌, ◌≤◌, Bool, true, false, cond, List, [], ◌∷◌, map, length, get_or, ℤ, pos, negsuc, ◌+ℤ◌, neg_ℤ, ◌≤ℤ◌, Option, sym, refl, ap, ◌∙◌, subst, arith}
use Rattle.std.proofs.lemmas.Int.{ints}
use Rattle.rules.specs.Sum.{total}
use Rattle.rules.specs.Rule.{kept, open_sum}
use Rattle.table.specs.Meaning.{mark, chosen}
use Rattle.lines.specs.declared.line.Comparison.{Comparison}
use Rattle.lines.specs.declared.line.Comparison.TheVariants.{AtLeast, Equal}
use Rattle.rows.specs.Rows.{given, below, negatives, floored, Row, at_least, rows_by, turn}
use Rattle.meaning.specs.Means.{value_of, Compares}

-- the value of coefficients that stand in words
abbrev pub worth : List ℤ → (ℕ → Bool) → ℤ
worth [] x = pos 0
worth (c ∷ cs) x = cond (x 0) c (pos 0) +ℤ worth cs (λ i. x (suc i))

pub worth_words : (os : List (Option ℤ)) (x : ℕ → Bool) → worth (map given os) x ≡ value_of os x
worth_words [] x = refl
worth_words (o ∷ os) x = ap (λ (z : ℤ). cond (x 0) (given o) (pos 0) +ℤ z) (worth_words os (λ i. x (suc i)))

total_first : (f : ℕ → ℕ) (n : ℕ) → total f (suc n) ≡ f 0 + total (λ i. f (suc i)) n
unfolding total
total_first f zero = omega arith
total_first f (suc n) = let h = total_first f n in omega arith

one : (c : ℤ) (b : Bool) (w : ℤ) (t n : ℕ) → pos t ≡ w +ℤ pos n → pos (kept c (mark b) + t) ≡ (cond b c (pos 0) +ℤ w) +ℤ pos (below c + n)
one (pos a) true w t n h = omega (arith, ints)
one (pos a) false w t n h = omega (arith, ints)
one (negsuc a) true w t n h = omega (arith, ints)
one (negsuc a) false w t n h = omega (arith, ints)

-- what is reached
abbrev pub reach : List ℤ → (ℕ → Bool) → ℕ → ℕ
reach cs x n = open_sum n (λ i. get_or cs i (pos 0)) (chosen x)

pub balance : (cs : List ℤ) (x : ℕ → Bool) → pos (reach cs x (length cs)) ≡ worth cs x +ℤ pos (negatives cs)
unfolding total
balance [] x = refl
balance (c ∷ cs) x =
    ap pos (total_first (λ i. kept (get_or (c ∷ cs) i (pos 0)) (mark (x i))) (length cs))
    ∙ one c (x 0) (worth cs (λ i. x (suc i))) (reach cs (λ i. x (suc i)) (length cs)) (negatives cs) (balance cs (λ i. x (suc i)))

there : (b w : ℤ) (m n : ℕ) → pos m ≡ w +ℤ pos n → b ≤ℤ w → (z : ℤ) → z ≡ b +ℤ pos n → floored z ≤ m
there b w m n e h (pos a) q = omega (arith, ints)
there b w m n e h (negsuc a) q = omega arith

back : (b w : ℤ) (m n : ℕ) → pos m ≡ w +ℤ pos n → (z : ℤ) → z ≡ b +ℤ pos n → floored z ≤ m → b ≤ℤ w
back b w m n e (pos a) q h = omega (arith, ints)
back b w m n e (negsuc a) q h = omega (arith, ints)

-- a row is met
abbrev pub RowMet : (ℕ → Bool) → Row → Type 0
RowMet x r = r.degree ≤ reach r.coefs x 40

abbrev pub RowsMet : (ℕ → Bool) → List Row → Type 0
RowsMet x [] = Unit {0}
RowsMet x (r ∷ rs) = RowMet x r × RowsMet x rs

module _ (cs : List ℤ) (forty : length cs ≡ 40) (x : ℕ → Bool) where
  even : pos (reach cs x 40) ≡ worth cs x +ℤ pos (negatives cs)
  even = ap (λ (n : ℕ). pos (reach cs x n)) (sym forty) ∙ balance cs x

  pub row_there : (b : ℤ) → b ≤ℤ worth cs x → RowMet x (at_least cs b)
  row_there b h = there b (worth cs x) (reach cs x 40) (negatives cs) even h (b +ℤ pos (negatives cs)) refl

  pub row_back : (b : ℤ) → RowMet x (at_least cs b) → b ≤ℤ worth cs x
  row_back b h = back b (worth cs x) (reach cs x 40) (negatives cs) even (b +ℤ pos (negatives cs)) refl h

-- turned signs
turn_one : (c w : ℤ) (b : Bool) → cond b (neg_ℤ c) (pos 0) +ℤ neg_ℤ w ≡ neg_ℤ (cond b c (pos 0) +ℤ w)
turn_one c w true = omega (arith, ints)
turn_one c w false = omega (arith, ints)

pub worth_turn : (cs : List ℤ) (x : ℕ → Bool) → worth (turn cs) x ≡ neg_ℤ (worth cs x)
unfolding turn
worth_turn [] x = refl
worth_turn (c ∷ cs) x = ap (λ (z : ℤ). cond (x 0) (neg_ℤ c) (pos 0) +ℤ z) (worth_turn cs (λ i. x (suc i))) ∙ turn_one c (worth cs (λ i. x (suc i))) (x 0)

turn_length : (cs : List ℤ) → length (turn cs) ≡ length cs
unfolding turn
turn_length [] = refl
turn_length (c ∷ cs) = ap suc (turn_length cs)

-- the rows of a rule, and what its comparison says
both_sides : (b w : ℤ) → b ≤ℤ w → neg_ℤ b ≤ℤ neg_ℤ w → w ≡ b
both_sides b w h k = omega (arith, ints)

left_side : (b w : ℤ) → w ≡ b → b ≤ℤ w
left_side b w h = omega (arith, ints)

right_side : (b w v : ℤ) → v ≡ neg_ℤ w → w ≡ b → neg_ℤ b ≤ℤ v
right_side b w v e h = omega (arith, ints)

module _ (cs : List ℤ) (forty : length cs ≡ 40) (x : ℕ → Bool) (b : ℤ) where
  turned : length (turn cs) ≡ 40
  turned = turn_length cs ∙ forty

  pub rule_there : (k : Comparison) → Compares k (worth cs x) b → RowsMet x (rows_by k cs b)
  rule_there AtLeast h = (row_there cs forty x b h, tt)
  rule_there Equal h = (row_there cs forty x b (left_side b (worth cs x) h), (row_there (turn cs) turned x (neg_ℤ b) (right_side b (worth cs x) (worth (turn cs) x) (worth_turn cs x) h), tt))

  pub rule_back : (k : Comparison) → RowsMet x (rows_by k cs b) → Compares k (worth cs x) b
  rule_back AtLeast h = row_back cs forty x b h.0
  rule_back Equal h =
      both_sides b (worth cs x) (row_back cs forty x b h.0) (subst (λ (v : ℤ). neg_ℤ b ≤ℤ v) (worth_turn cs x) (row_back (turn cs) turned x (neg_ℤ b) h.1.0))
