-- The words of a sheet's table, and what they say.
use Rattle.std.proofs.Common.{◌≡◌, ℕ, zero, suc, ◌+◌, ◌-◌, ◌*◌, ◌<◌, ◌≤◌, Bool, true, false, List, [], ◌∷◌, ◌++◌, length, get_or, replicate, ℤ, pos, ◌+ℤ◌, neg_ℤ, nat_abs, Some, None, Option, sym, refl, ap, ◌∙◌, subst, append_assoc, arith}
use Rattle.std.proofs.lemmas.List.{get_or_append_left, get_or-append-add, get_or-replicate}
use Rattle.std.proofs.lemmas.Int.{ints}
use Rattle.rules.specs.Rule.{kept}
use Rattle.rules.proofs.Sum.{total_same, total_none}
use Rattle.table.specs.Layout.{rules_of, degree}
use Rattle.table.specs.Meaning.{mark, reached, Meets, weights, price}
use Rattle.lines.specs.declared.line.Comparison.{Comparison}
use Rattle.lines.specs.declared.line.Comparison.TheVariants.{AtLeast, Equal}
use Rattle.lines.specs.declared.line.Rule.{Rule}
use Rattle.lines.specs.declared.line.Sum.{Sum}
use Rattle.rows.specs.Rows.{Row, row_words, laid, table_with, Lined, Narrow, NarrowPrice, words, negatives, all_rows, rule_rows, rows_by, front_of, base_of}
use Rattle.rows.proofs.Laid.{turn_narrow, lined_append}
use Rattle.opb.specs.Sheets.{Written, Says, table_of}
use Rattle.opb.proofs.Narrow.{AllNarrow, said_narrow}
use Rattle.meaning.specs.Means.{value, Compares, TrueFor, AllTrue, cost, TableMeans}
use Rattle.meaning.proofs.Balance.{worth, worth_words, reach, balance, RowMet, RowsMet, rule_there, rule_back}

-- the row of an index
pub blank : Row
blank = record { degree = 0; coefs = [] }

abbrev pub nth : List Row → ℕ → Row
nth rs k = get_or rs k blank

-- the word j of row k
row_word : (rs : List Row) (zs : List ℤ) (k j : ℕ) → Lined rs → k < length rs → j < 41 → get_or (laid rs ++ zs) (41 * k + j) (pos 0) ≡ get_or (row_words (nth rs k)) j (pos 0)
unfolding laid
row_word [] zs k j l h b = absurd (omega arith)
row_word (r ∷ rs) zs zero j l h b =
    let n : length (row_words r) ≡ 41 = ap suc l.0 in
    let m : j < length (row_words r) = omega arith in
    ap (λ (i : ℕ). get_or ((row_words r ++ laid rs) ++ zs) i (pos 0)) (omega arith)
    ∙ ap (λ (x : List ℤ). get_or x j (pos 0)) (append_assoc (row_words r) (laid rs) zs)
    ∙ get_or_append_left (row_words r) (laid rs ++ zs) (pos 0) j m
row_word (r ∷ rs) zs (suc k) j l h b =
    let n : length (row_words r) ≡ 41 = ap suc l.0 in
    let e : 41 * suc k + j ≡ length (row_words r) + (41 * k + j) = omega arith in
    ap (λ (i : ℕ). get_or ((row_words r ++ laid rs) ++ zs) i (pos 0)) e
    ∙ ap (λ (x : List ℤ). get_or x (length (row_words r) + (41 * k + j)) (pos 0)) (append_assoc (row_words r) (laid rs) zs)
    ∙ get_or-append-add (row_words r) (laid rs ++ zs) (41 * k + j) (pos 0)
    ∙ row_word rs zs k j l.1 (omega arith) b

module _ (front : List ℤ) (rs : List Row) (head : length front ≡ 44) (lined : Lined rs) (count : get_or front 1 (pos 0) ≡ pos (length rs)) where
  pub behind : (k j : ℕ) → k < length rs → j < 41 → get_or (table_with front rs) (44 + 41 * k + j) (pos 0) ≡ get_or (row_words (nth rs k)) j (pos 0)
  behind k j h b =
      ap (λ (i : ℕ). get_or (table_with front rs) i (pos 0)) (omega (arith, head))
      ∙ get_or-append-add front (laid rs ++ replicate (2624 - 41 * length rs) (pos 0)) (41 * k + j) (pos 0)
      ∙ row_word rs (replicate (2624 - 41 * length rs) (pos 0)) k j lined h b

  pub within : (i : ℕ) → i < 44 → get_or (table_with front rs) i (pos 0) ≡ get_or front i (pos 0)
  within i h = let m : i < length front = omega arith in get_or_append_left front (laid rs ++ replicate (2624 - 41 * length rs) (pos 0)) (pos 0) i m

  pub rules_count : rules_of (table_with front rs) ≡ length rs
  rules_count = ap nat_abs (within 1 (omega arith) ∙ count)

  degree_is : (k : ℕ) → k < length rs → degree (table_with front rs) k ≡ (nth rs k).degree
  degree_is k h = ap (λ (i : ℕ). nat_abs (get_or (table_with front rs) i (pos 0))) (omega arith) ∙ ap nat_abs (behind k 0 h (omega arith))

  reached_is : (k : ℕ) (x : ℕ → Bool) → k < length rs → reached (table_with front rs) k x ≡ reach (nth rs k).coefs x 40
  reached_is k x h =
      total_same 40 _ _ (λ i l.
      (let e : 1 + i ≡ suc i = omega arith in
      ap (λ (z : ℤ). kept z (mark (x i))) (behind k (1 + i) h (omega arith) ∙ ap (λ (j : ℕ). get_or (row_words (nth rs k)) j (pos 0)) e)))

  met_at : (x : ℕ → Bool) (k : ℕ) → k < length rs → degree (table_with front rs) k ≤ reached (table_with front rs) k x → RowMet x (nth rs k)
  met_at x k h m = let a = degree_is k h in let b = reached_is k x h in omega arith

  at_met : (x : ℕ → Bool) (k : ℕ) → k < length rs → RowMet x (nth rs k) → degree (table_with front rs) k ≤ reached (table_with front rs) k x
  at_met x k h m = let a = degree_is k h in let b = reached_is k x h in omega arith

-- all rows, one by one
all_met : (x : ℕ → Bool) (rs : List Row) → ((k : ℕ) → k < length rs → RowMet x (nth rs k)) → RowsMet x rs
all_met x [] f = tt
all_met x (r ∷ rs) f = (f 0 (omega arith), all_met x rs (λ k h. f (suc k) (omega arith)))

met_all : (x : ℕ → Bool) (rs : List Row) (k : ℕ) → k < length rs → RowsMet x rs → RowMet x (nth rs k)
met_all x [] k h m = absurd (omega arith)
met_all x (r ∷ rs) zero h m = m.0
met_all x (r ∷ rs) (suc k) h m = met_all x rs k (omega arith) m.1

split_met : (x : ℕ → Bool) (rs ss : List Row) → RowsMet x (rs ++ ss) → RowsMet x rs × RowsMet x ss
split_met x [] ss m = (tt, m)
split_met x (r ∷ rs) ss m = let w = split_met x rs ss m.1 in ((m.0, w.0), w.1)

join_met : (x : ℕ → Bool) (rs ss : List Row) → RowsMet x rs → RowsMet x ss → RowsMet x (rs ++ ss)
join_met x [] ss m n = n
join_met x (r ∷ rs) ss m n = (m.0, join_met x rs ss m.1 n)

-- rules
worth_is : (s : Sum) (x : ℕ → Bool) → worth (words s) x ≡ value s x
unfolding words
worth_is s x = worth_words s.terms x

true_from : (x : ℕ → Bool) (q : Rule) → Narrow (words q.sum) → RowsMet x (rule_rows q) → TrueFor x q
true_from x q n m = subst (λ (v : ℤ). Compares q.comparison v q.bound) (worth_is q.sum x) (rule_back (words q.sum) n.forty x q.bound q.comparison m)

true_to : (x : ℕ → Bool) (q : Rule) → Narrow (words q.sum) → TrueFor x q → RowsMet x (rule_rows q)
true_to x q n t = rule_there (words q.sum) n.forty x q.bound q.comparison (subst (λ (v : ℤ). Compares q.comparison v q.bound) (sym (worth_is q.sum x)) t)

rules_from : (x : ℕ → Bool) (qs : List Rule) → AllNarrow qs → RowsMet x (all_rows qs) → AllTrue x qs
rules_from x [] n m = tt
rules_from x (q ∷ qs) n m = let w = split_met x (rule_rows q) (all_rows qs) m in (true_from x q n.0 w.0, rules_from x qs n.1 w.1)

rules_to : (x : ℕ → Bool) (qs : List Rule) → AllNarrow qs → AllTrue x qs → RowsMet x (all_rows qs)
rules_to x [] n t = tt
rules_to x (q ∷ qs) n t = join_met x (rule_rows q) (all_rows qs) (true_to x q n.0 t.0) (rules_to x qs n.1 t.1)

rows_lined : (k : Comparison) (cs : List ℤ) (b : ℤ) → Narrow cs → Lined (rows_by k cs b)
rows_lined AtLeast cs b h = (h.forty, tt)
rows_lined Equal cs b h = (h.forty, ((turn_narrow cs h).forty, tt))

pub all_lined : (qs : List Rule) → AllNarrow qs → Lined (all_rows qs)
all_lined [] n = tt
all_lined (q ∷ qs) n = lined_append (rule_rows q) (all_rows qs) (rows_lined q.comparison (words q.sum) q.bound n.0) (all_lined qs n.1)

-- the words in front
pub front_length : (n m : ℕ) (p : Option Sum) → NarrowPrice p → length (front_of n m p) ≡ 44
front_length n m None h = refl
front_length n m (Some s) h = ap (λ (k : ℕ). suc (suc (suc (suc k)))) h.forty

pub front_count : (n m : ℕ) (p : Option Sum) → get_or (front_of n m p) 1 (pos 0) ≡ pos m
front_count n m None = refl
front_count n m (Some s) = refl

-- the weights, as words
abbrev pub weight_words : Option Sum → List ℤ
weight_words None = replicate 40 (pos 0)
weight_words (Some s) = words s

-- the price, by the words in front
pub weight_word : (n m : ℕ) (p : Option Sum) (i : ℕ) → get_or (front_of n m p) (4 + i) (pos 0) ≡ get_or (weight_words p) i (pos 0)
weight_word n m p i = let e : 4 + i ≡ suc (suc (suc (suc i))) = omega arith in ap (λ (j : ℕ). get_or (front_of n m p) j (pos 0)) e ∙ by p
  where
    by : (o : Option Sum) → get_or (front_of n m o) (suc (suc (suc (suc i)))) (pos 0) ≡ get_or (weight_words o) i (pos 0)
    by None = refl
    by (Some s) = refl

none_reach : (x : ℕ → Bool) → reach (replicate 40 (pos 0)) x 40 ≡ 0
none_reach x = total_none 40 _ (λ i l. (rw (get_or-replicate 40 i (pos 0) (pos 0) l) (none (x i))))
  where
    none : (b : Bool) → kept (pos 0) (mark b) ≡ 0
    none true = refl
    none false = refl

balanced : (a w : ℤ) (n t : ℕ) → a ≡ neg_ℤ (pos n) → pos t ≡ w +ℤ pos n → a +ℤ pos t ≡ w
balanced a w n t e h = omega (arith, ints)

cost_is : (n m : ℕ) (p : Option Sum) (x : ℕ → Bool) → NarrowPrice p → get_or (front_of n m p) 2 (pos 0) +ℤ pos (reach (weight_words p) x 40) ≡ cost x p
cost_is n m None x h = ap (λ (t : ℕ). pos 0 +ℤ pos t) (none_reach x)
cost_is n m (Some s) x h =
    balanced (base_of (words s)) (worth (words s) x) (negatives (words s)) (reach (words s) x 40) refl (ap (λ (k : ℕ). pos (reach (words s) x k)) (sym h.forty) ∙ balance (words s) x)
    ∙ worth_is s x

module _ (text : List ℕ) (s : Written) (h : Says text s) where
  head : length (front_of s.header.parts (length (all_rows s.rules)) s.price) ≡ 44
  head = front_length s.header.parts (length (all_rows s.rules)) s.price (said_narrow text s h).1

  lined : Lined (all_rows s.rules)
  lined = all_lined s.rules (said_narrow text s h).0

  count : get_or (front_of s.header.parts (length (all_rows s.rules)) s.price) 1 (pos 0) ≡ pos (length (all_rows s.rules))
  count = front_count s.header.parts (length (all_rows s.rules)) s.price

  kept_rules : (x : ℕ → Bool) → Meets (table_of s) x → AllTrue x s.rules
  kept_rules x m =
      rules_from x s.rules (said_narrow text s h).0
      (all_met x (all_rows s.rules) (λ k l. met_at _ (all_rows s.rules) head lined count x k l (m k (omega (arith, rules_count _ (all_rows s.rules) head lined count)))))

  held_rules : (x : ℕ → Bool) → AllTrue x s.rules → Meets (table_of s) x
  held_rules x t k l =
      let i : k < length (all_rows s.rules) = omega (arith, rules_count _ (all_rows s.rules) head lined count) in
      at_met _ (all_rows s.rules) head lined count x k i (met_all x (all_rows s.rules) k i (rules_to x s.rules (said_narrow text s h).0 t))

  weights_is : (x : ℕ → Bool) → weights (table_of s) x ≡ reach (weight_words s.price) x 40
  weights_is x =
      total_same 40 _ _ (λ i l. ap (λ (z : ℤ). kept z (mark (x i))) (within _ (all_rows s.rules) head lined count (4 + i) (omega arith) ∙ weight_word s.header.parts (length (all_rows s.rules)) s.price i))

  price_same : (x : ℕ → Bool) → price (table_of s) x ≡ cost x s.price
  price_same x =
      ap (λ (z : ℤ). z +ℤ pos (weights (table_of s) x)) (within _ (all_rows s.rules) head lined count 2 (omega arith))
      ∙ ap (λ (t : ℕ). get_or (front_of s.header.parts (length (all_rows s.rules)) s.price) 2 (pos 0) +ℤ pos t) (weights_is x)
      ∙ cost_is s.header.parts (length (all_rows s.rules)) s.price x (said_narrow text s h).1

pub table_means : TableMeans
table_means text s h = record { rules_kept = kept_rules text s h; rules_held = held_rules text s h; price_is = price_same text s h }
