-- Different numbers below n are at most n.
use Rattle.std.proofs.Common.{◌≡◌, ℕ, zero, suc, ◌+◌, ◌<◌, ◌≤◌, true, false, cond, eqb, List, [], ◌∷◌, ◌++◌, length, take, set, replicate, sym, refl, ap, ◌∙◌, inl, inr, arith}
use Rattle.std.proofs.lemmas.List.{take_more, take_more_set, length-take-le, get_or-take, get_or-set_same, get_or-set_other}
use Rattle.rules.specs.Rule.{marked}
use Rattle.rules.specs.Terms.{true_mark, only}
use Rattle.rules.specs.declared.Mark.{Mark}
use Rattle.rules.specs.declared.Mark.TheVariants.{Free}
use Rattle.rules.specs.declared.term.Literal.{Literal}
use Rattle.engine.specs.Held.{Every, no_literal}
use Rattle.engine.specs.Questions.{literal_at, GoodLiteral}
use Rattle.std.proofs.lemmas.Bool.{eq-eqb, ne_eqb, cases_eq}
use Rattle.rules.specs.Sum.{total}
use Rattle.rules.proofs.Sum.{total_add, total_none, total_same_but, total_bound}

-- 1 where x is v; and how often v is among f 0 to f (k - 1)
abbrev hit : ℕ → ℕ → ℕ
hit x v = cond (eqb x v) 1 0

abbrev often : (ℕ → ℕ) → ℕ → ℕ → ℕ
often f k v = total (λ i. hit (f i) v) k

miss : (x v : ℕ) → (x ≡ v → ⊥) → hit x v ≡ 0
miss x v h = ap (λ b. cond b 1 0) (ne_eqb x v h)

hit_small : (x v : ℕ) → hit x v ≤ 1
hit_small x v = elim (eqb x v) as (λ b. cond b 1 0 ≤ 1) [ true ↦ omega arith | false ↦ omega arith ]

once : (x n : ℕ) → x < n → total (hit x) n ≡ 1
once x n l =
    let but = total_same_but n (hit x) (λ v. 0) x l (λ i b ne. miss x i (λ e. ne (sym e))) in
    let self : hit x x ≡ 1 = ap (λ b. cond b 1 0) (eq-eqb x x refl) in
    let none = total_none n (λ v. 0) (λ i b. refl) in
    omega arith

each_once : (n : ℕ) (f : ℕ → ℕ) (k : ℕ) → ((i : ℕ) → i < k → f i < n) → total (often f k) n ≡ k
unfolding total
each_once n f zero h = total_none n (often f zero) (λ i b. refl)
each_once n f (suc k) h =
    let add = total_add n (often f k) (hit (f k)) in
    omega (arith, each_once n f k (λ i b. h i (omega arith)), once (f k) n (h k (omega arith)))

at_most_once : (f : ℕ → ℕ) (k v : ℕ) → ((i : ℕ) → i < k → (j : ℕ) → j < i → f j ≡ f i → ⊥) → often f k v ≤ 1
unfolding total
at_most_once f zero v h = omega arith
at_most_once f (suc k) v h =
    elim (cases_eq (f k) v) [
      | inl e ↦ let none = total_none k (λ i. hit (f i) v) (λ i b. miss (f i) v (λ q. h k (omega arith) i b (q ∙ sym e))) in omega (arith, hit_small (f k) v)
      | inr ne ↦ omega (arith, miss (f k) v ne, at_most_once f k v (λ i b. h i (omega arith)))
    ]

pub distinct_few : (n k : ℕ) (f : ℕ → ℕ) → ((i : ℕ) → i < k → f i < n) → ((i : ℕ) → i < k → (j : ℕ) → j < i → f j ≡ f i → ⊥) → k ≤ n
distinct_few n k f below apart = omega (arith, each_once n f k below, total_bound n 1 (often f k) (λ v b. at_most_once f k v apart))

-- so good literals are no more than the variables
pub literals_few : (n : ℕ) (ls : List Literal) (k : ℕ) → Every (GoodLiteral n ls) k → k ≤ n
literals_few n ls k good = distinct_few n k (λ i. (literal_at ls i).variable) (λ i l. (good i l).known) (λ i l. (good i l).once)

-- one literal more is kept
pub one_more_kept : (kept ls : List Literal) (i : ℕ) → length kept ≡ 80 → i < 80 → i < length ls → take i kept ≡ take i ls
    → take (i + 1) (set kept i (literal_at ls i)) ≡ take (i + 1) ls
one_more_kept kept ls i whole l m h = take_more_set kept i (literal_at ls i) (omega arith) ∙ (ap (λ xs. xs ++ (literal_at ls i ∷ [])) h ∙ sym (take_more ls i no_literal m))

-- ---- the marks of literals
pub free_marks : (n v : ℕ) → marked (replicate n Free) v ≡ Free
free_marks zero v = refl
free_marks (suc n) zero = refl
free_marks (suc n) (suc v) = free_marks n v

-- a literal at the end marks its variable where none before it does, and no other
only_push_other : (ls : List Literal) (l : Literal) (v : ℕ) → (v ≡ l.variable → ⊥) → only (ls ++ (l ∷ [])) v ≡ only ls v
only_push_other [] l v ne = ap (λ b. cond b (true_mark l) Free) (ne_eqb v l.variable ne)
only_push_other (x ∷ ls) l v ne = ap (λ m. cond (eqb v x.variable) (true_mark x) m) (only_push_other ls l v ne)

only_push_new : (ls : List Literal) (l : Literal) → ((j : ℕ) → j < length ls → (literal_at ls j).variable ≡ l.variable → ⊥) → only (ls ++ (l ∷ [])) l.variable ≡ true_mark l
only_push_new [] l none = ap (λ b. cond b (true_mark l) Free) (eq-eqb l.variable l.variable refl)
only_push_new (x ∷ ls) l none =
    ap (λ b. cond b (true_mark x) (only (ls ++ (l ∷ [])) l.variable)) (ne_eqb l.variable x.variable (λ e. none 0 (omega arith) (sym e)))
    ∙ only_push_new ls l (λ j b. none (suc j) (omega arith))

-- a variable of no literal is not marked
pub only_free : (ls : List Literal) (v : ℕ) → ((j : ℕ) → j < length ls → (literal_at ls j).variable ≡ v → ⊥) → only ls v ≡ Free
only_free [] v none = refl
only_free (x ∷ ls) v none =
    ap (λ b. cond b (true_mark x) (only ls v)) (ne_eqb v x.variable (λ e. none 0 (omega arith) (sym e)))
    ∙ only_free ls v (λ j b. none (suc j) (omega arith))

-- one literal more is marked
pub one_more_marked : (n : ℕ) (marks : List Mark) (ls : List Literal) (i : ℕ) (m : Mark) → length marks ≡ 80 → i < length ls → n ≤ 80 → GoodLiteral n ls i
    → m ≡ true_mark (literal_at ls i) → ((v : ℕ) → marked marks v ≡ only (take i ls) v)
    → (v : ℕ) → marked (set marks (literal_at ls i).variable m) v ≡ only (take (i + 1) ls) v
one_more_marked n marks ls i m wide l few good is old v =
    let x = literal_at ls i in
    let more = ap (λ xs. only xs v) (take_more ls i no_literal l) in
    elim (cases_eq v x.variable) [
      | inl e ↦
          let new = only_push_new (take i ls) x (λ j b q. good.once j (omega (arith, length-take-le i ls (omega arith))) (sym (ap (λ (y : Literal). y.variable) (get_or-take i ls j no_literal (omega (arith, length-take-le i ls (omega arith))))) ∙ q)) in
          (ap (λ k. marked (set marks x.variable m) k) e ∙ get_or-set_same marks x.variable m Free (omega (arith, good.known)))
          ∙ (is ∙ (sym new ∙ (ap (only (take i ls ++ (x ∷ []))) (sym e) ∙ sym more)))
      | inr ne ↦ get_or-set_other marks x.variable v m Free ne ∙ (old v ∙ (sym (only_push_other (take i ls) x v ne) ∙ sym more))
    ]
