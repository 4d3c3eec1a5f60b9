-- Every step leaves fewer nodes.
use Rattle.std.proofs.Common.{◌≡◌, ℕ, zero, suc, ◌+◌, ◌-◌, ◌*◌, ◌^◌, ◌<◌, ◌≤◌, ap, ◌∙◌, inl, inr, add-one, arith, pow_pos, pow_mono}
use native.Mathlib.Nat.{pow-succ'}
use Rattle.std.proofs.lemmas.Bool.{cases_eq}
use Rattle.rules.specs.Sum.{total}
use Rattle.rules.proofs.Sum.{total_same, total_more}
use Rattle.rules.specs.declared.Mark.{Mark}
use Rattle.rules.specs.declared.Mark.TheVariants.{Free, Zero, One}
use Rattle.backtrack.specs.Walk.{deeper, turned, tree, at_zero, beside, left}
use Rattle.backtrack.proofs.Passing.{deeper_at, deeper_other, turned_below, turned_at}

some_nodes : (k : ℕ) → 0 < tree k
some_nodes k =
    let two : 2 ^ (k + 1) ≡ 2 * 2 ^ k = rw (add-one k) (pow-succ' 2 k) in
    omega (arith, pow_pos k)

-- a tree is a node and two trees
tree_more : (k : ℕ) → tree (k + 1) ≡ 2 * tree k + 1
tree_more k =
    let two : 2 ^ (k + 1 + 1) ≡ 2 * 2 ^ (k + 1) = rw (add-one (k + 1)) (pow-succ' 2 (k + 1)) in
    omega (arith, some_nodes k)

-- the two trees below a path of d variables
trees_below : (n d : ℕ) → d < n → tree (n - d) ≡ 2 * tree (n - suc d) + 1
trees_below n d l =
    let e : n - d ≡ (n - suc d) + 1 = omega arith in
    ap tree e ∙ tree_more (n - suc d)

beside_same : (n : ℕ) (p q : ℕ → Mark) (d : ℕ) → ((i : ℕ) → i < d → q i ≡ p i) → total (beside n q) d ≡ total (beside n p) d
beside_same n p q d same = total_same d (beside n q) (beside n p) (λ i l. ap (λ m. at_zero m (tree (n - suc i))) (same i l))

pub left_deeper : (n : ℕ) (p q : ℕ → Mark) (d : ℕ) → d < n → ((i : ℕ) → q i ≡ deeper p d i) → left n q (d + 1) + 1 ≡ left n p d
left_deeper n p q d l is =
    let more = total_more (beside n q) d in
    let same = beside_same n p q d (λ i b. is i ∙ deeper_other p d i (λ e. omega arith)) in
    let here : beside n q d ≡ tree (n - suc d) = ap (λ m. at_zero m (tree (n - suc d))) (is d ∙ deeper_at p d) in
    let width : tree (n - (d + 1)) ≡ tree (n - suc d) = ap (λ k. tree (n - k)) (add-one d) in
    omega (arith, trees_below n d l)

-- a longer front has no less beside it
front_le : (f : ℕ → ℕ) (i d : ℕ) → i ≤ d → total f i ≤ total f d
unfolding total
front_le f i zero l = let e : i ≡ 0 = omega arith in rw e (omega arith)
front_le f i (suc d) l = elim (cases_eq i (suc d)) [ inl e ↦ rw e (omega arith) | inr b ↦ omega (arith, front_le f i d (omega arith)) ]

pub left_turned : (n : ℕ) (p q : ℕ → Mark) (d t : ℕ) → t < d → p t ≡ Zero → ((i : ℕ) → q i ≡ turned p t i) → left n q (t + 1) < left n p d
left_turned n p q d t l z is =
    let more = total_more (beside n q) t in
    let old = total_more (beside n p) t in
    let front = front_le (beside n p) (t + 1) d (omega arith) in
    let same = beside_same n p q t (λ i b. is i ∙ turned_below p t i b) in
    let here : beside n q t ≡ 0 = ap (λ m. at_zero m (tree (n - suc t))) (is t ∙ turned_at p t) in
    let was : beside n p t ≡ tree (n - suc t) = ap (λ m. at_zero m (tree (n - suc t))) z in
    let width : tree (n - (t + 1)) ≡ tree (n - suc t) = ap (λ k. tree (n - k)) (add-one t) in
    omega (arith, some_nodes (n - d))

at_zero_le : (m : Mark) (k : ℕ) → at_zero m k ≤ k
at_zero_le Free k = omega arith
at_zero_le Zero k = omega arith
at_zero_le One k = omega arith

left_le : (n : ℕ) (p : ℕ → Mark) (d : ℕ) → d ≤ n → left n p d ≤ tree n
unfolding total
left_le n p zero l = let e : tree (n - 0) ≡ tree n = ap tree (omega arith) in omega arith
left_le n p (suc d) l = omega (arith, left_le n p d (omega arith), trees_below n d (omega arith), at_zero_le (p d) (tree (n - suc d)))

-- a question has at least one step left, and at most 2^81
pub left_within : (n : ℕ) (p : ℕ → Mark) (d : ℕ) → d ≤ n → n ≤ 80 → (0 < left n p d) × (left n p d ≤ 2 ^ 81)
left_within n p d l few =
    let most : 2 ^ (n + 1) ≤ 2 ^ 81 = let k : n + 1 ≤ 81 = omega arith in pow_mono k in
    (omega (arith, some_nodes (n - d)), omega (arith, left_le n p d l))
