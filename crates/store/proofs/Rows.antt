-- The row of good terms is within their limits.
use Rattle.std.proofs.Common.{◌≡◌, ℕ, zero, suc, ◌+◌, ◌<◌, ◌≤◌, Bool, true, false, cond, ◌⊎◌, List, [], ◌∷◌, length, get_or, set, replicate, ℤ, pos, sym, refl, ap, ◌∙◌, subst, inl, inr, arith}
use Rattle.std.proofs.lemmas.List.{get_or-set_same, get_or-set_other}
use Rattle.std.proofs.lemmas.Bool.{cases_eq}
use Rattle.rules.specs.Rule.{at, size}
use Rattle.rules.proofs.Placed.{zeros}
use Rattle.rules.specs.Terms.{signed, on_complement, placed, row_of}
use Rattle.rules.specs.declared.term.Term.{Term as Pair}
use Rattle.rules.specs.declared.term.Rule.{Rule as Row}
use Rattle.engine.specs.Held.{blank, no_term, variable_of, GoodTerm, Every}

complement_size : (c : ℕ) → size (on_complement c) ≡ c
complement_size zero = refl
complement_size (suc c) = refl

signed_size : (t : Pair) → size (signed t) ≡ t.coefficient
signed_size t = go t.literal.negated t.coefficient
  where
    go : (b : Bool) (c : ℕ) → size (cond b (on_complement c) (pos c)) ≡ c
    go true c = complement_size c
    go false c = refl

-- what stands at a place after a write: what was written, or what stood there
set_either : (row : List ℤ) (v : ℕ) (x : ℤ) (i : ℕ) → (at (set row v x) i ≡ x) ⊎ (at (set row v x) i ≡ at row i)
set_either [] v x i = inr refl
set_either (y ∷ row) zero x zero = inl refl
set_either (y ∷ row) zero x (suc i) = inr refl
set_either (y ∷ row) (suc v) x zero = inr refl
set_either (y ∷ row) (suc v) x (suc i) = set_either row v x i

placed_small : (most : ℕ) (ts : List Pair) (row : List ℤ) → ((i : ℕ) → size (at row i) ≤ most) → ((j : ℕ) → j < length ts → (get_or ts j no_term).coefficient ≤ most)
    → (i : ℕ) → size (at (placed row ts) i) ≤ most
placed_small most [] row h c i = h i
placed_small most (t ∷ ts) row h c i =
    placed_small most ts (set row t.literal.variable (signed t))
    (λ k. elim (set_either row t.literal.variable (signed t) k) [
      | inl e ↦ omega (arith, ap size e, signed_size t, c 0 (omega arith))
      | inr e ↦ omega (arith, ap size e, h k)
    ])
    (λ j l. c (suc j) (omega arith)) i

placed_beyond : (n : ℕ) (ts : List Pair) (row : List ℤ) → ((i : ℕ) → n ≤ i → at row i ≡ pos 0) → ((j : ℕ) → j < length ts → variable_of ts j < n)
    → (i : ℕ) → n ≤ i → at (placed row ts) i ≡ pos 0
placed_beyond n [] row h c i l = h i l
placed_beyond n (t ∷ ts) row h c i l =
    placed_beyond n ts (set row t.literal.variable (signed t))
    (λ k m. let b : t.literal.variable < n = c 0 (omega arith) in get_or-set_other row t.literal.variable k (signed t) (pos 0) (λ e. omega arith) ∙ h k m)
    (λ j m. c (suc j) (omega arith)) i l

pub row_small : (most n : ℕ) (ts : List Pair) → Every (GoodTerm most n ts) (length ts) → (i : ℕ) → size (at (row_of ts) i) ≤ most
row_small most n ts good = placed_small most ts (replicate 80 (pos 0)) (λ i. omega (arith, ap size (zeros 80 i))) (λ j l. (good j l).small)

pub row_beyond : (most n : ℕ) (ts : List Pair) → Every (GoodTerm most n ts) (length ts) → (i : ℕ) → n ≤ i → at (row_of ts) i ≡ pos 0
row_beyond most n ts good = placed_beyond n ts (replicate 80 (pos 0)) (λ i l. zeros 80 i) (λ j l. (good j l).known)

-- a property of each of the first rules holds with one rule more
pub one_rule_more : (P : Row → Type 0) (rules : List Row) (count : ℕ) (r : Row) → count < length rules → ((k : ℕ) → k < count → P (get_or rules k blank)) → P r
    → (k : ℕ) → k < count + 1 → P (get_or (set rules count r) k blank)
one_rule_more P rules count r room old new k l =
    elim (cases_eq k count) [
      | inl e ↦ subst P (sym (ap (λ j. get_or (set rules count r) j blank) e ∙ get_or-set_same rules count r blank room)) new
      | inr ne ↦ subst P (sym (get_or-set_other rules count k r blank ne)) (old k (omega arith))
    ]
