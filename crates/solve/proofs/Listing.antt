-- The terms of a row, one by one.
use Rattle.std.proofs.Common.{◌≡◌, ℕ, ◌+◌, ◌<◌, ◌≤◌, List, [], ◌∷◌, ◌++◌, length, get_or, set, replicate, ℤ, pos, sym, ap, ◌∙◌, subst, inl, inr, arith}
use Rattle.std.proofs.lemmas.List.{get_or-set_same, get_or-set_other, get_or_past, get_or_append_left, get_or_at, length_push}
use Rattle.std.proofs.lemmas.Bool.{cases_eq, cases_lt}
use Rattle.rules.specs.Rule.{at, size}
use Rattle.rules.proofs.Placed.{zeros, placed_push, placed_length}
use Rattle.rules.specs.Terms.{signed, row_of}
use Rattle.rules.specs.declared.term.Term.{Term as Pair}
use Rattle.engine.specs.Held.{no_term, variable_of}
use Rattle.solve.specs.Listed.{Lists}

-- the terms stand for the row up to a variable
pub record Front (row : List ℤ) (n : ℕ) (ts : List Pair) : Type 0 where
  pub row_is : (v : ℕ) → v < n → at (row_of ts) v ≡ at row v
  pub rest : (v : ℕ) → n ≤ v → at (row_of ts) v ≡ pos 0
  pub some : (j : ℕ) → j < length ts → 0 < (get_or ts j no_term).coefficient
  pub size_is : (j : ℕ) → j < length ts → (get_or ts j no_term).coefficient ≡ size (at row (variable_of ts j))
  pub below : (j : ℕ) → j < length ts → variable_of ts j < n
  pub order : (i j : ℕ) → i < j → j < length ts → variable_of ts i < variable_of ts j

pub front_start : (row : List ℤ) → Front row 0 []
front_start row = record {
  row_is = λ v l. absurd (omega arith);
  rest = λ v l. zeros 80 v;
  some = λ j l. absurd (omega arith);
  size_is = λ j l. absurd (omega arith);
  below = λ j l. absurd (omega arith);
  order = λ i j k l. absurd (omega arith);
}

-- a variable that the rule does not speak of
pub front_skip : (row : List ℤ) (n : ℕ) (ts : List Pair) → at row n ≡ pos 0 → Front row n ts → Front row (n + 1) ts
front_skip row n ts none f = record {
  row_is = λ v l. elim (cases_eq v n) [ inl e ↦ rw e (f.rest n (omega arith) ∙ sym none) | inr ne ↦ f.row_is v (omega arith) ];
  rest = λ v l. f.rest v (omega arith);
  some = f.some;
  size_is = f.size_is;
  below = λ j l. omega (arith, f.below j l);
  order = f.order;
}

-- a property of each term holds with one more
with_last : (P : Pair → Type 0) (ts : List Pair) (t : Pair) → ((j : ℕ) → j < length ts → P (get_or ts j no_term)) → P t → (j : ℕ) → j < length (ts ++ (t ∷ [])) → P (get_or (ts ++ (t ∷ [])) j no_term)
with_last P ts t old new j l =
    elim (cases_eq j (length ts)) [
      | inl e ↦ subst P (sym (get_or_at ts t [] no_term j (sym e))) new
      | inr ne ↦ let b : j < length ts = omega (arith, length_push ts t) in subst P (sym (get_or_append_left ts (t ∷ []) no_term j b)) (old j b)
    ]

module _ (row : List ℤ) (n : ℕ) (ts : List Pair) (t : Pair) (wide : n < 80) (sign : signed t ≡ at row n) (large : t.coefficient ≡ size (at row n))
    (var : t.literal.variable ≡ n) (some : 0 < t.coefficient) (f : Front row n ts) where
  row_more : (v : ℕ) → at (row_of (ts ++ (t ∷ []))) v ≡ at (set (row_of ts) n (signed t)) v
  row_more v = ap (λ xs. at xs v) (placed_push (replicate 80 (pos 0)) ts t) ∙ ap (λ k. at (set (row_of ts) k (signed t)) v) var

  in_row : n < length (row_of ts)
  in_row = omega (arith, placed_length (replicate 80 (pos 0)) ts)

  order_more : (i j : ℕ) → i < j → j < length (ts ++ (t ∷ [])) → variable_of (ts ++ (t ∷ [])) i < variable_of (ts ++ (t ∷ [])) j
  order_more i j l b =
      let long = length_push ts t in
      let il : i < length ts = omega arith in
      let first : variable_of (ts ++ (t ∷ [])) i ≡ variable_of ts i = ap (λ (x : Pair). x.literal.variable) (get_or_append_left ts (t ∷ []) no_term i il) in
      elim (cases_eq j (length ts)) [
        | inl e ↦
            let last : variable_of (ts ++ (t ∷ [])) j ≡ t.literal.variable = ap (λ (x : Pair). x.literal.variable) (get_or_at ts t [] no_term j (sym e)) in
            omega (arith, f.below i il)
        | inr ne ↦
            let jl : j < length ts = omega arith in
            let second : variable_of (ts ++ (t ∷ [])) j ≡ variable_of ts j = ap (λ (x : Pair). x.literal.variable) (get_or_append_left ts (t ∷ []) no_term j jl) in
            omega (arith, f.order i j l jl)
      ]

  -- one term more, at the end
  pub front_more : Front row (n + 1) (ts ++ (t ∷ []))
  front_more = record {
    row_is = λ v l. row_more v ∙ elim (cases_eq v n) [
      | inl e ↦ rw e (get_or-set_same (row_of ts) n (signed t) (pos 0) in_row ∙ sign)
      | inr ne ↦ get_or-set_other (row_of ts) n v (signed t) (pos 0) ne ∙ f.row_is v (omega arith)
    ];
    rest = λ v l. row_more v ∙ (get_or-set_other (row_of ts) n v (signed t) (pos 0) (λ e. omega arith) ∙ f.rest v (omega arith));
    some = with_last (λ x. 0 < x.coefficient) ts t f.some some;
    size_is = with_last (λ x. x.coefficient ≡ size (at row x.literal.variable)) ts t f.size_is (large ∙ ap (λ k. size (at row k)) (sym var));
    below = with_last (λ x. x.literal.variable < n + 1) ts t (λ j l. omega (arith, f.below j l)) (omega arith);
    order = order_more;
  }

-- at the end the terms stand for the whole row
pub front_all : (row : List ℤ) (n : ℕ) (ts : List Pair) → length row ≡ 80 → 80 ≤ n → Front row n ts → Lists row ts
front_all row n ts whole end f = record {
  row_is = λ v. elim (cases_lt v n) [ inl l ↦ f.row_is v l | inr l ↦ f.rest v l ∙ sym (get_or_past row v (pos 0) (omega arith)) ];
  some = f.some;
  size_is = f.size_is;
  order = f.order;
}
