-- A table that is filled row by row.
use Rattle.std.proofs.Common.{◌≡◌, ℕ, zero, suc, ◌+◌, ◌-◌, ◌*◌, ◌<◌, ◌≤◌, List, [], ◌∷◌, ◌++◌, map, length, get_or, take, drop, replicate, ℤ, pos, neg_ℤ, nat_abs, sym, refl, ap, ◌∙◌, subst, append_assoc, append-nil, arith, length-append}
use Rattle.std.proofs.lemmas.Int.{ints}
use Rattle.std.proofs.lemmas.List.{take_at, drop_at, drop-drop, drop-replicate}
use Rattle.rows.specs.Rows.{Row, row_words, laid, table_with, Lined, at_least, turn, Narrow, Appends}

pub laid_append : (rs ss : List Row) → laid (rs ++ ss) ≡ laid rs ++ laid ss
unfolding laid
laid_append [] ss = refl
laid_append (r ∷ rs) ss = ap (λ (x : List ℤ). row_words r ++ x) (laid_append rs ss) ∙ sym (append_assoc (row_words r) (laid rs) (laid ss))

pub laid_one : (r : Row) → laid (r ∷ []) ≡ row_words r
unfolding laid
laid_one r = append-nil (row_words r)

pub laid_length : (rs : List Row) → Lined rs → length (laid rs) ≡ 41 * length rs
unfolding laid
laid_length [] l = refl
laid_length (r ∷ rs) l =
    let f = l.0 in
    let a = length-append (row_words r) (laid rs) in
    let b = laid_length rs l.1 in
    omega arith

pub lined_append : (rs ss : List Row) → Lined rs → Lined ss → Lined (rs ++ ss)
lined_append [] ss l m = m
lined_append (r ∷ rs) ss l m = (l.0, lined_append rs ss l.1 m)

-- one more row
module _ (front : List ℤ) (rs : List Row) (r : Row) (T U : List ℤ) (k : ℕ) (head : length front ≡ 44) (lined : Lined rs) (rows : length rs ≡ k) (room : k < 64) (before : T ≡ table_with front rs) where
  zeros : ℕ → List ℤ
  zeros n = replicate n (pos 0)

  shape : T ≡ (front ++ laid rs) ++ zeros (2624 - 41 * length rs)
  unfolding zeros
  shape = before ∙ sym (append_assoc front (laid rs) (replicate (2624 - 41 * length rs) (pos 0)))

  filled : length (front ++ laid rs) ≡ 44 + 41 * k
  filled = let a = length-append front (laid rs) in let b = laid_length rs lined in omega arith

  front_kept : take (44 + 41 * k) T ≡ front ++ laid rs
  front_kept = ap (take (44 + 41 * k)) shape ∙ take_at (front ++ laid rs) (zeros (2624 - 41 * length rs)) (44 + 41 * k) filled

  rest_zero : drop (44 + 41 * k + 41) T ≡ zeros (2624 - 41 * length rs - 41)
  unfolding zeros
  rest_zero =
      ap (drop (44 + 41 * k + 41)) shape ∙ sym (drop-drop 41 (44 + 41 * k) ((front ++ laid rs) ++ zeros (2624 - 41 * length rs)))
      ∙ ap (drop 41) (drop_at (front ++ laid rs) (zeros (2624 - 41 * length rs)) (44 + 41 * k) filled)
      ∙ drop-replicate 41 (2624 - 41 * length rs) (pos 0)

  pub row_laid : U ≡ take (44 + 41 * k) T ++ (row_words r ++ drop (44 + 41 * k + 41) T) → U ≡ table_with front (rs ++ r ∷ [])
  unfolding zeros
  row_laid h =
      let n : 2624 - 41 * length rs - 41 ≡ 2624 - 41 * length (rs ++ r ∷ []) = omega (arith, length-append rs (r ∷ [])) in
      let w : laid (rs ++ r ∷ []) ≡ laid rs ++ row_words r = laid_append rs (r ∷ []) ∙ ap (λ (x : List ℤ). laid rs ++ x) (laid_one r) in
      h ∙ ap (λ (x : List ℤ). x ++ (row_words r ++ drop (44 + 41 * k + 41) T)) front_kept
      ∙ ap (λ (x : List ℤ). (front ++ laid rs) ++ (row_words r ++ x)) rest_zero
      ∙ append_assoc front (laid rs) (row_words r ++ zeros (2624 - 41 * length rs - 41))
      ∙ ap (λ (x : List ℤ). front ++ x) (sym (append_assoc (laid rs) (row_words r) (zeros (2624 - 41 * length rs - 41))))
      ∙ ap (λ (x : List ℤ). front ++ (x ++ zeros (2624 - 41 * length rs - 41))) (sym w)
      ∙ ap (λ (i : ℕ). front ++ (laid (rs ++ r ∷ []) ++ zeros i)) n

-- turned coefficients are as narrow
neg_size : (z : ℤ) → nat_abs (neg_ℤ z) ≤ nat_abs z
neg_size z = omega (arith, ints)

turn_at : (cs : List ℤ) (i : ℕ) → nat_abs (get_or (map neg_ℤ cs) i (pos 0)) ≤ nat_abs (get_or cs i (pos 0))
turn_at [] i = omega arith
turn_at (c ∷ cs) zero = neg_size c
turn_at (c ∷ cs) (suc i) = turn_at cs i

map_length : (f : ℤ → ℤ) (cs : List ℤ) → length (map f cs) ≡ length cs
map_length f [] = refl
map_length f (c ∷ cs) = ap suc (map_length f cs)

pub turn_narrow : (cs : List ℤ) → Narrow cs → Narrow (turn cs)
unfolding turn
turn_narrow cs h = record { forty = map_length neg_ℤ cs ∙ h.forty; small = λ i. omega (arith, turn_at cs i, h.small i) }

-- some rows, and then some more
pub appends_both : (k j : ℕ) (T U V : List ℤ) (xs ys : List Row) → Lined xs → length xs ≡ j → Appends k T U xs → Appends (k + j) U V ys → Appends k T V (xs ++ ys)
appends_both k j T U V xs ys l n f g front rs head lined rows before =
    let m : length (rs ++ xs) ≡ k + j = omega (arith, length-append rs xs) in
    g front (rs ++ xs) head (lined_append rs xs lined l) m (f front rs head lined rows before)
    ∙ ap (table_with front) (append_assoc rs xs ys)

-- the row is that of these coefficients and this bound
pub appends_as : (k : ℕ) (T U cs ds : List ℤ) (b c : ℤ) → cs ≡ ds → b ≡ c → Appends k T U (at_least cs b ∷ []) → Appends k T U (at_least ds c ∷ [])
appends_as k T U cs ds b c e f h = subst (λ (x : List ℤ). Appends k T U (at_least x c ∷ [])) e (subst (λ (z : ℤ). Appends k T U (at_least cs z ∷ [])) f h)
