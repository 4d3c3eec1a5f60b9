-- A text that is made of pieces, piece by piece.
use Rattle.std.proofs.Common.{◌≡◌, ℕ, ◌+◌, ◌<◌, Bool, true, false, cond, List, [], ◌∷◌, ◌++◌, ℤ, slice_index_or, length, codes, decimal, refl, sym, ap, ◌∙◌, add-one, arith}
use Rattle.rules.specs.Words.{literal_words, term_words}
use Rattle.rules.specs.declared.term.Literal.{Literal}
use Rattle.rules.specs.declared.term.Term.{Term}
use Rattle.core_text.specs.Words.{lead, pieces, has_term, literal_at, term_at}

-- the terms, the numbers and the literals of the variables below n
abbrev pub terms_so_far : List ℤ → ℕ → List ℕ
terms_so_far row n = pieces (codes " + ") (has_term row) (λ i. term_words (term_at row i)) n

abbrev pub numbers_so_far : List ℤ → ℕ → List ℕ
numbers_so_far row n = pieces (codes ",") (has_term row) (λ i. decimal (i + 1)) n

abbrev pub literals_so_far : List ℤ → List Bool → ℕ → List ℕ
literals_so_far row members n = pieces (codes " ") (λ i. slice_index_or members i false) (λ i. literal_words (literal_at row i)) n

-- a literal and a term have some words
words_after : (xs ys : List ℕ) → 0 < length ys → 0 < length (xs ++ ys)
words_after [] ys l = l
words_after (x ∷ xs) ys l = omega arith

x_words : (negated : Bool) (ds : List ℕ) → 0 < length (cond negated (codes "-x") (codes "x") ++ ds)
x_words true ds = omega arith
x_words false ds = omega arith

pub some_literal : (l : Literal) → 0 < length (literal_words l)
some_literal l = x_words l.negated _

pub some_term : (t : Term) → 0 < length (term_words t)
some_term t = words_after (decimal t.coefficient) (codes " " ++ literal_words t.literal) (omega arith)

-- behind a text that is not empty stands what is between two pieces
lead_more : (between text piece : List ℕ) → 0 < length piece → lead between (text ++ (lead between text ++ piece)) ≡ between
lead_more between [] [] l = elim l [ ]
lead_more between [] (p ∷ ps) l = refl
lead_more between (b ∷ bs) piece l = refl

module _ (between : List ℕ) (has : ℕ → Bool) (piece : ℕ → List ℕ) (n : ℕ) where
  -- one place more
  pieces_more : pieces between has piece (n + 1) ≡ cond (has n) (pieces between has piece n ++ (lead between (pieces between has piece n) ++ piece n)) (pieces between has piece n)
  unfolding pieces
  pieces_more = rw (add-one n) refl

  -- one that has a piece, and what stands before the next
  pub with_piece : has n ≡ true → pieces between has piece n ++ (lead between (pieces between has piece n) ++ piece n) ≡ pieces between has piece (n + 1)
  with_piece e = rw pieces_more (rw e refl)

  pub then_lead : has n ≡ true → 0 < length (piece n) → between ≡ lead between (pieces between has piece (n + 1))
  then_lead e l = sym (lead_more between (pieces between has piece n) (piece n) l) ∙ ap (lead between) (with_piece e)

  -- one that has none
  pub without_piece : has n ≡ false → pieces between has piece n ≡ pieces between has piece (n + 1)
  without_piece e = rw pieces_more (rw e refl)
