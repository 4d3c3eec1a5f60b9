-- Lines, rows and rules in words.
use Rattle.std.specs.Prelude.{ℕ, zero, suc, ◌+◌, Bool, false, cond, not, List, [], ◌∷◌, ◌++◌, ℤ, pos, ◌==◌, codes, decimal, slice_index_or, int_lt}
use Rattle.rules.specs.Rule.{at, size}
use Rattle.rules.specs.Words.{literal_words, term_words}
use Rattle.rules.specs.declared.term.Literal.{Literal}
use Rattle.rules.specs.declared.term.Term.{Term}
use Rattle.rules.specs.declared.term.Rule.{Rule}
use Rattle.core_text.specs.declared.line.LineError.{LineError}
use Rattle.core_text.specs.declared.line.LineError.TheVariants.{Short, Number, Long}

-- what is wrong with a line
abbrev pub line_error_words : LineError → List ℕ
line_error_words Short = codes "a field is missing"
line_error_words Number = codes "a number is none, or beyond its limits"
line_error_words Long = codes "a row has more than eighty numbers"

-- what stands before the next piece of a text: nothing where it is the first
abbrev pub lead : List ℕ → List ℕ → List ℕ
lead between [] = []
lead between (b ∷ bs) = between

-- the pieces of the places below n that have one, with the same words between each two
unfoldable pub pieces : List ℕ → (ℕ → Bool) → (ℕ → List ℕ) → ℕ → List ℕ
pieces between has piece zero = []
pieces between has piece (suc n) =
    let text = pieces between has piece n in
    cond (has n) (text ++ (lead between text ++ piece n)) text

-- a row has a term with a variable, and its literal and the term
abbrev pub has_term : List ℤ → ℕ → Bool
has_term row i = not (size (at row i) == 0)

abbrev pub literal_at : List ℤ → ℕ → Literal
literal_at row i = record { variable = i; negated = int_lt (at row i) (pos 0) }

abbrev pub term_at : List ℤ → ℕ → Term
term_at row i = record { coefficient = size (at row i); literal = literal_at row i }

-- the terms of a row, as 3 x1 + 2 -x3; 0 where there is none
abbrev pub or_zero : List ℕ → List ℕ
or_zero [] = codes "0"
or_zero (b ∷ bs) = b ∷ bs

abbrev pub terms_words : List ℤ → List ℕ
terms_words row = or_zero (pieces (codes " + ") (has_term row) (λ i. term_words (term_at row i)) 80)

-- a rule, as 3 x1 + 2 -x3 >= 4
abbrev pub rule_words : Rule → List ℕ
rule_words r = terms_words r.coefficients ++ (codes " >= " ++ decimal r.degree)

-- the literals of a row that are in a set, as x1 -x3
abbrev pub literals_words : List ℤ → List Bool → List ℕ
literals_words row members = pieces (codes " ") (λ i. slice_index_or members i false) (λ i. literal_words (literal_at row i)) 80

-- the numbers, from 1, of the variables that a row has a term with, as 1,3
abbrev pub numbers_words : List ℤ → List ℕ
numbers_words row = pieces (codes ",") (has_term row) (λ i. decimal (i + 1)) 80
