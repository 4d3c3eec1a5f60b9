-- How literals, terms and rules are printed.
use Rattle.std.specs.Prelude.{ℕ, zero, suc, ◌+◌, Bool, true, false, cond, not, List, [], ◌∷◌, ◌++◌, ℤ, pos, codes, decimal, ◌==◌, int_le, unsigned_abs}
use Rattle.rules.specs.Words.{term_words}
use Rattle.rules.specs.declared.term.Term.{Term}
use Rattle.table.specs.Layout.{coefficient, degree}

-- the literal of the part i, counted from 0: x1, or -x1 where it is left out
abbrev pub literal_text : Bool → ℕ → List ℕ
literal_text true i = codes "x" ++ decimal (i + 1)
literal_text false i = codes "-x" ++ decimal (i + 1)

-- a term: its size, and its literal, which is the complement where the coefficient is below 0
abbrev pub term_text : ℤ → ℕ → List ℕ
term_text a i = decimal (unsigned_abs a) ++ (codes " " ++ literal_text (int_le (pos 0) a) i)

-- a text of terms, and one more term
abbrev pub linked : List ℕ → List ℕ → List ℕ
linked [] term = term
linked (b ∷ bs) term = (b ∷ bs) ++ (codes " + " ++ term)

-- the same, unless the coefficient is 0
abbrev pub with_term : List ℕ → ℤ → ℕ → List ℕ
with_term text a i = cond (unsigned_abs a == 0) text (linked text (term_text a i))

-- a term as a value, and what is written of it after a text that is empty or not
abbrev pub signed_term : ℤ → ℕ → Term
signed_term a i = record { coefficient = unsigned_abs a; literal = record { variable = i; negated = not (int_le (pos 0) a) } }

abbrev pub next_text : Bool → Term → List ℕ
next_text follows t = cond (t.coefficient == 0) [] (cond follows (codes " + " ++ term_words t) (term_words t))

-- the terms of rule k on the parts below n
unfoldable pub terms_text : List ℤ → ℕ → ℕ → List ℕ
terms_text T k zero = []
terms_text T k (suc n) = with_term (terms_text T k n) (coefficient T k n) n

-- a rule, as 2 -x1 + 3 x2 >= 2; one with no terms begins with 0
abbrev pub rule_line : List ℕ → ℕ → List ℕ
rule_line [] d = codes "0 >= " ++ decimal d
rule_line (b ∷ bs) d = (b ∷ bs) ++ (codes " >= " ++ decimal d)

abbrev pub rule_text : List ℤ → ℕ → List ℕ
rule_text T k = rule_line (terms_text T k 40) (degree T k)

-- a blank and a literal for each part below n of a choice
unfoldable pub literals_text : (ℕ → Bool) → ℕ → List ℕ
literals_text x zero = []
literals_text x (suc n) = literals_text x n ++ (codes " " ++ literal_text (x n) n)
