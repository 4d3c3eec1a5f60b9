-- Literals, terms and rules as values, and the marks and rows that they stand for.
use Rattle.std.specs.Prelude.{ℕ, zero, suc, cond, List, [], ◌∷◌, replicate, ℤ, pos, negsuc, ◌==◌, slice_set}
use Rattle.rules.specs.Rule.{at}
use Rattle.rules.specs.declared.Mark.{Mark}
use Rattle.rules.specs.declared.Mark.TheVariants.{Free, Zero, One}
use Rattle.rules.specs.declared.term.Literal.{Literal}
use Rattle.rules.specs.declared.term.Term.{Term}
use Rattle.rules.specs.declared.term.Rule.{Rule}

-- the mark of its variable that makes a literal true
abbrev pub true_mark : Literal → Mark
true_mark l = cond l.negated Zero One

-- the marks under which these literals are true and no other variable is marked
abbrev pub only : List Literal → ℕ → Mark
only [] i = Free
only (l ∷ ls) i = cond (i == l.variable) (true_mark l) (only ls i)

-- a coefficient on the complement
abbrev pub on_complement : ℕ → ℤ
on_complement zero = pos 0
on_complement (suc c) = negsuc c

-- the signed coefficient of a term
abbrev pub signed : Term → ℤ
signed t = cond t.literal.negated (on_complement t.coefficient) (pos t.coefficient)

-- the row of a list of terms: each term's signed coefficient at its variable, 0 elsewhere
abbrev pub placed : List ℤ → List Term → List ℤ
placed row [] = row
placed row (t ∷ ts) = placed (slice_set row t.literal.variable (signed t)) ts

abbrev pub row_of : List Term → List ℤ
row_of ts = placed (replicate 80 (pos 0)) ts

-- what a rule has at each variable
abbrev pub coefficient : Rule → ℕ → ℤ
coefficient r = at r.coefficients
