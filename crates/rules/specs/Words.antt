-- Literals and terms as text.
use Rattle.std.specs.Prelude.{ℕ, ◌+◌, ◌-◌, ◌^◌, min, cond, List, ◌++◌, codes, decimal}
use Rattle.rules.specs.declared.term.Literal.{Literal}
use Rattle.rules.specs.declared.term.Term.{Term}

-- x1 is the variable 0; the greatest number that there is stands for itself
abbrev pub literal_words : Literal → List ℕ
literal_words l = cond l.negated (codes "-x") (codes "x") ++ decimal (min (l.variable + 1) (2 ^ 64 - 1))

abbrev pub term_words : Term → List ℕ
term_words t = decimal t.coefficient ++ (codes " " ++ literal_words t.literal)
