-- Lists of things to try, and what is said of one.
use Rattle.std.specs.Prelude.{ℕ, ◌++◌, Bool, true, List, [], ◌∷◌, codes, decimal, not, count_by, ◌==◌}

-- a line with nothing in it, or one that begins with `#`
abbrev pub is_remark : List ℕ → Bool
is_remark [] = true
is_remark (b ∷ bs) = b == 35

-- how many of these lines are no remarks
abbrev pub written : List (List ℕ) → ℕ
written ls = count_by (λ l. not (is_remark l)) ls

-- what is said of so many things, of which so many agree
abbrev pub tally_words : List ℕ → ℕ → ℕ → List ℕ
tally_words things tried agree = decimal tried ++ (codes " " ++ (things ++ (codes ", " ++ (decimal agree ++ codes " agree"))))
