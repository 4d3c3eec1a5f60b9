-- One rule more in the statement, and a number in its columns.
use Rattle.std.proofs.Common.{◌≡◌, ℕ, zero, suc, ◌+◌, ◌-◌, ◌^◌, Bool, false, List, [], ◌∷◌, ◌++◌, ℤ, length, replicate, decimal, refl, ap, ◌∙◌, ap₂, append-nil, add-one, arith}
use Rattle.std.specs.Fmt.{padded_integral, format_spec, char_count}
use Rattle.std.specs.List.{repeat}
use lib.Utf8.{encode}
use Rattle.statement.specs.Statement.{right_text, row_text, rows_text}

pub rows_more : (T : List ℤ) (x : ℕ → Bool) (k : ℕ) → rows_text T x (k + 1) ≡ rows_text T x k ++ row_text T x k
unfolding rows_text
rows_more T x k = ap (rows_text T x) (add-one k)

-- blanks that fill a width, as `one` writes each
blanks : (one : List ℕ) → one ≡ 32 ∷ [] → (n : ℕ) → repeat n one ≡ replicate n 32
blanks one e zero = refl
blanks one e (suc n) = ap₂ (λ (xs ys : List ℕ). xs ++ ys) e (blanks one e n)

filled : (one : List ℕ) → one ≡ 32 ∷ [] → (p q r : ℕ) (ds : List ℕ) → p ≡ r → q ≡ 0 → (((repeat p one ++ []) ++ []) ++ []) ++ (ds ++ repeat q one) ≡ replicate r 32 ++ ds
filled one o p q r ds e z =
    ap₂ (λ (a b : ℕ). (((repeat a one ++ []) ++ []) ++ []) ++ (ds ++ repeat b one)) e z
    ∙ ap₂ (λ (xs ys : List ℕ). xs ++ ys) (append-nil _ ∙ append-nil _ ∙ append-nil (repeat r one) ∙ blanks one o r) (append-nil ds)

blank : encode 32 ≡ 32 ∷ []
unfolding encode
blank = refl

-- a number that is set to the right of a width
pub set_right : (w n : ℕ) → padded_integral (format_spec 32 3 0 w (2 ^ 64 - 1)) false [] (decimal n) ≡ right_text w n
unfolding padded_integral char_count
set_right w n =
    let short = w - length (decimal n) - 0 - 0 in
    filled (encode 32) blank short (short - short) (w - length (decimal n)) (decimal n) (omega arith) (omega arith)
