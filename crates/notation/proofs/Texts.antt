-- A text that is made of others, and the same text as it is meant.
use Rattle.std.proofs.Common.{◌≡◌, ℕ, ◌+◌, ◌<◌, ◌^◌, ◌-◌, min, Bool, true, false, cond, not, ◌||◌, List, [], ◌∷◌, ◌++◌, ℤ, pos, codes, decimal, refl, sym, ap, ◌∙◌, add-one, arith, nat_abs, ◌==◌, append-nil}
use Rattle.std.proofs.lemmas.Bool.{both_ways}
use lib.Signed.{le_z}
use Rattle.rules.specs.Words.{literal_words, term_words}
use Rattle.table.specs.Layout.{coefficient}
use Rattle.notation.specs.Text.{literal_text, term_text, linked, with_term, signed_term, next_text, terms_text, rule_line, literals_text}

-- the number of a part is below the greatest that there is
numbered : (i : ℕ) → i < 40 → min (i + 1) (2 ^ 64 - 1) ≡ i + 1
numbered i l = omega arith

pub literal_same : (plain : Bool) (i : ℕ) → i < 40 → literal_words (record { variable = i; negated = not plain }) ≡ literal_text plain i
literal_same true i l = ap (λ n. codes "x" ++ decimal n) (numbered i l)
literal_same false i l = ap (λ n. codes "-x" ++ decimal n) (numbered i l)

term_same : (a : ℤ) (i : ℕ) → i < 40 → term_words (signed_term a i) ≡ term_text a i
term_same a i l = ap (λ bs. decimal (nat_abs a) ++ (codes " " ++ bs)) (literal_same (le_z (pos 0) a) i l)

-- whether a text has any bytes
abbrev pub some_text : List ℕ → Bool
some_text [] = false
some_text (b ∷ bs) = true

follow : (none : Bool) (text term : List ℕ) → text ++ cond none [] (cond (some_text text) (codes " + " ++ term) term) ≡ cond none text (linked text term)
follow true [] term = refl
follow true (b ∷ bs) term = append-nil (b ∷ bs)
follow false [] term = refl
follow false (b ∷ bs) term = refl

some_follow : (none : Bool) (text term : List ℕ) → some_text term ≡ true → some_text (cond none text (linked text term)) ≡ (some_text text || not none)
some_follow true [] term e = refl
some_follow true (b ∷ bs) term e = refl
some_follow false [] term e = e
some_follow false (b ∷ bs) term e = refl

some_append : (xs ys : List ℕ) (y : ℕ) → some_text (xs ++ y ∷ ys) ≡ true
some_append [] ys y = refl
some_append (x ∷ xs) ys y = refl

-- one part more
pub terms_more : (T : List ℤ) (k n : ℕ) → terms_text T k (n + 1) ≡ with_term (terms_text T k n) (coefficient T k n) n
unfolding terms_text
terms_more T k n = rw (add-one n) refl

pub terms_next : (T : List ℤ) (k n : ℕ) (a : ℤ) → n < 40 → a ≡ coefficient T k n → terms_text T k n ++ next_text (some_text (terms_text T k n)) (signed_term a n) ≡ terms_text T k (n + 1)
terms_next T k n a l e =
    let text = terms_text T k n in
    ap (λ (w : List ℕ). text ++ cond (nat_abs a == 0) [] (cond (some_text text) (codes " + " ++ w) w)) (term_same a n l) ∙ follow (nat_abs a == 0) text (term_text a n)
    ∙ ap (λ (b : ℤ). with_term text b n) e ∙ sym (terms_more T k n)

pub some_next : (T : List ℤ) (k n : ℕ) (a : ℤ) → a ≡ coefficient T k n → (some_text (terms_text T k n) || not (nat_abs a == 0)) ≡ some_text (terms_text T k (n + 1))
some_next T k n a e =
    let text = terms_text T k n in
    sym (some_follow (nat_abs a == 0) text (term_text a n) (some_append (decimal (nat_abs a)) (literal_text (le_z (pos 0) a) n) 32))
    ∙ ap some_text (ap (λ (b : ℤ). with_term text b n) e ∙ sym (terms_more T k n))

pub literals_more : (x : ℕ → Bool) (n : ℕ) → literals_text x (n + 1) ≡ literals_text x n ++ (codes " " ++ literal_text (x n) n)
unfolding literals_text
literals_more x n = rw (add-one n) refl

-- a rule that has terms, and one that has none
pub rule_line_some : (terms : List ℕ) (d : ℕ) → some_text terms ≡ true → terms ++ (codes " >= " ++ decimal d) ≡ rule_line terms d
rule_line_some [] d e = absurd (both_ways false refl e)
rule_line_some (b ∷ bs) d e = refl

pub rule_line_none : (terms : List ℕ) (d : ℕ) → some_text terms ≡ false → terms ++ (codes "0 >= " ++ decimal d) ≡ rule_line terms d
rule_line_none [] d e = refl
rule_line_none (b ∷ bs) d e = absurd (both_ways true e refl)
