-- How a word is spelt: a first byte, and what is left.
use Rattle.std.proofs.Common.{◌≡◌, ℕ, ◌-◌, ◌<◌, Bool, true, false, List, [], ◌∷◌, length, get_or, take, drop, Some, None, Option, sym, ap, ◌∙◌, subst, arith}
use Rattle.std.proofs.lemmas.List.{take_rest}
use Rattle.board.specs.Literal.{Numeric, Numeral, PartNumber, written}

first : (word : List ℕ) (b : ℕ) → 0 < b → get_or word 0 0 ≡ b → word ≡ b ∷ drop 1 word
first [] b l e = absurd (omega arith)
first (x ∷ xs) b l e = ap (λ (y : ℕ). y ∷ xs) e

pub first_of : (word : List ℕ) (b : ℕ) → 0 < b → get_or word 0 0 ≡ b → word ≡ b ∷ take (length word - 1) (drop 1 word)
first_of word b l e = first word b l e ∙ ap (λ (xs : List ℕ). b ∷ xs) (sym (take_rest word 1))

same_rest : (b : ℕ) (xs ys : List ℕ) → b ∷ xs ≡ b ∷ ys → xs ≡ ys
same_rest b xs ys e = cc

pub part_number_from : (word rest : List ℕ) (r : Option ℕ) → word ≡ 120 ∷ rest → Numeral rest r → PartNumber word r
part_number_from word rest None e h = λ ds d n. h (subst Numeric (same_rest 120 ds rest (sym d ∙ e)) n)
part_number_from word rest (Some n) e h = (rest, e, h.0, h.1)

-- no word is both x and digits, and -x and digits
pub none_from_sign : (word rest : List ℕ) → word ≡ 45 ∷ rest → PartNumber rest None → (taken : Bool) (ds : List ℕ) → word ≡ written taken ds → Numeric ds → ⊥
none_from_sign word rest e h true ds w n = let z : ◌≡◌ {A = ℕ} 45 120 = ap (λ (xs : List ℕ). get_or xs 0 0) (sym e ∙ w) in omega arith
none_from_sign word rest e h false ds w n = h ds (same_rest 45 rest (120 ∷ ds) (sym e ∙ w)) n
