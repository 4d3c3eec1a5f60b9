-- Words that are read one by one.
use Rattle.std.proofs.Common.{◌≡◌, ℕ, ◌+◌, ◌<◌, ◌≤◌, List, [], ◌∷◌, ◌++◌, map, length, get_or, take, ℤ, true, false, Ok, Err, Result, MatchResult, is_ok, sym, refl, ap, ◌∙◌, subst}
use Rattle.std.proofs.lemmas.Bool.{both_ways}
use Rattle.std.proofs.lemmas.List.{take_more, take_all, get_or-map, length-map}
use Rattle.rules.specs.declared.Mark.{Mark}
use Rattle.board.specs.Board.{bare, Named, Marks, Refused}
use Rattle.board.specs.declared.words.Trouble.{Trouble}
use Rattle.board.specs.declared.words.Trouble.TheVariants.{NotALiteral, NoSuchPart, NamedTwice}

-- one more word at the end
marks_push : (T : List ℤ) (words : List (List ℕ)) (word : List ℕ) (a b c : List Mark) → Marks T words a b → Named T word b (Ok tt) c → Marks T (words ++ word ∷ []) a c
marks_push T [] word a b c e n = (c, subst (λ (ms : List Mark). Named T word ms (Ok tt) c) e n, refl)
marks_push T (w ∷ words) word a b c h n = (h.0, h.1, marks_push T words word h.0 b c h.2 n)

-- a word that is refused leaves the marks as they were
refused_same : (T : List ℤ) (word : List ℕ) (ms after : List Mark) (t : Trouble) → Named T word ms (Err t) after → Named T word ms (Err t) ms
refused_same T word ms after NotALiteral n = (n.0, refl)
refused_same T word ms after NoSuchPart n = (n.0, n.1, n.2, refl)
refused_same T word ms after NamedTwice n = (n.0, n.1, n.2, refl)

-- a loop over things that stand for words, which has come to x at i
module _ {X : Type 0} (f : X → List ℕ) (T : List ℤ) (xs : List X) (i : ℕ) (ms : List Mark) (so_far : Marks T (take i (map f xs)) bare ms) where
  pub marks_all : length xs ≤ i → Marks T (map f xs) bare ms
  marks_all l = let within : length (map f xs) ≤ i = simp length-map l in subst (λ (ws : List (List ℕ)). Marks T ws bare ms) (take_all i (map f xs) within) so_far

  module _ (x : X) (word : List ℕ) (l : i < length xs) (is : x ≡ get_or xs i x) (w : word ≡ f x) where
    here : word ≡ get_or (map f xs) i []
    here = w ∙ ap f is ∙ sym (get_or-map f xs i x [] l)

    within : i < length (map f xs)
    within = simp length-map l

    pub marks_more : (after : List Mark) → Named T word ms (Ok tt) after → Marks T (take (i + 1) (map f xs)) bare after
    marks_more after n =
        subst (λ (ws : List (List ℕ)). Marks T ws bare after) (sym (take_more (map f xs) i [] within))
        (marks_push T (take i (map f xs)) (get_or (map f xs) i []) bare ms after so_far (subst (λ (v : List ℕ). Named T v ms (Ok tt) after) here n))

    pub refused_here : (t : Trouble) (after : List Mark) → Named T word ms (Err t) after → Refused T (map f xs) (record { index = i; trouble = t }) ms
    refused_here t after n =
        record { within = within; before = so_far; refused = subst (λ (v : List ℕ). Named T v ms (Err t) ms) here (refused_same T word ms after t n) }

-- what a result was, by whether it is Ok
pub was_err : (r : Result Unit Trouble) (Q : Unit {0} → Type 0) (P : Trouble → Type 0) → is_ok r ≡ false → MatchResult r Q P → (t : Trouble) × (r ≡ Err t) × P t
was_err (Ok x) Q P e m = absurd (both_ways true e refl)
was_err (Err t) Q P e m = (t, refl, m)

pub was_ok : (r : Result Unit Trouble) → is_ok r ≡ true → r ≡ Ok tt
was_ok (Ok x) e = refl
was_ok (Err t) e = absurd (both_ways false refl e)
