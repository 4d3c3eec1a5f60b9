-- The parts that words take, one word after another.
use Rattle.std.proofs.Common.{◌≡◌, ℕ, ◌+◌, ◌-◌, ◌<◌, Bool, true, false, ◌&&◌, ◌⊎◌, List, [], ◌∷◌, length, get_or, set, ℤ, Some, Ok, sym, refl, ap, ◌∙◌, subst, ap₂, inl, inr, arith}
use native.Mathlib.Decide.{ℕ_discrete}
use Rattle.std.proofs.lemmas.List.{get_or-set_same, get_or-set_other, length-set, length-replicate, get_or-replicate}
use Rattle.std.proofs.lemmas.Bool.{lt-ltb, both_ways}
use Rattle.rules.specs.declared.Mark.{Mark}
use Rattle.rules.specs.declared.Mark.TheVariants.{Free}
use Rattle.table.specs.Meaning.{mark}
use Rattle.board.specs.declared.words.Literal.{Literal}
use Rattle.board.specs.Literal.{number, written, Says}
use Rattle.board.specs.Board.{is_one, choice, bare, Named, Marks, taking, SaysTaken, TakesAsSaid}

-- a word says one thing
first_differs : (xs ys : List ℕ) → 120 ∷ xs ≡ 45 ∷ ys → ⊥
first_differs xs ys e = let z : ◌≡◌ {A = ℕ} 120 45 = ap (λ (zs : List ℕ). get_or zs 0 0) e in omega arith

spelt_once : (t u : Bool) (ds es : List ℕ) → written t ds ≡ written u es → (t ≡ u) × (ds ≡ es)
spelt_once true true ds es e = (refl, cc)
spelt_once true false ds es e = absurd (first_differs ds (120 ∷ es) e)
spelt_once false true ds es e = absurd (first_differs es (120 ∷ ds) (sym e))
spelt_once false false ds es e = (refl, cc)

same_literal : (word : List ℕ) (l m : Literal) → Says word (Some l) → Says word (Some m) → l ≡ m
same_literal word l m p q =
    let once = spelt_once l.taken m.taken p.0 q.0 (sym p.1 ∙ q.1) in
    ap₂ (λ (n : ℕ) (t : Bool). record { part = n; taken = t }) (p.3 ∙ ap number once.1 ∙ sym q.3) once.0

-- the literal l is set in the marks: of a part i that it does not name, and of the one that it does
module _ (a b : List Mark) (l : Literal) (after : b ≡ set a (l.part - 1) (mark l.taken)) (i : ℕ) where
  other_stays : (i ≡ l.part - 1 → ⊥) → get_or b i Free ≡ get_or a i Free
  other_stays ne = ap (λ (ms : List Mark). get_or ms i Free) after ∙ get_or-set_other a (l.part - 1) i (mark l.taken) Free ne

  own_is_set : i ≡ l.part - 1 → i < length a → get_or b i Free ≡ mark l.taken
  own_is_set e within =
      let here : l.part - 1 < length a = omega arith in
      ap (λ (ms : List Mark). get_or ms i Free) after ∙ ap (λ (j : ℕ). get_or (set a (l.part - 1) (mark l.taken)) j Free) e
      ∙ get_or-set_same a (l.part - 1) (mark l.taken) Free here

taken_if_one : (t : Bool) → is_one (mark t) ≡ true → t ≡ true
taken_if_one true e = refl
taken_if_one false e = e

module _ (T : List ℤ) (word : List ℕ) (a b : List Mark) (n : Named T word a (Ok tt) b) (i : ℕ) (within : i < length a) where
  step_from : is_one (get_or b i Free) ≡ true → (is_one (get_or a i Free) ≡ true) ⊎ Says word (Some (taking i))
  step_from e = elim (ℕ_discrete i (n.0.part - 1)) [
    | yes own ↦
        let t : n.0.taken ≡ true = taken_if_one n.0.taken (ap is_one (sym (own_is_set a b n.0 n.3 i own within)) ∙ e) in
        let p : n.0.part ≡ i + 1 = omega (arith, n.1.declares.0) in
        inr (subst (λ (m : Literal). Says word (Some m)) (ap₂ (λ (k : ℕ) (u : Bool). record { part = k; taken = u }) p t) n.1.says)
    | no ne ↦ inl (ap is_one (sym (other_stays a b n.0 n.3 i ne)) ∙ e)
  ]

  step_keeps : is_one (get_or a i Free) ≡ true → is_one (get_or b i Free) ≡ true
  step_keeps e = elim (ℕ_discrete i (n.0.part - 1)) [
    | yes own ↦ absurd (both_ways (is_one (get_or a i Free)) (ap (λ (j : ℕ). is_one (get_or a j Free)) own ∙ ap is_one n.2) e)
    | no ne ↦ ap is_one (other_stays a b n.0 n.3 i ne) ∙ e
  ]

  step_takes : Says word (Some (taking i)) → is_one (get_or b i Free) ≡ true
  step_takes s =
      let same : n.0 ≡ taking i = same_literal word n.0 (taking i) n.1.says s in
      let own : i ≡ n.0.part - 1 = omega (arith, ap (λ (m : Literal). m.part) same) in
      ap is_one (own_is_set a b n.0 n.3 i own within) ∙ ap (λ (m : Literal). is_one (mark m.taken)) same

  length_step : length b ≡ length a
  length_step = ap length n.3 ∙ length-set a (n.0.part - 1) (mark n.0.taken)

-- all words
taken_from : (T : List ℤ) (words : List (List ℕ)) (a b : List Mark) → Marks T words a b → (i : ℕ) → i < length a → is_one (get_or b i Free) ≡ true → (is_one (get_or a i Free) ≡ true) ⊎ SaysTaken words i
taken_from T [] a b h i l e = inl (ap (λ (ms : List Mark). is_one (get_or ms i Free)) (sym h) ∙ e)
taken_from T (word ∷ words) a b h i l e =
    elim (taken_from T words h.0 b h.2 i (omega (arith, length_step T word a h.0 h.1 i l)) e)
    [ inl p ↦ elim (step_from T word a h.0 h.1 i l p) [ inl q ↦ inl q | inr s ↦ inr (inl s) ] | inr s ↦ inr (inr s) ]

taken_keeps : (T : List ℤ) (words : List (List ℕ)) (a b : List Mark) → Marks T words a b → (i : ℕ) → i < length a → is_one (get_or a i Free) ≡ true → is_one (get_or b i Free) ≡ true
taken_keeps T [] a b h i l e = ap (λ (ms : List Mark). is_one (get_or ms i Free)) h ∙ e
taken_keeps T (word ∷ words) a b h i l e =
    taken_keeps T words h.0 b h.2 i (omega (arith, length_step T word a h.0 h.1 i l)) (step_keeps T word a h.0 h.1 i l e)

taken_by : (T : List ℤ) (words : List (List ℕ)) (a b : List Mark) → Marks T words a b → (i : ℕ) → i < length a → SaysTaken words i → is_one (get_or b i Free) ≡ true
taken_by T [] a b h i l s = absurd s
taken_by T (word ∷ words) a b h i l (inl s) =
    taken_keeps T words h.0 b h.2 i (omega (arith, length_step T word a h.0 h.1 i l)) (step_takes T word a h.0 h.1 i l s)
taken_by T (word ∷ words) a b h i l (inr s) = taken_by T words h.0 b h.2 i (omega (arith, length_step T word a h.0 h.1 i l)) s

none_at_first : (i : ℕ) → i < 40 → is_one (get_or bare i Free) ≡ false
none_at_first i l = ap is_one (get_or-replicate 40 i Free Free l)

pub takes_as_said : (T : List ℤ) (words : List (List ℕ)) (ms : List Mark) → Marks T words bare ms → TakesAsSaid words ms
takes_as_said T words ms h i l =
    let within : i < length bare = omega (arith, length-replicate 40 Free) in
    let is : choice ms i ≡ is_one (get_or ms i Free) = ap (λ (t : Bool). t && is_one (get_or ms i Free)) (lt-ltb i 40 l) in (
      λ e. elim (taken_from T words bare ms h i within (sym is ∙ e)) [ inl p ↦ absurd (both_ways _ (none_at_first i l) p) | inr s ↦ s ],
      λ s. is ∙ taken_by T words bare ms h i within s,
    )
