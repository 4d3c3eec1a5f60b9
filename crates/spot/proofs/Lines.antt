-- A line that a place of a text is in: what is before the place, and what is after it.
use Rattle.std.proofs.Common.{◌≡◌, ℕ, ◌+◌, ◌-◌, ◌<◌, ◌≤◌, List, length, get_or, take, drop, ap, sym, ◌∙◌, inl, inr, zero, suc, ◌⊎◌, length-drop, arith}
use Rattle.std.proofs.lemmas.List.{get_or-take, get_or-drop}
use Rattle.spot.specs.Spot.{Begins, Ends, Unbroken}

order : (m n : ℕ) → (m < n) ⊎ (n ≤ m)
order m zero = inr (omega arith)
order zero (suc n) = inl (omega arith)
order (suc m) (suc n) = elim (order m n) [ inl h ↦ inl (omega arith) | inr h ↦ inr (omega arith) ]

module _ (text : List ℕ) (place : ℕ) (l : place ≤ length text) where
  before : (i : ℕ) → i < place → get_or (take place text) i 0 ≡ get_or text i 0
  before i h = get_or-take place text i 0 h

  after : (i : ℕ) → place ≤ i → get_or (drop place text) (i - place) 0 ≡ get_or text i 0
  after i h = let e : place + (i - place) ≡ i = omega arith in get_or-drop place text (i - place) 0 ∙ ap (λ j. get_or text j 0) e

  pub begins_whole : (start : ℕ) → start ≤ place → Begins (take place text) start → Begins text start
  begins_whole start h b = λ p. sym (before (start - 1) (omega arith)) ∙ b p

  pub ends_whole : (left : ℕ) → Ends (drop place text) left → Ends text (place + left)
  ends_whole left e = λ p. sym (get_or-drop place text left 0) ∙ e (omega (arith, length-drop place text))

  pub unbroken_whole : (start left : ℕ) → Unbroken (take place text) start place → Unbroken (drop place text) 0 left → Unbroken text start (place + left)
  unbroken_whole start left b a = λ i low high q. elim (order i place) [
    | inl h ↦ b i low h (before i h ∙ q)
    | inr h ↦ a (i - place) (omega arith) (omega arith) (after i h ∙ q)
  ]
