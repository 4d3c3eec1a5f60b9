-- What a store means, by its rows.
use Rattle.std.proofs.Common.{◌≡◌, ℕ, zero, suc, ◌+◌, ◌<◌, ◌≤◌, List, [], ◌∷◌, length, get_or, take, drop, set, ℤ, sym, refl, ap, ◌∙◌, subst, arith}
use Rattle.std.proofs.lemmas.List.{length-take-le, get_or-take, at_drop_more, take_more_set}
use Rattle.rules.specs.declared.term.Rule.{Rule as Row}
use Rattle.rules.proofs.Placed.{size_zero}
use Rattle.rules.specs.Terms.{signed, placed}
use Rattle.rules.specs.declared.term.Term.{Term as Pair}
use Rattle.rules.specs.declared.Mark.{Mark}
use Rattle.engine.specs.Held.{Held, Fits, nth, blank, with_rule, BreaksRule, NoneBroken, no_term, variable_of}
use Rattle.engine.specs.Questions.{engine_limits, CanRaise, with_degree, with_raised}
use Rattle.store.specs.declared.keep.Store.{Store}
use Rattle.store.specs.View.{held_in}

pub count_held : (s : Store) → length (held_in s).rules ≡ s.count
count_held s = length-take-le s.count s.rules (omega (arith, s.room, s.whole))

pub nth_held : (s : Store) (k : ℕ) → k < s.count → nth (held_in s).rules k ≡ get_or s.rules k blank
nth_held s k l = get_or-take s.count s.rules k blank l

-- a row that is written within the count is written in what is held
pub take_of_set : {X : Type 0} (n : ℕ) (xs : List X) (i : ℕ) (y : X) → take n (set xs i y) ≡ set (take n xs) i y
take_of_set zero [] i y = refl
take_of_set zero (x ∷ xs) zero y = refl
take_of_set zero (x ∷ xs) (suc i) y = refl
take_of_set (suc n) [] i y = refl
take_of_set (suc n) (x ∷ xs) zero y = refl
take_of_set (suc n) (x ∷ xs) (suc i) y = ap (λ r. x ∷ r) (take_of_set n xs i y)

-- a rule of the store can be raised exactly where its row can
pub raise_needs : (s : Store) (k d : ℕ) → CanRaise engine_limits (held_in s) k d → (k < s.count) × ((get_or s.rules k blank).degree ≤ d) × (d ≤ 1000000000)
raise_needs s k d h =
    let l : k < s.count = omega (arith, count_held s, h.there) in
    let e = ap (λ (r : Row). r.degree) (nth_held s k l) in
    (l, omega (arith, e, h.higher), h.most)

pub raise_has : (s : Store) (k d : ℕ) → k < s.count → (get_or s.rules k blank).degree ≤ d → d ≤ 1000000000 → CanRaise engine_limits (held_in s) k d
raise_has s k d l low high =
    let e = ap (λ (r : Row). r.degree) (nth_held s k l) in
    record { there = omega (arith, count_held s); higher = omega (arith, e); most = high }

-- a rule is broken exactly where its row is
pub broken_held : (s : Store) (k : ℕ) (m : ℕ → Mark) → k < s.count → BreaksRule s.variables (get_or s.rules k blank) m → BreaksRule s.variables (nth (held_in s).rules k) m
broken_held s k m l = subst (λ r. BreaksRule s.variables r m) (sym (nth_held s k l))

pub none_held : (s : Store) (i : ℕ) (m : ℕ → Mark) → i ≤ s.count
    → ((k : ℕ) → k < i → BreaksRule s.variables (get_or s.rules k blank) m → ⊥) → NoneBroken (held_in s) i m
none_held s i m l h k b x = h k b (subst (λ r. BreaksRule s.variables r m) (nth_held s k (omega arith)) x)

-- the row that is raised is the rule that is raised
pub raised_row : (s : Store) (k d : ℕ) → k < s.count → take s.count (set s.rules k (with_degree d (get_or s.rules k blank))) ≡ (with_raised k d (held_in s)).rules
raised_row s k d l = take_of_set s.count s.rules k (with_degree d (get_or s.rules k blank)) ∙ ap (λ r. set (held_in s).rules k (with_degree d r)) (sym (nth_held s k l))

-- one term more is placed
pub row_step : (row : List ℤ) (ts : List Pair) (i : ℕ) (v : ℤ) (whole : List ℤ) → i < length ts → v ≡ signed (get_or ts i no_term)
    → placed row (drop i ts) ≡ whole → placed (set row (variable_of ts i) v) (drop (i + 1) ts) ≡ whole
row_step row ts i v whole l e h =
    ap (λ x. placed (set row (variable_of ts i) x) (drop (i + 1) ts)) e ∙ (sym (at_drop_more (placed row) ts i no_term l) ∙ h)

abbrev pub with_rules : ℕ → List Row → Held
with_rules n rs = record { variables = n; rules = rs }

-- the row after the count is the rule that is added
pub added_row : (s : Store) (r : Row) → s.count < 160 → with_rules s.variables (take (s.count + 1) (set s.rules s.count r)) ≡ with_rule r (held_in s)
added_row s r l = ap (with_rules s.variables) (take_more_set s.rules s.count r (omega (arith, s.whole)))

-- held rules are within the limits
pub held_fits : (s : Store) (k : ℕ) → k < length (held_in s).rules → Fits engine_limits s.variables (nth (held_in s).rules k)
held_fits s k l =
    let b : k < s.count = omega (arith, count_held s) in
    subst (Fits engine_limits s.variables) (sym (nth_held s k b))
    (record { sizes = λ i. s.sizes k i b; beyond = λ i m. size_zero _ (s.beyond k i b m); degree = s.degrees k b })
