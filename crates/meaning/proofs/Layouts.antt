-- Every word of a sheet's table is within its limits.
use Rattle.lines.specs.Lines.{Numbers}
use Rattle.std.proofs.Common.{◌≡◌, ℕ, zero, suc, ◌+◌, ◌-◌, ◌*◌, ◌/◌, ◌%◌, ◌<◌, ◌≤◌, Bool, true, false, not, ◌&&◌, eqb, ltb, List, [], ◌∷◌, ◌++◌, length, get_or, replicate, ℤ, pos, negsuc, neg_ℤ, nat_abs, ◌≤ℤ◌, Some, None, Option, sym, refl, ap, ◌∙◌, subst, arith, length-append}
use lib.ListN.{length-replicate}
use Rattle.std.proofs.lemmas.List.{get_or-append_right, get_or-replicate}
use Rattle.std.proofs.lemmas.Int.{ints}
use Rattle.table.specs.declared.place.Place.{Place}
use Rattle.table.specs.declared.place.Place.TheVariants.{Parts, Rules, Base, Priced, Weight, Degree, Coefficient}
use Rattle.table.specs.Layout.{word, parts_of, rules_of, declared, stated, priced, place_of, range, used, limits_of, Within, Fine, Sound}
use Rattle.table.proofs.Places.{place_parts, place_rules, place_base, place_priced, place_weight, place_degree, place_coefficient}
use Rattle.lines.specs.declared.line.Sum.{Sum}
use Rattle.rows.specs.Rows.{Row, laid, table_with, Lined, NarrowPrice, words, negatives, all_rows, front_of}
use Rattle.rows.proofs.Laid.{laid_length}
use Rattle.opb.specs.Language.{Language}
use Rattle.opb.specs.Sheets.{Written, table_of}
use Rattle.opb.proofs.Narrow.{said_narrow}
use Rattle.opb.proofs.Whole.{language_complete}
use Rattle.meaning.specs.Means.{TableSound}
use Rattle.meaning.proofs.Sound.{Fit, AllFit, rules_fit, PriceSlim, price_slim, parts_fit, negatives_most}
use Rattle.meaning.proofs.Tables.{nth, behind, within, rules_count, weight_words, weight_word, front_length, front_count, all_lined}

-- a word that is used, or 0
used_fits : (b : Bool) (lo hi v : ℤ) → lo ≤ℤ v → v ≤ℤ hi → (b ≡ false → v ≡ pos 0) → Within (used b (range lo hi)) v
used_fits true lo hi v x y f = (x, y)
used_fits false lo hi v x y f = let e = f refl in (omega (arith, ints), omega (arith, ints))

sized_low : (v : ℤ) (m : ℕ) → nat_abs v ≤ m → neg_ℤ (pos m) ≤ℤ v
sized_low v m h = omega (arith, ints)

sized_high : (v : ℤ) (m : ℕ) → nat_abs v ≤ m → v ≤ℤ pos m
sized_high v m h = omega (arith, ints)

not_both : (a b : Bool) → a ≡ true → (a && b) ≡ false → b ≡ false
not_both true b p q = q
not_both false b p q = let z : ◌≡◌ {A = ℕ} 0 1 = cc in absurd (omega arith)

undeclared : (i n : ℕ) → ltb i n ≡ false → n ≤ i
undeclared i n h = grind arith

present : (i n : ℕ) → i < n → ltb i n ≡ true
present i n h = grind arith

no_false : {X : Type 0} (b : Bool) → b ≡ true → b ≡ false → X
no_false b p q = let z : true ≡ false = sym p ∙ q in let y : ◌≡◌ {A = ℕ} 0 1 = cc in absurd (omega arith)

fit_at : (n : ℕ) (rs : List Row) (k : ℕ) → k < length rs → AllFit n rs → Fit n (nth rs k)
fit_at n [] k l f = absurd (omega arith)
fit_at n (r ∷ rs) zero l f = f.0
fit_at n (r ∷ rs) (suc k) l f = fit_at n rs k (omega arith) f.1

-- the table has no more rows than it has room for
module _ (front : List ℤ) (rs : List Row) (head : length front ≡ 44) (lined : Lined rs) (room : length rs ≤ 64) where
  pub table_length : length (table_with front rs) ≡ 2668
  table_length =
      let a = length-append front (laid rs ++ replicate (2624 - 41 * length rs) (pos 0)) in
      let b = length-append (laid rs) (replicate (2624 - 41 * length rs) (pos 0)) in
      let c = laid_length rs lined in
      let d = length-replicate (2624 - 41 * length rs) (pos 0) in
      omega arith

  -- no row, no word
  zeros_at : (n i : ℕ) → get_or (replicate n (pos 0)) i (pos 0) ≡ pos 0
  zeros_at zero i = refl
  zeros_at (suc n) zero = refl
  zeros_at (suc n) (suc i) = zeros_at n i

  pub past_rows : (i : ℕ) → 44 + 41 * length rs ≤ i → get_or (table_with front rs) i (pos 0) ≡ pos 0
  past_rows i h =
      get_or-append_right front (laid rs ++ replicate (2624 - 41 * length rs) (pos 0)) 44 i (pos 0) head (omega arith)
      ∙ get_or-append_right (laid rs) (replicate (2624 - 41 * length rs) (pos 0)) (41 * length rs) (i - 44) (pos 0) (laid_length rs lined) (omega arith)
      ∙ zeros_at (2624 - 41 * length rs) (i - 44 - 41 * length rs)

-- the first word of a row, and the others, as `behind` counts them
degree_place : (k : ℕ) → place_of (44 + 41 * k + 0) ≡ Degree k
degree_place k = ap place_of (omega arith) ∙ place_degree k

coefficient_place : (k i : ℕ) → i < 40 → place_of (44 + 41 * k + suc i) ≡ Coefficient k i
coefficient_place k i l = ap place_of (omega arith) ∙ place_coefficient k i l

-- the words of a sheet's table
module _ (text : List ℕ) (s : Written) (h : Language text s) where
  narrow : NarrowPrice s.price
  narrow = (said_narrow text s (language_complete text s h)).1

  head : length (front_of s.header.parts (length (all_rows s.rules)) s.price) ≡ 44
  head = front_length s.header.parts (length (all_rows s.rules)) s.price narrow

  lined : Lined (all_rows s.rules)
  lined = all_lined s.rules (said_narrow text s (language_complete text s h)).0

  count : get_or (front_of s.header.parts (length (all_rows s.rules)) s.price) 1 (pos 0) ≡ pos (length (all_rows s.rules))
  count = front_count s.header.parts (length (all_rows s.rules)) s.price

  fit : AllFit s.header.parts (all_rows s.rules)
  fit = rules_fit text s.header.parts h.p3 s.rules h.rule_lines

  front_word : (i : ℕ) → i < 44 → word (table_of s) i ≡ get_or (front_of s.header.parts (length (all_rows s.rules)) s.price) i (pos 0)
  front_word i l = within _ (all_rows s.rules) head lined count i l

  first_word : (p : Option Sum) → get_or (front_of s.header.parts (length (all_rows s.rules)) p) 0 (pos 0) ≡ pos s.header.parts
  first_word None = refl
  first_word (Some q) = refl

  parts_is : parts_of (table_of s) ≡ s.header.parts
  parts_is = ap nat_abs (front_word 0 (omega arith) ∙ first_word s.price)

  rules_is : rules_of (table_of s) ≡ length (all_rows s.rules)
  rules_is = rules_count _ (all_rows s.rules) head lined count

  some_parts : (1 ≤ s.header.parts) × (s.header.parts ≤ 40)
  some_parts =
      let w = parts_fit text h.header_line.p2 h.header_line.p3 h.header_line.n h.header_line.parts in
      let e : nat_abs h.header_line.n ≡ s.header.parts = sym (ap (λ (x : Numbers). x.parts) h.header_line.is) in
      (subst (λ (x : ℕ). 1 ≤ x) e w.0, subst (λ (x : ℕ). x ≤ 40) e w.1)

  at_place : (w : ℕ) (p : Place) (v : ℤ) → place_of w ≡ p → word (table_of s) w ≡ v → Within (limits_of (table_of s) p) v → Fine (table_of s) w
  at_place w p v e q f = subst (λ (x : Place). Within (limits_of (table_of s) x) (word (table_of s) w)) (sym e) (subst (λ (z : ℤ). Within (limits_of (table_of s) p) z) (sym q) f)

  fine_parts : Fine (table_of s) 0
  fine_parts = let a = some_parts in at_place 0 Parts (pos s.header.parts) place_parts (front_word 0 (omega arith) ∙ first_word s.price) (omega (arith, ints, a.0), omega (arith, ints, a.1))

  fine_rules : Fine (table_of s) 1
  fine_rules = let a = h.room in at_place 1 Rules (pos (length (all_rows s.rules))) place_rules (front_word 1 (omega arith) ∙ count) (omega (arith, ints), omega (arith, ints))

  -- c0, the flag and the weights
  flag : (p : Option Sum) → Bool
  flag None = false
  flag (Some q) = true

  flag_word : (p : Option Sum) → not (eqb (nat_abs (get_or (front_of s.header.parts (length (all_rows s.rules)) p) 3 (pos 0))) 0) ≡ flag p
  unfolding flag
  flag_word None = refl
  flag_word (Some q) = refl

  priced_is : priced (table_of s) ≡ flag s.price
  priced_is = ap (λ (z : ℤ). not (eqb (nat_abs z) 0)) (front_word 3 (omega arith)) ∙ flag_word s.price

  base_fits : (p : Option Sum) → PriceSlim s.header.parts p → Within (used (flag p) (range (negsuc 3999999) (pos 0))) (get_or (front_of s.header.parts (length (all_rows s.rules)) p) 2 (pos 0))
  unfolding flag
  base_fits None f = (omega (arith, ints), omega (arith, ints))
  base_fits (Some q) f =
      let a = negatives_most 100000 (words q) f.small in
      let b : negatives (words q) ≤ 4000000 = omega (arith, ap (λ (k : ℕ). 100000 * k) f.forty) in
      (omega (arith, ints), omega (arith, ints))

  prices : PriceSlim s.header.parts s.price
  prices = price_slim text s.header.parts h.p2 h.p3 s.price h.price_line

  fine_base : Fine (table_of s) 2
  fine_base =
      at_place 2 Base _ place_base (front_word 2 (omega arith))
      (subst (λ (b : Bool). Within (used b (range (negsuc 3999999) (pos 0))) (get_or (front_of s.header.parts (length (all_rows s.rules)) s.price) 2 (pos 0))) (sym priced_is) (base_fits s.price prices))

  flag_fits : (p : Option Sum) → Within (range (pos 0) (pos 1)) (get_or (front_of s.header.parts (length (all_rows s.rules)) p) 3 (pos 0))
  flag_fits None = (omega (arith, ints), omega (arith, ints))
  flag_fits (Some q) = (omega (arith, ints), omega (arith, ints))

  fine_priced : Fine (table_of s) 3
  fine_priced = at_place 3 Priced _ place_priced (front_word 3 (omega arith)) (flag_fits s.price)

  weight_fits : (p : Option Sum) → PriceSlim s.header.parts p → (i : ℕ) → i < 40 → Within (used (flag p && ltb i s.header.parts) (range (negsuc 99999) (pos 100000))) (get_or (weight_words p) i (pos 0))
  unfolding flag
  weight_fits None f i l = rw (get_or-replicate 40 i (pos 0) (pos 0) l) (omega (arith, ints), omega (arith, ints))
  weight_fits (Some q) f i l =
      used_fits (ltb i s.header.parts) (negsuc 99999) (pos 100000) (get_or (words q) i (pos 0)) (sized_low (get_or (words q) i (pos 0)) 100000 (f.small i)) (sized_high (get_or (words q) i (pos 0)) 100000 (f.small i))
      (λ e. f.bare i (undeclared i s.header.parts e))

  fine_weight : (i : ℕ) → i < 40 → Fine (table_of s) (4 + i)
  fine_weight i l =
      let g = weight_fits s.price prices i l in
      let a = subst (λ (b : Bool). Within (used (b && ltb i s.header.parts) (range (negsuc 99999) (pos 100000))) (get_or (weight_words s.price) i (pos 0))) (sym priced_is) g in
      let c = subst (λ (m : ℕ). Within (used (priced (table_of s) && ltb i m) (range (negsuc 99999) (pos 100000))) (get_or (weight_words s.price) i (pos 0))) (sym parts_is) a in
      at_place (4 + i) (Weight i) _ (place_weight i l) (front_word (4 + i) (omega arith) ∙ weight_word s.header.parts (length (all_rows s.rules)) s.price i) c

  -- rows that are there
  fine_degree : (k : ℕ) → k < length (all_rows s.rules) → Fine (table_of s) (44 + 41 * k + 0)
  fine_degree k l =
      let f = fit_at s.header.parts (all_rows s.rules) k l fit in
      let d = f.degree_most in
      at_place (44 + 41 * k + 0) (Degree k) (pos (nth (all_rows s.rules) k).degree) (degree_place k) (behind _ (all_rows s.rules) head lined count k 0 l (omega arith))
      (used_fits (stated (table_of s) k) (pos 0) (pos 140000000) (pos (nth (all_rows s.rules) k).degree) (omega (arith, ints)) (omega (arith, ints))
      (λ e. no_false (stated (table_of s) k) (ap (ltb k) rules_is ∙ present k (length (all_rows s.rules)) l) e))

  fine_coefficient : (k i : ℕ) → k < length (all_rows s.rules) → i < 40 → Fine (table_of s) (44 + 41 * k + suc i)
  fine_coefficient k i l b =
      let f = (fit_at s.header.parts (all_rows s.rules) k l fit).coefs_slim in
      let v : ℤ = get_or (nth (all_rows s.rules) k).coefs i (pos 0) in
      at_place (44 + 41 * k + suc i) (Coefficient k i) v (coefficient_place k i b) (behind _ (all_rows s.rules) head lined count k (suc i) l (omega arith))
      (used_fits (stated (table_of s) k && declared (table_of s) i) (negsuc 999999) (pos 1000000) v (sized_low v 1000000 (f.small i)) (sized_high v 1000000 (f.small i))
      (λ e. f.bare i (undeclared i s.header.parts (ap (ltb i) (sym parts_is) ∙ not_both (stated (table_of s) k) (declared (table_of s) i) (ap (ltb k) rules_is ∙ present k (length (all_rows s.rules)) l) e))))

  -- rows that are not
  zero_row : (k j : ℕ) → length (all_rows s.rules) ≤ k → j < 41 → Fine (table_of s) (44 + 41 * k + j)
  zero_row k zero l b =
      at_place (44 + 41 * k + 0) (Degree k) (pos 0) (degree_place k) (past_rows _ (all_rows s.rules) head lined h.room (44 + 41 * k + 0) (omega arith))
      (used_fits (stated (table_of s) k) (pos 0) (pos 140000000) (pos 0) (omega (arith, ints)) (omega (arith, ints)) (λ e. refl))
  zero_row k (suc i) l b =
      at_place (44 + 41 * k + suc i) (Coefficient k i) (pos 0) (coefficient_place k i (omega arith)) (past_rows _ (all_rows s.rules) head lined h.room (44 + 41 * k + suc i) (omega arith))
      (used_fits (stated (table_of s) k && declared (table_of s) i) (negsuc 999999) (pos 1000000) (pos 0) (omega (arith, ints)) (omega (arith, ints)) (λ e. refl))

  full_row : (k j : ℕ) → k < length (all_rows s.rules) → j < 41 → Fine (table_of s) (44 + 41 * k + j)
  full_row k zero l b = fine_degree k l
  full_row k (suc i) l b = fine_coefficient k i l (omega arith)

  by_row : (k j : ℕ) → j < 41 → Fine (table_of s) (44 + 41 * k + j)
  by_row k j b = by (ltb k (length (all_rows s.rules))) refl
    where
      by : (d : Bool) → ltb k (length (all_rows s.rules)) ≡ d → Fine (table_of s) (44 + 41 * k + j)
      by true e = full_row k j (grind arith) b
      by false e = zero_row k j (grind arith) b

  low_words : (w : ℕ) → w < 44 → Fine (table_of s) w
  low_words zero l = fine_parts
  low_words (suc zero) l = fine_rules
  low_words (suc (suc zero)) l = fine_base
  low_words (suc (suc (suc zero))) l = fine_priced
  low_words (suc (suc (suc (suc i)))) l =
      let e : 4 + i ≡ suc (suc (suc (suc i))) = omega arith in
      subst (λ (x : ℕ). Fine (table_of s) x) e (fine_weight i (omega arith))

  every_word : (w : ℕ) → Fine (table_of s) w
  every_word w = by (ltb w 44) refl
    where
      by : (d : Bool) → ltb w 44 ≡ d → Fine (table_of s) w
      by true e = low_words w (grind arith)
      by false e =
          let l : 44 ≤ w = grind arith in
          let q : 44 + 41 * ((w - 44) / 41) + (w - 44) % 41 ≡ w = omega arith in
          let m : (w - 44) % 41 < 41 = omega arith in
          subst (λ (x : ℕ). Fine (table_of s) x) q (by_row ((w - 44) / 41) ((w - 44) % 41) m)

  sound : Sound (table_of s)
  sound = record { whole = table_length _ (all_rows s.rules) head lined h.room; fine = λ w l. every_word w }

pub table_sound : TableSound
table_sound text s h = sound text s h
