-- Which place each word has, and what a sound table holds there.
use Rattle.std.proofs.Common.{◌≡◌, ℕ, ◌+◌, ◌-◌, ◌*◌, ◌<◌, ◌≤◌, Bool, true, false, ◌&&◌, List, ℤ, pos, negsuc, nat_abs, get_or, take, drop, refl, ◌∙◌, subst, arith}
use Rattle.std.proofs.lemmas.List.{get_or-take, get_or-drop}
use Rattle.std.proofs.lemmas.Int.{ints}
use Rattle.std.proofs.lemmas.Bool.Decides.{nat_tests}
use Rattle.table.specs.declared.place.Place.{Place}
use Rattle.table.specs.declared.place.Place.TheVariants.{Parts, Rules, Base, Priced, Weight, Degree, Coefficient}
use Rattle.table.specs.Layout.{word, base, weight, degree, coefficient, parts_of, rules_of, priced, declared, stated, place_of, range, used, limits_of, Within, Fine}

pub place_parts : place_of 0 ≡ Parts
unfolding place_of
place_parts = refl

pub place_rules : place_of 1 ≡ Rules
unfolding place_of
place_rules = refl

pub place_base : place_of 2 ≡ Base
unfolding place_of
place_base = refl

pub place_priced : place_of 3 ≡ Priced
unfolding place_of
place_priced = refl

pub place_weight : (i : ℕ) → i < 40 → place_of (4 + i) ≡ Weight i
unfolding place_of
place_weight i l = grind (arith, nat_tests)

pub place_degree : (k : ℕ) → place_of (44 + 41 * k) ≡ Degree k
unfolding place_of
place_degree k = grind (arith, nat_tests)

pub place_coefficient : (k i : ℕ) → i < 40 → place_of (44 + 41 * k + (1 + i)) ≡ Coefficient k i
unfolding place_of
place_coefficient k i l = grind (arith, nat_tests)

-- what the limits of each kind of word say of its size
base_within : (b : Bool) (v : ℤ) → Within (used b (range (negsuc 3999999) (pos 0))) v → nat_abs v ≤ 4000000
base_within true v h = omega (arith, ints)
base_within false v h = omega (arith, ints)

weight_within : (b : Bool) (v : ℤ) → Within (used b (range (negsuc 99999) (pos 100000))) v → nat_abs v ≤ 100000
weight_within true v h = omega (arith, ints)
weight_within false v h = omega (arith, ints)

degree_within : (b : Bool) (v : ℤ) → Within (used b (range (pos 0) (pos 140000000))) v → nat_abs v ≤ 140000000
degree_within true v h = omega (arith, ints)
degree_within false v h = omega (arith, ints)

coefficient_within : (b : Bool) (v : ℤ) → Within (used b (range (negsuc 999999) (pos 1000000))) v → nat_abs v ≤ 1000000
coefficient_within true v h = omega (arith, ints)
coefficient_within false v h = omega (arith, ints)

-- the words from one on, up to another
pub between : (T : List ℤ) (from to i : ℕ) → i < to - from → get_or (take (to - from) (drop from T)) i (pos 0) ≡ word T (from + i)
between T from to i l = get_or-take (to - from) (drop from T) i (pos 0) l ∙ get_or-drop from T i (pos 0)

-- a word of a table in which each is fine, by its place
module _ (T : List ℤ) (fine : (w : ℕ) → w < 2668 → Fine T w) where
  at_place : (w : ℕ) (p : Place) → w < 2668 → place_of w ≡ p → Within (limits_of T p) (word T w)
  at_place w p l e = subst (λ (q : Place). Within (limits_of T q) (word T w)) e (fine w l)

  pub parts_some : 0 < parts_of T
  parts_some = let h = at_place 0 Parts (omega arith) place_parts in omega (arith, ints)

  pub parts_most : parts_of T ≤ 40
  parts_most = let h = at_place 0 Parts (omega arith) place_parts in omega (arith, ints)

  pub rules_most : rules_of T ≤ 64
  rules_most = let h = at_place 1 Rules (omega arith) place_rules in omega (arith, ints)

  pub base_most : nat_abs (base T) ≤ 4000000
  base_most = base_within (priced T) (base T) (at_place 2 Base (omega arith) place_base)

  pub weight_most : (i : ℕ) → i < 40 → nat_abs (weight T i) ≤ 100000
  weight_most i l = weight_within (priced T && declared T i) (weight T i) (at_place (4 + i) (Weight i) (omega arith) (place_weight i l))

  pub degree_most : (k : ℕ) → k < 64 → degree T k ≤ 140000000
  degree_most k l = degree_within (stated T k) (word T (44 + 41 * k)) (at_place (44 + 41 * k) (Degree k) (omega arith) (place_degree k))

  pub coefficient_most : (k i : ℕ) → k < 64 → i < 40 → nat_abs (coefficient T k i) ≤ 1000000
  coefficient_most k i l m =
      coefficient_within (stated T k && declared T i) (coefficient T k i) (at_place (44 + 41 * k + (1 + i)) (Coefficient k i) (omega arith) (place_coefficient k i m))
