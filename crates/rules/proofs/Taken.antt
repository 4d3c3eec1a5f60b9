-- What the coefficients that are taken give, read as a list.
use Rattle.std.proofs.Common.{◌≡◌, ℕ, ◌≤◌, ℤ, pos, List, take, map, sum, length, arith, ◌∙◌, ap}
use Rattle.std.proofs.lemmas.List.{get_or-take, length-take-le}
use Rattle.std.proofs.lemmas.Slice.Zip.{get_or-zip, length-zip}
use Rattle.std.specs.List.{zip}
use Rattle.rules.specs.Rule.{at, marked, kept, open_sum}
use Rattle.rules.specs.declared.Mark.{Mark}
use Rattle.rules.specs.declared.Mark.TheVariants.{Free}
use Rattle.rules.proofs.Summed.{summed}

-- what a coefficient beside its mark gives
abbrev pub gives : ℤ × Mark → ℕ
gives p = kept p.0 p.1

module _ (xs : List ℤ) (ms : List Mark) (n : ℕ) (l : n ≤ length xs) (m : n ≤ length ms) where
  pub taken_length : length (take n (zip xs ms)) ≡ n
  taken_length = length-take-le n (zip xs ms) (omega (arith, length-zip xs ms))

  pub gives_open : sum (map gives (take n (zip xs ms))) ≡ open_sum n (at xs) (marked ms)
  gives_open =
      summed gives (λ i. kept (at xs i) (marked ms i)) (take n (zip xs ms)) (pos 0, Free) n taken_length
      (λ i b. ap gives (get_or-take n (zip xs ms) i (pos 0, Free) b ∙ get_or-zip xs ms i (pos 0, Free) (omega arith) (omega arith)))
