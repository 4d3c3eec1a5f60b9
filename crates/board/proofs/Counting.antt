-- A choice meets the sheet where it breaks no rule.
use Rattle.std.proofs.Common.{◌≡◌, ℕ, ◌≤◌, Bool, true, false, cond, List, ℤ, refl, ap, arith}
use Rattle.std.proofs.lemmas.Bool.{le-ltb, ltb-false}
use Rattle.rules.proofs.Sum.{part_le, total_none}
use Rattle.table.specs.Layout.{degree, rules_of}
use Rattle.table.specs.Meaning.{reached, Meets}
use Rattle.board.specs.Board.{is_broken, broken_rules}

none_false : (b : Bool) → cond b 1 0 ≤ 0 → b ≡ false
none_false true l = absurd (omega arith)
none_false false l = refl

module _ (T : List ℤ) (x : ℕ → Bool) where
  pub meets_from_none : broken_rules T x ≡ 0 → Meets T x
  meets_from_none e k l =
      let none : is_broken T x k ≤ 0 = omega (arith, part_le (rules_of T) (is_broken T x) k l) in
      ltb-false (reached T k x) (degree T k) (none_false _ none)

  pub none_from_meets : Meets T x → broken_rules T x ≡ 0
  none_from_meets m = total_none (rules_of T) (is_broken T x) (λ k l. ap (λ b. cond b 1 0) (le-ltb (reached T k x) (degree T k) (m k l)))
