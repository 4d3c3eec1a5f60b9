-- Rows of their first numbers, with 0 at the other places.
use Rattle.std.proofs.Common.{◌≡◌, ℕ, ◌<◌, ◌≤◌, List, ℤ, pos, take, length, ◌∙◌, sym, subst, inl, inr, arith}
use Rattle.std.proofs.lemmas.Bool.{cases_lt}
use Rattle.std.proofs.lemmas.List.{same_lists, get_or-take, get_or_default, get_or_past, length-take-le}
use Rattle.rules.specs.Rule.{at}
use Rattle.core_text.specs.declared.line.Row.{Row}
use Rattle.core_text.specs.Lines.{ReadsRow, RowOf}

module _ (text : List ℕ) (xs row : List ℤ) (whole : length row ≡ 80) (room : length xs ≤ 80) (are : (i : ℕ) → i < 80 → at row i ≡ at xs i) where
  first_numbers : take (length xs) row ≡ xs
  first_numbers =
      let long = length-take-le (length xs) row (omega arith) in
      same_lists _ _ long
      (λ k d l.
      let here : k < length xs = omega arith in
      get_or-take (length xs) row k d here ∙ get_or_default row k d (pos 0) (omega arith) ∙ are k (omega arith) ∙ get_or_default xs k (pos 0) d here)

  pub row_of : (n : ℕ) → n ≡ length xs → ReadsRow text xs → RowOf text (record { numbers = row; length = n })
  row_of n is r = record {
    within = omega arith;
    reads = subst (λ i. ReadsRow text (take i row)) (sym is) (subst (ReadsRow text) (sym first_numbers) r);
    others = λ i l m. are i m ∙ get_or_past xs i (pos 0) (omega arith);
  }

-- each place of a row is that of its first numbers
pub whole_row : (text : List ℕ) (row : Row) → length row.numbers ≡ 80 → RowOf text row → (i : ℕ) → i < 80 → at row.numbers i ≡ at (take row.length row.numbers) i
whole_row text row whole r i l = elim (cases_lt i row.length) [
  | inl inside ↦ sym (get_or-take row.length row.numbers i (pos 0) inside)
  | inr out ↦ r.others i out l ∙ sym (get_or_past (take row.length row.numbers) i (pos 0) (omega (arith, length-take-le row.length row.numbers)))
]
