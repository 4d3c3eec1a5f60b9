-- What `split_once` gives at a tabulator.
use Rattle.std.proofs.Common.{◌≡◌, ℕ, List, Option, Some, Bor, arith}
use Rattle.std.proofs.lemmas.Str.Pattern.{IsSplitOnceResult, split_once_first}
use Rattle.core_text.specs.Lines.{tabulator, before, behind}

pub cut : (text : List ℕ) (r : Option (Bor (List ℕ) × Bor (List ℕ))) → IsSplitOnceResult tabulator text r → (x : Bor (List ℕ) × Bor (List ℕ)) → r ≡ Some x → (x.0.now ≡ before text) × (x.1.now ≡ behind text)
cut text r split x is =
    let (inside, front, back) = rw is at (split_once_first tabulator text r split (omega arith)) in
    (front, back)
