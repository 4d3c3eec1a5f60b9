-- What an engine's answer says of the boards of a sheet.
use Rattle.std.proofs.Common.{◌≡◌, ℕ, ◌<◌, Bool, true, false, ◌&&◌, List, ℤ, sym, refl, ap, ◌∙◌, arith}
use Rattle.std.proofs.lemmas.Bool.{lt-ltb}
use Rattle.rules.specs.Rule.{marked, kept, Full as Fully}
use Rattle.rules.specs.Terms.{coefficient}
use Rattle.rules.proofs.Sum.{total_same}
use Rattle.rules.specs.declared.Mark.{Mark}
use Rattle.rules.specs.declared.Mark.TheVariants.{Free, Zero, One}
use Rattle.engine.specs.Held.{nth, MeetsAll}
use Rattle.table.specs.Layout.{parts_of, Fine}
use Rattle.table.specs.Meaning.{Meets, mark, chosen}
use Rattle.table.proofs.Places.{parts_some, parts_most}
use Rattle.board.specs.Board.{choice, is_one}
use Rattle.solve.specs.Loads.{Loadable}
use Rattle.ledger.specs.View.{held_by, sheet_limits}
use Rattle.ledger.specs.Reading.{same_meaning}

abbrev AllFine : List ℤ → Type 0
AllFine T = (w : ℕ) → w < 2668 → Fine T w

-- a mark that is there is the one that its choice gives
mark_back : (m : Mark) → (m ≡ Free → ⊥) → mark (is_one m) ≡ m
mark_back Free f = absurd (f refl)
mark_back Zero f = refl
mark_back One f = refl

-- on the parts, a board's choice gives its marks
choice_marks : (b : List Mark) (i : ℕ) → i < 40 → (marked b i ≡ Free → ⊥) → chosen (choice b) i ≡ marked b i
choice_marks b i l full = ap (λ t. mark (t && is_one (marked b i))) (lt-ltb i 40 l) ∙ mark_back (marked b i) full

-- the rules of a sheet can be loaded into any engine
pub sheet_loads : (T : List ℤ) → AllFine T → Loadable sheet_limits (held_by T)
sheet_loads T fine = record { some = parts_some T fine; room = omega arith; coefficient = omega arith; degree = omega arith }

pub board_meets : (T : List ℤ) → AllFine T → (ms b : List Mark) → ((i : ℕ) → i < 40 → marked b i ≡ marked ms i) → Fully (parts_of T) (marked ms) → MeetsAll (held_by T) (marked ms)
    → Meets T (choice b)
board_meets T fine ms b same full all =
    (same_meaning T fine).of_rules (choice b) (λ k l.
    let r = nth (held_by T).rules k in
    let sum = total_same (parts_of T) (λ i. kept (coefficient r i) (chosen (choice b) i)) (λ i. kept (coefficient r i) (marked ms i))
    (λ i n.
    let p : i < 40 = omega (arith, parts_most T fine) in
    ap (kept (coefficient r i)) (choice_marks b i p (λ e. full i n (sym (same i p) ∙ e)) ∙ same i p)) in
    omega (arith, all k l))

chosen_full : (n : ℕ) (x : ℕ → Bool) → Fully n (chosen x)
chosen_full n x i l e = not_free (x i) e
  where
    not_free : (b : Bool) → mark b ≡ Free → ⊥
    not_free true e = let z : ◌≡◌ {A = ℕ} 0 1 = cc in omega arith
    not_free false e = let z : ◌≡◌ {A = ℕ} 0 1 = cc in omega arith

pub no_board : (T : List ℤ) → AllFine T → ((m : ℕ → Mark) → Fully (parts_of T) m → MeetsAll (held_by T) m → ⊥) → (x : ℕ → Bool) → Meets T x → ⊥
no_board T fine none x meets = none (chosen x) (chosen_full (parts_of T) x) ((same_meaning T fine).of_table x meets)
