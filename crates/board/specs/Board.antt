-- What words make of a board, and the choice that a board is.
use Rattle.std.specs.Prelude.{◌≡◌, ℕ, ◌+◌, ◌-◌, ◌<◌, ◌≤◌, Bool, true, false, cond, ◌&&◌, ◌⊎◌, List, [], ◌∷◌, length, take, replicate, ℤ, Some, None, Ok, Err, Decides, Result, ◌≢◌, nat_lt, slice_index_or, slice_set}
use Rattle.rules.specs.Sum.{total}
use Rattle.rules.specs.declared.Mark.{Mark}
use Rattle.rules.specs.declared.Mark.TheVariants.{Free, Zero, One}
use Rattle.table.specs.Layout.{degree, parts_of, rules_of}
use Rattle.table.specs.Meaning.{mark, reached}
use Rattle.board.specs.Literal.{Says}
use Rattle.board.specs.declared.words.Literal.{Literal}
use Rattle.board.specs.declared.words.Judgement.{Judgement}
use Rattle.board.specs.declared.words.Misread.{Misread}
use Rattle.board.specs.declared.Board.{Board}
use Rattle.board.specs.declared.words.Trouble.{Trouble}
use Rattle.board.specs.declared.words.Trouble.TheVariants.{NotALiteral, NoSuchPart, NamedTwice}

-- a part is taken where it is marked so, and not where it is left out or not named
abbrev pub is_one : Mark → Bool
is_one Free = false
is_one Zero = false
is_one One = true

abbrev pub choice : List Mark → ℕ → Bool
choice ms i = nat_lt i 40 && is_one (slice_index_or ms i Free)

-- no part is named
abbrev pub bare : List Mark
bare = replicate 40 Free

-- the number of a part that the sheet declares
abbrev pub Declares : List ℤ → ℕ → Type 0
Declares T n = (0 < n) × (n ≤ parts_of T)

-- a word names a part that the sheet declares
pub record Names (T : List ℤ) (word : List ℕ) (l : Literal) : Type 0 where
  pub says : Says word (Some l)
  pub declares : Declares T l.part

-- what a word makes of the marks: the answer, and the marks after it
abbrev pub Named : List ℤ → List ℕ → List Mark → Result Unit Trouble → List Mark → Type 0
Named T word ms (Ok _) after = (l : Literal) × Names T word l × (slice_index_or ms (l.part - 1) Free ≡ Free) × (after ≡ slice_set ms (l.part - 1) (mark l.taken))
Named T word ms (Err NotALiteral) after = Says word None × (after ≡ ms)
Named T word ms (Err NoSuchPart) after = (l : Literal) × Says word (Some l) × (Declares T l.part → ⊥) × (after ≡ ms)
Named T word ms (Err NamedTwice) after = (l : Literal) × Names T word l × (slice_index_or ms (l.part - 1) Free ≢ Free) × (after ≡ ms)

-- the words take the marks from `before` to `after`, one by one
abbrev pub Marks : List ℤ → List (List ℕ) → List Mark → List Mark → Type 0
Marks T [] before after = after ≡ before
Marks T (word ∷ words) before after = (next : List Mark) × Named T word before (Ok tt) next × Marks T words next after

-- the first word that is refused, and the marks that those before it make
pub record Refused (T : List ℤ) (words : List (List ℕ)) (m : Misread) (ms : List Mark) : Type 0 where
  pub within : m.index < length words
  pub before : Marks T (take m.index words) bare ms
  pub refused : Named T (slice_index_or words m.index []) ms (Err m.trouble) ms

-- what the words make of a board that nothing is named of
abbrev pub Read : List ℤ → List (List ℕ) → Result Board Misread → Type 0
Read T words (Ok b) = Marks T words bare b.marks
Read T words (Err m) = (ms : List Mark) × Refused T words m ms

-- one of the words takes the part i, counted from 0
abbrev pub taking : ℕ → Literal
taking i = record { part = i + 1; taken = true }

abbrev pub SaysTaken : List (List ℕ) → ℕ → Type 0
SaysTaken [] i = ⊥
SaysTaken (word ∷ words) i = Says word (Some (taking i)) ⊎ SaysTaken words i

-- a part is taken exactly where one of the words takes it
abbrev pub TakesAsSaid : List (List ℕ) → List Mark → Type 0
TakesAsSaid words ms = (i : ℕ) → i < 40 → Decides (choice ms i) (SaysTaken words i)

-- what the choice reaches of a rule, and what the rule needs
abbrev pub judged : List ℤ → ℕ → (ℕ → Bool) → Judgement
judged T k x = record { reached = reached T k x; needed = degree T k }

-- the choice breaks a rule; 1 for such a rule, else 0; and how many it breaks
abbrev pub breaks : List ℤ → (ℕ → Bool) → ℕ → Bool
breaks T x k = nat_lt (reached T k x) (degree T k)

abbrev pub is_broken : List ℤ → (ℕ → Bool) → ℕ → ℕ
is_broken T x k = cond (breaks T x k) 1 0

abbrev pub broken_rules : List ℤ → (ℕ → Bool) → ℕ
broken_rules T x = total (is_broken T x) (rules_of T)
