-- The line that a place of a text stands in.
use Rattle.std.specs.Prelude.{◌≡◌, ℕ, ◌+◌, ◌-◌, ◌<◌, ◌≤◌, List, length, take, count_by, ◌≢◌, nat_eq, slice_index}
use Rattle.spot.specs.declared.view.Spot.{Spot}
use Rattle.spot.specs.declared.view.Window.{Window}

-- no line ends from one index up to another
abbrev pub Unbroken : List ℕ → ℕ → ℕ → Type 0
Unbroken text from to = (i : ℕ) → from ≤ i → i < to → slice_index text i ≢ 10

-- a line begins here: at the start of the text, or after a line end
abbrev pub Begins : List ℕ → ℕ → Type 0
Begins text start = (0 < start → slice_index text (start - 1) ≡ 10)

-- a line ends here: at a line end, or at the end of the text
abbrev pub Ends : List ℕ → ℕ → Type 0
Ends text end = (end < length text → slice_index text end ≡ 10)

-- how many lines end before a place
abbrev pub line_ends : List ℕ → ℕ → ℕ
line_ends text place = count_by (λ b. nat_eq b 10) (take place text)

pub record Line (text : List ℕ) (s : Spot) : Type 0 where
  pub number : s.line ≡ line_ends text s.place + 1
  pub begins : Begins text s.start
  pub before : s.start ≤ s.place
  pub ends : Ends text s.end
  pub after : s.place ≤ s.end
  pub within : s.end ≤ length text
  pub unbroken : Unbroken text s.start s.end

-- the part of a line that is shown: the place is in it, it has at most 72 bytes, and a line of no more is shown whole
pub record Shows (s : Spot) (w : Window) : Type 0 where
  pub left : s.start ≤ w.from
  pub before : w.from ≤ s.place
  pub after : s.place ≤ w.to
  pub right : w.to ≤ s.end
  pub short : w.to ≤ w.from + 72
  pub whole : s.end ≤ s.start + 72 → (w.from ≡ s.start) × (w.to ≡ s.end)
