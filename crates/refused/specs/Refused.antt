-- What is printed of a refusal.
use Rattle.std.specs.Prelude.{◌≡◌, ℕ, ◌+◌, ◌-◌, ◌^◌, min, Bool, true, false, cond, List, [], ◌∷◌, ◌++◌, map, length, take, drop, replicate, codes, decimal, nat_lt, slice_index_or}
use Rattle.faults.specs.Refusals.{sheet_refusal, run_refusal}
use Rattle.faults.specs.Words.{run_words}
use Rattle.faults.specs.declared.fault.Refusal.{Refusal}
use Rattle.faults.specs.declared.fault.RunFault.{RunFault}
use Rattle.faults.specs.declared.fault.RunFault.TheVariants.{Sheet, TableLength, Layout}
use Rattle.spot.specs.Spot.{Line, Shows}
use Rattle.spot.specs.declared.view.Spot.{Spot}
use Rattle.spot.specs.declared.view.Window.{Window}
use Rattle.board.specs.Trouble.{trouble_words}
use Rattle.board.specs.declared.words.Misread.{Misread}

-- the first two lines: the refusal's three numbers, and what it says
abbrev pub head_lines : Refusal → List ℕ → List ℕ
head_lines r words =
    codes "the sheet is refused: layer " ++ (decimal r.layer ++ (codes ", number " ++ (decimal r.number
    ++ (codes ", place " ++ (decimal r.place ++ (10 ∷ (words ++ (10 ∷ []))))))))

abbrev pub head_text : RunFault → List ℕ
head_text fault = head_lines (run_refusal fault) (run_words fault)

-- a byte as it is shown: a dot for one that does not print
abbrev pub shown_byte : ℕ → ℕ
shown_byte b = cond (nat_lt b 32) 46 (cond (nat_lt 126 b) 46 b)

-- what stands for a part of a line that is not shown
abbrev pub dots_text : Bool → List ℕ
dots_text true = codes "..."
dots_text false = []

-- the line and the column of a place, what is shown of the line, and a caret under the place
abbrev pub excerpt_lines : ℕ → ℕ → List ℕ → List ℕ → List ℕ → List ℕ → List ℕ
excerpt_lines line column before shown after blanks =
    codes "line " ++ (decimal line ++ (codes ", column " ++ (decimal column ++ (codes ":" ++ (10 ∷ (codes "  " ++ (before ++ (shown ++ (after
    ++ (10 ∷ (codes "  " ++ (blanks ++ (codes "^" ++ (10 ∷ []))))))))))))))

abbrev pub excerpt_text : List ℕ → Spot → Window → List ℕ
excerpt_text text s w =
    excerpt_lines s.line (s.place - s.start + 1) (dots_text (nat_lt s.start w.from)) (map shown_byte (take (w.to - w.from) (drop w.from text)))
    (dots_text (nat_lt w.to s.end)) (replicate (length (dots_text (nat_lt s.start w.from)) + (s.place - w.from)) 32)

-- the excerpt of a place: of its line, in a window around it
abbrev pub Excerpt : List ℕ → ℕ → List ℕ → Type 0
Excerpt text place bs = (s : Spot) × (w : Window) × (s.place ≡ min place (length text)) × Line text s × Shows s w × (bs ≡ excerpt_text text s w)

-- all that is printed: a fault of a text comes with the excerpt of its place
abbrev pub Told : List ℕ → RunFault → List ℕ → Type 0
Told text (Sheet fault) bs = (cut : List ℕ) × Excerpt text (sheet_refusal fault).place cut × (bs ≡ head_text (Sheet fault) ++ cut)
Told text TableLength bs = bs ≡ head_text TableLength
Told text (Layout word) bs = bs ≡ head_text (Layout word)

-- what is printed of words that name no board
abbrev pub board_lines : ℕ → List ℕ → List ℕ → ℕ → List ℕ
board_lines number word trouble parts =
    codes "the board is refused: argument " ++ (decimal number ++ (codes ", `" ++ (word ++ (codes "`, " ++ (trouble ++ (10 ∷ (codes "name the parts x1 to x" ++ (decimal parts
    ++ (codes ", each at most once: x1 takes part 1, -x1 leaves it out; a part that is not named is not taken" ++ (10 ∷ []))))))))))

abbrev pub board_text : List (List ℕ) → Misread → ℕ → List ℕ
board_text words m parts = board_lines (min (m.index + 1) (2 ^ 64 - 1)) (map shown_byte (slice_index_or words m.index [])) (trouble_words m.trouble) parts
