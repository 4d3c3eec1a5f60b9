-- The tokens of a text as forms: from a place, what token stands there and what it says, or the fault.
use Rattle.std.specs.Prelude.{◌≡◌, ℕ, ◌+◌, ◌<◌, min, Bool, true, false, cond, List, [], ◌∷◌, length, ℤ, pos, negsuc, Ok, Err, Result, int_le, nat_le, nat_lt}
use Rattle.std.specs.List.{between}
use Rattle.faults.specs.declared.fault.TextFault.{TextFault}
use Rattle.faults.specs.declared.fault.TextFault.TheVariants.{TooLong, Misplaced, Beyond, Cut}
use Rattle.forms.specs.Forms.{Outcome, got, bad, Form, Then, Loop, Just, From, Give}
use Rattle.text.specs.declared.reader.Class.{Class}
use Rattle.text.specs.declared.reader.Class.TheVariants.{Digit, Blank, Inline}
use Rattle.text.specs.declared.reader.Limit.{Limit}
use Rattle.text.specs.declared.reader.Limit.TheVariants.{Parts, Rules, Price, Coefficient, RightSide}
use Rattle.text.specs.declared.reader.Sign.{Sign}
use Rattle.text.specs.Bytes.{sees, stands, Run, spelling, decimal, signed}

-- a text has at most 16,384 bytes
abbrev pub short : List ℕ → Result (Unit {0}) TextFault
short text = cond (nat_le (length text) 16384) (Ok tt) (Err TooLong)

-- what is wrong at i with a token that begins at `start`: the text ends there, or the byte there is none of it
abbrev pub missing : List ℕ → ℕ → ℕ → TextFault
missing text start i = cond (nat_lt i (length text)) (Misplaced start) (Cut (length text))

-- as many bytes of the class as there are
pub data Pass (c : Class) (text : List ℕ) (from : ℕ) : Outcome (Unit {0}) TextFault → Type 0 where
  passed : (to : ℕ) → Run c text from to → Pass c text from (got tt to)

-- the byte b, of a token that begins at `start`
abbrev pub byte : List ℕ → ℕ → ℕ → ℕ → Outcome (Unit {0}) TextFault
byte text b start from = cond (stands text b from) (got tt (from + 1)) (bad (missing text start from))

abbrev pub Byte : List ℕ → ℕ → ℕ → Form (Unit {0}) TextFault
Byte text b start = Just (byte text b start)

-- the bytes bs, of a token that begins at `start`
pub data Bytes (text : List ℕ) (start : ℕ) : List ℕ → ℕ → Outcome (Unit {0}) TextFault → Type 0 where
  whole : (from : ℕ) → Bytes text start [] from (got tt from)
  here : (b : ℕ) (bs : List ℕ) (from : ℕ) (o : Outcome (Unit {0}) TextFault) → stands text b from ≡ true → Bytes text start bs (from + 1) o → Bytes text start (b ∷ bs) from o
  wrong : (b : ℕ) (bs : List ℕ) (from : ℕ) → stands text b from ≡ false → Bytes text start (b ∷ bs) from (bad (missing text start from))

-- a token with a fixed spelling
abbrev pub Spelt : List ℕ → Sign → Form (Unit {0}) TextFault
Spelt text s = From (λ start. Bytes text start (spelling s))

-- one or more digits, as many as there are, of a token that begins at `start`: the number that they write
pub data Digits (text : List ℕ) (start from : ℕ) : Outcome ℕ TextFault → Type 0 where
  some : (m to : ℕ) → from < to → Run Digit text from to → m ≡ decimal (between from to text) → Digits text start from (got m to)
  none : (e : TextFault) → sees text Digit from ≡ false → e ≡ missing text start from → Digits text start from (bad e)

-- an optional sign: is it a minus?
abbrev pub minus : List ℕ → ℕ → Outcome Bool TextFault
minus text from = cond (stands text 45 from) (got true (from + 1)) (cond (stands text 43 from) (got false (from + 1)) (got false from))

abbrev pub Minus : List ℕ → Form Bool TextFault
Minus text = Just (minus text)

-- a number: an optional sign and digits
abbrev pub Number : List ℕ → Form ℤ TextFault
Number text = From (λ start. Then (Minus text) (λ m. Then (Digits text start) (λ d. Give (Ok (signed m d)))))

-- a name: `x` and digits
abbrev pub Name : List ℕ → Form ℕ TextFault
Name text = From (λ start. Then (Byte text 120 start) (λ _. Digits text start))

-- the least and the greatest number that may stand
abbrev pub low : Limit → ℤ
low Parts = pos 1
low Rules = pos 0
low Price = negsuc 99999
low Coefficient = negsuc 999999
low RightSide = negsuc 99999999

abbrev pub high : Limit → ℤ
high Parts = pos 40
high Rules = pos 64
high Price = pos 100000
high Coefficient = pos 1000000
high RightSide = pos 100000000

-- a number, or one past every limit on the same side
abbrev pub clamp : ℤ → ℤ
clamp (pos n) = pos (min 100000001 n)
clamp (negsuc n) = negsuc (min 100000000 n)

abbrev pub limited : Limit → ℕ → ℤ → Result ℤ TextFault
limited l start z = cond (int_le (low l) z) (cond (int_le z (high l)) (Ok z) (Err (Beyond start))) (Err (Beyond start))

-- a number within its limits
abbrev pub Limited : List ℕ → Limit → Form ℤ TextFault
Limited text l = From (λ start. Then (Number text) (λ z. Give (limited l start z)))

-- blanks, and comments: each from a star to the end of its line, or of the text
abbrev pub Comment : List ℕ → Unit {0} → Form (Unit {0}) TextFault
Comment text _ = Then (Pass Inline text) (λ _. Pass Blank text)

abbrev pub Gap : List ℕ → Form (Unit {0}) TextFault
Gap text = Then (Pass Blank text) (Loop (stands text 42) (Comment text))

-- the rest of a line, through its line feed
abbrev pub Line : List ℕ → Form (Unit {0}) TextFault
Line text = Then (Pass Inline text) (λ _. From (λ start. Byte text 10 start))
