-- What a call of the reader has read, and what the tokens that it returns say.
use Rattle.std.specs.Prelude.{◌≡◌, ℕ, List, ℤ, pos, Ok, Err, Result}
use Rattle.std.specs.List.{between}
use Rattle.faults.specs.declared.fault.TextFault.{TextFault}
use Rattle.faults.specs.declared.fault.TextFault.TheVariants.{Misplaced}
use Rattle.forms.specs.Forms.{Form, outcome}
use Rattle.text.specs.declared.reader.Limit.{Limit}
use Rattle.text.specs.declared.reader.Reader.{Reader}
use Rattle.text.specs.declared.reader.Token.{Token}
use Rattle.text.specs.declared.reader.Token.TheVariants.{Number, Name, Sign}
use Rattle.text.specs.Bytes.{number_of, index_of}
use Rattle.text.specs.Tokens.{limited}

-- a call read the form F: the reader went from r to s, and the call came to x
pub record Step {A E : Type 0} (F : List ℕ → Form A E) (r s : Reader) (x : Result A E) : Type 0 where
  pub same : s.text.now ≡ r.text.now
  pub reads : F r.text.now r.at (outcome x s.at)

-- what a call came to that left the value q behind
abbrev pub told : {A B E : Type 0} → B → Result A E → Result B E
told q (Ok _) = Ok q
told q (Err e) = Err e

-- what a result's value is, seen by f
abbrev pub seen : {A B E : Type 0} → (A → B) → Result A E → Result B E
seen f (Ok a) = Ok (f a)
seen f (Err e) = Err e

-- where a token stands, and the bytes that it shows
abbrev pub place : Token → ℕ
place (Number at bytes) = at
place (Name at bytes) = at
place (Sign at bytes) = at

abbrev pub shown : Token → List ℕ
shown (Number at bytes) = bytes.now
shown (Name at bytes) = bytes.now
shown (Sign at bytes) = bytes.now

-- the token begins where the reader stood and shows the bytes up to where the reader now stands
abbrev pub Covers : Reader → Reader → Result Token TextFault → Type 0
Covers r s (Ok t) = (place t ≡ r.at) × (shown t ≡ between r.at s.at r.text.now)
Covers r s (Err e) = Unit {0}

-- the number that a token writes, within its limits; no other token can stand for one
abbrev pub number_said : Limit → Token → Result ℤ TextFault
number_said l (Number at bytes) = limited l at (number_of bytes.now)
number_said l (Name at bytes) = Err (Misplaced at)
number_said l (Sign at bytes) = Err (Misplaced at)

-- the part that a token names; none, 0, for any other token
abbrev pub index_said : Token → ℕ
index_said (Number at bytes) = 0
index_said (Name at bytes) = index_of bytes.now
index_said (Sign at bytes) = 0

-- the integer that a number token writes
abbrev pub written : Token → ℤ
written (Number at bytes) = number_of bytes.now
written (Name at bytes) = pos 0
written (Sign at bytes) = pos 0

abbrev pub IsNumber : Token → Type 0
IsNumber (Number at bytes) = Unit {0}
IsNumber (Name at bytes) = ⊥
IsNumber (Sign at bytes) = ⊥

abbrev pub IsName : Token → Type 0
IsName (Number at bytes) = ⊥
IsName (Name at bytes) = Unit {0}
IsName (Sign at bytes) = ⊥

abbrev pub IsSign : Token → Type 0
IsSign (Number at bytes) = ⊥
IsSign (Name at bytes) = ⊥
IsSign (Sign at bytes) = Unit {0}
