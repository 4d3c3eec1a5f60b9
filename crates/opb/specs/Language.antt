-- The language of sheets, by places of a text: what stands from one place up to another. It is linear OPB: a header line,
-- at most one price line, and rules, with blanks and comments between them.
use Rattle.std.specs.Prelude.{◌≡◌, ℕ, ◌+◌, ◌<◌, ◌≤◌, Bool, true, false, List, [], ◌∷◌, length, ℤ, ◌≤ℤ◌, Some, None, Option, unsigned_abs}
use Rattle.std.specs.List.{between}
use Rattle.text.specs.declared.reader.Class.TheVariants.{Digit, Blank, Inline}
use Rattle.text.specs.declared.reader.Limit.{Limit}
use Rattle.text.specs.declared.reader.Limit.TheVariants as limit
use Rattle.text.specs.declared.reader.Sign.{Sign}
use Rattle.text.specs.declared.reader.Sign.TheVariants as sign
use Rattle.text.specs.Bytes.{stands, Run, spelling, decimal, signed}
use Rattle.text.specs.Tokens.{low, high}
use Rattle.lines.specs.declared.line.Comparison.{Comparison}
use Rattle.lines.specs.declared.line.Comparison.TheVariants.{AtLeast, Equal}
use Rattle.lines.specs.declared.line.Rule.{Rule}
use Rattle.lines.specs.declared.line.Sum.{Sum}
use Rattle.lines.specs.Lines.{Numbers, empty, put, names, rows_for}
use Rattle.opb.specs.Sheets.{Written, rows_of, Says, SaysRule}

-- a token that is spelt in one way only
pub record SpeltAt (text : List ℕ) (s : Sign) (from to : ℕ) : Type 0 where
  pub end : to ≡ from + length (spelling s)
  pub inside : to ≤ length text
  pub is : between from to text ≡ spelling s

-- an optional sign; the digits begin at `first`
pub data SignAt (text : List ℕ) (from first : ℕ) (minus : Bool) : Type 0 where
  unsigned : stands text 45 from ≡ false → stands text 43 from ≡ false → first ≡ from → minus ≡ false → SignAt text from first minus
  plus : stands text 43 from ≡ true → first ≡ from + 1 → minus ≡ false → SignAt text from first minus
  negative : stands text 45 from ≡ true → first ≡ from + 1 → minus ≡ true → SignAt text from first minus

-- one or more digits, and no digit after them, that write v
pub record DigitsAt (text : List ℕ) (from to v : ℕ) : Type 0 where
  pub some : from < to
  pub run : Run Digit text from to
  pub is : v ≡ decimal (between from to text)

-- a number within its limits
pub record NumberAt (text : List ℕ) (l : Limit) (from to : ℕ) (z : ℤ) : Type 0 where
  pub first : ℕ
  pub minus : Bool
  pub size : ℕ
  pub sign_at : SignAt text from first minus
  pub digits : DigitsAt text first to size
  pub is : z ≡ signed minus size
  pub least : low l ≤ℤ z
  pub most : z ≤ℤ high l

-- the name of one of n parts
pub record NameAt (text : List ℕ) (n from to k : ℕ) : Type 0 where
  pub letter : stands text 120 from ≡ true
  pub digits : DigitsAt text (from + 1) to k
  pub least : 1 ≤ k
  pub most : k ≤ n

-- blanks and comments. A comment goes from a star to the end of its line, or of the text.
pub data GapAt (text : List ℕ) : ℕ → ℕ → Type 0 where
  blanks : (from to : ℕ) → Run Blank text from to → stands text 42 to ≡ false → GapAt text from to
  comment : (from star end to : ℕ) → Run Blank text from star → stands text 42 star ≡ true → Run Inline text star end → GapAt text end to → GapAt text from to

-- a coefficient and the name of its part, with the blanks after them
pub record PairAt (text : List ℕ) (n : ℕ) (l : Limit) (from to : ℕ) (a : ℤ) (k : ℕ) : Type 0 where
  pub mid : ℕ
  pub next : ℕ
  pub after : ℕ
  pub coefficient : NumberAt text l from mid a
  pub gap : Run Blank text mid next
  pub name : NameAt text n next after k
  pub rest : Run Blank text after to

-- pairs, which make the sum q of the sum s: each names a part that is not named yet
pub data PairsAt (text : List ℕ) (n : ℕ) (l : Limit) : ℕ → ℕ → Sum → Sum → Type 0 where
  none : (from : ℕ) (s : Sum) → PairsAt text n l from from s s
  more : (from mid to : ℕ) (s q : Sum) (a : ℤ) (k : ℕ) → PairAt text n l from mid a k → names s k ≡ false → PairsAt text n l mid to (put s k a) q → PairsAt text n l from to s q

-- a sum: one or more pairs
pub record SumAt (text : List ℕ) (n : ℕ) (l : Limit) (from to : ℕ) (q : Sum) : Type 0 where
  pub mid : ℕ
  pub coef : ℤ
  pub part : ℕ
  pub first : PairAt text n l from mid coef part
  pub rest : PairsAt text n l mid to (put empty part coef) q

-- the header: how many parts there are and how many rules; the rest of its line says nothing
pub record HeaderAt (text : List ℕ) (to : ℕ) (h : Numbers) : Type 0 where
  pub p1 : ℕ
  pub p2 : ℕ
  pub p3 : ℕ
  pub p4 : ℕ
  pub p5 : ℕ
  pub p6 : ℕ
  pub p7 : ℕ
  pub p8 : ℕ
  pub n : ℤ
  pub m : ℤ
  pub variables : SpeltAt text sign.Variables 0 p1
  pub gap_1 : Run Blank text p1 p2
  pub parts : NumberAt text limit.Parts p2 p3 n
  pub gap_2 : Run Blank text p3 p4
  pub constraints : SpeltAt text sign.Constraints p4 p5
  pub gap_3 : Run Blank text p5 p6
  pub rules : NumberAt text limit.Rules p6 p7 m
  pub line : Run Inline text p7 p8
  pub feed : stands text 10 p8 ≡ true
  pub end : to ≡ p8 + 1
  pub is : h ≡ record { parts = unsigned_abs n; rules = unsigned_abs m }

-- at most one price line, with the gap after it
pub data PriceAt (text : List ℕ) (n from to : ℕ) : Option Sum → Type 0 where
  absent : stands text 109 from ≡ false → to ≡ from → PriceAt text n from to None
  present : (p1 p2 p3 p4 : ℕ) (s : Sum) → SpeltAt text sign.Minimise from p1 → Run Blank text p1 p2 → SumAt text n limit.Price p2 p3 s → SpeltAt text sign.End p3 p4 → GapAt text p4 to → PriceAt text n from to (Some s)

-- a comparison sign
pub data ComparedAt (text : List ℕ) (from to : ℕ) : Comparison → Type 0 where
  at_least : SpeltAt text sign.AtLeast from to → ComparedAt text from to AtLeast
  equal : SpeltAt text sign.Equal from to → ComparedAt text from to Equal

-- a rule
pub record RuleAt (text : List ℕ) (n from to : ℕ) (q : Rule) : Type 0 where
  pub p1 : ℕ
  pub p2 : ℕ
  pub p3 : ℕ
  pub p4 : ℕ
  pub p5 : ℕ
  pub sum : SumAt text n limit.Coefficient from p1 q.sum
  pub compared : ComparedAt text p1 p2 q.comparison
  pub gap_1 : Run Blank text p2 p3
  pub right_side : NumberAt text limit.RightSide p3 p4 q.bound
  pub gap_2 : Run Blank text p4 p5
  pub end : SpeltAt text sign.End p5 to

-- rules up to the end of the text, each with the gap after it
pub data RulesAt (text : List ℕ) (n : ℕ) : ℕ → List Rule → Type 0 where
  ended : (from : ℕ) → length text ≤ from → RulesAt text n from []
  rule : (from mid next : ℕ) (q : Rule) (qs : List Rule) → RuleAt text n from mid q → GapAt text mid next → RulesAt text n next qs → RulesAt text n from (q ∷ qs)

-- The text writes the sheet s.
pub record Language (text : List ℕ) (s : Written) : Type 0 where
  pub short : length text ≤ 16384
  pub p1 : ℕ
  pub p2 : ℕ
  pub p3 : ℕ
  pub header_line : HeaderAt text p1 s.header
  pub gap : GapAt text p1 p2
  pub price_line : PriceAt text s.header.parts p2 p3 s.price
  pub rule_lines : RulesAt text s.header.parts p3 s.rules
  pub count : length s.rules ≡ s.header.rules
  pub room : rows_of s.rules ≤ 64

-- The text writes the rule q alone, about n parts, and the rule finds its rows among those that are left.
pub record LanguageRule (text : List ℕ) (n room : ℕ) (q : Rule) : Type 0 where
  pub short : length text ≤ 16384
  pub p1 : ℕ
  pub p2 : ℕ
  pub gap_1 : Run Blank text 0 p1
  pub rule_line : RuleAt text n p1 p2 q
  pub gap_2 : Run Blank text p2 (length text)
  pub fits : rows_for q.comparison ≤ room

-- A text says a sheet, or a rule alone, exactly when it writes it in the language.
abbrev pub SameLanguage : Type 0
SameLanguage =
    ((text : List ℕ) (s : Written) → Says text s → Language text s) × ((text : List ℕ) (s : Written) → Language text s → Says text s)
    × ((text : List ℕ) (n room : ℕ) (q : Rule) → SaysRule text n room q → LanguageRule text n room q)
    × ((text : List ℕ) (n room : ℕ) (q : Rule) → LanguageRule text n room q → SaysRule text n room q)
