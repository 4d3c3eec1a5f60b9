-- The lines of a sheet as forms: sums, the header, the price line and rules.
use Rattle.std.specs.Prelude.{ℕ, ◌-◌, Bool, false, cond, not, List, replicate, ℤ, is_some, Some, None, Ok, Err, Result, nat_le, nat_lt, slice_index_or, slice_set, unsigned_abs}
use Rattle.faults.specs.declared.fault.TextFault.{TextFault}
use Rattle.faults.specs.declared.fault.SheetFault.{SheetFault}
use Rattle.faults.specs.declared.fault.SheetFault.TheVariants.{Text, Unknown, Repeated, NoRoom}
use Rattle.forms.specs.Forms.{Form, Then, Loop, Branch, From, Give, Lifted}
use Rattle.text.specs.declared.reader.Class.TheVariants.{Blank}
use Rattle.text.specs.declared.reader.Limit.{Limit}
use Rattle.text.specs.declared.reader.Limit.TheVariants.{Parts, Rules, Price, Coefficient, RightSide}
use Rattle.text.specs.declared.reader.Sign.{Sign}
use Rattle.text.specs.declared.reader.Sign.TheVariants.{Variables, Constraints, Minimise, AtLeast, Equal, End}
use Rattle.text.specs.Bytes.{stands}
use Rattle.text.specs.Tokens.{Pass, Spelt, Name, Limited, Line as RestOfLine}
use Rattle.lines.specs.declared.line.Comparison.{Comparison}
use Rattle.lines.specs.declared.line.Comparison.TheVariants as comparison
use Rattle.lines.specs.declared.line.Header.{Header}
use Rattle.lines.specs.declared.line.Line.{Line}
use Rattle.lines.specs.declared.line.Line.TheVariants as line
use Rattle.lines.specs.declared.line.Rule.{Rule}
use Rattle.lines.specs.declared.line.Sum.{Sum}

-- no part is named yet
abbrev pub empty : Sum
empty = record { terms = replicate 40 None }

-- the part k gets the coefficient a
abbrev pub put : Sum → ℕ → ℤ → Sum
put s k a = record { terms = slice_set s.terms (k - 1) (Some a) }

-- the sum names the part k
abbrev pub names : Sum → ℕ → Bool
names s k = is_some (slice_index_or s.terms (k - 1) None)

-- the part k, named at `start`, is one of n
abbrev pub known : ℕ → ℕ → ℕ → Result ℕ SheetFault
known n start k = cond (nat_lt 0 k) (cond (nat_le k n) (Ok k) (Err (Unknown start))) (Err (Unknown start))

abbrev pub Part : List ℕ → ℕ → Form ℕ SheetFault
Part text n = From (λ start. Then (Lifted Text (Name text)) (λ k. Give (known n start k)))

-- a part that is named at `start` gets its coefficient, unless the sum names it already
abbrev pub placed : Sum → ℕ → ℤ → ℕ → Result Sum SheetFault
placed s start a k = cond (names s k) (Err (Repeated start)) (Ok (put s k a))

-- blanks, where a sheet's faults are told
abbrev pub Blanks : List ℕ → Form (Unit {0}) SheetFault
Blanks text = Lifted Text (Pass Blank text)

-- what follows a term's coefficient a, with the blanks around it, after the terms s
abbrev pub Named : List ℕ → ℕ → ℤ → Sum → Form Sum SheetFault
Named text n a s =
    Then (Blanks text) (λ _. Then (From (λ start. Then (Part text n) (λ k. Give (placed s start a k)))) (λ q. Then (Blanks text) (λ _. Give (Ok q))))

-- the limits of a line's coefficients
abbrev pub limit_of : Line → Limit
limit_of line.Price = Price
limit_of line.Rule = Coefficient

-- a sum goes on where no sign stands that closes it: `;` in the price line, `>` or `=` in a rule
abbrev pub goes_on : List ℕ → Line → ℕ → Bool
goes_on text line.Price i = not (stands text 59 i)
goes_on text line.Rule i = cond (stands text 62 i) false (not (stands text 61 i))

-- one more term
abbrev pub Term : List ℕ → ℕ → Line → Sum → Form Sum SheetFault
Term text n l s = Then (Lifted Text (Limited text (limit_of l))) (λ a. Named text n a s)

-- a sum whose first coefficient, a, is read already
abbrev pub Terms : List ℕ → ℕ → Line → ℤ → Form Sum SheetFault
Terms text n l a = Then (Named text n a empty) (Loop (goes_on text l) (Term text n l))

-- a fixed spelling and a number
abbrev pub Announced : List ℕ → Sign → Limit → Form ℤ TextFault
Announced text s l = Then (Spelt text s) (λ _. Then (Pass Blank text) (λ _. Limited text l))

-- what a header announces: how many parts there are, and how many rules
pub record Numbers : Type 0 where
  pub parts : ℕ
  pub rules : ℕ

abbrev pub numbers : Header → Numbers
numbers h = record { parts = h.parts.number; rules = h.rules }

-- the header: the numbers of parts and of rules, and the rest of the line
abbrev pub HeaderLine : List ℕ → Form Numbers TextFault
HeaderLine text =
    Then (Announced text Variables Parts) (λ n. Then (Pass Blank text) (λ _. Then (Announced text Constraints Rules) (λ m.
    Then (RestOfLine text) (λ _. Give (Ok (record { parts = unsigned_abs n; rules = unsigned_abs m }))))))

-- the price line
abbrev pub PriceLine : List ℕ → ℕ → Form Sum SheetFault
PriceLine text n = Then (Lifted Text (Announced text Minimise Price)) (λ a. Then (Terms text n line.Price a) (λ s. Then (Lifted Text (Spelt text End)) (λ _. Give (Ok s))))

-- a comparison sign
abbrev pub Compared : List ℕ → Form Comparison TextFault
Compared text =
    Branch (stands text 62) (Then (Spelt text AtLeast) (λ _. Give (Ok comparison.AtLeast)))
    (Then (Spelt text Equal) (λ _. Give (Ok comparison.Equal)))

-- how many rows of the table a rule takes
abbrev pub rows_for : Comparison → ℕ
rows_for comparison.AtLeast = 1
rows_for comparison.Equal = 2

-- the rule whose comparison sign stands at `start` finds its rows among those that are left
abbrev pub fitting : ℕ → ℕ → Comparison → Result Comparison SheetFault
fitting room start c = cond (nat_le (rows_for c) room) (Ok c) (Err (NoRoom start))

abbrev pub Fitting : List ℕ → ℕ → Form Comparison SheetFault
Fitting text room = From (λ start. Then (Lifted Text (Compared text)) (λ c. Give (fitting room start c)))

-- the right side, up to the end of the rule
abbrev pub Bound : List ℕ → Form ℤ TextFault
Bound text = Then (Pass Blank text) (λ _. Then (Limited text RightSide) (λ b. Then (Pass Blank text) (λ _. Then (Spelt text End) (λ _. Give (Ok b)))))

-- a rule whose first coefficient, a, is read already
abbrev pub RuleAfter : List ℕ → ℕ → ℕ → ℤ → Form Rule SheetFault
RuleAfter text n room a =
    Then (Terms text n line.Rule a) (λ s. Then (Fitting text room) (λ c. Then (Lifted Text (Bound text)) (λ b. Give (Ok (record { sum = s; comparison = c; bound = b })))))
