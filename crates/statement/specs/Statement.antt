-- The statement of an audit, line by line.
use Rattle.std.specs.Prelude.{ℕ, zero, suc, ◌+◌, ◌-◌, Bool, true, false, cond, List, [], ◌∷◌, ◌++◌, length, replicate, ℤ, codes, decimal, ◌==◌, nat_le}
use Rattle.std.specs.Fmt.{signed_decimal}
use Rattle.table.specs.Layout.{parts_of, priced, rules_of}
use Rattle.table.specs.Meaning.{price}
use Rattle.board.specs.Board.{broken_rules, judged}
use Rattle.board.specs.declared.words.Judgement.{Judgement}
use Rattle.notation.specs.Text.{literals_text, rule_text}

-- a line's end
abbrev pub newline : List ℕ
newline = 10 ∷ []

-- a number, with blanks before it up to a width
abbrev pub right_text : ℕ → ℕ → List ℕ
right_text width n = replicate (width - length (decimal n)) 32 ++ decimal n

-- what the sheet holds
abbrev pub price_word : Bool → List ℕ
price_word true = codes "yes"
price_word false = codes "no"

abbrev pub holdings_line : ℕ → ℕ → List ℕ → List ℕ
holdings_line parts rules line = codes "the sheet: parts: " ++ (decimal parts ++ (codes ", rules: " ++ (decimal rules ++ (codes ", price line: " ++ (line ++ newline)))))

abbrev pub holdings_text : List ℤ → List ℕ
holdings_text T = holdings_line (parts_of T) (rules_of T) (price_word (priced T))

-- a rule: its number, whether it is met, what the choice reaches, what the rule needs, and the rule
abbrev pub verdict_word : Bool → List ℕ
verdict_word true = codes "met    "
verdict_word false = codes "BROKEN "

abbrev pub row_line : List ℕ → List ℕ → List ℕ → List ℕ → List ℕ → List ℕ
row_line number verdict sum need rule =
    number ++ (codes "  " ++ (verdict ++ (codes "  " ++ (sum ++ (codes "  " ++ (need ++ (codes "  " ++ (rule ++ newline))))))))

abbrev pub fare_text : List ℤ → ℕ → Judgement → List ℕ
fare_text T k j = row_line (right_text 4 (k + 1)) (verdict_word (nat_le j.needed j.reached)) (right_text 7 j.reached) (right_text 6 j.needed) (rule_text T k)

abbrev pub row_text : List ℤ → (ℕ → Bool) → ℕ → List ℕ
row_text T x k = fare_text T k (judged T k x)

unfoldable pub rows_text : List ℤ → (ℕ → Bool) → ℕ → List ℕ
rows_text T x zero = []
rows_text T x (suc k) = rows_text T x k ++ row_text T x k

-- what the choice costs
abbrev pub price_text : List ℤ → (ℕ → Bool) → List ℕ
price_text T x = cond (priced T) (codes "its price: " ++ (signed_decimal (price T x) ++ newline)) (codes "its price: none, the sheet has no price line" ++ newline)

-- whether it meets the sheet
abbrev pub verdict_line : ℕ → ℕ → List ℕ
verdict_line broken rules =
    cond (broken == 0) (codes "the board meets the sheet" ++ newline)
    (codes "the board does NOT meet the sheet: " ++ (decimal broken ++ (codes " of " ++ (decimal rules ++ (codes " rules broken" ++ newline)))))

abbrev pub verdict_text : List ℤ → (ℕ → Bool) → List ℕ
verdict_text T x = verdict_line (broken_rules T x) (rules_of T)

-- all of it: what the sheet holds, the rules, the choice as literals of the declared parts, its price and the verdict
abbrev pub statement_lines : List ℕ → List ℕ → List ℕ → List ℕ → List ℕ → List ℕ
statement_lines holdings rows literals cost verdict =
    holdings
    ++ (codes "rule  verdict  reached  needed  in normal form" ++ (newline ++ (rows ++ (codes "the board:" ++ (literals ++ (newline ++ (cost ++ verdict)))))))

abbrev pub statement_text : List ℤ → (ℕ → Bool) → List ℕ
statement_text T x =
    statement_lines (holdings_text T) (rows_text T x (rules_of T)) (literals_text x (parts_of T)) (price_text T x) (verdict_text T x)
