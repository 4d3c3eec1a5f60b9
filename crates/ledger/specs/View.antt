-- A table read as rules.
use Rattle.std.specs.Prelude.{ℕ, Bool, cond, List, map, ℤ, pos, nat_lt}
use Rattle.std.specs.List.{range_with_len}
use Rattle.rules.specs.declared.term.Rule.{Rule as Row}
use Rattle.engine.specs.Held.{Held, Limits, MeetsAll}
use Rattle.table.specs.Layout.{parts_of, rules_of, degree, coefficient}
use Rattle.table.specs.Meaning.{Meets, chosen}

-- how many rules a sheet takes, and how large their coefficients and degrees may be
abbrev pub sheet_limits : Limits
sheet_limits = record { room = 64; coefficient = 1000000; degree = 140000000 }

-- the coefficient of a variable in rule k: that of a part, and 0 past the forty parts
abbrev pub coefficient_at : List ℤ → ℕ → ℕ → ℤ
coefficient_at T k i = cond (nat_lt i 40) (coefficient T k i) (pos 0)

-- the coefficients of rule k, for every variable that a rule can speak of
unfoldable pub row_at : List ℤ → ℕ → List ℤ
row_at T k = map (coefficient_at T k) (range_with_len 0 80)

-- row k as a rule
abbrev pub rule_at : List ℤ → ℕ → Row
rule_at T k = record { coefficients = row_at T k; degree = degree T k }

-- the parts are the variables, and the rows up to the number of rules are the rules
abbrev pub held_by : List ℤ → Held
held_by T = record { variables = parts_of T; rules = map (rule_at T) (range_with_len 0 (rules_of T)) }

-- a choice of parts meets the table exactly where its marks meet every held rule
pub record SameMeaning (T : List ℤ) (h : Held) : Type 0 where
  pub of_table : (x : ℕ → Bool) → Meets T x → MeetsAll h (chosen x)
  pub of_rules : (x : ℕ → Bool) → MeetsAll h (chosen x) → Meets T x
