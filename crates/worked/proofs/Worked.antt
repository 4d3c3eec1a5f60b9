-- The worked readings, token by token.
use Rattle.std.proofs.Common.{ℕ, List, [], ◌∷◌, ◌++◌, pos, negsuc, neg_ℤ, nat_abs, Some, codes, refl, lit<, lit≤}
use Rattle.text.specs.declared.reader.Class.TheVariants.{Blank, Inline}
use Rattle.text.specs.declared.reader.Limit.TheVariants as limit
use Rattle.text.specs.declared.reader.Sign.TheVariants as sign
use Rattle.text.specs.Bytes.{belongs, decimal}
use Rattle.lines.specs.declared.line.Comparison.TheVariants.{AtLeast, Equal}
use Rattle.lines.specs.declared.line.Rule.{Rule}
use Rattle.lines.specs.Lines.{empty, put}
use Rattle.rules.specs.Sum.{total}
use Rattle.rows.specs.Rows.{words, turn, laid}
use Rattle.opb.specs.Language.{none, more, at_least, equal, present, blanks, ended, Language, LanguageRule}
use Rattle.opb.specs.Sheets.{Written}
use Rattle.worked.specs.Worked.{RuleGives, SheetGives, about_two, WorkedReadings}
use Rattle.worked.proofs.Literal.{run_of, plain, below_nought, name_of, spelt_of}

abbrev complement_text : List ℕ
complement_text = codes "-2 x1 3 x2 >= 0 ;"

complement_rule : Rule
complement_rule = record { sum = (put (put empty 1 (neg_ℤ (pos 2))) 2 (pos 3)); comparison = AtLeast; bound = (pos 0) }

complement_stands : LanguageRule complement_text 40 64 complement_rule
unfolding belongs decimal complement_rule
complement_stands = record { short = (lit≤ tt); p1 = 0; p2 = 17; gap_1 = (run_of complement_text Blank 0 0 refl refl (lit≤ tt)); rule_line = record { p1 = 11; p2 = 13; p3 = 14; p4 = 15; p5 = 16; sum = (record { mid = 6; coef = (neg_ℤ (pos 2)); part = 1; first = (record { mid = 2; next = 3; after = 5; coefficient = (below_nought complement_text limit.Coefficient 0 1 2 refl (lit< tt) refl refl (lit≤ tt) refl refl refl); gap = (run_of complement_text Blank 2 1 refl refl (lit≤ tt)); name = (name_of complement_text 40 3 1 1 refl (lit< tt) refl refl (lit≤ tt) refl (lit≤ tt) (lit≤ tt)); rest = (run_of complement_text Blank 5 1 refl refl (lit≤ tt)) }); rest = (more 6 11 11 (put empty 1 (neg_ℤ (pos 2))) (put (put empty 1 (neg_ℤ (pos 2))) 2 (pos 3)) (pos 3) 2 (record { mid = 7; next = 8; after = 10; coefficient = (plain complement_text limit.Coefficient 6 1 3 refl refl (lit< tt) refl refl (lit≤ tt) refl refl refl); gap = (run_of complement_text Blank 7 1 refl refl (lit≤ tt)); name = (name_of complement_text 40 8 1 2 refl (lit< tt) refl refl (lit≤ tt) refl (lit≤ tt) (lit≤ tt)); rest = (run_of complement_text Blank 10 1 refl refl (lit≤ tt)) }) refl (none 11 (put (put empty 1 (neg_ℤ (pos 2))) 2 (pos 3)))) }); compared = at_least (spelt_of complement_text sign.AtLeast 11 refl (lit≤ tt)); gap_1 = (run_of complement_text Blank 13 1 refl refl (lit≤ tt)); right_side = (plain complement_text limit.RightSide 14 1 0 refl refl (lit< tt) refl refl (lit≤ tt) refl refl refl); gap_2 = (run_of complement_text Blank 15 1 refl refl (lit≤ tt)); end = (spelt_of complement_text sign.End 16 refl (lit≤ tt)) }; gap_2 = (run_of complement_text Blank 17 0 refl refl (lit≤ tt)); fits = (lit≤ tt) }

complement : RuleGives complement_text (about_two (negsuc 1) (pos 3) 2 ∷ [])
unfolding words turn complement_rule
complement = (complement_rule, complement_stands, refl)

abbrev equation_text : List ℕ
equation_text = codes "1 x1 1 x2 = 1 ;"

equation_rule : Rule
equation_rule = record { sum = (put (put empty 1 (pos 1)) 2 (pos 1)); comparison = Equal; bound = (pos 1) }

equation_stands : LanguageRule equation_text 40 64 equation_rule
unfolding belongs decimal equation_rule
equation_stands = record { short = (lit≤ tt); p1 = 0; p2 = 15; gap_1 = (run_of equation_text Blank 0 0 refl refl (lit≤ tt)); rule_line = record { p1 = 10; p2 = 11; p3 = 12; p4 = 13; p5 = 14; sum = (record { mid = 5; coef = (pos 1); part = 1; first = (record { mid = 1; next = 2; after = 4; coefficient = (plain equation_text limit.Coefficient 0 1 1 refl refl (lit< tt) refl refl (lit≤ tt) refl refl refl); gap = (run_of equation_text Blank 1 1 refl refl (lit≤ tt)); name = (name_of equation_text 40 2 1 1 refl (lit< tt) refl refl (lit≤ tt) refl (lit≤ tt) (lit≤ tt)); rest = (run_of equation_text Blank 4 1 refl refl (lit≤ tt)) }); rest = (more 5 10 10 (put empty 1 (pos 1)) (put (put empty 1 (pos 1)) 2 (pos 1)) (pos 1) 2 (record { mid = 6; next = 7; after = 9; coefficient = (plain equation_text limit.Coefficient 5 1 1 refl refl (lit< tt) refl refl (lit≤ tt) refl refl refl); gap = (run_of equation_text Blank 6 1 refl refl (lit≤ tt)); name = (name_of equation_text 40 7 1 2 refl (lit< tt) refl refl (lit≤ tt) refl (lit≤ tt) (lit≤ tt)); rest = (run_of equation_text Blank 9 1 refl refl (lit≤ tt)) }) refl (none 10 (put (put empty 1 (pos 1)) 2 (pos 1)))) }); compared = equal (spelt_of equation_text sign.Equal 10 refl (lit≤ tt)); gap_1 = (run_of equation_text Blank 11 1 refl refl (lit≤ tt)); right_side = (plain equation_text limit.RightSide 12 1 1 refl refl (lit< tt) refl refl (lit≤ tt) refl refl refl); gap_2 = (run_of equation_text Blank 13 1 refl refl (lit≤ tt)); end = (spelt_of equation_text sign.End 14 refl (lit≤ tt)) }; gap_2 = (run_of equation_text Blank 15 0 refl refl (lit≤ tt)); fits = (lit≤ tt) }

equation : RuleGives equation_text (about_two (pos 1) (pos 1) 1 ∷ about_two (negsuc 0) (negsuc 0) 1 ∷ [])
unfolding words turn equation_rule
equation = (equation_rule, equation_stands, refl)

abbrev floor_text : List ℕ
floor_text = codes "-1 x1 >= -5 ;"

floor_rule : Rule
floor_rule = record { sum = (put empty 1 (neg_ℤ (pos 1))); comparison = AtLeast; bound = (neg_ℤ (pos 5)) }

floor_stands : LanguageRule floor_text 40 64 floor_rule
unfolding belongs decimal floor_rule
floor_stands = record { short = (lit≤ tt); p1 = 0; p2 = 13; gap_1 = (run_of floor_text Blank 0 0 refl refl (lit≤ tt)); rule_line = record { p1 = 6; p2 = 8; p3 = 9; p4 = 11; p5 = 12; sum = (record { mid = 6; coef = (neg_ℤ (pos 1)); part = 1; first = (record { mid = 2; next = 3; after = 5; coefficient = (below_nought floor_text limit.Coefficient 0 1 1 refl (lit< tt) refl refl (lit≤ tt) refl refl refl); gap = (run_of floor_text Blank 2 1 refl refl (lit≤ tt)); name = (name_of floor_text 40 3 1 1 refl (lit< tt) refl refl (lit≤ tt) refl (lit≤ tt) (lit≤ tt)); rest = (run_of floor_text Blank 5 1 refl refl (lit≤ tt)) }); rest = (none 6 (put empty 1 (neg_ℤ (pos 1)))) }); compared = at_least (spelt_of floor_text sign.AtLeast 6 refl (lit≤ tt)); gap_1 = (run_of floor_text Blank 8 1 refl refl (lit≤ tt)); right_side = (below_nought floor_text limit.RightSide 9 1 5 refl (lit< tt) refl refl (lit≤ tt) refl refl refl); gap_2 = (run_of floor_text Blank 11 1 refl refl (lit≤ tt)); end = (spelt_of floor_text sign.End 12 refl (lit≤ tt)) }; gap_2 = (run_of floor_text Blank 13 0 refl refl (lit≤ tt)); fits = (lit≤ tt) }

floor : RuleGives floor_text (about_two (negsuc 0) (pos 0) 0 ∷ [])
unfolding words turn floor_rule
floor = (floor_rule, floor_stands, refl)

abbrev prices_text : List ℕ
prices_text = codes "* #variable= 2 #constraint= 0" ++ 10 ∷ codes "min: -3 x1 2 x2 ;"

prices_sheet : Written
prices_sheet = record { header = record { parts = nat_abs (pos 2); rules = nat_abs (pos 0) }; price = Some (put (put empty 1 (neg_ℤ (pos 3))) 2 (pos 2)); rules = [] }

prices_stand : Language prices_text prices_sheet
unfolding belongs decimal prices_sheet
prices_stand = record { short = (lit≤ tt); p1 = 30; p2 = 30; p3 = 47; header_line = record { p1 = 12; p2 = 13; p3 = 14; p4 = 15; p5 = 27; p6 = 28; p7 = 29; p8 = 29; n = (pos 2); m = (pos 0); variables = (spelt_of prices_text sign.Variables 0 refl (lit≤ tt)); gap_1 = (run_of prices_text Blank 12 1 refl refl (lit≤ tt)); parts = (plain prices_text limit.Parts 13 1 2 refl refl (lit< tt) refl refl (lit≤ tt) refl refl refl); gap_2 = (run_of prices_text Blank 14 1 refl refl (lit≤ tt)); constraints = (spelt_of prices_text sign.Constraints 15 refl (lit≤ tt)); gap_3 = (run_of prices_text Blank 27 1 refl refl (lit≤ tt)); rules = (plain prices_text limit.Rules 28 1 0 refl refl (lit< tt) refl refl (lit≤ tt) refl refl refl); line = (run_of prices_text Inline 29 0 refl refl (lit≤ tt)); feed = refl; end = refl; is = refl }; gap = blanks 30 30 (run_of prices_text Blank 30 0 refl refl (lit≤ tt)) refl; price_line = present 34 35 46 47 (put (put empty 1 (neg_ℤ (pos 3))) 2 (pos 2)) (spelt_of prices_text sign.Minimise 30 refl (lit≤ tt)) (run_of prices_text Blank 34 1 refl refl (lit≤ tt)) (record { mid = 41; coef = (neg_ℤ (pos 3)); part = 1; first = (record { mid = 37; next = 38; after = 40; coefficient = (below_nought prices_text limit.Price 35 1 3 refl (lit< tt) refl refl (lit≤ tt) refl refl refl); gap = (run_of prices_text Blank 37 1 refl refl (lit≤ tt)); name = (name_of prices_text 2 38 1 1 refl (lit< tt) refl refl (lit≤ tt) refl (lit≤ tt) (lit≤ tt)); rest = (run_of prices_text Blank 40 1 refl refl (lit≤ tt)) }); rest = (more 41 46 46 (put empty 1 (neg_ℤ (pos 3))) (put (put empty 1 (neg_ℤ (pos 3))) 2 (pos 2)) (pos 2) 2 (record { mid = 42; next = 43; after = 45; coefficient = (plain prices_text limit.Price 41 1 2 refl refl (lit< tt) refl refl (lit≤ tt) refl refl refl); gap = (run_of prices_text Blank 42 1 refl refl (lit≤ tt)); name = (name_of prices_text 2 43 1 2 refl (lit< tt) refl refl (lit≤ tt) refl (lit≤ tt) (lit≤ tt)); rest = (run_of prices_text Blank 45 1 refl refl (lit≤ tt)) }) refl (none 46 (put (put empty 1 (neg_ℤ (pos 3))) 2 (pos 2)))) }) (spelt_of prices_text sign.End 46 refl (lit≤ tt)) (blanks 47 47 (run_of prices_text Blank 47 0 refl refl (lit≤ tt)) refl); rule_lines = ended 47 (lit≤ tt); count = refl; room = (lit≤ tt) }

prices : SheetGives prices_text (negsuc 2) 5
unfolding words turn laid total prices_sheet
prices = (prices_sheet, prices_stand, refl, refl)

pub worked : WorkedReadings
worked = record { complement = complement; equation = equation; floor = floor; prices = prices }
