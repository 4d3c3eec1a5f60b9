-- The text says a sheet exactly when it writes it in the language.
use Rattle.std.proofs.Common.{◌≡◌, ℕ, ◌+◌, ◌-◌, ◌<◌, ◌≤◌, Bool, true, false, cond, ltb, leb, List, [], ◌∷◌, ◌++◌, length, ℤ, Ok, Err, Result, sym, refl, ap, ◌∙◌, subst, append_assoc, append-nil, arith, length-append}
use Rattle.faults.specs.declared.fault.TextFault.{TextFault}
use Rattle.faults.specs.declared.fault.TextFault.TheVariants.{TooLong, Misplaced}
use Rattle.faults.specs.declared.fault.SheetFault.{SheetFault}
use Rattle.faults.specs.declared.fault.SheetFault.TheVariants.{Text, Count}
use Rattle.forms.specs.Forms.{Outcome, got, outcome, Then, goes, Loop, done, turn, Give, Lifted, well}
use Rattle.forms.proofs.Exactness.{apart}
use Rattle.text.specs.declared.reader.Limit.TheVariants as limit
use Rattle.text.specs.Tokens.{short, passed, Limited, Gap}
use Rattle.lines.specs.declared.line.Comparison.{Comparison}
use Rattle.lines.specs.declared.line.Comparison.TheVariants.{AtLeast, Equal}
use Rattle.lines.specs.declared.line.Rule.{Rule}
use Rattle.lines.specs.Lines.{Numbers, rows_for, RuleAfter, HeaderLine}
use Rattle.rows.specs.Rows.{Row, all_rows, rule_rows, rows_by, words}
use Rattle.text.specs.declared.reader.Class.TheVariants.{Blank}
use Rattle.text.specs.Bytes.{Run}
use Rattle.opb.specs.Language.{GapAt, RuleAt, RulesAt, ended, rule, Language, LanguageRule, SameLanguage}
use Rattle.opb.specs.Sheets.{Written, RuleLine, NextRule, Rules, unended, expected, complete, rows_of, Says, ended as ended_here, SaysRule}
use Rattle.opb.proofs.Lines.{header_sound, header_complete, price_sound, price_complete, rule_sound, rule_complete}
use Rattle.opb.proofs.Narrow.{same_give}
use Rattle.opb.proofs.Sums.{give_place}
use Rattle.opb.proofs.Tokens.{number_sound, number_complete, number_inside, gap_sound, gap_complete}

-- rows
all_rows_append : (ps qs : List Rule) → all_rows (ps ++ qs) ≡ all_rows ps ++ all_rows qs
all_rows_append [] qs = refl
all_rows_append (p ∷ ps) qs = ap (λ (x : List Row). rule_rows p ++ x) (all_rows_append ps qs) ∙ sym (append_assoc (rule_rows p) (all_rows ps) (all_rows qs))

rows_count : (k : Comparison) (cs : List ℤ) (b : ℤ) → length (rows_by k cs b) ≡ rows_for k
rows_count AtLeast cs b = refl
rows_count Equal cs b = refl

pub rows_of_append : (ps : List Rule) (q : Rule) (qs : List Rule) → rows_of (ps ++ q ∷ qs) ≡ rows_of ps + (rows_for q.comparison + rows_of qs)
rows_of_append ps q qs =
    let a = ap length (all_rows_append ps (q ∷ qs)) in
    let b = length-append (all_rows ps) (rule_rows q ++ all_rows qs) in
    let c = length-append (rule_rows q) (all_rows qs) in
    let d = rows_count q.comparison (words q.sum) q.bound in
    omega arith

one_more : (ps : List Rule) (q : Rule) (qs : List Rule) → (ps ++ q ∷ []) ++ qs ≡ ps ++ q ∷ qs
one_more ps q qs = append_assoc ps (q ∷ []) qs

-- one rule
expected_is : (announced count start mid to : ℕ) → ◌≡◌ {A = Outcome (Unit {0}) SheetFault} (got tt to) (outcome (expected announced count start) mid) → (count < announced) × (mid ≡ to)
expected_is announced count start mid to h = by (ltb count announced) refl h
  where
    by : (b : Bool) → ltb count announced ≡ b → ◌≡◌ {A = Outcome (Unit {0}) SheetFault} (got tt to) (outcome (cond b (Ok tt) (Err (Count start))) mid) → (count < announced) × (mid ≡ to)
    by true p q = (grind arith, cc)
    by false p q = apart tt to (Count start) q

is_expected : (announced count start : ℕ) → count < announced → Ok tt ≡ expected announced count start
is_expected announced count start h = grind arith

line_sound : (text : List ℕ) (h : Numbers) (count rows from to : ℕ) (q : Rule) → RuleLine text h count rows from (got q to) → (end : ℕ) × RuleAt text h.parts from end q × GapAt text end to × (rows_for q.comparison ≤ 64 - rows) × (count < h.rules)
line_sound text h count rows from to q r = by r.begun
  where
    by : Then (Lifted Text (Limited text limit.Coefficient)) (λ a. Then (Give (expected h.rules count from)) (λ _. Then (RuleAfter text h.parts (64 - rows) a) (λ p. Then (Lifted Text (Gap text)) (λ _. Give (Ok p))))) from (got q to) → (end : ℕ) × RuleAt text h.parts from end q × GapAt text end to × (rows_for q.comparison ≤ 64 - rows) × (count < h.rules)
    by (goes a m1 _ (well _ _ v) (goes _ m2 _ e (goes p m3 _ k (goes _ m4 _ (well _ _ w) g)))) =
        let x = expected_is h.rules count from m1 m2 e.is in
        let k' = subst (λ (i : ℕ). RuleAfter text h.parts (64 - rows) a i (got p m3)) (sym x.1) k in
        let w' = subst (λ (i : ℕ). Gap text m3 (got tt i)) (give_place p q m4 to g) w in
        let y = rule_sound text h.parts (64 - rows) from m1 m3 a p (number_sound text limit.Coefficient from m1 a v) k' in
        let s = same_give p q m4 to g in
        (m3, subst (λ (z : Rule). RuleAt text h.parts from m3 z) s y.0, gap_sound text m3 to w', subst (λ (z : Rule). rows_for z.comparison ≤ 64 - rows) s y.1, x.0)

line_complete : (text : List ℕ) (h : Numbers) (count rows from end to : ℕ) (q : Rule) → RuleAt text h.parts from end q → GapAt text end to → rows_for q.comparison ≤ 64 - rows → count < h.rules → RuleLine text h count rows from (got q to)
line_complete text h count rows from end to q r g m c = record {
  begun = goes r.sum.coef r.sum.first.mid _ (well r.sum.coef r.sum.first.mid (number_complete text limit.Coefficient from r.sum.first.mid r.sum.coef r.sum.first.coefficient))
      (goes tt r.sum.first.mid _ (record { is = ap (λ (z : Result (Unit {0}) SheetFault). outcome z r.sum.first.mid) (is_expected h.rules count from c) })
      (goes q end _ (rule_complete text h.parts (64 - rows) from end q r m) (goes tt to _ (well tt to (gap_complete text end to g)) (record { is = refl }))));
}

rule_inside : (text : List ℕ) (n from to : ℕ) (q : Rule) → RuleAt text n from to q → from < length text
rule_inside text n from to q r = number_inside text limit.Coefficient from r.sum.first.mid r.sum.coef r.sum.first.coefficient

-- all rules, after the rules ps
loop_sound : (text : List ℕ) (h : Numbers) (from to : ℕ) (ps qs : List Rule) → rows_of ps ≤ 64 → length ps ≤ h.rules → Loop (unended text) (NextRule text h) ps from (got qs to) → (rs : List Rule) × RulesAt text h.parts from rs × (qs ≡ ps ++ rs) × (rows_of qs ≤ 64) × (length qs ≤ h.rules)
loop_sound text h from to ps qs r l (done _ _ e) = ([], ended from (grind arith), sym (append-nil ps), r, l)
loop_sound text h from to ps qs r l (turn _ ms _ mid _ e (goes q m2 _ k g) rest) =
    let w = line_sound text h (length ps) (rows_of ps) from m2 q k in
    let s = same_give (ps ++ q ∷ []) ms m2 mid g in
    let t = give_place (ps ++ q ∷ []) ms m2 mid g in
    let a = w.3 in
    let b = w.4 in
    let c = rows_of_append ps q [] in
    let d = length-append ps (q ∷ []) in
    let f : rows_of (ps ++ q ∷ []) ≤ 64 = omega arith in
    let i : length (ps ++ q ∷ []) ≤ h.rules = omega arith in
    let v = loop_sound text h mid to ms qs (subst (λ (x : List Rule). rows_of x ≤ 64) s f) (subst (λ (x : List Rule). length x ≤ h.rules) s i) rest in
    (q ∷ v.0, rule from w.0 mid q v.0 w.1 (subst (λ (j : ℕ). GapAt text w.0 j) t w.2) v.1, v.2 ∙ ap (λ (x : List Rule). x ++ v.0) (sym s) ∙ one_more ps q v.0, v.3, v.4)

loop_complete : (text : List ℕ) (h : Numbers) (from : ℕ) (ps rs : List Rule) → RulesAt text h.parts from rs → rows_of (ps ++ rs) ≤ 64 → length (ps ++ rs) ≤ h.rules → (to : ℕ) × Loop (unended text) (NextRule text h) ps from (got (ps ++ rs) to)
loop_complete text h from ps rs (ended _ e) r l = (from, subst (λ (x : List Rule). Loop (unended text) (NextRule text h) ps from (got x from)) (sym (append-nil ps)) (done ps from (grind arith)))
loop_complete text h from ps rs (rule _ end mid q qs k g rest) r l =
    let a = rows_of_append ps q qs in
    let b = length-append ps (q ∷ qs) in
    let m : rows_for q.comparison ≤ 64 - rows_of ps = omega arith in
    let c : length ps < h.rules = omega arith in
    let s = one_more ps q qs in
    let i = rule_inside text h.parts from end q k in
    let v = loop_complete text h mid (ps ++ q ∷ []) qs rest (subst (λ (x : List Rule). rows_of x ≤ 64) (sym s) r) (subst (λ (x : List Rule). length x ≤ h.rules) (sym s) l) in (
      v.0,
      turn ps (ps ++ q ∷ []) from mid _ (grind arith) (goes q mid _ (line_complete text h (length ps) (rows_of ps) from end mid q k g m c) (record { is = refl }))
          (subst (λ (x : List Rule). Loop (unended text) (NextRule text h) (ps ++ q ∷ []) mid (got x v.0)) s v.1),
    )

complete_is : (text : List ℕ) (h : Numbers) (ps qs : List Rule) (mid to : ℕ) → ◌≡◌ {A = Outcome (List Rule) SheetFault} (got qs to) (outcome (complete text h ps) mid) → (h.rules ≤ length ps) × (ps ≡ qs)
complete_is text h ps qs mid to e = by (ltb (length ps) h.rules) refl e
  where
    by : (b : Bool) → ltb (length ps) h.rules ≡ b → ◌≡◌ {A = Outcome (List Rule) SheetFault} (got qs to) (outcome (cond b (Err (Count (length text))) (Ok ps)) mid) → (h.rules ≤ length ps) × (ps ≡ qs)
    by true p q = apart qs to (Count (length text)) q
    by false p q = (grind arith, cc)

is_complete : (text : List ℕ) (h : Numbers) (qs : List Rule) → length qs ≡ h.rules → Ok qs ≡ complete text h qs
is_complete text h qs e = grind arith

rules_sound : (text : List ℕ) (h : Numbers) (from to : ℕ) (qs : List Rule) → Rules text h from (got qs to) → RulesAt text h.parts from qs × (rows_of qs ≤ 64) × (length qs ≡ h.rules)
rules_sound text h from to qs (goes ps mid _ l g) =
    let w = loop_sound text h from mid [] ps (omega arith) (omega arith) l in
    let c = complete_is text h ps qs mid to g.is in
    let a = c.0 in
    let b = w.4 in
    let n : length ps ≡ h.rules = omega arith in
    let s = sym w.2 ∙ c.1 in
    (subst (λ (x : List Rule). RulesAt text h.parts from x) s w.1, subst (λ (x : List Rule). rows_of x ≤ 64) c.1 w.3, subst (λ (x : List Rule). length x ≡ h.rules) c.1 n)

rules_complete : (text : List ℕ) (h : Numbers) (from : ℕ) (qs : List Rule) → RulesAt text h.parts from qs → rows_of qs ≤ 64 → length qs ≡ h.rules → (to : ℕ) × Rules text h from (got qs to)
rules_complete text h from qs r m e =
    let w = loop_complete text h from [] qs r m (omega arith) in
    (w.0, goes qs w.0 _ w.1 (record { is = ap (λ (z : Result (List Rule) SheetFault). outcome z w.0) (is_complete text h qs e) }))

-- the whole text
short_is : (text : List ℕ) (mid : ℕ) → ◌≡◌ {A = Outcome (Unit {0}) TextFault} (got tt mid) (outcome (short text) 0) → (length text ≤ 16384) × (mid ≡ 0)
short_is text mid h = by (leb (length text) 16384) refl h
  where
    by : (b : Bool) → leb (length text) 16384 ≡ b → ◌≡◌ {A = Outcome (Unit {0}) TextFault} (got tt mid) (outcome (cond b (Ok tt) (Err TooLong)) 0) → (length text ≤ 16384) × (mid ≡ 0)
    by true p q = (grind arith, cc)
    by false p q = apart tt mid TooLong q

is_short : (text : List ℕ) → length text ≤ 16384 → Ok tt ≡ short text
is_short text h = grind arith

pub language_sound : (text : List ℕ) (s : Written) → Says text s → Language text s
language_sound text s (to, goes _ m0 _ (well _ _ a) (goes h m1 _ (well _ _ b) (goes _ m2 _ (well _ _ c) (goes p m3 _ d (goes qs m4 _ e f))))) =
    let w = short_is text m0 a.is in
    let b' = subst (λ (i : ℕ). HeaderLine text i (got h m1)) w.1 b in
    let r = rules_sound text h m3 m4 qs e in
    subst (λ (x : Written). Language text x) (same_give (record { header = h; price = p; rules = qs }) s m4 to f)
    (record {
      short = w.0;
      p1 = m1;
      p2 = m2;
      p3 = m3;
      header_line = header_sound text m1 h b';
      gap = gap_sound text m1 m2 c;
      price_line = price_sound text h.parts m2 m3 p d;
      rule_lines = r.0;
      count = r.2;
      room = r.1;
    })

pub language_complete : (text : List ℕ) (s : Written) → Language text s → Says text s
language_complete text s w =
    let r = rules_complete text s.header w.p3 s.rules w.rule_lines w.room w.count in (
      r.0,
      goes tt 0 _ (well tt 0 (record { is = ap (λ (z : Result (Unit {0}) TextFault). outcome z 0) (is_short text w.short) }))
          (goes s.header w.p1 _ (well s.header w.p1 (header_complete text w.p1 s.header w.header_line))
          (goes tt w.p2 _ (well tt w.p2 (gap_complete text w.p1 w.p2 w.gap))
          (goes s.price w.p3 _ (price_complete text s.header.parts w.p2 w.p3 s.price w.price_line)
          (goes s.rules r.0 _ r.1 (record { is = refl }))))),
    )

-- one rule alone
ended_is : (text : List ℕ) (at to : ℕ) → ◌≡◌ {A = Outcome (Unit {0}) TextFault} (got tt to) (outcome (ended_here text at) at) → length text ≤ at
ended_is text at to h = by (ltb at (length text)) refl h
  where
    by : (b : Bool) → ltb at (length text) ≡ b → ◌≡◌ {A = Outcome (Unit {0}) TextFault} (got tt to) (outcome (cond b (Err (Misplaced at)) (Ok tt)) at) → length text ≤ at
    by true p q = apart tt to (Misplaced at) q
    by false p q = grind arith

is_ended : (text : List ℕ) → Ok tt ≡ ended_here text (length text)
is_ended text = grind arith

rule_language_sound : (text : List ℕ) (n room : ℕ) (q : Rule) → SaysRule text n room q → LanguageRule text n room q
rule_language_sound text n room q (to, goes _ m0 _ (well _ _ a) (goes _ m1 _ (well _ _ (passed _ b)) (goes c m2 _ (well _ _ v) (goes p m3 _ k (goes _ m4 _ (well _ _ (passed _ d)) (goes _ m5 _ (well _ _ e) f)))))) =
    let w = short_is text m0 a.is in
    let y = rule_sound text n room m1 m2 m3 c p (number_sound text limit.Coefficient m1 m2 c v) k in
    let l = ended_is text m4 m5 e.is in
    let i = d.within in
    let last : m4 ≡ length text = omega arith in
    let s = same_give p q m5 to f in
    record {
      short = w.0;
      p1 = m1;
      p2 = m3;
      gap_1 = subst (λ (j : ℕ). Run Blank text j m1) w.1 b;
      rule_line = subst (λ (z : Rule). RuleAt text n m1 m3 z) s y.0;
      gap_2 = subst (λ (j : ℕ). Run Blank text m3 j) last d;
      fits = subst (λ (z : Rule). rows_for z.comparison ≤ room) s y.1;
    }

rule_language_complete : (text : List ℕ) (n room : ℕ) (q : Rule) → LanguageRule text n room q → SaysRule text n room q
rule_language_complete text n room q w =
    let r = w.rule_line in (
      length text,
      goes tt 0 _ (well tt 0 (record { is = ap (λ (z : Result (Unit {0}) TextFault). outcome z 0) (is_short text w.short) }))
          (goes tt w.p1 _ (well tt w.p1 (passed w.p1 w.gap_1))
          (goes r.sum.coef r.sum.first.mid _ (well r.sum.coef r.sum.first.mid (number_complete text limit.Coefficient w.p1 r.sum.first.mid r.sum.coef r.sum.first.coefficient))
          (goes q w.p2 _ (rule_complete text n room w.p1 w.p2 q r w.fits)
          (goes tt (length text) _ (well tt (length text) (passed (length text) w.gap_2))
          (goes tt (length text) _ (well tt (length text) (record { is = ap (λ (z : Result (Unit {0}) TextFault). outcome z (length text)) (is_ended text) })) (record { is = refl })))))),
    )

pub same_language : SameLanguage
same_language = (language_sound, language_complete, rule_language_sound, rule_language_complete)
