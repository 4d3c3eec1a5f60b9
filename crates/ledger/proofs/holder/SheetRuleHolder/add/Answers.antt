use Rattle.std.proofs.Common.{◌≡◌, ℕ, ◌+◌, ◌<◌, length, set, pos, ◌+ℤ◌, sym, refl, ap, ◌∙◌, subst, arith, w32, to_z, of_z}
use Rattle.std.proofs.lemmas.Int.{ints}
use Rattle.engine.specs.Held.{Every, FirstBad, GoodTerm}
use Rattle.table.specs.Layout.{parts_of, rules_of}
use Rattle.ledger.specs.View.{held_by}
use Rattle.ledger.specs.Reading.{count_held}
use Rattle.ledger.proofs.Adding.{Outcome, outcome}
use Rattle.ledger.proofs.holder.SheetRuleHolder.add.Goals as goal
use Rattle.ledger.proofs.holder.SheetRuleHolder.add.Goals.{Else-rules-ge-ROWS, After-write_row}

-- what is read of the table: its parts, its rules, and that there is room for one more
module _ (c : Else-rules-ge-ROWS) where
  parts : c.parts-parts.result ≡ parts_of c.args.self.now.words
  parts = c.parts-parts.ensures.value ∙ ap parts_of c.checked-table.ensures

  rules : c.rules-rules.result ≡ rules_of c.args.self.now.words
  rules = c.rules-rules.ensures.value ∙ ap rules_of c.checked-table.ensures

  room : length (held_by c.args.self.now.words).rules < 64
  room = omega (arith, rules, count_held c.args.self.now.words, c.if-rules-ge-ROWS.false)

pub returns-in-Some : goal.returns-in-Some
returns-in-Some c =
    let z = (goal.at.returns-in-Some c).Else-rules-ge-ROWS in
    let ts = c.args.terms.now in
    let bad = subst (λ (n : ℕ). FirstBad (GoodTerm 1000000 n ts) (length ts) c.in-Some.i) (parts z) c.in-Some.ensures in
    record { added = ((room z, omega (arith, bad.within), (λ l. bad), (λ e. absurd (omega (arith, bad.within)))), refl); adds = refl }

pub returns-then-degree-gt-MOST_DEGREE : goal.returns-then-degree-gt-MOST_DEGREE
returns-then-degree-gt-MOST_DEGREE c =
    let z = (goal.at.returns-then-degree-gt-MOST_DEGREE c).Else-rules-ge-ROWS in
    let ts = c.args.terms.now in
    let good = subst (λ (n : ℕ). Every (GoodTerm 1000000 n ts) (length ts)) (parts z) c.in_default.ensures in
    record { added = ((room z, omega arith, (λ l. absurd (omega arith)), (λ e. (good, c.if-degree-gt-MOST_DEGREE.true))), refl); adds = refl }

-- the number of rules as a word
next : (k : ℕ) → k < 64 → to_z w32 (of_z w32 (to_z w32 k +ℤ pos 1)) ≡ pos (k + 1)
next k l = omega (arith, ints)

-- the table with one rule more
more : (c : After-write_row) → c.parts-parts.result ≡ parts_of c.args.self.now.words → c.rules-rules.result ≡ rules_of c.args.self.now.words
    → Outcome c.args.self.now.words c.args.degree c.args.terms.now (set c.write_row.new.words 1 (to_z w32 (of_z w32 (to_z w32 c.rules-rules.result +ℤ pos 1))))
more c p r =
    let s = c.args.self.now in
    let ts = c.args.terms.now in
    let good = subst (λ (n : ℕ). Every (GoodTerm 1000000 n ts) (length ts)) p c.in_default.ensures in
    outcome s.words s.fine c.rules-rules.result c.args.degree ts c.row-row.result c.write_row.new.words _ good c.row-row.ensures
    c.if-rules-ge-ROWS.false c.if-degree-gt-MOST_DEGREE.false c.write_row.ensures.whole (sym r) (next _ c.if-rules-ge-ROWS.false) c.write_row.ensures.written

pub invariant_of-self : goal.invariant_of-self
invariant_of-self c =
    let z = (goal.at.invariant_of-self c).Else-rules-ge-ROWS in
    let o = more (goal.at.invariant_of-self c).After-write_row (parts z) (rules z) in
    record { whole = o.whole; fine = o.fine }

pub returns : goal.returns
returns c =
    let z = (goal.at.returns c).Else-rules-ge-ROWS in
    let ts = c.args.terms.now in
    let good = subst (λ (n : ℕ). Every (GoodTerm 1000000 n ts) (length ts)) (parts z) c.in_default.ensures in
    let o = more (goal.at.returns c).After-write_row (parts z) (rules z) in
    record { added = (record { room = room z; terms = good; degree = c.if-degree-gt-MOST_DEGREE.false }, o.held); adds = o.price }
