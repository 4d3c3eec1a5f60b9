-- What the loop over the rules keeps.
use Rattle.std.proofs.Common.{◌≡◌, ℕ, ◌+◌, ◌<◌, ◌≤◌, true, false, List, [], ◌∷◌, ◌++◌, length, ℤ, Ok, Err, Result, sym, refl, ap, ◌∙◌, subst, append_assoc, append-nil, arith, length-append}
use Rattle.faults.specs.declared.fault.SheetFault.{SheetFault}
use Rattle.faults.specs.declared.fault.SheetFault.TheVariants.{Count}
use Rattle.text.specs.declared.reader.Reader.{Reader}
use Rattle.text.specs.Reading.{Step}
use Rattle.lines.specs.declared.line.Comparison.{Comparison}
use Rattle.lines.specs.declared.line.Comparison.TheVariants.{AtLeast, Equal}
use Rattle.lines.specs.declared.line.Rule.{Rule}
use Rattle.lines.specs.Lines.{Numbers, rows_for}
use Rattle.rows.specs.Rows.{Row, all_rows, rule_rows, rows_by, table_with, Lined, Narrow, words, Appends}
use Rattle.rows.proofs.Laid.{turn_narrow, lined_append}
use Rattle.sheet.specs.Reads.{Holds, RulesRead}
use Rattle.text.specs.declared.reader.Limit.TheVariants.{Coefficient}
use Rattle.forms.specs.Forms.{Onward, Loop, Give, outcome}
use Rattle.forms.proofs.Progress.{onward_from, onward_then, onward_lifted, forward_then, forward_give, forward_lifted}
use Rattle.text.proofs.Progress.{onward_limited, forward_gap}
use Rattle.text.proofs.Steps.{step_goes, step_stops, step_give, Going, going_done, going_stops}
use Rattle.lines.proofs.Progress.{forward_rule}
use Rattle.opb.specs.Sheets.{expected, complete, rows_of, RuleLine, NextRule, unended}

pub surplus : (announced count start : ℕ) → announced ≤ count → Err (Count start) ≡ expected announced count start
surplus announced count start h = grind arith

pub awaited : (announced count start : ℕ) → count < announced → Ok tt ≡ expected announced count start
awaited announced count start h = grind arith

-- the rows of one more rule
pub all_rows_more : (qs : List Rule) (q : Rule) → all_rows (qs ++ q ∷ []) ≡ all_rows qs ++ rule_rows q
all_rows_more [] q = append-nil (rule_rows q)
all_rows_more (p ∷ ps) q = ap (λ (x : List Row). rule_rows p ++ x) (all_rows_more ps q) ∙ sym (append_assoc (rule_rows p) (all_rows ps) (rule_rows q))

rows_count : (k : Comparison) (cs : List ℤ) (b : ℤ) → length (rows_by k cs b) ≡ rows_for k
rows_count AtLeast cs b = refl
rows_count Equal cs b = refl

rows_lined : (k : Comparison) (cs : List ℤ) (b : ℤ) → Narrow cs → Lined (rows_by k cs b)
rows_lined AtLeast cs b h = (h.forty, tt)
rows_lined Equal cs b h = (h.forty, ((turn_narrow cs h).forty, tt))

-- the rules so far, and the table with their rows
pub record SoFar (T U : List ℤ) (rows count : ℕ) (qs : List Rule) : Type 0 where
  pub holds : Holds T U qs
  pub rows_is : rows ≡ rows_of qs
  pub count_is : count ≡ length qs
  pub lined : Lined (all_rows qs)

pub so_far_none : (T : List ℤ) (rows count : ℕ) → rows ≡ 0 → count ≡ 0 → SoFar T T rows count []
so_far_none T rows count e f = record { holds = λ front n h. h; rows_is = e; count_is = f; lined = tt }

pub so_far_more : (T U V : List ℤ) (rows count more next : ℕ) (qs : List Rule) (q : Rule) → SoFar T U rows count qs → Narrow (words q.sum) → more ≡ rows + rows_for q.comparison → next ≡ count + 1 → Appends rows U V (rule_rows q) → SoFar T V more next (qs ++ q ∷ [])
so_far_more T U V rows count more next qs q s n e f a =
    let r = s.rows_is in
    let k = s.count_is in
    let t = ap length (all_rows_more qs q) in
    let c = rows_count q.comparison (words q.sum) q.bound in
    let m = length-append (all_rows qs) (rule_rows q) in
    record {
      holds = λ front head h. (a front (all_rows qs) head s.lined (sym r) (s.holds front head h) ∙ ap (table_with front) (sym (all_rows_more qs q)));
      rows_is = omega arith;
      count_is = omega (arith, length-append qs (q ∷ []));
      lined = subst Lined (sym (all_rows_more qs q)) (lined_append (all_rows qs) (rule_rows q) s.lined (rows_lined q.comparison (words q.sum) q.bound n));
    }

module _ (h : Numbers) (count rows : ℕ) (qs : List Rule) (c : count ≡ length qs) (n : rows ≡ rows_of qs) (r s : Reader) where
  here : (x : Result Rule SheetFault) → Step (λ t. RuleLine t h count rows) r s x → Step (λ t. RuleLine t h (length qs) (rows_of qs)) r s x
  here x f = subst (λ (i : ℕ). Step (λ t. RuleLine t h i (rows_of qs)) r s x) c (subst (λ (i : ℕ). Step (λ t. RuleLine t h count i) r s x) n f)

  -- one more rule
  pub next_goes : (q : Rule) → Step (λ t. RuleLine t h count rows) r s (Ok q) → Step (λ t. NextRule t h qs) r s (Ok (qs ++ q ∷ []))
  next_goes q f = step_goes _ _ _ _ _ _ _ (here (Ok q) f) (step_give _ _ _ refl)

  pub next_stops : (e : SheetFault) → Step (λ t. RuleLine t h count rows) r s (Err e) → Step (λ t. NextRule t h qs) r s (Err e)
  next_stops e f = step_stops _ _ _ _ _ _ (here (Err e) f) refl

pub rule_onward : (text : List ℕ) (h : Numbers) (count rows : ℕ) → Onward (RuleLine text h count rows)
rule_onward text h count rows =
    onward_from _ (λ start. onward_then _ _ (onward_lifted _ _ (onward_limited text Coefficient)) (λ a. forward_then _ _ (forward_give _) (λ _.
    forward_then _ _ (forward_rule text _ _ a) (λ q. forward_then _ _ (forward_lifted _ _ (forward_gap text)) (λ _. forward_give _)))))

pub open_end : (text : List ℕ) (i : ℕ) → i < length text → unended text i ≡ true
open_end text i h = grind arith

pub at_end : (text : List ℕ) (i : ℕ) → length text ≤ i → unended text i ≡ false
at_end text i h = grind arith

pub too_few : (text : List ℕ) (h : Numbers) (qs : List Rule) (count at : ℕ) → count ≡ length qs → at ≡ length text → count < h.rules → Err (Count at) ≡ complete text h qs
too_few text h qs count at c e l = let m : length qs < h.rules = omega arith in rw e (grind arith)

pub enough : (text : List ℕ) (h : Numbers) (qs : List Rule) (count : ℕ) → count ≡ length qs → h.rules ≤ count → Ok qs ≡ complete text h qs
enough text h qs count c l = let m : h.rules ≤ length qs = omega arith in grind arith

-- the ways in which the rules end: r is where they began, s where the loop has come to
module _ (h : Numbers) (r s : Reader) (T U : List ℤ) (rows count : ℕ) (qs : List Rule) (g : Going {E = SheetFault} unended (λ t. NextRule t h) r [] s qs) (f : SoFar T U rows count qs) where
  -- a rule is wrong
  pub rules_break : (u : Reader) (V : List ℤ) (e : SheetFault) (x : Result ℕ SheetFault) → s.at < length s.text.now → Step (λ t. RuleLine t h count rows) s u (Err e) → x ≡ Err e → RulesRead h r u T V x
  rules_break u V e x l k q =
      rw q (step_stops _ _ _ _ _ _ (going_stops _ _ _ _ _ _ g u e (Err e) (open_end _ _ l) (next_stops h count rows qs f.count_is f.rows_is s u e k) refl) refl)

  -- the text ends
  loop_ends : length s.text.now ≤ s.at → Step (λ t. Loop (unended t) (NextRule t h) []) r s (Ok qs)
  loop_ends l = going_done _ _ _ _ _ _ g (at_end _ _ l)

  pub rules_few : (V : List ℤ) → length s.text.now ≤ s.at → count < h.rules → RulesRead h r s T V (Err (Count s.at))
  rules_few V l c =
      let i : s.at ≤ length s.text.now = s.inside in
      let at : s.at ≡ length s.text.now = omega arith in
      step_goes _ _ _ _ _ _ _ (loop_ends l) (given at)
    where
      given : s.at ≡ length s.text.now → Step (λ t. Give (complete t h qs)) s s (Err (Count s.at))
      given at = record { same = refl; reads = record { is = ap (λ (z : Result (List Rule) SheetFault). outcome z s.at) (too_few s.text.now h qs count s.at f.count_is at c) } }

  pub rules_end : rows ≤ 64 → length s.text.now ≤ s.at → h.rules ≤ count → RulesRead h r s T U (Ok rows)
  rules_end few l c = record { rules = qs; read = step_goes _ _ _ _ _ _ _ (loop_ends l) given; count = f.rows_is; few = few; holds = f.holds }
    where
      given : Step (λ t. Give (complete t h qs)) s s (Ok qs)
      given = record { same = refl; reads = record { is = ap (λ (z : Result (List Rule) SheetFault). outcome z s.at) (enough s.text.now h qs count f.count_is c) } }
