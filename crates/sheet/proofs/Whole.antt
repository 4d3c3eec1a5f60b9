-- The whole text: its parts one after another, and that there is one outcome only.
use Rattle.std.proofs.Common.{◌≡◌, ℕ, List, [], length, replicate, ℤ, pos, Ok, Err, Option, Result, sym, refl, ap, ◌∙◌, subst}
use lib.ListN.{length-replicate, replicate-append-replicate}
use Rattle.faults.specs.declared.fault.RunFault.{RunFault}
use Rattle.faults.specs.declared.fault.RunFault.TheVariants as run
use Rattle.faults.specs.declared.fault.TextFault.{TextFault}
use Rattle.faults.specs.declared.fault.SheetFault.{SheetFault}
use Rattle.faults.specs.declared.fault.SheetFault.TheVariants.{Text}
use Rattle.forms.specs.Forms.{Outcome, outcome, Then, goes, stops, Lifted, well, fault}
use Rattle.text.specs.declared.reader.Reader.{Reader}
use Rattle.text.specs.Reading.{Step}
use Rattle.text.specs.Tokens.{short, Gap}
use Rattle.text.proofs.Steps.{step_goes, step_stops, step_give, step_well}
use Rattle.lines.specs.declared.line.Sum.{Sum}
use Rattle.lines.specs.Lines.{Numbers, HeaderLine}
use Rattle.rows.specs.Rows.{laid, table_with, front_of, all_rows, Fronts}
use Rattle.sheet.specs.Reads.{Filled, Zeros, BodyRead, Said, TextRead, Reading}
use Rattle.opb.specs.Sheets.{Written, Price, Rules, Body, Whole, Refused, table_of}
use Rattle.meaning.specs.Means.{Means}
use Rattle.meaning.proofs.Layouts.{table_sound}
use Rattle.meaning.proofs.Tables.{table_means}
use Rattle.opb.specs.Language.{Language}
use Rattle.opb.proofs.Whole.{language_sound, language_complete}
use Rattle.opb.proofs.Exact.{says_unique, not_both, refused_unique}

-- a table of zeros has no rows
pub zeros_table : (T : List ℤ) → Zeros T → T ≡ table_with (replicate 44 (pos 0)) []
unfolding laid
zeros_table T h = h ∙ sym (replicate-append-replicate 44 2624 (pos 0))

pub fronts_as : (U V : List ℤ) (parts rows : ℕ) (q p : Option Sum) → q ≡ p → Fronts U V (front_of parts rows q) → Fronts U V (front_of parts rows p)
fronts_as U V parts rows q p e f = subst (λ (o : Option Sum). Fronts U V (front_of parts rows o)) e f

-- what follows the header: the gap from r to s, the price line to u, the rules to v
module _ (h : Numbers) (r s u : Reader) (gap : Step Gap r s (Ok tt)) where
  pub price_wrong : (U : List ℤ) (e : SheetFault) (x : Result (Unit {0}) SheetFault) → Step (λ t. Price t h.parts) s u (Err e) → x ≡ Err e → BodyRead h r u U x
  price_wrong U e x p q = rw q (step_goes _ _ _ _ _ _ _ (step_well _ _ _ _ _ gap) (step_stops _ _ _ _ _ _ p refl))

  module _ (p : Option Sum) (price : Step (λ t. Price t h.parts) s u (Ok p)) (v : Reader) where
    pub rules_wrong : (U V : List ℤ) (e : SheetFault) (x : Result (Unit {0}) SheetFault) → Step (λ t. Rules t h) u v (Err e) → x ≡ Err e → BodyRead h r v V x
    rules_wrong U V e x k q = rw q (step_goes _ _ _ _ _ _ _ (step_well _ _ _ _ _ gap) (step_goes _ _ _ _ _ _ _ price (step_stops _ _ _ _ _ _ k refl)))

    pub body_laid : (T U V : List ℤ) (rows : ℕ) → Zeros T → Filled h u v T U rows → Fronts U V (front_of h.parts rows p) → BodyRead h r v V (Ok tt)
    body_laid T U V rows z f w = record {
      sheet = record { header = h; price = p; rules = f.rules };
      read = step_goes _ _ _ _ _ _ _ (step_well _ _ _ _ _ gap) (step_goes _ _ _ _ _ _ _ price (step_goes _ _ _ _ _ _ _ f.read (step_give _ _ _ refl)));
      table = w (all_rows f.rules) (f.holds (replicate 44 (pos 0)) (length-replicate 44 (pos 0)) (zeros_table T z))
          ∙ ap (λ (n : ℕ). table_with (front_of h.parts n p) (all_rows f.rules)) f.count;
    }

-- the whole text
pub too_long : (text : List ℕ) (U : List ℤ) (e : TextFault) (x : Result (Unit {0}) SheetFault) → Err e ≡ short text → x ≡ Err (Text e) → TextRead text U x
too_long text U e x h q = rw q (stops _ (fault e (record { is = ap (λ (z : Result (Unit {0}) TextFault). outcome z 0) h })))

module _ (text : List ℕ) (fits : Ok tt ≡ short text) (r : Reader) (same : r.text.now ≡ text) (begins : r.at ≡ 0) where
  start : (o : Outcome Written SheetFault) → Then (Lifted Text (HeaderLine r.text.now)) (Body r.text.now) r.at o → Whole text 0 o
  start o k =
      let a = subst (λ (i : ℕ). Then (Lifted Text (HeaderLine r.text.now)) (Body r.text.now) i o) begins k in
      let b = subst (λ (t : List ℕ). Then (Lifted Text (HeaderLine t)) (Body t) 0 o) same a in
      goes tt 0 o (well tt 0 (record { is = ap (λ (z : Result (Unit {0}) TextFault). outcome z 0) fits })) b

  pub header_wrong : (s : Reader) (U : List ℤ) (e : TextFault) (x : Result (Unit {0}) SheetFault) → Step HeaderLine r s (Err e) → x ≡ Err (Text e) → TextRead text U x
  header_wrong s U e x k q = rw q (start _ (stops _ (fault e k.reads)))

  pub whole_read : (s u : Reader) (h : Numbers) (U : List ℤ) (x : Result (Unit {0}) SheetFault) → Step HeaderLine r s (Ok h) → BodyRead h s u U x → TextRead text U x
  whole_read s u h U (Ok _) k b =
      let w = step_goes _ Body _ _ _ _ _ (step_well Text _ _ _ _ k) b.read in
      record { sheet = b.sheet; says = (u.at, start _ w.reads); table = b.table }
  whole_read s u h U (Err e) k b =
      let w = step_goes _ Body _ _ _ _ _ (step_well Text _ _ _ _ k) b in
      start _ w.reads

-- one answer only
abbrev ReadAs : List ℕ → List ℤ → List ℤ → Result (Unit {0}) RunFault → Type 0
ReadAs text T U (Ok _) = (length T ≡ 2668) × Said text U
ReadAs text T U (Err (run.Sheet e)) = (length T ≡ 2668) × Refused text e × Zeros U
ReadAs text T U (Err run.TableLength) = (length T ≡ 2668 → ⊥) × (U ≡ T)
ReadAs text T U (Err (run.Layout w)) = ⊥

one_sheet : (text : List ℕ) (s t : Written) → Language text s → Language text t → s ≡ t
one_sheet text s t h k = says_unique text s t (language_complete text s h) (language_complete text t k)

meant : (text : List ℕ) (s : Written) → Language text s → Means s (table_of s)
meant text s h = table_means text s (language_complete text s h)

pub exactly : (text : List ℕ) (T U : List ℤ) (r : Result (Unit {0}) RunFault) → ReadAs text T U r → Reading text T U r
exactly text T U (Ok _) c = record {
  came = (c.0, record { sheet = c.1.sheet; written = language_sound text c.1.sheet c.1.says; table = c.1.table });
  unfit = λ n. absurd (n c.0);
  read = λ n s h. (refl, c.1.table ∙ ap table_of (says_unique text c.1.sheet s c.1.says (language_complete text s h)));
  refuse = λ n e h. not_both text c.1.sheet e c.1.says h;
  unique = one_sheet text;
  means = meant text;
  sound = table_sound text;
}
exactly text T U (Err (run.Sheet d)) c = record {
  came = c;
  unfit = λ n. absurd (n c.0);
  read = λ n s h. not_both text s d (language_complete text s h) c.1;
  refuse = λ n e h. (ap (λ (z : SheetFault). Err (run.Sheet z)) (refused_unique text d e c.1 h), c.2);
  unique = one_sheet text;
  means = meant text;
  sound = table_sound text;
}
exactly text T U (Err run.TableLength) c = record {
  came = c;
  unfit = λ n. (refl, c.1);
  read = λ n s h. absurd (c.0 n);
  refuse = λ n e h. absurd (c.0 n);
  unique = one_sheet text;
  means = meant text;
  sound = table_sound text;
}
exactly text T U (Err (run.Layout w)) c = absurd c
