-- The whole text of one rule, and that there is one answer only.
use Rattle.std.proofs.Common.{◌≡◌, ℕ, ◌-◌, ◌<◌, List, length, ℤ, Ok, Err, Result, refl, ap, ◌∙◌, subst, arith}
use Rattle.faults.specs.declared.fault.RunFault.{RunFault}
use Rattle.faults.specs.declared.fault.RunFault.TheVariants.{Sheet, TableLength, Layout}
use Rattle.faults.specs.declared.fault.TextFault.{TextFault}
use Rattle.faults.specs.declared.fault.SheetFault.{SheetFault}
use Rattle.faults.specs.declared.fault.SheetFault.TheVariants.{Text}
use Rattle.forms.specs.Forms.{Outcome, outcome, goes, stops, well, fault}
use Rattle.forms.proofs.Exactness.{apart}
use Rattle.text.specs.declared.reader.Reader.{Reader}
use Rattle.text.specs.Reading.{Step}
use Rattle.text.specs.Tokens.{short}
use Rattle.lines.specs.declared.line.Rule.{Rule}
use Rattle.opb.specs.Sheets.{AloneHere, Alone, SaysRule, RefusedRule}
use Rattle.opb.proofs.Exact.{exact_alone}
use Rattle.opb.proofs.Whole.{same_language}
use Rattle.table.specs.Layout.{Sound, FirstBad, Verdict, parts_of, rules_of}
use Rattle.wish.specs.Wishes.{AloneRead, room_in, Reading}

pub too_long : (text : List ℕ) (n room : ℕ) (e : TextFault) (x : Result Rule SheetFault) → Err e ≡ short text → x ≡ Err (Text e) → AloneRead text n room x
too_long text n room e x h q = rw q (stops _ (fault e (record { is = ap (λ (z : Result (Unit {0}) TextFault). outcome z 0) h })))

module _ (text : List ℕ) (n room : ℕ) (fits : Ok tt ≡ short text) (r : Reader) (same : r.text.now ≡ text) (begins : r.at ≡ 0) where
  start : (o : Outcome Rule SheetFault) → AloneHere r.text.now n room r.at o → Alone text n room 0 o
  start o k =
      let a = subst (λ (i : ℕ). AloneHere r.text.now n room i o) begins k in
      let b = subst (λ (t : List ℕ). AloneHere t n room 0 o) same a in
      goes tt 0 o (well tt 0 (record { is = ap (λ (z : Result (Unit {0}) TextFault). outcome z 0) fits })) b

  pub whole_read : (s : Reader) (x : Result Rule SheetFault) → Step (λ t. AloneHere t n room) r s x → AloneRead text n room x
  whole_read s (Ok q) k = (s.at, start _ k.reads)
  whole_read s (Err e) k = start _ k.reads

-- a table that is sound has no word that is not
not_bad : {X : Type 0} (T : List ℤ) (w : ℕ) → Sound T → FirstBad T w → X
not_bad T w s b = absurd (b.bad (s.fine w b.within))

-- two words cannot both be the first
first_same : (T : List ℤ) (v w : ℕ) → FirstBad T v → FirstBad T w → v ≡ w
first_same T v w a b =
    let p : v < w → ⊥ = λ l. a.bad (b.before v l) in
    let q : w < v → ⊥ = λ l. b.bad (a.before w l) in
    omega arith

abbrev ReadAs : List ℕ → List ℤ → Result Rule RunFault → Type 0
ReadAs text T (Ok q) = Sound T × SaysRule text (parts_of T) (room_in T) q
ReadAs text T (Err (Sheet e)) = Sound T × RefusedRule text (parts_of T) (room_in T) e
ReadAs text T (Err TableLength) = length T ≡ 2668 → ⊥
ReadAs text T (Err (Layout w)) = FirstBad T w

pub exactly : (text : List ℕ) (T : List ℤ) (r : Result Rule RunFault) → ReadAs text T r → Reading text T r
exactly text T (Ok q) c = record {
  came = (c.0, same_language.2 text (parts_of T) (room_in T) q c.1);
  read = λ s p h. (let e = exact_alone text (parts_of T) (room_in T) 0 _ _ c.1.1 (same_language.3 text (parts_of T) (room_in T) p h).1 in ap Ok (cc));
  refuse = λ s e h. apart q c.1.0 e (exact_alone text (parts_of T) (room_in T) 0 _ _ c.1.1 h);
  unfit = λ n. absurd (n c.0.whole);
  broken = λ w b. not_bad T w c.0 b;
}
exactly text T (Err (Sheet d)) c = record {
  came = c;
  read = λ s p h. (let k = same_language.3 text (parts_of T) (room_in T) p h in apart p k.0 d (exact_alone text (parts_of T) (room_in T) 0 _ _ k.1 c.1));
  refuse = λ s e h. (let k = exact_alone text (parts_of T) (room_in T) 0 _ _ c.1 h in ap (λ (z : SheetFault). Err (Sheet z)) (cc));
  unfit = λ n. absurd (n c.0.whole);
  broken = λ w b. not_bad T w c.0 b;
}
exactly text T (Err TableLength) c = record {
  came = c;
  read = λ s p h. absurd (c s.whole);
  refuse = λ s e h. absurd (c s.whole);
  unfit = λ n. refl;
  broken = λ w b. absurd (c b.whole);
}
exactly text T (Err (Layout v)) c = record {
  came = c;
  read = λ s p h. not_bad T v s c;
  refuse = λ s e h. not_bad T v s c;
  unfit = λ n. absurd (n c.whole);
  broken = λ w b. ap (λ (z : ℕ). Err (Layout z)) (first_same T v w c b);
}

-- the table is refused, or the rule is read with what the table says
pub table_refused : (text : List ℕ) (T : List ℤ) (e : RunFault) → Verdict T (Err e) → ReadAs text T (Err e)
table_refused text T (Sheet f) h = absurd h
table_refused text T TableLength h = h
table_refused text T (Layout w) h = h

module _ (text : List ℕ) (T W : List ℤ) (sound : Sound T) (same : W ≡ T) (n k : ℕ) (parts : n ≡ parts_of W) (rules : k ≡ rules_of W) where
  here : (x : Result Rule SheetFault) → AloneRead text n (64 - k) x → AloneRead text (parts_of T) (room_in T) x
  here x h =
      let a = subst (λ (i : ℕ). AloneRead text i (64 - k) x) (parts ∙ ap parts_of same) h in
      subst (λ (i : ℕ). AloneRead text (parts_of T) (64 - i) x) (rules ∙ ap rules_of same) a

  pub rule_refused : (e : SheetFault) → AloneRead text n (64 - k) (Err e) → ReadAs text T (Err (Sheet e))
  rule_refused e h = (sound, here (Err e) h)

  pub rule_read : (q : Rule) → AloneRead text n (64 - k) (Ok q) → ReadAs text T (Ok q)
  rule_read q h = (sound, here (Ok q) h)
