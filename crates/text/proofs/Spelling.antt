-- A fixed spelling, read byte by byte.
use Rattle.std.proofs.Common.{◌≡◌, ℕ, ◌+◌, ◌<◌, ◌≤◌, Bool, true, false, cond, List, ◌∷◌, length, get_or, drop, Ok, Err, Result, refl, ◌∙◌, subst, arith}
use Rattle.std.proofs.lemmas.List.{drop_more, drop_all}
use Rattle.forms.specs.Forms.{Outcome, got, bad}
use Rattle.faults.specs.declared.fault.TextFault.{TextFault}
use Rattle.text.specs.declared.reader.Reader.{Reader}
use Rattle.text.specs.Bytes.{stands}
use Rattle.text.specs.Tokens.{Bytes, whole, here, wrong, Byte, missing}
use Rattle.text.specs.Reading.{Step}

-- from r on the reader has passed the first i bytes of the spelling, and stands at s
pub record Spelling (start : ℕ) (bs : List ℕ) (r : Reader) (i : ℕ) (s : Reader) : Type 0 where
  pub same : s.text.now ≡ r.text.now
  pub rest : (o : Outcome (Unit {0}) TextFault) → Bytes r.text.now start (drop i bs) s.at o → Bytes r.text.now start bs r.at o

-- one byte of it
one_byte : (text : List ℕ) (start b : ℕ) (bs : List ℕ) (from : ℕ) (o p : Outcome (Unit {0}) TextFault) → Byte text b start from o → ((to : ℕ) → o ≡ got tt to → Bytes text start bs to p) → ((e : TextFault) → o ≡ bad e → p ≡ bad e) → Bytes text start (b ∷ bs) from p
one_byte text start b bs from o p h well fault = by (stands text b from) refl h.is
  where
    by : (d : Bool) → stands text b from ≡ d → o ≡ cond d (got tt (from + 1)) (bad (missing text start from)) → Bytes text start (b ∷ bs) from p
    by true s q = here b bs from p s (well (from + 1) q)
    by false s q = rw (fault (missing text start from) q) (wrong b bs from s)

module _ (start : ℕ) (bs : List ℕ) (r : Reader) (i : ℕ) (s : Reader) (g : Spelling start bs r i s) where
  pub spelling_more : (u : Reader) → i < length bs → Step (λ t. Byte t (get_or bs i 0) start) s u (Ok tt) → Spelling start bs r (i + 1) u
  spelling_more u l f = record {
    same = f.same ∙ g.same;
    rest = λ o h. (
        let b = subst (λ (t : List ℕ). Byte t (get_or bs i 0) start s.at (got tt u.at)) g.same f.reads in
        g.rest o (rw (drop_more bs i 0 l) (one_byte r.text.now start (get_or bs i 0) (drop (i + 1) bs) s.at (got tt u.at) o b
        (λ to e. let q : u.at ≡ to = cc in subst (λ (x : ℕ). Bytes r.text.now start (drop (i + 1) bs) x o) q h)
        (λ e q. let z : ◌≡◌ {A = ℕ} 0 1 = cc in absurd (omega arith)))));
  }

  pub spelling_done : length bs ≤ i → Step (λ t. Bytes t start bs) r s (Ok tt)
  spelling_done l = record { same = g.same; reads = g.rest (got tt s.at) (rw (drop_all i bs l) (whole s.at)) }

  pub spelling_stops : (u : Reader) (e : TextFault) (x : Result (Unit {0}) TextFault) → i < length bs → Step (λ t. Byte t (get_or bs i 0) start) s u (Err e) → x ≡ Err e → Step (λ t. Bytes t start bs) r u x
  spelling_stops u e x l f q =
      let b = subst (λ (t : List ℕ). Byte t (get_or bs i 0) start s.at (bad e)) g.same f.reads in
      record {
        same = f.same ∙ g.same;
        reads = rw q (g.rest (bad e) (rw (drop_more bs i 0 l) (one_byte r.text.now start (get_or bs i 0) (drop (i + 1) bs) s.at (bad e) (bad e) b
            (λ to p. let z : ◌≡◌ {A = ℕ} 0 1 = cc in absurd (omega arith))
            (λ d p. p))));
      }
