-- The tokens that the reader makes: what it has passed, and what the bytes since then say.
use Rattle.std.proofs.Common.{◌≡◌, ℕ, ◌+◌, ◌<◌, ◌≤◌, Bool, List, length, Ok, sym, ap, ◌∙◌, arith}
use Rattle.std.specs.List.{between}
use Rattle.forms.specs.Forms.{got}
use Rattle.text.specs.declared.reader.Reader.{Reader}
use Rattle.text.specs.Bytes.{decimal, signed, number_of, index_of}
use Rattle.text.specs.Tokens.{Byte, Digits, Minus, Number, Name}
use Rattle.text.specs.Reading.{Step}
use Rattle.text.proofs.Progress.{onward_byte, onward_digits, forward_minus}
use Rattle.text.proofs.Shown.{number_shown, name_shown}
use Rattle.text.proofs.Steps.{step_goes, step_give, step_from}

byte_next : (text : List ℕ) (b start from to : ℕ) → Byte text b start from (got tt to) → to ≡ from + 1
byte_next text b start from to h = let e = h.is in grind arith

-- from r the reader went to s and from there, over digits, to u; b is what it has passed
module _ (r s u : Reader) (b : List ℕ) (digits : Step (λ t. Digits t r.at) s u (Ok (decimal (between s.at u.at s.text.now)))) (bytes : b ≡ between r.at u.at u.text.now) where
  after_digits : s.at < u.at
  after_digits = onward_digits s.text.now r.at s.at u.at _ digits.reads

  pub shows : s.text.now ≡ r.text.now → b ≡ between r.at u.at r.text.now
  shows e = bytes ∙ ap (between r.at u.at) (digits.same ∙ e)

  text_end : s.text.now ≡ r.text.now → u.at ≤ length r.text.now
  text_end e = let i : u.at ≤ length u.text.now = u.inside in omega (arith, ap length (digits.same ∙ e))

  pub number_behind : (m : Bool) → Step Minus r s (Ok m) → r.at ≤ u.at
  number_behind m f = omega (arith, after_digits, forward_minus r.text.now r.at s.at m f.reads)

  pub number_made : (m : Bool) → Step Minus r s (Ok m) → Step Number r u (Ok (number_of b))
  number_made m f =
      let e = ap number_of (shows f.same) ∙ number_shown r.text.now r.at s.at u.at m f.reads.is after_digits (text_end f.same) in
      let same = ap (λ (t : List ℕ). signed m (decimal (between s.at u.at t))) f.same in
      step_from _ _ _ _ (step_goes _ _ _ _ _ _ _ f (step_goes _ _ _ _ _ _ _ digits (step_give _ _ _ (ap Ok (e ∙ sym same)))))

  pub name_behind : Step (λ t. Byte t 120 r.at) r s (Ok tt) → r.at < u.at
  name_behind f = omega (arith, after_digits, onward_byte r.text.now 120 r.at r.at s.at tt f.reads)

  pub name_made : Step (λ t. Byte t 120 r.at) r s (Ok tt) → Step Name r u (Ok (index_of b))
  name_made f =
      let next = byte_next r.text.now 120 r.at r.at s.at f.reads in
      let e = ap index_of (shows f.same) ∙ name_shown r.text.now r.at u.at (name_behind f) (text_end f.same) in
      let same : decimal (between s.at u.at s.text.now) ≡ decimal (between (r.at + 1) u.at r.text.now) = cc (next, f.same) in
      let n : Step (λ t. Digits t r.at) s u (Ok (index_of b)) = rw (e ∙ sym same) digits in
      step_from _ _ _ _ (step_goes _ _ _ _ _ _ _ f n)
