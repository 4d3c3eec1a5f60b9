-- From each place there is at most one token of a kind, or one fault.
use Rattle.std.proofs.Common.{ℕ, ◌+◌, List, [], ◌∷◌, sym, refl, ap, ◌∙◌, arith}
use Rattle.forms.specs.Forms.{got, bad, Exact}
use Rattle.forms.proofs.Exactness.{both, exact_then, exact_loop, exact_just, exact_from, exact_give}
use Rattle.text.specs.declared.reader.Class.{Class}
use Rattle.text.specs.declared.reader.Class.TheVariants.{Digit}
use Rattle.text.specs.declared.reader.Limit.{Limit}
use Rattle.text.specs.declared.reader.Sign.{Sign}
use Rattle.text.specs.Bytes.{spelling}
use Rattle.text.specs.Tokens.{Pass, passed, Bytes, whole, here, wrong, Spelt, Digits, some, none, Number, Name, Limited, Gap, Line}
use Rattle.text.proofs.Runs.{run_unique}

pub exact_pass : (c : Class) (text : List ℕ) → Exact (Pass c text)
exact_pass c text from o p (passed to r) (passed to' r') = ap (got tt) (run_unique c text from to to' r r')

exact_digits : (text : List ℕ) (start : ℕ) → Exact (Digits text start)
exact_digits text start from o p (some m to h r e) (some m' to' h' r' e') = let q = run_unique Digit text from to to' r r' in cc
exact_digits text start from o p (some m to h r e) (none _ n _) = both _ (r.all from (omega arith) h) n
exact_digits text start from o p (none _ n _) (some m to h r e) = both _ (r.all from (omega arith) h) n
exact_digits text start from o p (none f n e) (none f' n' e') = ap bad (e ∙ sym e')

exact_bytes : (text : List ℕ) (start : ℕ) (bs : List ℕ) → Exact (Bytes text start bs)
exact_bytes text start [] from o p (whole _) (whole _) = refl
exact_bytes text start (b ∷ bs) from o p (here _ _ _ _ s h) (here _ _ _ _ t k) = exact_bytes text start bs (from + 1) o p h k
exact_bytes text start (b ∷ bs) from o p (here _ _ _ _ s h) (wrong _ _ _ t) = both _ s t
exact_bytes text start (b ∷ bs) from o p (wrong _ _ _ t) (here _ _ _ _ s h) = both _ s t
exact_bytes text start (b ∷ bs) from o p (wrong _ _ _ s) (wrong _ _ _ t) = refl

pub exact_spelt : (text : List ℕ) (s : Sign) → Exact (Spelt text s)
exact_spelt text s = exact_from _ (λ start. exact_bytes text start (spelling s))

pub exact_number : (text : List ℕ) → Exact (Number text)
exact_number text = exact_from _ (λ start. exact_then _ _ (exact_just _) (λ m. exact_then _ _ (exact_digits text start) (λ d. exact_give _)))

pub exact_name : (text : List ℕ) → Exact (Name text)
exact_name text = exact_from _ (λ start. exact_then _ _ (exact_just _) (λ _. exact_digits text start))

pub exact_limited : (text : List ℕ) (l : Limit) → Exact (Limited text l)
exact_limited text l = exact_from _ (λ start. exact_then _ _ (exact_number text) (λ z. exact_give _))

pub exact_gap : (text : List ℕ) → Exact (Gap text)
exact_gap text = exact_then _ _ (exact_pass _ text) (exact_loop _ _ (λ _. exact_then _ _ (exact_pass _ text) (λ _. exact_pass _ text)))

pub exact_line : (text : List ℕ) → Exact (Line text)
exact_line text = exact_then _ _ (exact_pass _ text) (λ _. exact_from _ (λ start. exact_just _))
