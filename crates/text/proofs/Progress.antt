-- The forms of tokens go forward, or on.
use Rattle.std.proofs.Common.{◌≡◌, ℕ, ◌+◌, ◌<◌, true, List, [], ◌∷◌, arith}
use Rattle.forms.specs.Forms.{got, goes, Forward, Onward}
use Rattle.forms.proofs.Progress.{onward_then, onward_after, forward_then, forward_onward, onward_from, forward_from, forward_give, forward_loop}
use Rattle.text.specs.declared.reader.Class.{Class}
use Rattle.text.specs.declared.reader.Limit.{Limit}
use Rattle.text.specs.declared.reader.Sign.{Sign}
use Rattle.text.specs.declared.reader.Class.TheVariants.{Inline}
use Rattle.text.specs.Bytes.{belongs, sees, stands, spelling}
use Rattle.text.proofs.Runs.{run_begins}
use Rattle.text.specs.Tokens.{Pass, passed, Byte, Bytes, whole, here, Spelt, Digits, some, Minus, Number, Name, Limited, Gap, Comment, Line}

pub forward_pass : (c : Class) (text : List ℕ) → Forward (Pass c text)
forward_pass c text from to a (passed _ r) = r.forward

pub onward_byte : (text : List ℕ) (b start : ℕ) → Onward (Byte text b start)
onward_byte text b start from to a h = let e = h.is in grind arith

pub forward_bytes : (text : List ℕ) (start : ℕ) (bs : List ℕ) → Forward (Bytes text start bs)
forward_bytes text start [] from to a (whole _) = omega arith
forward_bytes text start (b ∷ bs) from to a (here _ _ _ _ s h) = omega (arith, forward_bytes text start bs (from + 1) to a h)

pub onward_digits : (text : List ℕ) (start : ℕ) → Onward (Digits text start)
onward_digits text start from to a (some _ _ h _ _) = h

pub forward_minus : (text : List ℕ) → Forward (Minus text)
forward_minus text from to a h = let e = h.is in grind arith

pub onward_number : (text : List ℕ) → Onward (Number text)
onward_number text = onward_from _ (λ start. onward_after _ _ (forward_minus text) (λ m. onward_then _ _ (onward_digits text start) (λ d. forward_give _)))

pub onward_name : (text : List ℕ) → Onward (Name text)
onward_name text = onward_from _ (λ start. onward_then _ _ (onward_byte text 120 start) (λ _. forward_onward (Digits text start) (onward_digits text start)))

pub onward_limited : (text : List ℕ) (l : Limit) → Onward (Limited text l)
onward_limited text l = onward_from _ (λ start. onward_then _ _ (onward_number text) (λ z. forward_give _))

pub forward_spelt : (text : List ℕ) (s : Sign) → Forward (Spelt text s)
forward_spelt text s = forward_from _ (λ start. forward_bytes text start (spelling s))

pub forward_gap : (text : List ℕ) → Forward (Gap text)
forward_gap text = forward_then _ _ (forward_pass _ text) (forward_loop _ _ (λ _. forward_then _ _ (forward_pass _ text) (λ _. forward_pass _ text)))

pub forward_line : (text : List ℕ) → Forward (Line text)
forward_line text = forward_then _ _ (forward_pass _ text) (λ _. forward_from _ (λ start. forward_onward (Byte text 10 start) (onward_byte text 10 start)))

star_inline : (text : List ℕ) (i : ℕ) → stands text 42 i ≡ true → sees text Inline i ≡ true
unfolding belongs
star_inline text i h = grind arith

-- a comment goes on, since it begins with a star
pub comment_onward : (text : List ℕ) (from to : ℕ) → stands text 42 from ≡ true → Comment text tt from (got tt to) → from < to
comment_onward text from to h (goes _ mid _ (passed _ r) (passed _ s)) =
    let f = s.forward in
    let l = run_begins Inline text from mid r (star_inline text from h) in
    omega arith
