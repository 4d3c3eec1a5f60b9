-- The lines' forms go on.
use Rattle.std.proofs.Common.{ℕ, List, ℤ}
use Rattle.forms.specs.Forms.{Forward, Onward}
use Rattle.forms.proofs.Progress.{onward_then, onward_after, forward_then, forward_onward, onward_from, forward_from, forward_give, forward_loop, forward_branch, forward_lifted, onward_lifted}
use Rattle.text.specs.declared.reader.Limit.TheVariants.{RightSide}
use Rattle.text.specs.declared.reader.Sign.TheVariants.{AtLeast, Equal, End}
use Rattle.text.specs.Tokens.{Limited}
use Rattle.text.proofs.Progress.{forward_pass, onward_name, onward_limited, forward_spelt}
use Rattle.lines.specs.declared.line.Line.{Line}
use Rattle.lines.specs.declared.line.Line.TheVariants as line
use Rattle.lines.specs.declared.line.Sum.{Sum}
use Rattle.lines.specs.Lines.{Blanks, Part, Named, Term, Terms, Compared, Bound, RuleAfter, empty}

pub forward_blanks : (text : List ℕ) → Forward (Blanks text)
forward_blanks text = forward_lifted _ _ (forward_pass _ text)

pub onward_part : (text : List ℕ) (n : ℕ) → Onward (Part text n)
onward_part text n = onward_from _ (λ start. onward_then _ _ (onward_lifted _ _ (onward_name text)) (λ k. forward_give _))

pub onward_named : (text : List ℕ) (n : ℕ) (a : ℤ) (s : Sum) → Onward (Named text n a s)
onward_named text n a s =
    onward_after _ _ (forward_blanks text) (λ _. onward_then _ _ (onward_from _ (λ start. onward_then _ _ (onward_part text n) (λ k. forward_give _)))
    (λ q. forward_then _ _ (forward_blanks text) (λ _. forward_give _)))

pub forward_named : (text : List ℕ) (n : ℕ) (a : ℤ) (s : Sum) → Forward (Named text n a s)
forward_named text n a s = forward_onward (Named text n a s) (onward_named text n a s)

pub onward_term : (text : List ℕ) (n : ℕ) (l : Line) (s : Sum) → Onward (Term text n l s)
onward_term text n l s = onward_then _ _ (onward_lifted _ _ (onward_limited text _)) (λ a. forward_named text n a s)

pub forward_terms : (text : List ℕ) (n : ℕ) (l : Line) (a : ℤ) → Forward (Terms text n l a)
forward_terms text n l a = forward_then _ _ (forward_named text n a empty) (forward_loop _ _ (λ s. forward_onward (Term text n l s) (onward_term text n l s)))

forward_compared : (text : List ℕ) → Forward (Compared text)
forward_compared text = forward_branch _ _ _ (forward_then _ _ (forward_spelt text AtLeast) (λ _. forward_give _)) (forward_then _ _ (forward_spelt text Equal) (λ _. forward_give _))

forward_bound : (text : List ℕ) → Forward (Bound text)
forward_bound text =
    forward_then _ _ (forward_pass _ text) (λ _. forward_then _ _ (forward_onward (Limited text RightSide) (onward_limited text RightSide))
    (λ b. forward_then _ _ (forward_pass _ text) (λ _. forward_then _ _ (forward_spelt text End) (λ _. forward_give _))))

pub forward_rule : (text : List ℕ) (n room : ℕ) (a : ℤ) → Forward (RuleAfter text n room a)
forward_rule text n room a =
    forward_then _ _ (forward_terms text n line.Rule a) (λ s. forward_then _ _ (forward_from _ (λ start. forward_then _ _ (forward_lifted _ _ (forward_compared text)) (λ c. forward_give _)))
    (λ c. forward_then _ _ (forward_lifted _ _ (forward_bound text)) (λ b. forward_give _)))
