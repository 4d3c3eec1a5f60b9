-- From each place there is at most one line of a kind, or one fault.
use Rattle.std.proofs.Common.{ℕ, List, ℤ}
use Rattle.forms.specs.Forms.{Exact}
use Rattle.forms.proofs.Exactness.{exact_then, exact_loop, exact_branch, exact_from, exact_give, exact_lifted}
use Rattle.text.specs.declared.reader.Limit.{Limit}
use Rattle.text.specs.declared.reader.Sign.{Sign}
use Rattle.text.specs.declared.reader.Sign.TheVariants.{Variables, Constraints, Minimise, AtLeast, Equal, End}
use Rattle.text.specs.declared.reader.Limit.TheVariants.{Parts, Rules, Price, RightSide}
use Rattle.lines.specs.declared.line.Line.TheVariants as line
use Rattle.text.proofs.Exact.{exact_pass, exact_spelt, exact_name, exact_limited, exact_line}
use Rattle.lines.specs.declared.line.Line.{Line}
use Rattle.lines.specs.declared.line.Sum.{Sum}
use Rattle.lines.specs.Lines.{Part, Named, Term, Terms, Announced, HeaderLine, PriceLine, Compared, Bound, RuleAfter, empty, limit_of}

exact_part : (text : List ℕ) (n : ℕ) → Exact (Part text n)
exact_part text n = exact_from _ (λ start. exact_then _ _ (exact_lifted _ _ (exact_name text)) (λ k. exact_give _))

exact_named : (text : List ℕ) (n : ℕ) (a : ℤ) (s : Sum) → Exact (Named text n a s)
exact_named text n a s =
    exact_then _ _ (exact_lifted _ _ (exact_pass _ text)) (λ _. exact_then _ _ (exact_from _ (λ start. exact_then _ _ (exact_part text n) (λ k. exact_give _)))
    (λ q. exact_then _ _ (exact_lifted _ _ (exact_pass _ text)) (λ _. exact_give _)))

exact_terms : (text : List ℕ) (n : ℕ) (l : Line) (a : ℤ) → Exact (Terms text n l a)
exact_terms text n l a =
    exact_then _ _ (exact_named text n a empty) (exact_loop _ (Term text n l) (λ s. exact_then _ _ (exact_lifted _ _ (exact_limited text (limit_of l))) (λ b. exact_named text n b s)))

exact_announced : (text : List ℕ) (s : Sign) (l : Limit) → Exact (Announced text s l)
exact_announced text s l = exact_then _ _ (exact_spelt text s) (λ _. exact_then _ _ (exact_pass _ text) (λ _. exact_limited text l))

pub exact_header : (text : List ℕ) → Exact (HeaderLine text)
exact_header text =
    exact_then _ _ (exact_announced text Variables Parts) (λ n. exact_then _ _ (exact_pass _ text) (λ _. exact_then _ _ (exact_announced text Constraints Rules)
    (λ m. exact_then _ _ (exact_line text) (λ _. exact_give _))))

pub exact_price : (text : List ℕ) (n : ℕ) → Exact (PriceLine text n)
exact_price text n =
    exact_then _ _ (exact_lifted _ _ (exact_announced text Minimise Price)) (λ a. exact_then _ _ (exact_terms text n line.Price a)
    (λ s. exact_then _ _ (exact_lifted _ _ (exact_spelt text End)) (λ _. exact_give _)))

exact_compared : (text : List ℕ) → Exact (Compared text)
exact_compared text = exact_branch _ _ _ (exact_then _ _ (exact_spelt text AtLeast) (λ _. exact_give _)) (exact_then _ _ (exact_spelt text Equal) (λ _. exact_give _))

exact_bound : (text : List ℕ) → Exact (Bound text)
exact_bound text =
    exact_then _ _ (exact_pass _ text) (λ _. exact_then _ _ (exact_limited text RightSide) (λ b. exact_then _ _ (exact_pass _ text)
    (λ _. exact_then _ _ (exact_spelt text End) (λ _. exact_give _))))

pub exact_rule : (text : List ℕ) (n room : ℕ) (a : ℤ) → Exact (RuleAfter text n room a)
exact_rule text n room a =
    exact_then _ _ (exact_terms text n line.Rule a) (λ s. exact_then _ _ (exact_from _ (λ start. exact_then _ _ (exact_lifted _ _ (exact_compared text)) (λ c. exact_give _)))
    (λ c. exact_then _ _ (exact_lifted _ _ (exact_bound text)) (λ b. exact_give _)))
