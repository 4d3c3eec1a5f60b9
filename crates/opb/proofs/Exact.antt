-- A text comes to one outcome only.
use Rattle.lines.specs.Lines.{Numbers}
use Rattle.std.proofs.Common.{◌≡◌, ℕ, List, []}
use Rattle.faults.specs.declared.fault.SheetFault.{SheetFault}
use Rattle.forms.specs.Forms.{Exact}
use Rattle.forms.proofs.Exactness.{apart, exact_then, exact_loop, exact_branch, exact_from, exact_just, exact_give, exact_lifted}
use Rattle.text.specs.declared.reader.Limit.TheVariants.{Coefficient}
use Rattle.text.proofs.Exact.{exact_pass, exact_limited, exact_gap}
use Rattle.lines.proofs.Exact.{exact_header, exact_price, exact_rule}
use Rattle.opb.specs.Sheets.{Written, Price, RuleLine, NextRule, Rules, Whole, unended, Says, Refused, Alone}

exact_rule_line : (text : List ℕ) (h : Numbers) (count rows : ℕ) → Exact (RuleLine text h count rows)
exact_rule_line text h count rows =
    exact_from _ (λ start. exact_then _ _ (exact_lifted _ _ (exact_limited text Coefficient)) (λ a. exact_then _ _ (exact_give _) (λ _.
    exact_then _ _ (exact_rule text _ _ a) (λ q. exact_then _ _ (exact_lifted _ _ (exact_gap text)) (λ _. exact_give _)))))

exact_rules : (text : List ℕ) (h : Numbers) → Exact (Rules text h)
exact_rules text h =
    exact_then _ _ (exact_loop (unended text) (NextRule text h) (λ qs. exact_then _ _ (exact_rule_line text h _ _) (λ q. exact_give _)) []) (λ qs. exact_give _)

exact_price_part : (text : List ℕ) (n : ℕ) → Exact (Price text n)
exact_price_part text n = exact_branch _ _ _ (exact_then _ _ (exact_price text n) (λ s. exact_then _ _ (exact_lifted _ _ (exact_gap text)) (λ _. exact_give _))) (exact_give _)

pub exact_whole : (text : List ℕ) → Exact (Whole text)
exact_whole text =
    exact_then _ _ (exact_lifted _ _ (exact_give _)) (λ _. exact_then _ _ (exact_lifted _ _ (exact_header text)) (λ h.
    exact_then _ _ (exact_lifted _ _ (exact_gap text)) (λ _. exact_then _ _ (exact_price_part text _) (λ p. exact_then _ _ (exact_rules text h) (λ qs. exact_give _)))))

pub says_unique : (text : List ℕ) (s t : Written) → Says text s → Says text t → s ≡ t
says_unique text s t (i, h) (j, k) = let e = exact_whole text 0 _ _ h k in cc

pub not_both : {X : Type 0} (text : List ℕ) (s : Written) (e : SheetFault) → Says text s → Refused text e → X
not_both text s e (i, h) k = apart s i e (exact_whole text 0 _ _ h k)

pub refused_unique : (text : List ℕ) (e f : SheetFault) → Refused text e → Refused text f → e ≡ f
refused_unique text e f h k = let q = exact_whole text 0 _ _ h k in cc

-- one rule alone
pub exact_alone : (text : List ℕ) (n room : ℕ) → Exact (Alone text n room)
exact_alone text n room =
    exact_then _ _ (exact_lifted _ _ (exact_give _)) (λ _. exact_then _ _ (exact_lifted _ _ (exact_pass _ text)) (λ _.
    exact_then _ _ (exact_lifted _ _ (exact_limited text Coefficient)) (λ a. exact_then _ _ (exact_rule text n room a) (λ q.
    exact_then _ _ (exact_lifted _ _ (exact_pass _ text)) (λ _. exact_then _ _ (exact_lifted _ _ (exact_just _)) (λ _. exact_give _))))))
