-- The kept literals go on agreeing with the question.
use Rattle.std.specs.Prelude.{◌≡◌, length}
use Rattle.std.proofs.Common.{sym, ap, subst, ◌∙◌}
use Rattle.engine.specs.Held.{Held, Every}
use Rattle.engine.specs.Questions.{Question, none, posed, GoodLiteral}
use Rattle.store.specs.Assumes.{assumed_in}
use Rattle.store.specs.declared.assumed.Assumed.{Assumed}
use Rattle.twice.specs.Rounds.{Agrees}

pub agrees_closed : (a : Assumed) (h : Held) (q : Question) → q ≡ none → Agrees a h q
agrees_closed a h q e = subst (Agrees a h) (sym e) tt

same_question : (a b : Assumed) (h h' : Held) (q : Question) → b ≡ a → h'.variables ≡ h.variables → Agrees a h q → Agrees b h' q
same_question a b h h' none x y g = tt
same_question a b h h' (posed ls left) x y g = (ap assumed_in x ∙ g.0, subst (λ n. Every (GoodLiteral n ls) (length ls)) (sym y) g.1)

pub agrees_kept : (a b : Assumed) (h h' : Held) (q q' : Question) → b ≡ a → h'.variables ≡ h.variables → q' ≡ q → Agrees a h q → Agrees b h' q'
agrees_kept a b h h' q q' x y e g = subst (Agrees b h') (sym e) (same_question a b h h' q x y g)
