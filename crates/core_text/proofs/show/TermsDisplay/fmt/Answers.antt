use Rattle.std.proofs.Common.{◌≡◌, ℕ, List, ◌++◌, true, codes, ap, ◌∙◌, rules}
use Rattle.std.proofs.Output.{has_written_append, has_written_of_eq}
use Rattle.rules.specs.Words.{term_words}
use Rattle.core_text.specs.Words.{lead, pieces, has_term, term_at}
use Rattle.core_text.proofs.Pieces.{some_term, terms_so_far, with_piece, then_lead, without_piece}
use Rattle.core_text.proofs.show.TermsDisplay.fmt.Goals as goal
use Rattle.core_text.proofs.show.TermsDisplay.fmt.Goals.{then-coefficient-ne0+in_ok-write, else-coefficient-ne0}

pub loop-variable-init : goal.loop-variable-init
unfolding pieces
loop-variable-init g c = search rules

pub loop-variable-preserved : goal.loop-variable-preserved
loop-variable-preserved g c =
    let row = c.args.self.now.0.now in
    let n = c.loop-variable.variable in
    let term = λ (i : ℕ). term_words (term_at row i) in
    let was = c.loop-variable.invariant in
    elim c.if-coefficient-ne0.branch [
      | then-coefficient-ne0+in_ok-write w ↦
          let has : has_term row n ≡ true = search rules in
          record {
            text = search rules;
            wrote = λ p. has_written_of_eq _ _ _ _ _ (ap (λ (b : List ℕ). terms_so_far row n ++ (b ++ term n)) was.next ∙ with_piece (codes " + ") (has_term row) term n has) (has_written_append _ _ _ _ _ _ (was.wrote p) (search rules));
            next = ap (λ b. b.now) w.between-is ∙ then_lead (codes " + ") (has_term row) term n has (some_term (term_at row n));
          }
      | else-coefficient-ne0 w ↦
          let same = without_piece (codes " + ") (has_term row) term n (search rules) in
          record {
            text = search rules;
            wrote = λ p. has_written_of_eq _ _ _ _ _ same (search rules);
            next = ap (λ b. b.now) w.between-is ∙ was.next ∙ ap (lead (codes " + ")) same;
          }
    ]
