use Rattle.std.proofs.Common.{◌≡◌, ℕ, ◌+◌, List, ◌++◌, true, codes, decimal, ap, ◌∙◌, arith, rules}
use Rattle.std.proofs.lemmas.Fmt.{decimal_nonempty}
use Rattle.std.proofs.Output.{has_written_append, has_written_of_eq}
use Rattle.core_text.specs.Words.{lead, pieces, has_term}
use Rattle.core_text.proofs.Pieces.{numbers_so_far, with_piece, then_lead, without_piece}
use Rattle.core_text.proofs.show.NumbersDisplay.fmt.Goals as goal
use Rattle.core_text.proofs.show.NumbersDisplay.fmt.Goals.{then-coefficient-ne0+in_ok-write, else-coefficient-ne0}

pub loop-variable-init : goal.loop-variable-init
unfolding pieces
loop-variable-init g c = search rules

pub loop-variable-preserved : goal.loop-variable-preserved
loop-variable-preserved g c =
    let row = c.args.self.now.0.now in
    let n = c.loop-variable.variable in
    let number = λ (i : ℕ). decimal (i + 1) in
    let was = c.loop-variable.invariant in
    elim c.if-coefficient-ne0.branch [
      | then-coefficient-ne0+in_ok-write w ↦
          let has : has_term row n ≡ true = search rules in
          record {
            text = search rules;
            wrote = λ p. has_written_of_eq _ _ _ _ _ (ap (λ (b : List ℕ). numbers_so_far row n ++ (b ++ number n)) was.next ∙ with_piece (codes ",") (has_term row) number n has) (has_written_append _ _ _ _ _ _ (was.wrote p) (search rules));
            next = ap (λ b. b.now) w.between-is ∙ then_lead (codes ",") (has_term row) number n has (decimal_nonempty (n + 1) (omega arith));
          }
      | else-coefficient-ne0 w ↦
          let same = without_piece (codes ",") (has_term row) number n (search rules) in
          record {
            text = search rules;
            wrote = λ p. has_written_of_eq _ _ _ _ _ same (search rules);
            next = ap (λ b. b.now) w.between-is ∙ was.next ∙ ap (lead (codes ",")) same;
          }
    ]
