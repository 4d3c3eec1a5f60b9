use Rattle.std.proofs.Common.{◌≡◌, ℕ, List, ◌++◌, true, false, codes, slice_index_or, ap, ◌∙◌, rules}
use Rattle.std.proofs.Output.{has_written_append, has_written_of_eq}
use Rattle.rules.specs.Words.{literal_words}
use Rattle.core_text.specs.Words.{lead, pieces, literal_at}
use Rattle.core_text.proofs.Pieces.{some_literal, literals_so_far, with_piece, then_lead, without_piece}
use Rattle.core_text.proofs.show.LiteralsDisplay.fmt.Goals as goal
use Rattle.core_text.proofs.show.LiteralsDisplay.fmt.Goals.{then-member+in_ok-write, else-member}

pub loop-variable-init : goal.loop-variable-init
unfolding pieces
loop-variable-init g c = search rules

pub loop-variable-preserved : goal.loop-variable-preserved
loop-variable-preserved g c =
    let row = c.args.self.now.row.now in
    let members = c.args.self.now.members.now in
    let member = λ (i : ℕ). slice_index_or members i false in
    let n = c.loop-variable.variable in
    let literal = λ (i : ℕ). literal_words (literal_at row i) in
    let was = c.loop-variable.invariant in
    elim c.if-member.branch [
      | then-member+in_ok-write w ↦
          let has : member n ≡ true = search rules in
          record {
            text = search rules;
            wrote = λ p. has_written_of_eq _ _ _ _ _ (ap (λ (b : List ℕ). literals_so_far row members n ++ (b ++ literal n)) was.next ∙ with_piece (codes " ") member literal n has) (has_written_append _ _ _ _ _ _ (was.wrote p) (search rules));
            next = ap (λ b. b.now) w.between-is ∙ then_lead (codes " ") member literal n has (some_literal (literal_at row n));
          }
      | else-member w ↦
          let same = without_piece (codes " ") member literal n (search rules) in
          record {
            text = search rules;
            wrote = λ p. has_written_of_eq _ _ _ _ _ same (search rules);
            next = ap (λ b. b.now) w.between-is ∙ was.next ∙ ap (lead (codes " ")) same;
          }
    ]
