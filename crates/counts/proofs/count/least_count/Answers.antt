use Rattle.std.proofs.Common.{◌≡◌, true, false, Some, subst, rules}
use Rattle.std.proofs.lemmas.List.{get_or-replicate}
use Rattle.counting.proofs.Rounds.{least_same}
use Rattle.rules.specs.declared.term.Rule.{Rule}
use Rattle.counts.specs.Counts.{CountOf}
use Rattle.counts.proofs.count.least_count.Goals as goal

pub returns : goal.returns
returns c =
    let same : c.in_ok-ranked.ranked.rule.now ≡ c.args.rule.now = search rules in
    subst (λ (r : Rule). CountOf r (Some c.count_members.result)) same (c.in_ok-ranked.ranked.can, least_same 80 _ _ _ _ _ (λ i l. get_or-replicate 80 i true false l) c.count_members.ensures.least)
