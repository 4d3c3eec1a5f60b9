use Rattle.std.proofs.Common.{subst, rules}
use Rattle.rules.specs.Rule.{at}
use Rattle.rules.specs.declared.term.Rule.{Rule}
use Rattle.cores.specs.Cores.{CanBeMet}
use Rattle.gains.specs.Gains.{Found}
use Rattle.gains.proofs.Passing.{best_of}
use Rattle.gains.proofs.best.best_count_rule.Goals as goal

pub returns : goal.returns
returns c =
    let price = at c.args.price.now in
    let can = subst CanBeMet c.in_ok-ranked.ensures c.in_ok-ranked.ranked.can in
    let found = subst (λ (r : Rule). Found r price c.greatest_round.result) c.in_ok-ranked.ensures c.greatest_round.ensures in
    best_of c.args.core.now price can c.greatest_round.result found c.map.result _ (λ x k p. (search rules, search rules)) c.map.ensures.cases
