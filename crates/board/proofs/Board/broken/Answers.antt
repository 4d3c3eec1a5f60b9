use Rattle.std.proofs.Common.{arith, rules, ap, ◌∙◌}
use Rattle.std.proofs.lemmas.Iterator.{YieldsList-from_range}
use Rattle.std.proofs.lemmas.Iterator.Consumers.{count_from_yields_List, YieldsList-from_filter}
use Rattle.rules.specs.Sum.{total}
use Rattle.board.specs.Board.{choice, breaks, is_broken}
use Rattle.board.proofs.Sums.{passed}
use Rattle.board.proofs.Board.broken.Goals as goal

pub returns : goal.returns
returns c =
    let T = c.args.sheet.now.words.now in
    let x = choice c.args.self.now.marks in
    count_from_yields_List c.filter.result _ c.count.ensures.ran
    (YieldsList-from_filter _ (breaks T x) (YieldsList-from_range 0 c.rules.result c.rules.result (cc) (omega arith)) c.filter.ensures.closure (λ k b q called. search rules))
    ∙ passed (breaks T x) c.rules.result ∙ ap (total (is_broken T x)) c.rules.ensures.value
