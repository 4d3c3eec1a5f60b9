use Rattle.std.proofs.Common.{◌≡◌, ℕ, ◌+◌, false, cond, not, List, [], ◌∷◌, ◌++◌, map, Bor, ap, ◌∙◌, arith, of_calls}
use Rattle.std.proofs.lemmas.List.{map-append}
use Rattle.std.proofs.lemmas.List.Sums.{sum_by_push}
use Rattle.std.proofs.lemmas.Iterator.Consumers.{YieldsList-end}
use Rattle.std.proofs.lemmas.Iterator.Splits.{YieldsList-from_lines}
use Rattle.tally.specs.Tallies.{is_remark, written}
use Rattle.tally.proofs.compared.Goals as goal

-- the lines so far
abbrev so_far : List (Bor (List ℕ)) → List (List ℕ)
so_far xs = map (λ (x : Bor (List ℕ)). x.now) xs

one_more : (xs : List (Bor (List ℕ))) (x : Bor (List ℕ)) → is_remark x.now ≡ false → written (so_far (xs ++ (x ∷ []))) ≡ written (so_far xs) + 1
one_more xs x e =
    ap written (map-append (λ (y : Bor (List ℕ)). y.now) xs (x ∷ [])) ∙ sum_by_push (λ l. cond (not (is_remark l)) 1 0) (so_far xs) x.now
    ∙ ap (λ b. written (so_far xs) + cond (not b) 1 0) e

pub loop-line-preserved-then-not-is_remark : goal.loop-line-preserved-then-not-is_remark
loop-line-preserved-then-not-is_remark g c =
    let e : is_remark c.in-Some.line.now ≡ false = cc in
    (search of_calls, c.count.ensures.things ∙ c.loop-line.invariant.1, omega (arith, c.count.ensures.tried, c.loop-line.invariant.2, one_more c.loop-line.yielded c.in-Some.line e))

pub returns-clause-tried : goal.returns-clause-tried
returns-clause-tried g c =
    let all = (YieldsList-end (YieldsList-from_lines c.args.list.now (cc)) c.loop-line.yielded _ c.loop-line.yielded_by _ _ c.in-None.is c.next.ensures.steps).0 in
    omega (arith, c.loop-line.invariant.2, ap written all)
