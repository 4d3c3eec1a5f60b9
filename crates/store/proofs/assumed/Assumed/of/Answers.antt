use Rattle.std.proofs.Common.{◌≡◌, length, take, sym, refl, ap, ◌∙◌, subst, le_antisymm, arith, length-set}
use Rattle.std.proofs.lemmas.List.{take_all}
use Rattle.rules.specs.Terms.{only}
use Rattle.store.proofs.Distinct.{literals_few, one_more_kept, one_more_marked, free_marks}
use Rattle.store.proofs.assumed.Assumed.of.Goals as goal

pub loop-i-init : goal.loop-i-init
loop-i-init c = (refl, refl, refl, (λ v. free_marks 80 v))

-- the literals are good, so there is room for each
pub bounds-chosen-i : goal.bounds-chosen-i
bounds-chosen-i c = omega (arith, literals_few _ _ _ c.in_default.ensures, c.requires)

pub loop-i-preserved : goal.loop-i-preserved
loop-i-preserved c =
    let ls = c.args.literals.now in
    let i = c.loop-i.i in
    let l = c.loop-i-test.true in (
      simp length-set c.loop-i.invariant.0,
      one_more_kept c.loop-i.chosen ls i c.loop-i.invariant.0 (omega (arith, literals_few _ _ _ c.in_default.ensures, c.requires)) l c.loop-i.invariant.1,
      simp length-set c.loop-i.invariant.2,
      one_more_marked c.args.variables c.loop-i.marks ls i c.true_mark.result c.loop-i.invariant.2 l c.requires (c.in_default.ensures i l) c.true_mark.ensures c.loop-i.invariant.3,
    )

pub invariant_of-result : goal.invariant_of-result
invariant_of-result c =
    let ls = c.args.literals.now in
    let end : c.loop-i.i ≡ length ls = le_antisymm c.loop-i.auto.i-end c.loop-i-test.false in
    record {
      room = omega (arith, literals_few _ _ _ c.in_default.ensures, c.requires);
      whole = c.loop-i.invariant.0;
      wide = c.loop-i.invariant.2;
      agrees = (λ v. c.loop-i.invariant.3 v ∙ (ap (λ xs. only xs v) (sym c.loop-i.invariant.1) ∙ ap (λ k. only (take k c.loop-i.chosen) v) end));
    }

pub returns : goal.returns
returns c =
    let ls = c.args.literals.now in
    let end : c.loop-i.i ≡ length ls = le_antisymm c.loop-i.auto.i-end c.loop-i-test.false in
    (c.in_default.ensures, subst (λ i. take i c.loop-i.chosen ≡ take i ls) end c.loop-i.invariant.1 ∙ take_all (length ls) ls (omega arith))
