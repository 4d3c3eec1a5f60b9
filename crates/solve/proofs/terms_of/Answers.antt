use Rattle.std.proofs.Common.{◌≡◌, ◌+◌, ◌≤◌, [], ◌∷◌, ◌++◌, length, get_or, pos, nat_abs, sym, ap, ◌∙◌, subst, arith, w32, SFits, rules}
use Rattle.std.proofs.lemmas.List.{length_push}
use Rattle.std.proofs.lemmas.Int.{to_z-of_z}
use Rattle.rules.specs.Rule.{at}
use Rattle.rules.specs.Terms.{signed}
use Rattle.rules.specs.declared.term.Term.{Term as Pair}
use Rattle.arrayvec.specs.ArrayVec.{ArrayVec}
use Rattle.rules.proofs.Placed.{size_zero}
use Rattle.solve.proofs.Listing.{Front, front_start, front_skip, front_more, front_all}
use Rattle.solve.proofs.terms_of.Goals as goal
use Rattle.solve.proofs.terms_of.Goals.{then-unsigned_abs-gt0, else-unsigned_abs-gt0}

pub loop-variable-init : goal.loop-variable-init
loop-variable-init c = subst (λ ts. (length ts ≤ 0) × Front c.args.row.now 0 ts) (sym c.new-terms.ensures) (omega arith, front_start c.args.row.now)

pub loop-variable-preserved : goal.loop-variable-preserved
loop-variable-preserved c =
    let row = c.args.row.now in
    let i = c.loop-variable.variable in
    let fit : SFits w32 (get_or row i (pos 0)) = search rules in
    let size : c.unsigned_abs.result ≡ nat_abs (at row i) = simp to_z-of_z at c.unsigned_abs.ensures.value in
    let old = c.loop-variable.terms.items in
    elim c.if-unsigned_abs-gt0.branch [
      | then-unsigned_abs-gt0 w ↦
          let t = w.term_of.result in
          let made = w.term_of.ensures in
          let large : t.coefficient ≡ nat_abs (at row i) = simp to_z-of_z at made.size in
          let sign : signed t ≡ at row i = simp to_z-of_z at made.signed in
          let list : c.if-unsigned_abs-gt0.terms.items ≡ old ++ (t ∷ []) = ap (λ (v : ArrayVec Pair). v.items) w.terms-is ∙ w.push.ensures.items in (
            omega (arith, ap length list, length_push old t, c.loop-variable.invariant.0),
            subst (Front row (i + 1)) (sym list) (front_more row i old t c.loop-variable-test.true sign large made.variable (omega (arith, w.if-unsigned_abs-gt0.true)) c.loop-variable.invariant.1),
          )
      | else-unsigned_abs-gt0 w ↦
          let none : at row i ≡ pos 0 = size_zero (at row i) (omega (arith, w.if-unsigned_abs-gt0.false)) in
          let list : c.if-unsigned_abs-gt0.terms.items ≡ old = ap (λ (v : ArrayVec Pair). v.items) w.terms-is in (
            omega (arith, ap length list, c.loop-variable.invariant.0),
            subst (Front row (i + 1)) (sym list) (front_skip row i old none c.loop-variable.invariant.1),
          )
    ]

pub returns : goal.returns
returns c = front_all c.args.row.now c.loop-variable.variable _ c.told-row c.loop-variable-test.false c.loop-variable.invariant.1
