use Rattle.std.proofs.Common.{◌≡◌, ℕ, Ok, sym, refl, ◌∙◌, subst, le_antisymm, arith}
use Rattle.engine.specs.Held.{NotAdded}
use Rattle.solve.specs.Listed.{Lists}
use Rattle.solve.specs.Loads.{FirstRules}
use Rattle.solve.proofs.Loading.{no_rules_yet, one_more_rule, not_refused, stopped_rule}
use Rattle.solve.proofs.load.Goals as goal

pub loop-k-init : goal.loop-k-init
loop-k-init g c =
    let begun = c.in_ok-begin.ensures.begun in
    (no_rules_yet _ _ _ begun.1 c.variables.ensures, begun.2, c.in_ok-begin.ensures.sound refl)

pub loop-k-preserved : goal.loop-k-preserved
loop-k-preserved g c =
    let rule = c.in_ok-rule.rule in
    let ts = c.as_slice.result.now in
    let lists : Lists rule.coefficients ts = subst (Lists rule.coefficients) (sym c.as_slice.ensures.value) c.terms_of-terms.ensures in
    let adds = c.in_default.ensures.adds in (
      one_more_rule (g.H.RuleHolder.held c.args.holder.now) (g.E.RuleHolder.held c.loop-k.engine) (g.E.RuleHolder.held c.add.new.self) c.loop-k.k rule ts
          c.loop-k.invariant.0 c.in_ok-rule.ensures.1 lists c.in_default.ensures.added.1,
      g.met.E.Engine.add_closes c.loop-k.engine c.add.new.self c.in_default.field-0 adds,
      g.met.E.Engine.add_sound c.loop-k.engine c.add.new.self (Ok c.in_default.field-0) adds c.loop-k.invariant.2,
    )

pub returns : goal.returns
returns g c =
    let end : c.loop-k.k ≡ _ = le_antisymm c.loop-k.auto.k-end c.loop-k-test.false ∙ c.rules-k-end.ensures in
    record {
      loads = (subst (λ n. FirstRules (g.H.RuleHolder.held c.args.holder.now) n (g.E.RuleHolder.held c.loop-k.engine)) end c.loop-k.invariant.0, c.loop-k.invariant.1);
      sound = λ e. c.loop-k.invariant.2;
    }

pub returns-in-Err : goal.returns-in-Err
returns-in-Err g c =
    let rule = c.in_ok-rule.rule in
    let ts = c.as_slice.result.now in
    let h = g.H.RuleHolder.held c.args.holder.now in
    let h' = g.E.RuleHolder.held c.loop-k.engine in
    let k = c.loop-k.k in
    let lists : Lists rule.coefficients ts = subst (Lists rule.coefficients) (sym c.as_slice.ensures.value) c.terms_of-terms.ensures in
    let copied = c.in_ok-rule.ensures in
    let refused = subst (λ l. NotAdded l h' ts rule.degree c.in-Err.fault) g.met.E.Engine.limits c.in-Err.ensures.added.0 in
    record {
      loads = (
        (λ can. not_refused g.H.RuleHolder.limits h h' k rule ts c.loop-k.invariant.0 copied.0 (g.met.H.RuleHolder.room c.args.holder.now) (g.met.H.RuleHolder.fits c.args.holder.now k copied.0) copied.1 lists can c.in-Err.fault refused),
        stopped_rule h h' (g.E.RuleHolder.held c.add.new.self) k rule ts c.loop-k.invariant.0 copied.0 copied.1 lists c.in-Err.fault refused c.in-Err.ensures.added.1,
      );
      sound = λ e. absurd (let z : ◌≡◌ {A = ℕ} 0 1 = cc in omega arith);
    }
