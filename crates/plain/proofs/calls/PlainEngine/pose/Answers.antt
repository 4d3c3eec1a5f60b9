use Rattle.std.proofs.Common.{refl, ap, ◌∙◌, arith}
use Rattle.engine.specs.Questions.{posed}
use Rattle.store.specs.Assumes.{assumed_in}
use Rattle.backtrack.specs.Walk.{left}
use Rattle.backtrack.proofs.Left.{left_within}
use Rattle.plain.specs.Ready.{at_walk}
use Rattle.plain.specs.Keeping.{fields_open}
use Rattle.plain.specs.Stepping.{ready_start}
use Rattle.plain.proofs.calls.PlainEngine.pose.Goals as goal

pub invariant_of-self : goal.invariant_of-self
invariant_of-self c =
    let s = c.args.self.now.store in
    let x = c.start.result in
    fields_open s x (ready_start s x.assumed x.walk c.args.assumed.now c.in_ok-assumed.ensures.0 (ap assumed_in c.start.ensures.assumed ∙ c.in_ok-assumed.ensures.1) c.start.ensures.free c.start.ensures.depth)

pub returns-clause-posed : goal.returns-clause-posed
returns-clause-posed c =
    let s = c.args.self.now.store in
    let w = c.start.result.walk in
    let steps = left s.variables (at_walk w) w.depth in
    let within = left_within s.variables (at_walk w) w.depth (omega (arith, c.start.ensures.depth)) s.few in
    (c.in_ok-assumed.ensures.0, refl, record { left = steps; some = within.0; most = within.1; is = ap (λ ls. posed ls steps) (ap assumed_in c.start.ensures.assumed ∙ c.in_ok-assumed.ensures.1) })
