-- What a step of the plain engine comes to.
use Rattle.std.specs.Prelude.{◌≡◌, ℕ, ◌+◌, ◌^◌, ◌<◌, ◌≤◌, ◌⊎◌, List, length, Some, None, Option, ◌≢◌, refl}
use Rattle.std.specs.Option.{ForSome}
use Rattle.std.proofs.Common.{sym, ap, subst, ◌∙◌, inl, inr, arith}
use Rattle.rules.specs.Rule.{marked}
use Rattle.rules.specs.Terms.{only}
use Rattle.rules.specs.declared.Mark.{Mark}
use Rattle.rules.specs.declared.Mark.TheVariants.{Free, Zero, One}
use Rattle.rules.specs.declared.term.Literal.{Literal}
use Rattle.rules.specs.declared.term.Rule.{Rule as Row}
use Rattle.engine.specs.Questions.{posed, WithinPledge, GoodLiteral, Solution, Answered}
use Rattle.engine.specs.Held.{Every}
use Rattle.engine.specs.declared.answer.Answer.{Answer}
use Rattle.engine.specs.declared.answer.Answer.TheVariants.{Going, Yes, No}
use Rattle.store.specs.View.{held_in}
use Rattle.store.specs.Assumes.{assumed_in}
use Rattle.store.specs.declared.keep.Store.{Store}
use Rattle.store.specs.declared.assumed.Assumed.{Assumed}
use Rattle.store.proofs.Distinct.{only_free}
use Rattle.backtrack.specs.Walk.{Path, Exhausted, Dead, LastZero, NoZero, deeper, turned, left}
use Rattle.backtrack.specs.Clause.{refuted}
use Rattle.backtrack.proofs.Passing.{exhausted_start, exhausted_deeper, exhausted_turned, none_left, path_start, path_deeper, path_turned}
use Rattle.backtrack.proofs.Left.{left_deeper, left_turned, left_within}
use Rattle.backtrack.proofs.Ends.{dead_by_rule, dead_by_literal, solution_here, clause_refutes}
use Rattle.plain.specs.Marks.{ZeroFound}
use Rattle.plain.specs.Ready.{Ready, at_walk}
use Rattle.plain.specs.Steps.{BrokenNow, Deepened, Turned, Reaches, Searched, IsClause, After, question_of, asked_by}
use Rattle.plain.specs.declared.walk.Walk.{Walk}
use Rattle.plain.specs.declared.search.Search.{Search}
use Rattle.plain.specs.declared.search.Reached.TheVariants.{Solved, Ended}
use Rattle.plain.specs.declared.state.Plain.{Plain}

-- ---- questions
within_open : (s : Store) (o : Option Search) → ForSome o (λ x. x.walk.depth ≤ s.variables) → WithinPledge (2 ^ 81) (question_of s o)
within_open s None deep = tt
within_open s (Some x) deep = left_within s.variables (at_walk x.walk) x.walk.depth (deep x refl) s.few

pub within : (p : Plain) → WithinPledge (2 ^ 81) (asked_by p)
within p = within_open p.store p.asking p.deep

-- ---- a question that was just posed
pub ready_start : (s : Store) (a : Assumed) (w : Walk) (ls : List Literal) → Every (GoodLiteral s.variables ls) (length ls) → assumed_in a ≡ ls
    → ((i : ℕ) → at_walk w i ≡ Free) → w.depth ≡ 0 → Ready s a w
ready_start s a w ls good is free start = record {
  path = subst (Path s.variables (at_walk w)) (sym start) (path_start s.variables (at_walk w) free);
  beyond = λ v l. ap (λ xs. only xs v) is ∙ only_free ls v (λ j b e. omega (arith, (good j b).known));
  exhausted = subst (Exhausted (held_in s) (assumed_in a) (at_walk w)) (sym start) (exhausted_start (held_in s) (assumed_in a) (at_walk w));
}

-- a mark that is there and is not 0 is 1
other_is_one : (m : Mark) → (m ≢ Free) → (m ≢ Zero) → m ≡ One
other_is_one Free f z = absurd (f refl)
other_is_one Zero f z = absurd (z refl)
other_is_one One f z = refl

-- ---- steps
module _ (s : Store) (x : Search) (r : Ready s x.assumed x.walk) where
  dead : BrokenNow s x → Dead (held_in s) (assumed_in x.assumed) (at_walk x.walk)
  dead b = elim b [
    | inl l ↦ dead_by_literal (held_in s) (assumed_in x.assumed) (at_walk x.walk) l.variable l.opposes
    | inr k ↦ dead_by_rule (held_in s) (assumed_in x.assumed) (at_walk x.walk) k.rule k.there k.breaks
  ]

  last_zero : (t : ℕ) → ZeroFound (at_walk x.walk) x.walk.depth (Some t) → LastZero (at_walk x.walk) x.walk.depth t
  last_zero t found = record {
    below = found.0;
    zero = found.1;
    later = λ j l b. other_is_one (at_walk x.walk j) (r.path.marked j b) (found.2 j l b);
  }

  no_zero : ZeroFound (at_walk x.walk) x.walk.depth None → NoZero (at_walk x.walk) x.walk.depth
  no_zero found j b = other_is_one (at_walk x.walk j) (r.path.marked j b) (found j b)

  -- a walk that is ready and leaves fewer steps goes on with the question
  goes_on : (w : Walk) → Ready s x.assumed w → left s.variables (at_walk w) w.depth < left s.variables (at_walk x.walk) x.walk.depth
      → Answered (held_in s) (question_of s (Some x)) Going (posed (assumed_in x.assumed) (left s.variables (at_walk w) w.depth))
  goes_on w k f = record {
    assumed = assumed_in x.assumed;
    left = left s.variables (at_walk x.walk) x.walk.depth;
    was = refl;
    leaves = (left s.variables (at_walk w) w.depth, (left_within s.variables (at_walk w) w.depth k.path.deep s.few).0, f, refl);
    says = tt;
  }

  -- the last 0 is turned
  module _ (w : Walk) (t : ℕ) (broken : BrokenNow s x) (found : ZeroFound (at_walk x.walk) x.walk.depth (Some t))
      (is : (i : ℕ) → at_walk w i ≡ turned (at_walk x.walk) t i) (deep : w.depth ≡ t + 1) where
    pub ready_turned : Ready s x.assumed w
    ready_turned = record {
      path = subst (Path s.variables (at_walk w)) (sym deep) (path_turned s.variables (at_walk x.walk) (at_walk w) x.walk.depth t found.0 is r.path);
      beyond = r.beyond;
      exhausted = subst (Exhausted (held_in s) (assumed_in x.assumed) (at_walk w)) (sym deep)
          (exhausted_turned (held_in s) (assumed_in x.assumed) s.variables (at_walk x.walk) (at_walk w) x.walk.depth t r.path refl (last_zero t found) (dead broken) is r.exhausted);
    }

    fewer_turned : left s.variables (at_walk w) w.depth < left s.variables (at_walk x.walk) x.walk.depth
    fewer_turned =
        subst (λ d. left s.variables (at_walk w) d < left s.variables (at_walk x.walk) x.walk.depth) (sym deep)
        (left_turned s.variables (at_walk x.walk) (at_walk w) x.walk.depth t found.0 found.1 is)

    pub answered_turned : Answered (held_in s) (question_of s (Some x)) Going (posed (assumed_in x.assumed) (left s.variables (at_walk w) w.depth))
    answered_turned = goes_on w ready_turned fewer_turned

  -- the next variable gets 0
  module _ (w : Walk) (room : x.walk.depth < s.variables) (is : (i : ℕ) → at_walk w i ≡ deeper (at_walk x.walk) x.walk.depth i)
      (deep : w.depth ≡ x.walk.depth + 1) where
    pub ready_deeper : Ready s x.assumed w
    ready_deeper = record {
      path = subst (Path s.variables (at_walk w)) (sym deep) (path_deeper s.variables (at_walk x.walk) (at_walk w) x.walk.depth room is r.path);
      beyond = r.beyond;
      exhausted = subst (Exhausted (held_in s) (assumed_in x.assumed) (at_walk w)) (sym deep)
          (exhausted_deeper (held_in s) (assumed_in x.assumed) (at_walk x.walk) (at_walk w) x.walk.depth is r.exhausted);
    }

    fewer_deeper : left s.variables (at_walk w) w.depth < left s.variables (at_walk x.walk) x.walk.depth
    fewer_deeper =
        subst (λ d. left s.variables (at_walk w) d < left s.variables (at_walk x.walk) x.walk.depth) (sym deep)
        (omega (arith, left_deeper s.variables (at_walk x.walk) (at_walk w) x.walk.depth room is))

    pub answered_deeper : Answered (held_in s) (question_of s (Some x)) Going (posed (assumed_in x.assumed) (left s.variables (at_walk w) w.depth))
    answered_deeper = goes_on w ready_deeper fewer_deeper

  -- either way
  module _ (y : Search) where
    ready_moved : Deepened s x y ⊎ Turned s x y → Ready s x.assumed y.walk
    ready_moved = elim [
      | inl d ↦ ready_deeper y.walk d.room d.marks d.depth
      | inr t ↦ ready_turned y.walk t.at t.broken (t.within, t.was, t.last) t.marks t.depth
    ]

    fewer : Deepened s x y ⊎ Turned s x y → left s.variables (at_walk y.walk) y.walk.depth < left s.variables (at_walk x.walk) x.walk.depth
    fewer = elim [
      | inl d ↦ fewer_deeper y.walk d.room d.marks d.depth
      | inr t ↦ fewer_turned y.walk t.at t.broken (t.within, t.was, t.last) t.marks t.depth
    ]

  -- a search that goes on is as ready as it was
  pub ready_after : (y : Search) → Searched s x Going y → Ready s y.assumed y.walk
  ready_after y m = subst (λ a. Ready s a y.walk) (sym m.0) (ready_moved y m.1)

  -- each answer is true, and leaves fewer steps
  pub answered : (a : Answer) (y : Search) (o : Option Search) → Searched s x a y → After a y o → Answered (held_in s) (question_of s (Some x)) a (question_of s o)
  answered Going y o m is =
      subst (Answered (held_in s) (question_of s (Some x)) Going) (sym (ap (question_of s) is ∙ ap (λ a. posed (assumed_in a) (left s.variables (at_walk y.walk) y.walk.depth)) m.0))
      (goes_on y.walk (ready_moved y m.1) (fewer y m.1))
  answered (Yes ms) y o m is = record {
    assumed = assumed_in x.assumed;
    left = left s.variables (at_walk x.walk) x.walk.depth;
    was = refl;
    leaves = ap (question_of s) is;
    says = subst (λ v. Solution (held_in s) (assumed_in x.assumed) (marked v)) (sym m.2)
        (solution_here (held_in s) (assumed_in x.assumed) (at_walk x.walk) x.walk.depth r.path (omega (arith, r.path.deep, m.1)) r.beyond m.0.literals m.0.rules);
  }
  answered (No c) y o m is = record {
    assumed = assumed_in x.assumed;
    left = left s.variables (at_walk x.walk) x.walk.depth;
    was = refl;
    leaves = ap (question_of s) is;
    says =
        clause_refutes (held_in s) (assumed_in x.assumed) c (λ v. m.0.coefficients v ∙ ap refuted (x.assumed.agrees v)) m.0.degree r.beyond
        (none_left (held_in s) (assumed_in x.assumed) s.variables (at_walk x.walk) x.walk.depth r.path refl (no_zero m.2) (dead m.1) r.exhausted);
  }

-- where a search is solved its marks are the answer, and where it has ended its clause is
pub yes : (s : Store) (x y : Search) → Reaches s x Solved y → Searched s x (Yes y.walk.marks) y
yes s x y r = (r.0, r.1, ap (λ (z : Search). z.walk.marks) r.2)

pub no : (s : Store) (x y : Search) (c : Row) → Reaches s x Ended y → IsClause y c → Searched s x (No c) y
no s x y c r k = (subst (λ z. IsClause z c) r.2 k, r.0, r.1)
