-- What the plain engine keeps while a question is open, and what its steps do.
use Rattle.std.specs.Prelude.{◌≡◌, ℕ, ◌≤◌}
use Rattle.rules.specs.Rule.{marked}
use Rattle.rules.specs.Terms.{only}
use Rattle.rules.specs.declared.Mark.{Mark}
use Rattle.rules.specs.declared.Mark.TheVariants.{Free}
use Rattle.store.specs.View.{held_in}
use Rattle.store.specs.Assumes.{assumed_in}
use Rattle.store.specs.declared.keep.Store.{Store}
use Rattle.store.specs.declared.assumed.Assumed.{Assumed}
use Rattle.backtrack.specs.Walk.{Path, Exhausted}
use Rattle.plain.specs.declared.walk.Walk.{Walk}

-- the marks of a walk
abbrev pub at_walk : Walk → ℕ → Mark
at_walk w = marked w.marks

-- the first variables are marked, only variables that are there are assumed, and no solution was passed
pub record Ready (s : Store) (a : Assumed) (w : Walk) : Type 0 where
  pub path : Path s.variables (at_walk w) w.depth
  pub beyond : (v : ℕ) → s.variables ≤ v → only (assumed_in a) v ≡ Free
  pub exhausted : Exhausted (held_in s) (assumed_in a) (at_walk w) w.depth
