-- Reasons that a line can tell, entries that valid reasons show, and conflicts.
use Rattle.std.specs.Prelude.{◌≡◌, Bool, IsTrue}
use Rattle.std.specs.List.{AllByRecursion}
use Rattle.literals.specs.declared.reason.Reason.{Reason}
use Rattle.literals.specs.Nogoods.{Rises}
use Rattle.literals.specs.Steps.{IsStep}
use Rattle.trail.specs.declared.shape.Shape.{Shape}
use Rattle.trail.specs.declared.entry.Entry.{Entry}
use Rattle.trail.specs.declared.entry.Why.TheVariants.{Shown}
use Rattle.trail.specs.Assignment.{Assignment, Names}
use Rattle.trail.specs.Forced.{AllTrueOn, Forces}

-- the nogood is sorted and over the shape, and a line can tell the step
pub record IsSpelled (s : Shape) (r : Reason) : Type 0 where
  pub rises : Rises r.nogood
  pub named : AllByRecursion (Names s) r.nogood
  pub step : IsStep r.step

-- the entry has a valid reason that a line can tell, and that forces its literal on the trail before it
pub record IsShown (valid : Shape → Reason → Bool) (t : Assignment) (e : Entry) : Type 0 where
  pub reason : Reason
  pub why : e.why ≡ Shown reason
  pub is_valid : IsTrue (valid t.shape reason)
  pub spelled : IsSpelled t.shape reason
  pub forces : Forces t reason.nogood e.lit

-- the reason is valid, a line can tell it, and all of its literals are true on the trail
pub record IsConflict (valid : Shape → Reason → Bool) (t : Assignment) (r : Reason) : Type 0 where
  pub is_valid : IsTrue (valid t.shape r)
  pub spelled : IsSpelled t.shape r
  pub all_true : AllTrueOn t r.nogood
