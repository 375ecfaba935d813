-- What held nogoods force on a trail, and when they force nothing more.
use Rattle.std.specs.Prelude.{◌≡◌, ℕ, List, Some}
use Rattle.std.specs.List.{AllByRecursion}
use Rattle.literals.specs.declared.lit.Lit.{Lit}
use Rattle.literals.specs.Lits.{complement_of}
use Rattle.trail.specs.declared.shape.Shape.{Shape}
use Rattle.trail.specs.declared.entry.Entry.{Entry}
use Rattle.trail.specs.declared.entry.Why.TheVariants.{Held as ByHeld}
use Rattle.trail.specs.Assignment.{Assignment, Names}
use Rattle.trail.specs.Forced.{AllTrueOn, AllButOpen}
use Rattle.nogood_store.specs.Holding.{Held, nogood_under}
use Rattle.nogood_store.specs.declared.propagate.Unit.{Unit as Ended}
use Rattle.nogood_store.specs.declared.propagate.Unit.TheVariants.{Quiet, Conflict}

-- the nogood forces nothing: not all of its literals are true, nor all but one true and that one open
pub record IsQuiet (t : Assignment) (lits : List Lit) : Type 0 where
  pub not_met : AllTrueOn t lits → ⊥
  pub not_unit : (l : Lit) → AllButOpen t lits l → ⊥

-- the entry is the opposite of the one literal that is open in the held nogood that it names, whose others are true
pub record IsForced (held : List Held) (t : Assignment) (e : Entry) : Type 0 where
  pub id : ℕ
  pub nogood : List Lit
  pub lit : Lit
  pub why : e.why ≡ ByHeld id
  pub is_held : nogood_under held id ≡ Some nogood
  pub unit : AllButOpen t nogood lit
  pub opposite : e.lit ≡ complement_of lit

-- a nogood is held under the id, and all of its literals are true
pub record IsConflict (held : List Held) (t : Assignment) (id : ℕ) : Type 0 where
  pub nogood : List Lit
  pub is_held : nogood_under held id ≡ Some nogood
  pub all_true : AllTrueOn t nogood

-- what unit propagation answers
abbrev pub Answers : List Held → Assignment → Ended → Type 0
Answers held t Quiet = AllByRecursion (λ h. IsQuiet t h.nogood) held
Answers held t (Conflict id) = IsConflict held t id

-- every literal of a held nogood is of the shape
abbrev pub AllNamed : Shape → List Held → Type 0
AllNamed s held = AllByRecursion (λ h. AllByRecursion (Names s) h.nogood) held
