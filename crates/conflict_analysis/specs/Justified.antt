-- When each entry of a trail has a reason.
use Rattle.std.specs.Prelude.{◌≡◌, ◌<◌, List, [], ◌∷◌, ◌++◌, Some}
use Rattle.std.specs.List.{AllByRecursion}
use Rattle.literals.specs.declared.lit.Lit.{Lit}
use Rattle.trail.specs.declared.shape.Shape.{Shape}
use Rattle.trail.specs.declared.entry.Entry.{Entry}
use Rattle.trail.specs.declared.entry.Why.{Why}
use Rattle.trail.specs.declared.entry.Why.TheVariants.{Decision, Held as ByHeld, Shown as ByShown}
use Rattle.trail.specs.Assignment.{Assignment, Names}
use Rattle.trail.specs.Forced.{Forces}
use Rattle.nogood_store.specs.Holding.{Held, nogood_under}

-- the trail of the shape with these entries: its level and its order literals are those of a new one, and no truth on it depends on them
abbrev pub trail_of : Shape → List Entry → Assignment
trail_of s entries = record {
  shape = s;
  level = 0;
  orders = record { variables = s.variables; made = [] };
  entries = entries;
}

-- the nogood is of the shape, and forces the literal on the trail of these entries
pub record IsReasonFor (s : Shape) (before : List Entry) (l : Lit) (nogood : List Lit) : Type 0 where
  pub named : AllByRecursion (Names s) nogood
  pub forces : Forces (trail_of s before) nogood l

-- why the entry stands after these: a decision is the first of a level above 0, any other has a reason
abbrev pub Stands : Shape → List Held → List Entry → Entry → Why → Type 0
Stands s held before e Decision = (0 < e.level) × AllByRecursion (λ d. d.level < e.level) before
Stands s held before e (ByHeld id) = (n : List Lit) × (nogood_under held id ≡ Some n) × IsReasonFor s before e.lit n
Stands s held before e (ByShown r) = IsReasonFor s before e.lit r.nogood

-- each of these stands after those before it, the first after these
abbrev pub EachStands : Shape → List Held → List Entry → List Entry → Type 0
EachStands s held before [] = Unit {0}
EachStands s held before (e ∷ es) = Stands s held before e e.why × EachStands s held (before ++ e ∷ []) es

-- every entry of the trail is a decision in its place or has a reason
abbrev pub IsJustified : List Held → Assignment → Type 0
IsJustified held t = EachStands t.shape held [] t.entries
