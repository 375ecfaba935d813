-- Chains of resolutions.
use Rattle.std.specs.Prelude.{◌≡◌, true, false, ◌⊎◌, List, [], ◌∷◌, Option, None, Some}
use Rattle.std.specs.List.{AllByRecursion, Contains}
use Rattle.literals.specs.declared.lit.Lit.{Lit}
use Rattle.literals.specs.declared.reason.Step.TheVariants.{Hole}
use Rattle.literals.specs.declared.reason.Reason.{Reason}
use Rattle.literals.specs.Lits.{complement_of, same_lit}
use Rattle.literals.specs.Nogoods.{resolved_with, chain_by}
use Rattle.trail.specs.declared.entry.Entry.{Entry}
use Rattle.trail.specs.declared.entry.Why.TheVariants.{Shown as ByShown}
use Rattle.trail.specs.Implied.{ends_imply}
use Rattle.trail.specs.Assignment.{Assignment, Names}
use Rattle.trail.specs.Forced.{AllTrueOn}
use Rattle.nogood_store.specs.Holding.{Held, nogood_under}
use Rattle.conflict_analysis.specs.declared.learned.Start.{Start}
use Rattle.conflict_analysis.specs.declared.learned.Start.TheVariants.{Held as FromHeld, Shown as FromShown}
use Rattle.conflict_analysis.specs.declared.learned.Link.{Link}

-- the nogood that is held under the id, or that the reason shows
abbrev pub nogood_of : List Held → Start → Option (List Lit)
nogood_of held (FromHeld id) = nogood_under held id
nogood_of held (FromShown r) = Some r.nogood

abbrev pub resolved_at : List Lit → Lit → Option (List Lit) → Option (List Lit)
resolved_at left pivot right = resolved_with (Some left) pivot right

-- the nogood so far resolved with that of the link, at its pivot
abbrev pub linked : List Held → Option (List Lit) → Link → Option (List Lit)
linked held so_far k = resolved_with so_far k.pivot (nogood_of held k.used)

-- what the chain gives from the start on
abbrev pub replayed : List Held → Start → List Link → Option (List Lit)
replayed held first links = chain_by (λ (k : Link). k.pivot) (λ (k : Link). nogood_of held k.used) (nogood_of held first) links

-- the reason is the shown one of an entry
abbrev pub IsShown : Assignment → Reason → Type 0
IsShown t r = (e : Entry) × Contains t.entries e × (e.why ≡ ByShown r)

-- the reason is that the ends leave no number for its one literal, a bound on a variable of the shape, so that its opposite is true by the ends
pub record IsHole (t : Assignment) (r : Reason) : Type 0 where
  pub lit : Lit
  pub named : Names t.shape lit
  pub step : r.step ≡ Hole 0
  pub nogood : r.nogood ≡ lit ∷ []
  pub by_ends : ends_imply t.shape.ends (complement_of lit) ≡ true

-- what may be resolved with: a held nogood, the shown reason of an entry, or a hole
abbrev pub IsUsable : List Held → Assignment → Start → Type 0
IsUsable held t (FromHeld id) = (n : List Lit) × (nogood_under held id ≡ Some n)
IsUsable held t (FromShown r) = IsShown t r ⊎ IsHole t r

-- no pivot is that of a later link
abbrev pub PivotsDiffer : List Link → Type 0
PivotsDiffer [] = Unit {0}
PivotsDiffer (k ∷ ks) = AllByRecursion (λ j. same_lit k.pivot j.pivot ≡ false) ks × PivotsDiffer ks

-- the start has literals of the shape, and all of them are true
abbrev pub IsConflicting : List Held → Assignment → Start → Type 0
IsConflicting held t start = (n : List Lit) × (nogood_of held start ≡ Some n) × AllByRecursion (Names t.shape) n × AllTrueOn t n
