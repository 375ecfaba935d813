-- A collected theory atom as the table grows.
use Rattle.std.proofs.Common.{◌≡◌, false, List, [], ◌∷◌, map, Option, None, Some, refl}
use Rattle.std.specs.List.{AllByRecursion}
use Rattle.symbols.specs.Symbol.{Symbol}
use Rattle.symbols.specs.Table.{IsFront}
use Rattle.syntax_tree.specs.Outcome.{IsUndefined}
use Rattle.syntax_tree.proofs.Holding.{symbols-front, ids-front}
use Rattle.program_meaning.specs.declared.collected.CollectedPlace.{CollectedPlace}
use Rattle.program_meaning.specs.declared.collected.SymbolLinear.{SymbolLinear}
use Rattle.program_meaning.specs.Said.{linear_in, place_in}
use Rattle.collected_terms.specs.declared.collected_term.LinearForm.TheVariants as form
use Rattle.collected_terms.specs.Found.{IsKnownLinear}
use Rattle.collected_terms.proofs.Growing.{term_front, form_known}
use Rattle.collected_elements.specs.Judged.{IsKnownPlace}
use Rattle.collected_atoms.specs.declared.atom.CollectedGuard.{CollectedGuard}
use Rattle.collected_atoms.specs.Said.{guard_in, IsKnownRight}
use Rattle.growing_atoms.specs.Laws.{KnownLaw, SameLaw}

module _ (old new : List Symbol) (front : IsFront old new) where
  linear_front : (linear : SymbolLinear) → IsKnownLinear old linear → linear_in new linear ≡ linear_in old linear
  linear_front linear known =
      (term_front old new front (record { undefined = false; over = false; form = form.Small linear })
      (record { value = IsUndefined; undefined = false; over = false; not_linear = false; large = false; form = linear_in old linear })
      known (record { undefined = refl; over = refl; form = (refl, refl, refl) })).form.2

  place_front : (place : CollectedPlace) → IsKnownPlace old place → place_in new place ≡ place_in old place
  place_front place known =
      let linear = linear_front place.linear known.linear in
      let rest = symbols-front old new place.rest front known.rest in
      λ i. record { linear = linear i; duration = place.duration; rest = rest i }

  places_front : (places : List CollectedPlace) → AllByRecursion (IsKnownPlace old) places → map (place_in new) places ≡ map (place_in old) places
  places_front [] known = refl
  places_front (place ∷ places) known =
      let here = place_front place known.0 in
      let rest = places_front places known.1 in
      λ i. here i ∷ rest i

  places_known : (places : List CollectedPlace) → AllByRecursion (IsKnownPlace old) places → AllByRecursion (IsKnownPlace new) places
  places_known [] known = tt
  places_known (place ∷ places) known = (
    record { linear = form_known old new front (form.Small place.linear) known.0.linear; rest = ids-front old new place.rest front known.0.rest },
    places_known places known.1,
  )

  guard_front : (guard : Option CollectedGuard) → IsKnownRight old guard → guard_in new guard ≡ guard_in old guard
  guard_front None known = refl
  guard_front (Some guard) known = let right = linear_front guard.right known in λ i. Some (guard.rel, right i)

  guard_known : (guard : Option CollectedGuard) → IsKnownRight old guard → IsKnownRight new guard
  guard_known None known = tt
  guard_known (Some guard) known = form_known old new front (form.Small guard.right) known

pub known_law : KnownLaw
known_law old new atom front known = record { places = places_known old new front atom.places known.places; guard = guard_known old new front atom.guard known.guard }

pub same_law : SameLaw
same_law old new atom front known = (places_front old new front atom.places known.places, guard_front old new front atom.guard known.guard)
