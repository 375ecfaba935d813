-- Where literals stand in one flat table.
use Rattle.std.proofs.Common.{◌≡◌, ◌<◌, ◌==◌, arith}
use Rattle.std.proofs.lemmas.Bool.Decides.{nat_tests}
use Rattle.literals.specs.declared.lit.Lit.{Lit}
use Rattle.literals.specs.declared.lit.Lit.TheVariants.{Atom, Body, Constraint, AtMost, AtLeast}
use Rattle.literals.specs.declared.places.Counts.{Counts}
use Rattle.literals.specs.Nogoods.{same_place}
use Rattle.literals.specs.Places.{IsCounted, place_of, places_of}

-- two literals have one place exactly where they have one place in a nogood
pub places_same : (c : Counts) (m l : Lit) → IsCounted c m → IsCounted c l → (place_of c m == place_of c l) ≡ same_place m l
places_same c (Atom n t) (Atom p r) i j = grind (arith, nat_tests)
places_same c (Atom n t) (Body p r) i j = grind (arith, nat_tests)
places_same c (Atom n t) (Constraint p r) i j = grind (arith, nat_tests)
places_same c (Atom n t) (AtMost p r) i j = grind (arith, nat_tests)
places_same c (Atom n t) (AtLeast p r) i j = grind (arith, nat_tests)
places_same c (Body n t) (Atom p r) i j = grind (arith, nat_tests)
places_same c (Body n t) (Body p r) i j = grind (arith, nat_tests)
places_same c (Body n t) (Constraint p r) i j = grind (arith, nat_tests)
places_same c (Body n t) (AtMost p r) i j = grind (arith, nat_tests)
places_same c (Body n t) (AtLeast p r) i j = grind (arith, nat_tests)
places_same c (Constraint n t) (Atom p r) i j = grind (arith, nat_tests)
places_same c (Constraint n t) (Body p r) i j = grind (arith, nat_tests)
places_same c (Constraint n t) (Constraint p r) i j = grind (arith, nat_tests)
places_same c (Constraint n t) (AtMost p r) i j = grind (arith, nat_tests)
places_same c (Constraint n t) (AtLeast p r) i j = grind (arith, nat_tests)
places_same c (AtMost n t) (Atom p r) i j = grind (arith, nat_tests)
places_same c (AtMost n t) (Body p r) i j = grind (arith, nat_tests)
places_same c (AtMost n t) (Constraint p r) i j = grind (arith, nat_tests)
places_same c (AtMost n t) (AtMost p r) i j = grind (arith, nat_tests)
places_same c (AtMost n t) (AtLeast p r) i j = grind (arith, nat_tests)
places_same c (AtLeast n t) (Atom p r) i j = grind (arith, nat_tests)
places_same c (AtLeast n t) (Body p r) i j = grind (arith, nat_tests)
places_same c (AtLeast n t) (Constraint p r) i j = grind (arith, nat_tests)
places_same c (AtLeast n t) (AtMost p r) i j = grind (arith, nat_tests)
places_same c (AtLeast n t) (AtLeast p r) i j = grind (arith, nat_tests)

pub place_within : (c : Counts) (l : Lit) → IsCounted c l → place_of c l < places_of c
place_within c (Atom n t) i = grind (arith, nat_tests)
place_within c (Body n t) i = grind (arith, nat_tests)
place_within c (Constraint n t) i = grind (arith, nat_tests)
place_within c (AtMost n t) i = grind (arith, nat_tests)
place_within c (AtLeast n t) i = grind (arith, nat_tests)
