-- Where the marks of literals stand.
use Rattle.std.proofs.Common.{◌≡◌, ◌<◌, ◌==◌, length, sym, subst}
use Rattle.literals.specs.declared.lit.Lit.{Lit}
use Rattle.literals.specs.declared.places.Counts.{Counts}
use Rattle.literals.specs.Nogoods.{same_place}
use Rattle.literals.specs.Places.{IsCounted}
use Rattle.literals.proofs.PlaceLaws as laws
use Rattle.trail.specs.declared.shape.Shape.{Shape}
use Rattle.trail.specs.Assignment.{IsOf}
use Rattle.trail.proofs.ShapeLaws.{of_counted}
use Rattle.conflict_analysis.specs.Marked.{Board, Fits, HasPlace, place_of}

counted : (s : Shape) (b : Board) (l : Lit) → Fits s b → IsOf s l → IsCounted b.counts l
counted s b l f i = subst (λ (c : Counts). IsCounted c l) (sym f.counts) (of_counted s l i)

-- the marks of two literals stand at one place exactly where the literals have one place in a nogood
pub places_same : (s : Shape) (b : Board) (m l : Lit) → Fits s b → IsOf s m → IsOf s l → (place_of b m == place_of b l) ≡ same_place m l
places_same s b m l f i j = laws.places_same b.counts m l (counted s b m f i) (counted s b l f j)

pub has_place : (s : Shape) (b : Board) (l : Lit) → Fits s b → IsOf s l → place_of b l < length b.marks
has_place s b l f i = subst (λ n. place_of b l < n) (sym f.size) (laws.place_within b.counts l (counted s b l f i))

pub is_placed : (s : Shape) (b : Board) (l : Lit) → Fits s b → IsOf s l → HasPlace b l
is_placed s b l f i = (counted s b l f i, has_place s b l f i)
