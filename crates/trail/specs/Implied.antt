-- What a list of literals, set one after another from the ends on, makes known.
use Rattle.std.specs.Prelude.{ℕ, ◌+◌, ◌||◌, Bool, true, false, cond, ℤ, int_le, List, [], ◌∷◌, Option, None, Some}
use Rattle.std.specs.List.{list_any}
use Rattle.symbols.specs.declared.ends.Ends.{Ends}
use Rattle.literals.specs.declared.lit.Lit.{Lit}
use Rattle.literals.specs.declared.lit.Lit.TheVariants.{Atom, Body, Constraint, AtMost, AtLeast}
use Rattle.literals.specs.Lits.{implies_lit, complement_of}
pub use Rattle.literals.specs.Bounds.{lower_after, upper_after, lower_of, upper_of}

-- whether the ends of the variables imply the literal
abbrev pub ends_imply : Ends → Lit → Bool
ends_imply ends (Atom n sign) = false
ends_imply ends (Body n sign) = false
ends_imply ends (Constraint n sign) = false
ends_imply ends (AtMost x k) = int_le ends.max k
ends_imply ends (AtLeast x k) = int_le k ends.min

-- a literal is implied where one of these implies it or the ends do
abbrev pub implied : Ends → List Lit → Lit → Bool
implied ends lits l = ends_imply ends l || list_any (λ m. implies_lit m l) lits

-- true where the literal is implied, false where its opposite is, and else open
abbrev pub truth_of : Ends → List Lit → Lit → Option Bool
truth_of ends lits l = cond (implied ends lits l) (Some true) (cond (implied ends lits (complement_of l)) (Some false) None)

-- the bound that the literal replaces, where these stand before it: none where it is no bound
abbrev pub bound_before : Ends → List Lit → Lit → Option ℤ
bound_before ends before (Atom n sign) = None
bound_before ends before (Body n sign) = None
bound_before ends before (Constraint n sign) = None
bound_before ends before (AtMost x k) = Some (upper_of ends before x)
bound_before ends before (AtLeast x k) = Some (lower_of ends before x)

-- the place of the first of these that implies the literal, where the list begins at this place
abbrev pub first_from : ℕ → List Lit → Lit → Option ℕ
first_from place [] l = None
first_from place (m ∷ ms) l = cond (implies_lit m l) (Some place) (first_from (place + 1) ms l)

-- the place of the literal by which this one became true: none where the ends imply it, or nothing does
abbrev pub since_of : Ends → List Lit → Lit → Option ℕ
since_of ends lits l = cond (ends_imply ends l) None (first_from 0 lits l)
