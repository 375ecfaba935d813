-- What is known, laid out for reading at once. Only the trail's own code reads this file.
use Rattle.std.specs.Prelude.{◌≡◌, ℕ, zero, suc, ◌+◌, ◌*◌, ◌<◌, Bool, true, false, cond, nat_lt, ℤ, pos, int_le, int_lt, List, [], ◌∷◌, length, get_or, set, Option, None, Some}
use Rattle.literals.specs.declared.lit.Lit.{Lit}
use Rattle.literals.specs.declared.lit.Lit.TheVariants.{Atom, Body, Constraint, AtMost, AtLeast}
use Rattle.literals.specs.declared.places.Counts.{Counts}
use Rattle.literals.specs.Lits.{complement_of}
use Rattle.literals.specs.Nogoods.{kind_of, index_of}
use Rattle.literals.specs.Places.{IsCounted, place_of, places_of}

-- for each place of a literal its truth, where it is no bound, and the place of the entry that gave it; two bounds for each variable, the upper first
pub record Layout : Type 0 where
  pub counts : Counts
  pub truths : List (Option Bool)
  pub bounds : List ℤ
  pub marks : List (Option ℕ)

-- where the literal stands among the truths and the marks
abbrev pub slot_of : Layout → Lit → ℕ
slot_of a l = place_of a.counts l

-- whether the literal is of an atom, a body or a constraint, and no bound
abbrev pub is_fact : Lit → Bool
is_fact l = nat_lt (kind_of l) 3

-- the bounds of the literal's variable are there, where it is a bound
abbrev pub HasBounds : Layout → Lit → Type 0
HasBounds a (Atom n sign) = Unit {0}
HasBounds a (Body n sign) = Unit {0}
HasBounds a (Constraint n sign) = Unit {0}
HasBounds a (AtMost x k) = 2 * x + 1 < length a.bounds
HasBounds a (AtLeast x k) = 2 * x + 1 < length a.bounds

-- the literal has its places
pub record HasPlace (a : Layout) (l : Lit) : Type 0 where
  pub counted : IsCounted a.counts l
  pub truths : length a.truths ≡ places_of a.counts
  pub marks : length a.marks ≡ places_of a.counts
  pub bounds : HasBounds a l

-- true where the first test holds, false where the second does
abbrev pub decided : Bool → Bool → Option Bool
decided holds fails = cond holds (Some true) (cond fails (Some false) None)

abbrev pub upper_in : Layout → ℕ → ℤ
upper_in a x = get_or a.bounds (2 * x) (pos 0)

abbrev pub lower_in : Layout → ℕ → ℤ
lower_in a x = get_or a.bounds (2 * x + 1) (pos 0)

-- how the literal stands
abbrev pub truth_in : Layout → Lit → Option Bool
truth_in a (Atom n sign) = get_or a.truths (slot_of a (Atom n sign)) None
truth_in a (Body n sign) = get_or a.truths (slot_of a (Body n sign)) None
truth_in a (Constraint n sign) = get_or a.truths (slot_of a (Constraint n sign)) None
truth_in a (AtMost x k) = decided (int_le (upper_in a x) k) (int_lt k (lower_in a x))
truth_in a (AtLeast x k) = decided (int_le k (lower_in a x)) (int_lt (upper_in a x) k)

-- the bound that the literal would replace
abbrev pub saved_in : Layout → Lit → ℤ
saved_in a (Atom n sign) = pos 0
saved_in a (Body n sign) = pos 0
saved_in a (Constraint n sign) = pos 0
saved_in a (AtMost x k) = upper_in a x
saved_in a (AtLeast x k) = lower_in a x

-- the entry that gave what the literal would replace
abbrev pub mark_in : Layout → Lit → Option ℕ
mark_in a l = get_or a.marks (slot_of a l) None

-- the truths with this one for the literal and that one for its opposite
abbrev pub with_truths : Layout → Lit → Option Bool → Option Bool → List (Option Bool)
with_truths a l known other = set (set a.truths (slot_of a l) known) (slot_of a (complement_of l)) other

-- what is written at the places of a literal: truths or a bound, and a mark
abbrev pub written : Layout → Lit → Option Bool → Option Bool → ℤ → Option ℕ → Layout
written a l known other bound mark = record a {
  truths = cond (is_fact l) (with_truths a l known other) a.truths;
  bounds = cond (is_fact l) a.bounds (set a.bounds (index_of l) bound);
  marks = set a.marks (slot_of a l) mark;
}

-- the bound that the literal is
abbrev pub bound_of : Lit → ℤ
bound_of (Atom n sign) = pos 0
bound_of (Body n sign) = pos 0
bound_of (Constraint n sign) = pos 0
bound_of (AtMost x k) = k
bound_of (AtLeast x k) = k

-- the literal made known by the entry at this place
abbrev pub applied : Layout → Lit → ℕ → Layout
applied a l at = written a l (Some true) (Some false) (bound_of l) (Some at)

-- the literal taken back, with the bound and the mark that it replaced
abbrev pub reverted : Layout → Lit → ℤ → Option ℕ → Layout
reverted a l saved mark = written a l None None saved mark

-- the upper and the lower end, as often as there are variables
abbrev pub end_pairs : ℕ → ℤ → ℤ → List ℤ
end_pairs zero least most = []
end_pairs (suc n) least most = most ∷ least ∷ end_pairs n least most
