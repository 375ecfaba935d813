-- Nogoods: the order of their literals, the one list for a set of literals, and resolution.
use Rattle.std.specs.Prelude.{ℕ, ◌+◌, ◌*◌, Bool, not, cond, ◌&&◌, ◌||◌, ◌==◌, nat_lt, IsTrue, List, [], ◌∷◌, Option, None, Some}
use Rattle.std.specs.List.{fold, filter, find, list_any, All, AllByRecursion}
use Rattle.literals.specs.Lits.{IsLit, complement_of, implies_lit, same_lit}
use Rattle.literals.specs.declared.lit.Lit.{Lit}
use Rattle.literals.specs.declared.lit.Lit.TheVariants.{Atom, Body, Constraint, AtMost, AtLeast}

-- atoms stand first in a nogood, then bodies, then constraints, then bounds
abbrev pub kind_of : Lit → ℕ
kind_of (Atom n sign) = 0
kind_of (Body n sign) = 1
kind_of (Constraint n sign) = 2
kind_of (AtMost x k) = 3
kind_of (AtLeast x k) = 3

-- within a kind by number, the true one before the false one, an upper bound before a lower one
abbrev pub index_of : Lit → ℕ
index_of (Atom n sign) = 2 * n + cond sign 0 1
index_of (Body n sign) = 2 * n + cond sign 0 1
index_of (Constraint n sign) = 2 * n + cond sign 0 1
index_of (AtMost x k) = 2 * x
index_of (AtLeast x k) = 2 * x + 1

-- whether the first stands before the second
abbrev pub is_before : Lit → Lit → Bool
is_before a b = nat_lt (kind_of a) (kind_of b) || ((kind_of a == kind_of b) && nat_lt (index_of a) (index_of b))

-- whether the two are one literal, or bounds on one side of one variable
abbrev pub same_place : Lit → Lit → Bool
same_place a b = (kind_of a == kind_of b) && (index_of a == index_of b)

-- each stands before all that follow it: none is repeated, and a variable has at most one bound on each side
abbrev pub Rises : List Lit → Type 0
Rises [] = Unit {0}
Rises (l ∷ ls) = AllByRecursion (λ m. IsTrue (is_before l m)) ls × Rises ls

-- a sorted list of well formed literals
pub record IsNogood (lits : List Lit) : Type 0 where
  pub rises : Rises lits
  pub literals : All IsLit lits

-- the stronger of two bounds on one side of a variable
abbrev pub stronger : Lit → Lit → Lit
stronger a b = cond (implies_lit a b) a b

-- the sorted list with one more literal at its place
abbrev pub put_lit : List Lit → Lit → List Lit
put_lit [] l = l ∷ []
put_lit (x ∷ xs) l =
    cond (is_before x l) (x ∷ put_lit xs l) (cond (same_place x l) (stronger x l ∷ xs) (l ∷ x ∷ xs))

-- the sorted list joined with these literals
abbrev pub joined : List Lit → List Lit → List Lit
joined lits more = fold put_lit lits more

-- the one sorted list for these literals
abbrev pub canonical : List Lit → List Lit
canonical lits = joined [] lits

-- whether the literal is in the list
abbrev pub has_lit : List Lit → Lit → Bool
has_lit lits l = list_any (λ x. same_lit x l) lits

-- the list without this literal
abbrev pub without : List Lit → Lit → List Lit
without lits l = filter (λ x. not (same_lit x l)) lits

-- whether the opposite of the literal implies the pivot
abbrev pub answers : Lit → Lit → Bool
answers pivot q = implies_lit (complement_of q) pivot

-- the left list without the pivot joined with the right list without its answer to the pivot, where it has one
abbrev pub resolved : List Lit → Lit → List Lit → Option Lit → Option (List Lit)
resolved left pivot right None = None
resolved left pivot right (Some q) = Some (joined (without left pivot) (without right q))

-- the two resolved at the pivot: nothing where the left one lacks the pivot, or the right one an answer to it
abbrev pub resolvent : List Lit → Lit → List Lit → Option (List Lit)
resolvent left pivot right =
    cond (has_lit left pivot) (resolved left pivot right (find (answers pivot) right)) None

-- a nogood resolved at the pivot with another: nothing where one of them is missing
abbrev pub resolved_with : Option (List Lit) → Lit → Option (List Lit) → Option (List Lit)
resolved_with None pivot right = None
resolved_with (Some left) pivot None = None
resolved_with (Some left) pivot (Some right) = resolvent left pivot right

-- the last result of a chain of resolutions: the nogood so far, resolved at each link's pivot in turn with the nogood of the link
abbrev pub chain_by : {L : Type 0} → (L → Lit) → (L → Option (List Lit)) → Option (List Lit) → List L → Option (List Lit)
chain_by pivot nogood so_far links = fold (λ last link. resolved_with last (pivot link) (nogood link)) so_far links

-- the same where a link is a pivot and a name, under which the nogood stands
abbrev pub chain : {K : Type 0} → (K → Option (List Lit)) → Option (List Lit) → List (Lit × K) → Option (List Lit)
chain under so_far links = chain_by (λ link. link.0) (λ link. under link.1) so_far links

-- the literal of a list at the place of this one: the bound on the same side of the same variable, or the literal itself
abbrev pub standing : List Lit → Lit → Option Lit
standing lits l = find (λ x. same_place x l) lits
