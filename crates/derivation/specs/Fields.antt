-- The fields of a line: what stands between its blanks.
use Rattle.std.specs.Prelude.{ℕ, Bool, true, false, List, [], ◌∷◌, ◌++◌, map, ℤ, codes, decimal}
use Rattle.std.specs.Fmt.{signed_decimal}
use Rattle.literals.specs.declared.lit.Lit.{Lit}
use Rattle.literals.specs.declared.lit.Lit.TheVariants.{Atom, Body, Constraint, AtMost, AtLeast}

-- what stands before the letter of an atom, a body or a constraint: nothing where it is true, `~` where it is false
abbrev pub sign_text : Bool → List ℕ
sign_text true = []
sign_text false = codes "~"

-- `a3` and `~a3` for atoms, `b3` and `~b3` for bodies, `c3` and `~c3` for constraints, `v3<=7` and `v3>=8` for bounds
abbrev pub lit_field : Lit → List ℕ
lit_field (Atom n sign) = sign_text sign ++ (codes "a" ++ decimal n)
lit_field (Body n sign) = sign_text sign ++ (codes "b" ++ decimal n)
lit_field (Constraint n sign) = sign_text sign ++ (codes "c" ++ decimal n)
lit_field (AtMost x k) = codes "v" ++ (decimal x ++ (codes "<=" ++ signed_decimal k))
lit_field (AtLeast x k) = codes "v" ++ (decimal x ++ (codes ">=" ++ signed_decimal k))

-- an atom that is true in an answer
abbrev pub atom_field : ℕ → List ℕ
atom_field n = codes "a" ++ decimal n

-- a variable with its value in an answer
abbrev pub value_field : ℕ × ℤ → List ℕ
value_field (x, k) = codes "v" ++ (decimal x ++ (codes "=" ++ signed_decimal k))

-- the fields of pivots, each with the id of a nogood behind it
abbrev pub pivot_fields : List (Lit × ℕ) → List (List ℕ)
pivot_fields [] = []
pivot_fields ((l, id) ∷ pivots) = lit_field l ∷ decimal id ∷ pivot_fields pivots

-- the fields of a list of literals, which stands at the end of a line
abbrev pub lits_fields : List Lit → List (List ℕ)
lits_fields lits = codes "=" ∷ map lit_field lits

-- the fields of an answer: its atoms, then its values
abbrev pub answer_fields : List ℕ → List (ℕ × ℤ) → List (List ℕ)
answer_fields atoms values = map atom_field atoms ++ map value_field values

-- fields, a blank before each
abbrev pub behind : List (List ℕ) → List ℕ
behind [] = []
behind (field ∷ fields) = 32 ∷ (field ++ behind fields)
