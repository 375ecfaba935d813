-- The bounds that a list of literals names, be it a line's or a trail's.
use Rattle.std.specs.Prelude.{ℕ, ◌==◌, cond, ℤ, List}
use Rattle.std.specs.List.{fold}
use Rattle.std.specs.Int.{int_max, int_min}
use Rattle.symbols.specs.declared.ends.Ends.{Ends}
use Rattle.literals.specs.declared.lit.Lit.{Lit}
use Rattle.literals.specs.declared.lit.Lit.TheVariants.{Atom, Body, Constraint, AtMost, AtLeast}

-- the lower bound of x after one more literal
abbrev pub lower_after : ℕ → ℤ → Lit → ℤ
lower_after x bound (Atom n sign) = bound
lower_after x bound (Body n sign) = bound
lower_after x bound (Constraint n sign) = bound
lower_after x bound (AtMost y k) = bound
lower_after x bound (AtLeast y k) = cond (y == x) (int_max bound k) bound

-- the upper bound of x after one more literal
abbrev pub upper_after : ℕ → ℤ → Lit → ℤ
upper_after x bound (Atom n sign) = bound
upper_after x bound (Body n sign) = bound
upper_after x bound (Constraint n sign) = bound
upper_after x bound (AtMost y k) = cond (y == x) (int_min bound k) bound
upper_after x bound (AtLeast y k) = bound

-- the greatest of the least end and of the lower bounds of x among these
abbrev pub lower_of : Ends → List Lit → ℕ → ℤ
lower_of ends lits x = fold (lower_after x) ends.min lits

-- the least of the greatest end and of the upper bounds of x among these
abbrev pub upper_of : Ends → List Lit → ℕ → ℤ
upper_of ends lits x = fold (upper_after x) ends.max lits
