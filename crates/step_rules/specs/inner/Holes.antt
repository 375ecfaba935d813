-- Variables without a number, sought among those that literals name. Only the code of this crate reads this file.
use Rattle.std.specs.Prelude.{ℕ, Bool, false, ◌&&◌, int_lt, List}
use Rattle.symbols.specs.declared.ends.Ends.{Ends}
use Rattle.literals.specs.declared.lit.Lit.{Lit}
use Rattle.literals.specs.declared.lit.Lit.TheVariants.{AtMost, AtLeast}
use Rattle.linear_normal.specs.Bounds.{bounds_named}
use Rattle.linear_normal.specs.Steps.{is_one_of}

-- the bounds leave the variable no number
abbrev pub has_none : Ends → List Lit → ℕ → Bool
has_none ends lits x = int_lt ((bounds_named ends lits).high x) ((bounds_named ends lits).low x)

-- the literal bounds one of so many variables, and they leave it no number
abbrev pub leaves_none : Ends → List Lit → ℕ → Lit → Bool
leaves_none ends lits variables (AtMost x k) = is_one_of variables x && has_none ends lits x
leaves_none ends lits variables (AtLeast x k) = is_one_of variables x && has_none ends lits x
leaves_none ends lits variables lit = false
