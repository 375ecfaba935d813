-- Literals of a reason but one.
use Rattle.std.specs.Prelude.{◌≡◌, ◌⊎◌, true}
use Rattle.literals.specs.declared.lit.Lit.{Lit}
use Rattle.trail.specs.Assignment.{Assignment, is_true_on}

-- the literal is this one, or it is true on the trail
abbrev pub IsOrTrue : Assignment → Lit → Lit → Type 0
IsOrTrue t instead l = (l ≡ instead) ⊎ (is_true_on t l ≡ true)
