-- When a literal is true. A `Truths` is what literals see of a world.
use Rattle.std.specs.Prelude.{◌≡◌, ℕ, Bool, true, false, not, ℤ, int_le, List}
use Rattle.std.specs.List.{list_all}
use Rattle.literals.specs.declared.lit.Lit.{Lit}
use Rattle.literals.specs.declared.lit.Lit.TheVariants.{Atom, Body, Constraint, AtMost, AtLeast}

-- which atoms, bodies and constraints are true, and the value of each variable
pub record Truths : Type 0 where
  pub atom : ℕ → Bool
  pub body : ℕ → Bool
  pub constraint : ℕ → Bool
  pub value : ℕ → ℤ

-- the truth b, or its opposite where the sign is false
abbrev pub signed : Bool → Bool → Bool
signed true b = b
signed false b = not b

-- whether the literal is true there
abbrev pub lit_true : Truths → Lit → Bool
lit_true t (Atom n sign) = signed sign (t.atom n)
lit_true t (Body n sign) = signed sign (t.body n)
lit_true t (Constraint n sign) = signed sign (t.constraint n)
lit_true t (AtMost x k) = int_le (t.value x) k
lit_true t (AtLeast x k) = int_le k (t.value x)

-- whether each literal of the list is true there
abbrev pub all_true : Truths → List Lit → Bool
all_true t lits = list_all (lit_true t) lits

-- a world meets a nogood when some literal of it is false there
abbrev pub Meets : Truths → List Lit → Type 0
Meets t lits = all_true t lits ≡ false
