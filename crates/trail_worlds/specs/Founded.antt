-- Unfounded sets on a trail (van Gelder, Ross, Schlipf; Gebser, Kaufmann, Schaub).
use Rattle.std.specs.Prelude.{◌≡◌, ℕ, true, false, List, ◌∷◌}
use Rattle.std.specs.List.{AllByRecursion}
use Rattle.literals.specs.declared.lit.Lit.TheVariants.{Atom, Body}
use Rattle.ground_model.specs.Answers.{IsNumbered}
use Rattle.linear_normal.specs.declared.numbered.Numbered.{Numbered}
use Rattle.linear_normal.specs.Steps.{is_external}
use Rattle.trail.specs.Assignment.{Assignment, is_true_on}

-- each body that supports an atom of the set from outside is false on the trail
abbrev pub IsUnfounded : Numbered → Assignment → List ℕ → Type 0
IsUnfounded numbered t set =
    AllByRecursion (λ support. is_external numbered set support ≡ true → is_true_on t (Body support.body false) ≡ true) numbered.supports

-- they are atoms of the trail, and none of them is false
abbrev pub AreOpenOrTrue : Assignment → List ℕ → Type 0
AreOpenOrTrue t set = AllByRecursion (λ a. IsNumbered t.shape.atoms a × (is_true_on t (Atom a false) ≡ false)) set

-- no set of atoms that are not false is unfounded, but the empty one
abbrev pub IsFounded : Numbered → Assignment → Type 0
IsFounded numbered t = (a : ℕ) (rest : List ℕ) → AreOpenOrTrue t (a ∷ rest) → IsUnfounded numbered t (a ∷ rest) → ⊥
