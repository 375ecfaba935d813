-- Supports of a set of atoms from outside, as the code tests them.
use Rattle.std.specs.Prelude.{◌≡◌, ℕ, ◌<◌, ◌^◌, Bool, true, not, List, ◌∷◌, map, length, Contains}
use Rattle.std.specs.List.{AllByRecursion, filter, range_with_len}
use Rattle.literals.specs.declared.lit.Lit.TheVariants.{Atom}
use Rattle.literals.specs.declared.reason.Step.TheVariants.{Loop}
use Rattle.literals.specs.declared.reason.Reason.{Reason}
use Rattle.literals.specs.Nogoods.{canonical}
use Rattle.ground_model.specs.Answers.{IsNumbered}
use Rattle.linear_normal.specs.declared.numbered.Support.{Support}
use Rattle.completion.specs.Inputs.{all_false}
use Rattle.trail.specs.Assignment.{Assignment, is_true_on}
use Rattle.definite_rules.specs.Least.{flag_at}
use Rattle.unfounded_sets.specs.Dependence.{Dependence, is_outer}

-- the dependence that has these
abbrev pub of_parts : ℕ → List (List ℕ) → List Support → Dependence
of_parts atoms bodies supports = record { atoms = atoms; bodies = bodies; supports = supports }

-- each number is that of an atom or a body
pub record IsWhole (d : Dependence) : Type 0 where
  pub few : d.atoms < 2 ^ 32
  pub atoms : AllByRecursion (λ support. IsNumbered d.atoms support.atom) d.supports
  pub known : AllByRecursion (λ support. IsNumbered (length d.bodies) support.body) d.supports
  pub bodies : AllByRecursion (AllByRecursion (IsNumbered d.atoms)) d.bodies

-- the bodies of the supports of the set from outside
abbrev pub outer_bodies : List (List ℕ) → (ℕ → Bool) → List Support → List ℕ
outer_bodies bodies set supports = map (λ support. support.body) (filter (is_outer bodies set) supports)

-- the atom has no flag
abbrev pub is_left : List Bool → ℕ → Bool
is_left given a = not (flag_at given a)

-- the atoms up to this number that have no flag
abbrev pub left_of : List Bool → ℕ → List ℕ
left_of given atoms = filter (is_left given) (range_with_len 1 atoms)

-- the loop nogood of an atom, by these bodies, for a set
abbrev pub loop_reason : List ℕ → ℕ → List ℕ → Reason
loop_reason set atom bodies = record { nogood = canonical (Atom atom true ∷ all_false bodies); step = Loop set }

-- it is one of the set, and where one of them is true it is true
pub record IsNamed (t : Assignment) (set : List ℕ) (atom : ℕ) : Type 0 where
  pub member : Contains set atom
  pub conflict : (a : ℕ) → Contains set a → is_true_on t (Atom a true) ≡ true → is_true_on t (Atom atom true) ≡ true
