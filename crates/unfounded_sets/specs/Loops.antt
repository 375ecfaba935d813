-- What the search for unfounded sets answers (van Gelder, Ross, Schlipf; Gebser, Kaufmann, Schaub).
use Rattle.std.specs.Prelude.{◌≡◌, ℕ, Bool, true, false, not, ◌&&◌, ◌||◌, IsTrue, ℤ, List, length, Contains, Option, Some, slice_get}
use Rattle.std.specs.List.{list_all, list_any}
use Rattle.literals.specs.declared.lit.Lit.{Lit}
use Rattle.literals.specs.declared.lit.Lit.TheVariants.{Atom, Body}
use Rattle.literals.specs.declared.reason.Step.{Step}
use Rattle.literals.specs.declared.reason.Step.TheVariants.{Loop}
use Rattle.literals.specs.declared.reason.Reason.{Reason}
use Rattle.literals.specs.Nogoods.{has_lit}
use Rattle.ground_model.specs.declared.program.GroundProgram.{GroundProgram}
use Rattle.ground_model.specs.Answers.{IsNumbered}
use Rattle.linear_normal.specs.declared.numbered.Support.{Support}
use Rattle.linear_normal.specs.Numbering.{numbering}
use Rattle.linear_normal.specs.Steps.{is_one_of, is_among, is_valid}
use Rattle.trail.specs.Assignment.{Assignment, is_true_on}
use Rattle.trail.specs.Forced.{OthersTrueOn}
use Rattle.propagator_core.specs.Shown.{IsSpelled}
use Rattle.trail_worlds.specs.Founded.{IsUnfounded, AreOpenOrTrue, IsFounded}
use Rattle.unfounded_sets.specs.Dependence.{Dependence, is_outer, dependence_of}

-- in a program with this dependence no set of atoms that are not false is unfounded, but the empty one
abbrev pub IsLoopFree : Dependence → Assignment → Type 0
IsLoopFree d t = (program : GroundProgram) → d ≡ dependence_of program → IsFounded (numbering program) t

-- the step is valid in each program with this dependence, whatever the last cost
abbrev pub IsValidLoop : Dependence → Reason → Type 0
IsValidLoop d r =
    (program : GroundProgram) → d ≡ dependence_of program → (cost : Option ℤ) → is_valid program (numbering program) cost r.nogood r.step ≡ true

-- the literal is about an atom or a body
abbrev pub is_known : Dependence → Lit → Bool
is_known d (Atom a sign) = is_one_of d.atoms a
is_known d (Body b sign) = is_one_of (length d.bodies) b
is_known d lit = false

-- an atom of the set is listed true, and each body that supports one from outside is listed false
abbrev pub is_cut_off : Dependence → List Lit → Step → Bool
is_cut_off d lits (Loop set) =
    list_all (is_one_of d.atoms) set && list_any (λ a. has_lit lits (Atom a true)) set
    && list_all (λ support. not (is_outer d.bodies (is_among set) support) || has_lit lits (Body support.body false)) d.supports
is_cut_off d lits step = false

-- the reason is by a loop: what its validity is for programs, by the dependence alone
abbrev pub shows_loop : Dependence → Reason → Bool
shows_loop d r = list_all (is_known d) r.nogood && is_cut_off d r.nogood r.step

-- a set of atoms that are not false is unfounded, and the reason is the loop nogood of one of them, whose other literals are true; where one of them is true, so is this one
pub record IsLoop (d : Dependence) (t : Assignment) (r : Reason) : Type 0 where
  pub set : List ℕ
  pub atom : ℕ
  pub step : r.step ≡ Loop set
  pub member : Contains set atom
  pub open_or_true : AreOpenOrTrue t set
  pub unfounded : (program : GroundProgram) → d ≡ dependence_of program → IsUnfounded (numbering program) t set
  pub valid : IsValidLoop d r
  pub shown : IsTrue (shows_loop d r)
  pub spelled : IsSpelled t.shape r
  pub first : slice_get r.nogood 0 ≡ Some (Atom atom true)
  pub others : OthersTrueOn t r.nogood (Atom atom true)
  pub conflict : (a : ℕ) → Contains set a → is_true_on t (Atom a true) ≡ true → is_true_on t (Atom atom true) ≡ true

-- each atom that is not false has a support whose body is not false
abbrev pub AreSupported : Dependence → Assignment → Type 0
AreSupported d t =
    (a : ℕ) → IsNumbered d.atoms a → is_true_on t (Atom a false) ≡ false
    → (support : Support) × Contains d.supports support × (support.atom ≡ a) × (is_true_on t (Body support.body false) ≡ false)
