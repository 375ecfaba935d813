-- What a propagator of a domain constraint stands for.
use Rattle.std.specs.Prelude.{ℕ, ◌==◌, Bool, true, false, not, ◌&&◌, ◌||◌, ℤ, List, [], ◌∷◌, Option, None, Some}
use Rattle.std.specs.List.{list_all}
use Rattle.literals.specs.declared.lit.Lit.TheVariants as l
use Rattle.literals.specs.declared.reason.Step.{Step}
use Rattle.literals.specs.declared.reason.Step.TheVariants.{Hole}
use Rattle.literals.specs.declared.reason.Reason.{Reason}
use Rattle.ground_model.specs.declared.int_set.IntSet.{IntSet}
use Rattle.ground_model.specs.Intervals.{lies_in}
use Rattle.linear_normal.specs.declared.constraint.Constraint.TheVariants as c
use Rattle.linear_normal.specs.Steps.{is_one_of, is_hole, none_between}
use Rattle.trail.specs.declared.shape.Shape.{Shape}
use Rattle.trail.specs.Assignment.{Assignment, is_true_on, truth_on, lower_on, upper_on}
use Rattle.trail_bounds.specs.OnTrail.{is_of}
use Rattle.propagator_core.specs.declared.touch.Touch.TheVariants.{Bounds, Truth}
use Rattle.propagator_core.specs.Meaning.{Meaning}

-- the step is that of the domain constraint of this number
abbrev pub is_hole_of : ℕ → Step → Bool
is_hole_of number (Hole n) = n == number
is_hole_of number step = false

-- the shape has the constraint and the variable
abbrev pub fits_domain : ℕ → ℕ → Shape → Bool
fits_domain number x shape = is_one_of shape.constraints number && is_one_of shape.variables x

-- the reason is such a step, its literals are of the shape, and they leave the variable no number of the set
abbrev pub valid_domain : ℕ → ℕ → IntSet → Shape → Reason → Bool
valid_domain number x set shape reason =
    list_all (is_of shape) reason.nogood && is_hole_of number reason.step
    && is_hole shape.ends reason.nogood number (Some (c.Domain x set))

-- where the constraint is true both bounds are in the set, and where it is open some number of the set lies within them
abbrev pub keeps_within : Option Bool → ℤ → ℤ → List (ℤ × ℤ) → Bool
keeps_within (Some true) low high intervals = lies_in intervals low && lies_in intervals high
keeps_within (Some false) low high intervals = true
keeps_within None low high intervals = not (none_between low high intervals)

-- the constraint isn't true, or the variable's lower bound is in the set
abbrev pub settled_domain : ℕ → ℕ → IntSet → Assignment → Bool
settled_domain number x set t = not (is_true_on t (l.Constraint number true)) || lies_in set.intervals (lower_on t x)

-- by its truth on the trail the constraint is consistent with the bounds there
abbrev pub rests_domain : ℕ → ℕ → IntSet → Assignment → Bool
rests_domain number x set t = keeps_within (truth_on t (l.Constraint number true)) (lower_on t x) (upper_on t x) set.intervals

-- the constraint of this number: the variable has one of the numbers of the set
abbrev pub domain_meaning : ℕ → ℕ → IntSet → Meaning
domain_meaning number x set = record {
  number = number;
  fits = fits_domain number x;
  valid = valid_domain number x set;
  counts = λ n. false;
  settled = settled_domain number x set;
  touches = Truth number ∷ Bounds x ∷ [];
  rests = rests_domain number x set;
}
