-- The world that a trail gives, where all is decided on it.
use Rattle.std.specs.Prelude.{◌≡◌, ℕ, Bool, true, false, map, Some}
use Rattle.std.specs.List.{filter, range_with_len}
use Rattle.literals.specs.declared.lit.Lit.TheVariants as l
use Rattle.literals.specs.Truths.{Truths}
use Rattle.ground_model.specs.declared.answer.Answer.{Answer}
use Rattle.linear_normal.specs.declared.constraint.Constraint.{Constraint}
use Rattle.linear_normal.specs.declared.constraint.Constraint.TheVariants as c
use Rattle.linear_normal.specs.Truth.{constraint_truth}
use Rattle.trail.specs.Assignment.{Assignment, is_true_on, truth_on, lower_on}

-- what is true on the trail, and each variable's lower bound
abbrev pub truths_on : Assignment → Truths
truths_on t = record {
  atom = λ a. is_true_on t (l.Atom a true);
  body = λ b. is_true_on t (l.Body b true);
  constraint = λ n. is_true_on t (l.Constraint n true);
  value = λ x. lower_on t x;
}

-- its true atoms, and the lower bounds of its variables
abbrev pub answer_on : Assignment → Answer
answer_on t = record {
  atoms = filter (λ a. is_true_on t (l.Atom a true)) (range_with_len 1 t.shape.atoms);
  values = map (λ x. lower_on t x) (range_with_len 1 t.shape.variables);
}

-- the constraint is a sum, a domain, a distinct or a disjoint constraint: nogoods do not tell its truth
abbrev pub has_work : Constraint → Bool
has_work (c.AtMost items most) = true
has_work (c.Domain x set) = true
has_work (c.Distinct places) = true
has_work (c.Disjoint places) = true
has_work constraint = false

-- the trail says of the constraint what its values say: of a sum whether it holds, and of the others that they hold where it says so
abbrev pub IsSettledOn : Assignment → ℕ → Constraint → Type 0
IsSettledOn t n (c.AtMost items most) = truth_on t (l.Constraint n true) ≡ Some (constraint_truth (truths_on t) (c.AtMost items most))
IsSettledOn t n constraint = truth_on t (l.Constraint n true) ≡ Some true → constraint_truth (truths_on t) constraint ≡ true
