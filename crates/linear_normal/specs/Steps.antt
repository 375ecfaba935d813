-- By which rule a list of literals is a valid nogood.
use Rattle.std.specs.Prelude.{ℕ, zero, ◌==◌, nat_le, Bool, true, false, not, ◌&&◌, ◌||◌, ℤ, pos, ◌+ℤ◌, ◌-ℤ◌, int_le, int_lt, List, [], ◌∷◌, length, Option, None, Some}
use Rattle.std.specs.List.{list_all, list_any, filter, range_with_len}
use Rattle.symbols.specs.declared.ends.Ends.{Ends}
use Rattle.literals.specs.declared.lit.Lit.{Lit}
use Rattle.literals.specs.declared.lit.Lit.TheVariants as l
use Rattle.literals.specs.declared.reason.Step.{Step}
use Rattle.literals.specs.declared.reason.Step.TheVariants.{Sum, Distinct, Window, Pair, Loop, Hole}
use Rattle.literals.specs.Nogoods.{has_lit}
use Rattle.ground_model.specs.declared.linear.Place.{Place}
use Rattle.ground_model.specs.declared.program.GroundProgram.{GroundProgram}
use Rattle.linear_normal.specs.declared.constraint.Constraint.{Constraint}
use Rattle.linear_normal.specs.declared.constraint.Constraint.TheVariants as c
use Rattle.linear_normal.specs.declared.numbered.Conjunction.{Conjunction}
use Rattle.linear_normal.specs.declared.numbered.Support.{Support}
use Rattle.linear_normal.specs.declared.numbered.Numbered.{Numbered}
use Rattle.linear_normal.specs.Truth.{numbered_in}
use Rattle.linear_normal.specs.Bounds.{Bounds, bounds_named, least_sum, greatest_sum, least_value, greatest_value}

-- a number from 1 to the last one
abbrev pub is_one_of : ℕ → ℕ → Bool
is_one_of last n = nat_le 1 n && nat_le n last

-- the literal names one of so many atoms, bodies, constraints and variables
abbrev pub is_named : GroundProgram → Numbered → Lit → Bool
is_named program numbered (l.Atom n sign) = is_one_of (length program.atoms) n
is_named program numbered (l.Body n sign) = is_one_of (length numbered.bodies) n
is_named program numbered (l.Constraint n sign) = is_one_of (length numbered.constraints) n
is_named program numbered (l.AtMost x k) = is_one_of (length program.variables) x
is_named program numbered (l.AtLeast x k) = is_one_of (length program.variables) x

-- SUMS

-- the constraint is listed true though its least sum exceeds the number, or false though its greatest does not
abbrev pub is_sum : Ends → List Lit → ℕ → Option Constraint → Bool
is_sum ends lits n (Some (c.AtMost items k)) =
    (has_lit lits (l.Constraint n true) && int_lt k (least_sum (bounds_named ends lits) items))
    || (has_lit lits (l.Constraint n false) && int_le (greatest_sum (bounds_named ends lits) items) k)
is_sum ends lits n constraint = false

-- there was a cost, and the least objective is no smaller
abbrev pub is_costly : Ends → List Lit → Numbered → Option ℤ → Bool
is_costly ends lits numbered None = false
is_costly ends lits numbered (Some cost) = int_le cost (least_value (bounds_named ends lits) numbered.objective)

-- HOLES

-- no number of the intervals lies from low to high
abbrev pub none_between : ℤ → ℤ → List (ℤ × ℤ) → Bool
none_between low high intervals =
    list_all (λ interval. int_lt high low || int_lt interval.1 low || int_lt high interval.0) intervals

-- the constraint is listed true, and none of its numbers lies within the variable's bounds
abbrev pub is_hole : Ends → List Lit → ℕ → Option Constraint → Bool
is_hole ends lits n (Some (c.Domain x set)) =
    has_lit lits (l.Constraint n true) && none_between ((bounds_named ends lits).low x) ((bounds_named ends lits).high x) set.intervals
is_hole ends lits n constraint = false

-- some variable's bounds leave no number
abbrev pub is_empty_range : Ends → List Lit → ℕ → Bool
is_empty_range ends lits variables =
    list_any (λ x. int_lt ((bounds_named ends lits).high x) ((bounds_named ends lits).low x)) (range_with_len 1 variables)

-- DISTINCT

-- the first place lies from a to b
abbrev pub is_between : Bounds → ℤ → ℤ → Place → Bool
is_between bounds a b place =
    int_le a (least_value bounds place.linear) && int_le (greatest_value bounds place.linear) b

-- the constraint is listed true, and more tuples lie from a to b than there are numbers
abbrev pub is_overfull : Ends → List Lit → ℕ → ℤ → ℤ → Option Constraint → Bool
is_overfull ends lits n a b (Some (c.Distinct places)) =
    has_lit lits (l.Constraint n true) && int_le a b
    && int_lt ((b -ℤ a) +ℤ pos 1) (pos (length (filter (is_between (bounds_named ends lits) a b) places)))
is_overfull ends lits n a b constraint = false

-- DISJOINT

-- the span starts at a or later and ends at b or earlier
abbrev pub is_within_window : Bounds → ℤ → ℤ → Place → Bool
is_within_window bounds a b place =
    int_le a (least_value bounds place.linear) && int_le (greatest_value bounds place.linear +ℤ place.duration) b

-- the durations together
abbrev pub total_duration : List Place → ℤ
total_duration [] = pos 0
total_duration (place ∷ places) = place.duration +ℤ total_duration places

-- the constraint is listed true, and the spans that lie from a to b are together longer than that
abbrev pub is_overloaded : Ends → List Lit → ℕ → ℤ → ℤ → Option Constraint → Bool
is_overloaded ends lits n a b (Some (c.Disjoint places)) =
    has_lit lits (l.Constraint n true) && int_lt a b
    && int_lt (b -ℤ a) (total_duration (filter (is_within_window (bounds_named ends lits) a b) places))
is_overloaded ends lits n a b constraint = false

-- the first span cannot end before the second starts
abbrev pub ends_late : Bounds → Place → Place → Bool
ends_late bounds i j = int_lt (greatest_value bounds j.linear) (least_value bounds i.linear +ℤ i.duration)

-- both spans last, and neither can come first
abbrev pub must_overlap : Bounds → Option Place → Option Place → Bool
must_overlap bounds (Some i) (Some j) =
    int_lt (pos 0) i.duration && int_lt (pos 0) j.duration && ends_late bounds i j && ends_late bounds j i
must_overlap bounds i j = false

-- the constraint is listed true, and two different tuples must overlap
abbrev pub is_clash : Ends → List Lit → ℕ → ℕ → ℕ → Option Constraint → Bool
is_clash ends lits n i j (Some (c.Disjoint places)) =
    has_lit lits (l.Constraint n true) && not (i == j)
    && must_overlap (bounds_named ends lits) (numbered_in places i) (numbered_in places j)
is_clash ends lits n i j constraint = false

-- LOOPS

-- the number is among these
abbrev pub is_among : List ℕ → ℕ → Bool
is_among set a = list_any (λ b. b == a) set

-- the literal is that an atom of the set is true
abbrev pub is_atom_of : List ℕ → Lit → Bool
is_atom_of set (l.Atom a true) = is_among set a
is_atom_of set lit = false

-- the body has a positive atom of the set
abbrev pub leans_on : List ℕ → Option Conjunction → Bool
leans_on set None = false
leans_on set (Some conjunction) = list_any (is_atom_of set) conjunction.lits

-- the support gives an atom of the set by a body that has no positive atom of it
abbrev pub is_external : Numbered → List ℕ → Support → Bool
is_external numbered set support = is_among set support.atom && not (leans_on set (numbered_in numbered.bodies support.body))

-- an atom of the set is listed true, and each body that supports one from outside is listed false
abbrev pub is_loop : GroundProgram → Numbered → List Lit → List ℕ → Bool
is_loop program numbered lits set =
    list_all (is_one_of (length program.atoms)) set && list_any (λ a. has_lit lits (l.Atom a true)) set
    && list_all (λ support. not (is_external numbered set support) || has_lit lits (l.Body support.body false)) numbered.supports

-- VALIDITY

-- the rule shows the list to be a nogood, where the last cost is given
abbrev pub is_shown : GroundProgram → Numbered → Option ℤ → List Lit → Step → Bool
is_shown program numbered cost lits (Sum zero) = is_costly program.ends lits numbered cost
is_shown program numbered cost lits (Sum n) = is_sum program.ends lits n (numbered_in numbered.constraints n)
is_shown program numbered cost lits (Distinct n a b) = is_overfull program.ends lits n a b (numbered_in numbered.constraints n)
is_shown program numbered cost lits (Window n a b) = is_overloaded program.ends lits n a b (numbered_in numbered.constraints n)
is_shown program numbered cost lits (Pair n i j) = is_clash program.ends lits n i j (numbered_in numbered.constraints n)
is_shown program numbered cost lits (Loop set) = is_loop program numbered lits set
is_shown program numbered cost lits (Hole zero) = is_empty_range program.ends lits (length program.variables)
is_shown program numbered cost lits (Hole n) = is_hole program.ends lits n (numbered_in numbered.constraints n)

-- a valid step: its literals are of the program, and its rule shows them to be a nogood
abbrev pub is_valid : GroundProgram → Numbered → Option ℤ → List Lit → Step → Bool
is_valid program numbered cost lits step =
    list_all (is_named program numbered) lits && is_shown program numbered cost lits step
