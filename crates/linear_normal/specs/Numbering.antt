-- The one numbering of a ground program.
use Rattle.std.specs.Prelude.{ℕ, ◌+◌, true, pos, neg_ℤ, ◌-ℤ◌, List, [], ◌∷◌, map, length, None, Some}
use Rattle.std.specs.List.{flat_map}
use Rattle.literals.specs.declared.lit.Lit.{Lit}
use Rattle.literals.specs.declared.lit.Lit.TheVariants as l
use Rattle.literals.specs.Nogoods.{canonical}
use Rattle.ground_model.specs.declared.linear.Linear.{Linear}
use Rattle.ground_model.specs.declared.linear.Place.{Place}
use Rattle.ground_model.specs.declared.rule.BodyLit.{BodyLit}
use Rattle.ground_model.specs.declared.rule.BodyLit.TheVariants as b
use Rattle.ground_model.specs.declared.rule.ChoiceItem.{ChoiceItem}
use Rattle.ground_model.specs.declared.rule.GroundHead.{GroundHead}
use Rattle.ground_model.specs.declared.rule.GroundHead.TheVariants as h
use Rattle.ground_model.specs.declared.rule.GroundRule.{GroundRule}
use Rattle.ground_model.specs.declared.program.GroundProgram.{GroundProgram}
use Rattle.ground_model.specs.Sound.{total_constant, first_places}
use Rattle.linear_normal.specs.declared.constraint.Item.{Item}
use Rattle.linear_normal.specs.declared.constraint.Item.TheVariants.{Value, Truth}
use Rattle.linear_normal.specs.declared.constraint.Constraint.{Constraint}
use Rattle.linear_normal.specs.declared.constraint.Constraint.TheVariants.{AtMost, Both, Either, Domain, Distinct, Disjoint, Tally}
use Rattle.linear_normal.specs.declared.numbered.Conjunction.{Conjunction}
use Rattle.linear_normal.specs.declared.numbered.Support.{Support}
use Rattle.linear_normal.specs.declared.numbered.Duty.{Duty}
use Rattle.linear_normal.specs.declared.numbered.Numbered.{Numbered}
use Rattle.linear_normal.specs.Contents.{Term, Variable, Counted, Content, SumAtMost, SumEquals, SumDiffers, InSet, AllDiffer, NoneOverlap, SomeTrue, opposite}
use Rattle.linear_normal.specs.Bodies.{bodies_in, placed, selections}
use Rattle.linear_normal.specs.Demands.{moved_pairs, relation_content, theory_content, bound_content, bounds_of, contents_of, number_of}

-- CONSTRAINTS

-- a term, its tally by number
abbrev pub item_of : List Content → Term → Item
item_of contents (Variable x c) = Value x c
item_of contents (Counted bodies c) = Truth (number_of contents (SomeTrue bodies)) c

-- the constraint of a content, its parts and tallies by number
abbrev pub constraint_of : List Content → Content → Constraint
constraint_of contents (SumAtMost sum k) = AtMost (map (item_of contents) sum) k
constraint_of contents (SumEquals sum k) =
    Both (number_of contents (SumAtMost sum k)) (number_of contents (SumAtMost (opposite sum) (neg_ℤ k)))
constraint_of contents (SumDiffers sum k) =
    Either (number_of contents (SumAtMost sum (k -ℤ pos 1))) (number_of contents (SumAtMost (opposite sum) (neg_ℤ k -ℤ pos 1)))
constraint_of contents (InSet x set) = Domain x set
constraint_of contents (AllDiffer places) = Distinct places
constraint_of contents (NoneOverlap places) = Disjoint places
constraint_of contents (SomeTrue bodies) = Tally bodies

-- BODIES

-- a body literal, its relation by number
abbrev pub lit_of : List Content → ℕ → BodyLit → Lit
lit_of contents variables (b.Atom a sign) = l.Atom a sign
lit_of contents variables (b.Theory relation sign) = l.Constraint (number_of contents (relation_content variables relation)) sign

-- a body's literals, sorted and each once
abbrev pub conjunction_of : List Content → ℕ → List BodyLit → Conjunction
conjunction_of contents variables body = record { lits = canonical (map (lit_of contents variables) body) }

-- SUPPORTS AND DUTIES

-- each element's atom by the element's body, where these are numbered from n on
abbrev pub element_supports : ℕ → List ChoiceItem → List Support
element_supports n [] = []
element_supports n (item ∷ items) = record { atom = item.atom; body = n } ∷ element_supports (n + 1) items

-- a rule supports its head by its own body, and a choice its atoms by their elements' bodies
abbrev pub head_supports : ℕ → GroundHead → List Support
head_supports first (h.Atom a) = record { atom = a; body = first } ∷ []
head_supports first (h.Choice choice) = element_supports (first + 1) choice.items
head_supports first head = []

-- what has to be true where a rule's own body is: nothing can be, its atom, its theory atom, or each bound of its choice
abbrev pub head_duties : List Content → ℕ → ℕ → ℕ → GroundHead → List Duty
head_duties contents atoms variables first h.Nothing = record { body = first; head = None } ∷ []
head_duties contents atoms variables first (h.Atom a) = record { body = first; head = Some (l.Atom a true) } ∷ []
head_duties contents atoms variables first (h.Theory theory) =
    record { body = first; head = Some (l.Constraint (number_of contents (theory_content variables theory)) true) } ∷ []
head_duties contents atoms variables first (h.Choice choice) =
    map (λ bound. record {
      body = first;
      head = Some (l.Constraint (number_of contents (bound_content (selections atoms first choice.items) bound)) true);
    }) (bounds_of choice)

-- THE WHOLE

-- what is minimised, as one linear term
abbrev pub objective_in : ℕ → List Place → List Place → Linear
objective_in variables smaller larger = record {
  pairs = moved_pairs variables (first_places smaller) (first_places larger);
  constant = total_constant (first_places smaller) -ℤ total_constant (first_places larger);
}

-- rules over so many atoms and variables, and an objective, by number
abbrev pub numbered_by : ℕ → ℕ → List GroundRule → List Place → List Place → Numbered
numbered_by atoms variables rules smaller larger = record {
  constraints = map (constraint_of (contents_of atoms variables rules)) (contents_of atoms variables rules);
  bodies = map (conjunction_of (contents_of atoms variables rules) variables) (flat_map bodies_in rules);
  supports = flat_map (λ at. head_supports at.first at.rule.head) (placed 1 rules);
  duties = flat_map (λ at. head_duties (contents_of atoms variables rules) atoms variables at.first at.rule.head) (placed 1 rules);
  objective = objective_in variables smaller larger;
}

-- the contents of a program
abbrev pub contents_in : GroundProgram → List Content
contents_in program = contents_of (length program.atoms) (length program.variables) program.rules

-- a ground program by number
abbrev pub numbering : GroundProgram → Numbered
numbering program =
    numbered_by (length program.atoms) (length program.variables) program.rules program.smaller program.larger
