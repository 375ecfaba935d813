-- The atoms of a rule in the order of its text, each with whether it stands in a condition of a theory atom.
use Rattle.std.specs.Prelude.{Bool, true, false, List, [], ◌∷◌, ◌++◌, map}
use Rattle.std.specs.List.{flat_map}
use Rattle.syntax_tree.specs.declared.term.Term.{Term}
use Rattle.syntax_tree.specs.declared.literal.TheoryElement.{TheoryElement}
use Rattle.syntax_tree.specs.declared.literal.Literal.TheFolds.{fold-TheoryElement}
use Rattle.program_meaning.specs.Read.{PlainLiteral, ReadElement, ReadTheory, ReadLiteral, ReadPlain, ReadTold, ReadChoice, ReadHead, ReadNothing, ReadAtom, ReadDuty, ReadChoose, ReadRule, read_literal, read_theory, read_element}
use Rattle.safety_meaning.specs.Failures.{atom_of}
use Rattle.refusals.specs.declared.atoms.SeenAtom.{SeenAtom}

abbrev pub atom_in : SeenAtom → Term × Bool
atom_in seen = (seen.atom.now, seen.in_condition)

-- an element of a theory atom as it is read
abbrev pub element_read : TheoryElement → ReadElement
element_read = fold-TheoryElement ReadLiteral ReadTheory ReadElement read_literal read_theory read_element

abbrev pub plain_atoms : Bool → PlainLiteral → List (Term × Bool)
plain_atoms flag literal = map (λ atom. (atom, flag)) (atom_of literal)

abbrev pub condition_atoms : Bool → List PlainLiteral → List (Term × Bool)
condition_atoms flag literals = flat_map (plain_atoms flag) literals

abbrev pub element_atoms : ReadElement → List (Term × Bool)
element_atoms element = condition_atoms true element.condition

abbrev pub theory_atoms : ReadTheory → List (Term × Bool)
theory_atoms theory = flat_map element_atoms theory.elements

abbrev pub choice_atoms : ReadChoice → List (Term × Bool)
choice_atoms element = (element.atom, false) ∷ condition_atoms false element.condition

abbrev pub literal_atoms : ReadLiteral → List (Term × Bool)
literal_atoms (ReadPlain literal) = plain_atoms false literal
literal_atoms (ReadTold theory sign) = theory_atoms theory

abbrev pub head_atoms : ReadHead → List (Term × Bool)
head_atoms ReadNothing = []
head_atoms (ReadAtom term) = (term, false) ∷ []
head_atoms (ReadDuty theory) = theory_atoms theory
head_atoms (ReadChoose left elements right) = flat_map choice_atoms elements

abbrev pub rule_atoms : ReadRule → List (Term × Bool)
rule_atoms rule = head_atoms rule.head ++ flat_map literal_atoms rule.body
