-- The variables that occur in the pieces of a rule, each as often as it occurs, in the order of the text.
use Rattle.std.specs.Prelude.{ℕ, List, [], ◌∷◌, ◌++◌, Option, None, Some}
use Rattle.std.specs.List.{flat_map}
use Rattle.syntax_tree.specs.declared.literal.Guard.{Guard}
use Rattle.syntax_tree.specs.declared.literal.TheoryElement.{TheoryElement}
use Rattle.syntax_tree.specs.declared.literal.Literal.TheFolds.{fold-TheoryElement}
use Rattle.syntax_tree.specs.declared.term.Part.{Part}
use Rattle.syntax_tree.specs.declared.term.Term.{Term}
use Rattle.syntax_tree.specs.declared.term.Term.TheOpen.{Term-F, Part-F}
use Rattle.syntax_tree.specs.declared.term.Term.TheFolds.{fold-Term, fold-Part}
use Rattle.program_meaning.specs.Read.{PlainLiteral, PlainAtom, PlainCompare, ReadElement, ReadTheory, ReadLiteral, ReadPlain, ReadTold, ReadChoice, ReadHead, ReadNothing, ReadAtom, ReadDuty, ReadChoose, ReadRule, read_literal, read_theory, read_element}

-- TERMS

abbrev pub joined : List (List ℕ) → List ℕ
joined lists = flat_map (λ list. list) lists

abbrev pub in_part : Part-F (List ℕ) (List ℕ) → List ℕ
in_part part = part.term

abbrev pub variables_step : Term-F (List ℕ) (List ℕ) → List ℕ
variables_step (Term-F.Number k) = []
variables_step (Term-F.Text text) = []
variables_step (Term-F.Variable n) = n ∷ []
variables_step Term-F.Anonymous = []
variables_step (Term-F.Function name args) = joined args
variables_step (Term-F.Tuple args) = joined args
variables_step (Term-F.Sum parts) = joined parts
variables_step (Term-F.Product parts) = joined parts
variables_step (Term-F.Minus inner) = inner
variables_step (Term-F.Interval left right) = left ++ right

-- those of a term
abbrev pub variables_in : Term → List ℕ
variables_in = fold-Term (List ℕ) (List ℕ) variables_step in_part

abbrev pub variables_in_part : Part → List ℕ
variables_in_part = fold-Part (List ℕ) (List ℕ) variables_step in_part

abbrev pub outside_step : Term-F (List ℕ) (List ℕ) → List ℕ
outside_step (Term-F.Variable n) = n ∷ []
outside_step (Term-F.Function name args) = joined args
outside_step (Term-F.Tuple args) = joined args
outside_step term = []

-- those that occur in a term outside every arithmetic operation
abbrev pub outside_in : Term → List ℕ
outside_in = fold-Term (List ℕ) (List ℕ) outside_step in_part

-- LITERALS AND ELEMENTS

abbrev pub variables_of : PlainLiteral → List ℕ
variables_of (PlainAtom term sign) = variables_in term
variables_of (PlainCompare left rel right) = variables_in left ++ variables_in right

abbrev pub guard_variables : Option Guard → List ℕ
guard_variables None = []
guard_variables (Some guard) = variables_in guard.right

abbrev pub optional_variables : Option Term → List ℕ
optional_variables None = []
optional_variables (Some term) = variables_in term

abbrev pub element_variables : ReadElement → List ℕ
element_variables element =
    variables_in element.first ++ (optional_variables element.duration ++ (flat_map variables_in element.rest ++ flat_map variables_of element.condition))

abbrev pub choice_variables : ReadChoice → List ℕ
choice_variables element = variables_in element.atom ++ flat_map variables_of element.condition

-- an element of a theory atom as it is read
abbrev pub element_read : TheoryElement → ReadElement
element_read = fold-TheoryElement ReadLiteral ReadTheory ReadElement read_literal read_theory read_element

-- RULES: what occurs outside the elements of choices and theory atoms

abbrev pub literal_variables : ReadLiteral → List ℕ
literal_variables (ReadPlain literal) = variables_of literal
literal_variables (ReadTold theory sign) = guard_variables theory.guard

abbrev pub head_variables : ReadHead → List ℕ
head_variables ReadNothing = []
head_variables (ReadAtom term) = variables_in term
head_variables (ReadDuty theory) = guard_variables theory.guard
head_variables (ReadChoose left elements right) = guard_variables left ++ guard_variables right

abbrev pub global_variables : ReadRule → List ℕ
global_variables rule = head_variables rule.head ++ flat_map literal_variables rule.body
