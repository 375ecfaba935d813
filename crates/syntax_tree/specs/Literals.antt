-- The rules on literals and theory atoms: each term in them keeps the rules on terms.
use Rattle.std.specs.Prelude.{Bool, true, ◌&&◌, Option, Some, None}
use Rattle.std.specs.List.{list_all}
use Rattle.syntax_tree.specs.declared.literal.Guard.{Guard}
use Rattle.syntax_tree.specs.declared.literal.Literal.{Literal}
use Rattle.syntax_tree.specs.declared.literal.Literal.TheOpen.{Literal-F, TheoryAtom-F, TheoryElement-F}
use Rattle.syntax_tree.specs.declared.literal.Literal.TheFolds.{fold-Literal, fold-TheoryAtom, fold-TheoryElement}
use Rattle.syntax_tree.specs.declared.literal.TheoryAtom.{TheoryAtom}
use Rattle.syntax_tree.specs.declared.literal.TheoryElement.{TheoryElement}
use Rattle.syntax_tree.specs.Tree.{is_term}

-- there is nothing, or what is there passes the test
abbrev pub is_none_or : {A : Type 0} → (A → Bool) → Option A → Bool
is_none_or test None = true
is_none_or test (Some x) = test x

-- the guard's term keeps the rules on terms
abbrev pub is_guard : Guard → Bool
is_guard guard = is_term guard.right

-- the rules at one layer of a literal, where those of its parts are judged
abbrev pub literal_rules : Literal-F Bool Bool Bool → Bool
literal_rules (Literal-F.Atom atom sign) = is_term atom
literal_rules (Literal-F.Compare left rel right) = is_term left && is_term right
literal_rules (Literal-F.Theory atom sign) = atom

abbrev pub theory_rules : TheoryAtom-F Bool Bool Bool → Bool
theory_rules atom = list_all (λ element. element) atom.elements && is_none_or is_guard atom.guard

abbrev pub element_rules : TheoryElement-F Bool Bool Bool → Bool
element_rules element =
    is_term element.first
    && is_none_or is_term element.duration
    && list_all is_term element.rest
    && list_all (λ literal. literal) element.condition

-- the literal keeps the rules on literals
abbrev pub is_literal : Literal → Bool
is_literal = fold-Literal Bool Bool Bool literal_rules theory_rules element_rules

-- the theory atom keeps them
abbrev pub is_theory_atom : TheoryAtom → Bool
is_theory_atom = fold-TheoryAtom Bool Bool Bool literal_rules theory_rules element_rules

-- an element of a theory atom keeps them
abbrev pub is_theory_element : TheoryElement → Bool
is_theory_element = fold-TheoryElement Bool Bool Bool literal_rules theory_rules element_rules
