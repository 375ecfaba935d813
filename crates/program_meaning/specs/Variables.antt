-- Which variables stand where.
use Rattle.std.specs.Prelude.{ℕ, Bool, true, false, not, ◌&&◌, ◌||◌, ◌==◌, List, Option, None, Some, filter}
use Rattle.std.specs.List.{list_any}
use Rattle.syntax_tree.specs.declared.literal.Guard.{Guard}
use Rattle.syntax_tree.specs.declared.term.Term.{Term}
use Rattle.syntax_tree.specs.declared.term.Term.TheOpen.{Term-F, Part-F}
use Rattle.syntax_tree.specs.declared.term.Term.TheFolds.{fold-Term}
use Rattle.program_meaning.specs.Read.{PlainLiteral, PlainAtom, PlainCompare, ReadElement, ReadLiteral, ReadPlain, ReadTold, ReadChoice, ReadHead, ReadNothing, ReadAtom, ReadDuty, ReadChoose, ReadRule}

-- TERMS

abbrev pub any_part : Part-F Bool Bool → Bool
any_part part = part.term

-- one of these is true
abbrev pub any_true : List Bool → Bool
any_true truths = list_any (λ truth. truth) truths

abbrev pub occurs_step : ℕ → Term-F Bool Bool → Bool
occurs_step n (Term-F.Number k) = false
occurs_step n (Term-F.Text text) = false
occurs_step n (Term-F.Variable m) = m == n
occurs_step n Term-F.Anonymous = false
occurs_step n (Term-F.Function name args) = any_true args
occurs_step n (Term-F.Tuple args) = any_true args
occurs_step n (Term-F.Sum parts) = any_true parts
occurs_step n (Term-F.Product parts) = any_true parts
occurs_step n (Term-F.Minus inner) = inner
occurs_step n (Term-F.Interval left right) = left || right

-- the variable occurs in the term
abbrev pub occurs : ℕ → Term → Bool
occurs n = fold-Term Bool Bool (occurs_step n) any_part

abbrev pub outside_step : ℕ → Term-F Bool Bool → Bool
outside_step n (Term-F.Variable m) = m == n
outside_step n (Term-F.Function name args) = any_true args
outside_step n (Term-F.Tuple args) = any_true args
outside_step n term = false

-- the variable occurs in the term outside every arithmetic operation
abbrev pub occurs_outside : ℕ → Term → Bool
occurs_outside n = fold-Term Bool Bool (outside_step n) any_part

abbrev pub plain_variable_step : Term-F (Option ℕ) (Option ℕ) → Option ℕ
plain_variable_step (Term-F.Variable n) = Some n
plain_variable_step term = None

-- the number of the variable that the term is, if it is one
abbrev pub plain_variable : Term → Option ℕ
plain_variable = fold-Term (Option ℕ) (Option ℕ) plain_variable_step (λ part. part.term)

-- the term is this variable
abbrev pub is_variable : ℕ → Term → Bool
is_variable n term = is_it (plain_variable term)
  where
    is_it : Option ℕ → Bool
    is_it None = false
    is_it (Some m) = m == n

-- LITERALS

-- the variable occurs in the literal
abbrev pub occurs_in : ℕ → PlainLiteral → Bool
occurs_in n (PlainAtom term sign) = occurs n term
occurs_in n (PlainCompare left rel right) = occurs n left || occurs n right

-- a positive atom binds the variables that occur in it outside arithmetic
abbrev pub atom_binds : ℕ → PlainLiteral → Bool
atom_binds n (PlainAtom term true) = occurs_outside n term
atom_binds n literal = false

-- the term is a variable that no positive atom among the literals binds
abbrev pub is_free : List PlainLiteral → Term → Bool
is_free literals term = is_it (plain_variable term)
  where
    is_it : Option ℕ → Bool
    is_it None = false
    is_it (Some n) = not (list_any (atom_binds n) literals)

-- RULES

abbrev pub occurs_in_guard : ℕ → Option Guard → Bool
occurs_in_guard n None = false
occurs_in_guard n (Some guard) = occurs n guard.right

abbrev pub occurs_in_option : ℕ → Option Term → Bool
occurs_in_option n None = false
occurs_in_option n (Some term) = occurs n term

-- the variable occurs in an element of a theory atom
abbrev pub occurs_in_element : ℕ → ReadElement → Bool
occurs_in_element n element =
    occurs n element.first || occurs_in_option n element.duration || list_any (occurs n) element.rest || list_any (occurs_in n) element.condition

-- the variable occurs in an element of a choice
abbrev pub occurs_in_choice : ℕ → ReadChoice → Bool
occurs_in_choice n element = occurs n element.atom || list_any (occurs_in n) element.condition

-- the variable occurs in a literal of a body, outside the elements of a theory atom
abbrev pub occurs_in_literal : ℕ → ReadLiteral → Bool
occurs_in_literal n (ReadPlain literal) = occurs_in n literal
occurs_in_literal n (ReadTold theory sign) = occurs_in_guard n theory.guard

-- the variable occurs in a head, outside the elements of a theory atom or a choice
abbrev pub occurs_in_head : ℕ → ReadHead → Bool
occurs_in_head n ReadNothing = false
occurs_in_head n (ReadAtom term) = occurs n term
occurs_in_head n (ReadDuty theory) = occurs_in_guard n theory.guard
occurs_in_head n (ReadChoose left elements right) = occurs_in_guard n left || occurs_in_guard n right

-- a variable is global where it occurs outside the elements of choices and theory atoms
abbrev pub is_global : ReadRule → ℕ → Bool
is_global rule n = occurs_in_head n rule.head || list_any (occurs_in_literal n) rule.body

-- the global variables of a rule, in order
abbrev pub globals : ReadRule → List ℕ
globals rule = filter (is_global rule) rule.order

-- the local variables of an element of a theory atom, in the rule's order
abbrev pub element_locals : ReadRule → ReadElement → List ℕ
element_locals rule element = filter (λ n. occurs_in_element n element && not (is_global rule n)) rule.order

-- the local variables of an element of a choice, in the rule's order
abbrev pub choice_locals : ReadRule → ReadChoice → List ℕ
choice_locals rule element = filter (λ n. occurs_in_choice n element && not (is_global rule n)) rule.order
