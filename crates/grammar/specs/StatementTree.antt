-- The trees of statements, where these are the names of a rule's variables.
use Rattle.std.specs.Prelude.{ℕ, Bool, true, false, if◌then◌else◌, bytes_eq, codes, Option, Some, None, List, [], ◌∷◌, map}
use Rattle.symbols.specs.declared.rel.Rel.{Rel}
use Rattle.symbols.specs.declared.rel.Rel.TheVariants.{LessEqual}
use Rattle.syntax_tree.specs.declared.term.Term.{Term}
use Rattle.syntax_tree.specs.declared.literal.Guard.{Guard}
use Rattle.syntax_tree.specs.declared.literal.TheoryName.{TheoryName}
use Rattle.syntax_tree.specs.declared.literal.TheoryName.TheVariants as name
use Rattle.syntax_tree.specs.declared.literal.Literal.{Literal}
use Rattle.syntax_tree.specs.declared.literal.Literal.TheVariants as literal
use Rattle.syntax_tree.specs.declared.literal.TheoryAtom.{TheoryAtom, roll-TheoryAtom}
use Rattle.syntax_tree.specs.declared.literal.TheoryElement.{TheoryElement, roll-TheoryElement}
use Rattle.syntax_tree.specs.declared.rule.Head.{Head}
use Rattle.syntax_tree.specs.declared.rule.Head.TheVariants as head
use Rattle.syntax_tree.specs.declared.rule.Choice.{Choice}
use Rattle.syntax_tree.specs.declared.rule.ChoiceElement.{ChoiceElement}
use Rattle.grammar.specs.Row.{Row}
use Rattle.grammar.specs.Term.{UnaryOf}
use Rattle.grammar.specs.Tree.{term_tree, atom_tree}
use Rattle.grammar.specs.Theory.{FullTerm, ConditionOf, holds, compares, GivenOf, ElementOf, TheoryOf}
use Rattle.grammar.specs.Statement.{LiteralOf, simple, theory, BodyOf, ChosenOf, ChoiceOf, HeadOf, atom_head, choice_head, theory_head, ArrowOf, no_arrow, arrow}

-- the items of a row
abbrev pub items : {I S X : Type 0} → (I → X) → Row I S → List X
items item row = item row.first ∷ map (λ p. item p.1) row.rest

-- the items of a row that may be missing
abbrev pub items_of : {I S X : Type 0} → (I → X) → Option (Row I S) → List X
items_of item None = []
items_of item (Some row) = items item row

-- the theory atom of a name
abbrev pub theory_name : List ℕ → TheoryName
theory_name bytes =
    (if bytes_eq bytes (codes "sum") then name.Sum
    else (if bytes_eq bytes (codes "diff") then name.Diff
    else (if bytes_eq bytes (codes "distinct") then name.Distinct
    else (if bytes_eq bytes (codes "disjoint") then name.Disjoint
    else (if bytes_eq bytes (codes "dom") then name.Dom
    else (if bytes_eq bytes (codes "minimize") then name.Minimize
    else (if bytes_eq bytes (codes "maximize") then name.Maximize
    else (if bytes_eq bytes (codes "show") then name.Show
    else name.Unknown))))))))

-- `inner` is the tree of an operand of the level inside, `operand` of one that stands in a term
module _ {D R : Type 0} (inner : D → Term) (operand : UnaryOf D R → Term) where
  abbrev pub full_tree : FullTerm D R → Term
  full_tree = term_tree operand

  abbrev pub condition_tree : ConditionOf D R → Literal
  condition_tree (holds positive a) = literal.Atom (atom_tree inner a) positive
  condition_tree (compares left r right) = literal.Compare (full_tree left) r (full_tree right)

  abbrev pub given_trees : GivenOf D R → List Literal
  given_trees None = []
  given_trees (Some conditions) = items_of condition_tree conditions

  abbrev pub maybe_tree : Option (FullTerm D R) → Option Term
  maybe_tree None = None
  maybe_tree (Some term) = Some (full_tree term)

  abbrev pub guard_of : Rel → FullTerm D R → Guard
  guard_of r term = record { rel = r; right = full_tree term }

  abbrev pub element_tree : ElementOf D R → TheoryElement
  element_tree element = roll-TheoryElement (record {
    first = full_tree element.first;
    duration = maybe_tree element.duration;
    rest = items_of full_tree element.rest;
    condition = given_trees element.condition;
  })

  abbrev pub guard_tree : Option (Rel × FullTerm D R) → Option Guard
  guard_tree None = None
  guard_tree (Some guard) = Some (guard_of guard.0 guard.1)

  abbrev pub theory_tree : TheoryOf D R → TheoryAtom
  theory_tree a = roll-TheoryAtom (record { name = theory_name a.name; elements = items_of element_tree a.elements; guard = guard_tree a.guard })

  abbrev pub literal_tree : LiteralOf D R → Literal
  literal_tree (simple condition) = condition_tree condition
  literal_tree (theory positive a) = literal.Theory (theory_tree a) positive

  abbrev pub body_trees : Option (BodyOf D R) → List Literal
  body_trees body = items_of literal_tree body

  -- a bound without a relation: the bound is at most the count, or the count at most the bound
  abbrev pub rel_or_most : Option Rel → Rel
  rel_or_most None = LessEqual
  rel_or_most (Some r) = r

  abbrev pub left_tree : Option (FullTerm D R × Option Rel) → Option Guard
  left_tree None = None
  left_tree (Some bound) = Some (guard_of (rel_or_most bound.1) bound.0)

  abbrev pub right_tree : Option (Option Rel × FullTerm D R) → Option Guard
  right_tree None = None
  right_tree (Some bound) = Some (guard_of (rel_or_most bound.0) bound.1)

  abbrev pub chosen_tree : ChosenOf D R → ChoiceElement
  chosen_tree element = record { atom = atom_tree inner element.atom; condition = given_trees element.condition }

  abbrev pub choice_tree : ChoiceOf D R → Choice
  choice_tree choice = record { left = left_tree choice.left; elements = items_of chosen_tree choice.elements; right = right_tree choice.right }

  abbrev pub head_tree : HeadOf D R → Head
  head_tree (atom_head a) = head.Atom (atom_tree inner a)
  head_tree (choice_head choice) = head.Choice (choice_tree choice)
  head_tree (theory_head atom) = head.Theory (theory_tree atom)

  abbrev pub arrow_trees : ArrowOf D R → List Literal
  arrow_trees no_arrow = []
  arrow_trees (arrow body) = body_trees body

abbrev pub has_arrow : {D R : Type 0} → ArrowOf D R → Bool
has_arrow no_arrow = false
has_arrow (arrow body) = true
