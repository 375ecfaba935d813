-- Statements as they are printed: their terms are tidied, a `:` stands only before a condition, literals are parted by commas, and each bound has its relation.
use Rattle.std.specs.Prelude.{ℕ, suc, Option, Some, None, List, map}
use Rattle.symbols.specs.declared.rel.Rel.{Rel}
use Rattle.symbols.specs.declared.rel.Rel.TheVariants.{LessEqual}
use Rattle.syntax_tree.specs.Printed.{theory_name_text}
use Rattle.grammar.specs.Row.{Row}
use Rattle.grammar.specs.Term.{Operand, Room}
use Rattle.grammar.specs.Theory.{FullTerm, ConditionOf, holds, compares, PlacesOf, GivenOf, ElementOf, TheoryOf}
use Rattle.grammar.specs.Statement.{LiteralOf, simple, theory, Separating, by_comma, BodyOf, ChosenOf, ChoiceOf, HeadOf, atom_head, choice_head, theory_head, ArrowOf, no_arrow, arrow, StatementOf, headed, constraint, constant, show_nothing, show}
use Rattle.grammar.specs.StatementTree.{theory_name}
use Rattle.grammar.specs.Tidied.{map_row, row_of, tidied_term, tidied_atom, tidied}

abbrev pub map_maybe : {A B : Type 0} → (A → B) → Option A → Option B
map_maybe f None = None
map_maybe f (Some x) = Some (f x)

-- the relation of a bound: where none is written, the bound is at most the count, or the count at most the bound
abbrev pub bound_rel : Option Rel → Rel
bound_rel None = LessEqual
bound_rel (Some r) = r

module _ (n : ℕ) where
  abbrev pub tidied_full : FullTerm (Operand n) (Room n) → FullTerm (Operand n) (Room n)
  tidied_full = tidied_term (suc n) (tidied (suc n))

  abbrev pub tidied_condition : ConditionOf (Operand n) (Room n) → ConditionOf (Operand n) (Room n)
  tidied_condition (holds positive a) = holds positive (tidied_atom n (tidied n) a)
  tidied_condition (compares left r right) = compares (tidied_full left) r (tidied_full right)

  abbrev pub tidied_given : GivenOf (Operand n) (Room n) → GivenOf (Operand n) (Room n)
  tidied_given None = None
  tidied_given (Some None) = None
  tidied_given (Some (Some row)) = Some (Some (map_row tidied_condition row))

  abbrev pub tidied_element : ElementOf (Operand n) (Room n) → ElementOf (Operand n) (Room n)
  tidied_element element = record {
    first = tidied_full element.first;
    duration = map_maybe tidied_full element.duration;
    rest = map_maybe (map_row tidied_full) element.rest;
    condition = tidied_given element.condition;
  }

  abbrev pub tidied_guard : Rel × FullTerm (Operand n) (Room n) → Rel × FullTerm (Operand n) (Room n)
  tidied_guard guard = (guard.0, tidied_full guard.1)

  abbrev pub tidied_theory : TheoryOf (Operand n) (Room n) → TheoryOf (Operand n) (Room n)
  tidied_theory a = record {
    name = theory_name_text (theory_name a.name);
    elements = map_maybe (map_row tidied_element) a.elements;
    guard = map_maybe tidied_guard a.guard;
  }

  abbrev pub tidied_literal : LiteralOf (Operand n) (Room n) → LiteralOf (Operand n) (Room n)
  tidied_literal (simple condition) = simple (tidied_condition condition)
  tidied_literal (theory positive a) = theory positive (tidied_theory a)

  abbrev pub tidied_body : BodyOf (Operand n) (Room n) → BodyOf (Operand n) (Room n)
  tidied_body body = row_of (tidied_literal body.first) (map (λ p. (by_comma, tidied_literal p.1)) body.rest)

  abbrev pub tidied_chosen : ChosenOf (Operand n) (Room n) → ChosenOf (Operand n) (Room n)
  tidied_chosen element = record { atom = tidied_atom n (tidied n) element.atom; condition = tidied_given element.condition }

  abbrev pub tidied_left : FullTerm (Operand n) (Room n) × Option Rel → FullTerm (Operand n) (Room n) × Option Rel
  tidied_left bound = (tidied_full bound.0, Some (bound_rel bound.1))

  abbrev pub tidied_right : Option Rel × FullTerm (Operand n) (Room n) → Option Rel × FullTerm (Operand n) (Room n)
  tidied_right bound = (Some (bound_rel bound.0), tidied_full bound.1)

  abbrev pub tidied_choice : ChoiceOf (Operand n) (Room n) → ChoiceOf (Operand n) (Room n)
  tidied_choice choice = record {
    left = map_maybe tidied_left choice.left;
    elements = map_maybe (map_row tidied_chosen) choice.elements;
    right = map_maybe tidied_right choice.right;
  }

  abbrev pub tidied_head : HeadOf (Operand n) (Room n) → HeadOf (Operand n) (Room n)
  tidied_head (atom_head a) = atom_head (tidied_atom n (tidied n) a)
  tidied_head (choice_head choice) = choice_head (tidied_choice choice)
  tidied_head (theory_head atom) = theory_head (tidied_theory atom)

  abbrev pub tidied_arrow : ArrowOf (Operand n) (Room n) → ArrowOf (Operand n) (Room n)
  tidied_arrow no_arrow = no_arrow
  tidied_arrow (arrow body) = arrow (map_maybe tidied_body body)

  abbrev pub tidied_statement : StatementOf (Operand n) (Room n) → StatementOf (Operand n) (Room n)
  tidied_statement (headed head behind) = headed (tidied_head head) (tidied_arrow behind)
  tidied_statement (constraint body) = constraint (map_maybe tidied_body body)
  tidied_statement (constant name term) = constant name (tidied_full term)
  tidied_statement show_nothing = show_nothing
  tidied_statement (show name arity) = show name arity
