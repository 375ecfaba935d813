-- A program with its constants replaced: an identifier that is a constant gives way to its value where it is a term without
-- arguments, and an atom keeps its name.
use Rattle.std.specs.Prelude.{ℕ, List, [], ◌∷◌, map, Option, Some, None}
use Rattle.std.specs.Map.{lookup}
use Rattle.std.specs.Option.{option_map}
use Rattle.std.specs.Str.{bytes_eq}
use Rattle.symbols.specs.Symbol.{Symbol, Symbols, Number, Identifier, Text, Function, NoSymbols, MoreSymbols}
use Rattle.syntax_tree.specs.declared.term.Term.{Term, out-Term}
use Rattle.syntax_tree.specs.declared.term.Term.TheOpen.{Term-F, Part-F}
use Rattle.syntax_tree.specs.declared.term.Term.TheFolds.{fold-Term, fold-Part}
use Rattle.syntax_tree.specs.declared.term.Term.TheVariants as t
use Rattle.syntax_tree.specs.declared.term.Part.{Part}
use Rattle.syntax_tree.specs.declared.literal.Guard.{Guard}
use Rattle.syntax_tree.specs.declared.literal.Literal.{Literal}
use Rattle.syntax_tree.specs.declared.literal.Literal.TheOpen.{Literal-F, TheoryAtom-F, TheoryElement-F}
use Rattle.syntax_tree.specs.declared.literal.Literal.TheFolds.{fold-Literal, fold-TheoryAtom, fold-TheoryElement}
use Rattle.syntax_tree.specs.declared.literal.Literal.TheVariants as l
use Rattle.syntax_tree.specs.declared.literal.TheoryAtom.{TheoryAtom, roll-TheoryAtom}
use Rattle.syntax_tree.specs.declared.literal.TheoryElement.{TheoryElement, roll-TheoryElement}
use Rattle.syntax_tree.specs.declared.rule.Head.{Head}
use Rattle.syntax_tree.specs.declared.rule.Head.TheVariants as head
use Rattle.syntax_tree.specs.declared.rule.Choice.{Choice}
use Rattle.syntax_tree.specs.declared.rule.ChoiceElement.{ChoiceElement}
use Rattle.syntax_tree.specs.declared.rule.Rule.{Rule}
use Rattle.syntax_tree.specs.declared.statement.Statement.{Statement}
use Rattle.syntax_tree.specs.declared.statement.Statement.TheVariants as statement

-- constants with their values, in the order in which they are defined
abbrev pub Constants : Type 0
Constants = List (List ℕ × Symbol)

-- the value of a name, where it is a constant
abbrev pub value_at : Constants → List ℕ → Option Symbol
value_at constants name = lookup (bytes_eq name) constants

-- TERMS

-- a name before its arguments; where it is empty, a tuple
abbrev pub applied : List ℕ → List Term → Term
applied [] args = t.Tuple args
applied (byte ∷ name) args = t.Function (byte ∷ name) args

abbrev mutual
  -- a symbol as a term
  pub term_of : Symbol → Term
  term_of (Number n) = t.Number n
  term_of (Identifier name) = t.Function name []
  term_of (Text text) = t.Text text
  term_of (Function name args) = applied name (terms_of args)

  pub terms_of : Symbols → List Term
  terms_of NoSymbols = []
  terms_of (MoreSymbols symbol rest) = term_of symbol ∷ terms_of rest

abbrev pub value_or_name : List ℕ → Option Symbol → Term
value_or_name name None = t.Function name []
value_or_name name (Some symbol) = term_of symbol

-- a name without arguments is replaced where it is a constant, and one with arguments stays
abbrev pub replaced_name : Constants → List ℕ → List Term → Term
replaced_name constants name [] = value_or_name name (value_at constants name)
replaced_name constants name (arg ∷ args) = t.Function name (arg ∷ args)

-- one layer of a term, where its parts are replaced
abbrev pub term_step : Constants → Term-F Term Part → Term
term_step constants (Term-F.Number n) = t.Number n
term_step constants (Term-F.Text text) = t.Text text
term_step constants (Term-F.Variable n) = t.Variable n
term_step constants Term-F.Anonymous = t.Anonymous
term_step constants (Term-F.Function name args) = replaced_name constants name args
term_step constants (Term-F.Tuple args) = t.Tuple args
term_step constants (Term-F.Sum parts) = t.Sum parts
term_step constants (Term-F.Product parts) = t.Product parts
term_step constants (Term-F.Minus inner) = t.Minus inner
term_step constants (Term-F.Interval left right) = t.Interval left right

abbrev pub part_step : Part-F Term Part → Part
part_step part = record { op = part.op; term = part.term }

-- a term with its constants replaced
abbrev pub replaced : Constants → Term → Term
replaced constants = fold-Term Term Part (term_step constants) part_step

abbrev pub replaced_part : Constants → Part → Part
replaced_part constants = fold-Part Term Part (term_step constants) part_step

-- one layer of an atom: its name stays, and its arguments are replaced
abbrev pub atom_step : Constants → Term → Term-F Term Part → Term
atom_step constants atom (Term-F.Function name args) = t.Function name (map (replaced constants) args)
atom_step constants atom layer = replaced constants atom

-- an atom with the constants in its arguments replaced
abbrev pub replaced_atom : Constants → Term → Term
replaced_atom constants atom = atom_step constants atom (out-Term atom)

-- LITERALS

abbrev pub replaced_guard : Constants → Guard → Guard
replaced_guard constants guard = record { rel = guard.rel; right = replaced constants guard.right }

-- one layer of a literal, where its parts are replaced
abbrev pub literal_step : Constants → Literal-F Literal TheoryAtom TheoryElement → Literal
literal_step constants (Literal-F.Atom atom sign) = l.Atom (replaced_atom constants atom) sign
literal_step constants (Literal-F.Compare left rel right) = l.Compare (replaced constants left) rel (replaced constants right)
literal_step constants (Literal-F.Theory atom sign) = l.Theory atom sign

abbrev pub theory_step : Constants → TheoryAtom-F Literal TheoryAtom TheoryElement → TheoryAtom
theory_step constants atom =
    roll-TheoryAtom (record { name = atom.name; elements = atom.elements; guard = option_map (replaced_guard constants) atom.guard })

abbrev pub element_step : Constants → TheoryElement-F Literal TheoryAtom TheoryElement → TheoryElement
element_step constants element = roll-TheoryElement (record {
  first = replaced constants element.first;
  duration = option_map (replaced constants) element.duration;
  rest = map (replaced constants) element.rest;
  condition = element.condition;
})

-- a literal with its constants replaced
abbrev pub replaced_literal : Constants → Literal → Literal
replaced_literal constants = fold-Literal Literal TheoryAtom TheoryElement (literal_step constants) (theory_step constants) (element_step constants)

abbrev pub replaced_theory : Constants → TheoryAtom → TheoryAtom
replaced_theory constants = fold-TheoryAtom Literal TheoryAtom TheoryElement (literal_step constants) (theory_step constants) (element_step constants)

abbrev pub replaced_element : Constants → TheoryElement → TheoryElement
replaced_element constants = fold-TheoryElement Literal TheoryAtom TheoryElement (literal_step constants) (theory_step constants) (element_step constants)

-- STATEMENTS

abbrev pub replaced_choice_element : Constants → ChoiceElement → ChoiceElement
replaced_choice_element constants element =
    record { atom = replaced_atom constants element.atom; condition = map (replaced_literal constants) element.condition }

abbrev pub replaced_choice : Constants → Choice → Choice
replaced_choice constants choice = record {
  left = option_map (replaced_guard constants) choice.left;
  elements = map (replaced_choice_element constants) choice.elements;
  right = option_map (replaced_guard constants) choice.right;
}

abbrev pub replaced_head : Constants → Head → Head
replaced_head constants head.Nothing = head.Nothing
replaced_head constants (head.Atom atom) = head.Atom (replaced_atom constants atom)
replaced_head constants (head.Theory atom) = head.Theory (replaced_theory constants atom)
replaced_head constants (head.Choice choice) = head.Choice (replaced_choice constants choice)

-- a rule with its constants replaced; its names and places stay
abbrev pub replaced_rule : Constants → Rule → Rule
replaced_rule constants rule = record {
  head = replaced_head constants rule.head;
  body = map (replaced_literal constants) rule.body;
  arrow = rule.arrow;
  names = rule.names;
  places = rule.places;
}

-- a statement with its constants replaced: rules alone change
abbrev pub replaced_statement : Constants → Statement → Statement
replaced_statement constants (statement.Rule rule) = statement.Rule (replaced_rule constants rule)
replaced_statement constants (statement.Constant name term place) = statement.Constant name term place
replaced_statement constants statement.ShowNothing = statement.ShowNothing
replaced_statement constants (statement.Show name arity) = statement.Show name arity
