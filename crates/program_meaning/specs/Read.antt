-- Rules as they are read here: intervals stand as the right side of `=` and as whole elements of `&dom` alone, and there is no `_`.
use Rattle.std.specs.Prelude.{ℕ, Bool, List, [], ◌∷◌, Option, map}
use Rattle.std.specs.List.{flat_map}
use Rattle.symbols.specs.declared.rel.Rel.{Rel}
use Rattle.syntax_tree.specs.declared.term.Term.{Term}
use Rattle.syntax_tree.specs.declared.literal.TheoryName.{TheoryName}
use Rattle.syntax_tree.specs.declared.literal.Guard.{Guard}
use Rattle.syntax_tree.specs.declared.literal.Literal.{Literal}
use Rattle.syntax_tree.specs.declared.literal.Literal.TheOpen.{Literal-F, TheoryAtom-F, TheoryElement-F}
use Rattle.syntax_tree.specs.declared.literal.Literal.TheFolds.{fold-Literal, fold-TheoryAtom}
use Rattle.syntax_tree.specs.declared.literal.TheoryAtom.{TheoryAtom}
use Rattle.syntax_tree.specs.declared.rule.ChoiceElement.{ChoiceElement}
use Rattle.syntax_tree.specs.declared.rule.Head.{Head}
use Rattle.syntax_tree.specs.declared.rule.Head.TheVariants as head
use Rattle.syntax_tree.specs.declared.rule.Rule.{Rule}
use Rattle.syntax_tree.specs.declared.statement.Statement.{Statement}
use Rattle.syntax_tree.specs.declared.statement.Statement.TheVariants as statement

-- an atom, with a sign, or a comparison
pub data PlainLiteral : Type 0 where
  PlainAtom : Term → Bool → PlainLiteral
  PlainCompare : Term → Rel → Term → PlainLiteral

-- an element of a theory atom
pub record ReadElement : Type 0 where
  pub first : Term
  pub duration : Option Term
  pub rest : List Term
  pub condition : List PlainLiteral

-- a theory atom
pub record ReadTheory : Type 0 where
  pub name : TheoryName
  pub elements : List ReadElement
  pub guard : Option Guard

-- a literal of a body
pub data ReadLiteral : Type 0 where
  ReadPlain : PlainLiteral → ReadLiteral
  ReadTold : ReadTheory → Bool → ReadLiteral

-- an element of a choice
pub record ReadChoice : Type 0 where
  pub atom : Term
  pub condition : List PlainLiteral

-- a head: none, an atom, a theory atom, or elements to choose from between two bounds
pub data ReadHead : Type 0 where
  ReadNothing : ReadHead
  ReadAtom : Term → ReadHead
  ReadDuty : ReadTheory → ReadHead
  ReadChoose : Option Guard → List ReadChoice → Option Guard → ReadHead

-- a rule, with all its variables in the order in which they first occur in its text
pub record ReadRule : Type 0 where
  pub head : ReadHead
  pub body : List ReadLiteral
  pub order : List ℕ

-- what `#show` says: nothing more, or one predicate more, by name and number of arguments
pub data ReadShow : Type 0 where
  ShowsNothing : ReadShow
  ShowsPredicate : List ℕ → ℕ → ReadShow

-- a program: its rules and its `#show` statements, in order
pub record ReadProgram : Type 0 where
  pub rules : List ReadRule
  pub shows : List ReadShow

-- LITERALS

abbrev pub plain_of : ReadLiteral → List PlainLiteral
plain_of (ReadPlain literal) = literal ∷ []
plain_of (ReadTold theory sign) = []

-- the atoms and comparisons among literals
abbrev pub plains : List ReadLiteral → List PlainLiteral
plains literals = flat_map plain_of literals

-- a condition holds atoms and comparisons alone
abbrev pub read_element : TheoryElement-F ReadLiteral ReadTheory ReadElement → ReadElement
read_element element = record {
  first = element.first;
  duration = element.duration;
  rest = element.rest;
  condition = plains element.condition;
}

abbrev pub read_theory : TheoryAtom-F ReadLiteral ReadTheory ReadElement → ReadTheory
read_theory theory = record { name = theory.name; elements = theory.elements; guard = theory.guard }

abbrev pub read_literal : Literal-F ReadLiteral ReadTheory ReadElement → ReadLiteral
read_literal (Literal-F.Atom term sign) = ReadPlain (PlainAtom term sign)
read_literal (Literal-F.Compare left rel right) = ReadPlain (PlainCompare left rel right)
read_literal (Literal-F.Theory theory sign) = ReadTold theory sign

-- a literal as it is read
abbrev pub literal_read : Literal → ReadLiteral
literal_read = fold-Literal ReadLiteral ReadTheory ReadElement read_literal read_theory read_element

-- a theory atom as it is read
abbrev pub theory_read : TheoryAtom → ReadTheory
theory_read = fold-TheoryAtom ReadLiteral ReadTheory ReadElement read_literal read_theory read_element

-- RULES

abbrev pub choice_read : ChoiceElement → ReadChoice
choice_read element = record { atom = element.atom; condition = plains (map literal_read element.condition) }

abbrev pub head_read : Head → ReadHead
head_read head.Nothing = ReadNothing
head_read (head.Atom term) = ReadAtom term
head_read (head.Theory theory) = ReadDuty (theory_read theory)
head_read (head.Choice choice) = ReadChoose choice.left (map choice_read choice.elements) choice.right

-- a rule as it is read, beside its variables in order
abbrev pub rule_read : Rule → List ℕ → ReadRule
rule_read rule order = record { head = head_read rule.head; body = map literal_read rule.body; order = order }

-- the rules of statements, each beside its variables in order
abbrev pub rules_read : List Statement → List (List ℕ) → List ReadRule
rules_read [] orders = []
rules_read (statement.Rule rule ∷ statements) [] = []
rules_read (statement.Rule rule ∷ statements) (order ∷ orders) = rule_read rule order ∷ rules_read statements orders
rules_read (statement ∷ statements) [] = []
rules_read (statement ∷ statements) (order ∷ orders) = rules_read statements orders

abbrev pub show_read : Statement → List ReadShow
show_read statement.ShowNothing = ShowsNothing ∷ []
show_read (statement.Show name arity) = ShowsPredicate name arity ∷ []
show_read statement = []

-- a program as it is read, from its statements and for each of them its variables in order
abbrev pub program_read : List Statement → List (List ℕ) → ReadProgram
program_read statements orders = record { rules = rules_read statements orders; shows = flat_map show_read statements }
