-- Rules that pass the checks of a text, as far as grounding rests on them.
use Rattle.std.specs.Prelude.{◌≡◌, ◌≤◌, true, List, map, length, None}
use Rattle.std.specs.List.{AllByRecursion}
use Rattle.syntax_tree.specs.declared.rule.Rule.{Rule}
use Rattle.rewriting.specs.Order.{order_of}
use Rattle.program_meaning.specs.Read.{PlainLiteral, PlainAtom, PlainCompare, ReadElement, ReadLiteral, ReadPlain, ReadTold, ReadChoice, ReadHead, ReadNothing, ReadAtom, ReadDuty, ReadChoose, literal_read, head_read}
use Rattle.program_meaning.specs.Comparison.{ends}
use Rattle.groundable_rules.specs.Groundable.{may_be_told, may_be_duty}
use Rattle.rewritten_rules.specs.Named.{AreNamed}

-- the left side of a comparison is no interval
abbrev pub IsPlainChecked : PlainLiteral → Type 0
IsPlainChecked (PlainAtom term sign) = Unit {0}
IsPlainChecked (PlainCompare left rel right) = ends left ≡ None

abbrev pub AreChecked : List PlainLiteral → Type 0
AreChecked literals = AllByRecursion IsPlainChecked literals

abbrev pub IsElementChecked : ReadElement → Type 0
IsElementChecked element = AreChecked element.condition

abbrev pub IsChoiceChecked : ReadChoice → Type 0
IsChoiceChecked element = AreChecked element.condition

-- a theory atom in a body may stand there
abbrev pub IsLiteralChecked : ReadLiteral → Type 0
IsLiteralChecked (ReadPlain literal) = IsPlainChecked literal
IsLiteralChecked (ReadTold theory sign) = (may_be_told theory ≡ true) × AllByRecursion IsElementChecked theory.elements

-- one that is a head may be a head
abbrev pub IsHeadChecked : ReadHead → Type 0
IsHeadChecked ReadNothing = Unit {0}
IsHeadChecked (ReadAtom term) = Unit {0}
IsHeadChecked (ReadDuty theory) = (may_be_duty theory ≡ true) × AllByRecursion IsElementChecked theory.elements
IsHeadChecked (ReadChoose left elements right) = AllByRecursion IsChoiceChecked elements

-- no left side of a comparison is an interval, and theory atoms stand where they may
pub record IsChecked (rule : Rule) : Type 0 where
  pub head : IsHeadChecked (head_read rule.head)
  pub body : AllByRecursion IsLiteralChecked (map literal_read rule.body)

-- the rule passes the checks, its named variables are numbered, and it has at most 64 variables with those of `_` and of intervals that are
-- arguments
pub record IsCheckedRule (rule : Rule) : Type 0 where
  pub checked : IsChecked rule
  pub named : AreNamed rule
  pub few : length (order_of rule) ≤ 64
