-- In which ways a predicate is reached: at once, or from another one.
use Rattle.std.specs.Prelude.{◌≡◌, ℕ, zero, suc, Bool, true, false, List, [], ◌∷◌, ◌++◌, map, length, Option, None, Some, slice_get, if◌then◌else◌}
use Rattle.std.specs.List.{flat_map, list_any}
use Rattle.syntax_tree.specs.declared.term.Part.{Part}
use Rattle.syntax_tree.specs.declared.term.Term.{Term, out-Term}
use Rattle.syntax_tree.specs.declared.term.Term.TheOpen.{Term-F}
use Rattle.syntax_tree.specs.declared.statement.Statement.{Statement}
use Rattle.syntax_tree.specs.declared.statement.Statement.TheVariants as statement
use Rattle.ground_model.specs.Members.{IsMember}
use Rattle.definite_rules.specs.Rule.{DefiniteRule}
use Rattle.program_meaning.specs.Read.{PlainLiteral, PlainAtom, PlainCompare, ReadLiteral, ReadPlain, ReadTold, ReadChoice, ReadHead, ReadNothing, ReadAtom, ReadDuty, ReadChoose, ReadRule, rule_read, plains}
use Rattle.program_meaning.specs.Predicates as meant
use Rattle.predicate_order.specs.declared.predicate.Predicate.{Predicate}
use Rattle.predicate_order.specs.declared.reading.Reads.{Reads}
use Rattle.predicate_order.specs.declared.ways.Way.{Way}

-- a predicate as the meaning has it
abbrev pub said : Predicate → meant.Predicate
said p = record { name = p.name; count = p.count }

-- the predicate of an atom, if it has one
abbrev pub named_in : Term-F Term Part → List Predicate
named_in (Term-F.Number n) = []
named_in (Term-F.Text text) = []
named_in (Term-F.Variable n) = []
named_in Term-F.Anonymous = []
named_in (Term-F.Function name args) = record { name = name; count = length args } ∷ []
named_in (Term-F.Tuple args) = []
named_in (Term-F.Sum parts) = []
named_in (Term-F.Product parts) = []
named_in (Term-F.Minus inner) = []
named_in (Term-F.Interval left right) = []

abbrev pub named : Term → List Predicate
named term = named_in (out-Term term)

-- the predicates of positive atoms
abbrev pub positive_of : PlainLiteral → List Predicate
positive_of (PlainAtom term true) = named term
positive_of (PlainAtom term false) = []
positive_of (PlainCompare left rel right) = []

abbrev pub positives : List PlainLiteral → List Predicate
positives literals = flat_map positive_of literals

-- WAYS

-- a predicate is reached at once, or where another one is
pub record NamedWay : Type 0 where
  pub head : Predicate
  pub from : Option Predicate

abbrev pub from_other : Predicate → Predicate → NamedWay
from_other head other = record { head = head; from = Some other }

abbrev pub at_once : Predicate → NamedWay
at_once head = record { head = head; from = None }

abbrev pub ways_of : Reads → List NamedWay
ways_of reads = (if reads.at_once then at_once reads.head ∷ [] else []) ++ map (from_other reads.head) reads.others

-- it is reached in so many steps
abbrev pub IsFrom : (Predicate → Type 0) → Option Predicate → Type 0
IsFrom P None = Unit {0}
IsFrom P (Some p) = P p

abbrev pub ReachedIn : List NamedWay → ℕ → Predicate → Type 0
ReachedIn ways zero p = ⊥
ReachedIn ways (suc rank) p = (way : NamedWay) × IsMember ways way × (way.head ≡ p) × IsFrom (ReachedIn ways rank) way.from

abbrev pub IsReached : List NamedWay → Predicate → Type 0
IsReached ways p = (rank : ℕ) × ReachedIn ways rank p

-- by numbers: a number is the predicate's place among these
abbrev pub AreFrom : List Predicate → Option ℕ → Option Predicate → Type 0
AreFrom keys None None = Unit {0}
AreFrom keys None (Some p) = ⊥
AreFrom keys (Some n) None = ⊥
AreFrom keys (Some n) (Some p) = slice_get keys n ≡ Some p

abbrev pub IsNumbered : List Predicate → Way → NamedWay → Type 0
IsNumbered keys way named = (slice_get keys way.head ≡ Some named.head) × AreFrom keys way.from named.from

abbrev pub body_of : Option ℕ → List ℕ
body_of None = []
body_of (Some n) = n ∷ []

abbrev pub rule_of : Way → DefiniteRule
rule_of way = record { head = way.head; body = body_of way.from }

-- THE WAYS OF RULES

-- a literal that keeps the head from being of a domain predicate at once: a negated atom, a theory literal
abbrev pub blocks : ReadLiteral → Bool
blocks (ReadTold theory sign) = true
blocks (ReadPlain (PlainAtom term true)) = false
blocks (ReadPlain (PlainAtom term false)) = true
blocks (ReadPlain (PlainCompare left rel right)) = false

abbrev pub blocking : List ReadLiteral → Predicate → Reads
blocking body p = record { head = p; at_once = list_any blocks body; others = positives (plains body) }

abbrev pub chosen : Predicate → Reads
chosen p = record { head = p; at_once = true; others = [] }

abbrev pub chosen_in : ReadChoice → List Reads
chosen_in element = map chosen (named element.atom)

abbrev pub head_blocking : ReadHead → List ReadLiteral → List Reads
head_blocking ReadNothing body = []
head_blocking (ReadAtom term) body = map (blocking body) (named term)
head_blocking (ReadDuty theory) body = []
head_blocking (ReadChoose left elements right) body = flat_map chosen_in elements

-- what keeps predicates from being domain predicates
abbrev pub blocking_reads : ReadRule → List Reads
blocking_reads rule = head_blocking rule.head rule.body

abbrev pub stepping : List Predicate → Predicate → Reads
stepping others p = record { head = p; at_once = false; others = others }

abbrev pub steps_in : List PlainLiteral → ReadChoice → List Reads
steps_in body element = map (stepping (positives body ++ positives element.condition)) (named element.atom)

abbrev pub head_steps : ReadHead → List PlainLiteral → List Reads
head_steps ReadNothing body = []
head_steps (ReadAtom term) body = map (stepping (positives body)) (named term)
head_steps (ReadDuty theory) body = []
head_steps (ReadChoose left elements right) body = flat_map (steps_in body) elements

-- on what predicates depend
abbrev pub step_reads : ReadRule → List Reads
step_reads rule = head_steps rule.head (plains rule.body)

-- the rules among statements, as they are read; the order of their variables aside
abbrev pub bare_rule : Statement → List ReadRule
bare_rule (statement.Rule rule) = rule_read rule [] ∷ []
bare_rule (statement.Constant name term place) = []
bare_rule statement.ShowNothing = []
bare_rule (statement.Show name arity) = []

abbrev pub bare_rules : List Statement → List ReadRule
bare_rules statements = flat_map bare_rule statements

abbrev pub blocking_ways : List ReadRule → List NamedWay
blocking_ways rules = flat_map (λ rule. flat_map ways_of (blocking_reads rule)) rules

abbrev pub step_ways : List ReadRule → List NamedWay
step_ways rules = flat_map (λ rule. flat_map ways_of (step_reads rule)) rules
