-- Rules without `_` and without intervals as arguments: each gives way to a variable of its own. An interval's variable comes with the
-- comparison `V = l..r`, behind the condition of the element in which the interval stands, else behind the body, and stands in the text,
-- and is numbered, before the variables inside the interval.
use Rattle.std.specs.Prelude.{ℕ, suc, ◌+◌, List, [], ◌∷◌, ◌++◌, length, map, Option}
use Rattle.symbols.specs.declared.rel.Rel.TheVariants.{Equal}
use Rattle.syntax_tree.specs.declared.term.Op.{Op}
use Rattle.syntax_tree.specs.declared.term.Part.{Part}
use Rattle.syntax_tree.specs.declared.term.Term.{Term}
use Rattle.syntax_tree.specs.declared.term.Term.TheOpen.{Term-F, Part-F}
use Rattle.syntax_tree.specs.declared.term.Term.TheFolds.{fold-Term, fold-Part}
use Rattle.syntax_tree.specs.declared.term.Term.TheVariants as t
use Rattle.syntax_tree.specs.declared.literal.Guard.{Guard}
use Rattle.syntax_tree.specs.declared.literal.Literal.{Literal}
use Rattle.syntax_tree.specs.declared.literal.Literal.TheVariants as l
use Rattle.syntax_tree.specs.declared.literal.Literal.TheOpen.{Literal-F, TheoryAtom-F, TheoryElement-F}
use Rattle.syntax_tree.specs.declared.literal.Literal.TheFolds.{fold-Literal, fold-TheoryAtom, fold-TheoryElement}
use Rattle.syntax_tree.specs.declared.literal.TheoryAtom.{TheoryAtom, roll-TheoryAtom}
use Rattle.syntax_tree.specs.declared.literal.TheoryElement.{TheoryElement, roll-TheoryElement}
use Rattle.syntax_tree.specs.declared.rule.ChoiceElement.{ChoiceElement}
use Rattle.syntax_tree.specs.declared.rule.Choice.{Choice}
use Rattle.syntax_tree.specs.declared.rule.Head.{Head}
use Rattle.syntax_tree.specs.declared.rule.Head.TheVariants as head
use Rattle.syntax_tree.specs.declared.rule.Rule.{Rule}
use Rattle.syntax_tree.specs.declared.statement.Statement.{Statement}
use Rattle.syntax_tree.specs.declared.statement.Statement.TheVariants as statement
use Rattle.rewriting.specs.declared.sight.Sight.TheVariants as sight
use Rattle.rewriting.specs.Made.{Made, same, seeing, mapped, both, each, maybe}

-- TERMS

-- a term is rewritten in two ways: as an argument of an atom, a function or a tuple, and elsewhere
pub record Ways : Type 0 where
  pub elsewhere : ℕ → Made Term
  pub argument : ℕ → Made Term

abbrev pub alike : (ℕ → Made Term) → Ways
alike way = record { elsewhere = way; argument = way }

-- the variable for an interval that is an argument
abbrev pub for_interval : ℕ → Made Term → Made Term
for_interval n interval = record {
  made = t.Variable n;
  next = interval.next;
  added = l.Compare (t.Variable n) Equal interval.made ∷ interval.added;
  sights = sight.Interval n ∷ interval.sights;
}

abbrev pub interval_ways : Ways → Ways → Ways
interval_ways low high = record {
  elsewhere = both t.Interval low.elsewhere high.elsewhere;
  argument = λ next. for_interval next (both t.Interval low.elsewhere high.elsewhere (suc next));
}

abbrev pub part_way : Op × Ways → ℕ → Made Part
part_way part next = mapped (λ term. record { op = part.0; term = term }) (part.1.elsewhere next)

abbrev pub arguments_way : List Ways → ℕ → Made (List Term)
arguments_way args = each (map (λ arg. arg.argument) args)

abbrev pub parts_way : List (Op × Ways) → ℕ → Made (List Part)
parts_way parts = each (map part_way parts)

-- one layer of a term
abbrev pub term_ways : Term-F Ways (Op × Ways) → Ways
term_ways (Term-F.Number n) = alike (same (t.Number n))
term_ways (Term-F.Text text) = alike (same (t.Text text))
term_ways (Term-F.Variable n) = alike (λ next. seeing (sight.Variable n) (same (t.Variable n) next))
term_ways Term-F.Anonymous = alike (λ next. seeing (sight.Anonymous next) (same (t.Variable next) (suc next)))
term_ways (Term-F.Function name args) = alike (λ next. mapped (t.Function name) (arguments_way args next))
term_ways (Term-F.Tuple args) = alike (λ next. mapped t.Tuple (arguments_way args next))
term_ways (Term-F.Sum parts) = alike (λ next. mapped t.Sum (parts_way parts next))
term_ways (Term-F.Product parts) = alike (λ next. mapped t.Product (parts_way parts next))
term_ways (Term-F.Minus inner) = alike (λ next. mapped t.Minus (inner.elsewhere next))
term_ways (Term-F.Interval low high) = interval_ways low high

abbrev pub part_ways : Part-F Ways (Op × Ways) → Op × Ways
part_ways part = (part.op, part.term)

abbrev pub ways : Term → Ways
ways = fold-Term Ways (Op × Ways) term_ways part_ways

abbrev pub ways_in : Part → Op × Ways
ways_in = fold-Part Ways (Op × Ways) term_ways part_ways

-- a term that is no argument
abbrev pub term_made : Term → ℕ → Made Term
term_made term = (ways term).elsewhere

abbrev pub guard_made : Guard → ℕ → Made Guard
guard_made guard next = mapped (λ right. record { rel = guard.rel; right = right }) (term_made guard.right next)

-- LITERALS

abbrev pub atom_made : Term → ℕ → Made Term
atom_made atom next = seeing sight.Atom (term_made atom next)

-- one layer of a literal
abbrev pub literal_way : Literal-F (ℕ → Made Literal) (ℕ → Made TheoryAtom) (ℕ → Made TheoryElement) → ℕ → Made Literal
literal_way (Literal-F.Atom atom sign) next = mapped (λ made. l.Atom made sign) (atom_made atom next)
literal_way (Literal-F.Compare left rel right) next = both (λ a b. l.Compare a rel b) (term_made left) (term_made right) next
literal_way (Literal-F.Theory theory sign) next = mapped (λ made. l.Theory made sign) (theory next)

-- the places of an element of a theory atom
pub record Places : Type 0 where
  pub first : Term
  pub duration : Option Term
  pub rest : List Term

abbrev pub places_made : Term → Option Term → List Term → ℕ → Made Places
places_made first duration rest =
    both (λ first (more : Option Term × List Term). record { first = first; duration = more.0; rest = more.1 }) (term_made first)
    (both (λ duration rest. (duration, rest)) (maybe term_made duration) (each (map term_made rest)))

-- what comes with an element is put behind its condition
abbrev pub closed : {X Y : Type 0} → (X → List Literal → Y) → Made X → Made (List Literal) → Made Y
closed f a b = record { made = f a.made (b.made ++ (a.added ++ b.added)); next = b.next; added = []; sights = a.sights ++ b.sights }

abbrev pub with_condition : Places → List Literal → TheoryElement
with_condition places condition =
    roll-TheoryElement (record { first = places.first; duration = places.duration; rest = places.rest; condition = condition })

-- one layer of an element of a theory atom
abbrev pub element_way : TheoryElement-F (ℕ → Made Literal) (ℕ → Made TheoryAtom) (ℕ → Made TheoryElement) → ℕ → Made TheoryElement
element_way element next =
    closed with_condition (places_made element.first element.duration element.rest next)
    (each element.condition (places_made element.first element.duration element.rest next).next)

-- one layer of a theory atom
abbrev pub theory_way : TheoryAtom-F (ℕ → Made Literal) (ℕ → Made TheoryAtom) (ℕ → Made TheoryElement) → ℕ → Made TheoryAtom
theory_way theory =
    both (λ elements guard. roll-TheoryAtom (record { name = theory.name; elements = elements; guard = guard })) (each theory.elements)
    (maybe guard_made theory.guard)

abbrev pub literal_made : Literal → ℕ → Made Literal
literal_made = fold-Literal (ℕ → Made Literal) (ℕ → Made TheoryAtom) (ℕ → Made TheoryElement) literal_way theory_way element_way

abbrev pub theory_made : TheoryAtom → ℕ → Made TheoryAtom
theory_made = fold-TheoryAtom (ℕ → Made Literal) (ℕ → Made TheoryAtom) (ℕ → Made TheoryElement) literal_way theory_way element_way

abbrev pub element_made : TheoryElement → ℕ → Made TheoryElement
element_made = fold-TheoryElement (ℕ → Made Literal) (ℕ → Made TheoryAtom) (ℕ → Made TheoryElement) literal_way theory_way element_way

-- RULES

abbrev pub choice_element_made : ChoiceElement → ℕ → Made ChoiceElement
choice_element_made element next =
    closed (λ atom condition. record { atom = atom; condition = condition }) (atom_made element.atom next)
    (each (map literal_made element.condition) (atom_made element.atom next).next)

abbrev pub choice_made : Choice → ℕ → Made Choice
choice_made choice =
    both (λ left (more : List ChoiceElement × Option Guard). record { left = left; elements = more.0; right = more.1 })
    (maybe guard_made choice.left)
    (both (λ elements right. (elements, right)) (each (map choice_element_made choice.elements)) (maybe guard_made choice.right))

abbrev pub head_made : Head → ℕ → Made Head
head_made head.Nothing next = same head.Nothing next
head_made (head.Atom atom) next = mapped head.Atom (atom_made atom next)
head_made (head.Theory theory) next = mapped head.Theory (theory_made theory next)
head_made (head.Choice choice) next = mapped head.Choice (choice_made choice next)

-- the head and the body of a rule; new variables are numbered behind the named ones
abbrev pub parts_made : Rule → Made (Head × List Literal)
parts_made rule = both (λ head body. (head, body)) (head_made rule.head) (each (map literal_made rule.body)) (length rule.names + 1)

-- the rule rewritten
abbrev pub rewritten : Rule → Rule
rewritten rule = record {
  head = (parts_made rule).made.0;
  body = (parts_made rule).made.1 ++ (parts_made rule).added;
  arrow = rule.arrow;
  names = rule.names;
  places = rule.places;
}

-- the statement rewritten: rules alone change
abbrev pub rewritten_statement : Statement → Statement
rewritten_statement (statement.Rule rule) = statement.Rule (rewritten rule)
rewritten_statement (statement.Constant name term place) = statement.Constant name term place
rewritten_statement statement.ShowNothing = statement.ShowNothing
rewritten_statement (statement.Show name arity) = statement.Show name arity
