-- The classes of conditions and theory atoms. The readers of this crate and of statements, and their laws, cite this file.
use Rattle.std.specs.Prelude.{◌≡◌, ℕ, ◌+◌, ◌≤◌, length, Result, Ok, Err, Bool, true, false, not, ◌&&◌, if◌then◌else◌, Option, Some, None, List, [], ◌∷◌, ◌++◌}
use Rattle.std.specs.Option.{is_some}
use Rattle.symbols.specs.declared.rel.Rel.{Rel}
use Rattle.syntax_tree.specs.declared.rule.Name.{Name}
use Rattle.syntax_tree.specs.declared.term.Term.{Term, out-Term}
use Rattle.syntax_tree.specs.declared.term.Term.TheOpen.{Term-F}
use Rattle.syntax_tree.specs.declared.term.Op.{Op}
use Rattle.syntax_tree.specs.declared.term.Op.TheVariants as op
use Rattle.syntax_tree.specs.declared.term.Part.{Part}
use Rattle.syntax_tree.specs.declared.literal.Guard.{Guard}
use Rattle.syntax_tree.specs.declared.literal.Literal.{Literal}
use Rattle.syntax_tree.specs.declared.literal.TheoryElement.{TheoryElement}
use Rattle.syntax_tree.specs.declared.literal.TheoryName.{TheoryName}
use Rattle.grammar.specs.declared.mark.Mark.{Mark}
use Rattle.grammar.specs.declared.mark.Mark.TheVariants as m
use Rattle.grammar.specs.declared.shape.Shape.{Shape}
use Rattle.grammar.specs.declared.shape.Shape.TheVariants.{Other}
use Rattle.lexer.specs.declared.token.Token.{Token}
use Rattle.grammar.specs.Word.{Word, words_at, is_word}
use Rattle.grammar.specs.Parts.{maybe_words, marked_words, signed_words, pair_words, maybe_gives, further}
use Rattle.grammar.specs.Row.{Row}
use Rattle.grammar.specs.Term.{AtomAt, TermAt, Operand, Room, comma, comma_word, atom_words, operand_words}
use Rattle.grammar.specs.Shape.{operand_shape}
use Rattle.grammar.specs.Tree.{unary_tree, operand_tree, atom_tree}
use Rattle.grammar.specs.Sight.{size, operand_sights, operand_bads, atom_bads}
use Rattle.grammar.specs.Theory.{ConditionOf, PlacesOf, GivenOf, ElementOf, rel_word, semicolon, semicolon_word, condition_words, element_words}
use Rattle.grammar.specs.StatementTree.{items_of, condition_tree, given_trees, guard_of, guard_tree, maybe_tree, element_tree}
use Rattle.grammar.specs.StatementSight.{atom_seen, condition_sights, element_sights}
use Rattle.grammar.specs.Check.{is_equal, is_diff, is_dom, is_disjoint, has_one_place, places_where, operand_is_difference, unary_is_difference, term_is_difference, condition_bads, given_bads, element_bads, second_bads}
use Rattle.grammar.specs.Reading.{maybe_with, marked_with, pair_with, level}
use Rattle.grammar.specs.TheoryReading.{begins, begins_term, is_relation, atom_with, compared_with, condition_with, element_with}
use Rattle.theory_grammar.specs.State.{Class, Fails, least, named, seen_places, Extends, unary_class, part_class, term_class, list_class}
use Rattle.theory_grammar.specs.declared.seen.Seen.{Seen}
use Rattle.theory_grammar.specs.declared.fault.Stop.{Stop}

-- the relation of a guard in a tree
abbrev pub relation_there : Option Guard → Option Rel
relation_there None = None
relation_there (Some guard) = Some guard.rel

-- a sum of two terms with `-` between them
abbrev pub is_minus : Op → Bool
is_minus op.Minus = true
is_minus op.Plus = false
is_minus op.Times = false
is_minus op.Divide = false
is_minus op.Remainder = false

abbrev pub ends_by_minus : List Part → Bool
ends_by_minus (first ∷ second ∷ []) = is_minus second.op
ends_by_minus _ = false

abbrev pub difference_by : Term-F Term Part → Bool
difference_by (Term-F.Sum parts) = ends_by_minus parts
difference_by (Term-F.Number n) = false
difference_by (Term-F.Text text) = false
difference_by (Term-F.Variable n) = false
difference_by Term-F.Anonymous = false
difference_by (Term-F.Function name args) = false
difference_by (Term-F.Tuple args) = false
difference_by (Term-F.Product parts) = false
difference_by (Term-F.Minus inner) = false
difference_by (Term-F.Interval left right) = false

abbrev pub tree_is_difference : Term → Bool
tree_is_difference term = difference_by (out-Term term)

-- ---- parts of forms
-- a form that may be missing, with its trees and bad places
abbrev pub maybe_class : {A X Y : Type 0} → (Word → Bool) → (List Name → Option A → Y) → (Option A → ℕ → List ℕ) → Class A X → Class (Option A) Y
maybe_class starts tree bads c = record {
  words = maybe_words c.words;
  read = maybe_with starts c.read;
  shape = λ o. Other;
  tree = tree;
  sights = maybe_gives c.sights;
  bads = bads;
}

abbrev pub marked_class : {A X : Type 0} → Mark → Class A X → Class A X
marked_class mark c = record {
  words = marked_words mark c.words;
  read = marked_with mark c.read;
  shape = λ a. Other;
  tree = c.tree;
  sights = further c.sights;
  bads = further c.bads;
}

-- a form with more bad places, where it begins
abbrev pub more_class : {A X : Type 0} → (ℕ → List ℕ) → Class A X → Class A X
more_class extra c = record {
  words = c.words;
  read = c.read;
  shape = c.shape;
  tree = c.tree;
  sights = c.sights;
  bads = λ a at. extra at ++ c.bads a at;
}

abbrev pub pair_class : {A B X Y : Type 0} → Class A X → Class B Y → Class (A × B) (X × Y)
pair_class c d = record {
  words = pair_words c.words d.words;
  read = pair_with c.read d.read;
  shape = λ p. Other;
  tree = λ names p. (c.tree names p.0, d.tree names p.1);
  sights = λ p at. c.sights p.0 at ++ d.sights p.1 (at + size c.words p.0);
  bads = λ p at. c.bads p.0 at ++ d.bads p.1 (at + size c.words p.0);
}

-- ---- at the greatest depth
abbrev pub whole_class : Class (TermAt 64) Term
whole_class = term_class (unary_class 64)

-- a term that may be an interval where that is free
abbrev pub judged_class : Bool → Class (TermAt 64) Term
judged_class free = record {
  words = whole_class.words;
  read = whole_class.read;
  shape = whole_class.shape;
  tree = whole_class.tree;
  sights = whole_class.sights;
  bads = λ term at. (if free then whole_class.bads term at else (part_class whole_class).bads term at);
}

abbrev pub judged_shape : Bool → Shape → Shape
judged_shape true shape = Other
judged_shape false shape = shape

-- a relation and what stands behind it; an interval may stand behind `=` where that is free
abbrev pub compared_class : Bool → Class (Rel × TermAt 64) Guard
compared_class free = record {
  words = signed_words rel_word whole_class.words;
  read = compared_with (level 64);
  shape = λ p. Other;
  tree = λ names p. guard_of (operand_tree names 64) (unary_tree names (operand_tree names 64)) p.0 p.1;
  sights = further (λ p. whole_class.sights p.1);
  bads = further (λ p at. (judged_class (free && is_equal p.0)).bads p.1 at);
}

abbrev pub guard_class : Class (Option (Rel × TermAt 64)) (Option Guard)
guard_class = maybe_class is_relation (λ names o. guard_tree (operand_tree names 64) (unary_tree names (operand_tree names 64)) o) (maybe_gives (compared_class false).bads) (compared_class false)

abbrev pub atom_class : Class (AtomAt 64) Term
atom_class = record {
  words = atom_words (operand_words 64);
  read = atom_with (level 64);
  shape = λ a. Other;
  tree = λ names a. atom_tree (operand_tree names 64) a;
  sights = atom_seen (operand_words 64) (operand_shape 64) (operand_sights 64);
  bads = atom_bads (operand_words 64) (operand_shape 64) (operand_bads 64);
}

abbrev pub condition_class : Class (ConditionOf (Operand 64) (Room 64)) Literal
condition_class = record {
  words = condition_words (operand_words 64);
  read = condition_with (level 64);
  shape = λ c. Other;
  tree = λ names c. condition_tree (operand_tree names 64) (unary_tree names (operand_tree names 64)) c;
  sights = condition_sights (operand_words 64) (operand_shape 64) (operand_sights 64);
  bads = condition_bads (operand_words 64) (operand_shape 64) (operand_bads 64) (operand_is_difference 64);
}

abbrev pub conditions_class : Class (Row (ConditionOf (Operand 64) (Room 64)) (Unit {0})) (List Literal)
conditions_class = list_class condition_class comma_word comma (λ x. x) (λ sign x. x)

abbrev pub held_class : Class (Option (Row (ConditionOf (Operand 64) (Room 64)) (Unit {0}))) (List Literal)
held_class = maybe_class begins (λ names o. items_of (condition_class.tree names) o) (maybe_gives conditions_class.bads) conditions_class

-- what stands behind an element, where a condition may be refused
abbrev pub refused_bads : Bool → GivenOf (Operand 64) (Room 64) → ℕ → List ℕ
refused_bads refused condition at = places_where (is_some condition && refused) at ++ given_bads (operand_words 64) (operand_shape 64) (operand_bads 64) (operand_is_difference 64) condition at

abbrev pub given_class : Bool → Class (GivenOf (Operand 64) (Room 64)) (List Literal)
given_class refused =
    maybe_class (is_word m.Colon) (λ names o. given_trees (operand_tree names 64) (unary_tree names (operand_tree names 64)) o) (refused_bads refused)
    (marked_class m.Colon held_class)

-- a duration, in an element that begins at a place
abbrev pub duration_bads : TheoryName → ℕ → Option (TermAt 64) → ℕ → List ℕ
duration_bads name first None at = places_where (is_disjoint name) first
duration_bads name first (Some term) at = places_where (not (is_disjoint name)) at ++ (judged_class false).bads term (at + 1)

abbrev pub duration_class : TheoryName → ℕ → Class (Option (TermAt 64)) (Option Term)
duration_class name first = maybe_class (is_word m.At) (λ names o. maybe_tree (operand_tree names 64) (unary_tree names (operand_tree names 64)) o) (duration_bads name first) (marked_class m.At (judged_class false))

-- a further place, and all of them
abbrev pub place_class : TheoryName → Class (TermAt 64) Term
place_class name = more_class (places_where (has_one_place name)) (judged_class false)

abbrev pub row_class : TheoryName → Class (PlacesOf (Operand 64) (Room 64)) (List Term)
row_class name = list_class (place_class name) comma_word comma (λ x. x) (λ sign x. x)

abbrev pub places_class : TheoryName → Class (Option (PlacesOf (Operand 64) (Room 64))) (List Term)
places_class name = maybe_class (is_word m.Comma) (λ names o. items_of (whole_class.tree names) o) (maybe_gives (marked_class m.Comma (row_class name)).bads) (marked_class m.Comma (row_class name))

-- the first place of an element
abbrev pub first_class : TheoryName → Class (TermAt 64) Term
first_class name = record {
  words = whole_class.words;
  read = whole_class.read;
  shape = whole_class.shape;
  tree = whole_class.tree;
  sights = whole_class.sights;
  bads = λ term at. places_where (is_diff name && not (term_is_difference (unary_is_difference {R = Room 64} (operand_is_difference 64)) term)) at ++ (judged_class (is_dom name)).bads term at;
}

abbrev pub parts_class : TheoryName → ℕ → Class (TermAt 64 × (Option (TermAt 64) × (Option (PlacesOf (Operand 64) (Room 64)) × GivenOf (Operand 64) (Room 64)))) (Term × (Option Term × (List Term × List Literal)))
parts_class name first = pair_class (first_class name) (pair_class (duration_class name first) (pair_class (places_class name) (given_class (is_diff name))))

abbrev pub element_class : TheoryName → Class (ElementOf (Operand 64) (Room 64)) TheoryElement
element_class name = record {
  words = element_words (operand_words 64);
  read = element_with (level 64);
  shape = λ e. Other;
  tree = λ names e. element_tree (operand_tree names 64) (unary_tree names (operand_tree names 64)) e;
  sights = element_sights (operand_words 64) (operand_shape 64) (operand_sights 64);
  bads = element_bads (operand_words 64) (operand_shape 64) (operand_bads 64) (operand_is_difference 64) name;
}

abbrev pub element_row : TheoryName → Class (Row (ElementOf (Operand 64) (Room 64)) (Unit {0})) (List TheoryElement)
element_row name = list_class (element_class name) semicolon_word semicolon (λ x. x) (λ sign x. x)

abbrev pub all_bads : TheoryName → Row (ElementOf (Operand 64) (Room 64)) (Unit {0}) → ℕ → List ℕ
all_bads name row at = (element_row name).bads row at ++ second_bads (is_diff name) row.rest (at + size (element_class name).words row.first)

abbrev pub all_class : TheoryName → Class (Row (ElementOf (Operand 64) (Room 64)) (Unit {0})) (List TheoryElement)
all_class name = record {
  words = (element_row name).words;
  read = (element_row name).read;
  shape = (element_row name).shape;
  tree = (element_row name).tree;
  sights = (element_row name).sights;
  bads = all_bads name;
}

abbrev pub maybe_bads : TheoryName → Option (Row (ElementOf (Operand 64) (Room 64)) (Unit {0})) → ℕ → List ℕ
maybe_bads name None at = places_where (is_diff name) at
maybe_bads name (Some row) at = all_bads name row at

abbrev pub elements_class : TheoryName → Class (Option (Row (ElementOf (Operand 64) (Room 64)) (Unit {0}))) (List TheoryElement)
elements_class name = maybe_class begins_term (λ names o. items_of ((element_class name).tree names) o) (maybe_bads name) (all_class name)

-- ---- forms that may have no words
-- as `Reads`, where nothing may have been read
pub record Takes {A X : Type 0} (class : Class A X) (text : List ℕ) (tokens : List Token) (at : ℕ) (old new : Seen) (value : X) (next : ℕ) : Type 0 where
  pub form : A
  pub is : class.read (words_at text tokens at) ≡ Ok (form, words_at text tokens next)
  pub forward : at ≤ next
  pub within : next ≤ length tokens
  pub names : new.names ≡ named old.names (class.sights form at)
  pub places : new.places ≡ old.places ++ seen_places tokens old.names (class.sights form at)
  pub bad : new.bad ≡ least old.bad (class.bads form at)
  pub tree : (later : List Name) → Extends new.names later → value ≡ class.tree later form

abbrev pub PlainTake : {A X : Type 0} → Class A X → List ℕ → List Token → ℕ → Seen → Seen → Result (X × ℕ) Stop → Type 0
PlainTake class text tokens at old new (Ok r) = Takes class text tokens at old new r.0 r.1
PlainTake class text tokens at old new (Err failed) = Fails text tokens (class.read (words_at text tokens at)) failed
