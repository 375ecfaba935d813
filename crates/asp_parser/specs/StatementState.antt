-- What the readers of statements keep beside the words. Only this crate's code and its laws cite this file.
use Rattle.std.specs.Prelude.{◌≡◌, ℕ, ◌+◌, ◌≤◌, Bool, true, false, not, if◌then◌else◌, List, [], ◌∷◌, ◌++◌, length, Option, Some, None, Result, Ok, Err}
use Rattle.symbols.specs.declared.rel.Rel.{Rel}
use Rattle.symbols.specs.declared.rel.Rel.TheVariants.{LessEqual}
use Rattle.lexer.specs.declared.token.Token.{Token}
use Rattle.syntax_tree.specs.declared.rule.Name.{Name}
use Rattle.syntax_tree.specs.declared.rule.Head.{Head}
use Rattle.syntax_tree.specs.declared.rule.Head.TheVariants as head
use Rattle.syntax_tree.specs.declared.rule.Choice.{Choice}
use Rattle.syntax_tree.specs.declared.rule.ChoiceElement.{ChoiceElement}
use Rattle.syntax_tree.specs.declared.term.Term.{Term}
use Rattle.syntax_tree.specs.declared.literal.Guard.{Guard}
use Rattle.syntax_tree.specs.declared.literal.Literal.{Literal}
use Rattle.syntax_tree.specs.declared.literal.Literal.TheVariants as literal
use Rattle.syntax_tree.specs.declared.literal.TheoryAtom.{TheoryAtom, out-TheoryAtom}
use Rattle.grammar.specs.declared.check.Check.TheVariants.{WrongPlace, TooManyVariables}
use Rattle.grammar.specs.declared.check.Failing.{Failing}
use Rattle.grammar.specs.declared.mark.Mark.TheVariants as m
use Rattle.grammar.specs.Word.{Word, words_at}
use Rattle.grammar.specs.Row.{Row, row_words}
use Rattle.grammar.specs.Parts.{marked_words, closed_words, signed_words, pair_words, further}
use Rattle.grammar.specs.Term.{Operand, Room, operand_words}
use Rattle.grammar.specs.Shape.{operand_shape}
use Rattle.grammar.specs.Tree.{unary_tree, operand_tree}
use Rattle.grammar.specs.Sight.{Sighting, size, along, operand_sights, operand_bads}
use Rattle.grammar.specs.Theory.{FullTerm, TheoryAt, rel_word, semicolon, semicolon_word, theory_words}
use Rattle.grammar.specs.Statement.{LiteralOf, separating, separating_word, BodyOf, ChosenOf, HeadOf, ArrowOf, StatementAt, headed, constraint, constant, show_nothing, show, literal_words, body_words, right_words, chosen_words, chosens_words, head_words, arrow_words, words_of_statement}
use Rattle.grammar.specs.StatementTree.{items, items_of, theory_name, full_tree, theory_tree, literal_tree, body_trees, right_tree, chosen_tree, head_tree, arrow_trees, has_arrow}
use Rattle.grammar.specs.StatementSight.{theory_sights, literal_sights, body_sights, right_sights, chosen_sights, chosens_sights, head_sights, arrow_sights, sights_of_statement}
use Rattle.grammar.specs.Check.{first_of, fails, fails_where, bad_terms, is_literal, is_directive, operand_is_difference, theory_fails, literal_fails, body_fails, right_fails, chosen_fails, chosens_fail, head_fails, arrow_fails, statement_fails, past}
use Rattle.grammar.specs.Reading.{Reader, Either, one, other, row_with, mapped_with, marked_with, closed_with, pair_with, level}
use Rattle.grammar.specs.TheoryReading.{theory_at}
use Rattle.grammar.specs.StatementReading.{FreeOf, head_of, literal_with, body_with, chosen_with, chosens_with, right_with, free_with, bounded_with, led_with, head_with, arrow_with, rule_with, constraint_with, constant_with, show_with, statement_at}
use Rattle.theory_grammar.specs.declared.fault.Stop.{Stop}
use Rattle.theory_grammar.specs.declared.places.Place.{Place}
use Rattle.theory_grammar.specs.State.{Fails, named, seen_places, Extends}
use Rattle.theory_grammar.specs.State as plain
use Rattle.theory_grammar.specs.TheoryParts.{with_bad}
use Rattle.asp_parser.specs.declared.kept.Kept.{Kept}
use Rattle.asp_parser.specs.declared.statement.Draft.{Draft}
use Rattle.asp_parser.specs.declared.statement.Draft.TheVariants as draft

-- a class of forms: their words, their reader, what a form gives, and the checks that fail in it
pub record Class (A X : Type 0) : Type 0 where
  pub words : A → List Word → List Word
  pub read : Reader A
  pub tree : List Name → A → X
  pub sights : A → ℕ → List Sighting
  pub fails : A → ℕ → List Failing

-- the check that fails first so far
abbrev pub failing_of : Kept → Option Failing
failing_of kept = with_bad kept.failing kept.seen.bad

-- what stands at a place was read as a form, which may have no words, and all that the form gives was kept
pub record Takes {A X : Type 0} (class : Class A X) (text : List ℕ) (tokens : List Token) (at : ℕ) (old new : Kept) (value : X) (next : ℕ) : Type 0 where
  pub form : A
  pub is : class.read (words_at text tokens at) ≡ Ok (form, words_at text tokens next)
  pub forward : at ≤ next
  pub within : next ≤ length tokens
  pub names : new.seen.names ≡ named old.seen.names (class.sights form at)
  pub places : new.seen.places ≡ old.seen.places ++ seen_places tokens old.seen.names (class.sights form at)
  pub failing : failing_of new ≡ first_of (failing_of old) (class.fails form at)
  pub tree : (later : List Name) → Extends new.seen.names later → value ≡ class.tree later form

abbrev pub Taken : {A X : Type 0} → Class A X → List ℕ → List Token → ℕ → Kept → Kept → Result (X × ℕ) Stop → Type 0
Taken class text tokens at old new (Ok r) = Takes class text tokens at old new r.0 r.1
Taken class text tokens at old new (Err failed) = Fails text tokens (class.read (words_at text tokens at)) failed

-- a class of terms, conditions or guards
abbrev pub lifted : {A X : Type 0} → plain.Class A X → Class A X
lifted c = record { words = c.words; read = c.read; tree = c.tree; sights = c.sights; fails = λ a at. bad_terms (c.bads a at) }

-- a form and another behind it
abbrev pub pair_class : {A B X Y : Type 0} → Class A X → Class B Y → Class (A × B) (X × Y)
pair_class c d = record {
  words = pair_words c.words d.words;
  read = pair_with c.read d.read;
  tree = λ names p. (c.tree names p.0, d.tree names p.1);
  sights = λ p at. c.sights p.0 at ++ d.sights p.1 (at + size c.words p.0);
  fails = λ p at. c.fails p.0 at ++ d.fails p.1 (at + size c.words p.0);
}

-- a row, with what each item gives in a list
abbrev pub list_class : {I S X : Type 0} → Class I X → (S → Word) → (Word → Option S) → Class (Row I S) (List X)
list_class c sign_word sign = record {
  words = row_words c.words sign_word;
  read = row_with c.read sign;
  tree = λ names row. items (c.tree names) row;
  sights = along c.sights (size c.words);
  fails = along c.fails (size c.words);
}

-- ---- forms that nest at most 64 deep
abbrev D : Type 0
D = Operand 64

abbrev R : Type 0
R = Room 64

abbrev pub theory_class : Class (TheoryAt 64) TheoryAtom
theory_class = record {
  words = theory_words (operand_words 64);
  read = theory_at 64;
  tree = λ names a. theory_tree (operand_tree names 64) (unary_tree names (operand_tree names 64)) a;
  sights = theory_sights (operand_words 64) (operand_shape 64) (operand_sights 64);
  fails = theory_fails (operand_words 64) (operand_shape 64) (operand_bads 64) (operand_is_difference 64);
}

-- a theory atom as a literal
abbrev pub placed_class : Bool → Class (TheoryAt 64) Literal
placed_class held = record {
  words = theory_class.words;
  read = theory_class.read;
  tree = λ names a. literal.Theory (theory_class.tree names a) held;
  sights = theory_class.sights;
  fails = λ a at. fails_where (not (is_literal (theory_name a.name))) WrongPlace at ++ theory_class.fails a at;
}

abbrev pub literal_class : Class (LiteralOf D R) Literal
literal_class = record {
  words = literal_words (operand_words 64);
  read = literal_with (level 64);
  tree = λ names l. literal_tree (operand_tree names 64) (unary_tree names (operand_tree names 64)) l;
  sights = literal_sights (operand_words 64) (operand_shape 64) (operand_sights 64);
  fails = literal_fails (operand_words 64) (operand_shape 64) (operand_bads 64) (operand_is_difference 64);
}

abbrev pub literals_class : Class (BodyOf D R) (List Literal)
literals_class = list_class literal_class separating_word separating

abbrev pub body_class : Class (Option (BodyOf D R)) (List Literal)
body_class = record {
  words = body_words (operand_words 64);
  read = body_with (level 64);
  tree = λ names body. body_trees (operand_tree names 64) (unary_tree names (operand_tree names 64)) body;
  sights = body_sights (operand_words 64) (operand_shape 64) (operand_sights 64);
  fails = body_fails (operand_words 64) (operand_shape 64) (operand_bads 64) (operand_is_difference 64);
}

abbrev pub chosen_class : Class (ChosenOf D R) ChoiceElement
chosen_class = record {
  words = chosen_words (operand_words 64);
  read = chosen_with (level 64);
  tree = λ names e. chosen_tree (operand_tree names 64) (unary_tree names (operand_tree names 64)) e;
  sights = chosen_sights (operand_words 64) (operand_shape 64) (operand_sights 64);
  fails = chosen_fails (operand_words 64) (operand_shape 64) (operand_bads 64) (operand_is_difference 64);
}

abbrev pub ChosenRow : Type 0
ChosenRow = Row (ChosenOf D R) (Unit {0})

abbrev pub chosens_class : Class ChosenRow (List ChoiceElement)
chosens_class = list_class chosen_class semicolon_word semicolon

abbrev pub elements_class : Class (Option ChosenRow) (List ChoiceElement)
elements_class = record {
  words = chosens_words (operand_words 64);
  read = chosens_with (level 64);
  tree = λ names o. items_of (chosen_class.tree names) o;
  sights = chosens_sights (operand_words 64) (operand_shape 64) (operand_sights 64);
  fails = chosens_fail (operand_words 64) (operand_shape 64) (operand_bads 64) (operand_is_difference 64);
}

-- elements between their braces
abbrev pub braces_class : Class (Option ChosenRow) (List ChoiceElement)
braces_class = record {
  words = marked_words m.OpenBrace (closed_words m.CloseBrace elements_class.words);
  read = marked_with m.OpenBrace (closed_with m.CloseBrace elements_class.read);
  tree = elements_class.tree;
  sights = further elements_class.sights;
  fails = further elements_class.fails;
}

abbrev pub right_class : Class (Option (Option Rel × FullTerm D R)) (Option Guard)
right_class = record {
  words = right_words (operand_words 64);
  read = right_with (level 64);
  tree = λ names o. right_tree (operand_tree names 64) (unary_tree names (operand_tree names 64)) o;
  sights = right_sights (operand_words 64) (operand_shape 64) (operand_sights 64);
  fails = right_fails (operand_words 64) (operand_shape 64) (operand_bads 64) (operand_is_difference 64);
}

abbrev pub parts_class : Class (FreeOf D R) (List ChoiceElement × Option Guard)
parts_class = pair_class braces_class right_class

-- a choice from its opening brace on, behind a left bound with this tree
abbrev pub choice_class : Option Guard → Class (FreeOf D R) Choice
choice_class left = record {
  words = parts_class.words;
  read = free_with (level 64);
  tree = λ names free. record { left = left; elements = (parts_class.tree names free).0; right = (parts_class.tree names free).1 };
  sights = parts_class.sights;
  fails = parts_class.fails;
}

-- what stands behind a left bound with this tree
abbrev pub bounded_words : Either (Rel × FreeOf D R) (FreeOf D R) → List Word → List Word
bounded_words (one p) rest = signed_words rel_word parts_class.words p rest
bounded_words (other free) rest = parts_class.words free rest

abbrev pub bounded_gives : {X : Type 0} → (FreeOf D R → ℕ → List X) → Either (Rel × FreeOf D R) (FreeOf D R) → ℕ → List X
bounded_gives gives (one p) at = gives p.1 (at + 1)
bounded_gives gives (other free) at = gives free at

abbrev pub bounded_tree : Term → List Name → Either (Rel × FreeOf D R) (FreeOf D R) → Choice
bounded_tree left names (one p) = (choice_class (Some (record { rel = p.0; right = left }))).tree names p.1
bounded_tree left names (other free) = (choice_class (Some (record { rel = LessEqual; right = left }))).tree names free

abbrev pub bounded_class : Term → Class (Either (Rel × FreeOf D R) (FreeOf D R)) Choice
bounded_class left = record { words = bounded_words; read = bounded_with (level 64); tree = bounded_tree left; sights = bounded_gives parts_class.sights; fails = bounded_gives parts_class.fails }

-- heads by their reader
abbrev pub heads_class : Reader (HeadOf D R) → Class (HeadOf D R) Head
heads_class read = record {
  words = head_words (operand_words 64);
  read = read;
  tree = λ names h. head_tree (operand_tree names 64) (unary_tree names (operand_tree names 64)) h;
  sights = head_sights (operand_words 64) (operand_shape 64) (operand_sights 64);
  fails = head_fails (operand_words 64) (operand_shape 64) (operand_bads 64) (operand_is_difference 64);
}

abbrev pub led_class : Class (HeadOf D R) Head
led_class = heads_class (mapped_with (λ led. head_of (other (one led))) (led_with (level 64)))

abbrev pub head_class : Class (HeadOf D R) Head
head_class = heads_class (head_with (level 64))

-- no `:-` may follow a head with this tree
abbrev pub stands_alone_there : Head → Bool
stands_alone_there head.Nothing = false
stands_alone_there (head.Atom term) = false
stands_alone_there (head.Theory atom) = is_directive (out-TheoryAtom atom).name
stands_alone_there (head.Choice choice) = false

abbrev pub arrow_class : Bool → Class (ArrowOf D R) (List Literal × Bool)
arrow_class refused = record {
  words = arrow_words (operand_words 64);
  read = arrow_with (level 64);
  tree = λ names a. (arrow_trees (operand_tree names 64) (unary_tree names (operand_tree names 64)) a, has_arrow a);
  sights = arrow_sights (operand_words 64) (operand_shape 64) (operand_sights 64);
  fails = arrow_fails (operand_words 64) (operand_shape 64) (operand_bads 64) (operand_is_difference 64) refused;
}

-- ---- statements
abbrev pub draft_tree : List Name → StatementAt 64 → Draft
draft_tree names (headed h behind) =
    draft.Rule (head_tree (operand_tree names 64) (unary_tree names (operand_tree names 64)) h) (arrow_trees (operand_tree names 64) (unary_tree names (operand_tree names 64)) behind) (has_arrow behind)
draft_tree names (constraint body) = draft.Rule head.Nothing (body_trees (operand_tree names 64) (unary_tree names (operand_tree names 64)) body) true
draft_tree names (constant name term) = draft.Constant name (full_tree (operand_tree names 64) (unary_tree names (operand_tree names 64)) term)
draft_tree names show_nothing = draft.ShowNothing
draft_tree names (show name arity) = draft.Show name arity

-- statements by their reader
abbrev pub statements_class : Reader (StatementAt 64) → Class (StatementAt 64) Draft
statements_class read = record {
  words = words_of_statement 64;
  read = read;
  tree = draft_tree;
  sights = sights_of_statement 64;
  fails = λ s at. statement_fails (operand_words 64) (operand_shape 64) (operand_bads 64) (operand_is_difference 64) (sights_of_statement 64 s at) s at;
}

abbrev pub rule_class : Class (StatementAt 64) Draft
rule_class = statements_class (rule_with (level 64))

abbrev pub constraint_class : Class (StatementAt 64) Draft
constraint_class = statements_class (mapped_with constraint (constraint_with (level 64)))

abbrev pub constant_class : Class (StatementAt 64) Draft
constant_class = statements_class (constant_with (level 64))

abbrev pub show_class : Class (StatementAt 64) Draft
show_class = statements_class (show_with (level 64))

abbrev pub form_class : Class (StatementAt 64) Draft
form_class = statements_class (statement_at 64)

-- ---- variables
-- the places that add a variable
abbrev pub adding : List Place → List ℕ
adding [] = []
adding (place ∷ places) = (if place.adds then place.at ∷ adding places else adding places)

-- the first place with one variable too many
abbrev pub crowded_by : List ℕ → List Failing
crowded_by [] = []
crowded_by (at ∷ places) = fails TooManyVariables at

abbrev pub crowded : List Place → List Failing
crowded places = crowded_by (past 64 (adding places))
