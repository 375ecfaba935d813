-- The checks of statements that the grammar derives: which of them fail, and where.
use Rattle.std.specs.Prelude.{ℕ, zero, suc, ◌+◌, Bool, true, false, not, ◌&&◌, ◌||◌, ◌==◌, nat_lt, bytes_eq, if◌then◌else◌, Option, Some, None, List, [], ◌∷◌, ◌++◌}
use Rattle.std.specs.List.{list_any}
use Rattle.std.specs.Option.{is_some}
use Rattle.symbols.specs.declared.rel.Rel.{Rel}
use Rattle.symbols.specs.declared.rel.Rel.TheVariants as rel
use Rattle.syntax_tree.specs.declared.literal.TheoryName.{TheoryName}
use Rattle.syntax_tree.specs.declared.literal.TheoryName.TheVariants as name
use Rattle.grammar.specs.declared.check.Check.{Check}
use Rattle.grammar.specs.declared.check.Check.TheVariants.{UnknownTheory, WrongPlace, BadGuard, BadTerm, TooManyVariables}
use Rattle.grammar.specs.declared.check.Failing.{Failing}
use Rattle.grammar.specs.declared.shape.Shape.{Shape}
use Rattle.grammar.specs.declared.shape.Shape.TheVariants.{Atom, Interval, Other}
use Rattle.grammar.specs.Word.{Word}
use Rattle.grammar.specs.Row.{Row}
use Rattle.grammar.specs.Parts.{maybe_gives, further}
use Rattle.grammar.specs.Term.{Adding, plus, minus, TermOf, UnaryOf, Operand, alone, interval, group, unary_words, operand_words, atom_words}
use Rattle.grammar.specs.Shape.{term_shape, unary_shape, operand_shape}
use Rattle.grammar.specs.Sight.{Sighting, of_variable, of_anonymous, of_interval, of_atom, size, along, part_bads, term_bads, atom_bads, unary_bads, operand_bads}
use Rattle.grammar.specs.Theory.{FullTerm, ConditionOf, holds, compares, PlacesOf, GivenOf, ElementOf, TheoryOf, full_words, condition_words, element_words}
use Rattle.grammar.specs.Statement.{LiteralOf, simple, theory, BodyOf, ChosenOf, ChoiceOf, HeadOf, atom_head, choice_head, theory_head, ArrowOf, no_arrow, arrow, StatementOf, headed, constraint, constant, show_nothing, show, StatementAt, literal_words, chosen_words, maybe_rel_words, head_words}
use Rattle.grammar.specs.StatementTree.{theory_name}
use Rattle.grammar.specs.StatementSight.{behind_first, behind_duration, behind_rest, theory_brace, choice_opening, choice_closing, sights_of_statement}

-- where checks stand among those that fail at one place
abbrev pub rank : Check → ℕ
rank UnknownTheory = 0
rank WrongPlace = 1
rank BadGuard = 2
rank BadTerm = 3
rank TooManyVariables = 4

-- a failed check comes before another: at a lesser place, or at the same place in the order of the checks
abbrev pub comes_before : Failing → Failing → Bool
comes_before one other = nat_lt one.at other.at || ((one.at == other.at) && nat_lt (rank one.check) (rank other.check))

-- the failed check so far, or another where that comes before it
abbrev pub sooner : Option Failing → Failing → Option Failing
sooner None failing = Some failing
sooner (Some first) failing = (if comes_before failing first then Some failing else Some first)

-- the first of failed checks and the one so far
abbrev pub first_of : Option Failing → List Failing → Option Failing
first_of so_far [] = so_far
first_of so_far (failing ∷ rest) = first_of (sooner so_far failing) rest

abbrev pub fails : Check → ℕ → List Failing
fails check at = record { check = check; at = at } ∷ []

abbrev pub fails_where : Bool → Check → ℕ → List Failing
fails_where false check at = []
fails_where true check at = fails check at

-- bad terms by their places
abbrev pub bad_terms : List ℕ → List Failing
bad_terms [] = []
bad_terms (at ∷ places) = record { check = BadTerm; at = at } ∷ bad_terms places

abbrev pub is_interval : Shape → Bool
is_interval Interval = true
is_interval Atom = false
is_interval Other = false

abbrev pub is_equal : Rel → Bool
is_equal rel.Equal = true
is_equal rel.NotEqual = false
is_equal rel.Less = false
is_equal rel.LessEqual = false
is_equal rel.Greater = false
is_equal rel.GreaterEqual = false

-- ---- what the names of theory atoms ask for
abbrev pub is_unknown : TheoryName → Bool
is_unknown name.Unknown = true
is_unknown _ = false

-- may stand in a body
abbrev pub is_literal : TheoryName → Bool
is_literal name.Sum = true
is_literal name.Diff = true
is_literal _ = false

-- stands in a rule without `:-` alone
abbrev pub is_directive : TheoryName → Bool
is_directive name.Minimize = true
is_directive name.Maximize = true
is_directive name.Show = true
is_directive _ = false

abbrev pub is_disjoint : TheoryName → Bool
is_disjoint name.Disjoint = true
is_disjoint _ = false

abbrev pub is_dom : TheoryName → Bool
is_dom name.Dom = true
is_dom _ = false

abbrev pub is_diff : TheoryName → Bool
is_diff name.Diff = true
is_diff _ = false

-- has the first place of an element alone
abbrev pub has_one_place : TheoryName → Bool
has_one_place name.Diff = true
has_one_place name.Dom = true
has_one_place name.Show = true
has_one_place _ = false

-- what is wrong with a guard: `sum` and `diff` need one, `dom` needs one with `=`, an unknown name may have one, any other has none
abbrev pub is_bad_guard : TheoryName → Option Rel → Bool
is_bad_guard name.Sum None = true
is_bad_guard name.Sum (Some r) = false
is_bad_guard name.Diff None = true
is_bad_guard name.Diff (Some r) = false
is_bad_guard name.Dom None = true
is_bad_guard name.Dom (Some r) = not (is_equal r)
is_bad_guard name.Unknown guard = false
is_bad_guard _ None = false
is_bad_guard _ (Some r) = true

-- the relation of a guard
abbrev pub relation_of : {A : Type 0} → Option (Rel × A) → Option Rel
relation_of None = None
relation_of (Some guard) = Some guard.0

-- ---- `u - v`, parentheses around it aside
abbrev pub is_one_minus : {I : Type 0} → List (Adding × I) → Bool
is_one_minus [] = false
is_one_minus (part ∷ []) = elim part.0 [ plus ↦ false | minus ↦ true ]
is_one_minus (part ∷ other ∷ parts) = false

-- a row of one item is what the item is
abbrev pub alone_by : {S I : Type 0} → Bool → List (S × I) → Bool
alone_by item [] = item
alone_by item (part ∷ parts) = false

abbrev pub is_nothing : {X : Type 0} → List X → Bool
is_nothing [] = true
is_nothing (x ∷ xs) = false

module _ {U : Type 0} (operand : U → Bool) where
  abbrev pub term_is_difference : TermOf U → Bool
  term_is_difference (alone sum) = is_one_minus sum.rest || alone_by (alone_by (operand sum.first.first) sum.first.rest) sum.rest
  term_is_difference (interval left right) = false

abbrev pub unary_is_difference : {D R : Type 0} → (D → Bool) → UnaryOf D R → Bool
unary_is_difference inner (group term) = term_is_difference inner term
unary_is_difference inner _ = false

abbrev pub operand_is_difference : (n : ℕ) → Operand n → Bool
operand_is_difference zero operand = absurd operand
operand_is_difference (suc n) operand = unary_is_difference (operand_is_difference n) operand

-- a constant has no variable, no `_` and no interval
abbrev pub sight_places : List Sighting → List ℕ
sight_places [] = []
sight_places (s ∷ sights) = s.at ∷ sight_places sights

-- places where a test finds something
abbrev pub places_where : Bool → ℕ → List ℕ
places_where false at = []
places_where true at = at ∷ []

-- a second item of a row, behind a sign at the place, fails where there may be one alone
abbrev pub second_bads : {X : Type 0} → Bool → List X → ℕ → List ℕ
second_bads only_one [] at = []
second_bads only_one (part ∷ parts) at = places_where only_one (at + 1)

-- ---- forms
module _ {D R : Type 0} (words : D → List Word → List Word) (shape : D → Shape) (bads : D → ℕ → List ℕ) (difference : D → Bool) where
  abbrev pub full_shape : FullTerm D R → Shape
  full_shape = term_shape (unary_shape shape)

  -- a term that may be an interval, and one that may not
  abbrev pub free_bads : FullTerm D R → ℕ → List ℕ
  free_bads = term_bads (unary_words words) (unary_shape shape) (unary_bads words shape bads)

  abbrev pub plain_bads : FullTerm D R → ℕ → List ℕ
  plain_bads = part_bads full_shape free_bads

  -- an interval may stand on the right side of `=` alone
  abbrev pub right_bads : Rel → FullTerm D R → ℕ → List ℕ
  right_bads r term at = (if is_equal r then free_bads term at else plain_bads term at)

  abbrev pub condition_bads : ConditionOf D R → ℕ → List ℕ
  condition_bads (holds true a) at = atom_bads words shape bads a at
  condition_bads (holds false a) at = atom_bads words shape bads a (at + 1)
  condition_bads (compares left r right) at = plain_bads left at ++ right_bads r right (at + size (full_words {R = R} words) left + 1)

  abbrev pub given_bads : GivenOf D R → ℕ → List ℕ
  given_bads = maybe_gives (further (maybe_gives (along condition_bads (size (condition_words words)))))

  -- the first place of an element: an interval may stand in `dom` alone, and in `diff` it is a difference
  abbrev pub first_bads : TheoryName → FullTerm D R → ℕ → List ℕ
  first_bads atom_name term at =
      places_where (is_diff atom_name && not (term_is_difference (unary_is_difference {R = R} difference) term)) at ++ (if is_dom atom_name then free_bads term at else plain_bads term at)

  -- a duration stands in each element of `disjoint` and in no other; `first` is where the element begins
  abbrev pub duration_bads : TheoryName → ℕ → Option (FullTerm D R) → ℕ → List ℕ
  duration_bads atom_name first None at = places_where (is_disjoint atom_name) first
  duration_bads atom_name first (Some term) at = places_where (not (is_disjoint atom_name)) at ++ plain_bads term (at + 1)

  -- a further place
  abbrev pub place_bads : TheoryName → FullTerm D R → ℕ → List ℕ
  place_bads atom_name term at = places_where (has_one_place atom_name) at ++ plain_bads term at

  abbrev pub places_bads : TheoryName → Option (PlacesOf D R) → ℕ → List ℕ
  places_bads atom_name = maybe_gives (further (along (place_bads atom_name) (size (full_words words))))

  -- the condition of an element; `diff` has none
  abbrev pub only_bads : TheoryName → GivenOf D R → ℕ → List ℕ
  only_bads atom_name condition at = places_where (is_some condition && is_diff atom_name) at ++ given_bads condition at

  abbrev pub element_bads : TheoryName → ElementOf D R → ℕ → List ℕ
  element_bads atom_name element at =
      first_bads atom_name element.first at ++ duration_bads atom_name at element.duration (behind_first words element at)
      ++ places_bads atom_name element.rest (behind_duration words element at) ++ only_bads atom_name element.condition (behind_rest words element at)

  -- `diff` has one element
  abbrev pub elements_bads : TheoryName → Option (Row (ElementOf D R) (Unit {0})) → ℕ → List ℕ
  elements_bads atom_name None at = places_where (is_diff atom_name) at
  elements_bads atom_name (Some row) at = along (element_bads atom_name) (size (element_words words)) row at ++ second_bads (is_diff atom_name) row.rest (at + size (element_words words) row.first)

  abbrev pub guard_bads : Option (Rel × FullTerm D R) → ℕ → List ℕ
  guard_bads = maybe_gives (further (λ guard. plain_bads guard.1))

  -- a theory atom, wherever it stands
  abbrev pub theory_fails : TheoryOf D R → ℕ → List Failing
  theory_fails a at =
      fails_where (is_unknown (theory_name a.name)) UnknownTheory (at + 1)
      ++ bad_terms (elements_bads (theory_name a.name) a.elements (at + 3))
      ++ fails_where (is_bad_guard (theory_name a.name) (relation_of a.guard)) BadGuard (theory_brace words a at + 1)
      ++ bad_terms (guard_bads a.guard (theory_brace words a at + 1))

  abbrev pub literal_fails : LiteralOf D R → ℕ → List Failing
  literal_fails (simple condition) at = bad_terms (condition_bads condition at)
  literal_fails (theory true a) at = fails_where (not (is_literal (theory_name a.name))) WrongPlace at ++ theory_fails a at
  literal_fails (theory false a) at = fails_where (not (is_literal (theory_name a.name))) WrongPlace (at + 1) ++ theory_fails a (at + 1)

  abbrev pub body_fails : Option (BodyOf D R) → ℕ → List Failing
  body_fails None at = []
  body_fails (Some body) at = along literal_fails (size (literal_words words)) body at

  abbrev pub left_fails : Option (FullTerm D R × Option Rel) → ℕ → List Failing
  left_fails None at = []
  left_fails (Some bound) at = bad_terms (plain_bads bound.0 at)

  abbrev pub right_fails : Option (Option Rel × FullTerm D R) → ℕ → List Failing
  right_fails None at = []
  right_fails (Some bound) at = bad_terms (plain_bads bound.1 (at + size maybe_rel_words bound.0))

  abbrev pub chosen_fails : ChosenOf D R → ℕ → List Failing
  chosen_fails element at = bad_terms (atom_bads words shape bads element.atom at) ++ bad_terms (given_bads element.condition (at + size (atom_words words) element.atom))

  abbrev pub chosens_fail : Option (Row (ChosenOf D R) (Unit {0})) → ℕ → List Failing
  chosens_fail None at = []
  chosens_fail (Some row) at = along chosen_fails (size (chosen_words words)) row at

  abbrev pub choice_fails : ChoiceOf D R → ℕ → List Failing
  choice_fails choice at = left_fails choice.left at ++ chosens_fail choice.elements (choice_opening words choice at + 1) ++ right_fails choice.right (choice_closing words choice at + 1)

  abbrev pub head_fails : HeadOf D R → ℕ → List Failing
  head_fails (atom_head a) at = bad_terms (atom_bads words shape bads a at)
  head_fails (choice_head choice) at = choice_fails choice at
  head_fails (theory_head a) at = theory_fails a at

  -- a head that no `:-` may follow
  abbrev pub stands_alone : HeadOf D R → Bool
  stands_alone (atom_head a) = false
  stands_alone (choice_head choice) = false
  stands_alone (theory_head a) = is_directive (theory_name a.name)

  abbrev pub arrow_fails : Bool → ArrowOf D R → ℕ → List Failing
  arrow_fails no_arrow_here no_arrow at = []
  arrow_fails no_arrow_here (arrow body) at = fails_where no_arrow_here WrongPlace at ++ body_fails body (at + 1)

  -- `sights` are those of the statement
  abbrev pub statement_fails : List Sighting → StatementOf D R → ℕ → List Failing
  statement_fails sights (headed head behind) at = head_fails head at ++ arrow_fails (stands_alone head) behind (at + size (head_words words) head)
  statement_fails sights (constraint body) at = body_fails body (at + 1)
  statement_fails sights (constant constant_name term) at = bad_terms (sight_places sights) ++ bad_terms (plain_bads term (at + 3))
  statement_fails sights show_nothing at = []
  statement_fails sights (show predicate arity) at = []

-- ---- at most 64 variables: names, `_` and intervals
abbrev pub is_among : List (List ℕ) → List ℕ → Bool
is_among names name = list_any (λ other. bytes_eq other name) names

-- the places where a new one is seen
abbrev pub new_variables : List (List ℕ) → List Sighting → List ℕ
new_variables names [] = []
new_variables names (s ∷ sights) =
    elim s.sight [
      | of_variable name ↦ (if is_among names name then new_variables names sights else s.at ∷ new_variables (name ∷ names) sights)
      | of_anonymous ↦ s.at ∷ new_variables names sights
      | of_interval ↦ s.at ∷ new_variables names sights
      | of_atom ↦ new_variables names sights
    ]

-- the place behind so many
abbrev pub past : ℕ → List ℕ → List ℕ
past n [] = []
past zero (at ∷ places) = at ∷ []
past (suc n) (at ∷ places) = past n places

abbrev pub too_many : List Sighting → List Failing
too_many sights = elim (past 64 (new_variables [] sights)) [ [] ↦ [] | at ∷ places ↦ fails TooManyVariables at ]

-- every check that fails in a statement that begins at a place
abbrev pub failing : (n : ℕ) → StatementAt n → ℕ → List Failing
failing n statement at =
    statement_fails (operand_words n) (operand_shape n) (operand_bads n) (operand_is_difference n) (sights_of_statement n statement at) statement at ++ too_many (sights_of_statement n statement at)
