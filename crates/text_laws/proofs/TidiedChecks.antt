-- Where no check fails in a statement, none fails in the tidied statement, wherever both begin.
use Rattle.std.proofs.Common.{◌≡◌, ℕ, suc, ◌+◌, Bool, true, false, not, ◌&&◌, if◌then◌else◌, Option, Some, None, List, [], ◌∷◌, map, subst, refl, sym, ap}
use Rattle.symbols.specs.declared.rel.Rel.{Rel}
use Rattle.syntax_tree.specs.declared.literal.TheoryName.{TheoryName}
use Rattle.syntax_tree.specs.declared.literal.TheoryName.TheVariants as name
use Rattle.syntax_tree.specs.Printed.{theory_name_text}
use Rattle.grammar.specs.declared.check.Check.{Check}
use Rattle.grammar.specs.declared.check.Check.TheVariants.{UnknownTheory, WrongPlace, BadGuard}
use Rattle.grammar.specs.declared.check.Failing.{Failing}
use Rattle.grammar.specs.declared.shape.Shape.{Shape}
use Rattle.grammar.specs.Word.{Word}
use Rattle.grammar.specs.Row.{Row}
use Rattle.grammar.specs.Term.{Operand, Room, operand_words}
use Rattle.grammar.specs.Shape.{operand_shape}
use Rattle.grammar.specs.Sight.{Sighting, size, along, operand_bads}
use Rattle.grammar.specs.Theory.{FullTerm, ConditionOf, holds, compares, PlacesOf, GivenOf, ElementOf, TheoryOf, full_words, condition_words, element_words}
use Rattle.grammar.specs.Statement.{LiteralOf, simple, theory, by_comma, BodyOf, ChosenOf, ChoiceOf, HeadOf, atom_head, choice_head, theory_head, ArrowOf, no_arrow, arrow, headed, constraint, constant, show_nothing, show, StatementAt, literal_words, chosen_words}
use Rattle.grammar.specs.StatementTree.{theory_name}
use Rattle.grammar.specs.Check.{fails_where, bad_terms, is_equal, is_unknown, is_literal, is_directive, is_disjoint, is_dom, is_diff, has_one_place, is_bad_guard, relation_of, operand_is_difference, sight_places, places_where, second_bads, full_shape, free_bads, plain_bads, condition_bads, given_bads, first_bads, duration_bads, place_bads, places_bads, only_bads, element_bads, elements_bads, guard_bads, theory_fails, literal_fails, body_fails, left_fails, right_fails, chosen_fails, chosens_fail, choice_fails, head_fails, stands_alone, arrow_fails, statement_fails}
use Rattle.grammar.specs.Tidied.{map_row}
use Rattle.grammar.specs.TidiedStatement.{map_maybe, tidied_full, tidied_condition, tidied_given, tidied_element, tidied_guard, tidied_theory, tidied_literal, tidied_body, tidied_chosen, tidied_left, tidied_right, tidied_choice, tidied_head, tidied_arrow, tidied_statement}
use Rattle.text_laws.proofs.TidiedShapes.{same_term_interval, same_term_difference}
use Rattle.text_laws.proofs.TidiedBads.{both_pass, along_passes, part_passes, term_bads_pass, atom_bads_pass}

-- ---- lists with nothing in them, and tests that find nothing
bad_terms_none : (places : List ℕ) → bad_terms places ≡ [] → places ≡ []
bad_terms_none [] h = refl
bad_terms_none (at ∷ places) h = absurd cc

bad_pass : {places others : List ℕ} → (places ≡ [] → others ≡ []) → bad_terms places ≡ [] → bad_terms others ≡ []
bad_pass {places = places} f h = ap bad_terms (f (bad_terms_none places h))

-- a test that finds nothing finds nothing at another place
places_move : (test other : Bool) (at later : ℕ) → other ≡ test → places_where test at ≡ [] → places_where other later ≡ []
places_move true other at later e h = absurd cc
places_move false other at later e h = ap (λ b. places_where b later) e

fails_move : (test other : Bool) (check : Check) (at later : ℕ) → other ≡ test → fails_where test check at ≡ [] → fails_where other check later ≡ []
fails_move true other check at later e h = absurd cc
fails_move false other check at later e h = ap (λ b. fails_where b check later) e

second_passes : {X Y : Type 0} (f : X → Y) (only_one : Bool) (parts : List X) (at later : ℕ) → second_bads only_one parts at ≡ [] → second_bads only_one (map f parts) later ≡ []
second_passes f only_one [] at later h = refl
second_passes f only_one (part ∷ parts) at later h = places_move only_one only_one (at + 1) (later + 1) refl h

-- as many are seen
sights_pass : (sights others : List Sighting) → map (λ (s : Sighting). s.sight) others ≡ map (λ (s : Sighting). s.sight) sights
    → bad_terms (sight_places sights) ≡ [] → bad_terms (sight_places others) ≡ []
sights_pass (s ∷ sights) others e h = absurd cc
sights_pass [] [] e h = refl
sights_pass [] (o ∷ others) e h = absurd cc

module _ {X Y A B : Type 0} (gives : A → ℕ → List X) (others : B → ℕ → List Y) (f : A → B) (passes : (x : A) (at later : ℕ) → gives x at ≡ [] → others (f x) later ≡ []) where
  row_passes : {S : Type 0} (long : A → ℕ) (other_long : B → ℕ) (row : Row A S) (at later : ℕ) → along gives long row at ≡ [] → along others other_long (map_row f row) later ≡ []
  row_passes long other_long row at later h = along_passes gives long others other_long f passes (λ s. s) row.first row.rest at later h

-- the name of a theory atom's text is its own
name_back : (k : TheoryName) → theory_name (theory_name_text k) ≡ k
name_back name.Sum = refl
name_back name.Diff = refl
name_back name.Distinct = refl
name_back name.Disjoint = refl
name_back name.Dom = refl
name_back name.Minimize = refl
name_back name.Maximize = refl
name_back name.Show = refl
name_back name.Unknown = refl

module _ (n : ℕ) where
  abbrev Full : Type 0
  Full = FullTerm (Operand n) (Room n)

  abbrev words : Operand n → List Word → List Word
  words = operand_words n

  -- ---- terms and conditions
  abbrev free : Full → ℕ → List ℕ
  free = free_bads (operand_words n) (operand_shape n) (operand_bads n) (operand_is_difference n)

  abbrev plain : Full → ℕ → List ℕ
  plain = plain_bads (operand_words n) (operand_shape n) (operand_bads n) (operand_is_difference n)

  abbrev condition : ConditionOf (Operand n) (Room n) → ℕ → List ℕ
  condition = condition_bads (operand_words n) (operand_shape n) (operand_bads n) (operand_is_difference n)

  abbrev given : GivenOf (Operand n) (Room n) → ℕ → List ℕ
  given = given_bads (operand_words n) (operand_shape n) (operand_bads n) (operand_is_difference n)

  abbrev shape : Full → Shape
  shape = full_shape (operand_words n) (operand_shape n) (operand_bads n) (operand_is_difference n)

  free_passes : (x : Full) (at later : ℕ) → free x at ≡ [] → free (tidied_full n x) later ≡ []
  free_passes = term_bads_pass (suc n)

  plain_passes : (x : Full) (at later : ℕ) → plain x at ≡ [] → plain (tidied_full n x) later ≡ []
  plain_passes = part_passes shape free shape free (tidied_full n) (same_term_interval (suc n)) free_passes

  -- an interval may stand here, or may not
  either_passes : (may : Bool) (x : Full) (at later : ℕ) → (if may then free x at else plain x at) ≡ [] → (if may then free (tidied_full n x) later else plain (tidied_full n x) later) ≡ []
  either_passes true x at later h = free_passes x at later h
  either_passes false x at later h = plain_passes x at later h

  condition_passes : (c : ConditionOf (Operand n) (Room n)) (at later : ℕ) → condition c at ≡ [] → condition (tidied_condition n c) later ≡ []
  condition_passes (holds true a) at later h = atom_bads_pass n a at later h
  condition_passes (holds false a) at later h = atom_bads_pass n a (at + 1) (later + 1) h
  condition_passes (compares left r right) at later h = both_pass (plain_passes left at later) (either_passes (is_equal r) right _ _) h

  given_passes : (g : GivenOf (Operand n) (Room n)) (at later : ℕ) → given g at ≡ [] → given (tidied_given n g) later ≡ []
  given_passes None at later h = refl
  given_passes (Some None) at later h = refl
  given_passes (Some (Some row)) at later h =
      row_passes condition condition (tidied_condition n) condition_passes (size (condition_words words)) (size (condition_words words)) row (at + 1) (later + 1) h

  -- ---- elements of theory atoms
  abbrev first : TheoryName → Full → ℕ → List ℕ
  first = first_bads (operand_words n) (operand_shape n) (operand_bads n) (operand_is_difference n)

  abbrev duration : TheoryName → ℕ → Option Full → ℕ → List ℕ
  duration = duration_bads (operand_words n) (operand_shape n) (operand_bads n) (operand_is_difference n)

  abbrev place : TheoryName → Full → ℕ → List ℕ
  place = place_bads (operand_words n) (operand_shape n) (operand_bads n) (operand_is_difference n)

  abbrev places : TheoryName → Option (PlacesOf (Operand n) (Room n)) → ℕ → List ℕ
  places = places_bads (operand_words n) (operand_shape n) (operand_bads n) (operand_is_difference n)

  abbrev only : TheoryName → GivenOf (Operand n) (Room n) → ℕ → List ℕ
  only = only_bads (operand_words n) (operand_shape n) (operand_bads n) (operand_is_difference n)

  abbrev element : TheoryName → ElementOf (Operand n) (Room n) → ℕ → List ℕ
  element = element_bads (operand_words n) (operand_shape n) (operand_bads n) (operand_is_difference n)

  abbrev elements : TheoryName → Option (Row (ElementOf (Operand n) (Room n)) (Unit {0})) → ℕ → List ℕ
  elements = elements_bads (operand_words n) (operand_shape n) (operand_bads n) (operand_is_difference n)

  abbrev guards : Option (Rel × Full) → ℕ → List ℕ
  guards = guard_bads (operand_words n) (operand_shape n) (operand_bads n) (operand_is_difference n)

  first_passes : (k : TheoryName) (x : Full) (at later : ℕ) → first k x at ≡ [] → first k (tidied_full n x) later ≡ []
  first_passes k x at later h = both_pass (places_move _ _ at later (ap (λ b. is_diff k && not b) (same_term_difference (suc n) x))) (either_passes (is_dom k) x at later) h

  duration_passes : (k : TheoryName) (begin other : ℕ) (x : Option Full) (at later : ℕ) → duration k begin x at ≡ [] → duration k other (map_maybe (tidied_full n) x) later ≡ []
  duration_passes k begin other None at later h = places_move (is_disjoint k) (is_disjoint k) begin other refl h
  duration_passes k begin other (Some x) at later h = both_pass (places_move (not (is_disjoint k)) (not (is_disjoint k)) at later refl) (plain_passes x (at + 1) (later + 1)) h

  place_passes : (k : TheoryName) (x : Full) (at later : ℕ) → place k x at ≡ [] → place k (tidied_full n x) later ≡ []
  place_passes k x at later h = both_pass (places_move (has_one_place k) (has_one_place k) at later refl) (plain_passes x at later) h

  places_pass : (k : TheoryName) (x : Option (PlacesOf (Operand n) (Room n))) (at later : ℕ) → places k x at ≡ [] → places k (map_maybe (map_row (tidied_full n)) x) later ≡ []
  places_pass k None at later h = refl
  places_pass k (Some row) at later h = row_passes (place k) (place k) (tidied_full n) (place_passes k) (size (full_words words)) (size (full_words words)) row (at + 1) (later + 1) h

  only_passes : (k : TheoryName) (g : GivenOf (Operand n) (Room n)) (at later : ℕ) → only k g at ≡ [] → only k (tidied_given n g) later ≡ []
  only_passes k None at later h = refl
  only_passes k (Some None) at later h = refl
  only_passes k (Some (Some row)) at later h = both_pass (places_move (is_diff k) (is_diff k) at later refl) (given_passes (Some (Some row)) at later) h

  element_passes : (k : TheoryName) (e : ElementOf (Operand n) (Room n)) (at later : ℕ) → element k e at ≡ [] → element k (tidied_element n e) later ≡ []
  element_passes k e at later h =
      both_pass (both_pass (both_pass (first_passes k e.first at later) (duration_passes k at later e.duration _ _)) (places_pass k e.rest _ _)) (only_passes k e.condition _ _) h

  elements_pass : (k : TheoryName) (x : Option (Row (ElementOf (Operand n) (Room n)) (Unit {0}))) (at later : ℕ) → elements k x at ≡ [] → elements k (map_maybe (map_row (tidied_element n)) x) later ≡ []
  elements_pass k None at later h = places_move (is_diff k) (is_diff k) at later refl h
  elements_pass k (Some row) at later h =
      both_pass (row_passes (element k) (element k) (tidied_element n) (element_passes k) (size (element_words words)) (size (element_words words)) row at later) (second_passes _ (is_diff k) row.rest _ _) h

  guards_pass : (g : Option (Rel × Full)) (at later : ℕ) → guards g at ≡ [] → guards (map_maybe (tidied_guard n) g) later ≡ []
  guards_pass None at later h = refl
  guards_pass (Some g) at later h = plain_passes g.1 (at + 1) (later + 1) h

  relation_same : (g : Option (Rel × Full)) → relation_of (map_maybe (tidied_guard n) g) ≡ relation_of g
  relation_same None = refl
  relation_same (Some g) = refl

  -- ---- theory atoms, whose names are those of their texts
  abbrev theories : TheoryOf (Operand n) (Room n) → ℕ → List Failing
  theories = theory_fails (operand_words n) (operand_shape n) (operand_bads n) (operand_is_difference n)

  named_elements_pass : (k other : TheoryName) → other ≡ k → (x : Option (Row (ElementOf (Operand n) (Room n)) (Unit {0}))) (at later : ℕ)
      → elements k x at ≡ [] → elements other (map_maybe (map_row (tidied_element n)) x) later ≡ []
  named_elements_pass k other e x at later h = subst (λ j. elements j (map_maybe (map_row (tidied_element n)) x) later ≡ []) (sym e) (elements_pass k x at later h)

  theory_passes : (a : TheoryOf (Operand n) (Room n)) (at later : ℕ) → theories a at ≡ [] → theories (tidied_theory n a) later ≡ []
  theory_passes a at later h =
      let e : theory_name (theory_name_text (theory_name a.name)) ≡ theory_name a.name = name_back (theory_name a.name) in
      both_pass (both_pass (both_pass (fails_move _ _ UnknownTheory _ _ (ap is_unknown e)) (bad_pass (named_elements_pass _ _ e a.elements (at + 3) (later + 3))))
      (fails_move _ _ BadGuard _ _ (λ i. is_bad_guard (e i) (relation_same a.guard i)))) (bad_pass (guards_pass a.guard _ _)) h

  -- ---- bodies
  abbrev literals : LiteralOf (Operand n) (Room n) → ℕ → List Failing
  literals = literal_fails (operand_words n) (operand_shape n) (operand_bads n) (operand_is_difference n)

  abbrev bodies : Option (BodyOf (Operand n) (Room n)) → ℕ → List Failing
  bodies = body_fails (operand_words n) (operand_shape n) (operand_bads n) (operand_is_difference n)

  literal_passes : (l : LiteralOf (Operand n) (Room n)) (at later : ℕ) → literals l at ≡ [] → literals (tidied_literal n l) later ≡ []
  literal_passes (simple c) at later h = bad_pass (condition_passes c at later) h
  literal_passes (theory true a) at later h = both_pass (fails_move _ _ WrongPlace at later (ap (λ k. not (is_literal k)) (name_back (theory_name a.name)))) (theory_passes a at later) h
  literal_passes (theory false a) at later h =
      both_pass (fails_move _ _ WrongPlace (at + 1) (later + 1) (ap (λ k. not (is_literal k)) (name_back (theory_name a.name)))) (theory_passes a (at + 1) (later + 1)) h

  body_passes : (body : Option (BodyOf (Operand n) (Room n))) (at later : ℕ) → bodies body at ≡ [] → bodies (map_maybe (tidied_body n) body) later ≡ []
  body_passes None at later h = refl
  body_passes (Some body) at later h =
      along_passes literals (size (literal_words words)) literals (size (literal_words words)) (tidied_literal n) literal_passes (λ s. by_comma) body.first body.rest at later h

  -- ---- heads
  abbrev lefts : Option (Full × Option Rel) → ℕ → List Failing
  lefts = left_fails (operand_words n) (operand_shape n) (operand_bads n) (operand_is_difference n)

  abbrev rights : Option (Option Rel × Full) → ℕ → List Failing
  rights = right_fails (operand_words n) (operand_shape n) (operand_bads n) (operand_is_difference n)

  abbrev chosen : ChosenOf (Operand n) (Room n) → ℕ → List Failing
  chosen = chosen_fails (operand_words n) (operand_shape n) (operand_bads n) (operand_is_difference n)

  abbrev chosens : Option (Row (ChosenOf (Operand n) (Room n)) (Unit {0})) → ℕ → List Failing
  chosens = chosens_fail (operand_words n) (operand_shape n) (operand_bads n) (operand_is_difference n)

  abbrev choices : ChoiceOf (Operand n) (Room n) → ℕ → List Failing
  choices = choice_fails (operand_words n) (operand_shape n) (operand_bads n) (operand_is_difference n)

  abbrev heads : HeadOf (Operand n) (Room n) → ℕ → List Failing
  heads = head_fails (operand_words n) (operand_shape n) (operand_bads n) (operand_is_difference n)

  abbrev alone_stands : HeadOf (Operand n) (Room n) → Bool
  alone_stands = stands_alone (operand_words n) (operand_shape n) (operand_bads n) (operand_is_difference n)

  abbrev arrows : Bool → ArrowOf (Operand n) (Room n) → ℕ → List Failing
  arrows = arrow_fails (operand_words n) (operand_shape n) (operand_bads n) (operand_is_difference n)

  left_passes : (b : Option (Full × Option Rel)) (at later : ℕ) → lefts b at ≡ [] → lefts (map_maybe (tidied_left n) b) later ≡ []
  left_passes None at later h = refl
  left_passes (Some b) at later h = bad_pass (plain_passes b.0 at later) h

  right_passes : (b : Option (Option Rel × Full)) (at later : ℕ) → rights b at ≡ [] → rights (map_maybe (tidied_right n) b) later ≡ []
  right_passes None at later h = refl
  right_passes (Some b) at later h = bad_pass (plain_passes b.1 _ _) h

  chosen_passes : (e : ChosenOf (Operand n) (Room n)) (at later : ℕ) → chosen e at ≡ [] → chosen (tidied_chosen n e) later ≡ []
  chosen_passes e at later h = both_pass (bad_pass (atom_bads_pass n e.atom at later)) (bad_pass (given_passes e.condition _ _)) h

  chosens_pass : (x : Option (Row (ChosenOf (Operand n) (Room n)) (Unit {0}))) (at later : ℕ) → chosens x at ≡ [] → chosens (map_maybe (map_row (tidied_chosen n)) x) later ≡ []
  chosens_pass None at later h = refl
  chosens_pass (Some row) at later h = row_passes chosen chosen (tidied_chosen n) chosen_passes (size (chosen_words words)) (size (chosen_words words)) row at later h

  choice_passes : (c : ChoiceOf (Operand n) (Room n)) (at later : ℕ) → choices c at ≡ [] → choices (tidied_choice n c) later ≡ []
  choice_passes c at later h = both_pass (both_pass (left_passes c.left at later) (chosens_pass c.elements _ _)) (right_passes c.right _ _) h

  head_passes : (x : HeadOf (Operand n) (Room n)) (at later : ℕ) → heads x at ≡ [] → heads (tidied_head n x) later ≡ []
  head_passes (atom_head a) at later h = bad_pass (atom_bads_pass n a at later) h
  head_passes (choice_head c) at later h = choice_passes c at later h
  head_passes (theory_head a) at later h = theory_passes a at later h

  alone_same : (x : HeadOf (Operand n) (Room n)) → alone_stands (tidied_head n x) ≡ alone_stands x
  alone_same (atom_head a) = refl
  alone_same (choice_head c) = refl
  alone_same (theory_head a) = ap is_directive (name_back (theory_name a.name))

  arrow_passes : (here other : Bool) → other ≡ here → (a : ArrowOf (Operand n) (Room n)) (at later : ℕ) → arrows here a at ≡ [] → arrows other (tidied_arrow n a) later ≡ []
  arrow_passes here other e no_arrow at later h = refl
  arrow_passes here other e (arrow body) at later h = both_pass (fails_move here other WrongPlace at later e) (body_passes body (at + 1) (later + 1)) h

-- ---- statements
pub tidied_passes : (n : ℕ) (f : StatementAt n) (at later : ℕ) (sights others : List Sighting) → map (λ (s : Sighting). s.sight) others ≡ map (λ (s : Sighting). s.sight) sights
    → statement_fails (operand_words n) (operand_shape n) (operand_bads n) (operand_is_difference n) sights f at ≡ [] → statement_fails (operand_words n) (operand_shape n) (operand_bads n) (operand_is_difference n) others (tidied_statement n f) later ≡ []
tidied_passes n (headed head behind) at later sights others e h = both_pass (head_passes n head at later) (arrow_passes n _ _ (alone_same n head) behind _ _) h
tidied_passes n (constraint body) at later sights others e h = body_passes n body (at + 1) (later + 1) h
tidied_passes n (constant name x) at later sights others e h = both_pass (sights_pass sights others e) (bad_pass (plain_passes n x (at + 3) (later + 3))) h
tidied_passes n show_nothing at later sights others e h = refl
tidied_passes n (show name arity) at later sights others e h = refl
