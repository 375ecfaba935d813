-- Taking the redundant parentheses out of a statement moves places and changes nothing of what is seen, nor its order.
use Rattle.std.proofs.Common.{◌≡◌, ℕ, suc, ◌+◌, true, false, Some, None, List, [], ◌∷◌, ◌++◌, map, refl, sym, ap, ◌∙◌}
use Rattle.grammar.specs.Row.{Row}
use Rattle.grammar.specs.Parts.{maybe_gives, further}
use Rattle.grammar.specs.Term.{AtomOf, Operand, Room, operand_words}
use Rattle.grammar.specs.Theory.{FullTerm, holds, compares, full_words, condition_words, element_words}
use Rattle.grammar.specs.Statement.{simple, theory, Separating, by_comma, atom_head, choice_head, theory_head, no_arrow, arrow, headed, constraint, constant, show_nothing, show, StatementAt, literal_words, chosen_words}
use Rattle.grammar.specs.Shape.{operand_shape}
use Rattle.grammar.specs.Sight.{Sighting, of_atom, size, along_tail, along, atom_sights, operand_sights}
use Rattle.grammar.specs.StatementSight.{atom_seen, full_sights, condition_sights, given_sights, duration_sights, places_sights, element_sights, elements_sights, guard_sights, theory_sights, literal_sights, body_sights, left_sights, right_sights, chosen_sights, chosens_sights, choice_sights, head_sights, arrow_sights, sights_of_statement}
use Rattle.grammar.specs.Tidied.{map_row, tidied_atom, tidied}
use Rattle.grammar.specs.TidiedStatement.{map_maybe, tidied_full, tidied_condition, tidied_given, tidied_element, tidied_guard, tidied_theory, tidied_literal, tidied_body, tidied_chosen, tidied_left, tidied_right, tidied_choice, tidied_head, tidied_arrow, tidied_statement}
use Rattle.text_laws.proofs.SightLists.{sighted, sighted_append, in_operand, term_seen, atom_seen as seen_in_atom, operand_seen}
use Rattle.text_laws.proofs.TidiedSights.{same_in_term, same_in_atom}

-- the same is seen in a form and in what is made of it, wherever each stands
abbrev ShowsSame : {A : Type 0} → (A → A) → (A → ℕ → List Sighting) → Type 0
ShowsSame {A} f sights = (a : A) (at later : ℕ) → sighted (sights (f a) later) ≡ sighted (sights a at)

joined : (xs ys us vs : List Sighting) → sighted xs ≡ sighted us → sighted ys ≡ sighted vs → sighted (xs ++ ys) ≡ sighted (us ++ vs)
joined xs ys us vs h k = sighted_append xs ys ∙ (λ i. h i ++ k i) ∙ sym (sighted_append us vs)

-- ---- rows
module _ {I S : Type 0} (f : I → I) (sign : S → S) (gives : I → ℕ → List Sighting) (long : I → ℕ) (same : ShowsSame f gives) where
  tail_same : (parts : List (S × I)) (at later : ℕ) → sighted (along_tail gives long (map (λ (p : S × I). (sign p.0, f p.1)) parts) later) ≡ sighted (along_tail gives long parts at)
  tail_same [] at later = refl
  tail_same (part ∷ parts) at later =
      joined (gives (f part.1) (later + 1)) _ (gives part.1 (at + 1)) _ (same part.1 (at + 1) (later + 1)) (tail_same parts (at + 1 + long part.1) (later + 1 + long (f part.1)))

  along_same : (item : I) (parts : List (S × I)) (at later behind behind_later : ℕ)
      → sighted (gives (f item) later ++ along_tail gives long (map (λ (p : S × I). (sign p.0, f p.1)) parts) behind_later) ≡ sighted (gives item at ++ along_tail gives long parts behind)
  along_same item parts at later behind behind_later = joined (gives (f item) later) _ (gives item at) _ (same item at later) (tail_same parts behind behind_later)

module _ {I S : Type 0} (f : I → I) (gives : I → ℕ → List Sighting) (long : I → ℕ) (same : ShowsSame f gives) where
  row_same : ShowsSame {A = Row I S} (map_row f) (along gives long)
  row_same row at later = along_same f (λ s. s) gives long same row.first row.rest at later (at + long row.first) (later + long (f row.first))

module _ {A : Type 0} (f : A → A) (gives : A → ℕ → List Sighting) (same : ShowsSame f gives) where
  maybe_same : ShowsSame (map_maybe f) (maybe_gives gives)
  maybe_same None at later = refl
  maybe_same (Some a) at later = same a at later

  further_same : ShowsSame f (further gives)
  further_same a at later = same a (at + 1) (later + 1)

-- ---- the forms of a statement
module _ (n : ℕ) where
  atom_same : ShowsSame {A = AtomOf (Operand n)} (tidied_atom n (tidied n)) (atom_sights (operand_words n) (operand_shape n) (operand_sights n))
  atom_same a at later =
      seen_in_atom (operand_words n) (operand_shape n) (operand_sights n) (in_operand n) (operand_seen n) (tidied_atom n (tidied n) a) later
      ∙ same_in_atom n a
      ∙ sym (seen_in_atom (operand_words n) (operand_shape n) (operand_sights n) (in_operand n) (operand_seen n) a at)

  full_same : ShowsSame {A = FullTerm (Operand n) (Room n)} (tidied_full n) (full_sights (operand_words n) (operand_shape n) (operand_sights n))
  full_same x at later =
      term_seen (operand_words (suc n)) (operand_shape (suc n)) (operand_sights (suc n)) (in_operand (suc n)) (operand_seen (suc n)) (tidied_full n x) later
      ∙ same_in_term (suc n) x
      ∙ sym (term_seen (operand_words (suc n)) (operand_shape (suc n)) (operand_sights (suc n)) (in_operand (suc n)) (operand_seen (suc n)) x at)

  seen_same : ShowsSame {A = AtomOf (Operand n)} (tidied_atom n (tidied n)) (atom_seen (operand_words n) (operand_shape n) (operand_sights n))
  seen_same a at later = ap (λ l. of_atom ∷ l) (atom_same a at later)

  condition_same : ShowsSame (tidied_condition n) (condition_sights (operand_words n) (operand_shape n) (operand_sights n))
  condition_same (holds true a) at later = seen_same a at later
  condition_same (holds false a) at later = seen_same a (at + 1) (later + 1)
  condition_same (compares left r right) at later = joined _ _ _ _ (full_same left at later) (full_same right _ _)

  given_same : ShowsSame (tidied_given n) (given_sights (operand_words n) (operand_shape n) (operand_sights n))
  given_same None at later = refl
  given_same (Some None) at later = refl
  given_same (Some (Some row)) at later = row_same (tidied_condition n) _ (size (condition_words (operand_words n))) condition_same row (at + 1) (later + 1)

  duration_same : ShowsSame (map_maybe (tidied_full n)) (duration_sights (operand_words n) (operand_shape n) (operand_sights n))
  duration_same = maybe_same (tidied_full n) _ (further_same (tidied_full n) _ full_same)

  places_same : ShowsSame (map_maybe (map_row (tidied_full n))) (places_sights (operand_words n) (operand_shape n) (operand_sights n))
  places_same = maybe_same (map_row (tidied_full n)) _ (further_same (map_row (tidied_full n)) _ (row_same (tidied_full n) _ (size (full_words (operand_words n))) full_same))

  element_same : ShowsSame (tidied_element n) (element_sights (operand_words n) (operand_shape n) (operand_sights n))
  element_same e at later = joined _ _ _ _ (joined _ _ _ _ (joined _ _ _ _ (full_same e.first at later) (duration_same e.duration _ _)) (places_same e.rest _ _)) (given_same e.condition _ _)

  elements_same : ShowsSame (map_maybe (map_row (tidied_element n))) (elements_sights (operand_words n) (operand_shape n) (operand_sights n))
  elements_same = maybe_same (map_row (tidied_element n)) _ (row_same (tidied_element n) _ (size (element_words (operand_words n))) element_same)

  guard_same : ShowsSame (map_maybe (tidied_guard n)) (guard_sights (operand_words n) (operand_shape n) (operand_sights n))
  guard_same None at later = refl
  guard_same (Some g) at later = full_same g.1 (at + 1) (later + 1)

  theory_same : ShowsSame (tidied_theory n) (theory_sights (operand_words n) (operand_shape n) (operand_sights n))
  theory_same a at later = joined _ _ _ _ (elements_same a.elements (at + 3) (later + 3)) (guard_same a.guard _ _)

  literal_same : ShowsSame (tidied_literal n) (literal_sights (operand_words n) (operand_shape n) (operand_sights n))
  literal_same (simple c) at later = condition_same c at later
  literal_same (theory true a) at later = theory_same a at later
  literal_same (theory false a) at later = theory_same a (at + 1) (later + 1)

  body_same : ShowsSame (map_maybe (tidied_body n)) (body_sights (operand_words n) (operand_shape n) (operand_sights n))
  body_same None at later = refl
  body_same (Some body) at later =
      along_same (tidied_literal n) (λ (s : Separating). by_comma) _ (size (literal_words (operand_words n))) literal_same body.first body.rest at later _ _

  left_same : ShowsSame (map_maybe (tidied_left n)) (left_sights (operand_words n) (operand_shape n) (operand_sights n))
  left_same None at later = refl
  left_same (Some bound) at later = full_same bound.0 at later

  right_same : ShowsSame (map_maybe (tidied_right n)) (right_sights (operand_words n) (operand_shape n) (operand_sights n))
  right_same None at later = refl
  right_same (Some bound) at later = full_same bound.1 _ _

  chosen_same : ShowsSame (tidied_chosen n) (chosen_sights (operand_words n) (operand_shape n) (operand_sights n))
  chosen_same e at later = ap (λ l. of_atom ∷ l) (joined _ _ _ _ (atom_same e.atom at later) (given_same e.condition _ _))

  chosens_same : ShowsSame (map_maybe (map_row (tidied_chosen n))) (chosens_sights (operand_words n) (operand_shape n) (operand_sights n))
  chosens_same None at later = refl
  chosens_same (Some row) at later = row_same (tidied_chosen n) (chosen_sights (operand_words n) (operand_shape n) (operand_sights n)) (size (chosen_words (operand_words n))) chosen_same row at later

  choice_same : ShowsSame (tidied_choice n) (choice_sights (operand_words n) (operand_shape n) (operand_sights n))
  choice_same c at later = joined _ _ _ _ (joined _ _ _ _ (left_same c.left at later) (chosens_same c.elements _ _)) (right_same c.right _ _)

  head_same : ShowsSame (tidied_head n) (head_sights (operand_words n) (operand_shape n) (operand_sights n))
  head_same (atom_head a) at later = seen_same a at later
  head_same (choice_head c) at later = choice_same c at later
  head_same (theory_head a) at later = theory_same a at later

  arrow_same : ShowsSame (tidied_arrow n) (arrow_sights (operand_words n) (operand_shape n) (operand_sights n))
  arrow_same no_arrow at later = refl
  arrow_same (arrow body) at later = body_same body (at + 1) (later + 1)

  -- in a tidied statement is seen what is seen in the statement
  pub same_sights : (f : StatementAt n) (at later : ℕ)
      → map (λ (s : Sighting). s.sight) (sights_of_statement n (tidied_statement n f) later) ≡ map (λ (s : Sighting). s.sight) (sights_of_statement n f at)
  same_sights (headed head behind) at later = joined _ _ _ _ (head_same head at later) (arrow_same behind _ _)
  same_sights (constraint body) at later = body_same body (at + 1) (later + 1)
  same_sights (constant name term) at later = full_same term (at + 3) (later + 3)
  same_sights show_nothing at later = refl
  same_sights (show name arity) at later = refl
