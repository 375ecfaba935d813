-- Each word of a statement that is a variable is seen in it.
use Rattle.std.proofs.Common.{◌≡◌, ℕ, zero, suc, ◌+◌, true, false, Some, None, List, [], ◌∷◌, ◌++◌, map, refl, ◌⊎◌, inl, inr}
use Rattle.std.specs.List.{AllByRecursion}
use Rattle.symbols.specs.declared.rel.Rel.{Rel}
use Rattle.grammar.specs.declared.shape.Shape.{Shape}
use Rattle.grammar.specs.Word.{Word}
use Rattle.grammar.specs.Word as word
use Rattle.grammar.specs.Row.{Row}
use Rattle.grammar.specs.Term.{AtomOf, UnaryOf, Operand, Room, alone, interval, plain, applied, negated, number, text, variable, anonymous, atom, unit, group, single, tuple, product_words, sum_words, term_words, operand_words}
use Rattle.grammar.specs.Shape.{term_shape, operand_shape}
use Rattle.grammar.specs.AllWords.{AllItems, AllTerm, AllArgs, AllAtom, AllUnary, AllOperand}
use Rattle.grammar.specs.Sight.{Sight, of_variable, of_atom, Sighting, seen, size, along_tail, along, argument_by, product_sights, sum_sights, term_sights, argument_sights, args_sights, atom_sights, unary_sights, operand_sights}
use Rattle.grammar.specs.Theory.{FullTerm, holds, compares, full_words, condition_words, element_words}
use Rattle.grammar.specs.Statement.{simple, theory, atom_head, choice_head, theory_head, no_arrow, arrow, headed, constraint, constant, show_nothing, show, StatementAt, literal_words, chosen_words, maybe_rel_words}
use Rattle.grammar.specs.StatementSight.{behind_first, behind_duration, choice_opening, atom_seen, full_sights, condition_sights, given_sights, duration_sights, places_sights, element_sights, elements_sights, guard_sights, theory_sights, literal_sights, body_sights, left_sights, right_sights, chosen_sights, chosens_sights, choice_sights, head_sights, arrow_sights, sights_of_statement}
use Rattle.text_laws.proofs.AllStatement.{AllMaybe, AllFull, AllAtomAt, AllCondition, AllGiven, AllElement, AllTheory, AllLiteral, AllBody, AllChosen, AllLeft, AllRight, AllChoice, AllHead, AllArrow, AllStatement}
use Rattle.text_laws.proofs.SightLists.{sighted}

-- a sight is one of these
abbrev pub IsAmong : Sight → List Sight → Type 0
IsAmong sight [] = ⊥
IsAmong sight (other ∷ sights) = (sight ≡ other) ⊎ IsAmong sight sights

-- a word that is a variable is one of these sights
abbrev pub IsSeen : List Sight → Word → Type 0
IsSeen sights (word.variable name) = IsAmong (of_variable name) sights
IsSeen sights (word.numeral n) = Unit {0}
IsSeen sights (word.name bytes) = Unit {0}
IsSeen sights word.anonymous = Unit {0}
IsSeen sights (word.string bytes) = Unit {0}
IsSeen sights word.negation = Unit {0}
IsSeen sights word.const_word = Unit {0}
IsSeen sights word.show_word = Unit {0}
IsSeen sights (word.mark mark) = Unit {0}

in_front : (sight : Sight) (xs ys : List Sighting) → IsAmong sight (sighted xs) → IsAmong sight (sighted (xs ++ ys))
in_front sight [] ys h = absurd h
in_front sight (x ∷ xs) ys (inl h) = inl h
in_front sight (x ∷ xs) ys (inr h) = inr (in_front sight xs ys h)

in_back : (sight : Sight) (xs ys : List Sighting) → IsAmong sight (sighted ys) → IsAmong sight (sighted (xs ++ ys))
in_back sight [] ys h = h
in_back sight (x ∷ xs) ys h = inr (in_back sight xs ys h)

-- over a list of sights
module _ (all : List Sight) where
  -- it has each variable that is seen here
  abbrev Holds : List Sighting → Type 0
  Holds sightings = (name : List ℕ) → IsAmong (of_variable name) (sighted sightings) → IsAmong (of_variable name) all

  front : (xs ys : List Sighting) → Holds (xs ++ ys) → Holds xs
  front xs ys h name k = h name (in_front (of_variable name) xs ys k)

  back : (xs ys : List Sighting) → Holds (xs ++ ys) → Holds ys
  back xs ys h name k = h name (in_back (of_variable name) xs ys k)

  -- where it has each variable that is seen in a form, the claim is true of the form
  abbrev Gives : {A : Type 0} → (A → ℕ → List Sighting) → (A → Type 0) → Type 0
  Gives {A} sights claim = (a : A) (at : ℕ) → Holds (sights a at) → claim a

  -- ---- rows
  module _ {I S : Type 0} (sights : I → ℕ → List Sighting) (long : I → ℕ) (claim : I → Type 0) (gives : Gives sights claim) where
    tail_gives : (parts : List (S × I)) (at : ℕ) → Holds (along_tail sights long parts at) → AllByRecursion (λ (p : S × I). claim p.1) parts
    tail_gives [] at h = tt
    tail_gives (part ∷ parts) at h =
        (gives part.1 (at + 1) (front (sights part.1 (at + 1)) _ h), tail_gives parts (at + 1 + long part.1) (back (sights part.1 (at + 1)) _ h))

    row_gives : Gives {A = Row I S} (along sights long) (AllItems claim)
    row_gives row at h = (gives row.first at (front (sights row.first at) _ h), tail_gives row.rest (at + long row.first) (back (sights row.first at) _ h))

  -- ---- terms
  module _ {U : Type 0} (words : U → List Word → List Word) (shapes : U → Shape) (sights : U → ℕ → List Sighting) (claim : U → Type 0) (gives : Gives sights claim) where
    product_gives : Gives (product_sights words shapes sights) (AllItems claim)
    product_gives = row_gives sights (size words) claim gives

    sum_gives : Gives (sum_sights words shapes sights) (AllItems (AllItems claim))
    sum_gives = row_gives (product_sights words shapes sights) (size (product_words words)) (AllItems claim) product_gives

    term_gives : Gives (term_sights words shapes sights) (AllTerm claim)
    term_gives (alone s) at h = sum_gives s at h
    term_gives (interval left right) at h =
        (sum_gives left at (front (sum_sights words shapes sights left at) _ h), sum_gives right (at + size (sum_words words) left + 1) (back (sum_sights words shapes sights left at) _ h))

    argument_gives : Gives (argument_sights words shapes sights) (AllTerm claim)
    argument_gives x at h = term_gives x at (back (argument_by (term_shape shapes x) at) _ h)

    args_give : Gives (args_sights words shapes sights) (AllArgs claim)
    args_give = row_gives (argument_sights words shapes sights) (size (term_words words)) (AllTerm claim) argument_gives

    atom_gives : Gives (atom_sights words shapes sights) (AllAtom (IsSeen all) claim)
    atom_gives (plain name) at h = tt
    atom_gives (applied name args) at h = (tt, args_give args (at + 2) h)

    unary_gives : {R : Type 0} → Gives {A = UnaryOf U R} (unary_sights words shapes sights) (AllUnary (IsSeen all) claim)
    unary_gives (negated d) at h = gives d (at + 1) h
    unary_gives (number k) at h = tt
    unary_gives (text bytes) at h = tt
    unary_gives (variable name) at h = h name (inl refl)
    unary_gives anonymous at h = tt
    unary_gives (atom a) at h = atom_gives a at h
    unary_gives (unit room) at h = tt
    unary_gives (group x) at h = term_gives x (at + 1) h
    unary_gives (single x) at h = argument_gives x (at + 1) h
    unary_gives (tuple x args) at h =
        (argument_gives x (at + 1) (front (argument_sights words shapes sights x (at + 1)) _ h), args_give args (at + 1 + size (term_words words) x + 1) (back (argument_sights words shapes sights x (at + 1)) _ h))

  operand_gives : (n : ℕ) → Gives (operand_sights n) (AllOperand (IsSeen all) n)
  operand_gives zero u at h = absurd u
  operand_gives (suc n) u at h = unary_gives (operand_words n) (operand_shape n) (operand_sights n) (AllOperand (IsSeen all) n) (operand_gives n) u at h

  -- ---- the forms of a statement
  module _ (n : ℕ) where
    full_gives : Gives {A = FullTerm (Operand n) (Room n)} (full_sights (operand_words n) (operand_shape n) (operand_sights n)) (AllFull (IsSeen all) n)
    full_gives x at h = term_gives (operand_words (suc n)) (operand_shape (suc n)) (operand_sights (suc n)) (AllOperand (IsSeen all) (suc n)) (operand_gives (suc n)) x at h

    -- an atom that stands for itself
    seen_gives : Gives {A = AtomOf (Operand n)} (atom_seen (operand_words n) (operand_shape n) (operand_sights n)) (AllAtomAt (IsSeen all) n)
    seen_gives a at h =
        atom_gives (operand_words n) (operand_shape n) (operand_sights n) (AllOperand (IsSeen all) n) (operand_gives n) a at (back (seen of_atom at) _ h)

    condition_gives : Gives (condition_sights (operand_words n) (operand_shape n) (operand_sights n)) (AllCondition (IsSeen all) n)
    condition_gives (holds true a) at h = seen_gives a at h
    condition_gives (holds false a) at h = seen_gives a (at + 1) h
    condition_gives (compares left r right) at h =
        let before : List Sighting = full_sights (operand_words n) (operand_shape n) (operand_sights n) left at in
        (full_gives left at (front before _ h), full_gives right _ (back before _ h))

    given_gives : Gives (given_sights (operand_words n) (operand_shape n) (operand_sights n)) (AllGiven (IsSeen all) n)
    given_gives None at h = tt
    given_gives (Some None) at h = tt
    given_gives (Some (Some row)) at h =
        row_gives (condition_sights (operand_words n) (operand_shape n) (operand_sights n)) (size (condition_words (operand_words n))) (AllCondition (IsSeen all) n) condition_gives row (at + 1) h

    duration_gives : Gives (duration_sights (operand_words n) (operand_shape n) (operand_sights n)) (AllMaybe (AllFull (IsSeen all) n))
    duration_gives None at h = tt
    duration_gives (Some x) at h = full_gives x (at + 1) h

    places_give : Gives (places_sights (operand_words n) (operand_shape n) (operand_sights n)) (AllMaybe (AllItems (AllFull (IsSeen all) n)))
    places_give None at h = tt
    places_give (Some row) at h =
        row_gives (full_sights (operand_words n) (operand_shape n) (operand_sights n)) (size (full_words (operand_words n))) (AllFull (IsSeen all) n) full_gives row (at + 1) h

    element_gives : Gives (element_sights (operand_words n) (operand_shape n) (operand_sights n)) (AllElement (IsSeen all) n)
    element_gives e at h =
        let first : List Sighting = full_sights (operand_words n) (operand_shape n) (operand_sights n) e.first at in
        let second : List Sighting = duration_sights (operand_words n) (operand_shape n) (operand_sights n) e.duration (behind_first (operand_words n) e at) in
        let third : List Sighting = places_sights (operand_words n) (operand_shape n) (operand_sights n) e.rest (behind_duration (operand_words n) e at) in
        let three : Holds (first ++ second ++ third) = front (first ++ second ++ third) _ h in
        let two : Holds (first ++ second) = front (first ++ second) third three in (
          full_gives e.first at (front first second two),
          duration_gives e.duration _ (back first second two),
          places_give e.rest _ (back (first ++ second) third three),
          given_gives e.condition _ (back (first ++ second ++ third) _ h),
        )

    elements_give : Gives (elements_sights (operand_words n) (operand_shape n) (operand_sights n)) (AllMaybe (AllItems (AllElement (IsSeen all) n)))
    elements_give None at h = tt
    elements_give (Some row) at h =
        row_gives (element_sights (operand_words n) (operand_shape n) (operand_sights n)) (size (element_words (operand_words n))) (AllElement (IsSeen all) n) element_gives row at h

    guard_gives : Gives (guard_sights (operand_words n) (operand_shape n) (operand_sights n)) (AllMaybe (λ (g : Rel × FullTerm (Operand n) (Room n)). AllFull (IsSeen all) n g.1))
    guard_gives None at h = tt
    guard_gives (Some g) at h = full_gives g.1 (at + 1) h

    theory_gives : Gives (theory_sights (operand_words n) (operand_shape n) (operand_sights n)) (AllTheory (IsSeen all) n)
    theory_gives a at h =
        let elements : List Sighting = elements_sights (operand_words n) (operand_shape n) (operand_sights n) a.elements (at + 3) in
        (tt, elements_give a.elements (at + 3) (front elements _ h), guard_gives a.guard _ (back elements _ h))

    literal_gives : Gives (literal_sights (operand_words n) (operand_shape n) (operand_sights n)) (AllLiteral (IsSeen all) n)
    literal_gives (simple c) at h = condition_gives c at h
    literal_gives (theory true a) at h = theory_gives a at h
    literal_gives (theory false a) at h = theory_gives a (at + 1) h

    body_gives : Gives (body_sights (operand_words n) (operand_shape n) (operand_sights n)) (AllBody (IsSeen all) n)
    body_gives None at h = tt
    body_gives (Some body) at h =
        row_gives (literal_sights (operand_words n) (operand_shape n) (operand_sights n)) (size (literal_words (operand_words n))) (AllLiteral (IsSeen all) n) literal_gives body at h

    left_gives : Gives (left_sights (operand_words n) (operand_shape n) (operand_sights n)) (AllLeft (IsSeen all) n)
    left_gives None at h = tt
    left_gives (Some bound) at h = full_gives bound.0 at h

    right_gives : Gives (right_sights (operand_words n) (operand_shape n) (operand_sights n)) (AllRight (IsSeen all) n)
    right_gives None at h = tt
    right_gives (Some bound) at h = full_gives bound.1 (at + size maybe_rel_words bound.0) h

    chosen_gives : Gives (chosen_sights (operand_words n) (operand_shape n) (operand_sights n)) (AllChosen (IsSeen all) n)
    chosen_gives e at h =
        let before : List Sighting = atom_seen (operand_words n) (operand_shape n) (operand_sights n) e.atom at in
        (seen_gives e.atom at (front before _ h), given_gives e.condition _ (back before _ h))

    chosens_give : Gives (chosens_sights (operand_words n) (operand_shape n) (operand_sights n)) (AllMaybe (AllItems (AllChosen (IsSeen all) n)))
    chosens_give None at h = tt
    chosens_give (Some row) at h =
        row_gives (chosen_sights (operand_words n) (operand_shape n) (operand_sights n)) (size (chosen_words (operand_words n))) (AllChosen (IsSeen all) n) chosen_gives row at h

    choice_gives : Gives (choice_sights (operand_words n) (operand_shape n) (operand_sights n)) (AllChoice (IsSeen all) n)
    choice_gives c at h =
        let first : List Sighting = left_sights (operand_words n) (operand_shape n) (operand_sights n) c.left at in
        let second : List Sighting = chosens_sights (operand_words n) (operand_shape n) (operand_sights n) c.elements (choice_opening (operand_words n) c at + 1) in
        let two : Holds (first ++ second) = front (first ++ second) _ h in
        (left_gives c.left at (front first second two), chosens_give c.elements _ (back first second two), right_gives c.right _ (back (first ++ second) _ h))

    head_gives : Gives (head_sights (operand_words n) (operand_shape n) (operand_sights n)) (AllHead (IsSeen all) n)
    head_gives (atom_head a) at h = seen_gives a at h
    head_gives (choice_head c) at h = choice_gives c at h
    head_gives (theory_head a) at h = theory_gives a at h

    arrow_gives : Gives (arrow_sights (operand_words n) (operand_shape n) (operand_sights n)) (AllArrow (IsSeen all) n)
    arrow_gives no_arrow at h = tt
    arrow_gives (arrow body) at h = body_gives body (at + 1) h

    statement_gives : Gives (sights_of_statement n) (AllStatement (IsSeen all) n)
    statement_gives (headed head behind) at h =
        let before : List Sighting = head_sights (operand_words n) (operand_shape n) (operand_sights n) head at in
        (head_gives head at (front before _ h), arrow_gives behind _ (back before _ h))
    statement_gives (constraint body) at h = body_gives body (at + 1) h
    statement_gives (constant name term) at h = (tt, full_gives term (at + 3) h)
    statement_gives show_nothing at h = tt
    statement_gives (show name arity) at h = (tt, tt)

-- each variable of a statement is seen in it
pub all_seen : (n : ℕ) (f : StatementAt n) (at : ℕ) → AllStatement (IsSeen (map (λ (s : Sighting). s.sight) (sights_of_statement n f at))) n f
all_seen n f at = statement_gives (map (λ (s : Sighting). s.sight) (sights_of_statement n f at)) n f at (λ name h. h)
