-- The words among a statement's pieces are the statement's words.
use Rattle.std.proofs.Common.{◌≡◌, ℕ, true, false, List, [], ◌∷◌, ◌++◌, Some, None, refl, sym, ap, ◌∙◌}
use Rattle.grammar.specs.declared.mark.Mark.TheVariants as m
use Rattle.grammar.specs.Word.{Word}
use Rattle.grammar.specs.Word as word
use Rattle.grammar.specs.Row.{tail_words, row_words}
use Rattle.grammar.specs.Parts.{maybe_words}
use Rattle.grammar.specs.Term.{AtomOf, atom_words, operand_words, comma_word}
use Rattle.grammar.specs.Theory.{FullTerm, holds, compares, rel_word, semicolon_word, full_words, condition_words, given_words, duration_words, places_words, element_words, elements_words, guard_words, theory_words}
use Rattle.grammar.specs.Statement.{simple, theory, Separating, separating_word, atom_head, choice_head, theory_head, no_arrow, arrow, headed, constraint, constant, show_nothing, show, StatementAt, maybe_rel_words, literal_words, body_words, left_words, right_words, chosen_words, chosens_words, choice_words, head_words, arrow_words, statement_words, words_of_statement}
use Rattle.grammar.specs.Standing.{Piece, solid}
use Rattle.grammar.proofs.TermLaws.{term_law}
use Rattle.grammar.proofs.ConditionLaws.{atom_law}
use Rattle.text_laws.proofs.Pieces.{words_in, solids, tail_pieces, row_pieces, maybe_pieces, comma_tight, comma_loose, semicolon_tight, semicolon_loose, separating_pieces, rel_pieces, maybe_rel_pieces, atom_pieces, full_pieces, condition_pieces, given_pieces, duration_pieces, places_pieces, element_pieces, elements_pieces, guard_pieces, theory_pieces, literal_pieces, body_pieces, left_pieces, right_pieces, chosen_pieces, chosens_pieces, choice_pieces, head_pieces, arrow_pieces, pieces_by, statement_pieces}

solids_words : (words : List Word) (rest : List Piece) → words_in (solids words rest) ≡ words ++ words_in rest
solids_words [] rest = refl
solids_words (w ∷ words) rest = ap (λ l. w ∷ l) (solids_words words rest)

-- a form whose pieces have its words
abbrev Spells : {A : Type 0} → (A → List Piece → List Piece) → (A → List Word → List Word) → Type 0
Spells {A} pieces words = (a : A) (rest : List Piece) → words_in (pieces a rest) ≡ words a (words_in rest)

module _ {I S : Type 0} (item : I → List Piece → List Piece) (item_words : I → List Word → List Word) (sign : S → List Piece → List Piece) (sign_word : S → Word)
    (item_spells : Spells item item_words) (sign_spells : (s : S) (rest : List Piece) → words_in (sign s rest) ≡ sign_word s ∷ words_in rest) where
  tail_spells : (parts : List (S × I)) (rest : List Piece) → words_in (tail_pieces item sign parts rest) ≡ tail_words item_words sign_word parts (words_in rest)
  tail_spells [] rest = refl
  tail_spells (part ∷ parts) rest =
      sign_spells part.0 (item part.1 (tail_pieces item sign parts rest))
      ∙ ap (λ l. sign_word part.0 ∷ l) (item_spells part.1 (tail_pieces item sign parts rest) ∙ ap (item_words part.1) (tail_spells parts rest))

  row_spells : Spells (row_pieces item sign) (row_words item_words sign_word)
  row_spells row rest = item_spells row.first (tail_pieces item sign row.rest rest) ∙ ap (item_words row.first) (tail_spells row.rest rest)

maybe_spells : {A : Type 0} (pieces : A → List Piece → List Piece) (words : A → List Word → List Word) → Spells pieces words → Spells (maybe_pieces pieces) (maybe_words words)
maybe_spells pieces words spells None rest = refl
maybe_spells pieces words spells (Some a) rest = spells a rest

separating_spells : (s : Separating) (rest : List Piece) → words_in (separating_pieces s rest) ≡ separating_word s ∷ words_in rest
separating_spells s rest = refl

maybe_rel_spells : Spells maybe_rel_pieces maybe_rel_words
maybe_rel_spells None rest = refl
maybe_rel_spells (Some r) rest = refl

module _ {D R : Type 0} (inner : D → List Word → List Word) (atom_parted : (a : AtomOf D) (rest : List Word) → atom_words inner a rest ≡ atom_words inner a [] ++ rest)
    (full_parted : (t : FullTerm D R) (rest : List Word) → full_words inner t rest ≡ full_words inner t [] ++ rest) where
  atom_spells : Spells (atom_pieces inner) (atom_words inner)
  atom_spells a rest = solids_words (atom_words inner a []) rest ∙ sym (atom_parted a (words_in rest))

  full_spells : Spells (full_pieces inner) (full_words {R = R} inner)
  full_spells t rest = solids_words (full_words inner t []) rest ∙ sym (full_parted t (words_in rest))

  condition_spells : Spells (condition_pieces inner) (condition_words {R = R} inner)
  condition_spells (holds true a) rest = atom_spells a rest
  condition_spells (holds false a) rest = ap (λ l. word.negation ∷ l) (atom_spells a rest)
  condition_spells (compares left r right) rest =
      full_spells left (rel_pieces r (full_pieces inner right rest)) ∙ ap (λ l. full_words inner left (rel_word r ∷ l)) (full_spells right rest)

  conditions_spells : Spells (row_pieces (condition_pieces inner) comma_loose) (row_words (condition_words {R = R} inner) comma_word)
  conditions_spells = row_spells (condition_pieces inner) (condition_words inner) comma_loose comma_word condition_spells (λ s rest. refl)

  given_spells : Spells (given_pieces inner) (given_words {R = R} inner)
  given_spells None rest = refl
  given_spells (Some conditions) rest =
      ap (λ l. word.mark m.Colon ∷ l) (maybe_spells (row_pieces (condition_pieces inner) comma_loose) (row_words (condition_words inner) comma_word) conditions_spells conditions rest)

  duration_spells : Spells (duration_pieces inner) (duration_words {R = R} inner)
  duration_spells None rest = refl
  duration_spells (Some t) rest = ap (λ l. word.mark m.At ∷ l) (full_spells t rest)

  places_spells : Spells (places_pieces inner) (places_words {R = R} inner)
  places_spells None rest = refl
  places_spells (Some row) rest =
      ap (λ l. word.mark m.Comma ∷ l) (row_spells (full_pieces inner) (full_words {R = R} inner) comma_tight comma_word full_spells (λ s rest. refl) row rest)

  element_spells : Spells (element_pieces inner) (element_words {R = R} inner)
  element_spells element rest =
      full_spells element.first (duration_pieces inner element.duration (places_pieces inner element.rest (given_pieces inner element.condition rest)))
      ∙ ap (full_words inner element.first)
      (duration_spells element.duration (places_pieces inner element.rest (given_pieces inner element.condition rest))
      ∙ ap (duration_words inner element.duration)
      (places_spells element.rest (given_pieces inner element.condition rest) ∙ ap (places_words inner element.rest) (given_spells element.condition rest)))

  elements_spells : Spells (elements_pieces inner) (elements_words {R = R} inner)
  elements_spells =
      maybe_spells (row_pieces (element_pieces inner) semicolon_tight) (row_words (element_words inner) semicolon_word)
      (row_spells (element_pieces inner) (element_words inner) semicolon_tight semicolon_word element_spells (λ s rest. refl))

  guard_spells : Spells (guard_pieces inner) (guard_words {R = R} inner)
  guard_spells None rest = refl
  guard_spells (Some guard) rest = ap (λ l. rel_word guard.0 ∷ l) (full_spells guard.1 rest)

  theory_spells : Spells (theory_pieces inner) (theory_words {R = R} inner)
  theory_spells a rest =
      ap (λ l. word.mark m.And ∷ word.name a.name ∷ word.mark m.OpenBrace ∷ l)
      (elements_spells a.elements (solid (word.mark m.CloseBrace) ∷ guard_pieces inner a.guard rest)
      ∙ ap (λ l. elements_words inner a.elements (word.mark m.CloseBrace ∷ l)) (guard_spells a.guard rest))

  literal_spells : Spells (literal_pieces inner) (literal_words {R = R} inner)
  literal_spells (simple condition) rest = condition_spells condition rest
  literal_spells (theory true a) rest = theory_spells a rest
  literal_spells (theory false a) rest = ap (λ l. word.negation ∷ l) (theory_spells a rest)

  body_spells : Spells (body_pieces inner) (body_words {R = R} inner)
  body_spells None rest = refl
  body_spells (Some body) rest = row_spells (literal_pieces inner) (literal_words inner) separating_pieces separating_word literal_spells separating_spells body rest

  left_spells : Spells (left_pieces inner) (left_words {R = R} inner)
  left_spells None rest = refl
  left_spells (Some bound) rest = full_spells bound.0 (maybe_rel_pieces bound.1 rest) ∙ ap (full_words inner bound.0) (maybe_rel_spells bound.1 rest)

  right_spells : Spells (right_pieces inner) (right_words {R = R} inner)
  right_spells None rest = refl
  right_spells (Some bound) rest = maybe_rel_spells bound.0 (full_pieces inner bound.1 rest) ∙ ap (maybe_rel_words bound.0) (full_spells bound.1 rest)

  chosen_spells : Spells (chosen_pieces inner) (chosen_words {R = R} inner)
  chosen_spells element rest =
      atom_spells element.atom (given_pieces inner element.condition rest) ∙ ap (atom_words inner element.atom) (given_spells element.condition rest)

  chosens_spells : Spells (chosens_pieces inner) (chosens_words {R = R} inner)
  chosens_spells None rest = refl
  chosens_spells (Some row) rest = row_spells (chosen_pieces inner) (chosen_words inner) semicolon_loose semicolon_word chosen_spells (λ s rest. refl) row rest

  choice_spells : Spells (choice_pieces inner) (choice_words {R = R} inner)
  choice_spells choice rest =
      left_spells choice.left (solid (word.mark m.OpenBrace) ∷ chosens_pieces inner choice.elements (solid (word.mark m.CloseBrace) ∷ right_pieces inner choice.right rest))
      ∙ ap (λ l. left_words inner choice.left (word.mark m.OpenBrace ∷ l))
      (chosens_spells choice.elements (solid (word.mark m.CloseBrace) ∷ right_pieces inner choice.right rest)
      ∙ ap (λ l. chosens_words inner choice.elements (word.mark m.CloseBrace ∷ l)) (right_spells choice.right rest))

  head_spells : Spells (head_pieces inner) (head_words {R = R} inner)
  head_spells (atom_head a) rest = atom_spells a rest
  head_spells (choice_head choice) rest = choice_spells choice rest
  head_spells (theory_head a) rest = theory_spells a rest

  arrow_spells : Spells (arrow_pieces inner) (arrow_words {R = R} inner)
  arrow_spells no_arrow rest = refl
  arrow_spells (arrow body) rest = ap (λ l. word.mark m.Arrow ∷ l) (body_spells body rest)

  statement_spells : Spells (pieces_by inner) (statement_words {R = R} inner)
  statement_spells (headed head behind) rest =
      head_spells head (arrow_pieces inner behind (solid (word.mark m.Dot) ∷ rest)) ∙ ap (head_words inner head) (arrow_spells behind (solid (word.mark m.Dot) ∷ rest))
  statement_spells (constraint body) rest = ap (λ l. word.mark m.Arrow ∷ l) (body_spells body (solid (word.mark m.Dot) ∷ rest))
  statement_spells (constant name term) rest =
      ap (λ l. word.const_word ∷ word.name name ∷ word.mark m.Equal ∷ l) (full_spells term (solid (word.mark m.Dot) ∷ rest))
  statement_spells show_nothing rest = refl
  statement_spells (show name arity) rest = refl

-- the words among a statement's pieces are its words
pub pieces_words : (n : ℕ) (f : StatementAt n) (rest : List Piece) → words_in (statement_pieces n f rest) ≡ words_of_statement n f (words_in rest)
pieces_words n = statement_spells (operand_words n) (λ a rest. (atom_law n).parted a [] rest) (λ t rest. (term_law n).parted t [] rest)
