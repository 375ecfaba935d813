-- The printed text of terms, relations and rows is the text of their pieces.
use Rattle.std.proofs.Common.{◌≡◌, ℕ, suc, Option, Some, None, List, [], ◌∷◌, ◌++◌, map, refl, sym, ap, ◌∙◌, append_assoc, append-nil}
use Rattle.std.specs.List.{AllByRecursion}
use Rattle.symbols.specs.declared.rel.Rel.{Rel}
use Rattle.symbols.specs.declared.rel.Rel.TheVariants as rel
use Rattle.syntax_tree.specs.declared.rule.Name.{Name}
use Rattle.syntax_tree.specs.Printed.{each_behind, parted, term_text, rel_text}
use Rattle.grammar.specs.Word.{Word}
use Rattle.grammar.specs.WordText.{word_text, words_text}
use Rattle.grammar.specs.Row.{Row}
use Rattle.grammar.specs.Term.{AtomOf, Operand, Room, atom_words, operand_words}
use Rattle.grammar.specs.Theory.{FullTerm, full_words}
use Rattle.grammar.specs.Tree.{atom_tree, unary_tree, operand_tree}
use Rattle.grammar.specs.StatementTree.{items, items_of, full_tree}
use Rattle.grammar.specs.AllWords.{AllItems}
use Rattle.grammar.specs.Tidied.{row_of, tidied_atom, tidied}
use Rattle.grammar.specs.TidiedStatement.{map_maybe, tidied_full}
use Rattle.grammar.specs.Standing.{Piece, pieces_text}
use Rattle.grammar.proofs.TidiedTexts.{three_behind}
use Rattle.grammar.proofs.PrintedTerms.{IsKnown, printed_term, printed_atom}
use Rattle.text_laws.proofs.AllStatement.{AllMaybe, AllFull, AllAtomAt}
use Rattle.text_laws.proofs.Pieces.{solids, tail_pieces, row_pieces, maybe_pieces, rel_pieces, atom_pieces, full_pieces}

-- ---- words with no blank between them
solids_text : (words : List Word) (rest : List Piece) → pieces_text (solids words rest) ≡ words_text words ++ pieces_text rest
solids_text [] rest = refl
solids_text (w ∷ words) rest = ap (λ l. word_text w ++ l) (solids_text words rest) ∙ sym (append_assoc (word_text w) (words_text words) (pieces_text rest))

-- a text that is that of words stands before other pieces
before_pieces : (bytes : List ℕ) (words : List Word) (rest : List Piece) → bytes ++ words_text [] ≡ words_text words → bytes ++ pieces_text rest ≡ pieces_text (solids words rest)
before_pieces bytes words rest h = ap (λ l. l ++ pieces_text rest) (sym (append-nil bytes) ∙ h) ∙ sym (solids_text words rest)

pub rel_is : (r : Rel) (rest : List Piece) → rel_text r ++ pieces_text rest ≡ pieces_text (rel_pieces r rest)
rel_is rel.Equal rest = refl
rel_is rel.NotEqual rest = refl
rel_is rel.Less rest = refl
rel_is rel.LessEqual rest = refl
rel_is rel.Greater rest = refl
rel_is rel.GreaterEqual rest = refl

module _ (names : List Name) (n : ℕ) where
  pub full_is : (x : FullTerm (Operand n) (Room n)) (rest : List Piece) → AllFull (IsKnown names) n x
      → term_text names (full_tree (operand_tree names n) (unary_tree names (operand_tree names n)) x) ++ pieces_text rest ≡ pieces_text (full_pieces (operand_words n) (tidied_full n x) rest)
  full_is x rest all =
      before_pieces (term_text names (full_tree (operand_tree names n) (unary_tree names (operand_tree names n)) x)) (full_words (operand_words n) (tidied_full n x) []) rest
      (printed_term names (suc n) x [] all)

  pub atom_is : (a : AtomOf (Operand n)) (rest : List Piece) → AllAtomAt (IsKnown names) n a
      → term_text names (atom_tree (operand_tree names n) a) ++ pieces_text rest ≡ pieces_text (atom_pieces (operand_words n) (tidied_atom n (tidied n) a) rest)
  atom_is a rest all =
      before_pieces (term_text names (atom_tree (operand_tree names n) a)) (atom_words (operand_words n) (tidied_atom n (tidied n) a) []) rest (printed_atom names n a [] all)

-- ---- rows: `text` is the text of a tree, `place` what is printed of an item, and `turn` of a sign
module _ {I J S T X : Type 0} (text : X → List ℕ) (tree : I → X) (place : I → J) (pieces : J → List Piece → List Piece) (Claim : I → Type 0)
    (law : (x : I) (rest : List Piece) → Claim x → text (tree x) ++ pieces_text rest ≡ pieces_text (pieces (place x) rest)) (mark : List ℕ) (turn : S → T) (sign : T → List Piece → List Piece)
    (signed : (s : S) (rest : List Piece) → mark ++ pieces_text rest ≡ pieces_text (sign (turn s) rest)) where
  abbrev placed : List (S × I) → List (T × J)
  placed = map (λ (p : S × I). (turn p.0, place p.1))

  abbrev placed_row : Row I S → Row J T
  placed_row row = row_of (place row.first) (placed row.rest)

  pub behind_is : (parts : List (S × I)) (rest : List Piece) → AllByRecursion (λ (p : S × I). Claim p.1) parts
      → each_behind mark (map text (map (λ (p : S × I). tree p.1) parts)) ++ pieces_text rest ≡ pieces_text (tail_pieces pieces sign (placed parts) rest)
  behind_is [] rest all = refl
  behind_is (part ∷ parts) rest all =
      three_behind mark (text (tree part.1)) (each_behind mark (map text (map (λ (p : S × I). tree p.1) parts))) (pieces_text rest)
      ∙ ap (λ l. mark ++ (text (tree part.1) ++ l)) (behind_is parts rest all.1)
      ∙ ap (λ l. mark ++ l) (law part.1 (tail_pieces pieces sign (placed parts) rest) all.0)
      ∙ signed part.0 (pieces (place part.1) (tail_pieces pieces sign (placed parts) rest))

  pub row_is : (row : Row I S) (rest : List Piece) → AllItems Claim row
      → parted mark (map text (items tree row)) ++ pieces_text rest ≡ pieces_text (row_pieces pieces sign (placed_row row) rest)
  row_is row rest all =
      append_assoc (text (tree row.first)) (each_behind mark (map text (map (λ (p : S × I). tree p.1) row.rest))) (pieces_text rest)
      ∙ ap (λ l. text (tree row.first) ++ l) (behind_is row.rest rest all.1)
      ∙ law row.first (tail_pieces pieces sign (placed row.rest) rest) all.0

  pub maybe_row_is : (row : Option (Row I S)) (rest : List Piece) → AllMaybe (AllItems Claim) row
      → parted mark (map text (items_of tree row)) ++ pieces_text rest ≡ pieces_text (maybe_pieces (row_pieces pieces sign) (map_maybe placed_row row) rest)
  maybe_row_is None rest all = refl
  maybe_row_is (Some row) rest all = row_is row rest all
