-- The printed text of bodies and heads is the text of their pieces.
use Rattle.std.proofs.Common.{◌≡◌, ℕ, true, false, Option, Some, None, List, ◌∷◌, ◌++◌, map, codes, refl, ap, ◌∙◌, append_assoc}
use Rattle.symbols.specs.declared.rel.Rel.{Rel}
use Rattle.symbols.specs.declared.rel.Rel.TheVariants.{LessEqual}
use Rattle.syntax_tree.specs.declared.rule.Name.{Name}
use Rattle.syntax_tree.specs.declared.term.Term.{Term}
use Rattle.syntax_tree.specs.Printed.{parted, term_text, rel_text, literals_text, condition_text, right_text, left_text, literal_text, chosen_text, choice_text, head_text, behind_head}
use Rattle.grammar.specs.declared.mark.Mark.TheVariants as m
use Rattle.grammar.specs.Word as word
use Rattle.grammar.specs.Term.{Operand, Room, UnaryOf, operand_words}
use Rattle.grammar.specs.Theory.{FullTerm}
use Rattle.grammar.specs.Statement.{LiteralOf, simple, theory, Separating, by_comma, BodyOf, ChosenOf, ChoiceOf, HeadOf, atom_head, choice_head, theory_head, ArrowOf, no_arrow, arrow}
use Rattle.grammar.specs.Tree.{atom_tree, unary_tree, operand_tree}
use Rattle.grammar.specs.StatementTree.{items_of, full_tree, given_trees, theory_tree, literal_tree, body_trees, rel_or_most, left_tree, right_tree, chosen_tree, choice_tree, head_tree, arrow_trees, has_arrow}
use Rattle.grammar.specs.TidiedStatement.{map_maybe, bound_rel, tidied_full, tidied_given, tidied_literal, tidied_body, tidied_chosen, tidied_left, tidied_right, tidied_choice, tidied_head, tidied_arrow}
use Rattle.grammar.specs.Standing.{Piece, solid, pieces_text}
use Rattle.grammar.proofs.TidiedTexts.{two_behind}
use Rattle.grammar.proofs.PrintedTerms.{IsKnown}
use Rattle.text_laws.proofs.AllStatement.{AllLiteral, AllBody, AllChosen, AllLeft, AllRight, AllChoice, AllHead, AllArrow}
use Rattle.text_laws.proofs.Pieces.{rel_pieces, full_pieces, given_pieces, semicolon_loose, separating_pieces, literal_pieces, body_pieces, left_pieces, right_pieces, chosen_pieces, chosens_pieces, choice_pieces, head_pieces, arrow_pieces}
use Rattle.text_laws.proofs.PrintedPieces.{rel_is, full_is, atom_is, maybe_row_is}
use Rattle.text_laws.proofs.PrintedTheory.{theory_printed, condition_is, given_is, theory_is}

between_braces : (left elements right rest : List ℕ) → (left ++ codes "{" ++ elements ++ codes "}" ++ right) ++ rest ≡ left ++ (123 ∷ (elements ++ (125 ∷ (right ++ rest))))
between_braces left elements right rest =
    append_assoc (left ++ codes "{" ++ elements ++ codes "}") right rest
    ∙ append_assoc (left ++ codes "{" ++ elements) (codes "}") (right ++ rest)
    ∙ append_assoc (left ++ codes "{") elements (125 ∷ (right ++ rest))
    ∙ append_assoc left (codes "{") (elements ++ (125 ∷ (right ++ rest)))

module _ (names : List Name) (n : ℕ) where
  abbrev inner : Operand n → Term
  inner = operand_tree names n

  abbrev outer : UnaryOf (Operand n) (Room n) → Term
  outer = unary_tree names (operand_tree names n)

  -- ---- bodies
  pub literal_is : (l : LiteralOf (Operand n) (Room n)) (rest : List Piece) → AllLiteral (IsKnown names) n l
      → literal_text names (literal_tree inner outer l) ++ pieces_text rest ≡ pieces_text (literal_pieces (operand_words n) (tidied_literal n l) rest)
  literal_is (simple c) rest all = condition_is names n c rest all
  literal_is (theory true a) rest all = ap (λ l. l ++ pieces_text rest) (theory_printed names (theory_tree inner outer a) true) ∙ theory_is names n a rest all
  literal_is (theory false a) rest all =
      ap (λ l. l ++ pieces_text rest) (theory_printed names (theory_tree inner outer a) false) ∙ ap (λ l. codes "not " ++ l) (theory_is names n a rest all)

  pub body_is : (body : Option (BodyOf (Operand n) (Room n))) (rest : List Piece) → AllBody (IsKnown names) n body
      → literals_text (map (literal_text names) (body_trees inner outer body)) ++ pieces_text rest ≡ pieces_text (body_pieces (operand_words n) (map_maybe (tidied_body n) body) rest)
  body_is =
      maybe_row_is (literal_text names) (literal_tree inner outer) (tidied_literal n) (literal_pieces (operand_words n)) (AllLiteral (IsKnown names) n) literal_is (codes ", ") (λ (s : Separating). by_comma)
      separating_pieces (λ s more. refl)

  -- ---- choices
  pub chosen_is : (e : ChosenOf (Operand n) (Room n)) (rest : List Piece) → AllChosen (IsKnown names) n e
      → chosen_text names (chosen_tree inner outer e) ++ pieces_text rest ≡ pieces_text (chosen_pieces (operand_words n) (tidied_chosen n e) rest)
  chosen_is e rest all =
      two_behind (term_text names (atom_tree inner e.atom)) (condition_text (map (literal_text names) (given_trees inner outer e.condition))) (pieces_text rest)
      ∙ ap (λ l. term_text names (atom_tree inner e.atom) ++ l) (given_is names n e.condition rest all.1)
      ∙ atom_is names n e.atom (given_pieces (operand_words n) (tidied_given n e.condition) rest) all.0

  -- a bound has its relation
  bound_is : (r : Option Rel) (rest : List Piece) → rel_text (rel_or_most inner outer r) ++ pieces_text rest ≡ pieces_text (rel_pieces (bound_rel r) rest)
  bound_is None rest = rel_is LessEqual rest
  bound_is (Some r) rest = rel_is r rest

  left_is : (b : Option (FullTerm (Operand n) (Room n) × Option Rel)) (rest : List Piece) → AllLeft (IsKnown names) n b
      → left_text names (left_tree inner outer b) ++ pieces_text rest ≡ pieces_text (left_pieces (operand_words n) (map_maybe (tidied_left n) b) rest)
  left_is None rest all = refl
  left_is (Some b) rest all =
      two_behind (term_text names (full_tree inner outer b.0)) (rel_text (rel_or_most inner outer b.1)) (pieces_text rest)
      ∙ ap (λ l. term_text names (full_tree inner outer b.0) ++ l) (bound_is b.1 rest)
      ∙ full_is names n b.0 (rel_pieces (bound_rel b.1) rest) all

  right_is : (b : Option (Option Rel × FullTerm (Operand n) (Room n))) (rest : List Piece) → AllRight (IsKnown names) n b
      → right_text names (right_tree inner outer b) ++ pieces_text rest ≡ pieces_text (right_pieces (operand_words n) (map_maybe (tidied_right n) b) rest)
  right_is None rest all = refl
  right_is (Some b) rest all =
      two_behind (rel_text (rel_or_most inner outer b.0)) (term_text names (full_tree inner outer b.1)) (pieces_text rest)
      ∙ ap (λ l. rel_text (rel_or_most inner outer b.0) ++ l) (full_is names n b.1 rest all)
      ∙ bound_is b.0 (full_pieces (operand_words n) (tidied_full n b.1) rest)

  pub choice_is : (c : ChoiceOf (Operand n) (Room n)) (rest : List Piece) → AllChoice (IsKnown names) n c
      → choice_text names (choice_tree inner outer c) ++ pieces_text rest ≡ pieces_text (choice_pieces (operand_words n) (tidied_choice n c) rest)
  choice_is c rest all =
      let left : List ℕ = left_text names (left_tree inner outer c.left) in
      let elements : List ℕ = parted (codes "; ") (map (chosen_text names) (items_of (chosen_tree inner outer) c.elements)) in
      let right : List ℕ = right_text names (right_tree inner outer c.right) in
      let behind_elements : List Piece = solid (word.mark m.CloseBrace) ∷ right_pieces (operand_words n) (tidied_choice n c).right rest in
      let behind_left : List Piece = solid (word.mark m.OpenBrace) ∷ chosens_pieces (operand_words n) (tidied_choice n c).elements behind_elements in
      between_braces left elements right (pieces_text rest)
      ∙ ap (λ l. left ++ (123 ∷ (elements ++ (125 ∷ l)))) (right_is c.right rest all.2)
      ∙ ap (λ l. left ++ (123 ∷ l))
      (maybe_row_is (chosen_text names) (chosen_tree inner outer) (tidied_chosen n) (chosen_pieces (operand_words n)) (AllChosen (IsKnown names) n) chosen_is (codes "; ") (λ (s : Unit {0}). s) semicolon_loose
      (λ s more. refl) c.elements behind_elements all.1)
      ∙ left_is c.left behind_left all.0

  -- ---- heads
  pub head_is : (h : HeadOf (Operand n) (Room n)) (rest : List Piece) → AllHead (IsKnown names) n h
      → head_text names (head_tree inner outer h) ++ pieces_text rest ≡ pieces_text (head_pieces (operand_words n) (tidied_head n h) rest)
  head_is (atom_head a) rest all = atom_is names n a rest all
  head_is (choice_head c) rest all = choice_is c rest all
  head_is (theory_head a) rest all = theory_is names n a rest all

  -- what stands behind a head
  pub arrow_is : (a : ArrowOf (Operand n) (Room n)) (rest : List Piece) → AllArrow (IsKnown names) n a
      → behind_head (has_arrow a) ++ (literals_text (map (literal_text names) (arrow_trees inner outer a)) ++ pieces_text rest) ≡ pieces_text (arrow_pieces (operand_words n) (tidied_arrow n a) rest)
  arrow_is no_arrow rest all = refl
  arrow_is (arrow body) rest all = ap (λ l. codes " :- " ++ l) (body_is body rest all)
