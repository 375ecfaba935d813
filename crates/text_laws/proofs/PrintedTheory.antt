-- The printed text of conditions and theory atoms is the text of their pieces.
use Rattle.std.proofs.Common.{◌≡◌, ℕ, Bool, true, false, Option, Some, None, List, ◌∷◌, ◌++◌, map, codes, refl, ap, ◌∙◌, append_assoc}
use Rattle.symbols.specs.declared.rel.Rel.{Rel}
use Rattle.syntax_tree.specs.declared.rule.Name.{Name}
use Rattle.syntax_tree.specs.declared.term.Term.{Term}
use Rattle.syntax_tree.specs.declared.literal.Literal.{Literal, roll-Literal}
use Rattle.syntax_tree.specs.declared.literal.Literal.TheOpen.{Literal-F, TheoryAtom-F, TheoryElement-F}
use Rattle.syntax_tree.specs.declared.literal.Literal.TheFolds.{fold-roll-Literal, fold-roll-TheoryAtom, fold-roll-TheoryElement}
use Rattle.syntax_tree.specs.declared.literal.Literal.TheVariants as literal
use Rattle.syntax_tree.specs.declared.literal.TheoryAtom.{TheoryAtom, roll-TheoryAtom}
use Rattle.syntax_tree.specs.declared.literal.TheoryElement.{TheoryElement, roll-TheoryElement}
use Rattle.syntax_tree.specs.Printed.{each_behind, parted, term_text, rel_text, not_text, theory_name_text, condition_text, right_text, duration_text, literal_step, theory_step, element_step, literal_text, theory_text, element_text}
use Rattle.grammar.specs.declared.mark.Mark.TheVariants as m
use Rattle.grammar.specs.Word as word
use Rattle.grammar.specs.Term.{Operand, Room, UnaryOf, operand_words}
use Rattle.grammar.specs.Theory.{FullTerm, ConditionOf, holds, compares, PlacesOf, GivenOf, ElementOf, TheoryOf}
use Rattle.grammar.specs.Tree.{atom_tree, unary_tree, operand_tree}
use Rattle.grammar.specs.StatementTree.{items_of, theory_name, full_tree, condition_tree, given_trees, maybe_tree, element_tree, guard_tree, theory_tree}
use Rattle.grammar.specs.AllWords.{AllItems}
use Rattle.grammar.specs.Tidied.{map_row}
use Rattle.grammar.specs.TidiedStatement.{map_maybe, tidied_full, tidied_condition, tidied_given, tidied_element, tidied_guard, tidied_theory}
use Rattle.grammar.specs.Standing.{Piece, solid, pieces_text}
use Rattle.grammar.proofs.TidiedTexts.{two_behind, three_behind}
use Rattle.grammar.proofs.PrintedTerms.{IsKnown}
use Rattle.text_laws.proofs.AllStatement.{AllMaybe, AllFull, AllCondition, AllGiven, AllElement, AllTheory}
use Rattle.text_laws.proofs.Pieces.{comma_tight, comma_loose, semicolon_tight, rel_pieces, full_pieces, condition_pieces, given_pieces, duration_pieces, places_pieces, element_pieces, guard_pieces, theory_pieces}
use Rattle.text_laws.proofs.PrintedPieces.{rel_is, full_is, atom_is, behind_is, row_is, maybe_row_is}

-- ---- the layers of a literal's text
module _ (names : List Name) where
  atom_printed : (atom : Term) (sign : Bool) → literal_text names (literal.Atom atom sign) ≡ not_text sign ++ term_text names atom
  unfolding roll-Literal denote.Hole.Carrier.roll
  atom_printed atom sign = fold-roll-Literal (List ℕ) (List ℕ) (List ℕ) (literal_step names) (theory_step names) (element_step names) (Literal-F.Atom atom sign)

  comparison_printed : (left : Term) (r : Rel) (right : Term) → literal_text names (literal.Compare left r right) ≡ term_text names left ++ rel_text r ++ term_text names right
  unfolding roll-Literal denote.Hole.Carrier.roll
  comparison_printed left r right = fold-roll-Literal (List ℕ) (List ℕ) (List ℕ) (literal_step names) (theory_step names) (element_step names) (Literal-F.Compare left r right)

  pub theory_printed : (atom : TheoryAtom) (sign : Bool) → literal_text names (literal.Theory atom sign) ≡ not_text sign ++ theory_text names atom
  unfolding roll-Literal denote.Hole.Carrier.roll
  theory_printed atom sign = fold-roll-Literal (List ℕ) (List ℕ) (List ℕ) (literal_step names) (theory_step names) (element_step names) (Literal-F.Theory atom sign)

  theory_atom_printed : (x : TheoryAtom-F Literal TheoryAtom TheoryElement)
      → theory_text names (roll-TheoryAtom x) ≡ codes "&" ++ theory_name_text x.name ++ codes "{" ++ parted (codes ";") (map (element_text names) x.elements) ++ codes "}" ++ right_text names x.guard
  theory_atom_printed x = fold-roll-TheoryAtom (List ℕ) (List ℕ) (List ℕ) (literal_step names) (theory_step names) (element_step names) x

  element_printed : (x : TheoryElement-F Literal TheoryAtom TheoryElement)
      → element_text names (roll-TheoryElement x)
      ≡ term_text names x.first ++ duration_text names x.duration ++ each_behind (codes ",") (map (term_text names) x.rest) ++ condition_text (map (literal_text names) x.condition)
  element_printed x = fold-roll-TheoryElement (List ℕ) (List ℕ) (List ℕ) (literal_step names) (theory_step names) (element_step names) x

four_behind : (a b c d rest : List ℕ) → (a ++ b ++ c ++ d) ++ rest ≡ a ++ (b ++ (c ++ (d ++ rest)))
four_behind a b c d rest = append_assoc (a ++ b ++ c) d rest ∙ three_behind a b c (d ++ rest)

braces_behind : (name elements guard rest : List ℕ) → (codes "&" ++ name ++ codes "{" ++ elements ++ codes "}" ++ guard) ++ rest ≡ 38 ∷ (name ++ (123 ∷ (elements ++ (125 ∷ (guard ++ rest)))))
braces_behind name elements guard rest =
    append_assoc (codes "&" ++ name ++ codes "{" ++ elements ++ codes "}") guard rest
    ∙ append_assoc (codes "&" ++ name ++ codes "{" ++ elements) (codes "}") (guard ++ rest)
    ∙ append_assoc (codes "&" ++ name ++ codes "{") elements (125 ∷ (guard ++ rest))
    ∙ append_assoc (codes "&" ++ name) (codes "{") (elements ++ (125 ∷ (guard ++ rest)))

-- ---- level by level
module _ (names : List Name) (n : ℕ) where
  abbrev inner : Operand n → Term
  inner = operand_tree names n

  abbrev outer : UnaryOf (Operand n) (Room n) → Term
  outer = unary_tree names (operand_tree names n)

  pub condition_is : (c : ConditionOf (Operand n) (Room n)) (rest : List Piece) → AllCondition (IsKnown names) n c
      → literal_text names (condition_tree inner outer c) ++ pieces_text rest ≡ pieces_text (condition_pieces (operand_words n) (tidied_condition n c) rest)
  condition_is (holds true a) rest all = ap (λ l. l ++ pieces_text rest) (atom_printed names (atom_tree inner a) true) ∙ atom_is names n a rest all
  condition_is (holds false a) rest all =
      ap (λ l. l ++ pieces_text rest) (atom_printed names (atom_tree inner a) false) ∙ ap (λ l. codes "not " ++ l) (atom_is names n a rest all)
  condition_is (compares left r right) rest all =
      ap (λ l. l ++ pieces_text rest) (comparison_printed names (full_tree inner outer left) r (full_tree inner outer right))
      ∙ three_behind (term_text names (full_tree inner outer left)) (rel_text r) (term_text names (full_tree inner outer right)) (pieces_text rest)
      ∙ ap (λ l. term_text names (full_tree inner outer left) ++ (rel_text r ++ l)) (full_is names n right rest all.1)
      ∙ ap (λ l. term_text names (full_tree inner outer left) ++ l) (rel_is r (full_pieces (operand_words n) (tidied_full n right) rest))
      ∙ full_is names n left (rel_pieces r (full_pieces (operand_words n) (tidied_full n right) rest)) all.0

  pub given_is : (g : GivenOf (Operand n) (Room n)) (rest : List Piece) → AllGiven (IsKnown names) n g
      → condition_text (map (literal_text names) (given_trees inner outer g)) ++ pieces_text rest ≡ pieces_text (given_pieces (operand_words n) (tidied_given n g) rest)
  given_is None rest all = refl
  given_is (Some None) rest all = refl
  given_is (Some (Some row)) rest all =
      ap (λ l. codes " : " ++ l)
      (row_is (literal_text names) (condition_tree inner outer) (tidied_condition n) (condition_pieces (operand_words n)) (AllCondition (IsKnown names) n) condition_is (codes ", ") (λ (s : Unit {0}). s) comma_loose
      (λ s more. refl) row rest all)

  duration_is : (d : Option (FullTerm (Operand n) (Room n))) (rest : List Piece) → AllMaybe (AllFull (IsKnown names) n) d
      → duration_text names (maybe_tree inner outer d) ++ pieces_text rest ≡ pieces_text (duration_pieces (operand_words n) (map_maybe (tidied_full n) d) rest)
  duration_is None rest all = refl
  duration_is (Some d) rest all = ap (λ l. codes "@" ++ l) (full_is names n d rest all)

  places_is : (places : Option (PlacesOf (Operand n) (Room n))) (rest : List Piece) → AllMaybe (AllItems (AllFull (IsKnown names) n)) places
      → each_behind (codes ",") (map (term_text names) (items_of (full_tree inner outer) places)) ++ pieces_text rest ≡ pieces_text (places_pieces (operand_words n) (map_maybe (map_row (tidied_full n)) places) rest)
  places_is None rest all = refl
  places_is (Some row) rest all =
      behind_is (term_text names) (full_tree inner outer) (tidied_full n) (full_pieces (operand_words n)) (AllFull (IsKnown names) n) (full_is names n) (codes ",") (λ (s : Unit {0}). s) comma_tight
      (λ s more. refl) ((tt, row.first) ∷ row.rest) rest (all.0, all.1)

  pub element_is : (e : ElementOf (Operand n) (Room n)) (rest : List Piece) → AllElement (IsKnown names) n e
      → element_text names (element_tree inner outer e) ++ pieces_text rest ≡ pieces_text (element_pieces (operand_words n) (tidied_element n e) rest)
  element_is e rest all =
      let first : List ℕ = term_text names (full_tree inner outer e.first) in
      let duration : List ℕ = duration_text names (maybe_tree inner outer e.duration) in
      let places : List ℕ = each_behind (codes ",") (map (term_text names) (items_of (full_tree inner outer) e.rest)) in
      let given : List ℕ = condition_text (map (literal_text names) (given_trees inner outer e.condition)) in
      let behind_places : List Piece = given_pieces (operand_words n) (tidied_given n e.condition) rest in
      let behind_duration : List Piece = places_pieces (operand_words n) (map_maybe (map_row (tidied_full n)) e.rest) behind_places in
      let behind_first : List Piece = duration_pieces (operand_words n) (map_maybe (tidied_full n) e.duration) behind_duration in
      ap (λ l. l ++ pieces_text rest)
      (element_printed names (record {
        first = full_tree inner outer e.first;
        duration = maybe_tree inner outer e.duration;
        rest = items_of (full_tree inner outer) e.rest;
        condition = given_trees inner outer e.condition;
      }))
      ∙ four_behind first duration places given (pieces_text rest)
      ∙ ap (λ l. first ++ (duration ++ (places ++ l))) (given_is e.condition rest all.3)
      ∙ ap (λ l. first ++ (duration ++ l)) (places_is e.rest behind_places all.2)
      ∙ ap (λ l. first ++ l) (duration_is e.duration behind_duration all.1)
      ∙ full_is names n e.first behind_first all.0

  guard_is : (g : Option (Rel × FullTerm (Operand n) (Room n))) (rest : List Piece) → AllMaybe (λ (g : Rel × FullTerm (Operand n) (Room n)). AllFull (IsKnown names) n g.1) g
      → right_text names (guard_tree inner outer g) ++ pieces_text rest ≡ pieces_text (guard_pieces (operand_words n) (map_maybe (tidied_guard n) g) rest)
  guard_is None rest all = refl
  guard_is (Some g) rest all =
      two_behind (rel_text g.0) (term_text names (full_tree inner outer g.1)) (pieces_text rest)
      ∙ ap (λ l. rel_text g.0 ++ l) (full_is names n g.1 rest all)
      ∙ rel_is g.0 (full_pieces (operand_words n) (tidied_full n g.1) rest)

  pub theory_is : (a : TheoryOf (Operand n) (Room n)) (rest : List Piece) → AllTheory (IsKnown names) n a
      → theory_text names (theory_tree inner outer a) ++ pieces_text rest ≡ pieces_text (theory_pieces (operand_words n) (tidied_theory n a) rest)
  theory_is a rest all =
      let name : List ℕ = theory_name_text (theory_name a.name) in
      let elements : List ℕ = parted (codes ";") (map (element_text names) (items_of (element_tree inner outer) a.elements)) in
      let guard : List ℕ = right_text names (guard_tree inner outer a.guard) in
      let behind_elements : List Piece = solid (word.mark m.CloseBrace) ∷ guard_pieces (operand_words n) (map_maybe (tidied_guard n) a.guard) rest in
      ap (λ l. l ++ pieces_text rest)
      (theory_atom_printed names (record { name = theory_name a.name; elements = items_of (element_tree inner outer) a.elements; guard = guard_tree inner outer a.guard }))
      ∙ braces_behind name elements guard (pieces_text rest)
      ∙ ap (λ l. 38 ∷ (name ++ (123 ∷ (elements ++ (125 ∷ l))))) (guard_is a.guard rest all.2)
      ∙ ap (λ l. 38 ∷ (name ++ (123 ∷ l)))
      (maybe_row_is (element_text names) (element_tree inner outer) (tidied_element n) (element_pieces (operand_words n)) (AllElement (IsKnown names) n) element_is (codes ";") (λ (s : Unit {0}). s) semicolon_tight
      (λ s more. refl) a.elements behind_elements all.1)
