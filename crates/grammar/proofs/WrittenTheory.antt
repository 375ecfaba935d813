-- The trees of conditions, theory atoms and literals whose words are written well keep their rules.
use Rattle.std.proofs.Common.{◌≡◌, ℕ, ◌+◌, Bool, true, false, ◌&&◌, List, ◌∷◌, ◌++◌, map, Option, Some, None, refl, ◌∙◌}
use Rattle.std.specs.List.{list_all}
use Rattle.std.proofs.lemmas.Bool.{and_from}
use Rattle.symbols.specs.declared.rel.Rel.{Rel}
use Rattle.syntax_tree.specs.declared.term.Term.{Term}
use Rattle.syntax_tree.specs.declared.literal.Literal.{Literal}
use Rattle.syntax_tree.specs.declared.literal.Literal.TheOpen.{TheoryAtom-F, TheoryElement-F}
use Rattle.syntax_tree.specs.declared.literal.Literal.TheFolds.{fold-roll-TheoryAtom, fold-roll-TheoryElement}
use Rattle.syntax_tree.specs.declared.literal.TheoryAtom.{TheoryAtom, roll-TheoryAtom}
use Rattle.syntax_tree.specs.declared.literal.TheoryElement.{TheoryElement, roll-TheoryElement}
use Rattle.syntax_tree.specs.Tree.{is_term}
use Rattle.syntax_tree.specs.Literals.{is_none_or, is_guard, is_literal, is_theory_atom, is_theory_element, literal_rules, theory_rules, element_rules}
use Rattle.syntax_tree.proofs.TreeRules.{atom_rules, comparison_rules, theory_literal_rules}
use Rattle.grammar.specs.declared.shape.Shape.{Shape}
use Rattle.grammar.specs.declared.mark.Mark.TheVariants as m
use Rattle.grammar.specs.Word.{Word}
use Rattle.grammar.specs.Word as word
use Rattle.grammar.specs.Rules.{HaveNames}
use Rattle.grammar.specs.Row.{Row}
use Rattle.grammar.specs.Term.{AtomOf, UnaryOf, atom_words, unary_words, comma_word}
use Rattle.grammar.specs.Shape.{unary_shape}
use Rattle.grammar.specs.Tree.{atom_tree}
use Rattle.grammar.specs.Sight.{Sighting, unary_sights}
use Rattle.grammar.specs.Theory.{FullTerm, ConditionOf, holds, compares, PlacesOf, GivenOf, ElementOf, TheoryOf, rel_word, semicolon_word, full_words, condition_words, given_words, duration_words, places_words, element_words, elements_words, guard_words, theory_words}
use Rattle.grammar.specs.Statement.{LiteralOf, simple, theory, literal_words}
use Rattle.grammar.specs.StatementTree.{items_of, full_tree, condition_tree, given_trees, maybe_tree, element_tree, guard_tree, theory_tree, literal_tree}
use Rattle.grammar.specs.StatementSight.{behind_first, behind_duration, behind_rest, atom_seen, full_sights, condition_sights, given_sights, duration_sights, places_sights, element_sights, elements_sights, guard_sights, theory_sights, literal_sights}
use Rattle.grammar.proofs.WrittenTerms.{Says, Sound, names_append, all_mapped, list_says, term_says, atom_says}

theory_is : (x : TheoryAtom-F Literal TheoryAtom TheoryElement) → is_theory_atom (roll-TheoryAtom x) ≡ (list_all (λ element. element) (map is_theory_element x.elements) && is_none_or is_guard x.guard)
theory_is x = fold-roll-TheoryAtom Bool Bool Bool literal_rules theory_rules element_rules x

element_is : (x : TheoryElement-F Literal TheoryAtom TheoryElement)
    → is_theory_element (roll-TheoryElement x) ≡ (is_term x.first && is_none_or is_term x.duration && list_all is_term x.rest && list_all (λ literal. literal) (map is_literal x.condition))
element_is x = fold-roll-TheoryElement Bool Bool Bool literal_rules theory_rules element_rules x

and_four : (a b c d : Bool) → a ≡ true → b ≡ true → c ≡ true → d ≡ true → (a && b && c && d) ≡ true
and_four a b c d h k l j = rw (h, k, l, j) refl

-- `inner` is the tree of an operand of the level inside, `operand` of one that stands in a term
module _ {D R : Type 0} (words : D → List Word → List Word) (shapes : D → Shape) (sights : D → ℕ → List Sighting) (inner : D → Term) (operand : UnaryOf D R → Term)
    (inner_says : Says words (Sound (λ d. is_term (inner d)) sights))
    (operand_says : Says {A = UnaryOf D R} (unary_words words) (Sound (λ u. is_term (operand u)) (unary_sights words shapes sights))) where
  pub full_says : Says {A = FullTerm D R} (full_words words) (Sound (λ t. is_term (full_tree inner operand t)) (full_sights words shapes sights))
  full_says = term_says (unary_words words) (unary_shape shapes) (unary_sights words shapes sights) operand operand_says

  pub seen_says : Says {A = AtomOf D} (atom_words words) (Sound (λ a. is_term (atom_tree inner a)) (atom_seen words shapes sights))
  seen_says a rest h =
      let s = atom_says words shapes sights inner inner_says a rest h in
      (record { tree = s.0.tree; names = λ at. (refl, s.0.names at) }, s.1)

  abbrev Conditions : ConditionOf D R → Type 0
  Conditions = Sound (λ c. is_literal (condition_tree inner operand c)) (condition_sights words shapes sights)

  pub condition_says : Says {A = ConditionOf D R} (condition_words words) Conditions
  condition_says (holds true a) rest h =
      let s = seen_says a rest h in
      (record { tree = atom_rules (atom_tree inner a) true ∙ s.0.tree; names = s.0.names }, s.1)
  condition_says (holds false a) rest h =
      let s = seen_says a rest h.1 in
      (record { tree = atom_rules (atom_tree inner a) false ∙ s.0.tree; names = λ at. s.0.names (at + 1) }, s.1)
  condition_says (compares left r right) rest h =
      let a = full_says left (rel_word r ∷ full_words words right rest) h in
      let b = full_says right rest a.1.1 in (
        record {
          tree = comparison_rules (full_tree inner operand left) r (full_tree inner operand right) ∙ and_from _ _ a.0.tree b.0.tree;
          names = λ at. names_append (full_sights words shapes sights left at) _ (a.0.names at) (b.0.names _);
        },
        b.1,
      )

  pub given_says : Says {A = GivenOf D R} (given_words words) (Sound (λ g. list_all is_literal (given_trees inner operand g)) (given_sights words shapes sights))
  given_says None rest h = (record { tree = refl; names = λ at. tt }, h)
  given_says (Some None) rest h = (record { tree = refl; names = λ at. tt }, h.1)
  given_says (Some (Some row)) rest h =
      let all = list_says (condition_words words) comma_word is_literal (condition_tree inner operand) (condition_sights words shapes sights) condition_says row rest h.1 in
      (record { tree = all.0.tree; names = λ at. all.0.names (at + 1) }, all.1)

  duration_says : Says {A = Option (FullTerm D R)} (duration_words words) (Sound (λ d. is_none_or is_term (maybe_tree inner operand d)) (duration_sights words shapes sights))
  duration_says None rest h = (record { tree = refl; names = λ at. tt }, h)
  duration_says (Some term) rest h = let a = full_says term rest h.1 in (record { tree = a.0.tree; names = λ at. a.0.names (at + 1) }, a.1)

  places_say : Says {A = Option (PlacesOf D R)} (places_words words) (Sound (λ o. list_all is_term (items_of (full_tree inner operand) o)) (places_sights words shapes sights))
  places_say None rest h = (record { tree = refl; names = λ at. tt }, h)
  places_say (Some row) rest h =
      let all = list_says (full_words words) comma_word is_term (full_tree inner operand) (full_sights words shapes sights) full_says row rest h.1 in
      (record { tree = all.0.tree; names = λ at. all.0.names (at + 1) }, all.1)

  pub element_says : Says {A = ElementOf D R} (element_words words) (Sound (λ e. is_theory_element (element_tree inner operand e)) (element_sights words shapes sights))
  element_says e rest h =
      let last : List Word = given_words words e.condition rest in
      let third : List Word = places_words words e.rest last in
      let a = full_says e.first (duration_words words e.duration third) h in
      let b = duration_says e.duration third a.1 in
      let c = places_say e.rest last b.1 in
      let d = given_says e.condition rest c.1 in
      let given : List Literal = given_trees inner operand e.condition in
      let conditions : list_all (λ literal. literal) (map is_literal given) ≡ true = all_mapped is_literal given d.0.tree in (
        record {
          tree = element_is _ ∙ and_four _ _ _ _ a.0.tree b.0.tree c.0.tree conditions;
          names = λ at.
              let one : List Sighting = full_sights words shapes sights e.first at in
              let two : List Sighting = duration_sights words shapes sights e.duration (behind_first words e at) in
              let three : List Sighting = places_sights words shapes sights e.rest (behind_duration words e at) in
              let both : HaveNames (one ++ two) = names_append one two (a.0.names at) (b.0.names _) in
              let all : HaveNames (one ++ two ++ three) = names_append (one ++ two) three both (c.0.names _) in
              names_append (one ++ two ++ three) _ all (d.0.names (behind_rest words e at));
        },
        d.1,
      )

  elements_say : Says {A = Option (Row (ElementOf D R) (Unit {0}))} (elements_words words) (Sound (λ o. list_all is_theory_element (items_of (element_tree inner operand) o)) (elements_sights words shapes sights))
  elements_say None rest h = (record { tree = refl; names = λ at. tt }, h)
  elements_say (Some row) rest h =
      let all = list_says (element_words words) semicolon_word is_theory_element (element_tree inner operand) (element_sights words shapes sights) element_says row rest h in
      (record { tree = all.0.tree; names = all.0.names }, all.1)

  guard_says : Says {A = Option (Rel × FullTerm D R)} (guard_words words) (Sound (λ g. is_none_or is_guard (guard_tree inner operand g)) (guard_sights words shapes sights))
  guard_says None rest h = (record { tree = refl; names = λ at. tt }, h)
  guard_says (Some guard) rest h = let a = full_says guard.1 rest h.1 in (record { tree = a.0.tree; names = λ at. a.0.names (at + 1) }, a.1)

  pub theory_says : Says {A = TheoryOf D R} (theory_words words) (Sound (λ a. is_theory_atom (theory_tree inner operand a)) (theory_sights words shapes sights))
  theory_says a rest h =
      let e = elements_say a.elements (word.mark m.CloseBrace ∷ guard_words words a.guard rest) h.1.1.1 in
      let g = guard_says a.guard rest e.1.1 in
      let elements : list_all (λ element. element) (map is_theory_element (items_of (element_tree inner operand) a.elements)) ≡ true = all_mapped is_theory_element _ e.0.tree in (
        record {
          tree = theory_is _ ∙ and_from _ _ elements g.0.tree;
          names = λ at. names_append (elements_sights words shapes sights a.elements (at + 3)) _ (e.0.names (at + 3)) (g.0.names _);
        },
        g.1,
      )

  pub literal_says : Says {A = LiteralOf D R} (literal_words words) (Sound (λ l. is_literal (literal_tree inner operand l)) (literal_sights words shapes sights))
  literal_says (simple condition) rest h = let c = condition_says condition rest h in (record { tree = c.0.tree; names = c.0.names }, c.1)
  literal_says (theory true a) rest h =
      let s = theory_says a rest h in
      (record { tree = theory_literal_rules (theory_tree inner operand a) true ∙ s.0.tree; names = s.0.names }, s.1)
  literal_says (theory false a) rest h =
      let s = theory_says a rest h.1 in
      (record { tree = theory_literal_rules (theory_tree inner operand a) false ∙ s.0.tree; names = λ at. s.0.names (at + 1) }, s.1)
