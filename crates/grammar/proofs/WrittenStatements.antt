-- The trees of statements whose words are written well keep the rules on statements.
use Rattle.std.proofs.Common.{◌≡◌, ℕ, zero, suc, ◌+◌, Bool, true, ◌&&◌, List, [], ◌∷◌, ◌++◌, drop, Option, Some, None, refl, subst}
use Rattle.std.specs.List.{AllByRecursion, list_all}
use Rattle.std.proofs.lemmas.Bool.{and_from}
use Rattle.symbols.specs.declared.rel.Rel.{Rel}
use Rattle.lexer.specs.Parts.{IsTokenisation}
use Rattle.lexer.specs.declared.token.Token.{Token}
use Rattle.syntax_tree.specs.declared.rule.Name.{Name}
use Rattle.syntax_tree.specs.declared.term.Term.{Term}
use Rattle.syntax_tree.specs.Tree.{is_term}
use Rattle.syntax_tree.specs.Literals.{is_none_or, is_guard, is_literal}
use Rattle.syntax_tree.specs.Statements.{is_choice_element, is_choice, is_head}
use Rattle.grammar.specs.declared.shape.Shape.{Shape}
use Rattle.grammar.specs.declared.mark.Mark.TheVariants as m
use Rattle.grammar.specs.Word.{Word, words_of}
use Rattle.grammar.specs.Word as word
use Rattle.grammar.specs.Written.{AreWritten}
use Rattle.grammar.specs.Rules.{HaveNames, keeps_rules, KeepsRules}
use Rattle.grammar.specs.Row.{Row}
use Rattle.grammar.specs.Term.{UnaryOf, Room, unary_words, operand_words}
use Rattle.grammar.specs.Shape.{operand_shape}
use Rattle.grammar.specs.Tree.{unary_tree, operand_tree}
use Rattle.grammar.specs.Sight.{Sighting, size, unary_sights, operand_sights}
use Rattle.grammar.specs.Theory.{FullTerm, semicolon_word, full_words, given_words}
use Rattle.grammar.specs.Statement.{BodyOf, ChosenOf, ChoiceOf, HeadOf, atom_head, choice_head, theory_head, ArrowOf, no_arrow, arrow, StatementOf, StatementAt, headed, constraint, constant, show_nothing, show, separating_word, maybe_rel_words, literal_words, body_words, left_words, right_words, chosen_words, chosens_words, choice_words, head_words, arrow_words, statement_words, words_of_statement, text_words}
use Rattle.grammar.specs.StatementTree.{items_of, full_tree, literal_tree, body_trees, left_tree, right_tree, chosen_tree, choice_tree, head_tree, arrow_trees}
use Rattle.grammar.specs.StatementSight.{choice_opening, choice_closing, atom_seen, full_sights, literal_sights, body_sights, left_sights, right_sights, chosen_sights, chosens_sights, choice_sights, head_sights, arrow_sights, statement_sights, sights_of_statement}
use Rattle.grammar.proofs.WrittenWords.{words_written}
use Rattle.grammar.proofs.WrittenTerms.{Says, Sound, names_append, list_says, unary_says, operand_says}
use Rattle.grammar.proofs.WrittenTheory.{full_says, seen_says, given_says, theory_says, literal_says}

pub and_three : (a b c : Bool) → a ≡ true → b ≡ true → c ≡ true → (a && b && c) ≡ true
and_three a b c h k l = rw (h, k, l) refl

maybe_rel_says : (r : Option Rel) (rest : List Word) → AreWritten (maybe_rel_words r rest) → AreWritten rest
maybe_rel_says None rest h = h
maybe_rel_says (Some r) rest h = h.1

-- `inner` is the tree of an operand of the level inside, `operand` of one that stands in a term
module _ {D R : Type 0} (words : D → List Word → List Word) (shapes : D → Shape) (sights : D → ℕ → List Sighting) (inner : D → Term) (operand : UnaryOf D R → Term)
    (inner_says : Says words (Sound (λ d. is_term (inner d)) sights))
    (operands_say : Says {A = UnaryOf D R} (unary_words words) (Sound (λ u. is_term (operand u)) (unary_sights words shapes sights))) where
  terms_say : Says {A = FullTerm D R} (full_words words) (Sound (λ t. is_term (full_tree inner operand t)) (full_sights words shapes sights))
  terms_say = full_says words shapes sights inner operand inner_says operands_say

  body_says : Says {A = Option (BodyOf D R)} (body_words words) (Sound (λ o. list_all is_literal (body_trees inner operand o)) (body_sights words shapes sights))
  body_says None rest h = (record { tree = refl; names = λ at. tt }, h)
  body_says (Some body) rest h =
      let all = list_says (literal_words words) separating_word is_literal (literal_tree inner operand) (literal_sights words shapes sights) (literal_says words shapes sights inner operand inner_says operands_say) body rest h in
      (record { tree = all.0.tree; names = all.0.names }, all.1)

  left_says : Says {A = Option (FullTerm D R × Option Rel)} (left_words words) (Sound (λ o. is_none_or is_guard (left_tree inner operand o)) (left_sights words shapes sights))
  left_says None rest h = (record { tree = refl; names = λ at. tt }, h)
  left_says (Some bound) rest h =
      let a = terms_say bound.0 (maybe_rel_words bound.1 rest) h in
      (record { tree = a.0.tree; names = a.0.names }, maybe_rel_says bound.1 rest a.1)

  right_says : Says {A = Option (Option Rel × FullTerm D R)} (right_words words) (Sound (λ o. is_none_or is_guard (right_tree inner operand o)) (right_sights words shapes sights))
  right_says None rest h = (record { tree = refl; names = λ at. tt }, h)
  right_says (Some bound) rest h =
      let a = terms_say bound.1 rest (maybe_rel_says bound.0 (full_words words bound.1 rest) h) in
      (record { tree = a.0.tree; names = λ at. a.0.names (at + size maybe_rel_words bound.0) }, a.1)

  chosen_says : Says {A = ChosenOf D R} (chosen_words words) (Sound (λ e. is_choice_element (chosen_tree inner operand e)) (chosen_sights words shapes sights))
  chosen_says e rest h =
      let a = seen_says words shapes sights inner operand inner_says operands_say e.atom (given_words words e.condition rest) h in
      let g = given_says words shapes sights inner operand inner_says operands_say e.condition rest a.1 in (
        record {
          tree = and_from _ _ a.0.tree g.0.tree;
          names = λ at. names_append (atom_seen words shapes sights e.atom at) _ (a.0.names at) (g.0.names _);
        },
        g.1,
      )

  chosens_say : Says {A = Option (Row (ChosenOf D R) (Unit {0}))} (chosens_words words) (Sound (λ o. list_all is_choice_element (items_of (chosen_tree inner operand) o)) (chosens_sights words shapes sights))
  chosens_say None rest h = (record { tree = refl; names = λ at. tt }, h)
  chosens_say (Some row) rest h =
      let all = list_says (chosen_words words) semicolon_word is_choice_element (chosen_tree inner operand) (chosen_sights words shapes sights) chosen_says row rest h in
      (record { tree = all.0.tree; names = all.0.names }, all.1)

  choice_says : Says {A = ChoiceOf D R} (choice_words words) (Sound (λ c. is_choice (choice_tree inner operand c)) (choice_sights words shapes sights))
  choice_says c rest h =
      let last : List Word = right_words words c.right rest in
      let inside : List Word = chosens_words words c.elements (word.mark m.CloseBrace ∷ last) in
      let a = left_says c.left (word.mark m.OpenBrace ∷ inside) h in
      let e = chosens_say c.elements (word.mark m.CloseBrace ∷ last) a.1.1 in
      let b = right_says c.right rest e.1.1 in (
        record {
          tree = and_three _ _ _ a.0.tree e.0.tree b.0.tree;
          names = λ at.
              let one : List Sighting = left_sights words shapes sights c.left at in
              let two : List Sighting = chosens_sights words shapes sights c.elements (choice_opening words c at + 1) in
              let both : HaveNames (one ++ two) = names_append one two (a.0.names at) (e.0.names _) in
              names_append (one ++ two) _ both (b.0.names (choice_closing words c at + 1));
        },
        b.1,
      )

  head_says : Says {A = HeadOf D R} (head_words words) (Sound (λ h. is_head (head_tree inner operand h)) (head_sights words shapes sights))
  head_says (atom_head a) rest h =
      let s = seen_says words shapes sights inner operand inner_says operands_say a rest h in
      (record { tree = s.0.tree; names = s.0.names }, s.1)
  head_says (choice_head choice) rest h = let s = choice_says choice rest h in (record { tree = s.0.tree; names = s.0.names }, s.1)
  head_says (theory_head a) rest h =
      let s = theory_says words shapes sights inner operand inner_says operands_say a rest h in
      (record { tree = s.0.tree; names = s.0.names }, s.1)

  arrow_says : Says {A = ArrowOf D R} (arrow_words words) (Sound (λ a. list_all is_literal (arrow_trees inner operand a)) (arrow_sights words shapes sights))
  arrow_says no_arrow rest h = (record { tree = refl; names = λ at. tt }, h)
  arrow_says (arrow body) rest h = let b = body_says body rest h.1 in (record { tree = b.0.tree; names = λ at. b.0.names (at + 1) }, b.1)

  pub statement_says : Says {A = StatementOf D R} (statement_words words) (Sound (keeps_rules inner operand) (statement_sights words shapes sights))
  statement_says (headed head behind) rest h =
      let a = head_says head (arrow_words words behind (word.mark m.Dot ∷ rest)) h in
      let b = arrow_says behind (word.mark m.Dot ∷ rest) a.1 in (
        record {
          tree = and_from _ _ a.0.tree b.0.tree;
          names = λ at. names_append (head_sights words shapes sights head at) _ (a.0.names at) (b.0.names _);
        },
        b.1.1,
      )
  statement_says (constraint body) rest h =
      let b = body_says body (word.mark m.Dot ∷ rest) h.1 in
      (record { tree = b.0.tree; names = λ at. b.0.names (at + 1) }, b.1.1)
  statement_says (constant name term) rest h =
      let a = terms_say term (word.mark m.Dot ∷ rest) h.1.1.1 in
      (record { tree = and_from _ _ h.1.0 a.0.tree; names = λ at. a.0.names (at + 3) }, a.1.1)
  statement_says show_nothing rest h = (record { tree = refl; names = λ at. tt }, h.1.1)
  statement_says (show name arity) rest h = (record { tree = h.1.0; names = λ at. tt }, h.1.1.1.1.1)

-- ---- at every depth
-- words from a place on are written well where all are
pub written_from : (at : ℕ) (words : List Word) → AreWritten words → AreWritten (drop at words)
written_from zero words h = h
written_from (suc at) [] h = tt
written_from (suc at) (word ∷ words) h = written_from at words h.1

abbrev NamedRules : List Name → (n : ℕ) → StatementAt n → Type 0
NamedRules names n = Sound (keeps_rules (operand_tree names n) (unary_tree names (operand_tree names n))) (sights_of_statement n)

named_says : (names : List Name) (n : ℕ) → Says (words_of_statement n) (NamedRules names n)
named_says names n statement rest h =
    let s = statement_says {R = Room n} (operand_words n) (operand_shape n) (operand_sights n) (operand_tree names n) (unary_tree names (operand_tree names n)) (operand_says names n)
    (unary_says (operand_words n) (operand_shape n) (operand_sights n) (operand_tree names n) (operand_says names n) names) statement rest h in
    (record { tree = s.0.tree; names = s.0.names }, s.1)

pub keeps : (n : ℕ) → Says (words_of_statement n) (KeepsRules n)
keeps n statement rest h =
    let s = named_says [] n statement rest h in
    (record { tree = λ names. (named_says names n statement rest h).0.tree; names = s.0.names }, s.1)

pub each_keeps : (n : ℕ) (forms : List (StatementAt n)) → AreWritten (text_words n forms) → AllByRecursion (KeepsRules n) forms
each_keeps n [] h = tt
each_keeps n (form ∷ forms) h = let k = keeps n form (text_words n forms) h in (k.0, each_keeps n forms k.1)

pub texts_keep : (text : List ℕ) (tokens : List Token) (n : ℕ) (forms : List (StatementAt n)) → IsTokenisation text tokens → words_of text tokens ≡ text_words n forms → AllByRecursion (KeepsRules n) forms
texts_keep text tokens n forms is same = each_keeps n forms (subst AreWritten same (words_written text tokens is))
