-- The trees of terms and theory atoms of any depth whose words are written well keep their rules.
use Rattle.std.proofs.Common.{ℕ, List}
use Rattle.syntax_tree.specs.declared.rule.Name.{Name}
use Rattle.syntax_tree.specs.Tree.{is_term}
use Rattle.syntax_tree.specs.Literals.{is_theory_atom}
use Rattle.grammar.specs.Term.{TermAt, UnaryAt, term_words, unary_words, operand_words}
use Rattle.grammar.specs.Shape.{unary_shape, operand_shape}
use Rattle.grammar.specs.Tree.{term_tree, unary_tree, operand_tree}
use Rattle.grammar.specs.Sight.{term_sights, unary_sights, operand_sights}
use Rattle.grammar.specs.Theory.{TheoryAt, theory_words}
use Rattle.grammar.specs.StatementTree.{theory_tree}
use Rattle.grammar.specs.StatementSight.{theory_sights}
use Rattle.grammar.proofs.WrittenTerms.{Says, Sound, term_says, unary_says, operand_says}
use Rattle.grammar.proofs.WrittenTheory.{theory_says}

module _ (names : List Name) (n : ℕ) where
  pub units_say : Says {A = UnaryAt n} (unary_words (operand_words n)) (Sound (λ u. is_term (unary_tree names (operand_tree names n) u)) (unary_sights (operand_words n) (operand_shape n) (operand_sights n)))
  units_say = unary_says (operand_words n) (operand_shape n) (operand_sights n) (operand_tree names n) (operand_says names n) names

  pub terms_say : Says {A = TermAt n} (term_words (unary_words (operand_words n)))
      (Sound (λ t. is_term (term_tree (unary_tree names (operand_tree names n)) t)) (term_sights (unary_words (operand_words n)) (unary_shape (operand_shape n)) (unary_sights (operand_words n) (operand_shape n) (operand_sights n))))
  terms_say = term_says (unary_words (operand_words n)) (unary_shape (operand_shape n)) (unary_sights (operand_words n) (operand_shape n) (operand_sights n)) (unary_tree names (operand_tree names n)) units_say

  pub theories_say : Says {A = TheoryAt n} (theory_words (operand_words n))
      (Sound (λ a. is_theory_atom (theory_tree (operand_tree names n) (unary_tree names (operand_tree names n)) a)) (theory_sights (operand_words n) (operand_shape n) (operand_sights n)))
  theories_say = theory_says (operand_words n) (operand_shape n) (operand_sights n) (operand_tree names n) (unary_tree names (operand_tree names n)) (operand_says names n) units_say
