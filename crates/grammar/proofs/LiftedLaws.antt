-- A form that may nest a level deeper has the same words and the same tree.
use Rattle.std.proofs.Common.{◌≡◌, ℕ, zero, suc, List, [], ◌∷◌, map, refl, sym, ap, ◌∙◌}
use Rattle.syntax_tree.specs.declared.rule.Name.{Name}
use Rattle.syntax_tree.specs.declared.term.Op.{Op}
use Rattle.syntax_tree.specs.declared.term.Op.TheVariants as op
use Rattle.syntax_tree.specs.declared.term.Part.{Part}
use Rattle.syntax_tree.specs.declared.term.Term.{Term}
use Rattle.syntax_tree.specs.declared.term.Term.TheVariants as t
use Rattle.grammar.specs.declared.mark.Mark.TheVariants as m
use Rattle.grammar.specs.Word.{Word}
use Rattle.grammar.specs.Word as word
use Rattle.grammar.specs.Row.{Row, row_words, tail_words}
use Rattle.grammar.specs.Term.{ProductOf, SumOf, TermOf, ArgsOf, AtomOf, UnaryOf, Operand, Room, alone, interval, plain, applied, negated, number, text, variable, anonymous, atom, unit, group, single, tuple, adding_word, multiplying_word, comma_word, product_words, sum_words, term_words, args_words, atom_words, unary_words, operand_words}
use Rattle.grammar.specs.Tree.{part_of, parts_tree, adding_op, multiplying_op, product_tree, sum_tree, term_tree, args_trees, atom_tree, unary_tree, operand_tree}
use Rattle.grammar.specs.Tidied.{map_row, map_term, map_args, map_atom, map_unary, lifted}

-- ---- words
module _ {I J S : Type 0} (f : I → J) (before : I → List Word → List Word) (words : J → List Word → List Word) (sign : S → Word) (same : (x : I) (rest : List Word) → words (f x) rest ≡ before x rest) where
  tail_same : (parts : List (S × I)) (rest : List Word) → tail_words words sign (map (λ p. (p.0, f p.1)) parts) rest ≡ tail_words before sign parts rest
  tail_same [] rest = refl
  tail_same (part ∷ parts) rest =
      ap (λ l. sign part.0 ∷ words (f part.1) l) (tail_same parts rest) ∙ ap (λ l. sign part.0 ∷ l) (same part.1 (tail_words before sign parts rest))

  pub row_same : (row : Row I S) (rest : List Word) → row_words words sign (map_row f row) rest ≡ row_words before sign row rest
  row_same row rest = ap (words (f row.first)) (tail_same row.rest rest) ∙ same row.first (tail_words before sign row.rest rest)

module _ {U V : Type 0} (f : U → V) (before : U → List Word → List Word) (words : V → List Word → List Word) (same : (x : U) (rest : List Word) → words (f x) rest ≡ before x rest) where
  pub product_same : (row : ProductOf U) (rest : List Word) → product_words words (map_row f row) rest ≡ product_words before row rest
  product_same = row_same f before words multiplying_word same

  pub sum_same : (row : SumOf U) (rest : List Word) → sum_words words (map_row (map_row f) row) rest ≡ sum_words before row rest
  sum_same = row_same (map_row f) (product_words before) (product_words words) adding_word product_same

  pub term_same : (x : TermOf U) (rest : List Word) → term_words words (map_term f x) rest ≡ term_words before x rest
  term_same (alone s) rest = sum_same s rest
  term_same (interval left right) rest =
      ap (λ l. sum_words words (map_row (map_row f) left) (word.mark m.Dots ∷ l)) (sum_same right rest) ∙ sum_same left (word.mark m.Dots ∷ sum_words before right rest)

  pub args_same : (row : ArgsOf U) (rest : List Word) → args_words words (map_args f row) rest ≡ args_words before row rest
  args_same = row_same (map_term f) (term_words before) (term_words words) comma_word term_same

  pub atom_same : (a : AtomOf U) (rest : List Word) → atom_words words (map_atom f a) rest ≡ atom_words before a rest
  atom_same (plain name) rest = refl
  atom_same (applied name args) rest = ap (λ l. word.name name ∷ word.mark m.Open ∷ l) (args_same args (word.mark m.Close ∷ rest))

  pub unary_same : {R Q : Type 0} (room : R → Q) (u : UnaryOf U R) (rest : List Word) → unary_words words (map_unary f room u) rest ≡ unary_words before u rest
  unary_same room (negated d) rest = ap (λ l. word.mark m.Minus ∷ l) (same d rest)
  unary_same room (number n) rest = refl
  unary_same room (text bytes) rest = refl
  unary_same room (variable name) rest = refl
  unary_same room anonymous rest = refl
  unary_same room (atom a) rest = atom_same a rest
  unary_same room (unit r) rest = refl
  unary_same room (group x) rest = ap (λ l. word.mark m.Open ∷ l) (term_same x (word.mark m.Close ∷ rest))
  unary_same room (single x) rest = ap (λ l. word.mark m.Open ∷ l) (term_same x (word.mark m.Comma ∷ word.mark m.Close ∷ rest))
  unary_same room (tuple x args) rest =
      ap (λ l. word.mark m.Open ∷ term_words words (map_term f x) (word.mark m.Comma ∷ l)) (args_same args (word.mark m.Close ∷ rest))
      ∙ ap (λ l. word.mark m.Open ∷ l) (term_same x (word.mark m.Comma ∷ args_words before args (word.mark m.Close ∷ rest)))

pub lifted_words : (n : ℕ) (u : Operand n) (rest : List Word) → operand_words (suc n) (lifted n u) rest ≡ operand_words n u rest
lifted_words zero u rest = absurd u
lifted_words (suc n) u rest = unary_same (lifted n) (operand_words n) (operand_words (suc n)) (lifted_words n) (λ room. tt) u rest

-- ---- trees
module _ {I J S : Type 0} (f : I → J) (before : I → Term) (tree : J → Term) (sign : S → Op) (same : (x : I) → tree (f x) ≡ before x) where
  pub parts_same : (parts : List (S × I)) → map (λ (p : S × J). part_of (sign p.0) (tree p.1)) (map (λ (p : S × I). (p.0, f p.1)) parts) ≡ map (λ (p : S × I). part_of (sign p.0) (before p.1)) parts
  parts_same [] = refl
  parts_same (part ∷ parts) = (λ i. part_of (sign part.0) (same part.1 i) ∷ parts_same parts i)

  pub parts_tree_same : (whole : List Part → Term) (first : Op) (x : I) (rest : List (S × I))
      → parts_tree whole first sign tree (f x) (map (λ p. (p.0, f p.1)) rest) ≡ parts_tree whole first sign before x rest
  parts_tree_same whole first x [] = same x
  parts_tree_same whole first x (part ∷ parts) = (λ i. whole (part_of first (same x i) ∷ parts_same (part ∷ parts) i))

  pub items_same : (parts : List (S × I)) → map (λ (p : S × J). tree p.1) (map (λ (p : S × I). (p.0, f p.1)) parts) ≡ map (λ (p : S × I). before p.1) parts
  items_same [] = refl
  items_same (part ∷ parts) = (λ i. same part.1 i ∷ items_same parts i)

module _ {U V : Type 0} (f : U → V) (before : U → Term) (tree : V → Term) (same : (x : U) → tree (f x) ≡ before x) where
  pub product_tree_same : (row : ProductOf U) → product_tree tree (map_row f row) ≡ product_tree before row
  product_tree_same row = parts_tree_same f before tree multiplying_op same t.Product op.Times row.first row.rest

  pub sum_tree_same : (row : SumOf U) → sum_tree tree (map_row (map_row f) row) ≡ sum_tree before row
  sum_tree_same row = parts_tree_same (map_row f) (product_tree before) (product_tree tree) adding_op product_tree_same t.Sum op.Plus row.first row.rest

  pub term_tree_same : (x : TermOf U) → term_tree tree (map_term f x) ≡ term_tree before x
  term_tree_same (alone s) = sum_tree_same s
  term_tree_same (interval left right) = (λ i. t.Interval (sum_tree_same left i) (sum_tree_same right i))

  pub args_trees_same : (row : ArgsOf U) → args_trees tree (map_args f row) ≡ args_trees before row
  args_trees_same row = (λ i. term_tree_same row.first i ∷ items_same (map_term f) (term_tree before) (term_tree tree) (λ s. op.Plus) term_tree_same row.rest i)

  pub atom_tree_same : (a : AtomOf U) → atom_tree tree (map_atom f a) ≡ atom_tree before a
  atom_tree_same (plain name) = refl
  atom_tree_same (applied name args) = ap (t.Function name) (args_trees_same args)

  pub unary_tree_same : {R Q : Type 0} (names : List Name) (room : R → Q) (u : UnaryOf U R) → unary_tree names tree (map_unary f room u) ≡ unary_tree names before u
  unary_tree_same names room (negated d) = ap t.Minus (same d)
  unary_tree_same names room (number n) = refl
  unary_tree_same names room (text bytes) = refl
  unary_tree_same names room (variable name) = refl
  unary_tree_same names room anonymous = refl
  unary_tree_same names room (atom a) = atom_tree_same a
  unary_tree_same names room (unit r) = refl
  unary_tree_same names room (group x) = term_tree_same x
  unary_tree_same names room (single x) = ap (λ l. t.Tuple (l ∷ [])) (term_tree_same x)
  unary_tree_same names room (tuple x args) = (λ i. t.Tuple (term_tree_same x i ∷ args_trees_same args i))

pub lifted_tree : (names : List Name) (n : ℕ) (u : Operand n) → operand_tree names (suc n) (lifted n u) ≡ operand_tree names n u
lifted_tree names zero u = absurd u
lifted_tree names (suc n) u = unary_tree_same (lifted n) (operand_tree names n) (operand_tree names (suc n)) (lifted_tree names n) names (λ room. tt) u
