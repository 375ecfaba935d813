-- The tree of a term is an interval only where the form is one.
use Rattle.std.proofs.Common.{◌≡◌, ℕ, zero, suc, false, List, [], ◌∷◌, None, ap, pos}
use Rattle.syntax_tree.specs.declared.rule.Name.{Name}
use Rattle.syntax_tree.specs.declared.term.Op.{Op}
use Rattle.syntax_tree.specs.declared.term.Op.TheVariants as op
use Rattle.syntax_tree.specs.declared.term.Part.{Part}
use Rattle.syntax_tree.specs.declared.term.Term.{Term, roll-Term}
use Rattle.syntax_tree.specs.declared.term.Term.TheOpen.{Term-F}
use Rattle.syntax_tree.specs.declared.term.Term.TheVariants as t
use Rattle.syntax_tree.specs.declared.term.Term.TheViews.{out-roll-Term}
use Rattle.grammar.specs.declared.shape.Shape.{Shape}
use Rattle.grammar.specs.declared.shape.Shape.TheVariants as shape
use Rattle.grammar.specs.Term.{ProductOf, SumOf, TermOf, AtomOf, UnaryOf, alone, interval, plain, applied, negated, number, text, variable, anonymous, atom, unit, group, single, tuple}
use Rattle.grammar.specs.Shape.{row_shape_by, product_shape, sum_shape, term_shape, grouped, unary_shape, operand_shape}
use Rattle.grammar.specs.Tree.{adding_op, multiplying_op, parts_tree, product_tree, sum_tree, term_tree, args_trees, atom_tree, unary_tree, operand_tree, number_of}
use Rattle.grammar.specs.Check.{is_interval}
use Rattle.program_meaning.specs.Comparison.{ends, ends_in}
use Rattle.program_meaning.proofs.Layers.{ends-Number, ends-Text, ends-Variable, ends-Function, ends-Tuple, ends-Sum, ends-Product, ends-Minus}

ends-Anonymous : ends t.Anonymous ≡ None
unfolding roll-Term denote.Hole.Carrier.roll
ends-Anonymous = ap ends_in (out-roll-Term Term-F.Anonymous)

-- the tree is no interval where the form is none
abbrev pub TreesEnd : {A : Type 0} → (A → Term) → (A → Shape) → Type 0
TreesEnd {A} tree shapes = (x : A) → is_interval (shapes x) ≡ false → ends (tree x) ≡ None

module _ {I S : Type 0} (item : I → Term) (shapes : I → Shape) (law : TreesEnd item shapes) (whole : List Part → Term) (none : (parts : List Part) → ends (whole parts) ≡ None) (o : Op) (sign : S → Op) where
  row_end : (x : I) (rest : List (S × I)) → is_interval (row_shape_by (shapes x) rest) ≡ false → ends (parts_tree whole o sign item x rest) ≡ None
  row_end x [] h = law x h
  row_end x (part ∷ parts) h = none _

module _ {U : Type 0} (tree : U → Term) (shapes : U → Shape) (law : TreesEnd tree shapes) where
  product_end : TreesEnd {A = ProductOf U} (product_tree tree) (product_shape shapes)
  product_end row h = row_end tree shapes law t.Product ends-Product op.Times multiplying_op row.first row.rest h

  sum_end : TreesEnd {A = SumOf U} (sum_tree tree) (sum_shape shapes)
  sum_end row h = row_end (product_tree tree) (product_shape shapes) product_end t.Sum ends-Sum op.Plus adding_op row.first row.rest h

  pub term_end : TreesEnd {A = TermOf U} (term_tree tree) (term_shape shapes)
  term_end (alone s) h = sum_end s h
  term_end (interval left right) h = absurd cc

  atom_end : (a : AtomOf U) → ends (atom_tree tree a) ≡ None
  atom_end (plain name) = ends-Function name []
  atom_end (applied name args) = ends-Function name (args_trees tree args)

  grouped_end : (s : Shape) → is_interval (grouped s) ≡ false → is_interval s ≡ false
  grouped_end shape.Atom h = h
  grouped_end shape.Interval h = h
  grouped_end shape.Other h = h

  unary_end : (names : List Name) {R : Type 0} → TreesEnd {A = UnaryOf U R} (unary_tree names tree) (unary_shape shapes)
  unary_end names (negated d) h = ends-Minus (tree d)
  unary_end names (number n) h = ends-Number (pos n)
  unary_end names (text bytes) h = ends-Text bytes
  unary_end names (variable name) h = ends-Variable (number_of names name)
  unary_end names anonymous h = ends-Anonymous
  unary_end names (atom a) h = atom_end a
  unary_end names (unit room) h = ends-Tuple []
  unary_end names (group x) h = term_end x (grouped_end (term_shape shapes x) h)
  unary_end names (single x) h = ends-Tuple (term_tree tree x ∷ [])
  unary_end names (tuple x args) h = ends-Tuple (term_tree tree x ∷ args_trees tree args)

pub operand_end : (names : List Name) (n : ℕ) → TreesEnd (operand_tree names n) (operand_shape n)
operand_end names zero u h = absurd u
operand_end names (suc n) u h = unary_end (operand_tree names n) (operand_shape n) (operand_end names n) names u h
