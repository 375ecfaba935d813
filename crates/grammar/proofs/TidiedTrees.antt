-- A tidied term has the tree of the term that it was made of.
use Rattle.std.proofs.Common.{◌≡◌, ℕ, zero, suc, List, [], ◌∷◌, map, refl, sym, ap, ◌∙◌}
use Rattle.syntax_tree.specs.declared.rule.Name.{Name}
use Rattle.syntax_tree.specs.declared.term.Op.TheVariants as op
use Rattle.syntax_tree.specs.declared.term.Term.{Term}
use Rattle.syntax_tree.specs.declared.term.Term.TheVariants as t
use Rattle.grammar.specs.Row.{Row}
use Rattle.grammar.specs.Term.{Adding, Multiplying, ProductOf, SumOf, TermOf, ArgsOf, AtomOf, UnaryOf, Operand, Room, alone, interval, plain, applied, negated, number, text, variable, anonymous, atom, unit, group, single, tuple}
use Rattle.grammar.specs.Tree.{part_of, parts_tree, adding_op, multiplying_op, product_tree, sum_tree, term_tree, args_trees, atom_tree, unary_tree, operand_tree}
use Rattle.grammar.specs.Tidied.{map_row, lifted, Tidied, operand, product, sum, range, row_of, one, as_operand, as_product, as_sum, opened, tidied_part, product_by, tidied_product, tidied_item, lone_by, whole_by, end_lone_by, end_by, tidied_end, tidied_whole, as_term, ungrouped, Below, from_below, bracketed, tidied_term, tidied_args, tidied_atom, tidied_unary, tidied}
use Rattle.grammar.proofs.LiftedLaws.{product_tree_same, sum_tree_same, lifted_tree}

abbrev pub tidied_tree : {U V : Type 0} → (U → Term) → (V → Term) → Tidied U V → Term
tidied_tree tree below (operand u) = tree u
tidied_tree tree below (product first part parts) = product_tree below (row_of first (part ∷ parts))
tidied_tree tree below (sum first part parts) = sum_tree below (row_of first (part ∷ parts))
tidied_tree tree below (range left right) = t.Interval (sum_tree below left) (sum_tree below right)

pub term_place : {U : Type 0} (tree : U → Term) (s : Tidied U U) → term_tree tree (as_term s) ≡ tidied_tree tree tree s
term_place tree (operand u) = refl
term_place tree (product first part parts) = refl
term_place tree (sum first part parts) = refl
term_place tree (range left right) = refl

module _ {U V : Type 0} (deeper : V → U) (brackets : TermOf V → U) (tree : U → Term) (below : V → Term) (same : (v : V) → tree (deeper v) ≡ below v) (inside : (x : TermOf V) → tree (brackets x) ≡ term_tree below x) where
  pub operand_place : (s : Tidied U V) → tree (as_operand deeper brackets s) ≡ tidied_tree tree below s
  operand_place (operand u) = refl
  operand_place (product first part parts) = inside (alone (one (row_of first (part ∷ parts))))
  operand_place (sum first part parts) = inside (alone (row_of first (part ∷ parts)))
  operand_place (range left right) = inside (interval left right)

  pub product_place : (s : Tidied U V) → product_tree tree (as_product deeper brackets s) ≡ tidied_tree tree below s
  product_place (operand u) = refl
  product_place (product first part parts) = product_tree_same deeper below tree same (row_of first (part ∷ parts))
  product_place (sum first part parts) = inside (alone (row_of first (part ∷ parts)))
  product_place (range left right) = inside (interval left right)

  pub sum_place : (s : Tidied U V) → sum_tree tree (as_sum deeper brackets s) ≡ tidied_tree tree below s
  sum_place (operand u) = refl
  sum_place (product first part parts) = product_tree_same deeper below tree same (row_of first (part ∷ parts))
  sum_place (sum first part parts) = sum_tree_same deeper below tree same (row_of first (part ∷ parts))
  sum_place (range left right) = inside (interval left right)

  pub opened_place : (s : Tidied U V) → tidied_tree tree tree (opened deeper brackets s) ≡ tidied_tree tree below s
  opened_place (operand u) = refl
  opened_place (product first part parts) = product_tree_same deeper below tree same (row_of first (part ∷ parts))
  opened_place (sum first part parts) = sum_tree_same deeper below tree same (row_of first (part ∷ parts))
  opened_place (range left right) = (λ i. t.Interval (sum_tree_same deeper below tree same left i) (sum_tree_same deeper below tree same right i))

  module _ (tidy : U → Tidied U V) (law : (u : U) → tidied_tree tree below (tidy u) ≡ tree u) where
    parts_law : (parts : List (Multiplying × U))
        → map (λ (p : Multiplying × U). part_of (multiplying_op p.0) (tree p.1)) (map (tidied_part deeper brackets tidy) parts) ≡ map (λ (p : Multiplying × U). part_of (multiplying_op p.0) (tree p.1)) parts
    parts_law [] = refl
    parts_law (part ∷ parts) = (λ i. part_of (multiplying_op part.0) ((operand_place (tidy part.1) ∙ law part.1) i) ∷ parts_law parts i)

    by_law : (first : U) (rest : List (Multiplying × U)) → product_tree tree (product_by deeper brackets tidy first rest) ≡ product_tree tree (row_of first rest)
    by_law first [] = product_place (tidy first) ∙ law first
    by_law first (part ∷ parts) = (λ i. t.Product (part_of op.Times ((operand_place (tidy first) ∙ law first) i) ∷ parts_law (part ∷ parts) i))

    product_law : (row : ProductOf U) → product_tree tree (tidied_product deeper brackets tidy row) ≡ product_tree tree row
    product_law row = by_law row.first row.rest

    items_law : (parts : List (Adding × ProductOf U))
        → map (λ (p : Adding × ProductOf U). part_of (adding_op p.0) (product_tree tree p.1)) (map (tidied_item deeper brackets tidy) parts)
        ≡ map (λ (p : Adding × ProductOf U). part_of (adding_op p.0) (product_tree tree p.1)) parts
    items_law [] = refl
    items_law (part ∷ parts) = (λ i. part_of (adding_op part.0) (product_law part.1 i) ∷ items_law parts i)

    lone_law : (first : U) (rest : List (Multiplying × U)) → tidied_tree tree tree (lone_by deeper brackets tidy first rest) ≡ product_tree tree (row_of first rest)
    lone_law first [] = opened_place (tidy first) ∙ law first
    lone_law first (part ∷ parts) = by_law first (part ∷ parts)

    whole_by_law : (first : ProductOf U) (rest : List (Adding × ProductOf U)) → tidied_tree tree tree (whole_by deeper brackets tidy first rest) ≡ sum_tree tree (row_of first rest)
    whole_by_law first [] = lone_law first.first first.rest
    whole_by_law first (part ∷ parts) = (λ i. t.Sum (part_of op.Plus (product_law first i) ∷ items_law (part ∷ parts) i))

    end_lone_law : (first : U) (rest : List (Multiplying × U)) → sum_tree tree (end_lone_by deeper brackets tidy first rest) ≡ product_tree tree (row_of first rest)
    end_lone_law first [] = sum_place (tidy first) ∙ law first
    end_lone_law first (part ∷ parts) = by_law first (part ∷ parts)

    end_by_law : (first : ProductOf U) (rest : List (Adding × ProductOf U)) → sum_tree tree (end_by deeper brackets tidy first rest) ≡ sum_tree tree (row_of first rest)
    end_by_law first [] = end_lone_law first.first first.rest
    end_by_law first (part ∷ parts) = (λ i. t.Sum (part_of op.Plus (product_law first i) ∷ items_law (part ∷ parts) i))

    pub whole_law : (x : TermOf U) → tidied_tree tree tree (tidied_whole deeper brackets tidy x) ≡ term_tree tree x
    whole_law (alone s) = whole_by_law s.first s.rest
    whole_law (interval left right) = (λ i. t.Interval (end_by_law left.first left.rest i) (end_by_law right.first right.rest i))

-- ---- level by level
module _ (names : List Name) where
  abbrev pub below_tree : (n : ℕ) → Below n → Term
  below_tree zero u = absurd u
  below_tree (suc n) u = operand_tree names n u

  pub below_same : (n : ℕ) (u : Below n) → operand_tree names n (from_below n u) ≡ below_tree n u
  below_same zero u = absurd u
  below_same (suc n) u = lifted_tree names n u

  pub bracketed_tree : (n : ℕ) (x : TermOf (Below n)) → operand_tree names n (bracketed n x) ≡ term_tree (below_tree n) x
  bracketed_tree zero (alone s) = absurd s.first.first
  bracketed_tree zero (interval left right) = absurd left.first.first
  bracketed_tree (suc n) x = refl

  -- the level of what is inside an operand
  module _ (n : ℕ) (law : (u : Operand n) → tidied_tree (operand_tree names n) (below_tree n) (tidied n u) ≡ operand_tree names n u) where
    pub tidied_whole_tree : (x : TermOf (Operand n))
        → tidied_tree (operand_tree names n) (operand_tree names n) (tidied_whole (from_below n) (bracketed n) (tidied n) x) ≡ term_tree (operand_tree names n) x
    tidied_whole_tree = whole_law (from_below n) (bracketed n) (operand_tree names n) (below_tree n) (below_same n) (bracketed_tree n) (tidied n) law

    pub tidied_term_tree : (x : TermOf (Operand n)) → term_tree (operand_tree names n) (tidied_term n (tidied n) x) ≡ term_tree (operand_tree names n) x
    tidied_term_tree x = term_place (operand_tree names n) (tidied_whole (from_below n) (bracketed n) (tidied n) x) ∙ tidied_whole_tree x

    rest_trees : (parts : List (Unit {0} × TermOf (Operand n)))
        → map (λ (p : Unit {0} × TermOf (Operand n)). term_tree (operand_tree names n) p.1) (map (λ (p : Unit {0} × TermOf (Operand n)). (p.0, tidied_term n (tidied n) p.1)) parts)
        ≡ map (λ (p : Unit {0} × TermOf (Operand n)). term_tree (operand_tree names n) p.1) parts
    rest_trees [] = refl
    rest_trees (part ∷ parts) = (λ i. tidied_term_tree part.1 i ∷ rest_trees parts i)

    pub tidied_args_trees : (args : ArgsOf (Operand n)) → args_trees (operand_tree names n) (tidied_args n (tidied n) args) ≡ args_trees (operand_tree names n) args
    tidied_args_trees args = (λ i. tidied_term_tree args.first i ∷ rest_trees args.rest i)

    pub tidied_atom_tree : (a : AtomOf (Operand n)) → atom_tree (operand_tree names n) (tidied_atom n (tidied n) a) ≡ atom_tree (operand_tree names n) a
    tidied_atom_tree (plain name) = refl
    tidied_atom_tree (applied name args) = ap (t.Function name) (tidied_args_trees args)

    ungrouped_tree : (s : Tidied (Operand n) (Operand n))
        → tidied_tree (operand_tree names (suc n)) (operand_tree names n) (ungrouped (lifted n) s) ≡ tidied_tree (operand_tree names n) (operand_tree names n) s
    ungrouped_tree (operand u) = lifted_tree names n u
    ungrouped_tree (product first part parts) = refl
    ungrouped_tree (sum first part parts) = refl
    ungrouped_tree (range left right) = refl

    pub tidied_unary_tree : (u : UnaryOf (Operand n) (Room n))
        → tidied_tree (operand_tree names (suc n)) (operand_tree names n) (tidied_unary n (tidied n) u) ≡ unary_tree names (operand_tree names n) u
    tidied_unary_tree (negated d) =
        ap t.Minus (operand_place (from_below n) (bracketed n) (operand_tree names n) (below_tree n) (below_same n) (bracketed_tree n) (tidied n d) ∙ law d)
    tidied_unary_tree (number k) = refl
    tidied_unary_tree (text bytes) = refl
    tidied_unary_tree (variable name) = refl
    tidied_unary_tree anonymous = refl
    tidied_unary_tree (atom a) = tidied_atom_tree a
    tidied_unary_tree (unit room) = refl
    tidied_unary_tree (group x) = ungrouped_tree (tidied_whole (from_below n) (bracketed n) (tidied n) x) ∙ tidied_whole_tree x
    tidied_unary_tree (single x) = ap (λ l. t.Tuple (l ∷ [])) (tidied_term_tree x)
    tidied_unary_tree (tuple x args) = (λ i. t.Tuple (tidied_term_tree x i ∷ tidied_args_trees args i))

  pub tidied_operand_tree : (n : ℕ) (u : Operand n) → tidied_tree (operand_tree names n) (below_tree n) (tidied n u) ≡ operand_tree names n u
  tidied_operand_tree zero u = absurd u
  tidied_operand_tree (suc n) u = tidied_unary_tree n (tidied_operand_tree n) u

  -- a tidied term has the tree of the term
  pub same_term_tree : (n : ℕ) (x : TermOf (Operand n)) → term_tree (operand_tree names n) (tidied_term n (tidied n) x) ≡ term_tree (operand_tree names n) x
  same_term_tree n = tidied_term_tree n (tidied_operand_tree n)

  -- a tidied atom has the tree of the atom
  pub same_atom_tree : (n : ℕ) (a : AtomOf (Operand n)) → atom_tree (operand_tree names n) (tidied_atom n (tidied n) a) ≡ atom_tree (operand_tree names n) a
  same_atom_tree n = tidied_atom_tree n (tidied_operand_tree n)
