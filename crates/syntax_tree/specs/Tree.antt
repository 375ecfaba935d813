-- The rules on terms: names and strings are UTF-8, a function's name is not empty, a sum and a product
-- have at least one part, and the signs of the parts are those of a sum or of a product.
use Rattle.std.specs.Prelude.{ℕ, Bool, true, false, not, ◌&&◌, ◌==◌, List, [], ◌∷◌, length}
use Rattle.std.specs.List.{list_all}
use Rattle.std.specs.Str.{is_utf8}
use Rattle.syntax_tree.specs.declared.term.Op.{Op}
use Rattle.syntax_tree.specs.declared.term.Op.TheVariants as op
use Rattle.syntax_tree.specs.declared.term.Term.{Term}
use Rattle.syntax_tree.specs.declared.term.Term.TheOpen.{Term-F, Part-F}
use Rattle.syntax_tree.specs.declared.term.Term.TheFolds.{fold-Term, fold-Part}
use Rattle.syntax_tree.specs.declared.term.Part.{Part}

-- the sign of the first part of a sum, and that of a further one
abbrev pub begins_sum : Op → Bool
begins_sum op.Plus = true
begins_sum op.Minus = false
begins_sum op.Times = false
begins_sum op.Divide = false
begins_sum op.Remainder = false

abbrev pub adds : Op → Bool
adds op.Plus = true
adds op.Minus = true
adds op.Times = false
adds op.Divide = false
adds op.Remainder = false

-- the sign of the first part of a product, and that of a further one
abbrev pub begins_product : Op → Bool
begins_product op.Plus = false
begins_product op.Minus = false
begins_product op.Times = true
begins_product op.Divide = false
begins_product op.Remainder = false

abbrev pub multiplies : Op → Bool
multiplies op.Plus = false
multiplies op.Minus = false
multiplies op.Times = true
multiplies op.Divide = true
multiplies op.Remainder = true

-- there is a part, the first has the first sign, the others have a further one, and each is a tree
abbrev pub are_parts : (Op → Bool) → (Op → Bool) → List (Op × Bool) → Bool
are_parts first further [] = false
are_parts first further (part ∷ parts) = first part.0 && part.1 && list_all (λ p. further p.0 && p.1) parts

-- a name is not empty, and UTF-8
abbrev pub is_name : List ℕ → Bool
is_name text = not (length text == 0) && is_utf8 text

-- the rules at one layer of a term, where those of its parts are judged
abbrev pub term_rules : Term-F Bool (Op × Bool) → Bool
term_rules (Term-F.Number n) = true
term_rules (Term-F.Text text) = is_utf8 text
term_rules (Term-F.Variable n) = true
term_rules Term-F.Anonymous = true
term_rules (Term-F.Function name args) = is_name name && list_all (λ arg. arg) args
term_rules (Term-F.Tuple args) = list_all (λ arg. arg) args
term_rules (Term-F.Sum parts) = are_parts begins_sum adds parts
term_rules (Term-F.Product parts) = are_parts begins_product multiplies parts
term_rules (Term-F.Minus inner) = inner
term_rules (Term-F.Interval left right) = left && right

-- a part with its sign
abbrev pub part_rules : Part-F Bool (Op × Bool) → Op × Bool
part_rules part = (part.op, part.term)

-- the term keeps the rules on terms
abbrev pub is_term : Term → Bool
is_term = fold-Term Bool (Op × Bool) term_rules part_rules

-- a part's sign, and whether its term keeps the rules
abbrev pub is_part : Part → Op × Bool
is_part = fold-Part Bool (Op × Bool) term_rules part_rules
