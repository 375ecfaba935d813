-- The rules on trees, kind by kind.
use Rattle.std.proofs.Common.{◌≡◌, ℕ, ℤ, Bool, true, ◌&&◌, List, map, sym, ap, ◌∙◌}
use Rattle.std.specs.List.{list_all}
use Rattle.std.specs.Str.{is_utf8}
use Rattle.symbols.specs.declared.rel.Rel.{Rel}
use Rattle.syntax_tree.specs.declared.term.Op.{Op}
use Rattle.syntax_tree.specs.declared.term.Term.{Term, roll-Term}
use Rattle.syntax_tree.specs.declared.term.Term.TheOpen.{Term-F}
use Rattle.syntax_tree.specs.declared.term.Term.TheFolds.{fold-roll-Term, fold-roll-Part}
use Rattle.syntax_tree.specs.declared.term.Term.TheVariants as t
use Rattle.syntax_tree.specs.declared.term.Term.TheViews.{out-Part, roll-out-Part}
use Rattle.syntax_tree.specs.declared.term.Part.{Part}
use Rattle.syntax_tree.specs.declared.literal.Literal.{roll-Literal}
use Rattle.syntax_tree.specs.declared.literal.Literal.TheOpen.{Literal-F}
use Rattle.syntax_tree.specs.declared.literal.Literal.TheFolds.{fold-roll-Literal, fold-roll-TheoryAtom, fold-roll-TheoryElement}
use Rattle.syntax_tree.specs.declared.literal.Literal.TheVariants as l
use Rattle.syntax_tree.specs.declared.literal.Literal.TheViews.{out-TheoryAtom, roll-out-TheoryAtom, out-TheoryElement, roll-out-TheoryElement}
use Rattle.syntax_tree.specs.declared.literal.TheoryAtom.{TheoryAtom}
use Rattle.syntax_tree.specs.declared.literal.TheoryElement.{TheoryElement}
use Rattle.syntax_tree.specs.Tree.{is_name, is_term, is_part, term_rules, part_rules, are_parts, begins_sum, adds, begins_product, multiplies}
use Rattle.syntax_tree.specs.Literals.{is_none_or, is_guard, is_literal, is_theory_atom, is_theory_element, literal_rules, theory_rules, element_rules}

pub number_rules : (n : ℤ) → is_term (t.Number n) ≡ true
unfolding roll-Term denote.Hole.Carrier.roll
number_rules n = fold-roll-Term Bool (Op × Bool) term_rules part_rules (Term-F.Number n)

pub text_rules : (text : List ℕ) → is_term (t.Text text) ≡ is_utf8 text
unfolding roll-Term denote.Hole.Carrier.roll
text_rules text = fold-roll-Term Bool (Op × Bool) term_rules part_rules (Term-F.Text text)

pub variable_rules : (n : ℕ) → is_term (t.Variable n) ≡ true
unfolding roll-Term denote.Hole.Carrier.roll
variable_rules n = fold-roll-Term Bool (Op × Bool) term_rules part_rules (Term-F.Variable n)

pub anonymous_rules : is_term t.Anonymous ≡ true
unfolding roll-Term denote.Hole.Carrier.roll
anonymous_rules = fold-roll-Term Bool (Op × Bool) term_rules part_rules Term-F.Anonymous

pub function_rules : (name : List ℕ) (args : List Term) → is_term (t.Function name args) ≡ (is_name name && list_all (λ arg. arg) (map is_term args))
unfolding roll-Term denote.Hole.Carrier.roll
function_rules name args = fold-roll-Term Bool (Op × Bool) term_rules part_rules (Term-F.Function name args)

pub tuple_rules : (args : List Term) → is_term (t.Tuple args) ≡ list_all (λ arg. arg) (map is_term args)
unfolding roll-Term denote.Hole.Carrier.roll
tuple_rules args = fold-roll-Term Bool (Op × Bool) term_rules part_rules (Term-F.Tuple args)

pub sum_rules : (parts : List Part) → is_term (t.Sum parts) ≡ are_parts begins_sum adds (map is_part parts)
unfolding roll-Term denote.Hole.Carrier.roll
sum_rules parts = fold-roll-Term Bool (Op × Bool) term_rules part_rules (Term-F.Sum parts)

pub product_rules : (parts : List Part) → is_term (t.Product parts) ≡ are_parts begins_product multiplies (map is_part parts)
unfolding roll-Term denote.Hole.Carrier.roll
product_rules parts = fold-roll-Term Bool (Op × Bool) term_rules part_rules (Term-F.Product parts)

pub minus_rules : (inner : Term) → is_term (t.Minus inner) ≡ is_term inner
unfolding roll-Term denote.Hole.Carrier.roll
minus_rules inner = fold-roll-Term Bool (Op × Bool) term_rules part_rules (Term-F.Minus inner)

pub interval_rules : (left right : Term) → is_term (t.Interval left right) ≡ (is_term left && is_term right)
unfolding roll-Term denote.Hole.Carrier.roll
interval_rules left right = fold-roll-Term Bool (Op × Bool) term_rules part_rules (Term-F.Interval left right)

pub one_part : (part : Part) → is_part part ≡ (part.op, is_term part.term)
one_part part = ap is_part (sym (roll-out-Part part)) ∙ fold-roll-Part Bool (Op × Bool) term_rules part_rules (out-Part part)

pub atom_rules : (atom : Term) (sign : Bool) → is_literal (l.Atom atom sign) ≡ is_term atom
unfolding roll-Literal denote.Hole.Carrier.roll
atom_rules atom sign = fold-roll-Literal Bool Bool Bool literal_rules theory_rules element_rules (Literal-F.Atom atom sign)

pub comparison_rules : (left : Term) (rel : Rel) (right : Term) → is_literal (l.Compare left rel right) ≡ (is_term left && is_term right)
unfolding roll-Literal denote.Hole.Carrier.roll
comparison_rules left rel right = fold-roll-Literal Bool Bool Bool literal_rules theory_rules element_rules (Literal-F.Compare left rel right)

pub theory_literal_rules : (atom : TheoryAtom) (sign : Bool) → is_literal (l.Theory atom sign) ≡ is_theory_atom atom
unfolding roll-Literal denote.Hole.Carrier.roll
theory_literal_rules atom sign = fold-roll-Literal Bool Bool Bool literal_rules theory_rules element_rules (Literal-F.Theory atom sign)

pub theory_atom_rules : (atom : TheoryAtom)
    → is_theory_atom atom ≡ (list_all (λ element. element) (map is_theory_element (out-TheoryAtom atom).elements) && is_none_or is_guard (out-TheoryAtom atom).guard)
theory_atom_rules atom =
    ap is_theory_atom (sym (roll-out-TheoryAtom atom)) ∙ fold-roll-TheoryAtom Bool Bool Bool literal_rules theory_rules element_rules (out-TheoryAtom atom)

pub theory_element_rules : (element : TheoryElement)
    → is_theory_element element
    ≡ (is_term (out-TheoryElement element).first
    && is_none_or is_term (out-TheoryElement element).duration
    && list_all is_term (out-TheoryElement element).rest
    && list_all (λ literal. literal) (map is_literal (out-TheoryElement element).condition))
theory_element_rules element =
    ap is_theory_element (sym (roll-out-TheoryElement element))
    ∙ fold-roll-TheoryElement Bool Bool Bool literal_rules theory_rules element_rules (out-TheoryElement element)
