-- Rewriting, form by form.
use Rattle.std.proofs.Common.{◌≡◌, ℕ, ℤ, Bool, List, map, sym, ap, ◌∙◌}
use Rattle.symbols.specs.declared.rel.Rel.{Rel}
use Rattle.syntax_tree.specs.declared.term.Op.{Op}
use Rattle.syntax_tree.specs.declared.term.Part.{Part}
use Rattle.syntax_tree.specs.declared.term.Term.{Term, roll-Term}
use Rattle.syntax_tree.specs.declared.term.Term.TheOpen.{Term-F}
use Rattle.syntax_tree.specs.declared.term.Term.TheFolds.{fold-roll-Term, fold-roll-Part}
use Rattle.syntax_tree.specs.declared.term.Term.TheVariants as t
use Rattle.syntax_tree.specs.declared.term.Term.TheViews.{out-Part, roll-out-Part}
use Rattle.syntax_tree.specs.declared.literal.Literal.{Literal, roll-Literal}
use Rattle.syntax_tree.specs.declared.literal.Literal.TheOpen.{Literal-F, TheoryAtom-F, TheoryElement-F}
use Rattle.syntax_tree.specs.declared.literal.Literal.TheFolds.{fold-roll-Literal, fold-roll-TheoryAtom, fold-roll-TheoryElement}
use Rattle.syntax_tree.specs.declared.literal.Literal.TheVariants as l
use Rattle.syntax_tree.specs.declared.literal.TheoryAtom.{TheoryAtom, roll-TheoryAtom}
use Rattle.syntax_tree.specs.declared.literal.TheoryElement.{TheoryElement, roll-TheoryElement}
use Rattle.rewriting.specs.Made.{Made}
use Rattle.rewriting.specs.Rewritten.{Ways, term_ways, part_ways, ways, ways_in, literal_way, theory_way, element_way, literal_made, theory_made, element_made}

pub ways-Number : (n : ℤ) → ways (t.Number n) ≡ term_ways (Term-F.Number n)
unfolding roll-Term denote.Hole.Carrier.roll
ways-Number n = fold-roll-Term Ways (Op × Ways) term_ways part_ways (Term-F.Number n)

pub ways-Text : (text : List ℕ) → ways (t.Text text) ≡ term_ways (Term-F.Text text)
unfolding roll-Term denote.Hole.Carrier.roll
ways-Text text = fold-roll-Term Ways (Op × Ways) term_ways part_ways (Term-F.Text text)

pub ways-Variable : (n : ℕ) → ways (t.Variable n) ≡ term_ways (Term-F.Variable n)
unfolding roll-Term denote.Hole.Carrier.roll
ways-Variable n = fold-roll-Term Ways (Op × Ways) term_ways part_ways (Term-F.Variable n)

pub ways-Anonymous : ways t.Anonymous ≡ term_ways Term-F.Anonymous
unfolding roll-Term denote.Hole.Carrier.roll
ways-Anonymous = fold-roll-Term Ways (Op × Ways) term_ways part_ways Term-F.Anonymous

pub ways-Function : (name : List ℕ) (args : List Term) → ways (t.Function name args) ≡ term_ways (Term-F.Function name (map ways args))
unfolding roll-Term denote.Hole.Carrier.roll
ways-Function name args = fold-roll-Term Ways (Op × Ways) term_ways part_ways (Term-F.Function name args)

pub ways-Tuple : (args : List Term) → ways (t.Tuple args) ≡ term_ways (Term-F.Tuple (map ways args))
unfolding roll-Term denote.Hole.Carrier.roll
ways-Tuple args = fold-roll-Term Ways (Op × Ways) term_ways part_ways (Term-F.Tuple args)

pub ways-Sum : (parts : List Part) → ways (t.Sum parts) ≡ term_ways (Term-F.Sum (map ways_in parts))
unfolding roll-Term denote.Hole.Carrier.roll
ways-Sum parts = fold-roll-Term Ways (Op × Ways) term_ways part_ways (Term-F.Sum parts)

pub ways-Product : (parts : List Part) → ways (t.Product parts) ≡ term_ways (Term-F.Product (map ways_in parts))
unfolding roll-Term denote.Hole.Carrier.roll
ways-Product parts = fold-roll-Term Ways (Op × Ways) term_ways part_ways (Term-F.Product parts)

pub ways-Minus : (inner : Term) → ways (t.Minus inner) ≡ term_ways (Term-F.Minus (ways inner))
unfolding roll-Term denote.Hole.Carrier.roll
ways-Minus inner = fold-roll-Term Ways (Op × Ways) term_ways part_ways (Term-F.Minus inner)

pub ways-Interval : (low high : Term) → ways (t.Interval low high) ≡ term_ways (Term-F.Interval (ways low) (ways high))
unfolding roll-Term denote.Hole.Carrier.roll
ways-Interval low high = fold-roll-Term Ways (Op × Ways) term_ways part_ways (Term-F.Interval low high)

pub ways-Part : (part : Part) → ways_in part ≡ (part.op, ways part.term)
ways-Part part = ap ways_in (sym (roll-out-Part part)) ∙ fold-roll-Part Ways (Op × Ways) term_ways part_ways (out-Part part)

abbrev L : Type 0
L = ℕ → Made Literal

abbrev A : Type 0
A = ℕ → Made TheoryAtom

abbrev E : Type 0
E = ℕ → Made TheoryElement

pub made-Atom : (atom : Term) (sign : Bool) (next : ℕ) → literal_made (l.Atom atom sign) next ≡ literal_way (Literal-F.Atom atom sign) next
unfolding roll-Literal denote.Hole.Carrier.roll
made-Atom atom sign next = ap (λ way. way next) (fold-roll-Literal L A E literal_way theory_way element_way (Literal-F.Atom atom sign))

pub made-Compare : (left : Term) (rel : Rel) (right : Term) (next : ℕ) → literal_made (l.Compare left rel right) next ≡ literal_way (Literal-F.Compare left rel right) next
unfolding roll-Literal denote.Hole.Carrier.roll
made-Compare left rel right next = ap (λ way. way next) (fold-roll-Literal L A E literal_way theory_way element_way (Literal-F.Compare left rel right))

pub made-Theory : (atom : TheoryAtom) (sign : Bool) (next : ℕ) → literal_made (l.Theory atom sign) next ≡ literal_way (Literal-F.Theory (theory_made atom) sign) next
unfolding roll-Literal denote.Hole.Carrier.roll
made-Theory atom sign next = ap (λ way. way next) (fold-roll-Literal L A E literal_way theory_way element_way (Literal-F.Theory atom sign))

pub made-TheoryAtom : (x : TheoryAtom-F Literal TheoryAtom TheoryElement) (next : ℕ)
    → theory_made (roll-TheoryAtom x) next ≡ theory_way (record { name = x.name; elements = map element_made x.elements; guard = x.guard }) next
made-TheoryAtom x next = ap (λ way. way next) (fold-roll-TheoryAtom L A E literal_way theory_way element_way x)

pub made-TheoryElement : (x : TheoryElement-F Literal TheoryAtom TheoryElement) (next : ℕ)
    → element_made (roll-TheoryElement x) next ≡ element_way (record { first = x.first; duration = x.duration; rest = x.rest; condition = map literal_made x.condition }) next
made-TheoryElement x next = ap (λ way. way next) (fold-roll-TheoryElement L A E literal_way theory_way element_way x)

pub ruleset forms = (
  ways-Number,
  ways-Text,
  ways-Variable,
  ways-Anonymous,
  ways-Function,
  ways-Tuple,
  ways-Sum,
  ways-Product,
  ways-Minus,
  ways-Interval,
  ways-Part,
  made-Atom,
  made-Compare,
  made-Theory,
  made-TheoryAtom,
  made-TheoryElement,
)
