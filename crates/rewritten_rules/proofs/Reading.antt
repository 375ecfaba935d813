-- How literals are read, form by form.
use Rattle.std.proofs.Common.{◌≡◌, Bool, map}
use Rattle.symbols.specs.declared.rel.Rel.{Rel}
use Rattle.syntax_tree.specs.declared.term.Term.{Term}
use Rattle.syntax_tree.specs.declared.literal.Literal.{Literal, roll-Literal}
use Rattle.syntax_tree.specs.declared.literal.Literal.TheOpen.{Literal-F, TheoryAtom-F, TheoryElement-F}
use Rattle.syntax_tree.specs.declared.literal.Literal.TheFolds.{fold-TheoryElement, fold-roll-Literal, fold-roll-TheoryAtom, fold-roll-TheoryElement}
use Rattle.syntax_tree.specs.declared.literal.Literal.TheVariants as l
use Rattle.syntax_tree.specs.declared.literal.TheoryAtom.{TheoryAtom, roll-TheoryAtom}
use Rattle.syntax_tree.specs.declared.literal.TheoryElement.{TheoryElement, roll-TheoryElement}
use Rattle.program_meaning.specs.Read.{ReadLiteral, ReadPlain, ReadTold, ReadTheory, ReadElement, PlainAtom, PlainCompare, plains, literal_read, theory_read, read_literal, read_theory, read_element}

-- an element of a theory atom as it is read
abbrev pub element_read : TheoryElement → ReadElement
element_read = fold-TheoryElement ReadLiteral ReadTheory ReadElement read_literal read_theory read_element

pub read-Atom : (atom : Term) (sign : Bool) → literal_read (l.Atom atom sign) ≡ ReadPlain (PlainAtom atom sign)
unfolding roll-Literal denote.Hole.Carrier.roll
read-Atom atom sign = fold-roll-Literal ReadLiteral ReadTheory ReadElement read_literal read_theory read_element (Literal-F.Atom atom sign)

pub read-Compare : (left : Term) (rel : Rel) (right : Term) → literal_read (l.Compare left rel right) ≡ ReadPlain (PlainCompare left rel right)
unfolding roll-Literal denote.Hole.Carrier.roll
read-Compare left rel right = fold-roll-Literal ReadLiteral ReadTheory ReadElement read_literal read_theory read_element (Literal-F.Compare left rel right)

pub read-Theory : (theory : TheoryAtom) (sign : Bool) → literal_read (l.Theory theory sign) ≡ ReadTold (theory_read theory) sign
unfolding roll-Literal denote.Hole.Carrier.roll
read-Theory theory sign = fold-roll-Literal ReadLiteral ReadTheory ReadElement read_literal read_theory read_element (Literal-F.Theory theory sign)

pub read-TheoryAtom : (x : TheoryAtom-F Literal TheoryAtom TheoryElement)
    → theory_read (roll-TheoryAtom x) ≡ record { name = x.name; elements = map element_read x.elements; guard = x.guard }
read-TheoryAtom x = fold-roll-TheoryAtom ReadLiteral ReadTheory ReadElement read_literal read_theory read_element x

pub read-TheoryElement : (x : TheoryElement-F Literal TheoryAtom TheoryElement)
    → element_read (roll-TheoryElement x) ≡ record { first = x.first; duration = x.duration; rest = x.rest; condition = plains (map literal_read x.condition) }
read-TheoryElement x = fold-roll-TheoryElement ReadLiteral ReadTheory ReadElement read_literal read_theory read_element x
