-- Elements of theory atoms, and the atoms and comparisons among literals, as they are read.
use Rattle.std.specs.Prelude.{List, map}
use Rattle.syntax_tree.specs.declared.literal.Literal.{Literal}
use Rattle.syntax_tree.specs.declared.literal.Literal.TheFolds.{fold-TheoryElement}
use Rattle.syntax_tree.specs.declared.literal.TheoryElement.{TheoryElement}
use Rattle.program_meaning.specs.Read.{PlainLiteral, ReadElement, ReadTheory, ReadLiteral, literal_read, plains, read_literal, read_theory, read_element}

-- an element of a theory atom as it is read
abbrev pub element_read : TheoryElement → ReadElement
element_read = fold-TheoryElement ReadLiteral ReadTheory ReadElement read_literal read_theory read_element

-- literals as they are read, theory literals aside
abbrev pub plain_literals : List Literal → List PlainLiteral
plain_literals literals = plains (map literal_read literals)
