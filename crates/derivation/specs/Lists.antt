-- The literals of a line.
use Rattle.std.specs.Prelude.{List, []}
use Rattle.literals.specs.declared.lit.Lit.{Lit}
use Rattle.derivation.specs.declared.line.Line.{Line}
use Rattle.derivation.specs.declared.line.Line.TheVariants.{Header, Sum, Distinct, Window, Pair, Loop, Hole, Learned, Answer, Better, EndNone, EndAll, EndBest}

-- the literals at the end of a line: none where its form has none
abbrev pub lits_of : Line → List Lit
lits_of (Header version min max limit) = []
lits_of (Sum c lits) = lits
lits_of (Distinct c a b lits) = lits
lits_of (Window c a b lits) = lits
lits_of (Pair c i j lits) = lits
lits_of (Loop atoms lits) = lits
lits_of (Hole c lits) = lits
lits_of (Learned id pivots lits) = lits
lits_of (Answer atoms values) = []
lits_of (Better cost atoms values) = []
lits_of EndNone = []
lits_of (EndAll n) = []
lits_of (EndBest cost) = []
