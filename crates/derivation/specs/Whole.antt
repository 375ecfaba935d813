-- Whole derivations: lines as bytes.
use Rattle.std.specs.Prelude.{◌≡◌, ℕ, ◌+◌, ◌==◌, Bool, true, false, not, cond, IsTrue, List, [], ◌∷◌, ◌++◌, codes}
use Rattle.std.specs.List.{AllByRecursion, flat_map, list_all}
use Rattle.literals.specs.Nogoods.{IsNogood}
use Rattle.derivation.specs.declared.line.Line.{Line}
use Rattle.derivation.specs.declared.line.Line.TheVariants as l
use Rattle.derivation.specs.Lists.{lits_of}
use Rattle.derivation.specs.Spelling.{spelling, IsLine}

-- a text and the line feed after it
abbrev pub ended : List ℕ → List ℕ
ended text = text ++ codes "\n"

-- the bytes of lines, each ended by a line feed
abbrev pub bytes_of : List Line → List ℕ
bytes_of lines = flat_map (λ line. ended (spelling line)) lines

abbrev pub is_learned : Line → Bool
is_learned (l.Learned id links lits) = true
is_learned other = false

-- how many of the lines are `r` lines
abbrev pub count_learned : List Line → ℕ
count_learned [] = 0
count_learned (line ∷ lines) = cond (is_learned line) 1 0 + count_learned lines

-- no line feed stands in the text
abbrev pub IsOneLine : List ℕ → Type 0
IsOneLine text = IsTrue (list_all (λ byte. not (byte == 10)) text)

-- the bytes are these texts, each ended by a line feed, and after the last line feed this rest
pub record AreLines (bytes : List ℕ) (texts : List (List ℕ)) (rest : List ℕ) : Type 0 where
  pub whole : bytes ≡ flat_map ended texts ++ rest
  pub split : AllByRecursion IsOneLine (rest ∷ texts)

abbrev pub IsHeader : Line → Type 0
IsHeader (l.Header version min max limit) = Unit {0}
IsHeader other = ⊥

-- the bytes are a derivation: a header and lines of the grammar, each spelled and ended by a line feed
pub record IsDerivation (bytes : List ℕ) (header : Line) (lines : List Line) : Type 0 where
  pub header_first : IsHeader header
  pub spelled : AllByRecursion IsLine (header ∷ lines)
  pub whole : bytes ≡ bytes_of (header ∷ lines)

-- LAWS

-- a line is spelled without a line feed
abbrev pub OneLineLaw : Type 0
OneLineLaw = (line : Line) → IsOneLine (spelling line)

-- bytes are cut into texts
abbrev pub CutLaw : Type 0
CutLaw = (bytes : List ℕ) → (texts : List (List ℕ)) × (rest : List ℕ) × AreLines bytes texts rest

-- in one way
abbrev pub OneCutLaw : Type 0
OneCutLaw =
    (bytes : List ℕ) (texts others : List (List ℕ)) (rest other : List ℕ) → AreLines bytes texts rest → AreLines bytes others other
    → (texts ≡ others) × (rest ≡ other)

-- bytes are at most one derivation
abbrev pub OneDerivationLaw : Type 0
OneDerivationLaw =
    (bytes : List ℕ) (header other : Line) (lines others : List Line) → IsDerivation bytes header lines → IsDerivation bytes other others
    → (header ≡ other) × (lines ≡ others)

-- the literals at the end of a line are a nogood
abbrev pub NogoodLaw : Type 0
NogoodLaw = (line : Line) → IsLine line → IsNogood (lits_of line)
