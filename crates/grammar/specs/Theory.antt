-- Conditions and theory atoms as they are written.
--   clit   = [ "not" ] atom | term REL term
--   cond   = clit {{ "," clit }}
--   telem  = term [ "@" term ] [ "," term {{ "," term }} ] [ ":" [ cond ] ]
--   theory = "&" ID "{" [ telem {{ ";" telem }} ] "}" [ REL term ]
--   REL    = "=" | "!=" | "<" | "<=" | ">" | ">="
use Rattle.std.specs.Prelude.{ℕ, Bool, true, false, if◌then◌else◌, Option, Some, None, List, ◌∷◌}
use Rattle.std.specs.Option.{is_some}
use Rattle.symbols.specs.declared.rel.Rel.{Rel}
use Rattle.symbols.specs.declared.rel.Rel.TheVariants as rel
use Rattle.grammar.specs.declared.mark.Mark.{Mark}
use Rattle.grammar.specs.declared.mark.Mark.TheVariants as m
use Rattle.grammar.specs.Word.{Word, is_word}
use Rattle.grammar.specs.Word as word
use Rattle.grammar.specs.Row.{Row, row_words}
use Rattle.grammar.specs.Parts.{maybe_words, marked_words, signed_words, maybe_goes_on}
use Rattle.grammar.specs.Term.{TermOf, AtomOf, UnaryOf, Operand, Room, term_words, atom_words, unary_words, term_goes_on, unary_goes_on, comma_word}

abbrev pub rel_mark : Rel → Mark
rel_mark rel.Equal = m.Equal
rel_mark rel.NotEqual = m.NotEqual
rel_mark rel.Less = m.Less
rel_mark rel.LessEqual = m.LessEqual
rel_mark rel.Greater = m.Greater
rel_mark rel.GreaterEqual = m.GreaterEqual

abbrev pub rel_word : Rel → Word
rel_word r = word.mark (rel_mark r)

-- the relation that a word is, if it is one
abbrev pub relation : Word → Option Rel
relation next =
    (if is_word m.Equal next then Some rel.Equal
    else (if is_word m.NotEqual next then Some rel.NotEqual
    else (if is_word m.Less next then Some rel.Less
    else (if is_word m.LessEqual next then Some rel.LessEqual
    else (if is_word m.Greater next then Some rel.Greater
    else (if is_word m.GreaterEqual next then Some rel.GreaterEqual
    else None))))))

abbrev pub semicolon_word : Unit {0} → Word
semicolon_word sign = word.mark m.Semicolon

abbrev pub semicolon : Word → Option (Unit {0})
semicolon next = (if is_word m.Semicolon next then Some tt else None)

-- Over the operands D of the level inside; R is empty where there is no level.
abbrev pub FullTerm : Type 0 → Type 0 → Type 0
FullTerm D R = TermOf (UnaryOf D R)

-- an atom, with `false` behind `not`; or a comparison
pub data ConditionOf (D R : Type 0) : Type 0 where
  holds : Bool → AtomOf D → ConditionOf D R
  compares : FullTerm D R → Rel → FullTerm D R → ConditionOf D R

-- terms with commas between them
abbrev pub PlacesOf : Type 0 → Type 0 → Type 0
PlacesOf D R = Row (FullTerm D R) (Unit {0})

-- what may stand behind an element: nothing, `:`, or `:` and a condition
abbrev pub GivenOf : Type 0 → Type 0 → Type 0
GivenOf D R = Option (Option (Row (ConditionOf D R) (Unit {0})))

pub record ElementOf (D R : Type 0) : Type 0 where
  pub first : FullTerm D R
  pub duration : Option (FullTerm D R)
  pub rest : Option (PlacesOf D R)
  pub condition : GivenOf D R

pub record TheoryOf (D R : Type 0) : Type 0 where
  pub name : List ℕ
  pub elements : Option (Row (ElementOf D R) (Unit {0}))
  pub guard : Option (Rel × FullTerm D R)

-- ---- their words, with the rest of the words behind them
module _ {D R : Type 0} (inner : D → List Word → List Word) where
  abbrev pub full_words : FullTerm D R → List Word → List Word
  full_words = term_words (unary_words inner)

  abbrev pub condition_words : ConditionOf D R → List Word → List Word
  condition_words (holds true a) rest = atom_words inner a rest
  condition_words (holds false a) rest = word.negation ∷ atom_words inner a rest
  condition_words (compares left r right) rest = full_words left (rel_word r ∷ full_words right rest)

  abbrev pub given_words : GivenOf D R → List Word → List Word
  given_words = maybe_words (marked_words m.Colon (maybe_words (row_words condition_words comma_word)))

  abbrev pub duration_words : Option (FullTerm D R) → List Word → List Word
  duration_words = maybe_words (marked_words m.At full_words)

  abbrev pub places_words : Option (PlacesOf D R) → List Word → List Word
  places_words = maybe_words (marked_words m.Comma (row_words full_words comma_word))

  abbrev pub element_words : ElementOf D R → List Word → List Word
  element_words element rest = full_words element.first (duration_words element.duration (places_words element.rest (given_words element.condition rest)))

  abbrev pub elements_words : Option (Row (ElementOf D R) (Unit {0})) → List Word → List Word
  elements_words = maybe_words (row_words element_words semicolon_word)

  abbrev pub guard_words : Option (Rel × FullTerm D R) → List Word → List Word
  guard_words = maybe_words (signed_words rel_word full_words)

  abbrev pub theory_words : TheoryOf D R → List Word → List Word
  theory_words theory rest = word.mark m.And ∷ word.name theory.name ∷ word.mark m.OpenBrace ∷ elements_words theory.elements (word.mark m.CloseBrace ∷ guard_words theory.guard rest)

-- ---- a word that stands behind would go on with it
module _ {D R : Type 0} (inner : D → Word → Bool) where
  abbrev pub full_goes_on : FullTerm D R → Word → Bool
  full_goes_on = term_goes_on (unary_goes_on inner)

  abbrev pub guard_goes_on : Option (Rel × FullTerm D R) → Word → Bool
  guard_goes_on = maybe_goes_on (λ next. is_some (relation next)) (λ guard next. full_goes_on guard.1 next)

  abbrev pub theory_goes_on : TheoryOf D R → Word → Bool
  theory_goes_on theory next = guard_goes_on theory.guard next

-- theory atoms that nest at most n deep
abbrev pub TheoryAt : ℕ → Type 0
TheoryAt n = TheoryOf (Operand n) (Room n)
