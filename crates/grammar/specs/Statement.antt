-- Statements as they are written.
--   text      = {{ statement }}
--   statement = rule "." | "#const" ID "=" term "." | "#show" "." | "#show" ID "/" NUM "."
--   rule      = head [ ":-" [ body ] ] | ":-" [ body ]
--   head      = atom | choice | theory
--   body      = literal {{ ("," | ";") literal }}
--   literal   = [ "not" ] atom | term REL term | [ "not" ] theory
--   choice    = [ term [ REL ] ] "{" [ celem {{ ";" celem }} ] "}" [ [ REL ] term ]
--   celem     = atom [ ":" [ cond ] ]
use Rattle.std.specs.Prelude.{ℕ, Bool, true, false, if◌then◌else◌, Option, Some, None, List, [], ◌∷◌}
use Rattle.symbols.specs.declared.rel.Rel.{Rel}
use Rattle.grammar.specs.declared.mark.Mark.TheVariants as m
use Rattle.grammar.specs.Word.{Word, is_word}
use Rattle.grammar.specs.Word as word
use Rattle.grammar.specs.Row.{Row, row_words}
use Rattle.grammar.specs.Term.{AtomOf, Operand, Room, atom_words, operand_words}
use Rattle.grammar.specs.Theory.{FullTerm, ConditionOf, GivenOf, TheoryOf, rel_word, semicolon_word, full_words, condition_words, given_words, theory_words}

pub data LiteralOf (D R : Type 0) : Type 0 where
  simple : ConditionOf D R → LiteralOf D R
  theory : Bool → TheoryOf D R → LiteralOf D R

-- the two signs between literals
pub data Separating : Type 0 where
  by_comma : Separating
  by_semicolon : Separating

abbrev pub separating_word : Separating → Word
separating_word by_comma = word.mark m.Comma
separating_word by_semicolon = word.mark m.Semicolon

abbrev pub separating : Word → Option Separating
separating next = (if is_word m.Comma next then Some by_comma else (if is_word m.Semicolon next then Some by_semicolon else None))

abbrev pub BodyOf : Type 0 → Type 0 → Type 0
BodyOf D R = Row (LiteralOf D R) Separating

pub record ChosenOf (D R : Type 0) : Type 0 where
  pub atom : AtomOf D
  pub condition : GivenOf D R

-- bounds stand with a relation or without
pub record ChoiceOf (D R : Type 0) : Type 0 where
  pub left : Option (FullTerm D R × Option Rel)
  pub elements : Option (Row (ChosenOf D R) (Unit {0}))
  pub right : Option (Option Rel × FullTerm D R)

pub data HeadOf (D R : Type 0) : Type 0 where
  atom_head : AtomOf D → HeadOf D R
  choice_head : ChoiceOf D R → HeadOf D R
  theory_head : TheoryOf D R → HeadOf D R

-- what stands behind a head: nothing, `:-`, or `:-` and a body
pub data ArrowOf (D R : Type 0) : Type 0 where
  no_arrow : ArrowOf D R
  arrow : Option (BodyOf D R) → ArrowOf D R

pub data StatementOf (D R : Type 0) : Type 0 where
  headed : HeadOf D R → ArrowOf D R → StatementOf D R
  constraint : Option (BodyOf D R) → StatementOf D R
  constant : List ℕ → FullTerm D R → StatementOf D R
  show_nothing : StatementOf D R
  show : List ℕ → ℕ → StatementOf D R

-- statements that nest at most n deep
abbrev pub StatementAt : ℕ → Type 0
StatementAt n = StatementOf (Operand n) (Room n)

-- ---- their words, with the rest of the words behind them
abbrev pub maybe_rel_words : Option Rel → List Word → List Word
maybe_rel_words None rest = rest
maybe_rel_words (Some r) rest = rel_word r ∷ rest

module _ {D R : Type 0} (inner : D → List Word → List Word) where
  abbrev pub literal_words : LiteralOf D R → List Word → List Word
  literal_words (simple condition) rest = condition_words inner condition rest
  literal_words (theory true atom) rest = theory_words inner atom rest
  literal_words (theory false atom) rest = word.negation ∷ theory_words inner atom rest

  abbrev pub body_words : Option (BodyOf D R) → List Word → List Word
  body_words None rest = rest
  body_words (Some body) rest = row_words literal_words separating_word body rest

  abbrev pub left_words : Option (FullTerm D R × Option Rel) → List Word → List Word
  left_words None rest = rest
  left_words (Some bound) rest = full_words inner bound.0 (maybe_rel_words bound.1 rest)

  abbrev pub right_words : Option (Option Rel × FullTerm D R) → List Word → List Word
  right_words None rest = rest
  right_words (Some bound) rest = maybe_rel_words bound.0 (full_words inner bound.1 rest)

  abbrev pub chosen_words : ChosenOf D R → List Word → List Word
  chosen_words element rest = atom_words inner element.atom (given_words inner element.condition rest)

  abbrev pub chosens_words : Option (Row (ChosenOf D R) (Unit {0})) → List Word → List Word
  chosens_words None rest = rest
  chosens_words (Some row) rest = row_words chosen_words semicolon_word row rest

  abbrev pub choice_words : ChoiceOf D R → List Word → List Word
  choice_words choice rest = left_words choice.left (word.mark m.OpenBrace ∷ chosens_words choice.elements (word.mark m.CloseBrace ∷ right_words choice.right rest))

  abbrev pub head_words : HeadOf D R → List Word → List Word
  head_words (atom_head a) rest = atom_words inner a rest
  head_words (choice_head choice) rest = choice_words choice rest
  head_words (theory_head atom) rest = theory_words inner atom rest

  abbrev pub arrow_words : ArrowOf D R → List Word → List Word
  arrow_words no_arrow rest = rest
  arrow_words (arrow body) rest = word.mark m.Arrow ∷ body_words body rest

  abbrev pub statement_words : StatementOf D R → List Word → List Word
  statement_words (headed head behind) rest = head_words head (arrow_words behind (word.mark m.Dot ∷ rest))
  statement_words (constraint body) rest = word.mark m.Arrow ∷ body_words body (word.mark m.Dot ∷ rest)
  statement_words (constant name term) rest = word.const_word ∷ word.name name ∷ word.mark m.Equal ∷ full_words inner term (word.mark m.Dot ∷ rest)
  statement_words show_nothing rest = word.show_word ∷ word.mark m.Dot ∷ rest
  statement_words (show name arity) rest = word.show_word ∷ word.name name ∷ word.mark m.Divide ∷ word.numeral arity ∷ word.mark m.Dot ∷ rest

abbrev pub words_of_statement : (n : ℕ) → StatementAt n → List Word → List Word
words_of_statement n = statement_words (operand_words n)

-- the words of a text
abbrev pub text_words : (n : ℕ) → List (StatementAt n) → List Word
text_words n [] = []
text_words n (statement ∷ statements) = words_of_statement n statement (text_words n statements)
