-- Terms as they are written.
--   term    = sum [ ".." sum ]
--   sum     = product {{ ("+" | "-") product }}
--   product = unary {{ ("*" | "/" | "\") unary }}
--   unary   = "-" unary | NUM | STRING | VAR | ANON | atom
--           | "(" ")" | "(" term ")" | "(" term "," [ args ] ")"
--   atom    = ID [ "(" args ")" ]
--   args    = term {{ "," term }}
use Rattle.std.specs.Prelude.{ℕ, zero, suc, Bool, false, ◌||◌, if◌then◌else◌, Option, Some, None, List, ◌∷◌}
use Rattle.grammar.specs.declared.mark.Mark.{Mark}
use Rattle.grammar.specs.declared.mark.Mark.TheVariants as m
use Rattle.grammar.specs.Word.{Word, is_word}
use Rattle.grammar.specs.Word as word
use Rattle.grammar.specs.Row.{Row, row_words, row_goes_on}

-- the signs of a sum
pub data Adding : Type 0 where
  plus : Adding
  minus : Adding

-- the signs of a product
pub data Multiplying : Type 0 where
  times : Multiplying
  divide : Multiplying
  remainder : Multiplying

abbrev pub adding_mark : Adding → Mark
adding_mark plus = m.Plus
adding_mark minus = m.Minus

abbrev pub multiplying_mark : Multiplying → Mark
multiplying_mark times = m.Times
multiplying_mark divide = m.Divide
multiplying_mark remainder = m.Remainder

abbrev pub adding_word : Adding → Word
adding_word sign = word.mark (adding_mark sign)

abbrev pub multiplying_word : Multiplying → Word
multiplying_word sign = word.mark (multiplying_mark sign)

abbrev pub comma_word : Unit {0} → Word
comma_word sign = word.mark m.Comma

-- the sign that a word is, if it is one
abbrev pub adding : Word → Option Adding
adding next = (if is_word m.Plus next then Some plus else (if is_word m.Minus next then Some minus else None))

abbrev pub multiplying : Word → Option Multiplying
multiplying next =
    (if is_word m.Times next then Some times
    else (if is_word m.Divide next then Some divide
    else (if is_word m.Remainder next then Some remainder
    else None)))

abbrev pub comma : Word → Option (Unit {0})
comma next = (if is_word m.Comma next then Some tt else None)

-- Over operands U: products, sums, terms and argument lists.
abbrev pub ProductOf : Type 0 → Type 0
ProductOf U = Row U Multiplying

abbrev pub SumOf : Type 0 → Type 0
SumOf U = Row (ProductOf U) Adding

pub data TermOf (U : Type 0) : Type 0 where
  alone : SumOf U → TermOf U
  interval : SumOf U → SumOf U → TermOf U

abbrev pub ArgsOf : Type 0 → Type 0
ArgsOf U = Row (TermOf U) (Unit {0})

-- an atom; D are the operands that may stand in its argument list
pub data AtomOf (D : Type 0) : Type 0 where
  plain : List ℕ → AtomOf D
  applied : List ℕ → ArgsOf D → AtomOf D

-- an operand; D are those that may stand in its parentheses and argument lists, and behind its sign. R is empty where it may have none of these.
pub data UnaryOf (D R : Type 0) : Type 0 where
  negated : D → UnaryOf D R
  number : ℕ → UnaryOf D R
  text : List ℕ → UnaryOf D R
  variable : List ℕ → UnaryOf D R
  anonymous : UnaryOf D R
  atom : AtomOf D → UnaryOf D R
  unit : R → UnaryOf D R
  group : TermOf D → UnaryOf D R
  single : TermOf D → UnaryOf D R
  tuple : TermOf D → ArgsOf D → UnaryOf D R

-- whether a level is left
abbrev pub Room : ℕ → Type 0
Room zero = ⊥
Room (suc n) = Unit {0}

-- the operands in which argument lists, parentheses and signs nest fewer than n deep
abbrev pub Operand : ℕ → Type 0
Operand zero = ⊥
Operand (suc n) = UnaryOf (Operand n) (Room n)

-- what nests at most n deep
abbrev pub UnaryAt : ℕ → Type 0
UnaryAt n = UnaryOf (Operand n) (Room n)

abbrev pub TermAt : ℕ → Type 0
TermAt n = TermOf (UnaryAt n)

abbrev pub ArgsAt : ℕ → Type 0
ArgsAt n = ArgsOf (UnaryAt n)

abbrev pub AtomAt : ℕ → Type 0
AtomAt n = AtomOf (Operand n)

-- Their words, with the rest of the words behind them.
module _ {U : Type 0} (operand : U → List Word → List Word) where
  abbrev pub product_words : ProductOf U → List Word → List Word
  product_words = row_words operand multiplying_word

  abbrev pub sum_words : SumOf U → List Word → List Word
  sum_words = row_words product_words adding_word

  abbrev pub term_words : TermOf U → List Word → List Word
  term_words (alone sum) rest = sum_words sum rest
  term_words (interval left right) rest = sum_words left (word.mark m.Dots ∷ sum_words right rest)

  abbrev pub args_words : ArgsOf U → List Word → List Word
  args_words = row_words term_words comma_word

module _ {D : Type 0} (inner : D → List Word → List Word) where
  abbrev pub atom_words : AtomOf D → List Word → List Word
  atom_words (plain name) rest = word.name name ∷ rest
  atom_words (applied name args) rest = word.name name ∷ word.mark m.Open ∷ args_words inner args (word.mark m.Close ∷ rest)

  abbrev pub unary_words : {R : Type 0} → UnaryOf D R → List Word → List Word
  unary_words (negated operand) rest = word.mark m.Minus ∷ inner operand rest
  unary_words (number n) rest = word.numeral n ∷ rest
  unary_words (text bytes) rest = word.string bytes ∷ rest
  unary_words (variable name) rest = word.variable name ∷ rest
  unary_words anonymous rest = word.anonymous ∷ rest
  unary_words (atom a) rest = atom_words a rest
  unary_words (unit room) rest = word.mark m.Open ∷ word.mark m.Close ∷ rest
  unary_words (group t) rest = word.mark m.Open ∷ term_words inner t (word.mark m.Close ∷ rest)
  unary_words (single t) rest = word.mark m.Open ∷ term_words inner t (word.mark m.Comma ∷ word.mark m.Close ∷ rest)
  unary_words (tuple t args) rest = word.mark m.Open ∷ term_words inner t (word.mark m.Comma ∷ args_words inner args (word.mark m.Close ∷ rest))

abbrev pub operand_words : (n : ℕ) → Operand n → List Word → List Word
operand_words zero operand rest = absurd operand
operand_words (suc n) operand rest = unary_words (operand_words n) operand rest

-- A word that stands behind would go on with it.
module _ {U : Type 0} (operand_goes_on : U → Word → Bool) where
  abbrev pub product_goes_on : ProductOf U → Word → Bool
  product_goes_on = row_goes_on operand_goes_on multiplying

  abbrev pub sum_goes_on : SumOf U → Word → Bool
  sum_goes_on = row_goes_on product_goes_on adding

  abbrev pub term_goes_on : TermOf U → Word → Bool
  term_goes_on (alone sum) next = sum_goes_on sum next || is_word m.Dots next
  term_goes_on (interval left right) next = sum_goes_on right next

  abbrev pub args_go_on : ArgsOf U → Word → Bool
  args_go_on = row_goes_on term_goes_on comma

abbrev pub atom_goes_on : {D : Type 0} → AtomOf D → Word → Bool
atom_goes_on (plain name) next = is_word m.Open next
atom_goes_on (applied name args) next = false

abbrev pub unary_goes_on : {D R : Type 0} → (D → Word → Bool) → UnaryOf D R → Word → Bool
unary_goes_on inner (negated operand) next = inner operand next
unary_goes_on inner (number n) next = false
unary_goes_on inner (text bytes) next = false
unary_goes_on inner (variable name) next = false
unary_goes_on inner anonymous next = false
unary_goes_on inner (atom a) next = atom_goes_on a next
unary_goes_on inner (unit room) next = false
unary_goes_on inner (group t) next = false
unary_goes_on inner (single t) next = false
unary_goes_on inner (tuple t args) next = false

abbrev pub operand_goes_on : (n : ℕ) → Operand n → Word → Bool
operand_goes_on zero operand next = absurd operand
operand_goes_on (suc n) operand next = unary_goes_on (operand_goes_on n) operand next
