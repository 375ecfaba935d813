-- Reading from the left, as a function of the words. Only the readers' own code and the laws cite this file.
use Rattle.std.specs.Prelude.{ℕ, zero, suc, if◌then◌else◌, List, [], ◌∷◌, length, drop, Option, Some, None, Result, Ok, Err, Bool, false}
use Rattle.grammar.specs.declared.mark.Mark.{Mark}
use Rattle.grammar.specs.declared.mark.Mark.TheVariants as m
use Rattle.grammar.specs.Word.{Word, is_next}
use Rattle.grammar.specs.Word as word
use Rattle.grammar.specs.Row.{Row}
use Rattle.grammar.specs.Term.{ProductOf, SumOf, TermOf, ArgsOf, UnaryOf, Room, Operand, UnaryAt, TermAt, ArgsAt, alone, interval, plain, applied, negated, number, text, variable, anonymous, atom, unit, group, single, tuple, adding, multiplying, comma}

-- no form goes on with the next word, or only one that nests too deep does; with how many words are left there
pub data Fault : Type 0 where
  Expected : ℕ → Fault
  TooDeep : ℕ → Fault

-- what is read, and the words behind it
abbrev pub Outcome : Type 0 → Type 0
Outcome A = Result (A × List Word) Fault

abbrev pub Reader : Type 0 → Type 0
Reader A = List Word → Outcome A

abbrev pub and_then : {A B : Type 0} → Outcome A → (A → Reader B) → Outcome B
and_then (Ok p) f = f p.0 p.1
and_then (Err fault) f = Err fault

abbrev pub expected : {A : Type 0} → Reader A
expected words = Err (Expected (length words))

-- what is read, where a mark stands behind it
abbrev pub before : {A : Type 0} → Mark → A → Reader A
before mark x words = (if is_next mark words then Ok (x, drop 1 words) else expected words)

-- one form, and another behind it
abbrev pub pair_with : {A B : Type 0} → Reader A → Reader B → Reader (A × B)
pair_with first second words = and_then (first words) (λ a rest. and_then (second rest) (λ b after. Ok ((a, b), after)))

-- a form behind a mark
abbrev pub marked_with : {A : Type 0} → Mark → Reader A → Reader A
marked_with mark read words = (if is_next mark words then read (drop 1 words) else expected words)

-- a form with a mark behind it
abbrev pub closed_with : {A : Type 0} → Mark → Reader A → Reader A
closed_with mark read words = and_then (read words) (before mark)

-- a form as another
abbrev pub mapped_with : {A B : Type 0} → (A → B) → Reader A → Reader B
mapped_with f read words = and_then (read words) (λ a rest. Ok (f a, rest))

-- a word comes next that a test finds
abbrev pub starts_next : (Word → Bool) → List Word → Bool
starts_next starts [] = false
starts_next starts (next ∷ words) = starts next

-- a form, where a word comes next with which one begins
abbrev pub maybe_with : {A : Type 0} → (Word → Bool) → Reader A → Reader (Option A)
maybe_with starts read words = (if starts_next starts words then and_then (read words) (λ a rest. Ok (Some a, rest)) else Ok (None, words))

-- the sign that comes next
abbrev pub sign_at : {S : Type 0} → (Word → Option S) → List Word → Option S
sign_at sign [] = None
sign_at sign (next ∷ words) = sign next

-- a form behind a sign
abbrev pub signed_with : {S A : Type 0} → (Word → Option S) → Reader A → Reader (S × A)
signed_with sign read words =
    elim (sign_at sign words) [
      | Some s ↦ and_then (read (drop 1 words)) (λ a rest. Ok ((s, a), rest))
      | None ↦ expected words
    ]

-- a form of one of two kinds
pub data Either (A B : Type 0) : Type 0 where
  one : A → Either A B
  other : B → Either A B

-- a form of one kind, where a word comes next with which one begins, and else one of another
abbrev pub either_with : {A B : Type 0} → (Word → Bool) → Reader A → Reader B → Reader (Either A B)
either_with starts first second words =
    (if starts_next starts words then and_then (first words) (λ a rest. Ok (one a, rest)) else and_then (second words) (λ b rest. Ok (other b, rest)))

-- what of a kind of forms is a form of another; none goes on behind one that isn't
abbrev pub kept_by : {B : Type 0} → Option B → Reader B
kept_by None words = expected words
kept_by (Some b) words = Ok (b, words)

abbrev pub kept_with : {A B : Type 0} → (A → Option B) → Reader A → Reader B
kept_with keep read words = and_then (read words) (λ a rest. kept_by (keep a) rest)

module _ {I S : Type 0} (item : Reader I) (sign : Word → Option S) where
  -- signs with an item behind each; the number bounds them
  unfoldable pub tail_with : ℕ → Reader (List (S × I))
  tail_with zero words = Ok ([], words)
  tail_with (suc turns) words =
      elim (sign_at sign words) [
        | Some s ↦ and_then (item (drop 1 words)) (λ x rest. and_then (tail_with turns rest) (λ parts after. Ok ((s, x) ∷ parts, after)))
        | None ↦ Ok ([], words)
      ]

  unfoldable pub row_with : Reader (Row I S)
  row_with words = and_then (item words) (λ x rest. and_then (tail_with (length rest) rest) (λ parts after. Ok (record { first = x; rest = parts }, after)))

module _ {U : Type 0} (operand : Reader U) where
  abbrev pub product_with : Reader (ProductOf U)
  product_with = row_with operand multiplying

  abbrev pub sum_with : Reader (SumOf U)
  sum_with = row_with product_with adding

  unfoldable pub term_with : Reader (TermOf U)
  term_with words = and_then (sum_with words) (λ left rest.
      if is_next m.Dots rest then and_then (sum_with (drop 1 rest)) (λ right after. Ok (interval left right, after)) else Ok (alone left, rest))

  abbrev pub args_with : Reader (ArgsOf U)
  args_with = row_with term_with comma

-- what reads the operands inside, where a level is left
abbrev pub Level : Type 0 → Type 0 → Type 0
Level D R = Option (R × Reader D)

-- behind a word that opens a level
abbrev pub opened : {D R A : Type 0} → Level D R → (R × Reader D → Reader A) → Reader A
opened None read words = Err (TooDeep (suc (length words)))
opened (Some inner) read words = read inner words

module _ {D R : Type 0} where
  abbrev pub applied_with : List ℕ → R × Reader D → Reader (UnaryOf D R)
  applied_with name inner words = and_then (args_with inner.1 words) (λ args rest. before m.Close (atom (applied name args)) rest)

  abbrev pub negated_with : R × Reader D → Reader (UnaryOf D R)
  negated_with inner words = and_then (inner.1 words) (λ operand rest. Ok (negated operand, rest))

  -- behind `(`, a term and `,`
  unfoldable pub tuple_with : R × Reader D → TermOf D → Reader (UnaryOf D R)
  tuple_with inner t words =
      (if is_next m.Close words
      then Ok (single t, drop 1 words)
      else and_then (args_with inner.1 words) (λ args rest. before m.Close (tuple t args) rest))

  -- behind `(` and a term
  unfoldable pub group_with : R × Reader D → TermOf D → Reader (UnaryOf D R)
  group_with inner t words =
      (if is_next m.Close words
      then Ok (group t, drop 1 words)
      else (if is_next m.Comma words then tuple_with inner t (drop 1 words) else expected words))

  -- behind `(`
  unfoldable pub bracket_with : R × Reader D → Reader (UnaryOf D R)
  bracket_with inner words =
      (if is_next m.Close words
      then Ok (unit inner.0, drop 1 words)
      else and_then (term_with inner.1 words) (group_with inner))

  -- behind a name
  abbrev pub named_with : Level D R → List ℕ → Reader (UnaryOf D R)
  named_with level name words = (if is_next m.Open words then opened level (applied_with name) (drop 1 words) else Ok (atom (plain name), words))

  unfoldable pub unary_with : Level D R → Reader (UnaryOf D R)
  unary_with level (word.numeral n ∷ words) = Ok (number n, words)
  unary_with level (word.string bytes ∷ words) = Ok (text bytes, words)
  unary_with level (word.variable name ∷ words) = Ok (variable name, words)
  unary_with level (word.anonymous ∷ words) = Ok (anonymous, words)
  unary_with level (word.name name ∷ words) = named_with level name words
  unary_with level (word.mark m.Minus ∷ words) = opened level negated_with words
  unary_with level (word.mark m.Open ∷ words) = opened level bracket_with words
  unary_with level words = expected words

-- what reads the operands inside a level
abbrev pub level : (n : ℕ) → Level (Operand n) (Room n)
level zero = None
level (suc n) = Some (tt, unary_with (level n))

abbrev pub unary_at : (n : ℕ) → Reader (UnaryAt n)
unary_at n = unary_with (level n)

abbrev pub product_at : (n : ℕ) → Reader (ProductOf (UnaryAt n))
product_at n = product_with (unary_at n)

abbrev pub sum_at : (n : ℕ) → Reader (SumOf (UnaryAt n))
sum_at n = sum_with (unary_at n)

abbrev pub term_at : (n : ℕ) → Reader (TermAt n)
term_at n = term_with (unary_at n)

abbrev pub args_at : (n : ℕ) → Reader (ArgsAt n)
args_at n = args_with (unary_at n)
