-- A term that is printed with no blank in it stands apart: each word is a token, and the byte behind it does not join it.
use Rattle.std.specs.Prelude.{◌≡◌, refl, ℕ, zero, suc, Bool, true, false, ◌==◌, ◌||◌, List, [], ◌∷◌, ◌++◌}
use Rattle.std.specs.List.{AllByRecursion}
use Rattle.lexer.specs.Bytes.{is_digit, is_lower, is_upper, is_underscore, is_name_byte}
use Rattle.grammar.specs.declared.mark.Mark.TheVariants as m
use Rattle.grammar.specs.Word.{Word}
use Rattle.grammar.specs.Word as word
use Rattle.grammar.specs.WordText.{word_text}
use Rattle.grammar.specs.Standing.{IsToken, joins, StopsAt, Piece, solid, pieces_text, AreApart}
use Rattle.grammar.specs.Row.{row_words, tail_words}
use Rattle.grammar.specs.Term.{Adding, plus, minus, adding_word, Multiplying, times, divide, remainder, multiplying_word, comma_word, UnaryOf, alone, interval, plain, applied, negated, number, text, variable, anonymous, atom, unit, group, single, tuple, product_words, sum_words, term_words, args_words, atom_words, unary_words, operand_words}
use Rattle.grammar.specs.AllWords.{AllItems, AllTerm, AllArgs, AllAtom, AllUnary, AllOperand}
use Rattle.text_laws.proofs.Pieces.{solids}

-- ---- what comes next
stops_fewer : (test other : ℕ → Bool) → ((byte : ℕ) → test byte ≡ false → other byte ≡ false) → (bytes : List ℕ) → StopsAt test bytes → StopsAt other bytes
stops_fewer test other fewer [] h = tt
stops_fewer test other fewer (byte ∷ bytes) h = fewer byte h

never_joins : (test : ℕ → Bool) → ((byte : ℕ) → test byte ≡ false) → (bytes : List ℕ) → StopsAt test bytes
never_joins test never [] = tt
never_joins test never (byte ∷ bytes) = never byte

middle_false : (a b c d e : Bool) → (a || b || c || d || e) ≡ false → c ≡ false
middle_false a b false d e h = refl
middle_false true b true d e h = absurd cc
middle_false false true true d e h = absurd cc
middle_false false false true d e h = absurd cc

no_digit : (byte : ℕ) → is_name_byte byte ≡ false → is_digit byte ≡ false
no_digit byte h = middle_false (is_lower byte) (is_upper byte) (is_digit byte) (is_underscore byte) (byte == 39) h

-- the pieces are apart, and no byte of a name comes next
abbrev pub MayFollow : List Piece → Type 0
MayFollow pieces = StopsAt is_name_byte (pieces_text pieces) × AreApart pieces

-- a word that no byte of another kind joins stands before what may follow
word_apart : (w : Word) → ((byte : ℕ) → is_name_byte byte ≡ false → joins w byte ≡ false) → IsToken w → (pieces : List Piece) → MayFollow pieces → AreApart (solid w ∷ pieces)
word_apart w fewer is pieces h = (is, stops_fewer is_name_byte (joins w) fewer (pieces_text pieces) h.0, h.1)

pub numeral_apart : (n : ℕ) → IsToken (word.numeral n) → (pieces : List Piece) → MayFollow pieces → AreApart (solid (word.numeral n) ∷ pieces)
numeral_apart n = word_apart (word.numeral n) no_digit

pub name_apart : (name : List ℕ) → IsToken (word.name name) → (pieces : List Piece) → MayFollow pieces → AreApart (solid (word.name name) ∷ pieces)
name_apart name = word_apart (word.name name) (λ byte h. h)

-- a token that no byte joins, and that joins no name before it
pub record IsQuiet (w : Word) : Type 0 where
  pub token : IsToken w
  pub alone : (byte : ℕ) → joins w byte ≡ false
  pub stops : (bytes : List ℕ) → StopsAt is_name_byte (word_text w ++ bytes)

pub quiet_apart : (w : Word) → IsQuiet w → (pieces : List Piece) → AreApart pieces → AreApart (solid w ∷ pieces)
quiet_apart w quiet pieces h = (quiet.token, never_joins (joins w) quiet.alone (pieces_text pieces), h)

pub quiet_follows : (w : Word) → IsQuiet w → (pieces : List Piece) → AreApart pieces → MayFollow (solid w ∷ pieces)
quiet_follows w quiet pieces h = (quiet.stops (pieces_text pieces), quiet_apart w quiet pieces h)

pub comma_quiet : IsQuiet (word.mark m.Comma)
comma_quiet = record { token = (refl, refl); alone = λ byte. refl; stops = λ bytes. refl }

open_quiet : IsQuiet (word.mark m.Open)
open_quiet = record { token = (refl, refl); alone = λ byte. refl; stops = λ bytes. refl }

close_quiet : IsQuiet (word.mark m.Close)
close_quiet = record { token = (refl, refl); alone = λ byte. refl; stops = λ bytes. refl }

dots_quiet : IsQuiet (word.mark m.Dots)
dots_quiet = record { token = (refl, refl); alone = λ byte. refl; stops = λ bytes. refl }

adding_quiet : (sign : Adding) → IsQuiet (adding_word sign)
adding_quiet plus = record { token = (refl, refl); alone = λ byte. refl; stops = λ bytes. refl }
adding_quiet minus = record { token = (refl, refl); alone = λ byte. refl; stops = λ bytes. refl }

multiplying_quiet : (sign : Multiplying) → IsQuiet (multiplying_word sign)
multiplying_quiet times = record { token = (refl, refl); alone = λ byte. refl; stops = λ bytes. refl }
multiplying_quiet divide = record { token = (refl, refl); alone = λ byte. refl; stops = λ bytes. refl }
multiplying_quiet remainder = record { token = (refl, refl); alone = λ byte. refl; stops = λ bytes. refl }

-- ---- words with no blank between them, and pieces behind
module _ (behind : List Piece) where
  abbrev TightFollow : List Word → Type 0
  TightFollow words = MayFollow (solids words behind)

  abbrev TightApart : List Word → Type 0
  TightApart words = AreApart (solids words behind)

  -- the words of a form stand apart before what may follow
  abbrev pub KeepsApart : {A : Type 0} → (A → List Word → List Word) → (A → Type 0) → Type 0
  KeepsApart {A} words all = (a : A) (rest : List Word) → all a → MayFollow (solids rest behind) → AreApart (solids (words a rest) behind)

  quiet_tight : (w : Word) → IsQuiet w → (words : List Word) → TightApart words → TightFollow (w ∷ words)
  quiet_tight w quiet words h = quiet_follows w quiet (solids words behind) h

  module _ {I S : Type 0} (words : I → List Word → List Word) (sign : S → Word) (all : I → Type 0) (keeps : KeepsApart words all) (quiet : (s : S) → IsQuiet (sign s)) where
    tail_follows : (parts : List (S × I)) (rest : List Word) → AllByRecursion (λ (p : S × I). all p.1) parts → TightFollow rest → TightFollow (tail_words words sign parts rest)
    tail_follows [] rest h f = f
    tail_follows (part ∷ parts) rest h f =
        let after : List Word = tail_words words sign parts rest in
        quiet_tight (sign part.0) (quiet part.0) (words part.1 after) (keeps part.1 after h.0 (tail_follows parts rest h.1 f))

    row_apart : KeepsApart (row_words words sign) (AllItems all)
    row_apart row rest h f = keeps row.first (tail_words words sign row.rest rest) h.0 (tail_follows row.rest rest h.1 f)

  module _ {U : Type 0} (words : U → List Word → List Word) (all : U → Type 0) (keeps : KeepsApart words all) where
    sum_apart : KeepsApart (sum_words words) (AllItems (AllItems all))
    sum_apart = row_apart (product_words words) adding_word (AllItems all) (row_apart words multiplying_word all keeps multiplying_quiet) adding_quiet

    term_apart : KeepsApart (term_words words) (AllTerm all)
    term_apart (alone s) rest h f = sum_apart s rest h f
    term_apart (interval left right) rest h f =
        let after : List Word = sum_words words right rest in
        sum_apart left (word.mark m.Dots ∷ after) h.0 (quiet_tight (word.mark m.Dots) dots_quiet after (sum_apart right rest h.1 f))

    args_apart : KeepsApart (args_words words) (AllArgs all)
    args_apart = row_apart (term_words words) comma_word (AllTerm all) term_apart (λ sign. comma_quiet)

  module _ {D : Type 0} (words : D → List Word → List Word) (all : D → Type 0) (keeps : KeepsApart words all) where
    -- arguments, and the parenthesis behind them
    closed_apart : KeepsApart (λ args rest. args_words words args (word.mark m.Close ∷ rest)) (AllArgs all)
    closed_apart args rest h f = args_apart words all keeps args (word.mark m.Close ∷ rest) h (quiet_tight (word.mark m.Close) close_quiet rest f.1)

    atom_apart : KeepsApart (atom_words words) (AllAtom IsToken all)
    atom_apart (plain name) rest h f = name_apart name h (solids rest behind) f
    atom_apart (applied name args) rest h f =
        let inside : List Word = args_words words args (word.mark m.Close ∷ rest) in
        name_apart name h.0 (solids (word.mark m.Open ∷ inside) behind) (quiet_tight (word.mark m.Open) open_quiet inside (closed_apart args rest h.1 f))

    unary_apart : {R : Type 0} → KeepsApart {A = UnaryOf D R} (unary_words words) (AllUnary IsToken all)
    unary_apart (negated d) rest h f = (quiet_tight (word.mark m.Minus) (adding_quiet minus) (words d rest) (keeps d rest h f)).1
    unary_apart (number n) rest h f = numeral_apart n h (solids rest behind) f
    unary_apart (text bytes) rest h f = word_apart (word.string bytes) (λ byte k. refl) h (solids rest behind) f
    unary_apart (variable name) rest h f = word_apart (word.variable name) (λ byte k. k) h (solids rest behind) f
    unary_apart anonymous rest h f = word_apart word.anonymous (λ byte k. k) h (solids rest behind) f
    unary_apart (atom a) rest h f = atom_apart a rest h f
    unary_apart (unit room) rest h f =
        (quiet_tight (word.mark m.Open) open_quiet (word.mark m.Close ∷ rest) (quiet_tight (word.mark m.Close) close_quiet rest f.1).1).1
    unary_apart (group x) rest h f =
        let after : List Word = word.mark m.Close ∷ rest in
        (quiet_tight (word.mark m.Open) open_quiet (term_words words x after) (term_apart words all keeps x after h (quiet_tight (word.mark m.Close) close_quiet rest f.1))).1
    unary_apart (single x) rest h f =
        let last : List Word = word.mark m.Close ∷ rest in
        let after : List Word = word.mark m.Comma ∷ last in
        let closed : TightFollow last = quiet_tight (word.mark m.Close) close_quiet rest f.1 in
        (quiet_tight (word.mark m.Open) open_quiet (term_words words x after) (term_apart words all keeps x after h (quiet_tight (word.mark m.Comma) comma_quiet last closed.1))).1
    unary_apart (tuple x args) rest h f =
        let inside : List Word = args_words words args (word.mark m.Close ∷ rest) in
        let after : List Word = word.mark m.Comma ∷ inside in
        let follows : TightFollow after = quiet_tight (word.mark m.Comma) comma_quiet inside (closed_apart args rest h.1 f) in
        (quiet_tight (word.mark m.Open) open_quiet (term_words words x after) (term_apart words all keeps x after h.0 follows)).1

  operand_apart : (n : ℕ) → KeepsApart (operand_words n) (AllOperand IsToken n)
  operand_apart zero u rest h f = absurd u
  operand_apart (suc n) u rest h f = unary_apart (operand_words n) (AllOperand IsToken n) (operand_apart n) u rest h f

  pub terms_apart : (n : ℕ) → KeepsApart (term_words (operand_words n)) (AllTerm (AllOperand IsToken n))
  terms_apart n = term_apart (operand_words n) (AllOperand IsToken n) (operand_apart n)

  pub atoms_apart : (n : ℕ) → KeepsApart (atom_words (operand_words n)) (AllAtom IsToken (AllOperand IsToken n))
  atoms_apart n = atom_apart (operand_words n) (AllOperand IsToken n) (operand_apart n)
