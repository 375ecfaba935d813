-- Literals and bodies are lawful at every depth.
use Rattle.std.proofs.Common.{◌≡◌, ℕ, Bool, true, false, List, [], Option, Some, None, refl, ap}
use Rattle.std.specs.Option.{is_some}
use Rattle.grammar.specs.declared.mark.Mark.TheVariants as m
use Rattle.symbols.specs.declared.rel.Rel.{Rel}
use Rattle.grammar.specs.Word.{Word, is_word}
use Rattle.grammar.specs.Word as word
use Rattle.grammar.specs.Parts.{maybe_words, signed_words, maybe_goes_on}
use Rattle.grammar.specs.Row.{row_words, last_item, row_goes_on}
use Rattle.grammar.specs.Term.{AtomAt, TermAt, Operand, Room, plain, operand_words, operand_goes_on, atom_goes_on}
use Rattle.grammar.specs.Theory.{TheoryAt, holds, compares, relation, condition_words, guard_goes_on}
use Rattle.grammar.specs.Statement.{LiteralOf, simple, theory, Separating, by_comma, by_semicolon, separating, separating_word, BodyOf, literal_words, body_words}
use Rattle.grammar.specs.Reading.{Reader, Either, one, other, starts_next, either_with, row_with, level}
use Rattle.grammar.specs.TheoryReading.{begins, begins_term, is_name, is_negation, negation, PlainOf, atom_with, plain_with, theory_at}
use Rattle.grammar.specs.StatementReading.{begins_literal, literal_of, behind_not_with, literal_with, body_with}
use Rattle.grammar.proofs.Lawful.{Lawful, or_false}
use Rattle.grammar.proofs.Rows.{row_lawful}
use Rattle.grammar.proofs.Pairs.{Weak, maybe_weak}
use Rattle.grammar.proofs.Marked.{mapped_lawful}
use Rattle.grammar.proofs.KindLaws.{signed_lawful, either_words, either_goes_on, either_lawful, lawful_as, weak_as}
use Rattle.grammar.proofs.ConditionLaws.{negation_word, negation_is, negation_only, Closing, next_as, next_more, atom_text, atom_starts, atom_law, term_closes, sides_words, sides_on, sides_of, sides_begin, not_denied, plain_law, condition_on, condition_closes, condition_begins}
use Rattle.grammar.proofs.ElementLaws.{theory_text, theory_on, theory_law}
use Rattle.grammar.proofs.SignLaws.{separating_is, separating_only}

name_not_and : (w : Word) → is_name w ≡ true → is_word m.And w ≡ false
name_not_and (word.name bytes) h = refl
name_not_and _ h = absurd cc

pub term_not_and : (w : Word) → begins_term w ≡ true → is_word m.And w ≡ false
term_not_and (word.mark m.Minus) h = refl
term_not_and (word.mark m.Open) h = refl
term_not_and (word.mark _) h = absurd cc
term_not_and word.negation h = refl
term_not_and (word.numeral n) h = refl
term_not_and (word.name bytes) h = refl
term_not_and (word.variable bytes) h = refl
term_not_and word.anonymous h = refl
term_not_and (word.string bytes) h = refl
term_not_and word.const_word h = refl
term_not_and word.show_word h = refl

module _ (n : ℕ) where
  abbrev PlainAt : Type 0
  PlainAt = PlainOf (Operand n) (Room n)

  abbrev Deniable : Type 0
  Deniable = Either (TheoryAt n) (AtomAt n)

  abbrev Positive : Type 0
  Positive = Either (TheoryAt n) PlainAt

  abbrev plain_text : PlainAt → List Word → List Word
  plain_text b = sides_words n (sides_of n b)

  abbrev plain_on : PlainAt → Word → Bool
  plain_on b = sides_on n (sides_of n b)

  -- ---- behind `not`
  abbrev pub deniable_words : Deniable → List Word → List Word
  deniable_words = either_words (theory_text n) (atom_text n)

  abbrev pub deniable_on : Deniable → Word → Bool
  deniable_on = either_goes_on (theory_on n) atom_goes_on

  abbrev pub deniable_read : Reader Deniable
  deniable_read = either_with (is_word m.And) (theory_at n) (atom_with (level n))

  pub deniable_law : Lawful deniable_words deniable_on deniable_read
  deniable_law =
      either_lawful (theory_text n) (theory_on n) (theory_at n) (theory_law n) (atom_text n) atom_goes_on (atom_with (level n)) (atom_law n) (is_word m.And) (λ t rest. refl)
      (λ a rest. next_as is_name (is_word m.And) name_not_and (atom_text n a rest) (atom_starts n a rest))

  abbrev behind_not_on : Unit {0} × Deniable → Word → Bool
  behind_not_on p = deniable_on p.1

  pub behind_not_law : Lawful (signed_words negation_word deniable_words) behind_not_on (behind_not_with (level n))
  behind_not_law = signed_lawful negation_word negation negation_is negation_only deniable_words deniable_on deniable_read deniable_law (tt, other (plain []))

  -- ---- without `not`
  abbrev pub positive_words : Positive → List Word → List Word
  positive_words = either_words (theory_text n) plain_text

  abbrev pub positive_on : Positive → Word → Bool
  positive_on = either_goes_on (theory_on n) plain_on

  abbrev pub positive_read : Reader Positive
  positive_read = either_with (is_word m.And) (theory_at n) (plain_with (level n))

  pub positive_law : Lawful positive_words positive_on positive_read
  positive_law =
      either_lawful (theory_text n) (theory_on n) (theory_at n) (theory_law n) plain_text plain_on (plain_with (level n)) (plain_law n) (is_word m.And) (λ t rest. refl)
      (λ b rest. next_as begins_term (is_word m.And) term_not_and (plain_text b rest) (sides_begin n (sides_of n b) rest))

  not_behind : (p : Positive) (rest : List Word) → starts_next is_negation (positive_words p rest) ≡ false
  not_behind (one t) rest = refl
  not_behind (other b) rest = not_denied n b rest

  -- ---- literals
  abbrev pub LiteralAt : Type 0
  LiteralAt = LiteralOf (Operand n) (Room n)

  abbrev Kinds : Type 0
  Kinds = Either (Unit {0} × Deniable) Positive

  abbrev kinds_words : Kinds → List Word → List Word
  kinds_words = either_words (signed_words negation_word deniable_words) positive_words

  abbrev kinds_on : Kinds → Word → Bool
  kinds_on = either_goes_on behind_not_on positive_on

  abbrev pub literal_parts : LiteralAt → Kinds
  literal_parts (theory false t) = one (tt, one t)
  literal_parts (theory true t) = other (one t)
  literal_parts (simple (holds false a)) = one (tt, other a)
  literal_parts (simple (holds true a)) = other (other (one a))
  literal_parts (simple (compares l r u)) = other (other (other (l, (r, u))))

  of_literal_parts : (l : LiteralAt) → literal_of (literal_parts l) ≡ l
  of_literal_parts (theory false t) = refl
  of_literal_parts (theory true t) = refl
  of_literal_parts (simple (holds false a)) = refl
  of_literal_parts (simple (holds true a)) = refl
  of_literal_parts (simple (compares l r u)) = refl

  literal_parts_are : (p : Kinds) → literal_parts (literal_of p) ≡ p
  literal_parts_are (one (s, one t)) = refl
  literal_parts_are (one (s, other a)) = refl
  literal_parts_are (other (one t)) = refl
  literal_parts_are (other (other (one a))) = refl
  literal_parts_are (other (other (other sides))) = refl

  abbrev pub literal_on : LiteralAt → Word → Bool
  literal_on (simple c) next = condition_on n c next
  literal_on (theory positive t) next = theory_on n t next

  pub literal_law : Lawful (literal_words (operand_words n)) literal_on (literal_with (level n))
  literal_law =
      lawful_as _ (literal_words (operand_words n)) _ literal_on (literal_with (level n)) same ends
      (mapped_lawful kinds_words kinds_on _ (either_lawful (signed_words negation_word deniable_words) behind_not_on (behind_not_with (level n)) behind_not_law positive_words positive_on positive_read positive_law is_negation (λ a rest. refl) not_behind)
      literal_of literal_parts of_literal_parts literal_parts_are)
    where
      same : (l : LiteralAt) (rest : List Word) → kinds_words (literal_parts l) rest ≡ literal_words (operand_words n) l rest
      same (theory false t) rest = refl
      same (theory true t) rest = refl
      same (simple (holds false a)) rest = refl
      same (simple (holds true a)) rest = refl
      same (simple (compares l r u)) rest = refl

      ends : (l : LiteralAt) (w : Word) → kinds_on (literal_parts l) w ≡ literal_on l w
      ends (theory false t) w = refl
      ends (theory true t) w = refl
      ends (simple (holds false a)) w = refl
      ends (simple (holds true a)) w = refl
      ends (simple (compares l r u)) w = refl

  -- ---- words with which no literal goes on
  pub theory_closes : (t : TheoryAt n) (w : Word) → Closing w → relation w ≡ None → theory_on n t w ≡ false
  theory_closes t w c h = by t.guard
    where
      by : (g : Option (Rel × TermAt n)) → guard_goes_on (operand_goes_on n) g w ≡ false
      by None = ap is_some h
      by (Some guard) = term_closes n guard.1 w c

  pub literal_closes : (l : LiteralAt) (w : Word) → Closing w → relation w ≡ None → literal_on l w ≡ false
  literal_closes (simple c) w k h = condition_closes n c w k h
  literal_closes (theory positive t) w k h = theory_closes t w k h

  pub literal_begins : (l : LiteralAt) (rest : List Word) → starts_next begins_literal (literal_words (operand_words n) l rest) ≡ true
  literal_begins (theory false t) rest = refl
  literal_begins (theory true t) rest = refl
  literal_begins (simple c) rest = next_more begins (is_word m.And) (condition_words (operand_words n) c rest) (condition_begins n c rest)

  -- ---- bodies
  abbrev BodyAt : Type 0
  BodyAt = BodyOf (Operand n) (Room n)

  abbrev pub Bodies : Type 0
  Bodies = Option BodyAt

  abbrev pub row_on : BodyAt → Word → Bool
  row_on = row_goes_on literal_on separating

  separated : (l : LiteralAt) (s : Separating) → literal_on l (separating_word s) ≡ false
  separated l by_comma = literal_closes l (word.mark m.Comma) (record { opens = refl; multiply = refl; add = refl; dots = refl }) refl
  separated l by_semicolon = literal_closes l (word.mark m.Semicolon) (record { opens = refl; multiply = refl; add = refl; dots = refl }) refl

  pub literals_law : Lawful (row_words (literal_words (operand_words n)) separating_word) row_on (row_with (literal_with (level n)) separating)
  literals_law = row_lawful (literal_words (operand_words n)) literal_on (literal_with (level n)) literal_law separating_word separating separating_is separating_only separated

  abbrev pub body_on : Bodies → Word → Bool
  body_on = maybe_goes_on begins_literal row_on

  pub body_law : Weak (body_words (operand_words n)) body_on (body_with (level n))
  body_law =
      weak_as (maybe_words (row_words (literal_words (operand_words n)) separating_word)) (body_words (operand_words n)) body_on (body_with (level n)) same
      (maybe_weak (row_words (literal_words (operand_words n)) separating_word) row_on (row_with (literal_with (level n)) separating) literals_law begins_literal (λ row rest. literal_begins row.first _))
    where
      same : (o : Bodies) (rest : List Word) → maybe_words (row_words (literal_words (operand_words n)) separating_word) o rest ≡ body_words (operand_words n) o rest
      same None rest = refl
      same (Some body) rest = refl

  pub body_closes : (o : Bodies) (w : Word) → Closing w → relation w ≡ None → begins_literal w ≡ false → separating w ≡ None → body_on o w ≡ false
  body_closes None w c h b s = b
  body_closes (Some row) w c h b s = or_false (literal_on (last_item row.first row.rest) w) (is_some (separating w)) (literal_closes (last_item row.first row.rest) w c h) (ap is_some s)
