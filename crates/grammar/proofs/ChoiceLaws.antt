-- The elements and the bounds of choices are lawful at every depth.
use Rattle.std.proofs.Common.{◌≡◌, ℕ, Bool, true, false, ◌||◌, ◌&&◌, List, Option, Some, None, refl, ap}
use Rattle.std.specs.Option.{is_some, is_none}
use Rattle.symbols.specs.declared.rel.Rel.{Rel}
use Rattle.symbols.specs.declared.rel.Rel.TheVariants as rel
use Rattle.grammar.specs.declared.mark.Mark.TheVariants as m
use Rattle.grammar.specs.Word.{Word, Ends, is_word}
use Rattle.grammar.specs.Word as word
use Rattle.grammar.specs.Parts.{maybe_words, marked_words, closed_words, signed_words, pair_words, maybe_goes_on}
use Rattle.grammar.specs.Row.{Row, row_words, last_item, row_goes_on}
use Rattle.grammar.specs.Term.{AtomAt, TermAt, Operand, Room, plain, applied, operand_words, atom_goes_on}
use Rattle.grammar.specs.Theory.{rel_word, relation, semicolon, semicolon_word, given_words}
use Rattle.grammar.specs.Statement.{ChosenOf, maybe_rel_words, right_words, chosen_words, chosens_words}
use Rattle.grammar.specs.Reading.{Reader, Either, one, other, starts_next, pair_with, marked_with, closed_with, mapped_with, signed_with, either_with, row_with, term_at, level}
use Rattle.grammar.specs.TheoryReading.{begins_term, is_name, is_relation, atom_with, compared_with, given_with}
use Rattle.grammar.specs.StatementReading.{begins_right, is_bounding, FreeOf, chosen_of, right_of, chosen_with, chosens_with, right_with, free_with, bounded_with}
use Rattle.grammar.proofs.Lawful.{Lawful, or_false, never_on}
use Rattle.grammar.proofs.Rows.{row_lawful}
use Rattle.grammar.proofs.TermLaws.{term_text, term_law}
use Rattle.grammar.proofs.Pairs.{Weak, weak_of, maybe_weak, pair_goes_on, pair_lawful}
use Rattle.grammar.proofs.Marked.{marked_lawful, closed_lawful, mapped_lawful}
use Rattle.grammar.proofs.KindLaws.{signed_lawful, either_words, either_goes_on, either_lawful, lawful_as, weak_as}
use Rattle.grammar.proofs.ConditionLaws.{relation_is, relation_only, Closing, next_as, next_more, atom_text, atom_starts, atom_law, term_on, term_closes, term_begins, compared_law}
use Rattle.grammar.proofs.ElementLaws.{maybe_nothing, semicolon_is, semicolon_only, Parting, GivenAt, given_on, given_law, given_closes, semicolon_parts, brace_parts}

term_not_relation : (w : Word) → begins_term w ≡ true → is_relation w ≡ false
term_not_relation (word.mark m.Minus) h = refl
term_not_relation (word.mark m.Open) h = refl
term_not_relation (word.mark _) h = absurd cc
term_not_relation word.negation h = refl
term_not_relation (word.numeral n) h = refl
term_not_relation (word.name bytes) h = refl
term_not_relation (word.variable bytes) h = refl
term_not_relation word.anonymous h = refl
term_not_relation (word.string bytes) h = refl
term_not_relation word.const_word h = refl
term_not_relation word.show_word h = refl

pub and_false : (a b : Bool) → b ≡ false → (a && b) ≡ false
and_false true b h = h
and_false false b h = refl

module _ (n : ℕ) where
  -- ---- elements
  abbrev pub ChosenAt : Type 0
  ChosenAt = ChosenOf (Operand n) (Room n)

  abbrev ChosenRow : Type 0
  ChosenRow = Row ChosenAt (Unit {0})

  abbrev Chosens : Type 0
  Chosens = Option ChosenRow

  abbrev chosen_parts : ChosenAt → AtomAt n × GivenAt n
  chosen_parts e = (e.atom, e.condition)

  given_apart : (a : AtomAt n) (g : GivenAt n) (rest : List Word) → is_none g ≡ false → Ends (atom_goes_on a) (given_words (operand_words n) g rest)
  given_apart a None rest h = absurd cc
  given_apart (plain name) (Some g) rest h = refl
  given_apart (applied name args) (Some g) rest h = refl

  abbrev chosen_parts_on : AtomAt n × GivenAt n → Word → Bool
  chosen_parts_on = pair_goes_on atom_goes_on (given_on n) is_none

  abbrev chosen_parts_words : AtomAt n × GivenAt n → List Word → List Word
  chosen_parts_words = pair_words (atom_text n) (given_words (operand_words n))

  chosen_parts_law : Lawful chosen_parts_words chosen_parts_on (pair_with (atom_with (level n)) (given_with (level n)))
  chosen_parts_law =
      pair_lawful (atom_text n) atom_goes_on (atom_with (level n)) (weak_of (atom_text n) atom_goes_on (atom_with (level n)) (atom_law n)) (given_words (operand_words n)) (given_on n) (given_with (level n)) (given_law n) is_none None
      (λ g rest h. maybe_nothing _ g rest h) given_apart (atom_law n).some

  abbrev pub chosen_on : ChosenAt → Word → Bool
  chosen_on e next = chosen_parts_on (chosen_parts e) next

  pub chosen_law : Lawful (chosen_words (operand_words n)) chosen_on (chosen_with (level n))
  chosen_law = mapped_lawful chosen_parts_words chosen_parts_on (pair_with (atom_with (level n)) (given_with (level n))) chosen_parts_law chosen_of chosen_parts (λ e. refl) (λ p. refl)

  atom_closes : (a : AtomAt n) (w : Word) → Closing w → atom_goes_on a w ≡ false
  atom_closes (plain name) w c = c.opens
  atom_closes (applied name args) w c = refl

  chosen_closes : (e : ChosenAt) (w : Word) → Parting w → chosen_on e w ≡ false
  chosen_closes e w c = or_false (given_on n e.condition w) (is_none e.condition && atom_goes_on e.atom w) (given_closes n e.condition w c) (and_false (is_none e.condition) (atom_goes_on e.atom w) (atom_closes e.atom w c.closing))

  abbrev chosen_row_on : ChosenRow → Word → Bool
  chosen_row_on = row_goes_on chosen_on semicolon

  chosen_row_law : Lawful (row_words (chosen_words (operand_words n)) semicolon_word) chosen_row_on (row_with (chosen_with (level n)) semicolon)
  chosen_row_law = row_lawful (chosen_words (operand_words n)) chosen_on (chosen_with (level n)) chosen_law semicolon_word semicolon semicolon_is semicolon_only (λ e s. chosen_closes e (word.mark m.Semicolon) (semicolon_parts n))

  abbrev pub chosens_on : Chosens → Word → Bool
  chosens_on = maybe_goes_on is_name chosen_row_on

  pub chosens_law : Weak (chosens_words (operand_words n)) chosens_on (chosens_with (level n))
  chosens_law =
      weak_as (maybe_words (row_words (chosen_words (operand_words n)) semicolon_word)) (chosens_words (operand_words n)) chosens_on (chosens_with (level n)) same
      (maybe_weak (row_words (chosen_words (operand_words n)) semicolon_word) chosen_row_on (row_with (chosen_with (level n)) semicolon) chosen_row_law is_name (λ row rest. atom_starts n row.first.atom _))
    where
      same : (o : Chosens) (rest : List Word) → maybe_words (row_words (chosen_words (operand_words n)) semicolon_word) o rest ≡ chosens_words (operand_words n) o rest
      same None rest = refl
      same (Some row) rest = refl

  chosens_close : (o : Chosens) → chosens_on o (word.mark m.CloseBrace) ≡ false
  chosens_close None = refl
  chosens_close (Some row) = or_false (chosen_on (last_item row.first row.rest) (word.mark m.CloseBrace)) false (chosen_closes (last_item row.first row.rest) (word.mark m.CloseBrace) (brace_parts n)) refl

  -- ---- in braces
  abbrev braces_on : Chosens → Word → Bool
  braces_on o next = false

  abbrev closed_text : Chosens → List Word → List Word
  closed_text = closed_words m.CloseBrace (chosens_words (operand_words n))

  abbrev closed_read : Reader Chosens
  closed_read = closed_with m.CloseBrace (chosens_with (level n))

  closed_law : Lawful closed_text braces_on closed_read
  closed_law = closed_lawful (chosens_words (operand_words n)) chosens_on (chosens_with (level n)) chosens_law m.CloseBrace chosens_close

  abbrev braces_text : Chosens → List Word → List Word
  braces_text = marked_words m.OpenBrace closed_text

  abbrev braces_read : Reader Chosens
  braces_read = marked_with m.OpenBrace closed_read

  pub braces_law : Lawful braces_text braces_on braces_read
  braces_law = marked_lawful closed_text braces_on closed_read (weak_of closed_text braces_on closed_read closed_law) m.OpenBrace None

  -- ---- right bounds
  abbrev Sided : Type 0
  Sided = Either (Rel × TermAt n) (TermAt n)

  abbrev Bound : Type 0
  Bound = Option Rel × TermAt n

  abbrev sided_words : Sided → List Word → List Word
  sided_words = either_words (signed_words rel_word (term_text n)) (term_text n)

  abbrev sided_on : Sided → Word → Bool
  sided_on = either_goes_on (λ p. term_on n p.1) (term_on n)

  abbrev sided_read : Reader Sided
  sided_read = either_with is_relation (compared_with (level n)) (term_at n)

  sided_law : Lawful sided_words sided_on sided_read
  sided_law =
      either_lawful (signed_words rel_word (term_text n)) (λ p. term_on n p.1) (compared_with (level n)) (compared_law n) (term_text n) (term_on n) (term_at n) (term_law n) is_relation (λ p rest. ap is_some (relation_is p.0))
      (λ t rest. next_as begins_term is_relation term_not_relation (term_text n t rest) (term_begins n t rest))

  abbrev pub bound_words : Bound → List Word → List Word
  bound_words b rest = maybe_rel_words b.0 (term_text n b.1 rest)

  abbrev pub bound_on : Bound → Word → Bool
  bound_on b next = term_on n b.1 next

  abbrev bound_parts : Bound → Sided
  bound_parts (Some r, t) = one (r, t)
  bound_parts (None, t) = other t

  of_bound_parts : (b : Bound) → right_of (bound_parts b) ≡ b
  of_bound_parts (Some r, t) = refl
  of_bound_parts (None, t) = refl

  bound_parts_are : (p : Sided) → bound_parts (right_of p) ≡ p
  bound_parts_are (one p) = refl
  bound_parts_are (other t) = refl

  pub bound_law : Lawful bound_words bound_on (mapped_with right_of sided_read)
  bound_law = lawful_as _ bound_words _ bound_on (mapped_with right_of sided_read) same ends (mapped_lawful sided_words sided_on sided_read sided_law right_of bound_parts of_bound_parts bound_parts_are)
    where
      same : (b : Bound) (rest : List Word) → sided_words (bound_parts b) rest ≡ bound_words b rest
      same (Some r, t) rest = refl
      same (None, t) rest = refl

      ends : (b : Bound) (w : Word) → sided_on (bound_parts b) w ≡ bound_on b w
      ends (Some r, t) w = refl
      ends (None, t) w = refl

  bound_begins : (b : Bound) (rest : List Word) → starts_next begins_right (bound_words b rest) ≡ true
  bound_begins (Some r, t) rest = ap (λ z. z || begins_term (rel_word r)) (ap is_some (relation_is r))
  bound_begins (None, t) rest = next_more begins_term is_relation (term_text n t rest) (term_begins n t rest)

  abbrev pub right_on : Option Bound → Word → Bool
  right_on = maybe_goes_on begins_right bound_on

  pub right_law : Weak (right_words (operand_words n)) right_on (right_with (level n))
  right_law =
      weak_as (maybe_words bound_words) (right_words (operand_words n)) right_on (right_with (level n)) same (maybe_weak bound_words bound_on (mapped_with right_of sided_read) bound_law begins_right bound_begins)
    where
      same : (o : Option Bound) (rest : List Word) → maybe_words bound_words o rest ≡ right_words (operand_words n) o rest
      same None rest = refl
      same (Some b) rest = refl

  right_closes : (o : Option Bound) (w : Word) → Closing w → begins_right w ≡ false → right_on o w ≡ false
  right_closes None w c h = h
  right_closes (Some b) w c h = term_closes n b.1 w c

  right_nothing : (o : Option Bound) (rest : List Word) → is_none o ≡ true → right_words (operand_words n) o rest ≡ rest
  right_nothing None rest h = refl
  right_nothing (Some b) rest h = absurd cc

  -- ---- a choice from its opening brace on
  abbrev pub FreeAt : Type 0
  FreeAt = FreeOf (Operand n) (Room n)

  abbrev pub free_words : FreeAt → List Word → List Word
  free_words = pair_words braces_text (right_words (operand_words n))

  abbrev pub free_on : FreeAt → Word → Bool
  free_on = pair_goes_on braces_on right_on is_none

  pub free_law : Lawful free_words free_on (free_with (level n))
  free_law =
      pair_lawful braces_text braces_on braces_read (weak_of braces_text braces_on braces_read braces_law) (right_words (operand_words n)) right_on (right_with (level n)) right_law is_none None right_nothing
      (λ b o rest h. never_on (right_words (operand_words n) o rest)) braces_law.some

  pub free_closes : (f : FreeAt) (w : Word) → Closing w → begins_right w ≡ false → free_on f w ≡ false
  free_closes f w c h = or_false (right_on f.1 w) (is_none f.1 && false) (right_closes f.1 w c h) (and_false (is_none f.1) false refl)

  -- ---- what stands behind a left bound
  abbrev pub BoundedAt : Type 0
  BoundedAt = Either (Rel × FreeAt) FreeAt

  abbrev signed_on : Rel × FreeAt → Word → Bool
  signed_on p = free_on p.1

  signed_law : Lawful (signed_words rel_word free_words) signed_on (signed_with relation (free_with (level n)))
  signed_law = signed_lawful rel_word relation relation_is relation_only free_words free_on (free_with (level n)) free_law (rel.Equal, (None, None))

  abbrev pub bounded_words : BoundedAt → List Word → List Word
  bounded_words = either_words (signed_words rel_word free_words) free_words

  abbrev pub bounded_on : BoundedAt → Word → Bool
  bounded_on = either_goes_on signed_on free_on

  pub bounded_law : Lawful bounded_words bounded_on (bounded_with (level n))
  bounded_law =
      either_lawful (signed_words rel_word free_words) signed_on (signed_with relation (free_with (level n))) signed_law free_words free_on (free_with (level n)) free_law is_relation (λ p rest. ap is_some (relation_is p.0)) (λ f rest. refl)

  pub bounded_begins : (b : BoundedAt) (rest : List Word) → starts_next is_bounding (bounded_words b rest) ≡ true
  bounded_begins (one p) rest = ap (λ z. z || is_word m.OpenBrace (rel_word p.0)) (ap is_some (relation_is p.0))
  bounded_begins (other f) rest = refl
