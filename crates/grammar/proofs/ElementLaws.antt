-- Elements of theory atoms, and theory atoms, are lawful at every depth.
use Rattle.std.proofs.Common.{◌≡◌, ℕ, Bool, true, false, ◌||◌, ◌&&◌, List, [], ◌∷◌, length, Option, Some, None, refl, sym, ◌∙◌, ap, if◌then◌else◌, Ok, Err, arith}
use Rattle.std.specs.Option.{is_some, is_none}
use Rattle.symbols.specs.declared.rel.Rel.{Rel}
use Rattle.grammar.specs.declared.mark.Mark.TheVariants as m
use Rattle.grammar.specs.Word.{Word, Ends, is_word}
use Rattle.grammar.specs.Word as word
use Rattle.grammar.specs.Parts.{maybe_words, marked_words, closed_words, pair_words, maybe_goes_on}
use Rattle.grammar.specs.Row.{Row, row_words, last_item}
use Rattle.grammar.specs.Term.{TermAt, Operand, Room, comma, comma_word, operand_words, operand_goes_on, args_words, args_go_on}
use Rattle.grammar.specs.Theory.{ConditionOf, PlacesOf, GivenOf, ElementOf, TheoryAt, relation, semicolon, semicolon_word, condition_words, given_words, duration_words, places_words, element_words, elements_words, guard_words, theory_words, theory_goes_on}
use Rattle.grammar.specs.Reading.{Fault, Reader, pair_with, marked_with, closed_with, maybe_with, row_with, unary_at, term_at, args_at, level}
use Rattle.grammar.specs.TheoryReading.{begins, begins_term, name_with, conditions_with, given_with, duration_with, places_with, element_parts, element_of, element_with, elements_with, braces_with, guard_with, theory_of, theory_at}
use Rattle.grammar.proofs.WordLemmas.{the_word}
use Rattle.grammar.proofs.Lawful.{left, Refuses, Lawful, ok_parts, expected_left, or_false, never_on}
use Rattle.grammar.proofs.Rows.{row_lawful}
use Rattle.grammar.proofs.Terms.{args_only}
use Rattle.grammar.proofs.Levels.{operand_lawful, operand_only}
use Rattle.grammar.proofs.TermLaws.{unary_text, unary_on, term_text, term_law, args_law}
use Rattle.grammar.proofs.Pairs.{Weak, weak_of, maybe_weak, pair_goes_on, pair_weak, pair_lawful}
use Rattle.grammar.proofs.Marked.{marked_lawful, closed_lawful, mapped_lawful}
use Rattle.grammar.proofs.KindLaws.{lawful_as}
use Rattle.grammar.proofs.ConditionLaws.{Closing, term_on, term_closes, term_begins, some_term, right_on, right_law, condition_on, condition_closes, condition_begins, conditions_law}

pub semicolon_is : (s : Unit {0}) → semicolon (semicolon_word s) ≡ Some s
semicolon_is s = refl

pub semicolon_only : (w : Word) (s : Unit {0}) → semicolon w ≡ Some s → w ≡ semicolon_word s
semicolon_only w s h = by (is_word m.Semicolon w) refl h
  where
    by : (p : Bool) → is_word m.Semicolon w ≡ p → (if p then Some tt else None) ≡ Some s → w ≡ semicolon_word s
    by true p h = the_word m.Semicolon w p
    by false p h = absurd cc

-- ---- a form that may be missing has no words where it is
pub maybe_nothing : {A : Type 0} (words : A → List Word → List Word) (o : Option A) (rest : List Word) → is_none o ≡ true → maybe_words words o rest ≡ rest
maybe_nothing words None rest h = refl
maybe_nothing words (Some a) rest h = absurd cc

-- ---- names
abbrev pub name_words : List ℕ → List Word → List Word
name_words name rest = word.name name ∷ rest

abbrev pub name_on : List ℕ → Word → Bool
name_on name next = false

name_sound : (ts : List Word) (name : List ℕ) (rest : List Word) → name_with ts ≡ Ok (name, rest) → (ts ≡ name_words name rest) × Ends (name_on name) rest
name_sound [] name rest h = absurd cc
name_sound (word.name other ∷ ts) name rest h = let p = ok_parts other name ts rest h in (ap (λ z. word.name z ∷ ts) p.0 ∙ ap (λ z. word.name name ∷ z) p.1, never_on rest)
name_sound (_ ∷ ts) name rest h = absurd cc

no_name : (ts : List Word) (f : Fault) → name_with ts ≡ Err f → left f ≡ length ts
no_name [] f h = expected_left {A = List ℕ} [] f h
no_name (word.name other ∷ ts) f h = absurd cc
no_name (w ∷ ts) f h = expected_left {A = List ℕ} (w ∷ ts) f h

name_refuses : (x : Word) (r : List Word) (f : Fault) (next : List Word) → name_with (x ∷ r) ≡ Err f → Refuses name_with (x ∷ next)
name_refuses (word.name other) r f next h y k = absurd cc
name_refuses _ r f next h y k = absurd cc

pub name_law : Lawful name_words name_on name_with
name_law = record {
  parted = λ name x y. refl;
  some = λ name rest. omega arith;
  sound = name_sound;
  complete = λ name rest h. refl;
  stuck = λ ts f h. record {
    front = [];
    after = ts;
    split = refl;
    place = no_name ts f h;
    goes = [];
    more = word.name [] ∷ [];
    begins = refl;
    local = λ x r next e. name_refuses x r f next (sym (ap name_with e) ∙ h);
  };
}

-- ---- words with which no element goes on
pub record Parting (w : Word) : Type 0 where
  pub closing : Closing w
  pub at : is_word m.At w ≡ false
  pub comma_none : is_word m.Comma w ≡ false
  pub colon : is_word m.Colon w ≡ false
  pub begin : begins w ≡ false
  pub relates : relation w ≡ None
  pub signs : comma w ≡ None

module _ (n : ℕ) where
  abbrev Full : Type 0
  Full = TermAt n

  abbrev pub GivenAt : Type 0
  GivenAt = GivenOf (Operand n) (Room n)

  abbrev pub PlacesAt : Type 0
  PlacesAt = PlacesOf (Operand n) (Room n)

  abbrev pub ElementAt : Type 0
  ElementAt = ElementOf (Operand n) (Room n)

  -- ---- conditions behind a colon
  abbrev Conditions : Type 0
  Conditions = Row (ConditionOf (Operand n) (Room n)) (Unit {0})

  abbrev conditions_words : Conditions → List Word → List Word
  conditions_words = row_words (condition_words (operand_words n)) comma_word

  abbrev pub conditions_on : Conditions → Word → Bool
  conditions_on row w = condition_on n (last_item row.first row.rest) w || is_some (comma w)

  pub held_law : Weak (maybe_words conditions_words) (maybe_goes_on begins conditions_on) (maybe_with begins (conditions_with (level n)))
  held_law = maybe_weak conditions_words conditions_on (conditions_with (level n)) (conditions_law n) begins (λ row rest. condition_begins n row.first _)

  abbrev pub given_on : GivenAt → Word → Bool
  given_on = maybe_goes_on (is_word m.Colon) (maybe_goes_on begins conditions_on)

  pub colon_law : Lawful (marked_words m.Colon (maybe_words conditions_words)) (maybe_goes_on begins conditions_on) (marked_with m.Colon (maybe_with begins (conditions_with (level n))))
  colon_law = marked_lawful (maybe_words conditions_words) (maybe_goes_on begins conditions_on) (maybe_with begins (conditions_with (level n))) held_law m.Colon None

  pub given_law : Weak (given_words (operand_words n)) given_on (given_with (level n))
  given_law =
      maybe_weak (marked_words m.Colon (maybe_words conditions_words)) (maybe_goes_on begins conditions_on) (marked_with m.Colon (maybe_with begins (conditions_with (level n)))) colon_law
      (is_word m.Colon) (λ o rest. refl)

  pub given_closes : (g : GivenAt) (w : Word) → Parting w → given_on g w ≡ false
  given_closes None w c = c.colon
  given_closes (Some None) w c = c.begin
  given_closes (Some (Some row)) w c = or_false (condition_on n (last_item row.first row.rest) w) (is_some (comma w)) (condition_closes n (last_item row.first row.rest) w c.closing c.relates) (ap is_some c.signs)

  -- ---- durations and further places
  abbrev pub duration_on : Option Full → Word → Bool
  duration_on = maybe_goes_on (is_word m.At) (term_on n)

  term_weak : Weak (term_text n) (term_on n) (term_at n)
  term_weak = weak_of (term_text n) (term_on n) (term_at n) (term_law n)

  pub at_law : Lawful (marked_words m.At (term_text n)) (term_on n) (marked_with m.At (term_at n))
  at_law = marked_lawful (term_text n) (term_on n) (term_at n) term_weak m.At (some_term n)

  pub duration_law : Weak (duration_words (operand_words n)) duration_on (duration_with (level n))
  duration_law = maybe_weak (marked_words m.At (term_text n)) (term_on n) (marked_with m.At (term_at n)) at_law (is_word m.At) (λ t rest. refl)

  abbrev pub row_on : PlacesAt → Word → Bool
  row_on = args_go_on (unary_on n)

  abbrev pub places_on : Option PlacesAt → Word → Bool
  places_on = maybe_goes_on (is_word m.Comma) row_on

  pub comma_law : Lawful (marked_words m.Comma (args_words (unary_text n))) row_on (marked_with m.Comma (args_at n))
  comma_law = marked_lawful (args_words (unary_text n)) row_on (args_at n) (weak_of (args_words (unary_text n)) row_on (args_at n) (args_law n)) m.Comma (record { first = some_term n; rest = [] })

  pub places_law : Weak (places_words (operand_words n)) places_on (places_with (level n))
  places_law = maybe_weak (marked_words m.Comma (args_words (unary_text n))) row_on (marked_with m.Comma (args_at n)) comma_law (is_word m.Comma) (λ row rest. refl)

  row_closes : (row : PlacesAt) (w : Word) → Closing w → comma w ≡ None → row_on row w ≡ false
  row_closes row w c h = args_only (unary_text n) (unary_on n) (unary_at n) (operand_lawful n) (operand_only n) row w c.opens c.multiply c.add c.dots h

  -- ---- elements, part by part
  colon_closing : Closing (word.mark m.Colon)
  colon_closing = record { opens = refl; multiply = refl; add = refl; dots = refl }

  comma_closing : Closing (word.mark m.Comma)
  comma_closing = record { opens = refl; multiply = refl; add = refl; dots = refl }

  at_closing : Closing (word.mark m.At)
  at_closing = record { opens = refl; multiply = refl; add = refl; dots = refl }

  places_apart : (p : Option PlacesAt) (g : GivenAt) (rest : List Word) → is_none g ≡ false → Ends (places_on p) (given_words (operand_words n) g rest)
  places_apart p None rest h = absurd cc
  places_apart None (Some g) rest h = refl
  places_apart (Some row) (Some g) rest h = row_closes row (word.mark m.Colon) colon_closing refl

  abbrev pub Tail : Type 0
  Tail = Option PlacesAt × GivenAt

  abbrev pub tail_words : Tail → List Word → List Word
  tail_words = pair_words (places_words (operand_words n)) (given_words (operand_words n))

  abbrev pub tail_on : Tail → Word → Bool
  tail_on = pair_goes_on places_on given_on is_none

  abbrev pub tail_read : Reader Tail
  tail_read = pair_with (places_with (level n)) (given_with (level n))

  pub tail_law : Weak tail_words tail_on tail_read
  tail_law =
      pair_weak (places_words (operand_words n)) places_on (places_with (level n)) places_law (given_words (operand_words n)) given_on (given_with (level n)) given_law is_none None
      (λ g rest h. maybe_nothing (marked_words m.Colon (maybe_words conditions_words)) g rest h) places_apart

  abbrev no_tail : Tail → Bool
  no_tail t = is_none t.0 && is_none t.1

  tail_nothing : (t : Tail) (rest : List Word) → no_tail t ≡ true → tail_words t rest ≡ rest
  tail_nothing t rest h = by t.0 t.1 h
    where
      by : (p : Option PlacesAt) (g : GivenAt) → (is_none p && is_none g) ≡ true → tail_words (p, g) rest ≡ rest
      by None None h = refl
      by None (Some g) h = absurd cc
      by (Some row) g h = absurd cc

  duration_apart : (d : Option Full) (t : Tail) (rest : List Word) → no_tail t ≡ false → Ends (duration_on d) (tail_words t rest)
  duration_apart d t rest h = by d t.0 t.1 h
    where
      by : (d : Option Full) (p : Option PlacesAt) (g : GivenAt) → (is_none p && is_none g) ≡ false → Ends (duration_on d) (tail_words (p, g) rest)
      by d None None h = absurd cc
      by None None (Some g) h = refl
      by (Some t) None (Some g) h = term_closes n t (word.mark m.Colon) colon_closing
      by None (Some row) g h = refl
      by (Some t) (Some row) g h = term_closes n t (word.mark m.Comma) comma_closing

  abbrev pub Behind : Type 0
  Behind = Option Full × (Option PlacesAt × GivenAt)

  abbrev pub behind_words : Behind → List Word → List Word
  behind_words = pair_words (duration_words (operand_words n)) tail_words

  abbrev pub behind_on : Behind → Word → Bool
  behind_on = pair_goes_on duration_on tail_on no_tail

  abbrev pub behind_read : Reader Behind
  behind_read = pair_with (duration_with (level n)) tail_read

  pub behind_law : Weak behind_words behind_on behind_read
  behind_law =
      pair_weak (duration_words (operand_words n)) duration_on (duration_with (level n)) duration_law tail_words tail_on tail_read tail_law no_tail (None, None) tail_nothing duration_apart

  abbrev no_behind : Behind → Bool
  no_behind b = is_none b.0 && (is_none b.1.0 && is_none b.1.1)

  behind_nothing : (b : Behind) (rest : List Word) → no_behind b ≡ true → behind_words b rest ≡ rest
  behind_nothing b rest h = by b.0 b.1.0 b.1.1 h
    where
      by : (d : Option Full) (p : Option PlacesAt) (g : GivenAt) → (is_none d && (is_none p && is_none g)) ≡ true → behind_words (d, (p, g)) rest ≡ rest
      by None None None h = refl
      by None None (Some g) h = absurd cc
      by None (Some row) g h = absurd cc
      by (Some t) p g h = absurd cc

  first_apart : (t : Full) (b : Behind) (rest : List Word) → no_behind b ≡ false → Ends (term_on n t) (behind_words b rest)
  first_apart t b rest h = by b.0 b.1.0 b.1.1 h
    where
      by : (d : Option Full) (p : Option PlacesAt) (g : GivenAt) → (is_none d && (is_none p && is_none g)) ≡ false → Ends (term_on n t) (behind_words (d, (p, g)) rest)
      by None None None h = absurd cc
      by None None (Some g) h = term_closes n t (word.mark m.Colon) colon_closing
      by None (Some row) g h = term_closes n t (word.mark m.Comma) comma_closing
      by (Some u) p g h = term_closes n t (word.mark m.At) at_closing

  abbrev pub parts_on : Full × (Option Full × (Option PlacesAt × GivenAt)) → Word → Bool
  parts_on = pair_goes_on (term_on n) behind_on no_behind

  pub parts_law : Lawful (pair_words (term_text n) behind_words) parts_on (element_parts (level n))
  parts_law = pair_lawful (term_text n) (term_on n) (term_at n) term_weak behind_words behind_on behind_read behind_law no_behind (None, (None, None)) behind_nothing first_apart (term_law n).some

  abbrev pub parts_of_element : ElementAt → Full × (Option Full × (Option PlacesAt × GivenAt))
  parts_of_element e = (e.first, (e.duration, (e.rest, e.condition)))

  abbrev pub element_on : ElementAt → Word → Bool
  element_on e = parts_on (parts_of_element e)

  pub element_law : Lawful (element_words (operand_words n)) element_on (element_with (level n))
  element_law = mapped_lawful (pair_words (term_text n) behind_words) parts_on (element_parts (level n)) parts_law (element_of (level n)) parts_of_element (λ e. refl) (λ p. refl)

  element_closes : (e : ElementAt) (w : Word) → Parting w → element_on e w ≡ false
  element_closes e w c = by e.first e.duration e.rest e.condition
    where
      and_false : (a b : Bool) → b ≡ false → (a && b) ≡ false
      and_false true b h = h
      and_false false b h = refl

      durations : (d : Option Full) → duration_on d w ≡ false
      durations None = c.at
      durations (Some t) = term_closes n t w c.closing

      rows : (p : Option PlacesAt) → places_on p w ≡ false
      rows None = c.comma_none
      rows (Some row) = row_closes row w c.closing c.signs

      by : (t : Full) (d : Option Full) (p : Option PlacesAt) (g : GivenAt) → parts_on (t, (d, (p, g))) w ≡ false
      by t d p g =
          or_false _ _ (or_false _ _ (or_false _ _ (given_closes g w c) (and_false (is_none g) (places_on p w) (rows p))) (and_false (no_tail (p, g)) (duration_on d w) (durations d)))
          (and_false (no_behind (d, (p, g))) (term_on n t w) (term_closes n t w c.closing))

  -- ---- theory atoms
  pub semicolon_parts : Parting (word.mark m.Semicolon)
  semicolon_parts = record { closing = record { opens = refl; multiply = refl; add = refl; dots = refl }; at = refl; comma_none = refl; colon = refl; begin = refl; relates = refl; signs = refl }

  pub brace_parts : Parting (word.mark m.CloseBrace)
  brace_parts = record { closing = record { opens = refl; multiply = refl; add = refl; dots = refl }; at = refl; comma_none = refl; colon = refl; begin = refl; relates = refl; signs = refl }

  abbrev pub Elements : Type 0
  Elements = Row (ElementOf (Operand n) (Room n)) (Unit {0})

  abbrev pub elements_on : Elements → Word → Bool
  elements_on row w = element_on (last_item row.first row.rest) w || is_some (semicolon w)

  pub row_law : Lawful (row_words (element_words (operand_words n)) semicolon_word) elements_on (row_with (element_with (level n)) semicolon)
  row_law = row_lawful (element_words (operand_words n)) element_on (element_with (level n)) element_law semicolon_word semicolon semicolon_is semicolon_only (λ e s. element_closes e (word.mark m.Semicolon) semicolon_parts)

  pub elements_law : Weak (elements_words (operand_words n)) (maybe_goes_on begins_term elements_on) (elements_with (level n))
  elements_law = maybe_weak (row_words (element_words (operand_words n)) semicolon_word) elements_on (row_with (element_with (level n)) semicolon) row_law begins_term (λ row rest. term_begins n row.first.first _)

  elements_close : (o : Option Elements) → maybe_goes_on begins_term elements_on o (word.mark m.CloseBrace) ≡ false
  elements_close None = refl
  elements_close (Some row) = or_false (element_on (last_item row.first row.rest) (word.mark m.CloseBrace)) false (element_closes (last_item row.first row.rest) (word.mark m.CloseBrace) brace_parts) refl

  abbrev pub never : Option Elements → Word → Bool
  never o next = false

  abbrev pub closed_text : Option Elements → List Word → List Word
  closed_text = closed_words m.CloseBrace (elements_words (operand_words n))

  pub closed_law : Lawful closed_text never (closed_with m.CloseBrace (elements_with (level n)))
  closed_law = closed_lawful (elements_words (operand_words n)) (maybe_goes_on begins_term elements_on) (elements_with (level n)) elements_law m.CloseBrace elements_close

  abbrev pub braces_text : Option Elements → List Word → List Word
  braces_text = marked_words m.OpenBrace closed_text

  pub braces_law : Lawful braces_text never (braces_with (level n))
  braces_law = marked_lawful closed_text never (closed_with m.CloseBrace (elements_with (level n))) (weak_of closed_text never (closed_with m.CloseBrace (elements_with (level n))) closed_law) m.OpenBrace None

  abbrev pub Guards : Type 0
  Guards = Option (Rel × TermAt n)

  abbrev pub guarded_words : Option Elements × Option (Rel × TermAt n) → List Word → List Word
  guarded_words = pair_words braces_text (guard_words (operand_words n))

  abbrev pub guarded_on : Option Elements × Option (Rel × TermAt n) → Word → Bool
  guarded_on = pair_goes_on never (right_on n) is_none

  abbrev pub guarded_read : Reader (Option Elements × Option (Rel × TermAt n))
  guarded_read = pair_with (braces_with (level n)) (guard_with (level n))

  pub guarded_law : Lawful guarded_words guarded_on guarded_read
  guarded_law =
      pair_lawful braces_text never (braces_with (level n)) (weak_of braces_text never (braces_with (level n)) braces_law) (guard_words (operand_words n)) (right_on n) (guard_with (level n)) (right_law n) is_none None
      (λ g rest h. maybe_nothing _ g rest h) (λ b g rest h. never_on (guard_words (operand_words n) g rest)) braces_law.some

  abbrev Named : Type 0
  Named = List ℕ × (Option Elements × Option (Rel × TermAt n))

  abbrev no_guarded : Option Elements × Option (Rel × TermAt n) → Bool
  no_guarded p = false

  abbrev pub named_words : List ℕ × (Option Elements × Option (Rel × TermAt n)) → List Word → List Word
  named_words = pair_words name_words guarded_words

  abbrev pub named_on : List ℕ × (Option Elements × Option (Rel × TermAt n)) → Word → Bool
  named_on = pair_goes_on name_on guarded_on no_guarded

  abbrev pub named_read : Reader (List ℕ × (Option Elements × Option (Rel × TermAt n)))
  named_read = pair_with name_with guarded_read

  pub named_law : Lawful named_words named_on named_read
  named_law =
      pair_lawful name_words name_on name_with (weak_of name_words name_on name_with name_law) guarded_words guarded_on guarded_read (weak_of guarded_words guarded_on guarded_read guarded_law) no_guarded (None, None)
      (λ g rest h. absurd cc) (λ name g rest h. never_on (guarded_words g rest)) name_law.some

  abbrev parts_of_theory : TheoryAt n → List ℕ × (Option Elements × Option (Rel × TermAt n))
  parts_of_theory t = (t.name, (t.elements, t.guard))

  abbrev pub theory_text : TheoryAt n → List Word → List Word
  theory_text = theory_words (operand_words n)

  abbrev pub theory_on : TheoryAt n → Word → Bool
  theory_on = theory_goes_on (operand_goes_on n)

  pub theory_law : Lawful theory_text theory_on (theory_at n)
  theory_law =
      lawful_as _ theory_text _ theory_on (theory_at n) (λ t rest. refl) same
      (mapped_lawful _ _ _ (marked_lawful named_words named_on named_read (weak_of named_words named_on named_read named_law) m.And ([], (None, None))) (theory_of (level n)) parts_of_theory (λ t. refl) (λ p. refl))
    where
      or_nothing : (a b : Bool) → ((a || (b && false)) || false) ≡ a
      or_nothing true b = refl
      or_nothing false true = refl
      or_nothing false false = refl

      same : (t : TheoryAt n) (w : Word) → named_on (parts_of_theory t) w ≡ theory_on t w
      same t w = or_nothing (theory_on t w) (is_none t.guard)
