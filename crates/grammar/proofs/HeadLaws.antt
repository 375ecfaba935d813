-- Heads, and what stands behind them, are lawful at every depth.
use Rattle.std.proofs.Common.{◌≡◌, ℕ, Bool, true, false, ◌||◌, List, [], ◌∷◌, ◌++◌, Option, Some, None, refl, sym, ◌∙◌, ap}
use Rattle.std.specs.Option.{is_none}
use Rattle.std.proofs.lemmas.List.{append-nil}
use Rattle.symbols.specs.declared.rel.Rel.{Rel}
use Rattle.grammar.specs.declared.mark.Mark.TheVariants as m
use Rattle.grammar.specs.Word.{Word, Ends, is_word}
use Rattle.grammar.specs.Word as word
use Rattle.grammar.specs.Parts.{maybe_words, marked_words, pair_words, maybe_goes_on}
use Rattle.grammar.specs.Term.{AtomAt, TermAt, Operand, Room, operand_words}
use Rattle.grammar.specs.Theory.{TheoryAt, rel_word, relation}
use Rattle.grammar.specs.Statement.{HeadOf, atom_head, choice_head, theory_head, ArrowOf, no_arrow, arrow, choice_words, head_words, arrow_words, body_words}
use Rattle.grammar.specs.Reading.{Reader, Either, one, other, starts_next, pair_with, marked_with, maybe_with, either_with, term_at, level}
use Rattle.grammar.specs.TheoryReading.{begins_term, term_atom, theory_at}
use Rattle.grammar.specs.StatementReading.{begins_right, is_bounding, LedOf, led, led_by, head_of, arrow_of, body_with, free_with, bounded_with, led_with, head_with, arrow_with}
use Rattle.grammar.proofs.Lawful.{Lawful, or_false}
use Rattle.grammar.proofs.TermLaws.{term_text, term_law}
use Rattle.grammar.proofs.Pairs.{Weak, weak_of, maybe_weak, pair_goes_on, pair_lawful}
use Rattle.grammar.proofs.Marked.{marked_lawful, mapped_weak, mapped_lawful}
use Rattle.grammar.proofs.KindLaws.{either_words, either_goes_on, either_lawful, kept_lawful, lawful_as, weak_as}
use Rattle.grammar.proofs.ConditionLaws.{Closing, rel_closing, next_as, next_more, term_on, term_closes, term_begins, atom_term, term_atom_is}
use Rattle.grammar.proofs.ElementLaws.{maybe_nothing, theory_text, theory_on, theory_law}
use Rattle.grammar.proofs.LiteralLaws.{Bodies, term_not_and, theory_closes, body_on, body_law}
use Rattle.grammar.proofs.ChoiceLaws.{FreeAt, BoundedAt, free_words, free_on, free_law, free_closes, bounded_words, bounded_on, bounded_law, bounded_begins}

-- ---- words with which no head goes on
pub record Stopping (w : Word) : Type 0 where
  pub closing : Closing w
  pub relates : relation w ≡ None
  pub bounds : is_bounding w ≡ false
  pub begin : begins_right w ≡ false

-- the words with which a head begins
abbrev pub begins_head : Word → Bool
begins_head next = is_word m.And next || (is_word m.OpenBrace next || begins_term next)

module _ (n : ℕ) where
  -- ---- a term, and what stands behind a left bound
  abbrev Leading : Type 0
  Leading = Option (BoundedAt n)

  abbrev leading_words : Leading → List Word → List Word
  leading_words = maybe_words (bounded_words n)

  abbrev leading_on : Leading → Word → Bool
  leading_on = maybe_goes_on is_bounding (bounded_on n)

  abbrev pub leading_read : Reader Leading
  leading_read = maybe_with is_bounding (bounded_with (level n))

  pub leading_law : Weak leading_words leading_on leading_read
  leading_law = maybe_weak (bounded_words n) (bounded_on n) (bounded_with (level n)) (bounded_law n) is_bounding (bounded_begins n)

  leading_apart : (t : TermAt n) (o : Leading) (rest : List Word) → is_none o ≡ false → Ends (term_on n t) (leading_words o rest)
  leading_apart t None rest h = absurd cc
  leading_apart t (Some (one p)) rest h = term_closes n t (rel_word p.0) (rel_closing p.0)
  leading_apart t (Some (other f)) rest h = term_closes n t (word.mark m.OpenBrace) (record { opens = refl; multiply = refl; add = refl; dots = refl })

  abbrev pub LedParts : Type 0
  LedParts = TermAt n × Leading

  abbrev led_words : LedParts → List Word → List Word
  led_words = pair_words (term_text n) leading_words

  abbrev led_on : LedParts → Word → Bool
  led_on = pair_goes_on (term_on n) leading_on is_none

  abbrev pub led_read : Reader LedParts
  led_read = pair_with (term_at n) leading_read

  led_parts_law : Lawful led_words led_on led_read
  led_parts_law =
      pair_lawful (term_text n) (term_on n) (term_at n) (weak_of (term_text n) (term_on n) (term_at n) (term_law n)) leading_words leading_on leading_read leading_law is_none None (λ o rest h. maybe_nothing (bounded_words n) o rest h)
      leading_apart (term_law n).some

  -- ---- an atom, or a choice with a left bound
  abbrev LedAt : Type 0
  LedAt = LedOf (Operand n) (Room n)

  abbrev led_of : LedAt → LedParts
  led_of (one a) = (atom_term n a, None)
  led_of (other b) = (b.0, Some b.1)

  led_is : (b : LedAt) → led (led_of b) ≡ Some b
  led_is (one a) = refl
  led_is (other b) = refl

  led_only : (a : LedParts) (b : LedAt) → led a ≡ Some b → a ≡ led_of b
  led_only a b h = by a.0 a.1 (term_atom a.0) refl h
    where
      by : (t : TermAt n) (o : Leading) (found : Option (AtomAt n)) → term_atom t ≡ found → led_by t found o ≡ Some b → (t, o) ≡ led_of b
      by t (Some behind) found q h = let e : other (t, behind) ≡ b = cc in ap led_of e
      by t None (Some c) q h = let e : one c ≡ b = cc in ap (λ z. (z, None)) (term_atom_is n t c q) ∙ ap led_of e
      by t None None q h = absurd cc

  led_grows : (a : LedParts) → (b : LedAt) × (more : List Word) × (led_words (led_of b) [] ≡ led_words a [] ++ more)
  led_grows a = by a.0 a.1
    where
      by : (t : TermAt n) (o : Leading) → (b : LedAt) × (more : List Word) × (led_words (led_of b) [] ≡ led_words (t, o) [] ++ more)
      by t (Some behind) = (other (t, behind), [], sym (append-nil (led_words (t, Some behind) [])))
      by t None = (other (t, other (None, None)), word.mark m.OpenBrace ∷ word.mark m.CloseBrace ∷ [], (term_law n).parted t [] (word.mark m.OpenBrace ∷ word.mark m.CloseBrace ∷ []))

  abbrev led_text : LedAt → List Word → List Word
  led_text b = led_words (led_of b)

  abbrev led_text_on : LedAt → Word → Bool
  led_text_on b = led_on (led_of b)

  pub led_law : Lawful led_text led_text_on (led_with (level n))
  led_law = kept_lawful led_words led_on led_read led_parts_law led led_of led_is led_only led_grows

  led_begins : (b : LedAt) (rest : List Word) → starts_next begins_term (led_text b rest) ≡ true
  led_begins b rest = term_begins n (led_of b).0 (leading_words (led_of b).1 rest)

  -- ---- with braces alone
  abbrev Braced : Type 0
  Braced = Either LedAt (FreeAt n)

  abbrev braced_words : Braced → List Word → List Word
  braced_words = either_words led_text (free_words n)

  abbrev braced_on : Braced → Word → Bool
  braced_on = either_goes_on led_text_on (free_on n)

  abbrev braced_read : Reader Braced
  braced_read = either_with begins_term (led_with (level n)) (free_with (level n))

  braced_law : Lawful braced_words braced_on braced_read
  braced_law = either_lawful led_text led_text_on (led_with (level n)) led_law (free_words n) (free_on n) (free_with (level n)) (free_law n) begins_term led_begins (λ f rest. refl)

  braced_not_and : (b : Braced) (rest : List Word) → starts_next (is_word m.And) (braced_words b rest) ≡ false
  braced_not_and (one b) rest = next_as begins_term (is_word m.And) term_not_and (led_text b rest) (led_begins b rest)
  braced_not_and (other f) rest = refl

  -- ---- heads
  abbrev pub HeadAt : Type 0
  HeadAt = HeadOf (Operand n) (Room n)

  abbrev Kinds : Type 0
  Kinds = Either (TheoryAt n) Braced

  abbrev kinds_words : Kinds → List Word → List Word
  kinds_words = either_words (theory_text n) braced_words

  abbrev kinds_on : Kinds → Word → Bool
  kinds_on = either_goes_on (theory_on n) braced_on

  abbrev kinds_read : Reader Kinds
  kinds_read = either_with (is_word m.And) (theory_at n) braced_read

  kinds_law : Lawful kinds_words kinds_on kinds_read
  kinds_law = either_lawful (theory_text n) (theory_on n) (theory_at n) (theory_law n) braced_words braced_on braced_read braced_law (is_word m.And) (λ t rest. refl) braced_not_and

  abbrev choice_parts : Option (TermAt n × Option Rel) → FreeAt n → Braced
  choice_parts None free = other free
  choice_parts (Some (t, Some r)) free = one (other (t, one (r, free)))
  choice_parts (Some (t, None)) free = one (other (t, other free))

  abbrev head_parts : HeadAt → Kinds
  head_parts (theory_head t) = one t
  head_parts (atom_head a) = other (one (one a))
  head_parts (choice_head c) = other (choice_parts c.left (c.elements, c.right))

  of_head_parts : (h : HeadAt) → head_of (head_parts h) ≡ h
  of_head_parts (theory_head t) = refl
  of_head_parts (atom_head a) = refl
  of_head_parts (choice_head c) = by c.left
    where
      by : (left : Option (TermAt n × Option Rel)) → head_of (other (choice_parts left (c.elements, c.right))) ≡ choice_head (record { left = left; elements = c.elements; right = c.right })
      by None = refl
      by (Some (t, Some r)) = refl
      by (Some (t, None)) = refl

  head_parts_are : (p : Kinds) → head_parts (head_of p) ≡ p
  head_parts_are (one t) = refl
  head_parts_are (other (one (one a))) = refl
  head_parts_are (other (one (other (t, one (r, free))))) = refl
  head_parts_are (other (one (other (t, other free)))) = refl
  head_parts_are (other (other free)) = refl

  abbrev pub head_on : HeadAt → Word → Bool
  head_on h = kinds_on (head_parts h)

  head_same : (h : HeadAt) (rest : List Word) → kinds_words (head_parts h) rest ≡ head_words (operand_words n) h rest
  head_same (theory_head t) rest = refl
  head_same (atom_head a) rest = refl
  head_same (choice_head c) rest = by c.left
    where
      by : (left : Option (TermAt n × Option Rel)) → braced_words (choice_parts left (c.elements, c.right)) rest ≡ choice_words (operand_words n) (record { left = left; elements = c.elements; right = c.right }) rest
      by None = refl
      by (Some (t, Some r)) = refl
      by (Some (t, None)) = refl

  pub head_law : Lawful (head_words (operand_words n)) head_on (head_with (level n))
  head_law = lawful_as _ (head_words (operand_words n)) _ head_on (head_with (level n)) head_same (λ h w. refl) (mapped_lawful kinds_words kinds_on kinds_read kinds_law head_of head_parts of_head_parts head_parts_are)

  pub head_closes : (h : HeadAt) (w : Word) → Stopping w → head_on h w ≡ false
  head_closes (theory_head t) w c = theory_closes n t w c.closing c.relates
  head_closes (atom_head a) w c = or_false (is_bounding w) (term_on n (atom_term n a) w) c.bounds (term_closes n (atom_term n a) w c.closing)
  head_closes (choice_head ch) w c = by ch.left
    where
      by : (left : Option (TermAt n × Option Rel)) → braced_on (choice_parts left (ch.elements, ch.right)) w ≡ false
      by None = free_closes n (ch.elements, ch.right) w c.closing c.begin
      by (Some (t, Some r)) = or_false (free_on n (ch.elements, ch.right) w) false (free_closes n (ch.elements, ch.right) w c.closing c.begin) refl
      by (Some (t, None)) = or_false (free_on n (ch.elements, ch.right) w) false (free_closes n (ch.elements, ch.right) w c.closing c.begin) refl

  pub head_begins : (h : HeadAt) (rest : List Word) → starts_next begins_head (head_words (operand_words n) h rest) ≡ true
  head_begins h rest = sym (ap (starts_next begins_head) (head_same h rest)) ∙ by (head_parts h)
    where
      term_head : (ts : List Word) → starts_next begins_term ts ≡ true → starts_next begins_head ts ≡ true
      term_head ts g = next_more (λ w. is_word m.OpenBrace w || begins_term w) (is_word m.And) ts (next_more begins_term (is_word m.OpenBrace) ts g)

      by : (p : Kinds) → starts_next begins_head (kinds_words p rest) ≡ true
      by (one t) = refl
      by (other (one b)) = term_head (led_text b rest) (led_begins b rest)
      by (other (other f)) = refl

  -- ---- what stands behind a head
  abbrev pub ArrowAt : Type 0
  ArrowAt = ArrowOf (Operand n) (Room n)

  abbrev arrow_parts : ArrowAt → Option (Bodies n)
  arrow_parts no_arrow = None
  arrow_parts (arrow body) = Some body

  of_arrow_parts : (a : ArrowAt) → arrow_of (arrow_parts a) ≡ a
  of_arrow_parts no_arrow = refl
  of_arrow_parts (arrow body) = refl

  arrow_parts_are : (o : Option (Bodies n)) → arrow_parts (arrow_of o) ≡ o
  arrow_parts_are None = refl
  arrow_parts_are (Some body) = refl

  abbrev marked_body : Bodies n → List Word → List Word
  marked_body = marked_words m.Arrow (body_words (operand_words n))

  marked_body_law : Lawful marked_body (body_on n) (marked_with m.Arrow (body_with (level n)))
  marked_body_law = marked_lawful (body_words (operand_words n)) (body_on n) (body_with (level n)) (body_law n) m.Arrow None

  abbrev arrows_on : Option (Bodies n) → Word → Bool
  arrows_on = maybe_goes_on (is_word m.Arrow) (body_on n)

  arrows_law : Weak (maybe_words marked_body) arrows_on (maybe_with (is_word m.Arrow) (marked_with m.Arrow (body_with (level n))))
  arrows_law = maybe_weak marked_body (body_on n) (marked_with m.Arrow (body_with (level n))) marked_body_law (is_word m.Arrow) (λ o rest. refl)

  abbrev pub arrow_on : ArrowAt → Word → Bool
  arrow_on a = arrows_on (arrow_parts a)

  pub arrow_law : Weak (arrow_words (operand_words n)) arrow_on (arrow_with (level n))
  arrow_law =
      weak_as _ (arrow_words (operand_words n)) arrow_on (arrow_with (level n)) same
      (mapped_weak (maybe_words marked_body) arrows_on (maybe_with (is_word m.Arrow) (marked_with m.Arrow (body_with (level n)))) arrows_law arrow_of arrow_parts of_arrow_parts arrow_parts_are)
    where
      same : (a : ArrowAt) (rest : List Word) → maybe_words marked_body (arrow_parts a) rest ≡ arrow_words (operand_words n) a rest
      same no_arrow rest = refl
      same (arrow body) rest = refl
