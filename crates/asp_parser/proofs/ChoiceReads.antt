-- What is kept of choices.
use Rattle.std.proofs.Common.{◌≡◌, ℕ, ◌+◌, ◌≤◌, Bool, true, false, ◌&&◌, ◌||◌, List, [], ◌∷◌, ◌++◌, length, Option, Some, None, Result, Ok, Err, refl, sym, ◌∙◌, ap, subst, arith}
use Rattle.std.specs.Option.{is_some}
use Rattle.lexer.specs.declared.token.Token.{Token}
use Rattle.symbols.specs.declared.rel.Rel.{Rel}
use Rattle.symbols.specs.declared.rel.Rel.TheVariants.{LessEqual}
use Rattle.syntax_tree.specs.declared.rule.Choice.{Choice}
use Rattle.syntax_tree.specs.declared.rule.ChoiceElement.{ChoiceElement}
use Rattle.syntax_tree.specs.declared.term.Term.{Term}
use Rattle.syntax_tree.specs.declared.literal.Guard.{Guard}
use Rattle.syntax_tree.specs.declared.literal.Literal.{Literal}
use Rattle.grammar.specs.declared.mark.Mark.TheVariants as m
use Rattle.grammar.specs.declared.shape.Shape.{Shape}
use Rattle.grammar.specs.declared.shape.Shape.TheVariants.{Other}
use Rattle.grammar.specs.Word.{Word, words_at, is_next}
use Rattle.grammar.specs.Sight.{size, operand_bads}
use Rattle.grammar.specs.Term.{AtomAt, TermAt, Operand, Room, operand_words, atom_goes_on}
use Rattle.grammar.specs.Theory.{GivenOf, relation, semicolon, semicolon_word}
use Rattle.grammar.specs.Statement.{ChosenOf}
use Rattle.grammar.specs.Check.{bad_terms, given_bads, operand_is_difference}
use Rattle.grammar.specs.Shape.{operand_shape}
use Rattle.grammar.specs.Reading.{Fault, Expected, one, other, starts_next, sign_at, Reader, pair_with, signed_with, marked_with, closed_with, either_with, row_with, mapped_with, term_at, level}
use Rattle.grammar.specs.TheoryReading.{begins_term, is_name, is_relation, atom_with, given_with, compared_with}
use Rattle.grammar.specs.StatementReading.{begins_right, FreeOf, chosen_of, right_of, chosen_with, chosens_with, right_with, free_with, bounded_with}
use Rattle.grammar.proofs.Pairs.{weak_of}
use Rattle.grammar.proofs.ConditionLaws.{atom_text, atom_law}
use Rattle.grammar.proofs.ChoiceLaws.{chosen_on, chosen_law, braces_law, free_law}
use Rattle.theory_grammar.specs.declared.fault.Stop.{Stop}
use Rattle.theory_grammar.specs.declared.fault.Stop.TheVariants as stop
use Rattle.theory_grammar.specs.declared.seen.Seen.{Seen}
use Rattle.theory_grammar.specs.State.{Reads}
use Rattle.theory_grammar.specs.TheoryState as plain
use Rattle.theory_grammar.specs.TheoryState.{atom_class, given_class, judged_class, compared_class, refused_bads}
use Rattle.theory_grammar.proofs.TermReads.{fails_along}
use Rattle.theory_grammar.proofs.PartReads.{taken, relation_some, relation_none}
use Rattle.asp_parser.specs.declared.kept.Kept.{Kept}
use Rattle.asp_parser.specs.StatementState.{Takes, Taken, lifted, pair_class, chosen_class, chosens_class, ChosenRow, elements_class, braces_class, right_class, parts_class, choice_class, bounded_class}
use Rattle.asp_parser.proofs.WordLaws.{right_begins}
use Rattle.asp_parser.proofs.ReadLaws.{mapped_ok, mapped_err, one_ok, one_err, other_ok, other_err, maybe_gone, maybe_ok, maybe_err, pair_ok, pair_first_err, pair_second_err, marked_is, marked_gone, closed_ok, closed_gone, closed_err, signed_ok, signed_err}
use Rattle.asp_parser.proofs.TakeLaws.{lift_take, recast, nothing, behind_form, pair_take, Partial, row_start, row_more, row_done, row_fails, first_fails}

abbrev chosen_parts : Reader (AtomAt 64 × GivenOf (Operand 64) (Room 64))
chosen_parts = pair_with (atom_with (level 64)) (given_with (level 64))

abbrev bounds : Reader (Option Rel × TermAt 64)
bounds = mapped_with right_of (either_with is_relation (compared_with (level 64)) (term_at 64))

abbrev signed_free : Reader (Rel × FreeOf (Operand 64) (Room 64))
signed_free = signed_with relation (free_with (level 64))

a_semicolon : (words : List Word) → is_next m.Semicolon words ≡ true → sign_at semicolon words ≡ Some tt
a_semicolon [] h = absurd cc
a_semicolon (w ∷ words) h = rw h refl

no_semicolon : (words : List Word) → is_next m.Semicolon words ≡ false → sign_at semicolon words ≡ None
no_semicolon [] h = refl
no_semicolon (w ∷ words) h = rw h refl

module _ (text : List ℕ) (tokens : List Token) where
  abbrev here : ℕ → List Word
  here at = words_at text tokens at

  -- ---- elements
  chosen_fail : (e : ChosenOf (Operand 64) (Room 64)) (at : ℕ)
      → (pair_class (lifted atom_class) (lifted (given_class false))).fails (e.atom, e.condition) at ≡ chosen_class.fails e at
  chosen_fail e at = by e.condition
    where
      by : (g : GivenOf (Operand 64) (Room 64)) → bad_terms (atom_class.bads e.atom at) ++ bad_terms (refused_bads false g (at + size atom_class.words e.atom))
          ≡ bad_terms (atom_class.bads e.atom at) ++ bad_terms (given_bads (operand_words 64) (operand_shape 64) (operand_bads 64) (operand_is_difference 64) g (at + size atom_class.words e.atom))
      by None = refl
      by (Some g) = refl

  pub chosen_take : (at : ℕ) (old : Kept) (first second : Seen) (atom : Term) (condition : List Literal) (value : ChoiceElement) (middle next : ℕ) → Reads atom_class text tokens at old.seen first atom Other middle
      → plain.Takes (given_class false) text tokens middle first second condition next → value ≡ record { atom = atom; condition = condition } → Takes chosen_class text tokens at old (record { seen = second; failing = old.failing }) value next
  unfolding pair_take
  chosen_take at old first second atom condition value middle next a b made =
      let mid : Kept = record { seen = first; failing = old.failing } in
      let t = lift_take text tokens atom_class at old first atom middle (taken text tokens atom_class at old.seen first atom Other middle a) in
      let u = lift_take text tokens (given_class false) middle mid second condition next b in
      let place = behind_form text tokens (lifted atom_class) atom_goes_on (weak_of (atom_text 64) atom_goes_on (atom_with (level 64)) (atom_law 64)) at old mid atom middle t in
      let both = pair_take text tokens (lifted atom_class) (lifted (given_class false)) at old mid (record { seen = second; failing = old.failing }) atom condition middle next t u place in
      recast text tokens (pair_class (lifted atom_class) (lifted (given_class false))) chosen_class chosen_of at at old (record { seen = second; failing = old.failing }) (atom, condition) value next both next (omega arith) (omega arith) both.within
      (mapped_ok chosen_of chosen_parts (here at) both.form (here next) both.is) refl (chosen_fail (chosen_of both.form) at) (λ later e. made ∙ ap (λ p. record { atom = p.0; condition = p.1 }) e)

  pub chosen_atom_fails : (at : ℕ) (f : Fault) → atom_with (level 64) (here at) ≡ Err f → chosen_with (level 64) (here at) ≡ Err f
  chosen_atom_fails at f h = mapped_err chosen_of chosen_parts (here at) f (pair_first_err (atom_with (level 64)) (given_with (level 64)) (here at) f h)

  pub chosen_given_fails : (at middle : ℕ) (old new : Seen) (atom : Term) (f : Fault) (a : Reads atom_class text tokens at old new atom Other middle) → given_with (level 64) (here middle) ≡ Err f → chosen_with (level 64) (here at) ≡ Err f
  chosen_given_fails at middle old new atom f a h = mapped_err chosen_of chosen_parts (here at) f (pair_second_err (atom_with (level 64)) (given_with (level 64)) (here at) a.form (here middle) f a.is h)

  abbrev pub Chosens : (at : ℕ) (old new : Kept) (found : List ChoiceElement) (next : ℕ) → Type 0
  Chosens = Partial chosen_class (chosen_on 64) (chosen_law 64) semicolon_word semicolon text tokens

  pub chosens_start : (at : ℕ) (old new : Kept) (value : ChoiceElement) (next : ℕ) (found : List ChoiceElement) → Takes chosen_class text tokens at old new value next → found ≡ value ∷ [] → Chosens at old new found next
  chosens_start = row_start chosen_class (chosen_on 64) (chosen_law 64) semicolon_word semicolon text tokens

  pub chosens_more : (at : ℕ) (old mid new : Kept) (found : List ChoiceElement) (next : ℕ) (value : ChoiceElement) (after : ℕ) (pushed : List ChoiceElement) → Chosens at old mid found next → is_next m.Semicolon (here next) ≡ true
      → Takes chosen_class text tokens (next + 1) mid new value after → pushed ≡ found ++ value ∷ [] → Chosens at old new pushed after
  chosens_more at old mid new found next value after pushed p there t e = row_more chosen_class (chosen_on 64) (chosen_law 64) semicolon_word semicolon text tokens at old mid new found next tt value after pushed p (a_semicolon (here next) there) t e

  pub chosens_fail : (at : ℕ) (old mid : Kept) (found : List ChoiceElement) (next : ℕ) (f : Fault) → Chosens at old mid found next → is_next m.Semicolon (here next) ≡ true → chosen_with (level 64) (here (next + 1)) ≡ Err f
      → row_with (chosen_with (level 64)) semicolon (here at) ≡ Err f
  chosens_fail at old mid found next f p there e = row_fails chosen_class (chosen_on 64) (chosen_law 64) semicolon_word semicolon text tokens at old mid found next tt f p (a_semicolon (here next) there) e

  pub chosens_done : (at : ℕ) (old new : Kept) (found : List ChoiceElement) (next : ℕ) → Chosens at old new found next → is_next m.Semicolon (here next) ≡ false → Takes chosens_class text tokens at old new found next
  chosens_done at old new found next p gone = row_done chosen_class (chosen_on 64) (chosen_law 64) semicolon_word semicolon text tokens at old new found next p (no_semicolon (here next) gone)

  pub first_chosen_fails : (at : ℕ) (f : Fault) → chosen_with (level 64) (here at) ≡ Err f → row_with (chosen_with (level 64)) semicolon (here at) ≡ Err f
  first_chosen_fails at f h = first_fails chosen_class (chosen_on 64) (chosen_law 64) semicolon_word semicolon text tokens at f h

  pub elements_none : (at : ℕ) (kept : Kept) (value : List ChoiceElement) → starts_next is_name (here at) ≡ false → at ≤ length tokens → value ≡ [] → Takes elements_class text tokens at kept kept value at
  elements_none at kept value gone within none = nothing text tokens elements_class None at kept value within (maybe_gone is_name (row_with (chosen_with (level 64)) semicolon) (here at) gone) refl refl (λ later. none)

  pub elements_some : (at : ℕ) (old new : Kept) (r : Result (List ChoiceElement × ℕ) Stop) → starts_next is_name (here at) ≡ true → Taken chosens_class text tokens at old new r → Taken elements_class text tokens at old new r
  elements_some at old new (Ok p) begun t =
      recast text tokens chosens_class elements_class Some at at old new p.0 p.0 p.1 t p.1 (omega arith) (omega arith) t.within (maybe_ok is_name (row_with (chosen_with (level 64)) semicolon) (here at) t.form (here p.1) begun t.is) refl refl (λ later e. e)
  elements_some at old new (Err failed) begun t = fails_along text tokens failed (row_with (chosen_with (level 64)) semicolon (here at)) _ (λ f e. maybe_err is_name (row_with (chosen_with (level 64)) semicolon) (here at) f begun e) t

  -- ---- in braces
  pub braces_take : (at : ℕ) (old new : Kept) (value : List ChoiceElement) (brace : ℕ) → is_next m.OpenBrace (here at) ≡ true → Takes elements_class text tokens (at + 1) old new value brace → is_next m.CloseBrace (here brace) ≡ true → brace + 1 ≤ length tokens
      → Takes braces_class text tokens at old new value (brace + 1)
  braces_take at old new value brace opens t closes within =
      recast text tokens elements_class braces_class (λ o. o) at (at + 1) old new value value brace t (brace + 1) (omega arith) (omega arith) within
      (marked_is text tokens m.OpenBrace (closed_with m.CloseBrace (chosens_with (level 64))) at opens ∙ closed_ok text tokens m.CloseBrace (chosens_with (level 64)) (at + 1) t.form brace t.is closes) refl refl (λ later e. e)

  pub no_open : (at : ℕ) → is_next m.OpenBrace (here at) ≡ false → braces_class.read (here at) ≡ Err (Expected (length (here at)))
  no_open at h = marked_gone text tokens m.OpenBrace (closed_with m.CloseBrace (chosens_with (level 64))) at h

  pub no_close : (at : ℕ) (old new : Kept) (value : List ChoiceElement) (brace : ℕ) → is_next m.OpenBrace (here at) ≡ true → Takes elements_class text tokens (at + 1) old new value brace → is_next m.CloseBrace (here brace) ≡ false
      → braces_class.read (here at) ≡ Err (Expected (length (here brace)))
  no_close at old new value brace opens t gone = marked_is text tokens m.OpenBrace (closed_with m.CloseBrace (chosens_with (level 64))) at opens ∙ closed_gone text tokens m.CloseBrace (chosens_with (level 64)) (at + 1) t.form brace t.is gone

  pub inside_fails : (at : ℕ) (f : Fault) → is_next m.OpenBrace (here at) ≡ true → chosens_with (level 64) (here (at + 1)) ≡ Err f → braces_class.read (here at) ≡ Err f
  inside_fails at f opens h = marked_is text tokens m.OpenBrace (closed_with m.CloseBrace (chosens_with (level 64))) at opens ∙ closed_err text tokens m.CloseBrace (chosens_with (level 64)) (at + 1) f h

  -- ---- right bounds
  begun_by : (at : ℕ) (a b : Bool) → is_some (sign_at relation (here at)) ≡ a → starts_next begins_term (here at) ≡ b → starts_next begins_right (here at) ≡ (a || b)
  begun_by at a b h g = sym (right_begins (here at)) ∙ ap (λ z. z || starts_next begins_term (here at)) h ∙ ap (λ z. a || z) g

  pub right_none : (at : ℕ) (kept : Kept) → sign_at relation (here at) ≡ None → starts_next begins_term (here at) ≡ false → at ≤ length tokens → Takes right_class text tokens at kept kept None at
  right_none at kept plain gone within = nothing text tokens right_class None at kept None within (maybe_gone begins_right bounds (here at) (begun_by at false false (ap is_some plain) gone)) refl refl (λ later. refl)

  pub right_term : (at : ℕ) (old : Kept) (seen : Seen) (term : Term) (shape : Shape) (next : ℕ) → sign_at relation (here at) ≡ None → starts_next begins_term (here at) ≡ true → Reads (judged_class false) text tokens at old.seen seen term shape next
      → Takes right_class text tokens at old (record { seen = seen; failing = old.failing }) (Some (record { rel = LessEqual; right = term })) next
  right_term at old seen term shape next plain begun r =
      let t = lift_take text tokens (judged_class false) at old seen term next (taken text tokens (judged_class false) at old.seen seen term shape next r) in
      recast text tokens (lifted (judged_class false)) right_class (λ t. Some (None, t)) at at old (record { seen = seen; failing = old.failing }) term (Some (record { rel = LessEqual; right = term })) next t next (omega arith) (omega arith) t.within
      (maybe_ok begins_right bounds (here at) (None, t.form) (here next) (begun_by at false true (ap is_some plain) begun)
      (mapped_ok right_of (either_with is_relation (compared_with (level 64)) (term_at 64)) (here at) (other t.form) (here next) (other_ok is_relation (compared_with (level 64)) (term_at 64) (here at) t.form (here next) (relation_none (here at) plain) t.is)))
      (ap ((judged_class false).sights t.form) (omega arith)) (ap (λ n. bad_terms ((judged_class false).bads t.form n)) (omega arith)) (λ later e. ap (λ z. Some (record { rel = LessEqual; right = z })) e)

  pub right_term_fails : (at : ℕ) (f : Fault) → sign_at relation (here at) ≡ None → starts_next begins_term (here at) ≡ true → term_at 64 (here at) ≡ Err f → right_with (level 64) (here at) ≡ Err f
  right_term_fails at f plain begun h =
      maybe_err begins_right bounds (here at) f (begun_by at false true (ap is_some plain) begun)
      (mapped_err right_of (either_with is_relation (compared_with (level 64)) (term_at 64)) (here at) f (other_err is_relation (compared_with (level 64)) (term_at 64) (here at) f (relation_none (here at) plain) h))

  begun_rel : (at : ℕ) (rel : Rel) → sign_at relation (here at) ≡ Some rel → starts_next begins_right (here at) ≡ true
  begun_rel at rel signed = sym (right_begins (here at)) ∙ ap (λ z. z || starts_next begins_term (here at)) (ap is_some signed)

  pub right_rel : (at : ℕ) (old : Kept) (seen : Seen) (rel : Rel) (guard : Guard) (next : ℕ) → sign_at relation (here at) ≡ Some rel → Reads (compared_class false) text tokens at old.seen seen guard Other next
      → Takes right_class text tokens at old (record { seen = seen; failing = old.failing }) (Some guard) next
  right_rel at old seen rel guard next signed r =
      let t = lift_take text tokens (compared_class false) at old seen guard next (taken text tokens (compared_class false) at old.seen seen guard Other next r) in
      recast text tokens (lifted (compared_class false)) right_class (λ p. Some (Some p.0, p.1)) at at old (record { seen = seen; failing = old.failing }) guard (Some guard) next t next (omega arith) (omega arith) t.within
      (maybe_ok begins_right bounds (here at) (Some t.form.0, t.form.1) (here next) (begun_rel at rel signed)
      (mapped_ok right_of (either_with is_relation (compared_with (level 64)) (term_at 64)) (here at) (one t.form) (here next) (one_ok is_relation (compared_with (level 64)) (term_at 64) (here at) t.form (here next) (relation_some (here at) rel signed) t.is)))
      refl refl (λ later e. ap Some e)

  pub right_rel_fails : (at : ℕ) (rel : Rel) (f : Fault) → sign_at relation (here at) ≡ Some rel → compared_with (level 64) (here at) ≡ Err f → right_with (level 64) (here at) ≡ Err f
  right_rel_fails at rel f signed h =
      maybe_err begins_right bounds (here at) f (begun_rel at rel signed)
      (mapped_err right_of (either_with is_relation (compared_with (level 64)) (term_at 64)) (here at) f (one_err is_relation (compared_with (level 64)) (term_at 64) (here at) f (relation_some (here at) rel signed) h))

  -- ---- a choice from its opening brace on
  pub choice_take : (at : ℕ) (old mid new : Kept) (left : Option Guard) (elements : List ChoiceElement) (right : Option Guard) (value : Choice) (middle next : ℕ) → Takes braces_class text tokens at old mid elements middle
      → Takes right_class text tokens middle mid new right next → value ≡ record { left = left; elements = elements; right = right } → Takes (choice_class left) text tokens at old new value next
  unfolding pair_take
  choice_take at old mid new left elements right value middle next t u made =
      let place = behind_form text tokens braces_class _ (weak_of braces_class.words _ braces_class.read (braces_law 64)) at old mid elements middle t in
      let both = pair_take text tokens braces_class right_class at old mid new elements right middle next t u place in
      recast text tokens parts_class (choice_class left) (λ p. p) at at old new (elements, right) value next both next (omega arith) (omega arith) both.within both.is refl refl (λ later e. made ∙ ap (λ p. record { left = left; elements = p.0; right = p.1 }) e)

  pub choice_braces_fail : (at : ℕ) (f : Fault) → braces_class.read (here at) ≡ Err f → free_with (level 64) (here at) ≡ Err f
  choice_braces_fail at f h = pair_first_err braces_class.read (right_with (level 64)) (here at) f h

  pub choice_right_fails : (at : ℕ) (old mid : Kept) (elements : List ChoiceElement) (middle : ℕ) (f : Fault) → Takes braces_class text tokens at old mid elements middle → right_with (level 64) (here middle) ≡ Err f → free_with (level 64) (here at) ≡ Err f
  choice_right_fails at old mid elements middle f t h = pair_second_err braces_class.read (right_with (level 64)) (here at) t.form (here middle) f t.is h

  -- ---- behind a left bound
  pub bounded_rel : (at : ℕ) (old new : Kept) (left : Term) (rel : Rel) (r : Result (Choice × ℕ) Stop) → sign_at relation (here at) ≡ Some rel → Taken (choice_class (Some (record { rel = rel; right = left }))) text tokens (at + 1) old new r
      → Taken (bounded_class left) text tokens at old new r
  bounded_rel at old new left rel (Ok p) signed t =
      recast text tokens (choice_class (Some (record { rel = rel; right = left }))) (bounded_class left) (λ free. one (rel, free)) at (at + 1) old new p.0 p.0 p.1 t p.1 (omega arith) (omega arith) t.within
      (one_ok is_relation signed_free (free_with (level 64)) (here at) (rel, t.form) (here p.1) (relation_some (here at) rel signed) (signed_ok text tokens relation (free_with (level 64)) at rel t.form (here p.1) signed t.is)) refl refl (λ later e. e)
  bounded_rel at old new left rel (Err failed) signed t =
      fails_along text tokens failed (free_with (level 64) (here (at + 1))) _
      (λ f e. one_err is_relation signed_free (free_with (level 64)) (here at) f (relation_some (here at) rel signed) (signed_err text tokens relation (free_with (level 64)) at rel f signed e)) t

  pub bounded_plain : (at : ℕ) (old new : Kept) (left : Term) (r : Result (Choice × ℕ) Stop) → sign_at relation (here at) ≡ None → Taken (choice_class (Some (record { rel = LessEqual; right = left }))) text tokens at old new r
      → Taken (bounded_class left) text tokens at old new r
  bounded_plain at old new left (Ok p) plain t =
      recast text tokens (choice_class (Some (record { rel = LessEqual; right = left }))) (bounded_class left) other at at old new p.0 p.0 p.1 t p.1 (omega arith) (omega arith) t.within
      (other_ok is_relation signed_free (free_with (level 64)) (here at) t.form (here p.1) (relation_none (here at) plain) t.is) refl refl (λ later e. e)
  bounded_plain at old new left (Err failed) plain t = fails_along text tokens failed (free_with (level 64) (here at)) _ (λ f e. other_err is_relation signed_free (free_with (level 64)) (here at) f (relation_none (here at) plain) e) t
