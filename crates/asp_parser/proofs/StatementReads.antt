-- What is kept of statements.
use Rattle.std.proofs.Common.{◌≡◌, ℕ, ◌+◌, ◌≤◌, Bool, true, false, List, [], ◌++◌, length, Option, Some, None, Err, refl, sym, ◌∙◌, ap, subst, arith}
use Rattle.std.proofs.lemmas.List.{append-nil}
use Rattle.lexer.specs.declared.token.Token.{Token}
use Rattle.syntax_tree.specs.declared.rule.Name.{Name}
use Rattle.syntax_tree.specs.declared.rule.Head.{Head}
use Rattle.syntax_tree.specs.declared.rule.Head.TheVariants as head
use Rattle.syntax_tree.specs.declared.literal.Literal.{Literal}
use Rattle.syntax_tree.specs.declared.literal.Literal.TheViews.{out-roll-TheoryAtom}
use Rattle.grammar.specs.declared.check.Check.TheVariants.{WrongPlace}
use Rattle.grammar.specs.declared.mark.Mark.TheVariants as m
use Rattle.grammar.specs.Word.{Word, words_at, is_word, is_next}
use Rattle.grammar.specs.Sight.{operand_bads}
use Rattle.grammar.specs.Shape.{operand_shape}
use Rattle.grammar.specs.Term.{Operand, Room, operand_words}
use Rattle.grammar.specs.Statement.{BodyOf, HeadOf, atom_head, choice_head, theory_head, ArrowOf, no_arrow, arrow, constraint}
use Rattle.grammar.specs.Check.{stands_alone, operand_is_difference, is_directive, first_of, fails_where}
use Rattle.grammar.specs.Reading.{Fault, Expected, Reader, maybe_with, marked_with, closed_with, pair_with, level}
use Rattle.grammar.specs.StatementReading.{arrow_of, rule_of, body_with, head_with, arrow_with, rule_with, constraint_with}
use Rattle.grammar.proofs.Pairs.{weak_of}
use Rattle.grammar.proofs.HeadLaws.{head_on, head_law}
use Rattle.theory_grammar.specs.State.{named, seen_places}
use Rattle.theory_grammar.proofs.FirstFails.{first_append}
use Rattle.asp_parser.specs.declared.kept.Kept.{Kept}
use Rattle.asp_parser.specs.declared.statement.Draft.TheVariants as draft
use Rattle.asp_parser.specs.StatementState.{Takes, failing_of, pair_class, body_class, head_class, stands_alone_there, arrow_class, rule_class, constraint_class}
use Rattle.asp_parser.proofs.FirstLaws.{noted_beside}
use Rattle.asp_parser.proofs.ReadLaws.{starts_by, mapped_ok, mapped_err, maybe_gone, maybe_ok, maybe_err, pair_ok, pair_first_err, pair_second_err, marked_is, closed_ok, closed_gone, closed_err}
use Rattle.asp_parser.proofs.TakeLaws.{recast, nothing, behind_form, pair_take}

abbrev Body : Type 0
Body = Option (BodyOf (Operand 64) (Room 64))

abbrev behind_head : Reader (Option Body)
behind_head = maybe_with (is_word m.Arrow) (marked_with m.Arrow (body_with (level 64)))

abbrev rule_parts : Reader (HeadOf (Operand 64) (Room 64) × ArrowOf (Operand 64) (Room 64))
rule_parts = pair_with (head_with (level 64)) (arrow_with (level 64))

abbrev is_alone : HeadOf (Operand 64) (Room 64) → Bool
is_alone = stands_alone (operand_words 64) (operand_shape 64) (operand_bads 64) (operand_is_difference 64)

alone_there : (names : List Name) (h : HeadOf (Operand 64) (Room 64)) → stands_alone_there (head_class.tree names h) ≡ is_alone h
alone_there names (atom_head a) = refl
alone_there names (choice_head c) = refl
alone_there names (theory_head a) = ap (λ t. is_directive t.name) (out-roll-TheoryAtom _)

module _ (text : List ℕ) (tokens : List Token) where
  abbrev here : ℕ → List Word
  here at = words_at text tokens at

  -- ---- what stands behind a head
  pub arrow_none : (at : ℕ) (refused : Bool) (kept : Kept) (value : List Literal) → is_next m.Arrow (here at) ≡ false → at ≤ length tokens → value ≡ [] → Takes (arrow_class refused) text tokens at kept kept (value, false) at
  arrow_none at refused kept value gone within none =
      nothing text tokens (arrow_class refused) no_arrow at kept (value, false) within
      (mapped_ok arrow_of behind_head (here at) None (here at) (maybe_gone (is_word m.Arrow) (marked_with m.Arrow (body_with (level 64))) (here at) (starts_by m.Arrow (here at) ∙ gone))) refl refl (λ later. ap (λ z. (z, false)) none)

  pub arrow_some : (at : ℕ) (refused : Bool) (old mid new : Kept) (value : List Literal) (next : ℕ) → is_next m.Arrow (here at) ≡ true → mid ≡ record old { failing = first_of old.failing (fails_where refused WrongPlace at) }
      → Takes body_class text tokens (at + 1) mid new value next → Takes (arrow_class refused) text tokens at old new (value, true) next
  arrow_some at refused old mid new value next there e t = let f = t.forward in record {
    form = arrow t.form;
    is = mapped_ok arrow_of behind_head (here at) (Some t.form) (here next)
        (maybe_ok (is_word m.Arrow) (marked_with m.Arrow (body_with (level 64))) (here at) t.form (here next) (starts_by m.Arrow (here at) ∙ there) (marked_is text tokens m.Arrow (body_with (level 64)) at there ∙ t.is));
    forward = omega (arith, f);
    within = t.within;
    names = t.names ∙ ap (λ k. named k.seen.names (body_class.sights t.form (at + 1))) e;
    places = t.places ∙ ap (λ k. k.seen.places ++ seen_places tokens k.seen.names (body_class.sights t.form (at + 1))) e;
    failing = t.failing ∙ ap (λ z. first_of z (body_class.fails t.form (at + 1))) (ap failing_of e ∙ noted_beside old.failing old.seen.bad (fails_where refused WrongPlace at))
        ∙ sym (first_append (failing_of old) (fails_where refused WrongPlace at) (body_class.fails t.form (at + 1)));
    tree = λ later h. ap (λ z. (z, true)) (t.tree later h);
  }

  pub arrow_fails : (at : ℕ) (f : Fault) → is_next m.Arrow (here at) ≡ true → body_with (level 64) (here (at + 1)) ≡ Err f → arrow_with (level 64) (here at) ≡ Err f
  arrow_fails at f there h =
      mapped_err arrow_of behind_head (here at) f (maybe_err (is_word m.Arrow) (marked_with m.Arrow (body_with (level 64))) (here at) f (starts_by m.Arrow (here at) ∙ there) (marked_is text tokens m.Arrow (body_with (level 64)) at there ∙ h))

  -- ---- rules with a head
  pub rule_take : (at : ℕ) (old mid new : Kept) (value : Head) (literals : List Literal) (written refused : Bool) (middle dot : ℕ) → Takes head_class text tokens at old mid value middle → refused ≡ stands_alone_there value
      → Takes (arrow_class refused) text tokens middle mid new (literals, written) dot → is_next m.Dot (here dot) ≡ true → dot + 1 ≤ length tokens → Takes rule_class text tokens at old new (draft.Rule value literals written) (dot + 1)
  unfolding pair_take
  rule_take at old mid new value literals written refused middle dot t is_refused u closes within =
      let alone : refused ≡ is_alone t.form = is_refused ∙ ap stands_alone_there (t.tree mid.seen.names ([], sym (append-nil mid.seen.names))) ∙ alone_there mid.seen.names t.form in
      let v : Takes (arrow_class (is_alone t.form)) text tokens middle mid new (literals, written) dot = subst (λ b. Takes (arrow_class b) text tokens middle mid new (literals, written) dot) alone u in
      let place = behind_form text tokens head_class (head_on 64) (weak_of head_class.words (head_on 64) head_class.read (head_law 64)) at old mid value middle t in
      let both = pair_take text tokens head_class (arrow_class (is_alone t.form)) at old mid new value (literals, written) middle dot t v place in
      recast text tokens (pair_class head_class (arrow_class (is_alone t.form))) rule_class rule_of at at old new (value, (literals, written)) (draft.Rule value literals written) dot both (dot + 1) (omega arith) (omega arith) within
      (mapped_ok rule_of (closed_with m.Dot rule_parts) (here at) both.form (here (dot + 1)) (closed_ok text tokens m.Dot rule_parts at both.form dot both.is closes)) refl refl (λ later e. ap (λ p. draft.Rule p.0 p.1.0 p.1.1) e)

  pub rule_head_fails : (at : ℕ) (f : Fault) → head_with (level 64) (here at) ≡ Err f → rule_with (level 64) (here at) ≡ Err f
  rule_head_fails at f h = mapped_err rule_of (closed_with m.Dot rule_parts) (here at) f (closed_err text tokens m.Dot rule_parts at f (pair_first_err (head_with (level 64)) (arrow_with (level 64)) (here at) f h))

  pub rule_arrow_fails : (at : ℕ) (old mid : Kept) (value : Head) (middle : ℕ) (f : Fault) → Takes head_class text tokens at old mid value middle → arrow_with (level 64) (here middle) ≡ Err f → rule_with (level 64) (here at) ≡ Err f
  rule_arrow_fails at old mid value middle f t h =
      mapped_err rule_of (closed_with m.Dot rule_parts) (here at) f (closed_err text tokens m.Dot rule_parts at f (pair_second_err (head_with (level 64)) (arrow_with (level 64)) (here at) t.form (here middle) f t.is h))

  pub rule_open : (at : ℕ) (old mid new : Kept) (value : Head) (literals : List Literal × Bool) (refused : Bool) (middle dot : ℕ) → Takes head_class text tokens at old mid value middle → Takes (arrow_class refused) text tokens middle mid new literals dot
      → is_next m.Dot (here dot) ≡ false → rule_with (level 64) (here at) ≡ Err (Expected (length (here dot)))
  rule_open at old mid new value literals refused middle dot t u gone =
      mapped_err rule_of (closed_with m.Dot rule_parts) (here at) (Expected (length (here dot)))
      (closed_gone text tokens m.Dot rule_parts at (t.form, u.form) dot (pair_ok (head_with (level 64)) (arrow_with (level 64)) (here at) t.form (here middle) u.form (here dot) t.is u.is) gone)

  -- ---- rules without one
  pub constraint_take : (at : ℕ) (old new : Kept) (literals : List Literal) (dot : ℕ) → is_next m.Arrow (here at) ≡ true → Takes body_class text tokens (at + 1) old new literals dot → is_next m.Dot (here dot) ≡ true → dot + 1 ≤ length tokens
      → Takes constraint_class text tokens at old new (draft.Rule head.Nothing literals true) (dot + 1)
  constraint_take at old new literals dot there t closes within =
      recast text tokens body_class constraint_class constraint at (at + 1) old new literals (draft.Rule head.Nothing literals true) dot t (dot + 1) (omega arith) (omega arith) within
      (mapped_ok constraint (constraint_with (level 64)) (here at) t.form (here (dot + 1)) (marked_is text tokens m.Arrow (closed_with m.Dot (body_with (level 64))) at there ∙ closed_ok text tokens m.Dot (body_with (level 64)) (at + 1) t.form dot t.is closes)) refl refl
      (λ later e. ap (λ z. draft.Rule head.Nothing z true) e)

  pub constraint_fails : (at : ℕ) (f : Fault) → is_next m.Arrow (here at) ≡ true → body_with (level 64) (here (at + 1)) ≡ Err f → constraint_class.read (here at) ≡ Err f
  constraint_fails at f there h = mapped_err constraint (constraint_with (level 64)) (here at) f (marked_is text tokens m.Arrow (closed_with m.Dot (body_with (level 64))) at there ∙ closed_err text tokens m.Dot (body_with (level 64)) (at + 1) f h)

  pub constraint_open : (at : ℕ) (old new : Kept) (literals : List Literal) (dot : ℕ) → is_next m.Arrow (here at) ≡ true → Takes body_class text tokens (at + 1) old new literals dot → is_next m.Dot (here dot) ≡ false
      → constraint_class.read (here at) ≡ Err (Expected (length (here dot)))
  constraint_open at old new literals dot there t gone =
      mapped_err constraint (constraint_with (level 64)) (here at) (Expected (length (here dot)))
      (marked_is text tokens m.Arrow (closed_with m.Dot (body_with (level 64))) at there ∙ closed_gone text tokens m.Dot (body_with (level 64)) (at + 1) t.form dot t.is gone)
