-- What is kept of theory atoms, literals and bodies.
use Rattle.std.proofs.Common.{◌≡◌, ℕ, ◌+◌, ◌≤◌, Bool, true, false, not, ◌||◌, List, [], ◌∷◌, ◌++◌, length, Option, Some, None, Result, Ok, Err, refl, sym, ◌∙◌, ap, subst, arith}
use Rattle.std.specs.Option.{is_some}
use Rattle.std.proofs.lemmas.List.{append-nil}
use Rattle.lexer.specs.declared.token.Token.{Token}
use Rattle.syntax_tree.specs.declared.rule.Name.{Name}
use Rattle.syntax_tree.specs.declared.term.Term.{Term}
use Rattle.syntax_tree.specs.declared.literal.Literal.{Literal}
use Rattle.syntax_tree.specs.declared.literal.Literal.TheVariants as literal
use Rattle.syntax_tree.specs.declared.literal.Literal.TheViews.{out-roll-TheoryAtom}
use Rattle.syntax_tree.specs.declared.literal.TheoryAtom.{TheoryAtom, roll-TheoryAtom, out-TheoryAtom}
use Rattle.syntax_tree.specs.declared.literal.TheoryName.{TheoryName}
use Rattle.grammar.specs.declared.check.Check.TheVariants.{WrongPlace}
use Rattle.grammar.specs.declared.check.Failing.{Failing}
use Rattle.grammar.specs.declared.mark.Mark.{Mark}
use Rattle.grammar.specs.declared.mark.Mark.TheVariants as m
use Rattle.grammar.specs.declared.shape.Shape.TheVariants.{Other}
use Rattle.grammar.specs.Word.{Word, words_at, is_word, is_next}
use Rattle.grammar.specs.Term.{AtomAt, Operand, Room}
use Rattle.grammar.specs.Theory.{TheoryAt, holds}
use Rattle.grammar.specs.Statement.{LiteralOf, simple, theory, Separating, separating, separating_word}
use Rattle.grammar.specs.StatementTree.{theory_name, theory_tree, items_of, element_tree}
use Rattle.grammar.specs.Tree.{unary_tree, operand_tree}
use Rattle.grammar.specs.Check.{is_literal, first_of, fails_where}
use Rattle.grammar.specs.Reading.{Fault, Outcome, Either, one, other, and_then, starts_next, sign_at, either_with, row_with, level}
use Rattle.grammar.specs.TheoryReading.{begins, is_negation, negation_by, negation, PlainOf, condition_of, theory_at, atom_with, plain_with, condition_with}
use Rattle.grammar.specs.StatementReading.{begins_literal, literal_of, behind_not_with, literal_with}
use Rattle.grammar.proofs.LiteralLaws.{literal_on, literal_law}
use Rattle.theory_grammar.specs.declared.fault.Stop.{Stop}
use Rattle.theory_grammar.specs.declared.seen.Seen.{Seen}
use Rattle.theory_grammar.specs.declared.theory.AtomParts.{AtomParts}
use Rattle.theory_grammar.specs.State.{Reads, PlainRead, Extends}
use Rattle.theory_grammar.specs.TheoryState.{atom_class, condition_class}
use Rattle.theory_grammar.specs.TheoryParts.{ReadsTheory, with_bad, first_by}
use Rattle.theory_grammar.proofs.TermReads.{fails_along}
use Rattle.theory_grammar.proofs.PartReads.{taken}
use Rattle.theory_grammar.proofs.ConditionReads.{positive_is}
use Rattle.theory_grammar.proofs.TheoryLemmas.{first_same}
use Rattle.asp_parser.specs.declared.kept.Kept.{Kept}
use Rattle.asp_parser.specs.StatementState.{Takes, Taken, failing_of, lifted, theory_class, placed_class, literal_class, literals_class, body_class}
use Rattle.asp_parser.proofs.FirstLaws.{noted_last, noted_beside}
use Rattle.asp_parser.proofs.ReadLaws.{starts_by, mapped_ok, mapped_err, one_ok, one_err, other_ok, other_err, maybe_gone, maybe_ok, maybe_err, signed_ok, signed_err}
use Rattle.asp_parser.proofs.TakeLaws.{lift_take, recast, nothing, Partial, row_start, row_more, row_done, row_fails, first_fails}

abbrev Negatable : Type 0
Negatable = Either (TheoryAt 64) (AtomAt 64)

negation_sign : (ts : List Word) → starts_next is_negation ts ≡ true → sign_at negation ts ≡ Some tt
negation_sign [] h = absurd cc
negation_sign (w ∷ ts) h = ap negation_by h

-- a condition that is read is read as a literal
as_literal_by : (r : Outcome (PlainOf (Operand 64) (Room 64)))
    → and_then (and_then (and_then r (λ b rest. Ok (other b, rest))) (λ b rest. Ok (other b, rest))) (λ a rest. Ok (literal_of a, rest))
    ≡ and_then (and_then (and_then r (λ b rest. Ok (other b, rest))) (λ a rest. Ok (condition_of a, rest))) (λ c rest. Ok (simple c, rest))
as_literal_by (Ok (one a, rest)) = refl
as_literal_by (Ok (other sides, rest)) = refl
as_literal_by (Err f) = refl

plain_literal : (ts : List Word) → starts_next is_negation ts ≡ false → starts_next (is_word m.And) ts ≡ false
    → literal_with (level 64) ts ≡ and_then (and_then (and_then (plain_with (level 64) ts) (λ b rest. Ok (other b, rest))) (λ b rest. Ok (other b, rest))) (λ a rest. Ok (literal_of a, rest))
plain_literal ts h g = rw (h, g) refl

module _ (text : List ℕ) (tokens : List Token) where
  abbrev here : ℕ → List Word
  here at = words_at text tokens at

  -- ---- theory atoms
  pub theory_take : (at : ℕ) (old new : Kept) (seen : Seen) (parts : AtomParts) (value : TheoryAtom) → ReadsTheory text tokens at (record { names = old.seen.names; places = old.seen.places; bad = None }) seen parts
      → new ≡ record { seen = record { names = seen.names; places = seen.places; bad = None }; failing = first_by (failing_of old) parts at } → value ≡ roll-TheoryAtom (record { name = parts.name; elements = parts.elements; guard = parts.guard })
      → Takes theory_class text tokens at old new value parts.next
  theory_take at old new seen parts value r e made = record {
    form = r.form;
    is = r.is;
    forward = let b = r.begun in omega (arith, b);
    within = r.within;
    names = ap (λ k. k.seen.names) e ∙ r.names;
    places = ap (λ k. k.seen.places) e ∙ r.places;
    failing = ap failing_of e ∙ first_same text tokens (failing_of old) at (record { names = old.seen.names; places = old.seen.places; bad = None }) seen parts r;
    tree = λ later h.
        let so : Extends seen.names later = subst (λ z. Extends z later) (ap (λ k. k.seen.names) e) h in
        made ∙ ap (λ n. roll-TheoryAtom (record { name = n; elements = parts.elements; guard = parts.guard })) r.name
        ∙ ap (λ es. roll-TheoryAtom (record { name = theory_name r.form.name; elements = es; guard = parts.guard })) (r.elements later so)
        ∙ ap (λ g. roll-TheoryAtom (record { name = theory_name r.form.name; elements = items_of (element_tree (operand_tree later 64) (unary_tree later (operand_tree later 64))) r.form.elements; guard = g })) (r.guard later so);
  }

  name_there : (names : List Name) (form : TheoryAt 64) → (out-TheoryAtom (theory_class.tree names form)).name ≡ theory_name form.name
  name_there names form = ap (λ a. a.name) (out-roll-TheoryAtom _)

  pub placed_take : (at : ℕ) (old mid new : Kept) (atom : TheoryAtom) (value : Literal) (held wrong : Bool) (next : ℕ) → Takes theory_class text tokens at old mid atom next → wrong ≡ not (is_literal (out-TheoryAtom atom).name)
      → new ≡ record mid { failing = first_of mid.failing (fails_where wrong WrongPlace at) } → value ≡ literal.Theory atom held → Takes (placed_class held) text tokens at old new value next
  placed_take at old mid new atom value held wrong next t is_wrong e made =
      let wrong_form : wrong ≡ not (is_literal (theory_name t.form.name)) = is_wrong ∙ ap (λ a. not (is_literal (out-TheoryAtom a).name)) (t.tree mid.seen.names (extends_self mid.seen.names)) ∙ ap (λ n. not (is_literal n)) (name_there mid.seen.names t.form) in
      record {
        form = t.form;
        is = t.is;
        forward = t.forward;
        within = t.within;
        names = ap (λ k. k.seen.names) e ∙ t.names;
        places = ap (λ k. k.seen.places) e ∙ t.places;
        failing = ap failing_of e ∙ noted_beside mid.failing mid.seen.bad (fails_where wrong WrongPlace at) ∙ ap (λ z. first_of z (fails_where wrong WrongPlace at)) t.failing
            ∙ noted_last (failing_of old) (theory_class.fails t.form at) wrong WrongPlace at ∙ ap (λ b. first_of (failing_of old) (fails_where b WrongPlace at ++ theory_class.fails t.form at)) wrong_form;
        tree = λ later h. made ∙ ap (λ a. literal.Theory a held) (t.tree later (subst (λ z. Extends z later) (ap (λ k. k.seen.names) e) h));
      }
    where
      extends_self : (names : List Name) → Extends names names
      extends_self names = ([], sym (append-nil names))

  -- ---- behind `not`
  not_ok : (at : ℕ) (e : Negatable) (rest : List Word) → starts_next is_negation (here at) ≡ true → either_with (is_word m.And) (theory_at 64) (atom_with (level 64)) (here (at + 1)) ≡ Ok (e, rest)
      → literal_with (level 64) (here at) ≡ Ok (literal_of (one (tt, e)), rest)
  not_ok at e rest h g =
      mapped_ok literal_of (either_with is_negation (behind_not_with (level 64)) (either_with (is_word m.And) (theory_at 64) (plain_with (level 64)))) (here at) (one (tt, e)) rest
      (one_ok is_negation (behind_not_with (level 64)) (either_with (is_word m.And) (theory_at 64) (plain_with (level 64))) (here at) (tt, e) rest h
      (signed_ok text tokens negation (either_with (is_word m.And) (theory_at 64) (atom_with (level 64))) at tt e rest (negation_sign (here at) h) g))

  not_err : (at : ℕ) (f : Fault) → starts_next is_negation (here at) ≡ true → either_with (is_word m.And) (theory_at 64) (atom_with (level 64)) (here (at + 1)) ≡ Err f → literal_with (level 64) (here at) ≡ Err f
  not_err at f h g =
      mapped_err literal_of (either_with is_negation (behind_not_with (level 64)) (either_with (is_word m.And) (theory_at 64) (plain_with (level 64)))) (here at) f
      (one_err is_negation (behind_not_with (level 64)) (either_with (is_word m.And) (theory_at 64) (plain_with (level 64))) (here at) f h
      (signed_err text tokens negation (either_with (is_word m.And) (theory_at 64) (atom_with (level 64))) at tt f (negation_sign (here at) h) g))

  pub not_theory : (at : ℕ) (old new : Kept) (r : Result (Literal × ℕ) Stop) → starts_next is_negation (here at) ≡ true → is_next m.And (here (at + 1)) ≡ true → Taken (placed_class false) text tokens (at + 1) old new r → Taken literal_class text tokens at old new r
  not_theory at old new (Ok p) h g t =
      recast text tokens (placed_class false) literal_class (theory false) at (at + 1) old new p.0 p.0 p.1 t p.1 (omega arith) (omega arith) t.within
      (not_ok at (one t.form) (here p.1) h (one_ok (is_word m.And) (theory_at 64) (atom_with (level 64)) (here (at + 1)) t.form (here p.1) (starts_by m.And (here (at + 1)) ∙ g) t.is)) refl refl (λ later e. e)
  not_theory at old new (Err failed) h g t =
      fails_along text tokens failed (theory_at 64 (here (at + 1))) _ (λ f e. not_err at f h (one_err (is_word m.And) (theory_at 64) (atom_with (level 64)) (here (at + 1)) f (starts_by m.And (here (at + 1)) ∙ g) e)) t

  pub not_atom : (at : ℕ) (old : Kept) (seen : Seen) (term : Term) (next : ℕ) → starts_next is_negation (here at) ≡ true → is_next m.And (here (at + 1)) ≡ false → Reads atom_class text tokens (at + 1) old.seen seen term Other next
      → Takes literal_class text tokens at old (record { seen = seen; failing = old.failing }) (literal.Atom term false) next
  not_atom at old seen term next h g r =
      let t = lift_take text tokens atom_class (at + 1) old seen term next (taken text tokens atom_class (at + 1) old.seen seen term Other next r) in
      recast text tokens (lifted atom_class) literal_class (λ a. simple (holds false a)) at (at + 1) old (record { seen = seen; failing = old.failing }) term (literal.Atom term false) next t next (omega arith) (omega arith) t.within
      (not_ok at (other t.form) (here next) h (other_ok (is_word m.And) (theory_at 64) (atom_with (level 64)) (here (at + 1)) t.form (here next) (starts_by m.And (here (at + 1)) ∙ g) t.is)) refl refl (λ later e. ap (λ z. literal.Atom z false) e)

  pub not_atom_fails : (at : ℕ) (f : Fault) → starts_next is_negation (here at) ≡ true → is_next m.And (here (at + 1)) ≡ false → atom_with (level 64) (here (at + 1)) ≡ Err f → literal_with (level 64) (here at) ≡ Err f
  not_atom_fails at f h g e = not_err at f h (other_err (is_word m.And) (theory_at 64) (atom_with (level 64)) (here (at + 1)) f (starts_by m.And (here (at + 1)) ∙ g) e)

  -- ---- without `not`
  pub held_theory : (at : ℕ) (old new : Kept) (r : Result (Literal × ℕ) Stop) → starts_next is_negation (here at) ≡ false → is_next m.And (here at) ≡ true → Taken (placed_class true) text tokens at old new r → Taken literal_class text tokens at old new r
  held_theory at old new (Ok p) h g t =
      recast text tokens (placed_class true) literal_class (theory true) at at old new p.0 p.0 p.1 t p.1 (omega arith) (omega arith) t.within
      (mapped_ok literal_of (either_with is_negation (behind_not_with (level 64)) (either_with (is_word m.And) (theory_at 64) (plain_with (level 64)))) (here at) (other (one t.form)) (here p.1)
      (other_ok is_negation (behind_not_with (level 64)) (either_with (is_word m.And) (theory_at 64) (plain_with (level 64))) (here at) (one t.form) (here p.1) h
      (one_ok (is_word m.And) (theory_at 64) (plain_with (level 64)) (here at) t.form (here p.1) (starts_by m.And (here at) ∙ g) t.is))) refl refl (λ later e. e)
  held_theory at old new (Err failed) h g t =
      fails_along text tokens failed (theory_at 64 (here at)) _
      (λ f e. mapped_err literal_of (either_with is_negation (behind_not_with (level 64)) (either_with (is_word m.And) (theory_at 64) (plain_with (level 64)))) (here at) f
      (other_err is_negation (behind_not_with (level 64)) (either_with (is_word m.And) (theory_at 64) (plain_with (level 64))) (here at) f h
      (one_err (is_word m.And) (theory_at 64) (plain_with (level 64)) (here at) f (starts_by m.And (here at) ∙ g) e))) t

  as_literal : (at : ℕ) → starts_next is_negation (here at) ≡ false → is_next m.And (here at) ≡ false → literal_with (level 64) (here at) ≡ and_then (condition_with (level 64) (here at)) (λ c rest. Ok (simple c, rest))
  as_literal at h g =
      plain_literal (here at) h (starts_by m.And (here at) ∙ g) ∙ as_literal_by (plain_with (level 64) (here at)) ∙ ap (λ r. and_then r (λ c rest. Ok (simple c, rest))) (sym (positive_is text tokens (here at) h))

  pub held_condition : (at : ℕ) (old : Kept) (seen : Seen) (r : Result (Literal × ℕ) Stop) → starts_next is_negation (here at) ≡ false → is_next m.And (here at) ≡ false → PlainRead condition_class text tokens at old.seen seen r
      → Taken literal_class text tokens at old (record { seen = seen; failing = old.failing }) r
  held_condition at old seen (Ok p) h g r =
      let t = lift_take text tokens condition_class at old seen p.0 p.1 (taken text tokens condition_class at old.seen seen p.0 Other p.1 r) in
      recast text tokens (lifted condition_class) literal_class simple at at old (record { seen = seen; failing = old.failing }) p.0 p.0 p.1 t p.1 (omega arith) (omega arith) t.within
      (as_literal at h g ∙ ap (λ r. and_then r (λ c rest. Ok (simple c, rest))) t.is) refl refl (λ later e. e)
  held_condition at old seen (Err failed) h g r = fails_along text tokens failed (condition_with (level 64) (here at)) _ (λ f e. as_literal at h g ∙ ap (λ r. and_then r (λ c rest. Ok (simple c, rest))) e) r

  -- ---- literals with `,` or `;` between them
  abbrev pub Literals : (at : ℕ) (old new : Kept) (found : List Literal) (next : ℕ) → Type 0
  Literals = Partial literal_class (literal_on 64) (literal_law 64) separating_word separating text tokens

  some_sign : (o : Option Separating) → is_some o ≡ true → (s : Separating) × (o ≡ Some s)
  some_sign (Some s) h = (s, refl)
  some_sign None h = absurd cc

  no_sign : (o : Option Separating) → is_some o ≡ false → o ≡ None
  no_sign (Some s) h = absurd cc
  no_sign None h = refl

  pub literals_start : (at : ℕ) (old new : Kept) (value : Literal) (next : ℕ) (found : List Literal) → Takes literal_class text tokens at old new value next → found ≡ value ∷ [] → Literals at old new found next
  literals_start = row_start literal_class (literal_on 64) (literal_law 64) separating_word separating text tokens

  pub literals_more : (at : ℕ) (old mid new : Kept) (found : List Literal) (next : ℕ) (value : Literal) (after : ℕ) (pushed : List Literal) → Literals at old mid found next → is_some (sign_at separating (here next)) ≡ true
      → Takes literal_class text tokens (next + 1) mid new value after → pushed ≡ found ++ value ∷ [] → Literals at old new pushed after
  literals_more at old mid new found next value after pushed p there t e =
      let s = some_sign (sign_at separating (here next)) there in
      row_more literal_class (literal_on 64) (literal_law 64) separating_word separating text tokens at old mid new found next s.0 value after pushed p s.1 t e

  pub literals_fail : (at : ℕ) (old mid : Kept) (found : List Literal) (next : ℕ) (f : Fault) → Literals at old mid found next → is_some (sign_at separating (here next)) ≡ true → literal_with (level 64) (here (next + 1)) ≡ Err f
      → row_with (literal_with (level 64)) separating (here at) ≡ Err f
  literals_fail at old mid found next f p there e =
      let s = some_sign (sign_at separating (here next)) there in
      row_fails literal_class (literal_on 64) (literal_law 64) separating_word separating text tokens at old mid found next s.0 f p s.1 e

  pub literals_done : (at : ℕ) (old new : Kept) (found : List Literal) (next : ℕ) → Literals at old new found next → is_some (sign_at separating (here next)) ≡ false → Takes literals_class text tokens at old new found next
  literals_done at old new found next p gone = row_done literal_class (literal_on 64) (literal_law 64) separating_word separating text tokens at old new found next p (no_sign (sign_at separating (here next)) gone)

  pub first_literal_fails : (at : ℕ) (f : Fault) → literal_with (level 64) (here at) ≡ Err f → row_with (literal_with (level 64)) separating (here at) ≡ Err f
  first_literal_fails at f h = first_fails literal_class (literal_on 64) (literal_law 64) separating_word separating text tokens at f h

  -- ---- bodies
  pub body_none : (at : ℕ) (kept : Kept) (value : List Literal) → starts_next begins_literal (here at) ≡ false → at ≤ length tokens → value ≡ [] → Takes body_class text tokens at kept kept value at
  body_none at kept value gone within none = nothing text tokens body_class None at kept value within (maybe_gone begins_literal (row_with (literal_with (level 64)) separating) (here at) gone) refl refl (λ later. none)

  pub body_some : (at : ℕ) (old new : Kept) (r : Result (List Literal × ℕ) Stop) → starts_next begins_literal (here at) ≡ true → Taken literals_class text tokens at old new r → Taken body_class text tokens at old new r
  body_some at old new (Ok p) begun t =
      recast text tokens literals_class body_class Some at at old new p.0 p.0 p.1 t p.1 (omega arith) (omega arith) t.within (maybe_ok begins_literal (row_with (literal_with (level 64)) separating) (here at) t.form (here p.1) begun t.is) refl refl (λ later e. e)
  body_some at old new (Err failed) begun t = fails_along text tokens failed (row_with (literal_with (level 64)) separating (here at)) _ (λ f e. maybe_err begins_literal (row_with (literal_with (level 64)) separating) (here at) f begun e) t
