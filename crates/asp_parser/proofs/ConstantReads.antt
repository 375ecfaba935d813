-- What is kept of constants.
use Rattle.std.proofs.Common.{◌≡◌, ℕ, ◌+◌, ◌-◌, ◌≤◌, true, false, List, [], ◌∷◌, ◌++◌, length, map, take, drop, Option, Some, Ok, Err, refl, sym, ◌∙◌, ap, arith}
use Rattle.std.proofs.lemmas.List.{length-drop}
use Rattle.lexer.specs.declared.token.Token.{Token}
use Rattle.syntax_tree.specs.declared.rule.Name.{Name}
use Rattle.syntax_tree.specs.declared.term.Term.{Term}
use Rattle.grammar.specs.declared.check.Failing.{Failing}
use Rattle.grammar.specs.declared.mark.Mark.TheVariants as m
use Rattle.grammar.specs.declared.shape.Shape.{Shape}
use Rattle.grammar.specs.Word.{Word, words_at, is_next}
use Rattle.grammar.specs.Word as word
use Rattle.grammar.specs.Sight.{Sighting}
use Rattle.grammar.specs.Term.{TermAt}
use Rattle.grammar.specs.Statement.{constant}
use Rattle.grammar.specs.Check.{first_of, bad_terms, sight_places}
use Rattle.grammar.specs.Reading.{Fault, Expected, Reader, starts_next, sign_at, pair_with, marked_with, closed_with, signed_with, term_at, level}
use Rattle.grammar.specs.TheoryReading.{is_name, negation_by, name_with}
use Rattle.grammar.specs.StatementReading.{is_const, const_sign, constant_of, constant_with}
use Rattle.theory_grammar.specs.declared.seen.Seen.{Seen}
use Rattle.theory_grammar.specs.State.{Reads, seen_places, with_sight}
use Rattle.theory_grammar.specs.TheoryState.{whole_class, judged_class}
use Rattle.theory_grammar.specs.TheoryParts.{with_bad}
use Rattle.theory_grammar.proofs.FirstFails.{first_append}
use Rattle.asp_parser.specs.declared.kept.Kept.{Kept}
use Rattle.asp_parser.specs.declared.statement.Draft.TheVariants as draft
use Rattle.asp_parser.specs.StatementState.{Takes, failing_of, constant_class}
use Rattle.asp_parser.proofs.FirstLaws.{noted_beside, bads_more, first_last}
use Rattle.asp_parser.proofs.ReadLaws.{mapped_ok, mapped_err, pair_ok, pair_first_err, pair_second_err, marked_is, marked_gone, closed_ok, closed_gone, closed_err, signed_ok, signed_err}

abbrev valued : Reader (TermAt 64)
valued = marked_with m.Equal (closed_with m.Dot (term_at 64))

abbrev named_value : Reader (List ℕ × TermAt 64)
named_value = pair_with name_with valued

abbrev whole_read : Reader (Unit {0} × (List ℕ × TermAt 64))
whole_read = signed_with const_sign named_value

const_there : (ts : List Word) → starts_next is_const ts ≡ true → sign_at const_sign ts ≡ Some tt
const_there [] h = absurd cc
const_there (w ∷ ts) h = ap negation_by h

pub name_gone : (ts : List Word) → starts_next is_name ts ≡ false → name_with ts ≡ Err (Expected (length ts))
name_gone [] h = refl
name_gone (word.name n ∷ ts) h = absurd cc
name_gone (word.numeral n ∷ ts) h = refl
name_gone (word.variable n ∷ ts) h = refl
name_gone (word.anonymous ∷ ts) h = refl
name_gone (word.string n ∷ ts) h = refl
name_gone (word.negation ∷ ts) h = refl
name_gone (word.const_word ∷ ts) h = refl
name_gone (word.show_word ∷ ts) h = refl
name_gone (word.mark n ∷ ts) h = refl

-- the places of what is seen are the words where it is
ats_seen : (tokens : List Token) (names : List Name) (sights : List Sighting) → map (λ p. p.at) (seen_places tokens names sights) ≡ sight_places sights
ats_seen tokens names [] = refl
ats_seen tokens names (s ∷ sights) = ap (λ z. s.at ∷ z) (ats_seen tokens (with_sight names s.sight) sights)

drop_all : {X : Type 0} (xs ys : List X) → drop (length xs) (xs ++ ys) ≡ ys
drop_all [] ys = refl
drop_all (x ∷ xs) ys = drop_all xs ys

whole_take : {X : Type 0} (xs : List X) → take (length xs) xs ≡ xs
whole_take [] = refl
whole_take (x ∷ xs) = ap (λ z. x ∷ z) (whole_take xs)

-- all from a place on
pub rest_all : {X : Type 0} (xs : List X) (n : ℕ) → take (length xs - n) (drop n xs) ≡ drop n xs
rest_all xs n = ap (λ k. take k (drop n xs)) (sym (length-drop n xs)) ∙ whole_take (drop n xs)

module _ (text : List ℕ) (tokens : List Token) where
  abbrev here : ℕ → List Word
  here at = words_at text tokens at

  in_constant : (at : ℕ) (f : Fault) → starts_next is_const (here at) ≡ true → named_value (here (at + 1)) ≡ Err f → constant_with (level 64) (here at) ≡ Err f
  in_constant at f begins h = mapped_err constant_of whole_read (here at) f (signed_err text tokens const_sign named_value at tt f (const_there (here at) begins) h)

  pub constant_unnamed : (at : ℕ) → starts_next is_const (here at) ≡ true → starts_next is_name (here (at + 1)) ≡ false → constant_with (level 64) (here at) ≡ Err (Expected (length (here (at + 1))))
  constant_unnamed at begins gone = in_constant at (Expected (length (here (at + 1)))) begins (pair_first_err name_with valued (here (at + 1)) (Expected (length (here (at + 1)))) (name_gone (here (at + 1)) gone))

  module _ (at : ℕ) (name : List ℕ) (begins : starts_next is_const (here at) ≡ true) (spelled : here (at + 1) ≡ word.name name ∷ here (at + 1 + 1)) where
    name_is : name_with (here (at + 1)) ≡ Ok (name, here (at + 2))
    name_is = ap name_with spelled ∙ ap (λ n. Ok (name, here n)) (omega arith)

    behind_name : (f : Fault) → valued (here (at + 2)) ≡ Err f → constant_with (level 64) (here at) ≡ Err f
    behind_name f h = in_constant at f begins (pair_second_err name_with valued (here (at + 1)) name (here (at + 2)) f name_is h)

    pub constant_unequal : is_next m.Equal (here (at + 2)) ≡ false → constant_with (level 64) (here at) ≡ Err (Expected (length (here (at + 2))))
    constant_unequal gone = behind_name (Expected (length (here (at + 2)))) (marked_gone text tokens m.Equal (closed_with m.Dot (term_at 64)) (at + 2) gone)

    module _ (equal : is_next m.Equal (here (at + 2)) ≡ true) where
      value_at : valued (here (at + 2)) ≡ closed_with m.Dot (term_at 64) (here (at + 3))
      value_at = marked_is text tokens m.Equal (closed_with m.Dot (term_at 64)) (at + 2) equal ∙ ap (λ n. closed_with m.Dot (term_at 64) (here n)) (omega arith)

      pub constant_term_fails : (f : Fault) → term_at 64 (here (at + 3)) ≡ Err f → constant_with (level 64) (here at) ≡ Err f
      constant_term_fails f h = behind_name f (value_at ∙ closed_err text tokens m.Dot (term_at 64) (at + 3) f h)

      pub constant_open : (t : TermAt 64) (dot : ℕ) → term_at 64 (here (at + 3)) ≡ Ok (t, here dot) → is_next m.Dot (here dot) ≡ false → constant_with (level 64) (here at) ≡ Err (Expected (length (here dot)))
      constant_open t dot is gone = behind_name (Expected (length (here dot))) (value_at ∙ closed_gone text tokens m.Dot (term_at 64) (at + 3) t dot is gone)

      pub constant_take : (old : Kept) (mid : Seen) (failing : Option Failing) (term : Term) (shape : Shape) (dot : ℕ) → Reads (judged_class false) text tokens (at + 3) old.seen mid term shape dot → is_next m.Dot (here dot) ≡ true → dot + 1 ≤ length tokens
          → failing ≡ first_of old.failing (bad_terms (map (λ p. p.at) (drop (length old.seen.places) mid.places))) → Takes constant_class text tokens at old (record { seen = mid; failing = failing }) (draft.Constant name term) (dot + 1)
      constant_take old mid failing term shape dot r closes within same =
          let f = r.forward in
          let sights = whole_class.sights r.form (at + 3) in
          let places : map (λ p. p.at) (drop (length old.seen.places) mid.places) ≡ sight_places sights =
          ap (λ z. map (λ p. p.at) (drop (length old.seen.places) z)) r.places ∙ ap (map (λ p. p.at)) (drop_all old.seen.places (seen_places tokens old.seen.names sights)) ∙ ats_seen tokens old.seen.names sights in
          let seen_bad = bad_terms (sight_places sights) in
          let bads = (judged_class false).bads r.form (at + 3) in
          record {
            form = constant name r.form;
            is = mapped_ok constant_of whole_read (here at) (tt, (name, r.form)) (here (dot + 1))
                (signed_ok text tokens const_sign named_value at tt (name, r.form) (here (dot + 1)) (const_there (here at) begins)
                (pair_ok name_with valued (here (at + 1)) name (here (at + 2)) r.form (here (dot + 1)) name_is (value_at ∙ closed_ok text tokens m.Dot (term_at 64) (at + 3) r.form dot r.is closes)));
            forward = omega (arith, f);
            within = within;
            names = r.names;
            places = r.places;
            failing = ap (λ z. with_bad z mid.bad) (same ∙ ap (λ z. first_of old.failing (bad_terms z)) places) ∙ noted_beside old.failing mid.bad seen_bad
                ∙ ap (λ z. first_of z seen_bad) (ap (with_bad old.failing) r.bad ∙ bads_more old.failing old.seen.bad bads)
                ∙ first_last (failing_of old) (bad_terms bads) seen_bad ∙ sym (first_append (failing_of old) seen_bad (bad_terms bads));
            tree = λ later h. ap (draft.Constant name) (r.tree later h);
          }
