-- What is kept of predicates to show: nothing.
use Rattle.std.proofs.Common.{◌≡◌, ℕ, ◌+◌, ◌≤◌, true, false, List, [], ◌∷◌, ◌++◌, length, Some, Ok, Err, refl, sym, ◌∙◌, ap, arith}
use Rattle.std.proofs.lemmas.List.{append-nil}
use Rattle.lexer.specs.declared.token.Token.{Token}
use Rattle.syntax_tree.specs.declared.rule.Name.{Name}
use Rattle.grammar.specs.declared.mark.Mark.TheVariants as m
use Rattle.grammar.specs.declared.words.WordKind.{WordKind}
use Rattle.grammar.specs.declared.words.WordKind.TheVariants as kinds
use Rattle.grammar.specs.Spelled.{word_by}
use Rattle.grammar.specs.Word.{Word, words_at, is_word, is_next}
use Rattle.grammar.specs.Word as word
use Rattle.grammar.specs.Statement.{show, show_nothing}
use Rattle.grammar.specs.Check.{first_of}
use Rattle.grammar.specs.Reading.{Fault, Expected, Reader, Either, one, other, starts_next, sign_at, pair_with, marked_with, closed_with, signed_with, either_with, level}
use Rattle.grammar.specs.TheoryReading.{is_name, negation_by, name_with}
use Rattle.grammar.specs.StatementReading.{is_show, show_sign, numeral_with, mark_with, show_of, show_with}
use Rattle.theory_grammar.specs.State.{named, seen_places}
use Rattle.asp_parser.specs.declared.kept.Kept.{Kept}
use Rattle.asp_parser.specs.declared.statement.Draft.TheVariants as draft
use Rattle.asp_parser.specs.StatementState.{Class, Takes, failing_of, show_class}
use Rattle.asp_parser.proofs.ReadLaws.{mapped_ok, mapped_err, one_ok, one_err, other_ok, other_err, pair_ok, pair_second_err, before_ok, before_gone, marked_is, marked_gone, closed_ok, closed_gone, closed_err, signed_ok, signed_err}

abbrev arity_read : Reader ℕ
arity_read = marked_with m.Divide (closed_with m.Dot numeral_with)

abbrev shown_read : Reader (List ℕ × ℕ)
shown_read = pair_with name_with arity_read

abbrev behind_show : Reader (Either (List ℕ × ℕ) (Unit {0}))
behind_show = either_with is_name shown_read (mark_with m.Dot)

show_there : (ts : List Word) → starts_next is_show ts ≡ true → sign_at show_sign ts ≡ Some tt
show_there [] h = absurd cc
show_there (w ∷ ts) h = ap negation_by h

dot_no_name : (ts : List Word) → is_next m.Dot ts ≡ true → starts_next is_name ts ≡ false
dot_no_name [] h = absurd cc
dot_no_name (word.name n ∷ ts) h = absurd cc
dot_no_name (word.numeral n ∷ ts) h = refl
dot_no_name (word.variable n ∷ ts) h = refl
dot_no_name (word.anonymous ∷ ts) h = refl
dot_no_name (word.string n ∷ ts) h = refl
dot_no_name (word.negation ∷ ts) h = refl
dot_no_name (word.const_word ∷ ts) h = refl
dot_no_name (word.show_word ∷ ts) h = refl
dot_no_name (word.mark n ∷ ts) h = refl

numeral_gone : (ts : List Word) (kind : WordKind) (spelled : List ℕ) → (kind ≡ kinds.Number → ⊥) → numeral_with (word_by kind spelled ∷ ts) ≡ Err (Expected (length (word_by kind spelled ∷ ts)))
numeral_gone ts kinds.Number spelled h = absurd (h refl)
numeral_gone ts kinds.Name spelled h = refl
numeral_gone ts kinds.Text spelled h = refl
numeral_gone ts kinds.Variable spelled h = refl
numeral_gone ts kinds.Anonymous spelled h = refl
numeral_gone ts kinds.Not spelled h = refl
numeral_gone ts kinds.Const spelled h = refl
numeral_gone ts kinds.Show spelled h = refl
numeral_gone ts (kinds.Mark mark) spelled h = refl

module _ (text : List ℕ) (tokens : List Token) where
  abbrev here : ℕ → List Word
  here at = words_at text tokens at

  -- words were read, and nothing of them is kept
  pub still : {A X : Type 0} (c : Class A X) (a : A) (at last : ℕ) (kept : Kept) (value : X) → at ≤ last → last ≤ length tokens → c.read (here at) ≡ Ok (a, here last) → c.sights a at ≡ [] → c.fails a at ≡ [] → ((later : List Name) → value ≡ c.tree later a)
      → Takes c text tokens at kept kept value last
  still c a at last kept value forward within is sights fails tree = record {
    form = a;
    is = is;
    forward = forward;
    within = within;
    names = ap (named kept.seen.names) (sym sights);
    places = sym (append-nil kept.seen.places) ∙ ap (λ z. kept.seen.places ++ seen_places tokens kept.seen.names z) (sym sights);
    failing = ap (first_of (failing_of kept)) (sym fails);
    tree = λ later h. tree later;
  }

  module _ (at : ℕ) (begins : starts_next is_show (here at) ≡ true) where
    in_show : (f : Fault) → behind_show (here (at + 1)) ≡ Err f → show_with (level 64) (here at) ≡ Err f
    in_show f h = mapped_err show_of (signed_with show_sign behind_show) (here at) f (signed_err text tokens show_sign behind_show at tt f (show_there (here at) begins) h)

    show_is : (e : Either (List ℕ × ℕ) (Unit {0})) (rest : List Word) → behind_show (here (at + 1)) ≡ Ok (e, rest) → show_with (level 64) (here at) ≡ Ok (show_of (tt, e), rest)
    show_is e rest h = mapped_ok show_of (signed_with show_sign behind_show) (here at) (tt, e) rest (signed_ok text tokens show_sign behind_show at tt e rest (show_there (here at) begins) h)

    -- ---- `#show .`
    pub show_missing : starts_next is_name (here (at + 1)) ≡ false → is_next m.Dot (here (at + 1)) ≡ false → show_with (level 64) (here at) ≡ Err (Expected (length (here (at + 1))))
    show_missing unnamed gone = in_show (Expected (length (here (at + 1)))) (other_err is_name shown_read (mark_with m.Dot) (here (at + 1)) (Expected (length (here (at + 1)))) unnamed (before_gone text tokens m.Dot tt (at + 1) gone))

    pub nothing_take : (kept : Kept) → is_next m.Dot (here (at + 1)) ≡ true → at + 2 ≤ length tokens → Takes show_class text tokens at kept kept draft.ShowNothing (at + 2)
    nothing_take kept dot within =
        still show_class show_nothing at (at + 2) kept draft.ShowNothing (omega arith) within
        (show_is (other tt) (here (at + 1 + 1)) (other_ok is_name shown_read (mark_with m.Dot) (here (at + 1)) tt (here (at + 1 + 1)) (dot_no_name (here (at + 1)) dot) (before_ok text tokens m.Dot tt (at + 1) dot)) ∙ ap (λ n. Ok (show_nothing, here n)) (omega arith)) refl refl (λ later. refl)

    -- ---- a predicate
    module _ (name : List ℕ) (spelled : here (at + 1) ≡ word.name name ∷ here (at + 1 + 1)) where
      name_next : starts_next is_name (here (at + 1)) ≡ true
      name_next = ap (starts_next is_name) spelled

      name_is : name_with (here (at + 1)) ≡ Ok (name, here (at + 2))
      name_is = ap name_with spelled ∙ ap (λ n. Ok (name, here n)) (omega arith)

      behind_name : (f : Fault) → arity_read (here (at + 2)) ≡ Err f → show_with (level 64) (here at) ≡ Err f
      behind_name f h = in_show f (one_err is_name shown_read (mark_with m.Dot) (here (at + 1)) f name_next (pair_second_err name_with arity_read (here (at + 1)) name (here (at + 2)) f name_is h))

      pub show_undivided : is_next m.Divide (here (at + 2)) ≡ false → show_with (level 64) (here at) ≡ Err (Expected (length (here (at + 2))))
      show_undivided gone = behind_name (Expected (length (here (at + 2)))) (marked_gone text tokens m.Divide (closed_with m.Dot numeral_with) (at + 2) gone)

      module _ (divide : is_next m.Divide (here (at + 2)) ≡ true) where
        arity_at : arity_read (here (at + 2)) ≡ closed_with m.Dot numeral_with (here (at + 3))
        arity_at = marked_is text tokens m.Divide (closed_with m.Dot numeral_with) (at + 2) divide ∙ ap (λ n. closed_with m.Dot numeral_with (here n)) (omega arith)

        uncounted : numeral_with (here (at + 3)) ≡ Err (Expected (length (here (at + 3)))) → show_with (level 64) (here at) ≡ Err (Expected (length (here (at + 3))))
        uncounted h = behind_name (Expected (length (here (at + 3)))) (arity_at ∙ closed_err text tokens m.Dot numeral_with (at + 3) (Expected (length (here (at + 3)))) h)

        pub show_ended : here (at + 3) ≡ [] → show_with (level 64) (here at) ≡ Err (Expected (length (here (at + 3))))
        show_ended none = uncounted (ap numeral_with none ∙ ap (λ ts. Err (Expected (length ts))) (sym none))

        pub show_uncounted : (kind : WordKind) (bytes : List ℕ) → here (at + 3) ≡ word_by kind bytes ∷ here (at + 3 + 1) → (kind ≡ kinds.Number → ⊥) → show_with (level 64) (here at) ≡ Err (Expected (length (here (at + 3))))
        show_uncounted kind bytes there h = uncounted (ap numeral_with there ∙ numeral_gone (here (at + 3 + 1)) kind bytes h ∙ ap (λ ts. Err (Expected (length ts))) (sym there))

        module _ (arity : ℕ) (counted : here (at + 3) ≡ word.numeral arity ∷ here (at + 3 + 1)) where
          arity_is : numeral_with (here (at + 3)) ≡ Ok (arity, here (at + 4))
          arity_is = ap numeral_with counted ∙ ap (λ n. Ok (arity, here n)) (omega arith)

          pub show_open : is_next m.Dot (here (at + 4)) ≡ false → show_with (level 64) (here at) ≡ Err (Expected (length (here (at + 4))))
          show_open gone = behind_name (Expected (length (here (at + 4)))) (arity_at ∙ closed_gone text tokens m.Dot numeral_with (at + 3) arity (at + 4) arity_is gone)

          pub show_take : (kept : Kept) (made : List ℕ) (count : ℕ) → made ≡ name → count ≡ arity → is_next m.Dot (here (at + 4)) ≡ true → at + 5 ≤ length tokens → Takes show_class text tokens at kept kept (draft.Show made count) (at + 5)
          show_take kept made count same counts dot within =
              still show_class (show name arity) at (at + 5) kept (draft.Show made count) (omega arith) within
              (show_is (one (name, arity)) (here (at + 4 + 1))
              (one_ok is_name shown_read (mark_with m.Dot) (here (at + 1)) (name, arity) (here (at + 4 + 1)) name_next
              (pair_ok name_with arity_read (here (at + 1)) name (here (at + 2)) arity (here (at + 4 + 1)) name_is (arity_at ∙ closed_ok text tokens m.Dot numeral_with (at + 3) arity (at + 4) arity_is dot)))
              ∙ ap (λ n. Ok (show name arity, here n)) (omega arith)) refl refl (λ later. ap (λ n. draft.Show n count) same ∙ ap (draft.Show name) counts)
