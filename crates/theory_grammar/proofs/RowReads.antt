-- Rows of conditions, of further places and of elements.
use Rattle.std.proofs.Common.{◌≡◌, ℕ, ◌+◌, Bool, true, false, ◌&&◌, nat_lt, List, [], ◌∷◌, ◌++◌, length, Option, Some, None, Ok, Err, refl, sym, ◌∙◌, ap, subst, arith}
use Rattle.std.proofs.lemmas.Bool.{lt-ltb, le-ltb}
use Rattle.std.proofs.lemmas.List.{length-append}
use Rattle.lexer.specs.declared.token.Token.{Token}
use Rattle.syntax_tree.specs.declared.term.Term.{Term}
use Rattle.syntax_tree.specs.declared.literal.Literal.{Literal}
use Rattle.syntax_tree.specs.declared.literal.TheoryName.{TheoryName}
use Rattle.syntax_tree.specs.declared.literal.TheoryElement.{TheoryElement}
use Rattle.grammar.specs.declared.shape.Shape.{Shape}
use Rattle.grammar.specs.declared.shape.Shape.TheVariants.{Other}
use Rattle.grammar.specs.declared.mark.Mark.TheVariants as m
use Rattle.grammar.specs.Word.{Word, words_at, is_next}
use Rattle.grammar.specs.Row.{Row, row_words, tail_words}
use Rattle.grammar.specs.Sight.{size}
use Rattle.grammar.specs.Term.{comma, comma_word}
use Rattle.grammar.specs.Theory.{semicolon, semicolon_word}
use Rattle.grammar.specs.Check.{is_diff, places_where, second_bads}
use Rattle.grammar.specs.Reading.{Fault, Outcome, Reader, and_then, sign_at, tail_with, row_with, term_at, level}
use Rattle.grammar.specs.TheoryReading.{condition_with, conditions_with, element_with}
use Rattle.grammar.proofs.Lawful.{bind_by, ok_parts}
use Rattle.grammar.proofs.TermLaws.{term_law}
use Rattle.grammar.proofs.ConditionLaws.{term_on, condition_on, condition_law}
use Rattle.grammar.proofs.ElementLaws.{element_on, element_law, elements_on, row_law}
use Rattle.theory_grammar.specs.declared.seen.Seen.{Seen}
use Rattle.theory_grammar.specs.State.{least, Extends, Reads}
use Rattle.theory_grammar.specs.TheoryState.{condition_class, conditions_class, place_class, row_class, element_class, element_row, all_class}
use Rattle.theory_grammar.proofs.StateLemmas.{least_append}
use Rattle.theory_grammar.proofs.Classes.{Partial, place_behind, row_start, row_more, row_done, row_fails, first_fails}
use Rattle.theory_grammar.proofs.Loops.{no_comma, a_comma}

-- the semicolon that a mark is
no_semicolon : (words : List Word) → is_next m.Semicolon words ≡ false → sign_at semicolon words ≡ None
no_semicolon [] h = refl
no_semicolon (w ∷ words) h = rw h refl

a_semicolon : (words : List Word) → is_next m.Semicolon words ≡ true → sign_at semicolon words ≡ Some tt
a_semicolon [] h = absurd cc
a_semicolon (w ∷ words) h = rw h refl

-- ---- the first item of a row
row_first : {I S : Type 0} (item : Reader I) (sign : Word → Option S) (ts rest after : List Word) (x : I) (row : Row I S) → item ts ≡ Ok (x, rest) → row_with item sign ts ≡ Ok (row, after) → row.first ≡ x
unfolding row_with
row_first {I} {S} item sign ts rest after x row h g = by (tail_with item sign (length rest) rest) (sym (bind_by (item ts) _ x rest h) ∙ g)
  where
    by : (r : Outcome (List (S × I))) → and_then r (λ parts after. Ok (record { first = x; rest = parts }, after)) ≡ Ok (row, after) → row.first ≡ x
    by (Ok p) e = ap (λ z. z.first) (sym (ok_parts (record { first = x; rest = p.0 }) row p.1 after e).0)
    by (Err f) e = absurd cc

-- where the first item ends, and whether there is another
second_by : {I S : Type 0} (words : I → List Word → List Word) (parted : (a : I) (x y : List Word) → words a (x ++ y) ≡ words a x ++ y) (sign_word : S → Word) (only : Bool) (first : I) (rest : List (S × I)) (at start next : ℕ)
    → start ≡ at + size words first → next ≡ at + size (row_words words sign_word) (record { first = first; rest = rest }) → places_where (nat_lt start next && only) (start + 1) ≡ second_bads only rest (at + size words first)
second_by words parted sign_word only first [] at start next s n = let e : nat_lt start next ≡ false = le-ltb start next (omega (arith, s, n)) in rw e refl
second_by words parted sign_word only first (part ∷ parts) at start next s n =
    let behind = tail_words words sign_word (part ∷ parts) [] in
    let long = ap length (parted first [] behind) ∙ length-append (words first []) behind in
    let e : nat_lt start next ≡ true = lt-ltb start next (omega (arith, s, n, long)) in
    ap (λ b. places_where (b && only) (start + 1)) e ∙ ap (λ k. places_where only (k + 1)) s

module _ (text : List ℕ) (tokens : List Token) where
  abbrev here : ℕ → List Word
  here at = words_at text tokens at

  -- ---- conditions
  abbrev pub Conditions : (at start : ℕ) (old new : Seen) (found : List Literal) (next : ℕ) → Type 0
  Conditions = Partial condition_class (condition_on 64) (condition_law 64) comma_word comma (λ x. x) (λ sign x. x) text tokens

  pub conditions_start : (at : ℕ) (old new : Seen) (value : Literal) (next : ℕ) (found : List Literal) → Reads condition_class text tokens at old new value Other next → found ≡ value ∷ [] → Conditions at next old new found next
  conditions_start at old new value next found r e = row_start condition_class (condition_on 64) (condition_law 64) comma_word comma (λ x. x) (λ sign x. x) text tokens at old new value Other next found r e

  pub conditions_more : (at start : ℕ) (old mid new : Seen) (found : List Literal) (next : ℕ) (value : Literal) (after : ℕ) (pushed : List Literal) → Conditions at start old mid found next → is_next m.Comma (here next) ≡ true
      → Reads condition_class text tokens (next + 1) mid new value Other after → pushed ≡ found ++ value ∷ [] → Conditions at start old new pushed after
  conditions_more at start old mid new found next value after pushed p there r e =
      row_more condition_class (condition_on 64) (condition_law 64) comma_word comma (λ x. x) (λ sign x. x) text tokens at start old mid new found next tt value Other after pushed p (a_comma (here next) there) r e

  pub conditions_fail : (at start : ℕ) (old mid : Seen) (found : List Literal) (next : ℕ) (f : Fault) → Conditions at start old mid found next → is_next m.Comma (here next) ≡ true
      → condition_with (level 64) (here (next + 1)) ≡ Err f → conditions_with (level 64) (here at) ≡ Err f
  conditions_fail at start old mid found next f p there h =
      row_fails condition_class (condition_on 64) (condition_law 64) comma_word comma (λ x. x) (λ sign x. x) text tokens at start old mid found next tt f p (a_comma (here next) there) h

  pub conditions_done : (at start : ℕ) (old new : Seen) (found : List Literal) (next : ℕ) → Conditions at start old new found next → is_next m.Comma (here next) ≡ false → Reads conditions_class text tokens at old new found Other next
  conditions_done at start old new found next p gone =
      row_done condition_class (condition_on 64) (condition_law 64) comma_word comma (λ x. x) (λ sign x. x) text tokens at start old new found next p (no_comma (here next) gone)

  pub first_condition_fails : (at : ℕ) (f : Fault) → condition_with (level 64) (here at) ≡ Err f → conditions_with (level 64) (here at) ≡ Err f
  first_condition_fails at f h = first_fails condition_class (condition_on 64) (condition_law 64) comma_word comma (λ x. x) (λ sign x. x) text tokens at f h

  module _ (name : TheoryName) where
    -- ---- further places
    abbrev pub Places : (at start : ℕ) (old new : Seen) (found : List Term) (next : ℕ) → Type 0
    Places = Partial (place_class name) (term_on 64) (term_law 64) comma_word comma (λ x. x) (λ sign x. x) text tokens

    pub places_start : (at : ℕ) (old new : Seen) (value : Term) (shape : Shape) (next : ℕ) (found : List Term) → Reads (place_class name) text tokens at old new value shape next → found ≡ value ∷ [] → Places at next old new found next
    places_start at old new value shape next found r e = row_start (place_class name) (term_on 64) (term_law 64) comma_word comma (λ x. x) (λ sign x. x) text tokens at old new value shape next found r e

    pub places_more : (at start : ℕ) (old mid new : Seen) (found : List Term) (next : ℕ) (value : Term) (shape : Shape) (after : ℕ) (pushed : List Term) → Places at start old mid found next → is_next m.Comma (here next) ≡ true
        → Reads (place_class name) text tokens (next + 1) mid new value shape after → pushed ≡ found ++ value ∷ [] → Places at start old new pushed after
    places_more at start old mid new found next value shape after pushed p there r e =
        row_more (place_class name) (term_on 64) (term_law 64) comma_word comma (λ x. x) (λ sign x. x) text tokens at start old mid new found next tt value shape after pushed p (a_comma (here next) there) r e

    pub places_fail : (at start : ℕ) (old mid : Seen) (found : List Term) (next : ℕ) (f : Fault) → Places at start old mid found next → is_next m.Comma (here next) ≡ true
        → term_at 64 (here (next + 1)) ≡ Err f → row_with (term_at 64) comma (here at) ≡ Err f
    places_fail at start old mid found next f p there h =
        row_fails (place_class name) (term_on 64) (term_law 64) comma_word comma (λ x. x) (λ sign x. x) text tokens at start old mid found next tt f p (a_comma (here next) there) h

    pub places_done : (at start : ℕ) (old new : Seen) (found : List Term) (next : ℕ) → Places at start old new found next → is_next m.Comma (here next) ≡ false → Reads (row_class name) text tokens at old new found Other next
    places_done at start old new found next p gone =
        row_done (place_class name) (term_on 64) (term_law 64) comma_word comma (λ x. x) (λ sign x. x) text tokens at start old new found next p (no_comma (here next) gone)

    pub first_place_fails : (at : ℕ) (f : Fault) → term_at 64 (here at) ≡ Err f → row_with (term_at 64) comma (here at) ≡ Err f
    first_place_fails at f h = first_fails (place_class name) (term_on 64) (term_law 64) comma_word comma (λ x. x) (λ sign x. x) text tokens at f h

    -- ---- elements
    abbrev pub Elements : (at start : ℕ) (old new : Seen) (found : List TheoryElement) (next : ℕ) → Type 0
    Elements = Partial (element_class name) (element_on 64) (element_law 64) semicolon_word semicolon (λ x. x) (λ sign x. x) text tokens

    pub elements_start : (at : ℕ) (old new : Seen) (value : TheoryElement) (next : ℕ) (found : List TheoryElement) → Reads (element_class name) text tokens at old new value Other next → found ≡ value ∷ [] → Elements at next old new found next
    elements_start at old new value next found r e = row_start (element_class name) (element_on 64) (element_law 64) semicolon_word semicolon (λ x. x) (λ sign x. x) text tokens at old new value Other next found r e

    pub elements_more : (at start : ℕ) (old mid new : Seen) (found : List TheoryElement) (next : ℕ) (value : TheoryElement) (after : ℕ) (pushed : List TheoryElement) → Elements at start old mid found next
        → is_next m.Semicolon (here next) ≡ true → Reads (element_class name) text tokens (next + 1) mid new value Other after → pushed ≡ found ++ value ∷ [] → Elements at start old new pushed after
    elements_more at start old mid new found next value after pushed p there r e =
        row_more (element_class name) (element_on 64) (element_law 64) semicolon_word semicolon (λ x. x) (λ sign x. x) text tokens at start old mid new found next tt value Other after pushed p (a_semicolon (here next) there) r e

    pub elements_fail : (at start : ℕ) (old mid : Seen) (found : List TheoryElement) (next : ℕ) (f : Fault) → Elements at start old mid found next → is_next m.Semicolon (here next) ≡ true
        → element_with (level 64) (here (next + 1)) ≡ Err f → row_with (element_with (level 64)) semicolon (here at) ≡ Err f
    elements_fail at start old mid found next f p there h =
        row_fails (element_class name) (element_on 64) (element_law 64) semicolon_word semicolon (λ x. x) (λ sign x. x) text tokens at start old mid found next tt f p (a_semicolon (here next) there) h

    pub first_element_fails : (at : ℕ) (f : Fault) → element_with (level 64) (here at) ≡ Err f → row_with (element_with (level 64)) semicolon (here at) ≡ Err f
    first_element_fails at f h = first_fails (element_class name) (element_on 64) (element_law 64) semicolon_word semicolon (λ x. x) (λ sign x. x) text tokens at f h

    -- all elements, with a second where there may be one alone
    pub elements_done : (at start : ℕ) (old one mid new : Seen) (value : TheoryElement) (found : List TheoryElement) (next : ℕ) → Reads (element_class name) text tokens at old one value Other start → Elements at start old mid found next
        → is_next m.Semicolon (here next) ≡ false → new ≡ record mid { bad = least mid.bad (places_where (nat_lt start next && is_diff name) (start + 1)) } → Reads (all_class name) text tokens at old new found Other next
    elements_done at start old one mid new value found next f p gone e =
        all_of (row_done (element_class name) (element_on 64) (element_law 64) semicolon_word semicolon (λ x. x) (λ sign x. x) text tokens at start old mid found next p (no_semicolon (here next) gone))
      where
        all_of : Reads (element_row name) text tokens at old mid found Other next → Reads (all_class name) text tokens at old new found Other next
        all_of r =
            let row = r.form in
            let same : row.first ≡ f.form = row_first (element_with (level 64)) semicolon (here at) (here start) (here next) f.form row f.is r.is in
            let begun : start ≡ at + size (element_class name).words row.first =
            place_behind (element_class name) (element_on 64) (element_law 64) text tokens at f.form start f.is f.forward f.within ∙ ap (λ z. at + size (element_class name).words z) (sym same) in
            let ended = place_behind (element_row name) (elements_on 64) (row_law 64) text tokens at row next r.is r.forward r.within in
            let second = second_by (element_class name).words (element_law 64).parted semicolon_word (is_diff name) row.first row.rest at start next begun ended in
            record {
              form = row;
              is = r.is;
              forward = r.forward;
              within = r.within;
              shaped = refl;
              names = ap (λ s. s.names) e ∙ r.names;
              places = ap (λ s. s.places) e ∙ r.places;
              bad = ap (λ s. s.bad) e ∙ ap (λ z. least z (places_where (nat_lt start next && is_diff name) (start + 1))) r.bad
                  ∙ sym (least_append old.bad ((element_row name).bads row at) (places_where (nat_lt start next && is_diff name) (start + 1)))
                  ∙ ap (λ z. least old.bad ((element_row name).bads row at ++ z)) second;
              tree = λ later h. r.tree later (subst (λ z. Extends z later) (ap (λ s. s.names) e) h);
            }
