-- Forms of elements and theory atoms that may be missing.
use Rattle.std.proofs.Common.{◌≡◌, ℕ, ◌+◌, ◌≤◌, Bool, true, false, not, List, [], ◌∷◌, length, Some, None, Result, Ok, Err, refl, ◌∙◌, ap}
use Rattle.lexer.specs.declared.token.Token.{Token}
use Rattle.syntax_tree.specs.declared.term.Term.{Term}
use Rattle.syntax_tree.specs.declared.literal.Literal.{Literal}
use Rattle.syntax_tree.specs.declared.literal.TheoryName.{TheoryName}
use Rattle.syntax_tree.specs.declared.literal.TheoryElement.{TheoryElement}
use Rattle.grammar.specs.declared.shape.Shape.{Shape}
use Rattle.grammar.specs.declared.shape.Shape.TheVariants.{Other}
use Rattle.grammar.specs.declared.mark.Mark.{Mark}
use Rattle.grammar.specs.declared.mark.Mark.TheVariants as m
use Rattle.grammar.specs.Word.{Word, words_at, is_word, is_next}
use Rattle.grammar.specs.Parts.{maybe_gives}
use Rattle.grammar.specs.Term.{comma}
use Rattle.grammar.specs.Theory.{semicolon}
use Rattle.grammar.specs.Check.{is_diff, is_disjoint, places_where}
use Rattle.grammar.specs.Reading.{Fault, starts_next, maybe_with, marked_with, row_with, term_at, level}
use Rattle.grammar.specs.TheoryReading.{begins, begins_term, conditions_with, element_with}
use Rattle.theory_grammar.specs.declared.fault.Stop.{Stop}
use Rattle.theory_grammar.specs.declared.seen.Seen.{Seen}
use Rattle.theory_grammar.specs.declared.read_term.ReadTerm.{ReadTerm}
use Rattle.theory_grammar.specs.State.{least, Class, Reads, TermRead, PlainRead}
use Rattle.theory_grammar.specs.TheoryState.{Takes, PlainTake, marked_class, more_class, judged_class, conditions_class, held_class, given_class, refused_bads, duration_bads, duration_class, row_class, places_class, maybe_bads, all_class, elements_class}
use Rattle.theory_grammar.proofs.TermReads.{fails_along}
use Rattle.theory_grammar.proofs.PartReads.{taken, maybe_none, maybe_some, maybe_fails, marked_take, marked_fails, more_take, more_read}

-- a mark that comes next is the word with which the form begins
starts_by : (mark : Mark) (words : List Word) → starts_next (is_word mark) words ≡ is_next mark words
starts_by mark [] = refl
starts_by mark (w ∷ words) = refl

module _ (text : List ℕ) (tokens : List Token) where
  abbrev here : ℕ → List Word
  here at = words_at text tokens at

  starting : (mark : Mark) (at : ℕ) (b : Bool) → is_next mark (here at) ≡ b → starts_next (is_word mark) (here at) ≡ b
  starting mark at b h = starts_by mark (here at) ∙ h

  -- ---- more bad places, where a term begins
  pub more_term : {A : Type 0} (extra : ℕ → List ℕ) (c : Class A Term) (at : ℕ) (old mid new : Seen) (r : Result ReadTerm Stop) → mid ≡ record old { bad = least old.bad (extra at) } → TermRead c text tokens at mid new r
      → TermRead (more_class extra c) text tokens at old new r
  more_term extra c at old mid new (Ok x) e h = more_read text tokens extra c at old mid new x.term x.shape x.next e h
  more_term extra c at old mid new (Err f) e h = h

  -- ---- conditions
  pub held_none : (at : ℕ) (seen : Seen) (value : List Literal) → starts_next begins (here at) ≡ false → at ≤ length tokens → value ≡ [] → Takes held_class text tokens at seen seen value at
  held_none at seen value absent within none = maybe_none text tokens begins _ (maybe_gives conditions_class.bads) conditions_class at seen seen value absent within refl (λ later. none)

  pub held_some : (at : ℕ) (old new : Seen) (r : Result (List Literal × ℕ) Stop) → starts_next begins (here at) ≡ true → PlainRead conditions_class text tokens at old new r → PlainTake held_class text tokens at old new r
  held_some at old new (Ok p) begun h =
      maybe_some text tokens begins _ (maybe_gives conditions_class.bads) conditions_class at old new p.0 p.0 p.1 begun (taken text tokens conditions_class at old new p.0 Other p.1 h) (λ a. refl) (λ later a e. e)
  held_some at old new (Err failed) begun h = fails_along text tokens failed (conditions_with (level 64) (here at)) _ (λ f e. maybe_fails text tokens begins (conditions_with (level 64)) at f begun e) h

  -- ---- what stands behind an element
  module _ (refused : Bool) where
    pub given_none : (at : ℕ) (seen : Seen) (value : List Literal) → is_next m.Colon (here at) ≡ false → at ≤ length tokens → value ≡ [] → Takes (given_class refused) text tokens at seen seen value at
    given_none at seen value absent within none =
        maybe_none text tokens (is_word m.Colon) _ (refused_bads refused) (marked_class m.Colon held_class) at seen seen value (starting m.Colon at false absent) within refl
        (λ later. none)

    pub given_some : (at : ℕ) (old mid new : Seen) (r : Result (List Literal × ℕ) Stop) → is_next m.Colon (here at) ≡ true → mid ≡ record old { bad = least old.bad (places_where refused at) }
        → PlainTake held_class text tokens (at + 1) mid new r → PlainTake (given_class refused) text tokens at old new r
    given_some at old mid new (Ok p) there e h =
        maybe_some text tokens (is_word m.Colon) _ (refused_bads refused) (more_class (places_where refused) (marked_class m.Colon held_class)) at old new p.0 p.0 p.1
        (starting m.Colon at true there)
        (more_take text tokens (places_where refused) (marked_class m.Colon held_class) at old mid new p.0 p.1 e (marked_take text tokens m.Colon held_class at mid new p.0 p.1 there h)) (λ a. refl) (λ later a e. e)
    given_some at old mid new (Err failed) there e h =
        fails_along text tokens failed (maybe_with begins (conditions_with (level 64)) (here (at + 1))) _
        (λ f g. maybe_fails text tokens (is_word m.Colon) (marked_with m.Colon (maybe_with begins (conditions_with (level 64)))) at f (starting m.Colon at true there) (marked_fails text tokens m.Colon (maybe_with begins (conditions_with (level 64))) at f there g)) h

  module _ (name : TheoryName) where
    -- ---- durations
    pub duration_none : (first at : ℕ) (old new : Seen) → is_next m.At (here at) ≡ false → at ≤ length tokens → new ≡ record old { bad = least old.bad (places_where (is_disjoint name) first) }
        → Takes (duration_class name first) text tokens at old new None at
    duration_none first at old new absent within e =
        maybe_none text tokens (is_word m.At) _ (duration_bads name first) (marked_class m.At (judged_class false)) at old new None (starting m.At at false absent) within e (λ later. refl)

    pub duration_some : (first at : ℕ) (old mid new : Seen) (value : Term) (shape : Shape) (next : ℕ) → is_next m.At (here at) ≡ true → mid ≡ record old { bad = least old.bad (places_where (not (is_disjoint name)) at) }
        → Reads (judged_class false) text tokens (at + 1) mid new value shape next → Takes (duration_class name first) text tokens at old new (Some value) next
    duration_some first at old mid new value shape next there e r =
        maybe_some text tokens (is_word m.At) _ (duration_bads name first) (more_class (places_where (not (is_disjoint name))) (marked_class m.At (judged_class false))) at old new value (Some value) next (starting m.At at true there)
        (more_take text tokens (places_where (not (is_disjoint name))) (marked_class m.At (judged_class false)) at old mid new value next e
        (marked_take text tokens m.At (judged_class false) at mid new value next there (taken text tokens (judged_class false) (at + 1) mid new value shape next r))) (λ a. refl) (λ later a e. ap Some e)

    pub duration_fails : (at : ℕ) (f : Fault) → is_next m.At (here at) ≡ true → term_at 64 (here (at + 1)) ≡ Err f → maybe_with (is_word m.At) (marked_with m.At (term_at 64)) (here at) ≡ Err f
    duration_fails at f there h = maybe_fails text tokens (is_word m.At) (marked_with m.At (term_at 64)) at f (starting m.At at true there) (marked_fails text tokens m.At (term_at 64) at f there h)

    -- ---- further places
    pub places_none : (at : ℕ) (seen : Seen) (value : List Term) → is_next m.Comma (here at) ≡ false → at ≤ length tokens → value ≡ [] → Takes (places_class name) text tokens at seen seen value at
    places_none at seen value absent within none =
        maybe_none text tokens (is_word m.Comma) _ (maybe_gives (marked_class m.Comma (row_class name)).bads) (marked_class m.Comma (row_class name)) at seen seen value (starting m.Comma at false absent) within refl (λ later. none)

    pub places_some : (at : ℕ) (old new : Seen) (r : Result (List Term × ℕ) Stop) → is_next m.Comma (here at) ≡ true → PlainRead (row_class name) text tokens (at + 1) old new r → PlainTake (places_class name) text tokens at old new r
    places_some at old new (Ok p) there h =
        maybe_some text tokens (is_word m.Comma) _ (maybe_gives (marked_class m.Comma (row_class name)).bads) (marked_class m.Comma (row_class name)) at old new p.0 p.0 p.1 (starting m.Comma at true there)
        (marked_take text tokens m.Comma (row_class name) at old new p.0 p.1 there (taken text tokens (row_class name) (at + 1) old new p.0 Other p.1 h)) (λ a. refl) (λ later a e. e)
    places_some at old new (Err failed) there h =
        fails_along text tokens failed (row_with (term_at 64) comma (here (at + 1))) _
        (λ f e. maybe_fails text tokens (is_word m.Comma) (marked_with m.Comma (row_with (term_at 64) comma)) at f (starting m.Comma at true there) (marked_fails text tokens m.Comma (row_with (term_at 64) comma) at f there e)) h

    -- ---- elements
    pub elements_none : (at : ℕ) (old new : Seen) (value : List TheoryElement) → starts_next begins_term (here at) ≡ false → at ≤ length tokens → new ≡ record old { bad = least old.bad (places_where (is_diff name) at) } → value ≡ []
        → Takes (elements_class name) text tokens at old new value at
    elements_none at old new value absent within e none = maybe_none text tokens begins_term _ (maybe_bads name) (all_class name) at old new value absent within e (λ later. none)

    pub elements_some : (at : ℕ) (old new : Seen) (r : Result (List TheoryElement × ℕ) Stop) → starts_next begins_term (here at) ≡ true → PlainRead (all_class name) text tokens at old new r → PlainTake (elements_class name) text tokens at old new r
    elements_some at old new (Ok p) begun h =
        maybe_some text tokens begins_term _ (maybe_bads name) (all_class name) at old new p.0 p.0 p.1 begun (taken text tokens (all_class name) at old new p.0 Other p.1 h) (λ a. refl) (λ later a e. e)
    elements_some at old new (Err failed) begun h =
        fails_along text tokens failed (row_with (element_with (level 64)) semicolon (here at)) _ (λ f e. maybe_fails text tokens begins_term (row_with (element_with (level 64)) semicolon) at f begun e) h
