-- Operands of one word.
use Rattle.std.proofs.Common.{◌≡◌, ℕ, ◌+◌, ◌<◌, ◌==◌, Bool, true, false, if◌then◌else◌, ℤ, pos, List, [], ◌∷◌, ◌++◌, length, Ok, refl, sym, ◌∙◌, ap, arith}
use Rattle.std.proofs.lemmas.List.{append-nil}
use Rattle.std.proofs.lemmas.Bool.{eqb-true}
use Rattle.lexer.specs.declared.token.Token.{Token}
use Rattle.syntax_tree.specs.declared.rule.Name.{Name}
use Rattle.syntax_tree.specs.declared.term.Term.TheVariants as t
use Rattle.grammar.specs.declared.shape.Shape.TheVariants.{Other}
use Rattle.grammar.specs.Word.{Word, words_at, is_next}
use Rattle.grammar.specs.Word as word
use Rattle.grammar.specs.Term.{UnaryAt, number, text, variable, anonymous}
use Rattle.grammar.specs.Tree.{number_of}
use Rattle.grammar.specs.Reading.{unary_with, unary_at}
use Rattle.theory_grammar.specs.declared.seen.Seen.{Seen}
use Rattle.theory_grammar.specs.State.{Reads, unary_class, noted, with_name}
use Rattle.theory_grammar.proofs.StateLemmas.{number_stays, number_last, not_zero}

zero_is : (n : ℕ) → (n == 0) ≡ true → n ≡ 0
zero_is n h = eqb-true n 0 h

module _ (n : ℕ) (bytes : List ℕ) (tokens : List Token) (at : ℕ) (within : at < length tokens) where
  abbrev Here : Word → Type 0
  Here w = words_at bytes tokens at ≡ w ∷ words_at bytes tokens (at + 1)

  one_word : (w : Word) (u : UnaryAt n) → Here w → unary_at n (w ∷ words_at bytes tokens (at + 1)) ≡ Ok (u, words_at bytes tokens (at + 1)) → unary_at n (words_at bytes tokens at) ≡ Ok (u, words_at bytes tokens (at + 1))
  one_word w u here read = ap (unary_at n) here ∙ read

  pub number_read : (seen : Seen) (v : ℕ) (z : ℤ) → Here (word.numeral v) → z ≡ pos v → Reads (unary_class n) bytes tokens at seen seen (t.Number z) Other (at + 1)
  unfolding unary_with
  number_read seen v z here is = record {
    form = number v;
    is = one_word (word.numeral v) (number v) here refl;
    forward = omega arith;
    within = omega (arith, within);
    shaped = refl;
    names = refl;
    places = sym (append-nil seen.places);
    bad = refl;
    tree = λ later h. ap t.Number is;
  }

  pub string_read : (seen : Seen) (content : List ℕ) (held : List ℕ) → Here (word.string content) → held ≡ content → Reads (unary_class n) bytes tokens at seen seen (t.Text held) Other (at + 1)
  unfolding unary_with
  string_read seen content held here is = record {
    form = text content;
    is = one_word (word.string content) (text content) here refl;
    forward = omega arith;
    within = omega (arith, within);
    shaped = refl;
    names = refl;
    places = sym (append-nil seen.places);
    bad = refl;
    tree = λ later h. ap t.Text is;
  }

  pub anonymous_read : (old new : Seen) → Here word.anonymous → new ≡ record old { places = old.places ++ noted tokens at true ∷ [] } → Reads (unary_class n) bytes tokens at old new t.Anonymous Other (at + 1)
  unfolding unary_with
  anonymous_read old new here is = record {
    form = anonymous;
    is = one_word word.anonymous anonymous here refl;
    forward = omega arith;
    within = omega (arith, within);
    shaped = refl;
    names = ap (λ s. s.names) is;
    places = ap (λ s. s.places) is;
    bad = ap (λ s. s.bad) is;
    tree = λ later h. refl;
  }

  -- a name that was added is among the names
  known : (names : List Name) (name : List ℕ) → (number_of (with_name names name) name == 0) ≡ false
  known names name = by (number_of names name == 0) refl
    where
      by : (b : Bool) → (number_of names name == 0) ≡ b → (number_of (if b then names ++ record { text = name } ∷ [] else names) name == 0) ≡ false
      by true q = let e = number_last 0 names name (zero_is (number_of names name) q) in not_zero (number_of (names ++ record { text = name } ∷ []) name) (omega (arith, e))
      by false q = q

  pub variable_read : (old new : Seen) (name : List ℕ) (value : ℕ) → Here (word.variable name)
      → new ≡ record old { names = with_name old.names name; places = old.places ++ noted tokens at (number_of old.names name == 0) ∷ [] } → value ≡ number_of new.names name
      → Reads (unary_class n) bytes tokens at old new (t.Variable value) Other (at + 1)
  unfolding unary_with
  variable_read old new name value here is numbered = record {
    form = variable name;
    is = one_word (word.variable name) (variable name) here refl;
    forward = omega arith;
    within = omega (arith, within);
    shaped = refl;
    names = ap (λ s. s.names) is;
    places = ap (λ s. s.places) is;
    bad = ap (λ s. s.bad) is;
    tree = λ later h. ap t.Variable (numbered ∙ sym (number_stays new.names later name (ap (λ names. number_of names name == 0) (ap (λ s. s.names) is) ∙ known old.names name) h));
  }
