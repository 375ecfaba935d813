-- What is kept of a statement is kept of the kind of statement that it is.
use Rattle.std.proofs.Common.{◌≡◌, ℕ, Bool, true, false, List, [], ◌∷◌, Result, Ok, Err, refl, ◌∙◌, ap}
use Rattle.lexer.specs.declared.token.Token.{Token}
use Rattle.grammar.specs.declared.mark.Mark.TheVariants as m
use Rattle.grammar.specs.declared.words.WordKind.{WordKind}
use Rattle.grammar.specs.declared.words.WordKind.TheVariants as kinds
use Rattle.grammar.specs.Spelled.{word_by}
use Rattle.grammar.specs.Word.{Word, words_at, is_word, is_next}
use Rattle.grammar.specs.Word as word
use Rattle.grammar.specs.Statement.{StatementAt}
use Rattle.grammar.specs.Reading.{Outcome, Reader, Either, one, other, and_then, mapped_with, either_with, starts_next, level}
use Rattle.grammar.specs.StatementReading.{is_const, is_show, statement_of, constraint_with, constant_with, show_with, rule_with, statement_at}
use Rattle.theory_grammar.specs.declared.fault.Stop.{Stop}
use Rattle.theory_grammar.proofs.TermReads.{fails_along}
use Rattle.asp_parser.specs.declared.kept.Kept.{Kept}
use Rattle.asp_parser.specs.declared.statement.Draft.{Draft}
use Rattle.asp_parser.specs.StatementState.{Taken, statements_class, form_class, constraint_class, constant_class, show_class, rule_class}
use Rattle.asp_parser.proofs.ReadLaws.{starts_by}

-- ---- tests of a word
show_no_const : (ts : List Word) → starts_next is_show ts ≡ true → starts_next is_const ts ≡ false
show_no_const [] h = absurd cc
show_no_const (word.show_word ∷ ts) h = refl
show_no_const (word.const_word ∷ ts) h = absurd cc
show_no_const (word.name n ∷ ts) h = absurd cc
show_no_const (word.numeral n ∷ ts) h = absurd cc
show_no_const (word.variable n ∷ ts) h = absurd cc
show_no_const (word.anonymous ∷ ts) h = absurd cc
show_no_const (word.string n ∷ ts) h = absurd cc
show_no_const (word.negation ∷ ts) h = absurd cc
show_no_const (word.mark n ∷ ts) h = absurd cc

pub kind_no_const : (kind : WordKind) (spelled : List ℕ) → (kind ≡ kinds.Const → ⊥) → is_const (word_by kind spelled) ≡ false
kind_no_const kinds.Const spelled h = absurd (h refl)
kind_no_const kinds.Number spelled h = refl
kind_no_const kinds.Text spelled h = refl
kind_no_const kinds.Name spelled h = refl
kind_no_const kinds.Variable spelled h = refl
kind_no_const kinds.Anonymous spelled h = refl
kind_no_const kinds.Not spelled h = refl
kind_no_const kinds.Show spelled h = refl
kind_no_const (kinds.Mark mark) spelled h = refl

pub kind_no_show : (kind : WordKind) (spelled : List ℕ) → (kind ≡ kinds.Show → ⊥) → is_show (word_by kind spelled) ≡ false
kind_no_show kinds.Show spelled h = absurd (h refl)
kind_no_show kinds.Number spelled h = refl
kind_no_show kinds.Text spelled h = refl
kind_no_show kinds.Name spelled h = refl
kind_no_show kinds.Variable spelled h = refl
kind_no_show kinds.Anonymous spelled h = refl
kind_no_show kinds.Not spelled h = refl
kind_no_show kinds.Const spelled h = refl
kind_no_show (kinds.Mark mark) spelled h = refl

-- ---- one of two readers, by the next word
mapped_twice : {A B C : Type 0} (f : B → C) (g : A → B) (r : Outcome A) → and_then (and_then r (λ a rest. Ok (g a, rest))) (λ b rest. Ok (f b, rest)) ≡ and_then r (λ a rest. Ok (f (g a), rest))
mapped_twice f g (Ok p) = refl
mapped_twice f g (Err h) = refl

one_as : {A B C : Type 0} (f : Either A B → C) (starts : Word → Bool) (first : Reader A) (second : Reader B) (ts : List Word) → starts_next starts ts ≡ true → mapped_with f (either_with starts first second) ts ≡ mapped_with (λ a. f (one a)) first ts
one_as f starts first second ts h =
    ap (λ r. and_then r (λ b rest. Ok (f b, rest))) (let e : either_with starts first second ts ≡ and_then (first ts) (λ a rest. Ok (one a, rest)) = rw h refl in e) ∙ mapped_twice f one (first ts)

other_as : {A B C : Type 0} (f : Either A B → C) (starts : Word → Bool) (first : Reader A) (second : Reader B) (ts : List Word) → starts_next starts ts ≡ false → mapped_with f (either_with starts first second) ts ≡ mapped_with (λ b. f (other b)) second ts
other_as f starts first second ts h =
    ap (λ r. and_then r (λ b rest. Ok (f b, rest))) (let e : either_with starts first second ts ≡ and_then (second ts) (λ b rest. Ok (other b, rest)) = rw h refl in e) ∙ mapped_twice f other (second ts)

same_by : {A : Type 0} (r : Outcome A) → and_then r (λ a rest. Ok (a, rest)) ≡ r
same_by (Ok p) = refl
same_by (Err h) = refl

module _ (ts : List Word) where
  constraint_form : is_next m.Arrow ts ≡ true → statement_at 64 ts ≡ constraint_class.read ts
  constraint_form arrow = one_as statement_of (is_word m.Arrow) (constraint_with (level 64)) (either_with is_const (constant_with (level 64)) (either_with is_show (show_with (level 64)) (rule_with (level 64)))) ts (starts_by m.Arrow ts ∙ arrow)

  module _ (no_arrow : starts_next (is_word m.Arrow) ts ≡ false) where
    headless : statement_at 64 ts ≡ mapped_with (λ s. statement_of (other s)) (either_with is_const (constant_with (level 64)) (either_with is_show (show_with (level 64)) (rule_with (level 64)))) ts
    headless = other_as statement_of (is_word m.Arrow) (constraint_with (level 64)) (either_with is_const (constant_with (level 64)) (either_with is_show (show_with (level 64)) (rule_with (level 64)))) ts no_arrow

    constant_form : starts_next is_const ts ≡ true → statement_at 64 ts ≡ constant_with (level 64) ts
    constant_form const =
        headless ∙ one_as (λ s. statement_of (other s)) is_const (constant_with (level 64)) (either_with is_show (show_with (level 64)) (rule_with (level 64))) ts const ∙ same_by (constant_with (level 64) ts)

    module _ (no_const : starts_next is_const ts ≡ false) where
      undefined : statement_at 64 ts ≡ mapped_with (λ s. statement_of (other (other s))) (either_with is_show (show_with (level 64)) (rule_with (level 64))) ts
      undefined = headless ∙ other_as (λ s. statement_of (other s)) is_const (constant_with (level 64)) (either_with is_show (show_with (level 64)) (rule_with (level 64))) ts no_const

      show_form : starts_next is_show ts ≡ true → statement_at 64 ts ≡ show_with (level 64) ts
      show_form shows = undefined ∙ one_as (λ s. statement_of (other (other s))) is_show (show_with (level 64)) (rule_with (level 64)) ts shows ∙ same_by (show_with (level 64) ts)

      rule_form : starts_next is_show ts ≡ false → statement_at 64 ts ≡ rule_with (level 64) ts
      rule_form no_show = undefined ∙ other_as (λ s. statement_of (other (other s))) is_show (show_with (level 64)) (rule_with (level 64)) ts no_show ∙ same_by (rule_with (level 64) ts)

module _ (text : List ℕ) (tokens : List Token) (at : ℕ) (old new : Kept) (result : Result (Draft × ℕ) Stop) where
  abbrev here : List Word
  here = words_at text tokens at

  by_reader : (read : Reader (StatementAt 64)) → statement_at 64 here ≡ read here → (r : Result (Draft × ℕ) Stop) → Taken (statements_class read) text tokens at old new r → Taken form_class text tokens at old new r
  by_reader read e (Ok r) t = record { form = t.form; is = e ∙ t.is; forward = t.forward; within = t.within; names = t.names; places = t.places; failing = t.failing; tree = t.tree }
  by_reader read e (Err stop) t = fails_along text tokens stop (read here) (statement_at 64 here) (λ f h. e ∙ h) t

  pub by_constraint : is_next m.Arrow here ≡ true → Taken constraint_class text tokens at old new result → Taken form_class text tokens at old new result
  by_constraint arrow = by_reader constraint_class.read (constraint_form here arrow) result

  pub by_constant : is_next m.Arrow here ≡ false → starts_next is_const here ≡ true → Taken constant_class text tokens at old new result → Taken form_class text tokens at old new result
  by_constant no_arrow const = by_reader constant_class.read (constant_form here (starts_by m.Arrow here ∙ no_arrow) const) result

  pub by_show : is_next m.Arrow here ≡ false → starts_next is_show here ≡ true → Taken show_class text tokens at old new result → Taken form_class text tokens at old new result
  by_show no_arrow shows = by_reader show_class.read (show_form here (starts_by m.Arrow here ∙ no_arrow) (show_no_const here shows) shows) result

  pub by_rule : is_next m.Arrow here ≡ false → starts_next is_const here ≡ false → starts_next is_show here ≡ false → Taken rule_class text tokens at old new result → Taken form_class text tokens at old new result
  by_rule no_arrow no_const no_show = by_reader rule_class.read (rule_form here (starts_by m.Arrow here ∙ no_arrow) no_const no_show) result
