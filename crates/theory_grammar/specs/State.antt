-- What the readers keep beside the words. The readers of this crate and of statements, and their laws, cite this file.
use Rattle.std.specs.Prelude.{◌≡◌, ℕ, ◌<◌, ◌≤◌, ◌==◌, Bool, true, false, if◌then◌else◌, List, [], ◌∷◌, ◌++◌, length, take, drop, map, Option, Some, None, Result, Ok, Err}
use Rattle.lexer.specs.declared.token.Token.{Token}
use Rattle.syntax_tree.specs.declared.rule.Name.{Name}
use Rattle.syntax_tree.specs.declared.term.Term.{Term}
use Rattle.syntax_tree.specs.declared.term.Op.{Op}
use Rattle.syntax_tree.specs.declared.term.Op.TheVariants as op
use Rattle.syntax_tree.specs.declared.term.Part.{Part}
use Rattle.grammar.specs.declared.shape.Shape.{Shape}
use Rattle.grammar.specs.declared.shape.Shape.TheVariants.{Atom, Interval, Other}
use Rattle.grammar.specs.declared.mark.Mark.TheVariants as m
use Rattle.grammar.specs.Word.{Word, words_at, is_next}
use Rattle.grammar.specs.Word as word
use Rattle.grammar.specs.Row.{Row, row_words}
use Rattle.grammar.specs.Term.{UnaryAt, ProductOf, SumOf, TermOf, ArgsOf, multiplying, multiplying_word, adding, adding_word, comma, comma_word, unary_words, operand_words, product_words, sum_words, term_words, args_words}
use Rattle.grammar.specs.Shape.{unary_shape, operand_shape, product_shape, sum_shape, term_shape}
use Rattle.grammar.specs.Tree.{number_of, unary_tree, operand_tree, product_tree, sum_tree, term_tree, part_of, multiplying_op, adding_op}
use Rattle.grammar.specs.Sight.{Sight, Sighting, of_variable, of_anonymous, of_interval, of_atom, size, along, part_bads, argument_by, unary_sights, operand_sights, product_sights, sum_sights, term_sights, unary_bads, operand_bads, product_bads, sum_bads, term_bads}
use Rattle.grammar.specs.Reading.{Expected, TooDeep, Outcome, Reader, and_then, before, row_with, product_with, sum_with, term_with, args_with, unary_at}
use Rattle.theory_grammar.specs.declared.fault.Stop.{Stop}
use Rattle.theory_grammar.specs.declared.fault.Stop.TheVariants as stop
use Rattle.theory_grammar.specs.declared.places.Place.{Place}
use Rattle.theory_grammar.specs.declared.seen.Seen.{Seen}
use Rattle.theory_grammar.specs.declared.read_term.ReadTerm.{ReadTerm}
pub use Rattle.theory_grammar.specs.Kept.{lesser, least, refused, start_of, with_name, with_sight, named, Extends}

-- a place that is noted
abbrev pub noted : List Token → ℕ → Bool → Place
noted tokens at adds = record { start = start_of tokens at; at = at; adds = adds }

-- an argument that is an interval stands before what was seen inside it
abbrev pub argued : List Place → Shape → ℕ → Place → List Place
argued places Interval before place = take before places ++ place ∷ drop before places
argued places Atom before place = places
argued places Other before place = places

-- a rule with these names has one variable more with a sight
abbrev pub adds : List Name → Sight → Bool
adds names (of_variable name) = number_of names name == 0
adds names of_anonymous = true
adds names of_interval = true
adds names of_atom = false

-- the places of what is seen where these names were seen before
abbrev pub seen_places : List Token → List Name → List Sighting → List Place
seen_places tokens names [] = []
seen_places tokens names (s ∷ sights) = noted tokens s.at (adds names s.sight) ∷ seen_places tokens (with_sight names s.sight) sights

-- a class of forms: their words, their reader, and what a form gives
pub record Class (A X : Type 0) : Type 0 where
  pub words : A → List Word → List Word
  pub read : Reader A
  pub shape : A → Shape
  pub tree : List Name → A → X
  pub sights : A → ℕ → List Sighting
  pub bads : A → ℕ → List ℕ

-- what stands at a place was read as a form, and all that the form gives was kept
pub record Reads {A X : Type 0} (class : Class A X) (text : List ℕ) (tokens : List Token) (at : ℕ) (old new : Seen) (value : X) (shape : Shape) (next : ℕ) : Type 0 where
  pub form : A
  pub is : class.read (words_at text tokens at) ≡ Ok (form, words_at text tokens next)
  pub forward : at < next
  pub within : next ≤ length tokens
  pub shaped : shape ≡ class.shape form
  pub names : new.names ≡ named old.names (class.sights form at)
  pub places : new.places ≡ old.places ++ seen_places tokens old.names (class.sights form at)
  pub bad : new.bad ≡ least old.bad (class.bads form at)
  pub tree : (later : List Name) → Extends new.names later → value ≡ class.tree later form

-- nothing was read, as the reader of the class says, or memory ran out
abbrev pub Fails : {A : Type 0} → List ℕ → List Token → Outcome A → Stop → Type 0
Fails text tokens read (stop.Expected at) = (read ≡ Err (Expected (length (words_at text tokens at)))) × (at ≤ length tokens)
Fails text tokens read (stop.TooDeep at) = (read ≡ Err (TooDeep (length (words_at text tokens at)))) × (at ≤ length tokens)
Fails text tokens read stop.Memory = Unit {0}

-- what a reader of terms gives, and what one of terms whose shape is of no account
abbrev pub TermRead : {A : Type 0} → Class A Term → List ℕ → List Token → ℕ → Seen → Seen → Result ReadTerm Stop → Type 0
TermRead class text tokens at old new (Ok r) = Reads class text tokens at old new r.term r.shape r.next
TermRead class text tokens at old new (Err failed) = Fails text tokens (class.read (words_at text tokens at)) failed

abbrev pub PlainRead : {A X : Type 0} → Class A X → List ℕ → List Token → ℕ → Seen → Seen → Result (X × ℕ) Stop → Type 0
PlainRead class text tokens at old new (Ok r) = Reads class text tokens at old new r.0 Other r.1
PlainRead class text tokens at old new (Err failed) = Fails text tokens (class.read (words_at text tokens at)) failed

-- the operation that a sign is, if there is one
abbrev pub op_by : {S : Type 0} → (S → Op) → Option S → Option Op
op_by op None = None
op_by op (Some sign) = Some (op sign)

-- ---- the classes of terms
abbrev pub unary_class : (n : ℕ) → Class (UnaryAt n) Term
unary_class n = record {
  words = unary_words (operand_words n);
  read = unary_at n;
  shape = unary_shape (operand_shape n);
  tree = λ names u. unary_tree names (operand_tree names n) u;
  sights = unary_sights (operand_words n) (operand_shape n) (operand_sights n);
  bads = unary_bads (operand_words n) (operand_shape n) (operand_bads n);
}

-- an operand among others, which may be no interval
abbrev pub part_class : {A X : Type 0} → Class A X → Class A X
part_class c = record {
  words = c.words;
  read = c.read;
  shape = λ a. Other;
  tree = c.tree;
  sights = c.sights;
  bads = part_bads c.shape c.bads;
}

-- an argument, which may be an interval
abbrev pub argument_class : {A X : Type 0} → Class A X → Class A X
argument_class c = record {
  words = c.words;
  read = c.read;
  shape = λ a. Other;
  tree = c.tree;
  sights = λ a at. argument_by (c.shape a) at ++ c.sights a at;
  bads = c.bads;
}

-- rows, with what each item gives in a list
module _ {I S X Y : Type 0} (c : Class I X) (sign_word : S → Word) (sign : Word → Option S) (one : X → Y) (joined : S → X → Y) where
  abbrev pub list_class : Class (Row I S) (List Y)
  list_class = record {
    words = row_words c.words sign_word;
    read = row_with c.read sign;
    shape = λ row. Other;
    tree = λ names row. one (c.tree names row.first) ∷ map (λ p. joined p.0 (c.tree names p.1)) row.rest;
    sights = along c.sights (size c.words);
    bads = along c.bads (size c.words);
  }

module _ {U : Type 0} (c : Class U Term) where
  abbrev pub factors_class : Class (ProductOf U) (List Part)
  factors_class = list_class (part_class c) multiplying_word multiplying (part_of op.Times) (λ sign term. part_of (multiplying_op sign) term)

  abbrev pub product_class : Class (ProductOf U) Term
  product_class = record {
    words = product_words c.words;
    read = product_with c.read;
    shape = product_shape c.shape;
    tree = λ names row. product_tree (c.tree names) row;
    sights = product_sights c.words c.shape c.sights;
    bads = product_bads c.words c.shape c.bads;
  }

  abbrev pub addends_class : Class (SumOf U) (List Part)
  addends_class = list_class (part_class product_class) adding_word adding (part_of op.Plus) (λ sign term. part_of (adding_op sign) term)

  abbrev pub sum_class : Class (SumOf U) Term
  sum_class = record {
    words = sum_words c.words;
    read = sum_with c.read;
    shape = sum_shape c.shape;
    tree = λ names row. sum_tree (c.tree names) row;
    sights = sum_sights c.words c.shape c.sights;
    bads = sum_bads c.words c.shape c.bads;
  }

  abbrev pub term_class : Class (TermOf U) Term
  term_class = record {
    words = term_words c.words;
    read = term_with c.read;
    shape = term_shape c.shape;
    tree = λ names t. term_tree (c.tree names) t;
    sights = term_sights c.words c.shape c.sights;
    bads = term_bads c.words c.shape c.bads;
  }

  abbrev pub args_class : Class (ArgsOf U) (List Term)
  args_class = list_class (argument_class term_class) comma_word comma (λ x. x) (λ sign x. x)

  -- what stands behind the first place of a tuple and its comma, with the closing parenthesis
  abbrev pub rest_words : Option (ArgsOf U) → List Word → List Word
  rest_words None rest = word.mark m.Close ∷ rest
  rest_words (Some args) rest = args_words c.words args (word.mark m.Close ∷ rest)

  abbrev pub rest_sights : Option (ArgsOf U) → ℕ → List Sighting
  rest_sights None at = []
  rest_sights (Some args) at = args_class.sights args at

  abbrev pub rest_bads : Option (ArgsOf U) → ℕ → List ℕ
  rest_bads None at = []
  rest_bads (Some args) at = args_class.bads args at

  abbrev pub rest_trees : List Name → Option (ArgsOf U) → List Term
  rest_trees names None = []
  rest_trees names (Some args) = args_class.tree names args

  abbrev pub rest_read : Reader (Option (ArgsOf U))
  rest_read ts = (if is_next m.Close ts then Ok (None, drop 1 ts) else and_then (args_with c.read ts) (λ args rest. before m.Close (Some args) rest))

  abbrev pub rest_class : Class (Option (ArgsOf U)) (List Term)
  rest_class = record { words = rest_words; read = rest_read; shape = λ r. Other; tree = rest_trees; sights = rest_sights; bads = rest_bads }
