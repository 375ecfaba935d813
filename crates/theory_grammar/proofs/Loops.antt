-- The three rows of terms: factors, addends and arguments.
use Rattle.std.specs.Result.{IfOk, IfErr}
use Rattle.theory_grammar.specs.declared.fault.Stop.{Stop}
use Rattle.theory_grammar.specs.declared.fault.Stop.TheVariants as stop
use Rattle.theory_grammar.specs.declared.read_term.ReadTerm.{ReadTerm}
use Rattle.theory_grammar.proofs.StateLemmas.{words_long}
use Rattle.grammar.specs.declared.mark.Mark.{Mark}
use Rattle.std.proofs.Common.{◌≡◌, ◌<◌, true, false, ℕ, suc, ◌+◌, ◌-◌, List, [], ◌∷◌, ◌++◌, length, Option, Some, None, Result, Ok, Err, refl, sym, ◌∙◌, ap, subst, arith}
use Rattle.lexer.specs.declared.token.Token.{Token}
use Rattle.syntax_tree.specs.declared.term.Op.{Op}
use Rattle.syntax_tree.specs.declared.term.Op.TheVariants.{Plus, Times}
use Rattle.syntax_tree.specs.declared.term.Part.{Part}
use Rattle.syntax_tree.specs.declared.term.Term.{Term}
use Rattle.syntax_tree.specs.declared.term.Term.TheVariants as t
use Rattle.grammar.specs.declared.shape.Shape.{Shape}
use Rattle.grammar.specs.declared.shape.Shape.TheVariants.{Other}
use Rattle.grammar.specs.declared.mark.Mark.TheVariants as m
use Rattle.grammar.specs.Word.{Word, words_at, is_next}
use Rattle.grammar.specs.Term.{multiplying, multiplying_word, adding, adding_word, comma, comma_word, product_goes_on, term_goes_on}
use Rattle.grammar.specs.Tree.{part_of, multiplying_op, adding_op}
use Rattle.grammar.specs.Reading.{Fault, sign_at, unary_at, product_at, sum_at, term_at, args_at}
use Rattle.grammar.proofs.Levels.{operand_lawful}
use Rattle.grammar.proofs.TermLaws.{unary_on, product_law, term_law}
use Rattle.theory_grammar.specs.declared.seen.Seen.{Seen}
use Rattle.theory_grammar.specs.State.{Class, Reads, Fails, TermRead, op_by, unary_class, part_class, product_class, sum_class, term_class, argument_class, args_class}
use Rattle.theory_grammar.proofs.Classes.{Partial, row_start, row_more, row_done, row_fails, first_fails}
use Rattle.theory_grammar.proofs.TermReads.{row_one, row_many}

-- a level more than one less
pub from_less : (P : ℕ → Type 0) (d : ℕ) → (d ≡ 0 → ⊥) → P (suc (d - 1)) → P d
from_less P d h p = subst P (omega (arith, h)) p

-- the sign that an operation is
pub op_none : {S : Type 0} (op : S → Op) (sign : Option S) → None ≡ op_by op sign → sign ≡ None
op_none op None h = refl
op_none op (Some s) h = absurd cc

pub op_some : {S : Type 0} (op : S → Op) (sign : Option S) (found : Op) → Some found ≡ op_by op sign → (s : S) × (sign ≡ Some s) × (found ≡ op s)
op_some op None found h = absurd cc
op_some op (Some s) found h = (s, refl, cc)

-- the comma that a mark is
pub no_comma : (words : List Word) → is_next m.Comma words ≡ false → sign_at comma words ≡ None
no_comma [] h = refl
no_comma (w ∷ words) h = rw h refl

pub a_comma : (words : List Word) → is_next m.Comma words ≡ true → sign_at comma words ≡ Some tt
a_comma [] h = absurd cc
a_comma (w ∷ words) h = rw h refl

module _ (n : ℕ) (text : List ℕ) (tokens : List Token) where
  -- ---- factors
  abbrev pub Factors : (at start : ℕ) (old new : Seen) (parts : List Part) (next : ℕ) → Type 0
  Factors = Partial (part_class (unary_class n)) (unary_on n) (operand_lawful n) multiplying_word multiplying (part_of Times) (λ sign x. part_of (multiplying_op sign) x) text tokens

  pub factors_start : (at : ℕ) (old new : Seen) (value : Term) (next : ℕ) (parts : List Part) → Reads (part_class (unary_class n)) text tokens at old new value Other next → parts ≡ part_of Times value ∷ [] → Factors at next old new parts next
  factors_start at old new value next parts r e =
      row_start (part_class (unary_class n)) (unary_on n) (operand_lawful n) multiplying_word multiplying (part_of Times) (λ sign x. part_of (multiplying_op sign) x) text tokens at old new value Other next parts r e

  pub factors_more : (at start : ℕ) (old mid new : Seen) (parts : List Part) (next : ℕ) (op : Op) (value : Term) (after : ℕ) (pushed : List Part) → Factors at start old mid parts next
      → Some op ≡ op_by multiplying_op (sign_at multiplying (words_at text tokens next)) → Reads (part_class (unary_class n)) text tokens (next + 1) mid new value Other after
      → pushed ≡ parts ++ part_of op value ∷ [] → Factors at start old new pushed after
  factors_more at start old mid new parts next op value after pushed p signed r e =
      let s = op_some multiplying_op (sign_at multiplying (words_at text tokens next)) op signed in
      row_more (part_class (unary_class n)) (unary_on n) (operand_lawful n) multiplying_word multiplying (part_of Times) (λ sign x. part_of (multiplying_op sign) x) text tokens at start old mid new parts next s.0 value Other after pushed
      p s.1 r (e ∙ ap (λ o. parts ++ part_of o value ∷ []) s.2)

  pub factors_fail : (at start : ℕ) (old mid : Seen) (parts : List Part) (next : ℕ) (op : Op) (f : Fault) → Factors at start old mid parts next
      → Some op ≡ op_by multiplying_op (sign_at multiplying (words_at text tokens next)) → unary_at n (words_at text tokens (next + 1)) ≡ Err f → product_at n (words_at text tokens at) ≡ Err f
  factors_fail at start old mid parts next op f p signed h =
      let s = op_some multiplying_op (sign_at multiplying (words_at text tokens next)) op signed in
      row_fails (part_class (unary_class n)) (unary_on n) (operand_lawful n) multiplying_word multiplying (part_of Times) (λ sign x. part_of (multiplying_op sign) x) text tokens at start old mid parts next s.0 f p s.1 h

  pub product_many : (at start : ℕ) (old new : Seen) (parts : List Part) (next : ℕ) (op : Op) → Factors at start old new parts next
      → Some op ≡ op_by multiplying_op (sign_at multiplying (words_at text tokens start)) → None ≡ op_by multiplying_op (sign_at multiplying (words_at text tokens next))
      → Reads (product_class (unary_class n)) text tokens at old new (t.Product parts) Other next
  product_many at start old new parts next op p some none =
      let s = op_some multiplying_op (sign_at multiplying (words_at text tokens start)) op some in
      row_many (unary_class n) (unary_on n) (operand_lawful n) multiplying_word multiplying t.Product Times multiplying_op text tokens at start old new parts next s.0 p s.1
      (op_none multiplying_op (sign_at multiplying (words_at text tokens next)) none)

  pub product_one : (at : ℕ) (old new : Seen) (value : Term) (shape : Shape) (next : ℕ) → Reads (unary_class n) text tokens at old new value shape next
      → None ≡ op_by multiplying_op (sign_at multiplying (words_at text tokens next)) → Reads (product_class (unary_class n)) text tokens at old new value shape next
  product_one at old new value shape next r none =
      row_one (unary_class n) (unary_on n) (operand_lawful n) multiplying_word multiplying t.Product Times multiplying_op text tokens at old new value shape next r (op_none multiplying_op (sign_at multiplying (words_at text tokens next)) none)

  pub product_fails : (at : ℕ) (f : Fault) → unary_at n (words_at text tokens at) ≡ Err f → product_at n (words_at text tokens at) ≡ Err f
  product_fails at f h = first_fails (unary_class n) (unary_on n) (operand_lawful n) multiplying_word multiplying (λ x. x) (λ s x. x) text tokens at f h

  -- ---- addends
  abbrev pub Addends : (at start : ℕ) (old new : Seen) (parts : List Part) (next : ℕ) → Type 0
  Addends = Partial (part_class (product_class (unary_class n))) (product_goes_on (unary_on n)) (product_law n) adding_word adding (part_of Plus) (λ sign x. part_of (adding_op sign) x) text tokens

  pub addends_start : (at : ℕ) (old new : Seen) (value : Term) (next : ℕ) (parts : List Part) → Reads (part_class (product_class (unary_class n))) text tokens at old new value Other next → parts ≡ part_of Plus value ∷ []
      → Addends at next old new parts next
  addends_start at old new value next parts r e =
      row_start (part_class (product_class (unary_class n))) (product_goes_on (unary_on n)) (product_law n) adding_word adding (part_of Plus) (λ sign x. part_of (adding_op sign) x) text tokens at old new value Other next parts r e

  pub addends_more : (at start : ℕ) (old mid new : Seen) (parts : List Part) (next : ℕ) (op : Op) (value : Term) (after : ℕ) (pushed : List Part) → Addends at start old mid parts next
      → Some op ≡ op_by adding_op (sign_at adding (words_at text tokens next)) → Reads (part_class (product_class (unary_class n))) text tokens (next + 1) mid new value Other after
      → pushed ≡ parts ++ part_of op value ∷ [] → Addends at start old new pushed after
  addends_more at start old mid new parts next op value after pushed p signed r e =
      let s = op_some adding_op (sign_at adding (words_at text tokens next)) op signed in
      row_more (part_class (product_class (unary_class n))) (product_goes_on (unary_on n)) (product_law n) adding_word adding (part_of Plus) (λ sign x. part_of (adding_op sign) x) text tokens at start old mid new parts next s.0 value Other
      after pushed p s.1 r (e ∙ ap (λ o. parts ++ part_of o value ∷ []) s.2)

  pub addends_fail : (at start : ℕ) (old mid : Seen) (parts : List Part) (next : ℕ) (op : Op) (f : Fault) → Addends at start old mid parts next
      → Some op ≡ op_by adding_op (sign_at adding (words_at text tokens next)) → product_at n (words_at text tokens (next + 1)) ≡ Err f → sum_at n (words_at text tokens at) ≡ Err f
  addends_fail at start old mid parts next op f p signed h =
      let s = op_some adding_op (sign_at adding (words_at text tokens next)) op signed in
      row_fails (part_class (product_class (unary_class n))) (product_goes_on (unary_on n)) (product_law n) adding_word adding (part_of Plus) (λ sign x. part_of (adding_op sign) x) text tokens at start old mid parts next s.0 f p s.1 h

  pub sum_many : (at start : ℕ) (old new : Seen) (parts : List Part) (next : ℕ) (op : Op) → Addends at start old new parts next
      → Some op ≡ op_by adding_op (sign_at adding (words_at text tokens start)) → None ≡ op_by adding_op (sign_at adding (words_at text tokens next))
      → Reads (sum_class (unary_class n)) text tokens at old new (t.Sum parts) Other next
  sum_many at start old new parts next op p some none =
      let s = op_some adding_op (sign_at adding (words_at text tokens start)) op some in
      row_many (product_class (unary_class n)) (product_goes_on (unary_on n)) (product_law n) adding_word adding t.Sum Plus adding_op text tokens at start old new parts next s.0 p s.1
      (op_none adding_op (sign_at adding (words_at text tokens next)) none)

  pub sum_one : (at : ℕ) (old new : Seen) (value : Term) (shape : Shape) (next : ℕ) → Reads (product_class (unary_class n)) text tokens at old new value shape next
      → None ≡ op_by adding_op (sign_at adding (words_at text tokens next)) → Reads (sum_class (unary_class n)) text tokens at old new value shape next
  sum_one at old new value shape next r none =
      row_one (product_class (unary_class n)) (product_goes_on (unary_on n)) (product_law n) adding_word adding t.Sum Plus adding_op text tokens at old new value shape next r (op_none adding_op (sign_at adding (words_at text tokens next)) none)

  pub sum_fails : (at : ℕ) (f : Fault) → product_at n (words_at text tokens at) ≡ Err f → sum_at n (words_at text tokens at) ≡ Err f
  sum_fails at f h = first_fails (product_class (unary_class n)) (product_goes_on (unary_on n)) (product_law n) adding_word adding (λ x. x) (λ s x. x) text tokens at f h

  -- ---- arguments
  abbrev pub Arguments : (at start : ℕ) (old new : Seen) (found : List Term) (next : ℕ) → Type 0
  Arguments = Partial (argument_class (term_class (unary_class n))) (term_goes_on (unary_on n)) (term_law n) comma_word comma (λ x. x) (λ sign x. x) text tokens

  pub arguments_start : (at : ℕ) (old new : Seen) (value : Term) (next : ℕ) (found : List Term) → Reads (argument_class (term_class (unary_class n))) text tokens at old new value Other next → found ≡ value ∷ []
      → Arguments at next old new found next
  arguments_start at old new value next found r e =
      row_start (argument_class (term_class (unary_class n))) (term_goes_on (unary_on n)) (term_law n) comma_word comma (λ x. x) (λ sign x. x) text tokens at old new value Other next found r e

  pub arguments_more : (at start : ℕ) (old mid new : Seen) (found : List Term) (next : ℕ) (value : Term) (after : ℕ) (pushed : List Term) → Arguments at start old mid found next → is_next m.Comma (words_at text tokens next) ≡ true
      → Reads (argument_class (term_class (unary_class n))) text tokens (next + 1) mid new value Other after → pushed ≡ found ++ value ∷ [] → Arguments at start old new pushed after
  arguments_more at start old mid new found next value after pushed p there r e =
      row_more (argument_class (term_class (unary_class n))) (term_goes_on (unary_on n)) (term_law n) comma_word comma (λ x. x) (λ sign x. x) text tokens at start old mid new found next tt value Other after pushed
      p (a_comma (words_at text tokens next) there) r e

  pub arguments_fail : (at start : ℕ) (old mid : Seen) (found : List Term) (next : ℕ) (f : Fault) → Arguments at start old mid found next → is_next m.Comma (words_at text tokens next) ≡ true
      → term_at n (words_at text tokens (next + 1)) ≡ Err f → args_at n (words_at text tokens at) ≡ Err f
  arguments_fail at start old mid found next f p there h =
      row_fails (argument_class (term_class (unary_class n))) (term_goes_on (unary_on n)) (term_law n) comma_word comma (λ x. x) (λ sign x. x) text tokens at start old mid found next tt f p (a_comma (words_at text tokens next) there) h

  pub arguments_done : (at start : ℕ) (old new : Seen) (found : List Term) (next : ℕ) → Arguments at start old new found next → is_next m.Comma (words_at text tokens next) ≡ false
      → Reads (args_class (unary_class n)) text tokens at old new found Other next
  arguments_done at start old new found next p gone =
      row_done (argument_class (term_class (unary_class n))) (term_goes_on (unary_on n)) (term_law n) comma_word comma (λ x. x) (λ sign x. x) text tokens at start old new found next p (no_comma (words_at text tokens next) gone)

  pub first_argument_fails : (at : ℕ) (f : Fault) → term_at n (words_at text tokens at) ≡ Err f → args_at n (words_at text tokens at) ≡ Err f
  first_argument_fails at f h = first_fails (argument_class (term_class (unary_class n))) (term_goes_on (unary_on n)) (term_law n) comma_word comma (λ x. x) (λ sign x. x) text tokens at f h

pub mark_within : (text : List ℕ) (tokens : List Token) (mark : Mark) (at : ℕ) → is_next mark (words_at text tokens at) ≡ true → at < length tokens
mark_within text tokens mark at h = by (words_at text tokens at) refl h
  where
    by : (words : List Word) → words_at text tokens at ≡ words → is_next mark words ≡ true → at < length tokens
    by [] e h = absurd cc
    by (w ∷ words) e h = let l = ap length e in let l2 = words_long text tokens at in omega (arith, l, l2)

-- a term that was made, unless memory ran out
pub term_read_of : {A : Type 0} (class : Class A Term) (text : List ℕ) (tokens : List Token) (at : ℕ) (old new : Seen) (r : Result ReadTerm Stop) (made : ReadTerm) → IfOk r (λ x. x ≡ made) → IfErr r (λ failed. failed ≡ stop.Memory)
    → Reads class text tokens at old new made.term made.shape made.next → TermRead class text tokens at old new r
term_read_of class text tokens at old new (Ok x) made h g reads = subst (λ z. Reads class text tokens at old new z.term z.shape z.next) (sym h) reads
term_read_of class text tokens at old new (Err f) made h g reads = subst (λ z. Fails text tokens (class.read (words_at text tokens at)) z) (sym g) tt
