-- Statements are lawful at every depth, whatever stands behind their dot.
use Rattle.std.proofs.Common.{◌≡◌, ℕ, Bool, true, false, ◌&&◌, List, [], None, Ok, Err, refl, if◌then◌else◌}
use Rattle.grammar.specs.declared.mark.Mark.TheVariants as m
use Rattle.grammar.specs.Word.{Word, Ends, is_word}
use Rattle.grammar.specs.Word as word
use Rattle.grammar.specs.Parts.{marked_words, closed_words, signed_words, pair_words}
use Rattle.grammar.specs.Term.{TermAt, operand_words}
use Rattle.grammar.specs.Statement.{no_arrow, arrow, headed, constraint, constant, show_nothing, show, StatementAt, body_words, head_words, arrow_words, words_of_statement}
use Rattle.grammar.specs.Reading.{Outcome, Reader, Either, one, other, and_then, starts_next, pair_with, marked_with, closed_with, mapped_with, signed_with, either_with, term_at, level}
use Rattle.grammar.specs.TheoryReading.{is_name, name_with}
use Rattle.grammar.specs.StatementReading.{is_const, is_show, const_sign, show_sign, numeral_with, mark_with, rule_of, constant_of, show_of, statement_of, body_with, head_with, arrow_with, constraint_with, statement_at}
use Rattle.grammar.proofs.Lawful.{Lawful, or_false, never_on}
use Rattle.grammar.proofs.TermLaws.{term_text, term_law}
use Rattle.grammar.proofs.Pairs.{weak_of, pair_goes_on, pair_lawful}
use Rattle.grammar.proofs.Marked.{marked_lawful, closed_lawful, mapped_lawful}
use Rattle.grammar.proofs.KindLaws.{signed_lawful, either_words, either_goes_on, either_lawful, lawful_as, lawful_by}
use Rattle.grammar.proofs.ConditionLaws.{Closing, next_as, term_on, term_closes, some_term}
use Rattle.grammar.proofs.ElementLaws.{name_words, name_on, name_law}
use Rattle.grammar.proofs.SignLaws.{const_text, const_is, const_only, show_text, show_is, show_only, numeral_words, numeral_on, numeral_law, dot_words, dot_on, dot_law}
use Rattle.grammar.proofs.LiteralLaws.{Bodies, body_on, body_law, body_closes}
use Rattle.grammar.proofs.ChoiceLaws.{and_false}
use Rattle.grammar.proofs.HeadLaws.{Stopping, HeadAt, ArrowAt, begins_head, head_on, head_law, head_closes, head_begins, arrow_on, arrow_law}

-- no word goes on with a form
abbrev pub ended : {A : Type 0} → A → Word → Bool
ended a next = false

-- ---- words with which no head goes on
dot_closes : Closing (word.mark m.Dot)
dot_closes = record { opens = refl; multiply = refl; add = refl; dots = refl }

dot_stops : Stopping (word.mark m.Dot)
dot_stops = record { closing = dot_closes; relates = refl; bounds = refl; begin = refl }

arrow_stops : Stopping (word.mark m.Arrow)
arrow_stops = record { closing = record { opens = refl; multiply = refl; add = refl; dots = refl }; relates = refl; bounds = refl; begin = refl }

-- ---- heads begin with neither `:-` nor `#const` nor `#show`
not_arrow : (w : Word) → begins_head w ≡ true → is_word m.Arrow w ≡ false
not_arrow (word.mark m.Arrow) h = absurd cc
not_arrow (word.mark _) h = refl
not_arrow _ h = refl

not_const : (w : Word) → begins_head w ≡ true → is_const w ≡ false
not_const word.const_word h = absurd cc
not_const _ h = refl

not_show : (w : Word) → begins_head w ≡ true → is_show w ≡ false
not_show word.show_word h = absurd cc
not_show _ h = refl

module _ (n : ℕ) where
  -- ---- rules
  abbrev RuleParts : Type 0
  RuleParts = HeadAt n × ArrowAt n

  abbrev is_bare : ArrowAt n → Bool
  is_bare no_arrow = true
  is_bare (arrow body) = false

  bare_nothing : (a : ArrowAt n) (rest : List Word) → is_bare a ≡ true → arrow_words (operand_words n) a rest ≡ rest
  bare_nothing no_arrow rest h = refl
  bare_nothing (arrow body) rest h = absurd cc

  arrow_apart : (h : HeadAt n) (a : ArrowAt n) (rest : List Word) → is_bare a ≡ false → Ends (head_on n h) (arrow_words (operand_words n) a rest)
  arrow_apart h no_arrow rest e = absurd cc
  arrow_apart h (arrow body) rest e = head_closes n h (word.mark m.Arrow) arrow_stops

  abbrev undotted_words : RuleParts → List Word → List Word
  undotted_words = pair_words (head_words (operand_words n)) (arrow_words (operand_words n))

  abbrev undotted_on : RuleParts → Word → Bool
  undotted_on = pair_goes_on (head_on n) (arrow_on n) is_bare

  abbrev pub undotted_read : Reader RuleParts
  undotted_read = pair_with (head_with (level n)) (arrow_with (level n))

  undotted_law : Lawful undotted_words undotted_on undotted_read
  undotted_law =
      pair_lawful (head_words (operand_words n)) (head_on n) (head_with (level n)) (weak_of (head_words (operand_words n)) (head_on n) (head_with (level n)) (head_law n)) (arrow_words (operand_words n)) (arrow_on n) (arrow_with (level n)) (arrow_law n)
      is_bare no_arrow bare_nothing arrow_apart (head_law n).some

  arrow_ends : (a : ArrowAt n) → arrow_on n a (word.mark m.Dot) ≡ false
  arrow_ends no_arrow = refl
  arrow_ends (arrow body) = body_closes n body (word.mark m.Dot) dot_closes refl refl refl

  undotted_ends : (p : RuleParts) → undotted_on p (word.mark m.Dot) ≡ false
  undotted_ends p =
      or_false (arrow_on n p.1 (word.mark m.Dot)) (is_bare p.1 && head_on n p.0 (word.mark m.Dot)) (arrow_ends p.1) (and_false (is_bare p.1) (head_on n p.0 (word.mark m.Dot))
      (head_closes n p.0 (word.mark m.Dot) dot_stops))

  abbrev rule_words : RuleParts → List Word → List Word
  rule_words = closed_words m.Dot undotted_words

  abbrev pub rule_read : Reader RuleParts
  rule_read = closed_with m.Dot undotted_read

  pub rule_law : Lawful rule_words ended rule_read
  rule_law = closed_lawful undotted_words undotted_on undotted_read (weak_of undotted_words undotted_on undotted_read undotted_law) m.Dot undotted_ends

  -- ---- constraints
  abbrev ended_body : Bodies n → List Word → List Word
  ended_body = closed_words m.Dot (body_words (operand_words n))

  abbrev ended_body_read : Reader (Bodies n)
  ended_body_read = closed_with m.Dot (body_with (level n))

  ended_body_law : Lawful ended_body ended ended_body_read
  ended_body_law = closed_lawful (body_words (operand_words n)) (body_on n) (body_with (level n)) (body_law n) m.Dot (λ o. body_closes n o (word.mark m.Dot) dot_closes refl refl refl)

  abbrev constraint_words : Bodies n → List Word → List Word
  constraint_words = marked_words m.Arrow ended_body

  pub constraint_law : Lawful constraint_words ended (constraint_with (level n))
  constraint_law = marked_lawful ended_body ended ended_body_read (weak_of ended_body ended ended_body_read ended_body_law) m.Arrow None

  -- ---- constants
  abbrev Constants : Type 0
  Constants = Unit {0} × (List ℕ × TermAt n)

  abbrev ended_term : TermAt n → List Word → List Word
  ended_term = closed_words m.Dot (term_text n)

  abbrev ended_term_read : Reader (TermAt n)
  ended_term_read = closed_with m.Dot (term_at n)

  ended_term_law : Lawful ended_term ended ended_term_read
  ended_term_law =
      closed_lawful (term_text n) (term_on n) (term_at n) (weak_of (term_text n) (term_on n) (term_at n) (term_law n)) m.Dot (λ t. term_closes n t (word.mark m.Dot) dot_closes)

  abbrev value_words : TermAt n → List Word → List Word
  value_words = marked_words m.Equal ended_term

  abbrev pub value_read : Reader (TermAt n)
  value_read = marked_with m.Equal ended_term_read

  pub value_law : Lawful value_words ended value_read
  value_law = marked_lawful ended_term ended ended_term_read (weak_of ended_term ended ended_term_read ended_term_law) m.Equal (some_term n)

  abbrev filled : {A : Type 0} → A → Bool
  filled a = false

  abbrev named_words : List ℕ × TermAt n → List Word → List Word
  named_words = pair_words name_words value_words

  abbrev named_on : List ℕ × TermAt n → Word → Bool
  named_on = pair_goes_on name_on ended filled

  abbrev named_read : Reader (List ℕ × TermAt n)
  named_read = pair_with name_with value_read

  named_law : Lawful named_words named_on named_read
  named_law =
      pair_lawful name_words name_on name_with (weak_of name_words name_on name_with name_law) value_words ended value_read (weak_of value_words ended value_read value_law) filled (some_term n) (λ t rest h. absurd cc)
      (λ name t rest h. never_on (value_words t rest)) name_law.some

  abbrev constant_words : Constants → List Word → List Word
  constant_words = signed_words const_text named_words

  abbrev constant_on : Constants → Word → Bool
  constant_on p = named_on p.1

  abbrev pub constant_read : Reader Constants
  constant_read = signed_with const_sign named_read

  pub constant_law : Lawful constant_words constant_on constant_read
  constant_law = signed_lawful const_text const_sign const_is const_only named_words named_on named_read named_law (tt, ([], some_term n))

-- ---- what is shown
abbrev Shows : Type 0
Shows = Unit {0} × Either (List ℕ × ℕ) (Unit {0})

abbrev ended_numeral : ℕ → List Word → List Word
ended_numeral = closed_words m.Dot numeral_words

abbrev ended_numeral_read : Reader ℕ
ended_numeral_read = closed_with m.Dot numeral_with

ended_numeral_law : Lawful ended_numeral ended ended_numeral_read
ended_numeral_law = closed_lawful numeral_words numeral_on numeral_with (weak_of numeral_words numeral_on numeral_with numeral_law) m.Dot (λ k. refl)

abbrev arity_words : ℕ → List Word → List Word
arity_words = marked_words m.Divide ended_numeral

abbrev pub arity_read : Reader ℕ
arity_read = marked_with m.Divide ended_numeral_read

pub arity_law : Lawful arity_words ended arity_read
arity_law = marked_lawful ended_numeral ended ended_numeral_read (weak_of ended_numeral ended ended_numeral_read ended_numeral_law) m.Divide 0

abbrev counted : ℕ → Bool
counted k = false

abbrev predicate_words : List ℕ × ℕ → List Word → List Word
predicate_words = pair_words name_words arity_words

abbrev predicate_on : List ℕ × ℕ → Word → Bool
predicate_on = pair_goes_on name_on ended counted

abbrev pub predicate_read : Reader (List ℕ × ℕ)
predicate_read = pair_with name_with arity_read

predicate_law : Lawful predicate_words predicate_on predicate_read
predicate_law =
    pair_lawful name_words name_on name_with (weak_of name_words name_on name_with name_law) arity_words ended arity_read (weak_of arity_words ended arity_read arity_law) counted 0 (λ k rest h. absurd cc)
    (λ name k rest h. never_on (arity_words k rest)) name_law.some

abbrev shown_words : Either (List ℕ × ℕ) (Unit {0}) → List Word → List Word
shown_words = either_words predicate_words dot_words

abbrev shown_on : Either (List ℕ × ℕ) (Unit {0}) → Word → Bool
shown_on = either_goes_on predicate_on dot_on

abbrev pub shown_read : Reader (Either (List ℕ × ℕ) (Unit {0}))
shown_read = either_with is_name predicate_read (mark_with m.Dot)

shown_law : Lawful shown_words shown_on shown_read
shown_law = either_lawful predicate_words predicate_on predicate_read predicate_law dot_words dot_on (mark_with m.Dot) dot_law is_name (λ p rest. refl) (λ dot rest. refl)

abbrev show_words : Shows → List Word → List Word
show_words = signed_words show_text shown_words

abbrev show_on : Shows → Word → Bool
show_on p = shown_on p.1

abbrev pub show_read : Reader Shows
show_read = signed_with show_sign shown_read

pub show_law : Lawful show_words show_on show_read
show_law = signed_lawful show_text show_sign show_is show_only shown_words shown_on shown_read shown_law (tt, other tt)

-- ---- statements
module _ (n : ℕ) where
  abbrev Last : Type 0
  Last = Either Shows (RuleParts n)

  abbrev More : Type 0
  More = Either (Constants n) Last

  abbrev Kinds : Type 0
  Kinds = Either (Bodies n) More

  abbrev last_words : Last → List Word → List Word
  last_words = either_words show_words (rule_words n)

  abbrev last_on : Last → Word → Bool
  last_on = either_goes_on show_on ended

  abbrev last_read : Reader Last
  last_read = either_with is_show show_read (rule_read n)

  last_law : Lawful last_words last_on last_read
  last_law =
      either_lawful show_words show_on show_read show_law (rule_words n) ended (rule_read n) (rule_law n) is_show (λ s rest. refl)
      (λ p rest. next_as begins_head is_show not_show (rule_words n p rest) (head_begins n p.0 _))

  abbrev more_words : More → List Word → List Word
  more_words = either_words (constant_words n) last_words

  abbrev more_on : More → Word → Bool
  more_on = either_goes_on (constant_on n) last_on

  abbrev more_read : Reader More
  more_read = either_with is_const (constant_read n) last_read

  last_not_const : (e : Last) (rest : List Word) → starts_next is_const (last_words e rest) ≡ false
  last_not_const (one s) rest = refl
  last_not_const (other p) rest = next_as begins_head is_const not_const (rule_words n p rest) (head_begins n p.0 _)

  more_law : Lawful more_words more_on more_read
  more_law = either_lawful (constant_words n) (constant_on n) (constant_read n) (constant_law n) last_words last_on last_read last_law is_const (λ c rest. refl) last_not_const

  more_not_arrow : (e : More) (rest : List Word) → starts_next (is_word m.Arrow) (more_words e rest) ≡ false
  more_not_arrow (one c) rest = refl
  more_not_arrow (other (one s)) rest = refl
  more_not_arrow (other (other p)) rest = next_as begins_head (is_word m.Arrow) not_arrow (rule_words n p rest) (head_begins n p.0 _)

  abbrev kinds_words : Kinds → List Word → List Word
  kinds_words = either_words (constraint_words n) more_words

  abbrev kinds_on : Kinds → Word → Bool
  kinds_on = either_goes_on ended more_on

  abbrev kinds_read : Reader Kinds
  kinds_read = either_with (is_word m.Arrow) (constraint_with (level n)) more_read

  kinds_law : Lawful kinds_words kinds_on kinds_read
  kinds_law = either_lawful (constraint_words n) ended (constraint_with (level n)) (constraint_law n) more_words more_on more_read more_law (is_word m.Arrow) (λ o rest. refl) more_not_arrow

  abbrev kind_of : StatementAt n → Kinds
  kind_of (headed head behind) = other (other (other (head, behind)))
  kind_of (constraint body) = one body
  kind_of (constant name term) = other (one (tt, (name, term)))
  kind_of show_nothing = other (other (one (tt, other tt)))
  kind_of (show name arity) = other (other (one (tt, one (name, arity))))

  abbrev whole_of : Kinds → StatementAt n
  whole_of (one body) = constraint body
  whole_of (other (one c)) = constant_of c
  whole_of (other (other (one s))) = show_of s
  whole_of (other (other (other p))) = rule_of p

  of_kind : (s : StatementAt n) → whole_of (kind_of s) ≡ s
  of_kind (headed head behind) = refl
  of_kind (constraint body) = refl
  of_kind (constant name term) = refl
  of_kind show_nothing = refl
  of_kind (show name arity) = refl

  kind_is : (k : Kinds) → kind_of (whole_of k) ≡ k
  kind_is (one body) = refl
  kind_is (other (one c)) = refl
  kind_is (other (other (one (s, one p)))) = refl
  kind_is (other (other (one (s, other dot)))) = refl
  kind_is (other (other (other p))) = refl

  -- the forms of the readers, read at once
  reads_same : (ts : List Word) → mapped_with whole_of kinds_read ts ≡ statement_at n ts
  reads_same ts = by (starts_next (is_word m.Arrow) ts) (starts_next is_const ts) (starts_next is_show ts) (constraint_with (level n) ts) (constant_read n ts) (show_read ts) (rule_read n ts)
    where
      by : (a b c : Bool) (k : Outcome (Bodies n)) (x : Outcome (Constants n)) (y : Outcome Shows) (z : Outcome (RuleParts n))
          → and_then (if a then and_then k (λ v rest. Ok (one v, rest))
          else and_then (if b then and_then x (λ v rest. Ok (one v, rest))
          else and_then (if c then and_then y (λ v rest. Ok (one v, rest)) else and_then z (λ v rest. Ok (other v, rest))) (λ v rest. Ok (other v, rest))) (λ v rest. Ok (other v, rest))) (λ v rest. Ok (whole_of v, rest))
          ≡ and_then (if a then and_then k (λ v rest. Ok (one v, rest))
          else and_then (if b then and_then (and_then x (λ v rest. Ok (constant_of v, rest))) (λ v rest. Ok (one v, rest))
          else and_then (if c then and_then (and_then y (λ v rest. Ok (show_of v, rest))) (λ v rest. Ok (one v, rest)) else and_then (and_then z (λ v rest. Ok (rule_of v, rest))) (λ v rest. Ok (other v, rest)))
          (λ v rest. Ok (other v, rest))) (λ v rest. Ok (other v, rest))) (λ v rest. Ok (statement_of v, rest))
      by true b c (Ok p) x y z = refl
      by true b c (Err f) x y z = refl
      by false true c k (Ok p) y z = refl
      by false true c k (Err f) y z = refl
      by false false true k x (Ok p) z = refl
      by false false true k x (Err f) z = refl
      by false false false k x y (Ok p) = refl
      by false false false k x y (Err f) = refl

  kind_words : (s : StatementAt n) (rest : List Word) → kinds_words (kind_of s) rest ≡ words_of_statement n s rest
  kind_words (headed head behind) rest = refl
  kind_words (constraint body) rest = refl
  kind_words (constant name term) rest = refl
  kind_words show_nothing rest = refl
  kind_words (show name arity) rest = refl

  kind_ends : (s : StatementAt n) (w : Word) → kinds_on (kind_of s) w ≡ false
  kind_ends (headed head behind) w = refl
  kind_ends (constraint body) w = refl
  kind_ends (constant name term) w = refl
  kind_ends show_nothing w = refl
  kind_ends (show name arity) w = refl

  pub statement_law : Lawful (words_of_statement n) (λ s w. false) (statement_at n)
  statement_law =
      lawful_by (words_of_statement n) (λ s w. false) (mapped_with whole_of kinds_read) (statement_at n) reads_same
      (lawful_as _ (words_of_statement n) _ (λ s w. false) (mapped_with whole_of kinds_read) kind_words kind_ends (mapped_lawful kinds_words kinds_on kinds_read kinds_law whole_of kind_of of_kind kind_is))
