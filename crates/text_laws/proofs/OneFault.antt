-- A text has one fault at most.
use Rattle.std.proofs.Common.{◌≡◌, ℕ, ◌+◌, ◌⊎◌, List, [], ◌∷◌, ◌++◌, length, inl, inr, None, refl, sym, ◌∙◌, ap, subst, append_assoc}
use Rattle.lexer.specs.declared.token.Token.{Token}
use Rattle.lexer.specs.Places.{line_of, column_of}
use Rattle.lexer.proofs.OneLemmas.{one_tokenisation, no_tokenisation}
use Rattle.lexer.proofs.OneLemmas as lexer
use Rattle.grammar.specs.declared.check.Failing.{Failing}
use Rattle.grammar.specs.Word.{Word, words_of}
use Rattle.grammar.specs.Statement.{StatementAt, words_of_statement, text_words}
use Rattle.grammar.specs.Check.{first_of, failing}
use Rattle.grammar.specs.Faults.{CanGoOn, IsExpected, IsTooDeep}
use Rattle.grammar.proofs.TextLaws.{one_statement}
use Rattle.theory_grammar.specs.Kept.{place_of}
use Rattle.asp_parser.specs.declared.fault.TextCause.{TextCause}
use Rattle.asp_parser.specs.declared.fault.TextCause.TheVariants as cause
use Rattle.asp_parser.specs.declared.fault.TextFault.{TextFault}
use Rattle.asp_parser.specs.Parsed.{lex_cause, check_cause, behind, StandsNone, IsParted, IsFirstFailing, IsFaultAt, IsLexFault, IsStatementFault, IsTextFault}
use Rattle.text_laws.proofs.OneReading.{same_forms, none_behind}

-- ---- two ways to part words
-- the second front goes on behind the first
record GoesPast (front after other : List Word) : Type 0 where
  next : Word
  rest : List Word
  more : List Word
  stands : after ≡ next ∷ rest
  is : other ≡ front ++ next ∷ more

abbrev Compared : List Word → List Word → List Word → List Word → Type 0
Compared front after other beyond = ((front ≡ other) × (after ≡ beyond)) ⊎ (GoesPast front after other ⊎ GoesPast other beyond front)

one_further : (word : Word) (front after other : List Word) → GoesPast front after other → GoesPast (word ∷ front) after (word ∷ other)
one_further word front after other g = record { next = g.next; rest = g.rest; more = g.more; stands = g.stands; is = ap (λ z. word ∷ z) g.is }

led_by_one : (word : Word) (front after other beyond : List Word) → Compared front after other beyond → Compared (word ∷ front) after (word ∷ other) beyond
led_by_one word front after other beyond (inl same) = inl (ap (λ z. word ∷ z) same.0, same.1)
led_by_one word front after other beyond (inr (inl past)) = inr (inl (one_further word front after other past))
led_by_one word front after other beyond (inr (inr past)) = inr (inr (one_further word other beyond front past))

compared : (front after other beyond : List Word) → front ++ after ≡ other ++ beyond → Compared front after other beyond
compared [] after [] beyond h = inl (refl, h)
compared [] after (word ∷ other) beyond h = inr (inl (record { next = word; rest = other ++ beyond; more = other; stands = h; is = refl }))
compared (word ∷ front) after [] beyond h = inr (inr (record { next = word; rest = front ++ after; more = front; stands = sym h; is = refl }))
compared (word ∷ front) after (first ∷ other) beyond h =
    let heads : word ≡ first = cc in
    let tails : front ++ after ≡ other ++ beyond = cc in
    subst (λ z. Compared (word ∷ front) after (z ∷ other) beyond) heads (led_by_one word front after other beyond (compared front after other beyond tails))

-- ---- where words stop to go on
-- what stands before can go on, and with the next word it can not
record IsStuck (front after : List Word) : Type 0 where
  begins : CanGoOn (words_of_statement 64) front
  never : (next : Word) (rest : List Word) → after ≡ next ∷ rest → CanGoOn (words_of_statement 64) (front ++ next ∷ []) → ⊥

stuck_expected : (front after : List Word) → IsExpected StatementAt words_of_statement 64 front after → IsStuck front after
stuck_expected front after e = record { begins = e.begins; never = e.never 64 }

stuck_deep : (front after : List Word) → IsTooDeep StatementAt words_of_statement 64 front after → IsStuck front after
stuck_deep front after d = record { begins = d.begins; never = never }
  where
    never : (next : Word) (rest : List Word) → after ≡ next ∷ rest → CanGoOn (words_of_statement 64) (front ++ next ∷ []) → ⊥
    never next rest e goes =
        let both : d.next ∷ d.rest ≡ next ∷ rest = sym d.stands ∙ e in
        let same : next ≡ d.next = cc in
        d.never (subst (λ z. CanGoOn (words_of_statement 64) (front ++ z ∷ [])) same goes)

never_past : (front after other beyond : List Word) → IsStuck front after → IsStuck other beyond → GoesPast front after other → ⊥
never_past front after other beyond s t g =
    let b = t.begins in
    s.never g.next g.rest g.stands (b.0, g.more ++ b.1, b.2 ∙ ap (λ z. z ++ b.1) g.is ∙ append_assoc front (g.next ∷ g.more) b.1 ∙ sym (append_assoc front (g.next ∷ []) (g.more ++ b.1)))

one_front : (front after other beyond : List Word) → front ++ after ≡ other ++ beyond → IsStuck front after → IsStuck other beyond → (front ≡ other) × (after ≡ beyond)
one_front front after other beyond h s t =
    elim (compared front after other beyond h) [
      | inl same ↦ same
      | inr (inl past) ↦ absurd (never_past front after other beyond s t past)
      | inr (inr past) ↦ absurd (never_past other beyond front after t s past)
    ]

-- at one place no form goes on at any depth, or a deeper one does
not_both : (front after other beyond : List Word) → front ≡ other → after ≡ beyond → IsExpected StatementAt words_of_statement 64 front after → IsTooDeep StatementAt words_of_statement 64 other beyond → ⊥
not_both front after other beyond fronts afters e d =
    e.never d.depth d.next d.rest (afters ∙ d.stands) (subst (λ z. CanGoOn (words_of_statement d.depth) (z ++ d.next ∷ [])) (sym fronts) d.deeper)

-- ---- two faults of the statement from one word on
module _ (text : List ℕ) (tokens : List Token) (from : ℕ) where
  abbrev IsExpectedAt : ℕ → Type 0
  IsExpectedAt at = StandsNone text tokens from × IsParted (IsExpected StatementAt words_of_statement 64) text tokens from at

  abbrev IsTooDeepAt : ℕ → Type 0
  IsTooDeepAt at = StandsNone text tokens from × IsParted (IsTooDeep StatementAt words_of_statement 64) text tokens from at

  -- the three kinds of them
  abbrev Kinds : ℕ → TextCause → Type 0
  Kinds at failed = ((failed ≡ cause.Expected) × IsExpectedAt at) ⊎ (((failed ≡ cause.TooDeep) × IsTooDeepAt at) ⊎ IsFirstFailing text tokens from at failed)

  kinds : (at : ℕ) (failed : TextCause) → IsFaultAt text tokens from at failed → Kinds at failed
  kinds at cause.Expected h = inl (refl, h)
  kinds at cause.TooDeep h = inr (inl (refl, h))
  kinds at cause.UnknownTheory h = inr (inr h)
  kinds at cause.WrongPlace h = inr (inr h)
  kinds at cause.BadGuard h = inr (inr h)
  kinds at cause.BadTerm h = inr (inr h)
  kinds at cause.TooManyVariables h = inr (inr h)
  kinds at cause.NotUtf8 h = absurd h
  kinds at cause.OpenString h = absurd h
  kinds at cause.OpenComment h = absurd h
  kinds at cause.BadCharacter h = absurd h
  kinds at cause.NumberTooLarge h = absurd h

  -- what is parted at a place where words are stuck
  parted_once : (Claim Other : List Word → List Word → Type 0) → ((front after : List Word) → Claim front after → IsStuck front after) → ((front after : List Word) → Other front after → IsStuck front after)
      → (at place : ℕ) (p : IsParted Claim text tokens from at) (q : IsParted Other text tokens from place) → (p.0 ≡ q.0) × (p.1 ≡ q.1)
  parted_once Claim Other claimed others at place p q = one_front p.0 p.1 q.0 q.1 (sym p.2 ∙ q.2) (claimed p.0 p.1 p.4) (others q.0 q.1 q.4)

  one_place : (Claim : List Word → List Word → Type 0) → ((front after : List Word) → Claim front after → IsStuck front after) → (at place : ℕ) → IsParted Claim text tokens from at → IsParted Claim text tokens from place → at ≡ place
  one_place Claim claimed at place p q = p.3 ∙ ap (λ z. from + length z) (parted_once Claim Claim claimed claimed at place p q).0 ∙ sym q.3

  never_deep : (at place : ℕ) → IsExpectedAt at → IsTooDeepAt place → ⊥
  never_deep at place e d =
      let p = e.1 in
      let q = d.1 in
      let same = parted_once (IsExpected StatementAt words_of_statement 64) (IsTooDeep StatementAt words_of_statement 64) stuck_expected stuck_deep at place p q in
      not_both p.0 p.1 q.0 q.1 same.0 same.1 p.4 q.4

  one_failing : (at place : ℕ) (failed other : TextCause) → IsFirstFailing text tokens from at failed → IsFirstFailing text tokens from place other → (at ≡ place) × (failed ≡ other)
  one_failing at place failed other f g =
      let p = one_statement 64 f.form g.form f.rest g.rest (sym f.stands ∙ g.stands) in
      let found = sym f.is ∙ ap (λ z. first_of None (failing 64 z from)) p.0 ∙ g.is in
      let first : f.first ≡ g.first = cc in
      (f.place ∙ ap (λ (z : Failing). z.at) first ∙ sym g.place, f.cause ∙ ap (λ (z : Failing). check_cause z.check) first ∙ sym g.cause)

  one_kind : (at place : ℕ) (failed other : TextCause) → Kinds at failed → Kinds place other → (at ≡ place) × (failed ≡ other)
  one_kind at place failed other (inl e) (inl f) = (one_place (IsExpected StatementAt words_of_statement 64) stuck_expected at place e.1.1 f.1.1, e.0 ∙ sym f.0)
  one_kind at place failed other (inl e) (inr (inl f)) = absurd (never_deep at place e.1 f.1)
  one_kind at place failed other (inl e) (inr (inr f)) = absurd (e.1.0 f.form f.rest f.stands)
  one_kind at place failed other (inr (inl e)) (inl f) = absurd (never_deep place at f.1 e.1)
  one_kind at place failed other (inr (inl e)) (inr (inl f)) = (one_place (IsTooDeep StatementAt words_of_statement 64) stuck_deep at place e.1.1 f.1.1, e.0 ∙ sym f.0)
  one_kind at place failed other (inr (inl e)) (inr (inr f)) = absurd (e.1.0 f.form f.rest f.stands)
  one_kind at place failed other (inr (inr e)) (inl f) = absurd (f.1.0 e.form e.rest e.stands)
  one_kind at place failed other (inr (inr e)) (inr (inl f)) = absurd (f.1.0 e.form e.rest e.stands)
  one_kind at place failed other (inr (inr e)) (inr (inr f)) = one_failing at place failed other e f

  one_fault_at : (at place : ℕ) (failed other : TextCause) → IsFaultAt text tokens from at failed → IsFaultAt text tokens from place other → (at ≡ place) × (failed ≡ other)
  one_fault_at at place failed other f g = one_kind at place failed other (kinds at failed f) (kinds place other g)

-- ---- two faults of a text
same_faults : (one other : TextFault) → one.line ≡ other.line → one.column ≡ other.column → one.cause ≡ other.cause → one ≡ other
same_faults one other line column failed = (λ i. record { line = line i; column = column i; cause = failed i })

same_lex : (text : List ℕ) (one other : TextFault) → IsLexFault text one → IsLexFault text other → one ≡ other
same_lex text one other f g =
    let found = lexer.one_fault text f.found g.found f.is g.is in
    same_faults one other (f.line ∙ ap (λ z. line_of text z.at) found ∙ sym g.line) (f.column ∙ ap (λ z. column_of text z.at) found ∙ sym g.column) (f.cause ∙ ap (λ z. lex_cause z.cause) found ∙ sym g.cause)

same_statement : (text : List ℕ) (one other : TextFault) → IsStatementFault text one → IsStatementFault text other → one ≡ other
same_statement text one other f g =
    let tokens = one_tokenisation text f.tokens g.tokens f.tokenised g.tokenised in
    let words : text_words 64 f.forms ++ f.next ∷ f.rest ≡ text_words 64 g.forms ++ g.next ∷ g.rest = sym f.split ∙ ap (words_of text) tokens ∙ g.split in
    let forms = same_forms f.forms g.forms 0 (f.next ∷ f.rest) (g.next ∷ g.rest) words f.pass g.pass (none_behind text one f) (none_behind text other g) in
    let T : List Token → Type 0 = λ z. IsFaultAt text z (behind g.forms 0) g.at other.cause in
    let F : List (StatementAt 64) → Type 0 = λ z. IsFaultAt text f.tokens (behind z 0) g.at other.cause in
    let same = one_fault_at text f.tokens (behind f.forms 0) f.at g.at one.cause other.cause f.is (subst F (sym forms) (subst T (sym tokens) g.is)) in
    let place : place_of text f.tokens f.at ≡ place_of text g.tokens g.at = ap (place_of text f.tokens) same.0 ∙ ap (λ z. place_of text z g.at) tokens in
    same_faults one other (f.line ∙ ap (line_of text) place ∙ sym g.line) (f.column ∙ ap (column_of text) place ∙ sym g.column) same.1

pub one_fault : (text : List ℕ) (one other : TextFault) → IsTextFault text one → IsTextFault text other → one ≡ other
one_fault text one other (inl f) (inl g) = same_lex text one other f g
one_fault text one other (inl f) (inr g) = absurd (no_tokenisation text g.tokens f.found g.tokenised f.is)
one_fault text one other (inr f) (inl g) = absurd (no_tokenisation text f.tokens g.found f.tokenised g.is)
one_fault text one other (inr f) (inr g) = same_statement text one other f g
