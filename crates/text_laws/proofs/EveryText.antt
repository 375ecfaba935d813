-- A text that has tokens parses to statements or has a first fault: statement by statement, the reader of words decides.
use Rattle.std.proofs.Common.{◌≡◌, ℕ, zero, suc, ◌+◌, ◌-◌, ◌≤◌, ◌<◌, ◌⊎◌, inl, inr, List, [], ◌∷◌, ◌++◌, length, drop, Option, Some, None, IsNone, IfSome, Result, Ok, Err, refl, sym, ◌∙◌, ap, subst, arith}
use Rattle.std.proofs.lemmas.List.{drop-drop, length-append}
use Rattle.lexer.specs.declared.token.Token.{Token}
use Rattle.lexer.specs.declared.token.LexFault.{LexFault}
use Rattle.lexer.specs.Parts.{IsTokenisation}
use Rattle.lexer.specs.Faults.{IsFirstFault}
use Rattle.lexer.specs.Places.{line_of, column_of}
use Rattle.syntax_tree.specs.declared.statement.Statement.{Statement}
use Rattle.grammar.specs.declared.check.Check.{Check}
use Rattle.grammar.specs.declared.check.Check.TheVariants as check
use Rattle.grammar.specs.declared.check.Failing.{Failing}
use Rattle.grammar.specs.Word.{Word, words_of, words_at}
use Rattle.grammar.specs.Sight.{size}
use Rattle.grammar.specs.Statement.{StatementAt, words_of_statement}
use Rattle.grammar.specs.Check.{first_of, failing}
use Rattle.grammar.specs.Reading.{Expected, TooDeep, Outcome}
use Rattle.grammar.specs.StatementReading.{statement_at}
use Rattle.grammar.proofs.First.{Found}
use Rattle.grammar.proofs.StatementLaws.{statement_law}
use Rattle.grammar.proofs.StatementDeeper.{statement_expected, statement_deep}
use Rattle.theory_grammar.specs.Kept.{place_of}
use Rattle.theory_grammar.specs.declared.fault.Stop.TheVariants as stop
use Rattle.theory_grammar.proofs.StateLemmas.{words_long}
use Rattle.asp_parser.specs.declared.fault.TextFault.{TextFault}
use Rattle.asp_parser.specs.declared.fault.TextStop.TheVariants.{Fault}
use Rattle.asp_parser.specs.Parsed.{check_cause, tree_of, IsFirstFailing, IsFaultAt, FoundText, IsTextFault, lex_cause}
use Rattle.asp_parser.specs.TextState.{Passes, IsRefused, Stood, ReadAll}
use Rattle.asp_parser.proofs.TextLemmas.{drop_front, long_words, none_fails, refused}
use Rattle.asp_parser.proofs.TextTurns.{stood_start, stood_more, stood_all, stood_stop, all_found, all_stops}
use Rattle.text_laws.specs.Answered.{HasAnswer}

module _ (text : List ℕ) (tokens : List Token) where
  abbrev here : ℕ → List Word
  here at = words_at text tokens at

  -- a statement stands from a word on, or is refused
  abbrev Turn : ℕ → Type 0
  Turn at = ((next : ℕ) × (made : Statement) × Passes text tokens at made next) ⊎ ((fault : TextFault) × IsRefused text tokens at fault)

  -- ---- a statement that is not read
  -- a place by the words that are left there
  left_there : (k : ℕ) → k ≤ length tokens → length (here (length tokens - k)) ≡ k
  left_there k within = words_long text tokens (length tokens - k) ∙ omega (arith, within)

  few_left : (Claim : List Word → List Word → Type 0) (from k : ℕ) → Found Claim (here from) k → k ≤ length tokens
  few_left Claim from k f =
      let whole = ap length f.split in
      let parts = length-append f.front f.after in
      let begin = words_long text tokens from in
      let place = f.place in
      omega (arith, whole, parts, begin, place)

  expected_turn : (at k : ℕ) → at ≤ length tokens → statement_at 64 (here at) ≡ Err (Expected k) → Turn at
  expected_turn at k start is =
      let within = few_left _ at k (statement_expected 64 (here at) k is) in
      inr (_, refused text tokens at (stop.Expected (length tokens - k)) start (is ∙ ap (λ n. Err (Expected n)) (sym (left_there k within)), omega arith))

  deep_turn : (at k : ℕ) → at ≤ length tokens → statement_at 64 (here at) ≡ Err (TooDeep k) → Turn at
  deep_turn at k start is =
      let within = few_left _ at k (statement_deep 64 (here at) k is) in
      inr (_, refused text tokens at (stop.TooDeep (length tokens - k)) start (is ∙ ap (λ n. Err (TooDeep n)) (sym (left_there k within)), omega arith))

  -- ---- a statement that is read
  module _ (at : ℕ) (start : at ≤ length tokens) (form : StatementAt 64) (rest : List Word) (is : statement_at 64 (here at) ≡ Ok (form, rest)) where
    abbrev next : ℕ
    next = at + size (words_of_statement 64) form

    stands : here at ≡ words_of_statement 64 form rest
    stands = ((statement_law 64).sound (here at) form rest is).0

    behind : rest ≡ here next
    behind =
        sym (ap (drop (size (words_of_statement 64) form)) (stands ∙ (statement_law 64).parted form [] rest) ∙ drop_front (words_of_statement 64 form []) rest)
        ∙ drop-drop (size (words_of_statement 64) form) at (words_of text tokens)

    -- the words of a form, and those that are left
    lengths : (at + 1 ≤ next) × (next ≤ length tokens)
    lengths =
        let whole = ap length stands in
        let long = long_words form rest in
        let begin = words_long text tokens at in
        let some = (statement_law 64).some form rest in
        (omega (arith, whole, long, begin, some, start), omega (arith, whole, long, begin, some, start))

    passes : failing 64 form at ≡ [] → Turn at
    passes pass = inl (
      next,
      tree_of tokens form at,
      record {
        form = form;
        stands = stands ∙ ap (words_of_statement 64 form) behind;
        place = refl;
        forward = lengths.0;
        within = lengths.1;
        pass = pass;
        is = refl;
      },
    )

    fails : (found : Failing) → first_of None (failing 64 form at) ≡ Some found → Turn at
    fails found first = inr (
      record { line = line_of text (place_of text tokens found.at); column = column_of text (place_of text tokens found.at); cause = check_cause found.check },
      record {
        at = found.at;
        is = by found.check here_first;
        line = refl;
        column = refl;
      },
    )
      where
        here_first : IsFirstFailing text tokens at found.at (check_cause found.check)
        here_first = record { form = form; rest = rest; stands = stands; first = found; is = first; place = refl; cause = refl }

        by : (c : Check) → IsFirstFailing text tokens at found.at (check_cause c) → IsFaultAt text tokens at found.at (check_cause c)
        by check.UnknownTheory h = h
        by check.WrongPlace h = h
        by check.BadGuard h = h
        by check.BadTerm h = h
        by check.TooManyVariables h = h

    read_turn : Turn at
    read_turn = by (first_of None (failing 64 form at)) refl
      where
        by : (o : Option Failing) → first_of None (failing 64 form at) ≡ o → Turn at
        by None none = passes (none_fails (failing 64 form at) none)
        by (Some found) first = fails found first

  turn : (at : ℕ) → at ≤ length tokens → Turn at
  turn at start = by (statement_at 64 (here at)) refl
    where
      by : (r : Outcome (StatementAt 64)) → statement_at 64 (here at) ≡ r → Turn at
      by (Ok read) is = read_turn at start read.0 read.1 is
      by (Err (Expected k)) is = expected_turn at k start is
      by (Err (TooDeep k)) is = deep_turn at k start is

  -- ---- one statement after another
  abbrev Answer : Type 0
  Answer = ((found : List Statement) × ReadAll text tokens (Ok found)) ⊎ ((fault : TextFault) × ReadAll text tokens (Err (Fault fault)))

  -- an answer where so many words are left at most
  abbrev Onward : ℕ → Type 0
  Onward left = (at : ℕ) (found : List Statement) → length tokens - at ≤ left → Stood text tokens at found → Answer

  turns : (left : ℕ) → Onward left
  turns zero at found few s = inl (found, stood_all text tokens at found s (omega (arith, few)))
  turns (suc left) at found few s = by (turns left) (turn at s.within)
    where
      further : Onward left → (next : ℕ) (made : Statement) → Passes text tokens at made next → Answer
      further onward next made p = onward next (found ++ made ∷ []) (let f = p.forward in omega (arith, few, f)) (stood_more text tokens at next found (found ++ made ∷ []) made s p refl)

      stopped : (fault : TextFault) → IsRefused text tokens at fault → (at < length tokens) ⊎ (length tokens ≤ at) → Answer
      stopped fault refusal (inl more) = inr (fault, stood_stop text tokens at found (Fault fault) s more refusal)
      stopped fault refusal (inr all) = inl (found, stood_all text tokens at found s all)

      by : Onward left → Turn at → Answer
      by onward (inl p) = further onward p.0 p.1 p.2
      by onward (inr r) = stopped r.0 r.1 (below at (length tokens))
        where
          below : (a b : ℕ) → (a < b) ⊎ (b ≤ a)
          below a zero = inr (omega arith)
          below zero (suc b) = inl (omega arith)
          below (suc a) (suc b) = go (below a b)
            where
              go : (a < b) ⊎ (b ≤ a) → (suc a < suc b) ⊎ (suc b ≤ suc a)
              go (inl less) = inl (omega (arith, less))
              go (inr most) = inr (omega (arith, most))

  answer : Answer
  answer = turns (length tokens) 0 [] (omega arith) (stood_start text tokens [] refl)

-- a text that has tokens has an answer
pub tokenised_answer : (text : List ℕ) (tokens : List Token) → IsTokenisation text tokens → HasAnswer text
tokenised_answer text tokens is = by (answer text tokens)
  where
    by : ((found : List Statement) × ReadAll text tokens (Ok found)) ⊎ ((fault : TextFault) × ReadAll text tokens (Err (Fault fault))) → HasAnswer text
    by (inl found) = inl (found.0, all_found text tokens (Ok found.0) is found.1)
    by (inr stop) = inr (stop.0, all_stops text tokens (Err (Fault stop.0)) is stop.1)

-- and so has one with a fault in its tokens
pub lexed_answer : (text : List ℕ) (fault : LexFault) → IsFirstFault text fault → HasAnswer text
lexed_answer text fault is =
    inr (record { line = line_of text fault.at; column = column_of text fault.at; cause = lex_cause fault.cause }, inl (record { found = fault; is = is; line = refl; column = refl; cause = refl }))

pub any_answer : (text : List ℕ) (found : Option LexFault) → (IsNone found → (tokens : List Token) × IsTokenisation text tokens) → IfSome found (IsFirstFault text) → HasAnswer text
any_answer text None tokens fault = let t = tokens refl in tokenised_answer text t.0 t.1
any_answer text (Some found) tokens fault = lexed_answer text found fault
