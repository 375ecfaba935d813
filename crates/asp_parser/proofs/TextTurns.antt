-- Statements one behind another, up to the end of a text or to its first fault.
use Rattle.std.proofs.Common.{◌≡◌, ℕ, ◌+◌, ◌≤◌, ◌<◌, List, [], ◌∷◌, ◌++◌, length, drop, inl, inr, None, Result, Ok, Err, refl, sym, ◌∙◌, ap, subst, get_or, arith}
use Rattle.std.specs.Result.{IfOk, IfErr}
use Rattle.std.proofs.lemmas.List.{append-nil}
use Rattle.lexer.specs.Parts.{IsTokenisation}
use Rattle.lexer.specs.Faults.{IsFirstFault, IfFault}
use Rattle.lexer.specs.declared.token.Token.{Token}
use Rattle.lexer.specs.declared.token.LexFault.{LexFault}
use Rattle.lexer.specs.declared.token.LexStop.{LexStop}
use Rattle.lexer.specs.declared.token.LexStop.TheVariants as lex
use Rattle.lexer.proofs.OneLemmas.{one_tokenisation, no_tokenisation}
use Rattle.syntax_tree.specs.declared.statement.Statement.{Statement}
use Rattle.grammar.specs.Word.{Word, words_of, words_at, word_of}
use Rattle.grammar.specs.Sight.{size}
use Rattle.grammar.specs.Spelled.{no_token, bytes_at}
use Rattle.grammar.specs.Statement.{StatementAt, words_of_statement, text_words}
use Rattle.grammar.specs.Check.{first_of, failing}
use Rattle.grammar.proofs.SpelledLemmas.{words_from}
use Rattle.grammar.proofs.StatementLaws.{statement_law}
use Rattle.grammar.proofs.TextLaws.{one_statement}
use Rattle.theory_grammar.proofs.StateLemmas.{words_long}
use Rattle.asp_parser.specs.declared.fault.TextCause.{TextCause}
use Rattle.asp_parser.specs.declared.fault.TextCause.TheVariants as cause
use Rattle.asp_parser.specs.declared.fault.TextFault.{TextFault}
use Rattle.asp_parser.specs.declared.fault.TextStop.{TextStop}
use Rattle.asp_parser.specs.declared.fault.TextStop.TheVariants as answer
use Rattle.asp_parser.specs.Parsed.{lex_cause, tree_of, trees_of, behind, AllPass, FoundText, NoText, IsFirstFailing, IsFaultAt, IsStop}
use Rattle.asp_parser.specs.TextState.{fault_there, Passes, IsRefused, IsRefusal, Stood, Stops, ReadAll}
use Rattle.asp_parser.proofs.TextLemmas.{drop_front, behind_long, text_append, behind_append, pass_append, trees_append}

no_words : (words : List Word) → length words ≡ 0 → words ≡ []
no_words [] h = refl
no_words (w ∷ words) h = absurd (omega (arith, h))

-- ---- other statements with the same words
pub record Same (at : ℕ) (words : List Word) (forms : List (StatementAt 64)) : Type 0 where
  pub form : StatementAt 64
  pub more : List (StatementAt 64)
  pub same : words ≡ words_of_statement 64 form (text_words 64 more)
  pub pass : failing 64 form (behind forms at) ≡ []

same_behind : (forms others : List (StatementAt 64)) (at : ℕ) (next : Word) (rest : List Word) → text_words 64 forms ++ next ∷ rest ≡ text_words 64 others → AllPass others at → Same at (next ∷ rest) forms
same_behind [] [] at next rest h pass = absurd cc
same_behind [] (other ∷ others) at next rest h pass = record { form = other; more = others; same = h; pass = pass.0 }
same_behind (form ∷ forms) [] at next rest h pass =
    let e = ap length ((statement_law 64).parted form (text_words 64 forms) (next ∷ rest) ∙ h) in
    let some = (statement_law 64).some form (text_words 64 forms ++ next ∷ rest) in
    absurd (omega (arith, e, some))
same_behind (form ∷ forms) (other ∷ others) at next rest h pass =
    let p = one_statement 64 form other (text_words 64 forms ++ next ∷ rest) (text_words 64 others) ((statement_law 64).parted form (text_words 64 forms) (next ∷ rest) ∙ h) in
    let s = same_behind forms others (at + size (words_of_statement 64) other) next rest p.1 pass.1 in
    record { form = s.form; more = s.more; same = s.same; pass = ap (λ z. failing 64 s.form (behind forms (at + size (words_of_statement 64) z))) p.0 ∙ s.pass }

module _ (text : List ℕ) (tokens : List Token) where
  abbrev here : ℕ → List Word
  here at = words_at text tokens at

  pub stood_start : (found : List Statement) → found ≡ [] → Stood text tokens 0 found
  stood_start found e = record { forms = []; derived = refl; place = refl; within = omega arith; pass = tt; are = e }

  pub stood_more : (at next : ℕ) (found later : List Statement) (made : Statement) → Stood text tokens at found → Passes text tokens at made next → later ≡ found ++ made ∷ [] → Stood text tokens next later
  stood_more at next found later made s p e = record {
    forms = s.forms ++ p.form ∷ [];
    derived = s.derived ∙ ap (λ z. text_words 64 s.forms ++ z) p.stands ∙ text_append s.forms p.form (here next);
    place = p.place ∙ ap (λ n. n + size (words_of_statement 64) p.form) s.place ∙ sym (behind_append s.forms p.form 0);
    within = p.within;
    pass = pass_append s.forms p.form 0 s.pass (subst (λ n. failing 64 p.form n ≡ []) s.place p.pass);
    are = e ∙ ap (λ z. z ++ made ∷ []) s.are ∙ ap (λ z. trees_of tokens s.forms 0 ++ z ∷ []) (p.is ∙ ap (tree_of tokens p.form) s.place) ∙ sym (trees_append tokens s.forms p.form 0);
  }

  pub stood_all : (at : ℕ) (found : List Statement) → Stood text tokens at found → length tokens ≤ at → ReadAll text tokens (Ok found)
  stood_all at found s end = let within = s.within in subst (λ n. Stood text tokens n found) (let e : at ≡ length tokens = omega (arith, within, end) in e) s

  pub stood_stop : (at : ℕ) (found : List Statement) (refusal : TextStop) → Stood text tokens at found → at < length tokens → IsRefusal text tokens at refusal → ReadAll text tokens (Err refusal)
  stood_stop at found (answer.Fault fault) s within h = record {
    forms = s.forms;
    next = word_of (get_or tokens at no_token).kind (bytes_at text tokens at);
    rest = here (at + 1);
    split = s.derived ∙ ap (λ z. text_words 64 s.forms ++ z) (words_from text tokens at no_token within);
    pass = s.pass;
    refused = subst (λ n. IsRefused text tokens n fault) s.place h;
  }
  stood_stop at found answer.Memory s within h = tt

  -- ---- the answer
  found_text : (found : List Statement) → IsTokenisation text tokens → ReadAll text tokens (Ok found) → FoundText text found
  found_text found is s = record {
    tokens = tokens;
    tokenised = is;
    forms = s.forms;
    derived = s.derived ∙ ap (λ z. text_words 64 s.forms ++ z) (no_words (here (length tokens)) (let l = words_long text tokens (length tokens) in omega (arith, l))) ∙ append-nil (text_words 64 s.forms);
    pass = s.pass;
    are = s.are;
  }

  first_there : (from at : ℕ) (failed : TextCause) (form : StatementAt 64) (rest : List Word) → here from ≡ words_of_statement 64 form rest → failing 64 form from ≡ [] → IsFirstFailing text tokens from at failed → ⊥
  first_there from at failed form rest same pass f =
      let p = one_statement 64 f.form form f.rest rest (sym f.stands ∙ same) in
      let e = sym f.is ∙ ap (λ z. first_of None (failing 64 z from)) p.0 ∙ ap (first_of None) pass in
      absurd cc

  never_there : (from at : ℕ) (failed : TextCause) (form : StatementAt 64) (rest : List Word) → here from ≡ words_of_statement 64 form rest → failing 64 form from ≡ [] → IsFaultAt text tokens from at failed → ⊥
  never_there from at cause.Expected form rest same pass h = h.0 form rest same
  never_there from at cause.TooDeep form rest same pass h = h.0 form rest same
  never_there from at cause.UnknownTheory form rest same pass h = first_there from at cause.UnknownTheory form rest same pass h
  never_there from at cause.WrongPlace form rest same pass h = first_there from at cause.WrongPlace form rest same pass h
  never_there from at cause.BadGuard form rest same pass h = first_there from at cause.BadGuard form rest same pass h
  never_there from at cause.BadTerm form rest same pass h = first_there from at cause.BadTerm form rest same pass h
  never_there from at cause.TooManyVariables form rest same pass h = first_there from at cause.TooManyVariables form rest same pass h
  never_there from at cause.NotUtf8 form rest same pass h = h
  never_there from at cause.OpenString form rest same pass h = h
  never_there from at cause.OpenComment form rest same pass h = h
  never_there from at cause.BadCharacter form rest same pass h = h
  never_there from at cause.NumberTooLarge form rest same pass h = h

  here_behind : (forms : List (StatementAt 64)) (rest : List Word) → words_of text tokens ≡ text_words 64 forms ++ rest → here (behind forms 0) ≡ rest
  here_behind forms rest h =
      ap here (behind_long forms 0 ∙ (let e : 0 + length (text_words 64 forms) ≡ length (text_words 64 forms) = omega arith in e)) ∙ ap (drop (length (text_words 64 forms))) h ∙ drop_front (text_words 64 forms) rest

  pub all_found : (result : Result (List Statement) TextStop) → IsTokenisation text tokens → ReadAll text tokens result → IfOk result (FoundText text)
  all_found (Ok found) is s = found_text found is s
  all_found (Err refusal) is s = tt

  never_else : (fault : TextFault) → Stops text tokens fault → (others : List (StatementAt 64)) → words_of text tokens ≡ text_words 64 others → AllPass others 0 → ⊥
  never_else fault s others same pass =
      let o = same_behind s.forms others 0 s.next s.rest (sym s.split ∙ same) pass in
      never_there (behind s.forms 0) s.refused.at fault.cause o.form (text_words 64 o.more) (here_behind s.forms (s.next ∷ s.rest) s.split ∙ o.same) o.pass s.refused.is

  pub no_text : (result : Result (List Statement) TextStop) → IsTokenisation text tokens → ReadAll text tokens result → NoText text result
  no_text (Ok found) is s = tt
  no_text (Err (answer.Fault fault)) is s = λ others is_other forms same pass. never_else fault s forms (ap (words_of text) (one_tokenisation text tokens others is is_other) ∙ same) pass
  no_text (Err answer.Memory) is s = tt

  stops : (refusal : TextStop) → IsTokenisation text tokens → ReadAll text tokens (Err refusal) → IsStop text refusal
  stops (answer.Fault fault) is s = inr (record {
    tokens = tokens;
    tokenised = is;
    forms = s.forms;
    next = s.next;
    rest = s.rest;
    split = s.split;
    pass = s.pass;
    at = s.refused.at;
    is = s.refused.is;
    line = s.refused.line;
    column = s.refused.column;
  })
  stops answer.Memory is s = tt

  pub all_stops : (result : Result (List Statement) TextStop) → IsTokenisation text tokens → ReadAll text tokens result → IfErr result (IsStop text)
  all_stops (Ok found) is s = tt
  all_stops (Err refusal) is s = stops refusal is s

-- ---- a fault of lexing
pub lex_fault : (text : List ℕ) (stop : LexStop) (fault : LexFault) → stop ≡ lex.Fault fault → IfFault {A = List Token} (Err stop) (IsFirstFault text) → IsFirstFault text fault
lex_fault text stop fault is h = subst (λ s. IfFault {A = List Token} (Err s) (IsFirstFault text)) is h

pub no_tokens : (text : List ℕ) (fault : LexFault) → IsFirstFault text fault → NoText text (Err (fault_there text fault.at (lex_cause fault.cause)))
no_tokens text fault h = λ tokens is forms same pass. no_tokenisation text tokens fault is h

pub lex_stops : (text : List ℕ) (fault : LexFault) → IsFirstFault text fault → IsStop text (fault_there text fault.at (lex_cause fault.cause))
lex_stops text fault h = inl (record { found = fault; is = h; line = refl; column = refl; cause = refl })
