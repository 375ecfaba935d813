-- A text has one reading at most, and no fault beside it.
use Rattle.std.proofs.Common.{◌≡◌, ℕ, ◌+◌, List, [], ◌∷◌, ◌++◌, length, drop, inl, inr, None, refl, sym, ◌∙◌, ap, subst, arith}
use Rattle.std.proofs.lemmas.List.{append-nil, length-append}
use Rattle.lexer.specs.declared.token.Token.{Token}
use Rattle.lexer.proofs.OneLemmas.{one_tokenisation, no_tokenisation}
use Rattle.syntax_tree.specs.declared.statement.Statement.{Statement}
use Rattle.grammar.specs.Word.{Word, words_of, words_at}
use Rattle.grammar.specs.Sight.{size}
use Rattle.grammar.specs.Statement.{StatementAt, words_of_statement, text_words}
use Rattle.grammar.specs.Check.{first_of, failing}
use Rattle.grammar.proofs.StatementLaws.{statement_law}
use Rattle.grammar.proofs.TextLaws.{one_statement, one_text}
use Rattle.asp_parser.specs.declared.fault.TextCause.{TextCause}
use Rattle.asp_parser.specs.declared.fault.TextCause.TheVariants as cause
use Rattle.asp_parser.specs.declared.fault.TextFault.{TextFault}
use Rattle.asp_parser.specs.Parsed.{behind, trees_of, AllPass, FoundText, IsFirstFailing, IsFaultAt, IsStatementFault, IsTextFault}

-- ---- one reading
pub one_reading : (text : List ℕ) (one other : List Statement) → FoundText text one → FoundText text other → one ≡ other
one_reading text one other f g =
    let tokens = one_tokenisation text f.tokens g.tokens f.tokenised g.tokenised in
    let forms = one_text 64 f.forms g.forms (sym f.derived ∙ ap (words_of text) tokens ∙ g.derived) in
    f.are ∙ ap (λ z. trees_of z f.forms 0) tokens ∙ ap (λ z. trees_of g.tokens z 0) forms ∙ sym g.are

-- ---- the words behind statements
drop_front : {X : Type 0} (xs ys : List X) → drop (length xs) (xs ++ ys) ≡ ys
drop_front [] ys = refl
drop_front (x ∷ xs) ys = drop_front xs ys

behind_long : (forms : List (StatementAt 64)) (at : ℕ) → behind forms at ≡ at + length (text_words 64 forms)
behind_long [] at = omega arith
behind_long (form ∷ forms) at =
    let e = behind_long forms (at + size (words_of_statement 64) form) in
    let l = ap length ((statement_law 64).parted form [] (text_words 64 forms)) ∙ length-append (words_of_statement 64 form []) (text_words 64 forms) in
    omega (arith, e, l)

words_behind : (text : List ℕ) (tokens : List Token) (forms : List (StatementAt 64)) (rest : List Word) → words_of text tokens ≡ text_words 64 forms ++ rest → words_at text tokens (behind forms 0) ≡ rest
words_behind text tokens forms rest h =
    let long = behind_long forms 0 in
    let place : behind forms 0 ≡ length (text_words 64 forms) = omega (arith, long) in
    ap (words_at text tokens) place ∙ ap (drop (length (text_words 64 forms))) h ∙ drop_front (text_words 64 forms) rest

-- ---- forms in which every check passes, up to a place where none stands
-- no form in which every check passes stands at the head of the words, which begin at a place
abbrev pub NoneStands : List Word → ℕ → Type 0
NoneStands words at = (form : StatementAt 64) (rest : List Word) → words ≡ words_of_statement 64 form rest → failing 64 form at ≡ [] → ⊥

none_at_end : (at : ℕ) → NoneStands [] at
none_at_end at form rest same pass =
    let e = ap length same in
    let some = (statement_law 64).some form rest in
    absurd (omega (arith, e, some))

-- what is before such a place is one list of forms
pub same_forms : (forms others : List (StatementAt 64)) (at : ℕ) (rest beyond : List Word) → text_words 64 forms ++ rest ≡ text_words 64 others ++ beyond → AllPass forms at → AllPass others at
    → NoneStands rest (behind forms at) → NoneStands beyond (behind others at) → forms ≡ others
same_forms [] [] at rest beyond h pass passes none never = refl
same_forms [] (other ∷ others) at rest beyond h pass passes none never =
    absurd (none other (text_words 64 others ++ beyond) (h ∙ sym ((statement_law 64).parted other (text_words 64 others) beyond)) passes.0)
same_forms (form ∷ forms) [] at rest beyond h pass passes none never =
    absurd (never form (text_words 64 forms ++ rest) (sym h ∙ sym ((statement_law 64).parted form (text_words 64 forms) rest)) pass.0)
same_forms (form ∷ forms) (other ∷ others) at rest beyond h pass passes none never =
    let p = one_statement 64 form other (text_words 64 forms ++ rest) (text_words 64 others ++ beyond)
    ((statement_law 64).parted form (text_words 64 forms) rest ∙ h ∙ sym ((statement_law 64).parted other (text_words 64 others) beyond)) in
    let P : StatementAt 64 → Type 0 = λ z. AllPass others (at + size (words_of_statement 64) z) in
    let N : StatementAt 64 → Type 0 = λ z. NoneStands beyond (behind others (at + size (words_of_statement 64) z)) in
    let more = same_forms forms others (at + size (words_of_statement 64) form) rest beyond p.1 pass.1 (subst P (sym p.0) passes.1) none (subst N (sym p.0) never) in
    ap (λ z. z ∷ forms) p.0 ∙ ap (λ z. other ∷ z) more

-- ---- where a fault is, none stands
module _ (text : List ℕ) (tokens : List Token) (from at : ℕ) where
  none_failing : (failed : TextCause) → IsFirstFailing text tokens from at failed → NoneStands (words_at text tokens from) from
  none_failing failed f form rest same pass =
      let p = one_statement 64 f.form form f.rest rest (sym f.stands ∙ same) in
      let e = sym f.is ∙ ap (λ z. first_of None (failing 64 z from)) p.0 ∙ ap (first_of None) pass in
      absurd cc

  none_stands : (failed : TextCause) → IsFaultAt text tokens from at failed → NoneStands (words_at text tokens from) from
  none_stands cause.Expected h = λ form rest same pass. h.0 form rest same
  none_stands cause.TooDeep h = λ form rest same pass. h.0 form rest same
  none_stands cause.UnknownTheory h = none_failing cause.UnknownTheory h
  none_stands cause.WrongPlace h = none_failing cause.WrongPlace h
  none_stands cause.BadGuard h = none_failing cause.BadGuard h
  none_stands cause.BadTerm h = none_failing cause.BadTerm h
  none_stands cause.TooManyVariables h = none_failing cause.TooManyVariables h
  none_stands cause.NotUtf8 h = absurd h
  none_stands cause.OpenString h = absurd h
  none_stands cause.OpenComment h = absurd h
  none_stands cause.BadCharacter h = absurd h
  none_stands cause.NumberTooLarge h = absurd h

pub none_behind : (text : List ℕ) (fault : TextFault) (s : IsStatementFault text fault) → NoneStands (s.next ∷ s.rest) (behind s.forms 0)
none_behind text fault s =
    subst (λ z. NoneStands z (behind s.forms 0)) (words_behind text s.tokens s.forms (s.next ∷ s.rest) s.split) (none_stands text s.tokens (behind s.forms 0) s.at fault.cause s.is)

-- ---- no fault beside a reading
none_beside : (text : List ℕ) (statements : List Statement) (fault : TextFault) → FoundText text statements → IsStatementFault text fault → ⊥
none_beside text statements fault f s =
    let tokens = one_tokenisation text s.tokens f.tokens s.tokenised f.tokenised in
    let same : text_words 64 s.forms ++ s.next ∷ s.rest ≡ text_words 64 f.forms ++ [] = sym s.split ∙ ap (words_of text) tokens ∙ f.derived ∙ sym (append-nil (text_words 64 f.forms)) in
    let forms = same_forms s.forms f.forms 0 (s.next ∷ s.rest) [] same s.pass f.pass (none_behind text fault s) (none_at_end (behind f.forms 0)) in
    let long = ap length same in
    let one = length-append (text_words 64 s.forms) (s.next ∷ s.rest) in
    let other = length-append (text_words 64 f.forms) [] in
    let as_long = ap (λ z. length (text_words 64 z)) forms in
    omega (arith, long, one, other, as_long)

pub no_fault_beside : (text : List ℕ) (statements : List Statement) (fault : TextFault) → FoundText text statements → IsTextFault text fault → ⊥
no_fault_beside text statements fault f (inl l) = no_tokenisation text f.tokens l.found f.tokenised l.is
no_fault_beside text statements fault f (inr s) = none_beside text statements fault f s
