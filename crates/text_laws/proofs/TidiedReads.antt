-- The words of a tidied statement are written well, a name has a byte and a variable is among the names, and no check fails in it where none fails in the statement.
use Rattle.std.proofs.Common.{◌≡◌, ℕ, ◌==◌, true, false, List, [], ◌∷◌, ◌++◌, length, map, codes, refl, sym, ◌∙◌, ap, arith}
use Rattle.std.specs.List.{AllByRecursion}
use Rattle.std.specs.Str.{is_utf8}
use Rattle.std.proofs.lemmas.Bool.Decides.{nat_tests}
use Rattle.std.proofs.lemmas.Str.{is_utf8-from_IsUtf8}
use Rattle.lexer.specs.declared.token.TokenKind.TheVariants.{Id}
use Rattle.lexer.specs.Forms.{has_form}
use Rattle.syntax_tree.specs.declared.literal.TheoryName.{TheoryName}
use Rattle.syntax_tree.specs.declared.literal.TheoryName.TheVariants as theory
use Rattle.syntax_tree.specs.Printed.{theory_name_text}
use Rattle.grammar.specs.Word.{Word}
use Rattle.grammar.specs.Word as word
use Rattle.grammar.specs.Written.{is_written}
use Rattle.grammar.specs.Standing.{IsToken}
use Rattle.grammar.specs.Sight.{Sighting}
use Rattle.grammar.specs.Statement.{StatementAt, words_of_statement}
use Rattle.grammar.specs.StatementSight.{sights_of_statement}
use Rattle.grammar.specs.Check.{too_many, failing}
use Rattle.grammar.specs.TidiedStatement.{tidied_statement}
use Rattle.grammar.proofs.PrintedTerms.{IsKnown}
use Rattle.theory_grammar.specs.Kept.{named}
use Rattle.text_laws.proofs.AllStatement.{AllStatement}
use Rattle.text_laws.proofs.AllStatementLaws.{all_of_words}
use Rattle.text_laws.proofs.WordsOfForms.{all_in_words}
use Rattle.text_laws.proofs.QuotedLaws.{ascii_utf8}
use Rattle.text_laws.proofs.WordTokens.{mark_token}
use Rattle.text_laws.proofs.TidiedStatementSights.{same_sights}
use Rattle.text_laws.proofs.ManyVariables.{same_too_many}
use Rattle.text_laws.proofs.SeenWords.{IsSeen, all_seen}
use Rattle.text_laws.proofs.TidiedChecks.{tidied_passes}
use Rattle.text_laws.proofs.KnownNames.{known_reads, seen_known}

name_utf8 : (k : TheoryName) → is_utf8 (theory_name_text k) ≡ true
name_utf8 theory.Sum = is_utf8-from_IsUtf8 (codes "sum") (ascii_utf8 (codes "sum") refl)
name_utf8 theory.Diff = is_utf8-from_IsUtf8 (codes "diff") (ascii_utf8 (codes "diff") refl)
name_utf8 theory.Distinct = is_utf8-from_IsUtf8 (codes "distinct") (ascii_utf8 (codes "distinct") refl)
name_utf8 theory.Disjoint = is_utf8-from_IsUtf8 (codes "disjoint") (ascii_utf8 (codes "disjoint") refl)
name_utf8 theory.Dom = is_utf8-from_IsUtf8 (codes "dom") (ascii_utf8 (codes "dom") refl)
name_utf8 theory.Minimize = is_utf8-from_IsUtf8 (codes "minimize") (ascii_utf8 (codes "minimize") refl)
name_utf8 theory.Maximize = is_utf8-from_IsUtf8 (codes "maximize") (ascii_utf8 (codes "maximize") refl)
name_utf8 theory.Show = is_utf8-from_IsUtf8 (codes "show") (ascii_utf8 (codes "show") refl)
name_utf8 theory.Unknown = is_utf8-from_IsUtf8 (codes "unknown") (ascii_utf8 (codes "unknown") refl)

pub theory_name_written : (k : TheoryName) → is_written (word.name (theory_name_text k)) ≡ true
theory_name_written theory.Sum = name_utf8 theory.Sum
theory_name_written theory.Diff = name_utf8 theory.Diff
theory_name_written theory.Distinct = name_utf8 theory.Distinct
theory_name_written theory.Disjoint = name_utf8 theory.Disjoint
theory_name_written theory.Dom = name_utf8 theory.Dom
theory_name_written theory.Minimize = name_utf8 theory.Minimize
theory_name_written theory.Maximize = name_utf8 theory.Maximize
theory_name_written theory.Show = name_utf8 theory.Show
theory_name_written theory.Unknown = name_utf8 theory.Unknown

-- ---- what is known of words
has_bytes : (bytes : List ℕ) → has_form Id bytes ≡ true → (length bytes == 0) ≡ false
has_bytes [] h = absurd cc
has_bytes (b ∷ bs) h = grind (arith, nat_tests)

known_word : (sights : List Sighting) (w : Word) → IsToken w → IsSeen (map (λ (s : Sighting). s.sight) sights) w → IsKnown (named [] sights) w
known_word sights (word.numeral n) token seen = tt
known_word sights (word.name bytes) token seen = has_bytes bytes token.0
known_word sights (word.variable bytes) token seen = known_reads (named [] sights) bytes (seen_known [] sights bytes seen)
known_word sights word.anonymous token seen = tt
known_word sights (word.string bytes) token seen = tt
known_word sights word.negation token seen = tt
known_word sights word.const_word token seen = tt
known_word sights word.show_word token seen = tt
known_word sights (word.mark m) token seen = tt

known_words : (sights : List Sighting) (words : List Word) → AllByRecursion IsToken words → AllByRecursion (IsSeen (map (λ (s : Sighting). s.sight) sights)) words
    → AllByRecursion (IsKnown (named [] sights)) words
known_words sights [] tokens seen = tt
known_words sights (w ∷ words) tokens seen = (known_word sights w tokens.0 seen.0, known_words sights words tokens.1 seen.1)

-- each name of a statement has a byte, and its variables are among its names
pub all_known : (n : ℕ) (f : StatementAt n) (at : ℕ) → AllStatement IsToken n f → AllStatement (IsKnown (named [] (sights_of_statement n f at))) n f
all_known n f at tokens =
    let sights = sights_of_statement n f at in
    let seen = map (λ (s : Sighting). s.sight) sights in
    all_of_words (IsKnown (named [] sights)) n f []
    (known_words sights (words_of_statement n f []) (all_in_words IsToken mark_token (refl, refl) (refl, refl) (refl, refl) n f [] tokens tt)
    (all_in_words (IsSeen seen) (λ m. tt) tt tt tt n f [] (all_seen n f at) tt))

-- ---- checks
front_none : {X : Type 0} (xs ys : List X) → xs ++ ys ≡ [] → xs ≡ []
front_none [] ys h = refl
front_none (x ∷ xs) ys h = absurd cc

back_none : {X : Type 0} (xs ys : List X) → xs ++ ys ≡ [] → ys ≡ []
back_none [] ys h = h
back_none (x ∷ xs) ys h = absurd cc

pub parts_none : {X : Type 0} (xs ys : List X) → xs ++ ys ≡ [] → (xs ≡ []) × (ys ≡ [])
parts_none xs ys h = (front_none xs ys h, back_none xs ys h)

-- no check fails in the tidied statement, wherever it begins
pub tidied_fine : (n : ℕ) (f : StatementAt n) (at later : ℕ) → failing n f at ≡ [] → failing n (tidied_statement n f) later ≡ []
tidied_fine n f at later fine =
    let sights = sights_of_statement n f at in
    let others = sights_of_statement n (tidied_statement n f) later in
    let same = same_sights n f at later in
    let parts = parts_none _ (too_many sights) fine in
    ap (λ l. l ++ too_many others) (tidied_passes n f at later sights others same parts.0) ∙ same_too_many sights others (sym same) parts.1
