-- A printed statement reads back as the statement, but for where it stands.
use Rattle.std.proofs.Common.{◌≡◌, ℕ, ◌+◌, true, List, [], ◌∷◌, map, refl, sym, ◌∙◌, ap, subst}
use Rattle.std.specs.List.{AllByRecursion}
use Rattle.lexer.specs.declared.token.Token.{Token}
use Rattle.lexer.specs.Parts.{tokens_of}
use Rattle.syntax_tree.specs.declared.rule.Name.{Name}
use Rattle.syntax_tree.specs.declared.statement.Statement.{Statement}
use Rattle.syntax_tree.specs.Printed.{statement_text}
use Rattle.grammar.specs.Word.{Word}
use Rattle.grammar.specs.Written.{is_written}
use Rattle.grammar.specs.Standing.{IsToken, pieces_text, piece_part}
use Rattle.grammar.specs.Sight.{Sighting, size}
use Rattle.grammar.specs.Tree.{unary_tree, operand_tree}
use Rattle.grammar.specs.Theory.{FullTerm}
use Rattle.grammar.specs.Statement.{headed, constraint, constant, show_nothing, show, StatementAt, words_of_statement}
use Rattle.grammar.specs.StatementTree.{full_tree, body_trees, head_tree, arrow_trees}
use Rattle.grammar.specs.StatementSight.{sights_of_statement}
use Rattle.grammar.specs.Check.{bad_terms, sight_places, too_many, failing}
use Rattle.grammar.specs.TidiedStatement.{map_maybe, tidied_body, tidied_full, tidied_head, tidied_arrow, tidied_statement}
use Rattle.grammar.proofs.PrintedTerms.{IsKnown}
use Rattle.grammar.proofs.WrittenWords.{words_written}
use Rattle.grammar.proofs.TidiedStatements.{full_same, body_same, head_same, arrow_same, arrow_kept}
use Rattle.theory_grammar.specs.Kept.{start_of, named}
use Rattle.asp_parser.specs.Parsed.{names_of, places_in, tree_by, tree_of, trees_of, AllPass, FoundText}
use Rattle.text_laws.specs.ReadsBack.{IsSame, ReadsBack}
use Rattle.text_laws.proofs.AllStatement.{AllStatement}
use Rattle.text_laws.proofs.AllStatementLaws.{all_tidied, all_in_text}
use Rattle.text_laws.proofs.Pieces.{statement_pieces}
use Rattle.text_laws.proofs.PieceWords.{pieces_words}
use Rattle.text_laws.proofs.WordsOfForms.{all_in_words}
use Rattle.text_laws.proofs.WordTokens.{words_are_tokens, theory_name_token}
use Rattle.text_laws.proofs.PieceTokens.{pieces_tokenised}
use Rattle.text_laws.proofs.Apart.{statement_apart}
use Rattle.text_laws.proofs.PrintedStatements.{headed_is, constraint_is, constant_is, show_nothing_is, show_is}
use Rattle.text_laws.proofs.TidiedStatementSights.{same_sights}
use Rattle.text_laws.proofs.KnownNames.{same_named}
use Rattle.text_laws.proofs.TidiedReads.{theory_name_written, all_known, parts_none, tidied_fine}

abbrev IsWrittenWord : Word → Type 0
IsWrittenWord w = is_written w ≡ true

none_seen : (sights : List Sighting) → bad_terms (sight_places sights) ≡ [] → sights ≡ []
none_seen [] h = refl
none_seen (s ∷ sights) h = absurd cc

-- a constant's term has no variable
no_names : (name : List ℕ) (term : FullTerm _ _) (at : ℕ) → failing 64 (constant name term) at ≡ [] → names_of (constant name term) at ≡ []
no_names name term at fine =
    let sights = sights_of_statement 64 (constant name term) at in
    let all = parts_none _ (too_many sights) fine in
    let first = parts_none (bad_terms (sight_places sights)) _ all.0 in
    ap (named []) (none_seen sights first.0)

-- the printed text of a statement is that of its pieces
text_is : (tokens : List Token) (f : StatementAt 64) (at : ℕ) → failing 64 f at ≡ [] → AllStatement (IsKnown (names_of f at)) 64 f
    → statement_text (tree_of tokens f at) ≡ pieces_text (statement_pieces 64 (tidied_statement 64 f) [])
text_is tokens (headed h behind) at fine known = headed_is (names_of (headed h behind) at) 64 h behind (places_in tokens (headed h behind) at) known
text_is tokens (constraint body) at fine known = constraint_is (names_of (constraint body) at) 64 body (places_in tokens (constraint body) at) known
text_is tokens (constant name term) at fine known =
    let none = no_names name term at fine in
    ap (λ names. statement_text (tree_by tokens names (places_in tokens (constant name term) at) (constant name term) at)) none
    ∙ constant_is 64 name term (start_of tokens (at + 1)) (subst (λ names. AllStatement (IsKnown names) 64 (constant name term)) none known)
text_is tokens show_nothing at fine known = show_nothing_is 64
text_is tokens (show name arity) at fine known = show_is 64 name arity

-- the tidied statement's tree is the statement's, but for where it stands
same_by : (tokens others : List Token) (names again : List Name) (places there : List ℕ) (f : StatementAt 64) (at later : ℕ) → again ≡ names
    → IsSame (tree_by tokens names places f at) (tree_by others again there (tidied_statement 64 f) later)
same_by tokens others names again places there (headed h behind) at later same = record {
  head = ap (λ ns. head_tree (operand_tree ns 64) (unary_tree ns (operand_tree ns 64)) (tidied_head 64 h)) same ∙ head_same names 64 h;
  body = ap (λ ns. arrow_trees (operand_tree ns 64) (unary_tree ns (operand_tree ns 64)) (tidied_arrow 64 behind)) same ∙ arrow_same names 64 behind;
  arrow = arrow_kept 64 behind;
  names = same;
}
same_by tokens others names again places there (constraint body) at later same = record {
  head = refl;
  body = ap (λ ns. body_trees (operand_tree ns 64) (unary_tree ns (operand_tree ns 64)) (map_maybe (tidied_body 64) body)) same ∙ body_same names 64 body;
  arrow = refl;
  names = same;
}
same_by tokens others names again places there (constant name term) at later same =
    (refl, ap (λ ns. full_tree (operand_tree ns 64) (unary_tree ns (operand_tree ns 64)) (tidied_full 64 term)) same ∙ full_same names 64 term)
same_by tokens others names again places there show_nothing at later same = tt
same_by tokens others names again places there (show name arity) at later same = (refl, refl)

-- the words of a form are tokens and written well, and no check fails in it
reads_back : (tokens : List Token) (f : StatementAt 64) (at : ℕ) → AllStatement IsToken 64 f → AllStatement IsWrittenWord 64 f → failing 64 f at ≡ [] → ReadsBack (tree_of tokens f at)
reads_back tokens f at are written fine =
    let g = tidied_statement 64 f in
    let pieces = statement_pieces 64 g [] in
    let words = pieces_words 64 g [] in
    let apart = statement_apart 64 g (all_tidied IsToken theory_name_token 64 f are) in
    let well = all_in_words IsWrittenWord (λ m. refl) refl refl refl 64 g [] (all_tidied IsWrittenWord theory_name_written 64 f written) tt in
    let found = pieces_tokenised pieces apart (subst (AllByRecursion IsWrittenWord) (sym words) well) in
    let others = tokens_of 0 (map piece_part pieces) in
    let text = text_is tokens f at fine (all_known 64 f at are) in
    record {
      again = tree_of others g 0;
      found = subst (λ t. FoundText t (tree_of others g 0 ∷ [])) (sym text) (record {
        tokens = others;
        tokenised = found.0;
        forms = g ∷ [];
        derived = found.1 ∙ words;
        pass = (tidied_fine 64 f at 0 fine, tt);
        are = refl;
      });
      same = same_by tokens others (names_of f at) (names_of g 0) (places_in tokens f at) (places_in others g 0) f at 0
          (same_named [] (sights_of_statement 64 g 0) (sights_of_statement 64 f at) (same_sights 64 f at 0));
    }

all_read_back : (tokens : List Token) (forms : List (StatementAt 64)) (at : ℕ) → AllByRecursion (AllStatement IsToken 64) forms → AllByRecursion (AllStatement IsWrittenWord 64) forms
    → AllPass forms at → AllByRecursion ReadsBack (trees_of tokens forms at)
all_read_back tokens [] at are written pass = tt
all_read_back tokens (f ∷ forms) at are written pass =
    (reads_back tokens f at are.0 written.0 pass.0, all_read_back tokens forms (at + size (words_of_statement 64) f) are.1 written.1 pass.1)

-- each statement of a text reads back when it is printed
pub printed_reads_back : (text : List ℕ) (statements : List Statement) → FoundText text statements → AllByRecursion ReadsBack statements
printed_reads_back text statements found =
    let are = subst (AllByRecursion IsToken) found.derived (words_are_tokens text found.tokens found.tokenised) in
    let written = subst (AllByRecursion IsWrittenWord) found.derived (words_written text found.tokens found.tokenised) in
    subst (AllByRecursion ReadsBack) (sym found.are)
    (all_read_back found.tokens found.forms 0 (all_in_text IsToken 64 found.forms are) (all_in_text IsWrittenWord 64 found.forms written) found.pass)
