-- What the clauses of the public readers rest on.
use Rattle.std.proofs.Common.{◌≡◌, ℕ, ◌+◌, ◌-◌, ◌≤◌, List, [], ◌++◌, length, map, None, Err, sym, ◌∙◌, ap, subst, arith}
use Rattle.std.proofs.lemmas.List.{append-nil, length-append}
use Rattle.lexer.specs.declared.token.Token.{Token}
use Rattle.syntax_tree.specs.declared.rule.Name.{Name}
use Rattle.syntax_tree.specs.declared.term.Term.{Term}
use Rattle.grammar.specs.declared.shape.Shape.{Shape}
use Rattle.grammar.specs.Word.{Word, words_at, Ends}
use Rattle.grammar.specs.Term.{TermAt}
use Rattle.grammar.specs.Reading.{Fault, term_at}
use Rattle.grammar.specs.Faults.{IsExpected, IsTooDeep}
use Rattle.grammar.proofs.First.{Found}
use Rattle.grammar.proofs.TermLaws.{term_law, term_expected, term_deep}
use Rattle.theory_grammar.specs.Kept.{place_of}
use Rattle.theory_grammar.specs.declared.fault.Stop.{Stop}
use Rattle.theory_grammar.specs.declared.fault.Stop.TheVariants as stop
use Rattle.theory_grammar.specs.declared.seen.Seen.{Seen}
use Rattle.theory_grammar.specs.declared.parse.ParsedTerm.{ParsedTerm}
use Rattle.theory_grammar.specs.State.{Reads, Fails, unary_class, term_class}
use Rattle.theory_grammar.specs.Parsed.{FoundTerm, StandsNone, NoTerm, IsAt, IsTermFault, words_of_term, goes_on_with, sights_of_term, is_atom, bad_term, stopped}
use Rattle.theory_grammar.proofs.StateLemmas.{words_long, starts_seen}

module _ (text : List ℕ) (tokens : List Token) (from : ℕ) (least_from : 1 ≤ from) where
  pub found_term : (names now_names : List Name) (places now_places : List ℕ) (new : Seen) (value : Term) (shape : Shape) (next : ℕ) (parsed : ParsedTerm)
      → Reads (term_class (unary_class 64)) text tokens (from - 1) (record { names = names; places = []; bad = None }) new value shape next
      → now_names ≡ new.names → now_places ≡ places ++ map (λ p. p.start) new.places → parsed ≡ record { term = value; next = next + 1; is_atom = is_atom shape; fault = bad_term text tokens new.bad }
      → FoundTerm text tokens from names places now_names now_places parsed
  found_term names now_names places now_places new value shape next parsed r same_names same_places made =
      let behind : parsed.next - 1 ≡ next = ap (λ p. p.next - 1) made ∙ omega arith in
      let sound = (term_law 64).sound (words_at text tokens (from - 1)) r.form (words_at text tokens next) r.is in
      let place : parsed.next ≡ next + 1 = ap (λ p. p.next) made in
      record {
        form = r.form;
        derived = sound.0 ∙ ap (λ n. words_of_term 64 r.form (words_at text tokens n)) (sym behind);
        longest = subst (λ n. Ends (goes_on_with 64 r.form) (words_at text tokens n)) (sym behind) sound.1;
        forward = let f = r.forward in omega (arith, f, place, least_from);
        within = let w = r.within in omega (arith, w, place);
        tree = ap (λ p. p.term) made ∙ r.tree now_names ([], same_names ∙ sym (append-nil new.names));
        named = same_names ∙ r.names;
        placed = same_places ∙ ap (λ z. places ++ map (λ p. p.start) z) r.places ∙ ap (λ z. places ++ z) (starts_seen tokens names (sights_of_term 64 r.form (from - 1)));
        atom = ap (λ p. p.is_atom) made ∙ ap is_atom r.shaped;
        checked = ap (λ p. p.fault) made ∙ ap (bad_term text tokens) r.bad;
      }

  none_there : (f : Fault) → term_at 64 (words_at text tokens (from - 1)) ≡ Err f → StandsNone text tokens from
  none_there f h form behind same ends = let g = sym h ∙ ap (term_at 64) same ∙ (term_law 64).complete form behind ends in absurd cc

  pub no_term : (failed : Stop) → Fails text tokens (term_at 64 (words_at text tokens (from - 1))) failed → NoTerm text tokens from (Err (stopped text tokens failed))
  no_term (stop.Expected at) h = none_there _ h.0
  no_term (stop.TooDeep at) h = none_there _ h.0
  no_term stop.Memory h = tt

  at_place : (Claim : List Word → List Word → Type 0) (at : ℕ) → from - 1 ≤ length tokens → at ≤ length tokens → Found Claim (words_at text tokens (from - 1)) (length (words_at text tokens at)) → IsAt Claim text tokens from (place_of text tokens at)
  at_place Claim at start within f =
      let whole = ap length f.split in
      let parts = length-append f.front f.after in
      let begin = words_long text tokens (from - 1) in
      let end = words_long text tokens at in
      let place = f.place in
      record {
        front = f.front;
        after = f.after;
        split = f.split;
        is = ap (place_of text tokens) (omega (arith, whole, parts, begin, end, place, start, within));
        claim = f.claim;
      }

  pub term_fault : (failed : Stop) → from - 1 ≤ length tokens → Fails text tokens (term_at 64 (words_at text tokens (from - 1))) failed → IsTermFault text tokens from (Err (stopped text tokens failed))
  term_fault (stop.Expected at) start h = at_place (IsExpected TermAt words_of_term 64) at start h.1 (term_expected 64 (words_at text tokens (from - 1)) (length (words_at text tokens at)) h.0)
  term_fault (stop.TooDeep at) start h = at_place (IsTooDeep TermAt words_of_term 64) at start h.1 (term_deep 64 (words_at text tokens (from - 1)) (length (words_at text tokens at)) h.0)
  term_fault stop.Memory start h = tt
