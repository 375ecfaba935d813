-- What the clauses of the public reader of theory atoms rest on.
use Rattle.std.proofs.Common.{◌≡◌, ℕ, ◌+◌, ◌-◌, ◌≤◌, List, [], ◌++◌, length, map, Option, Some, None, Err, refl, sym, ◌∙◌, ap, subst, arith}
use Rattle.std.proofs.lemmas.List.{append-nil, length-append}
use Rattle.lexer.specs.declared.token.Token.{Token}
use Rattle.symbols.specs.declared.rel.Rel.{Rel}
use Rattle.syntax_tree.specs.declared.rule.Name.{Name}
use Rattle.syntax_tree.specs.declared.literal.TheoryAtom.{roll-TheoryAtom}
use Rattle.syntax_tree.specs.declared.literal.TheoryName.{TheoryName}
use Rattle.grammar.specs.declared.check.Check.TheVariants.{UnknownTheory, BadGuard}
use Rattle.grammar.specs.declared.check.Failing.{Failing}
use Rattle.grammar.specs.Word.{Word, words_at, Ends}
use Rattle.grammar.specs.Shape.{operand_shape}
use Rattle.grammar.specs.Sight.{operand_bads}
use Rattle.grammar.specs.Term.{TermAt, operand_words}
use Rattle.grammar.specs.Theory.{TheoryAt}
use Rattle.grammar.specs.Tree.{unary_tree, operand_tree}
use Rattle.grammar.specs.StatementTree.{items_of, element_tree, guard_tree, theory_name}
use Rattle.grammar.specs.StatementSight.{theory_brace}
use Rattle.grammar.specs.Check.{is_unknown, is_bad_guard, relation_of, operand_is_difference, elements_bads, guard_bads, first_of, fails_where, bad_terms}
use Rattle.grammar.specs.Reading.{Fault}
use Rattle.grammar.specs.TheoryReading.{theory_at}
use Rattle.grammar.specs.Faults.{IsExpected, IsTooDeep}
use Rattle.grammar.proofs.First.{Found}
use Rattle.grammar.proofs.ElementLaws.{theory_law}
use Rattle.grammar.proofs.TheoryLaws.{theory_expected, theory_deep}
use Rattle.theory_grammar.specs.Kept.{place_of}
use Rattle.theory_grammar.specs.declared.fault.Stop.{Stop}
use Rattle.theory_grammar.specs.declared.fault.Stop.TheVariants as stop
use Rattle.theory_grammar.specs.declared.seen.Seen.{Seen}
use Rattle.theory_grammar.specs.declared.theory.AtomParts.{AtomParts}
use Rattle.theory_grammar.specs.declared.theory.ParsedTheory.{ParsedTheory}
use Rattle.theory_grammar.specs.State.{Fails, least}
use Rattle.theory_grammar.specs.TheoryState.{relation_there}
use Rattle.theory_grammar.specs.TheoryParts.{ReadsTheory, with_bad, first_by}
use Rattle.theory_grammar.specs.Parsed.{IsAt, stopped}
use Rattle.theory_grammar.specs.ParsedTheory.{FoundTheory, StandsNone, NoTheory, IsTheoryFault, words_of_theory, goes_on_with, sights_of_theory, fails_of_theory, first_fault}
use Rattle.theory_grammar.proofs.StateLemmas.{words_long, starts_seen}
use Rattle.theory_grammar.proofs.FirstFails.{first_append, bad_first}

-- the relation of a guard, in a tree as in a form
relation_same : (names : List Name) (g : Option (Rel × TermAt 64)) → relation_there (guard_tree (operand_tree names 64) (unary_tree names (operand_tree names 64)) g) ≡ relation_of g
relation_same names None = refl
relation_same names (Some guard) = refl

-- failed checks with bad terms among them
checks_first : (so_far : Option Failing) (u g : List Failing) (es gs : List ℕ) → first_of so_far (((u ++ bad_terms es) ++ g) ++ bad_terms gs) ≡ with_bad (first_of (with_bad (first_of so_far u) (least None es)) g) (least None gs)
checks_first so_far u g es gs =
    first_append so_far ((u ++ bad_terms es) ++ g) (bad_terms gs) ∙ bad_first (first_of so_far ((u ++ bad_terms es) ++ g)) gs
    ∙ ap (λ z. with_bad z (least None gs)) (first_append so_far (u ++ bad_terms es) g ∙ ap (λ z. first_of z g) (first_append so_far u (bad_terms es) ∙ bad_first (first_of so_far u) es))

module _ (text : List ℕ) (tokens : List Token) where
  abbrev first_where : Option Failing → ℕ → TheoryName → Option ℕ → Option Rel → ℕ → Option ℕ → Option Failing
  first_where so_far at name es rel brace gs = with_bad (first_of (with_bad (first_of so_far (fails_where (is_unknown name) UnknownTheory (at + 1))) es) (fails_where (is_bad_guard name rel) BadGuard (brace + 1))) gs

  pub first_same : (so_far : Option Failing) (at : ℕ) (old new : Seen) (parts : AtomParts) (r : ReadsTheory text tokens at old new parts) → first_by so_far parts at ≡ first_of so_far (fails_of_theory 64 r.form at)
  first_same so_far at old new parts r =
      let form = r.form in
      let guard : relation_there parts.guard ≡ relation_of form.guard = ap relation_there (r.guard new.names ([], sym (append-nil new.names))) ∙ relation_same new.names form.guard in
      ap (λ es. first_where so_far at parts.name es (relation_there parts.guard) parts.brace parts.in_guard) r.in_elements
      ∙ ap (λ gs. first_where so_far at parts.name (least None (inside parts.name form)) (relation_there parts.guard) parts.brace gs) r.in_guard
      ∙ ap (λ rel. first_where so_far at parts.name (least None (inside parts.name form)) rel parts.brace (least None (behind form parts.brace))) guard
      ∙ ap (λ name. first_where so_far at name (least None (inside name form)) (relation_of form.guard) parts.brace (least None (behind form parts.brace))) r.name
      ∙ ap (λ brace. first_where so_far at (theory_name form.name) (least None (inside (theory_name form.name) form)) (relation_of form.guard) brace (least None (behind form brace))) r.brace
      ∙ sym (checks_first so_far (fails_where (is_unknown (theory_name form.name)) UnknownTheory (at + 1)) (fails_where (is_bad_guard (theory_name form.name) (relation_of form.guard)) BadGuard (theory_brace (operand_words 64) form at + 1))
      (inside (theory_name form.name) form) (behind form (theory_brace (operand_words 64) form at)))
    where
      inside : TheoryName → TheoryAt 64 → List ℕ
      inside name form = elements_bads (operand_words 64) (operand_shape 64) (operand_bads 64) (operand_is_difference 64) name form.elements (at + 3)

      behind : TheoryAt 64 → ℕ → List ℕ
      behind form brace = guard_bads (operand_words 64) (operand_shape 64) (operand_bads 64) (operand_is_difference 64) form.guard (brace + 1)

  module _ (from : ℕ) (least_from : 1 ≤ from) where
    pub found_theory : (names now_names : List Name) (places now_places : List ℕ) (new : Seen) (parts : AtomParts) (parsed : ParsedTheory)
        → ReadsTheory text tokens (from - 1) (record { names = names; places = []; bad = None }) new parts → now_names ≡ new.names → now_places ≡ places ++ map (λ p. p.start) new.places
        → parsed ≡ record { atom = roll-TheoryAtom (record { name = parts.name; elements = parts.elements; guard = parts.guard }); next = parts.next + 1; fault = first_fault text tokens (first_by None parts (from - 1)) }
        → FoundTheory text tokens from names places now_names now_places parsed
    found_theory names now_names places now_places new parts parsed r same_names same_places made =
        let behind : parsed.next - 1 ≡ parts.next = ap (λ p. p.next - 1) made ∙ omega arith in
        let sound = (theory_law 64).sound (words_at text tokens (from - 1)) r.form (words_at text tokens parts.next) r.is in
        let place : parsed.next ≡ parts.next + 1 = ap (λ p. p.next) made in
        record {
          form = r.form;
          derived = sound.0 ∙ ap (λ n. words_of_theory 64 r.form (words_at text tokens n)) (sym behind);
          longest = subst (λ n. Ends (goes_on_with 64 r.form) (words_at text tokens n)) (sym behind) sound.1;
          forward = let f = r.begun in omega (arith, f, place, least_from);
          within = let w = r.within in omega (arith, w, place);
          tree = ap (λ p. p.atom) made ∙ ap (λ n. roll-TheoryAtom (record { name = n; elements = parts.elements; guard = parts.guard })) r.name
              ∙ ap (λ es. roll-TheoryAtom (record { name = theory_name r.form.name; elements = es; guard = parts.guard })) (r.elements now_names ([], same_names ∙ sym (append-nil new.names)))
              ∙ ap (λ g. roll-TheoryAtom (record { name = theory_name r.form.name; elements = items_of (element_tree (operand_tree now_names 64) (unary_tree now_names (operand_tree now_names 64))) r.form.elements; guard = g })) (r.guard now_names ([], same_names ∙ sym (append-nil new.names)));
          named = same_names ∙ r.names;
          placed = same_places ∙ ap (λ z. places ++ map (λ p. p.start) z) r.places ∙ ap (λ z. places ++ z) (starts_seen tokens names (sights_of_theory 64 r.form (from - 1)));
          checked = ap (λ p. p.fault) made ∙ ap (first_fault text tokens) (first_same None (from - 1) (record { names = names; places = []; bad = None }) new parts r);
        }

    none_there : (f : Fault) → theory_at 64 (words_at text tokens (from - 1)) ≡ Err f → StandsNone text tokens from
    none_there f h form behind same ends = let g = sym h ∙ ap (theory_at 64) same ∙ (theory_law 64).complete form behind ends in absurd cc

    pub no_theory : (failed : Stop) → Fails text tokens (theory_at 64 (words_at text tokens (from - 1))) failed → NoTheory text tokens from (Err (stopped text tokens failed))
    no_theory (stop.Expected at) h = none_there _ h.0
    no_theory (stop.TooDeep at) h = none_there _ h.0
    no_theory stop.Memory h = tt

    at_place : (Claim : List Word → List Word → Type 0) (at : ℕ) → from - 1 ≤ length tokens → at ≤ length tokens → Found Claim (words_at text tokens (from - 1)) (length (words_at text tokens at)) → IsAt Claim text tokens from (place_of text tokens at)
    at_place Claim at start within f =
        let whole = ap length f.split in
        let parts = length-append f.front f.after in
        let begin = words_long text tokens (from - 1) in
        let end = words_long text tokens at in
        let place = f.place in
        record {
          front = f.front;
          after = f.after;
          split = f.split;
          is = ap (place_of text tokens) (omega (arith, whole, parts, begin, end, place, start, within));
          claim = f.claim;
        }

    pub theory_fault : (failed : Stop) → from - 1 ≤ length tokens → Fails text tokens (theory_at 64 (words_at text tokens (from - 1))) failed → IsTheoryFault text tokens from (Err (stopped text tokens failed))
    theory_fault (stop.Expected at) start h = at_place (IsExpected TheoryAt words_of_theory 64) at start h.1 (theory_expected 64 (words_at text tokens (from - 1)) (length (words_at text tokens at)) h.0)
    theory_fault (stop.TooDeep at) start h = at_place (IsTooDeep TheoryAt words_of_theory 64) at start h.1 (theory_deep 64 (words_at text tokens (from - 1)) (length (words_at text tokens at)) h.0)
    theory_fault stop.Memory start h = tt
