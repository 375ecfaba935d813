-- What the clauses of the public reader of texts rest on.
use Rattle.std.proofs.Common.{◌≡◌, ℕ, ◌+◌, ◌≤◌, ◌<◌, Bool, true, false, if◌then◌else◌, List, [], ◌∷◌, ◌++◌, length, map, drop, Some, None, Err, refl, sym, ◌∙◌, ap, arith}
use Rattle.std.proofs.lemmas.List.{append-nil, length-append}
use Rattle.lexer.specs.declared.token.Token.{Token}
use Rattle.syntax_tree.specs.declared.statement.Statement.{Statement}
use Rattle.grammar.specs.declared.check.Check.{Check}
use Rattle.grammar.specs.declared.check.Check.TheVariants as check
use Rattle.grammar.specs.declared.check.Failing.{Failing}
use Rattle.grammar.specs.declared.mark.Mark.TheVariants as m
use Rattle.grammar.specs.Word.{Word, words_at}
use Rattle.grammar.specs.Word as word
use Rattle.grammar.specs.Sight.{size}
use Rattle.grammar.specs.Term.{operand_words}
use Rattle.grammar.specs.Statement.{StatementAt, headed, constraint, constant, show_nothing, show, arrow_words, words_of_statement, text_words}
use Rattle.grammar.specs.StatementSight.{sights_of_statement}
use Rattle.grammar.specs.StatementReading.{statement_at}
use Rattle.grammar.specs.Check.{comes_before, sooner, first_of, too_many, failing}
use Rattle.grammar.specs.Faults.{IsExpected, IsTooDeep}
use Rattle.grammar.specs.Reading.{Fault}
use Rattle.grammar.proofs.First.{Found}
use Rattle.grammar.proofs.Lawful.{never_on}
use Rattle.grammar.proofs.TermLaws.{term_law}
use Rattle.grammar.proofs.LiteralLaws.{body_law}
use Rattle.grammar.proofs.HeadLaws.{head_law, arrow_law}
use Rattle.grammar.proofs.StatementLaws.{statement_law}
use Rattle.grammar.proofs.StatementDeeper.{statement_expected, statement_deep}
use Rattle.theory_grammar.specs.declared.fault.Stop.{Stop}
use Rattle.theory_grammar.specs.declared.fault.Stop.TheVariants as stop
use Rattle.theory_grammar.specs.declared.seen.Seen.{Seen}
use Rattle.theory_grammar.specs.State.{Fails}
use Rattle.theory_grammar.specs.Kept.{place_of, start_of}
use Rattle.theory_grammar.proofs.StateLemmas.{words_long, starts_seen}
use Rattle.theory_grammar.proofs.FirstFails.{first_append}
use Rattle.asp_parser.specs.declared.kept.Kept.{Kept}
use Rattle.asp_parser.specs.declared.statement.Draft.{Draft}
use Rattle.asp_parser.specs.Parsed.{check_cause, names_of, tree_by, tree_of, trees_of, behind, AllPass, StandsNone, IsParted, IsFirstFailing, IsFaultAt}
use Rattle.asp_parser.specs.StatementState.{Takes, failing_of, crowded, form_class, draft_tree}
use Rattle.asp_parser.specs.TextState.{stopped, fault_there, drafted, Passes, IsRefusal}
use Rattle.asp_parser.proofs.VariableLaws.{crowded_is_many}

-- ---- lengths
pub drop_front : {X : Type 0} (xs ys : List X) → drop (length xs) (xs ++ ys) ≡ ys
drop_front [] ys = refl
drop_front (x ∷ xs) ys = drop_front xs ys

-- a statement has two words at least
two_words : (form : StatementAt 64) (rest : List Word) → length rest + 2 ≤ length (words_of_statement 64 form rest)
two_words (headed h b) rest =
    let one = (head_law 64).some h (arrow_words (operand_words 64) b (word.mark m.Dot ∷ rest)) in
    let two = (arrow_law 64).longer b (word.mark m.Dot ∷ rest) in
    omega (arith, one, two)
two_words (constraint body) rest = let one = (body_law 64).longer body (word.mark m.Dot ∷ rest) in omega (arith, one)
two_words (constant name term) rest = let one = (term_law 64).some term (word.mark m.Dot ∷ rest) in omega (arith, one)
two_words show_nothing rest = omega arith
two_words (show name arity) rest = omega arith

pub long_words : (form : StatementAt 64) (rest : List Word) → length (words_of_statement 64 form rest) ≡ size (words_of_statement 64) form + length rest
long_words form rest = ap length ((statement_law 64).parted form [] rest) ∙ length-append (words_of_statement 64 form []) rest

pub behind_long : (forms : List (StatementAt 64)) (at : ℕ) → behind forms at ≡ at + length (text_words 64 forms)
behind_long [] at = omega arith
behind_long (form ∷ forms) at =
    let e = behind_long forms (at + size (words_of_statement 64) form) in
    let l = long_words form (text_words 64 forms) in
    omega (arith, e, l)

-- ---- forms one behind another
pub text_append : (forms : List (StatementAt 64)) (form : StatementAt 64) (rest : List Word) → text_words 64 forms ++ words_of_statement 64 form rest ≡ text_words 64 (forms ++ form ∷ []) ++ rest
text_append [] form rest = (statement_law 64).parted form [] rest
text_append (first ∷ forms) form rest =
    sym ((statement_law 64).parted first (text_words 64 forms) (words_of_statement 64 form rest)) ∙ ap (words_of_statement 64 first) (text_append forms form rest)
    ∙ (statement_law 64).parted first (text_words 64 (forms ++ form ∷ [])) rest

pub behind_append : (forms : List (StatementAt 64)) (form : StatementAt 64) (at : ℕ) → behind (forms ++ form ∷ []) at ≡ behind forms at + size (words_of_statement 64) form
behind_append [] form at = refl
behind_append (first ∷ forms) form at = behind_append forms form (at + size (words_of_statement 64) first)

pub pass_append : (forms : List (StatementAt 64)) (form : StatementAt 64) (at : ℕ) → AllPass forms at → failing 64 form (behind forms at) ≡ [] → AllPass (forms ++ form ∷ []) at
pass_append [] form at h g = (g, tt)
pass_append (first ∷ forms) form at h g = (h.0, pass_append forms form (at + size (words_of_statement 64) first) h.1 g)

pub trees_append : (tokens : List Token) (forms : List (StatementAt 64)) (form : StatementAt 64) (at : ℕ) → trees_of tokens (forms ++ form ∷ []) at ≡ trees_of tokens forms at ++ tree_of tokens form (behind forms at) ∷ []
trees_append tokens [] form at = refl
trees_append tokens (first ∷ forms) form at = ap (λ z. tree_of tokens first at ∷ z) (trees_append tokens forms form (at + size (words_of_statement 64) first))

-- ---- checks
sooner_some : (one f : Failing) → (two : Failing) × (sooner (Some one) f ≡ Some two)
sooner_some one f = by (comes_before f one)
  where
    by : (b : Bool) → (two : Failing) × ((if b then Some f else Some one) ≡ Some two)
    by true = (f, refl)
    by false = (one, refl)

some_first : (one : Failing) (fs : List Failing) → first_of (Some one) fs ≡ None → ⊥
some_first one [] h = absurd cc
some_first one (f ∷ fs) h = let t = sooner_some one f in some_first t.0 fs (ap (λ z. first_of z fs) (sym t.1) ∙ h)

pub none_fails : (fs : List Failing) → first_of None fs ≡ None → fs ≡ []
none_fails [] h = refl
none_fails (f ∷ fs) h = absurd (some_first f fs h)

-- ---- trees
drafted_same : (tokens : List Token) (at : ℕ) (seen : Seen) (form : StatementAt 64) → drafted tokens at seen (draft_tree seen.names form) ≡ tree_by tokens seen.names (start_of tokens at ∷ map (λ p. p.start) seen.places) form at
drafted_same tokens at seen (headed h behind) = refl
drafted_same tokens at seen (constraint body) = refl
drafted_same tokens at seen (constant name term) = refl
drafted_same tokens at seen show_nothing = refl
drafted_same tokens at seen (show name arity) = refl

module _ (text : List ℕ) (tokens : List Token) where
  abbrev here : ℕ → List Word
  here at = words_at text tokens at

  -- ---- statements that are not read
  none_there : (from : ℕ) (f : Fault) → statement_at 64 (here from) ≡ Err f → StandsNone text tokens from
  none_there from f h form rest same = let g = sym h ∙ ap (statement_at 64) same ∙ (statement_law 64).complete form rest (never_on rest) in absurd cc

  parted_at : (Claim : List Word → List Word → Type 0) (from at : ℕ) → from ≤ length tokens → at ≤ length tokens → Found Claim (here from) (length (here at)) → IsParted Claim text tokens from at
  parted_at Claim from at start within f =
      let whole = ap length f.split in
      let parts = length-append f.front f.after in
      let begin = words_long text tokens from in
      let end = words_long text tokens at in
      let place = f.place in
      (f.front, f.after, f.split, omega (arith, whole, parts, begin, end, place, start, within), f.claim)

  pub refused : (from : ℕ) (failed : Stop) → from ≤ length tokens → Fails text tokens (statement_at 64 (here from)) failed → IsRefusal text tokens from (stopped text tokens failed)
  refused from (stop.Expected at) start h = record {
    at = at;
    is = (none_there from _ h.0, parted_at (IsExpected StatementAt words_of_statement 64) from at start h.1 (statement_expected 64 (here from) (length (here at)) h.0));
    line = refl;
    column = refl;
  }
  refused from (stop.TooDeep at) start h = record {
    at = at;
    is = (none_there from _ h.0, parted_at (IsTooDeep StatementAt words_of_statement 64) from at start h.1 (statement_deep 64 (here from) (length (here at)) h.0));
    line = refl;
    column = refl;
  }
  refused from stop.Memory start h = tt

  -- ---- statements that are read
  abbrev Read : ℕ → Kept → Draft → ℕ → Type 0
  Read at new draft next = Takes form_class text tokens at (record { seen = record { names = []; places = []; bad = None }; failing = None }) new draft next

  module _ (at : ℕ) (new : Kept) (draft : Draft) (next : ℕ) (r : Read at new draft next) where
    stands : here at ≡ words_of_statement 64 r.form (here next)
    stands = ((statement_law 64).sound (here at) r.form (here next) r.is).0

    lengths : (next ≡ at + size (words_of_statement 64) r.form) × (at + 1 < next)
    lengths =
        let begin = words_long text tokens at in
        let end = words_long text tokens next in
        let same = ap length stands in
        let long = long_words r.form (here next) in
        let two = two_words r.form (here next) in
        let within = r.within in
        (omega (arith, begin, end, same, long, two, within), omega (arith, begin, end, same, long, two, within))

    pub room : at + 1 < length tokens
    room = let l = lengths.1 in let within = r.within in omega (arith, l, within)

    pub first_is : first_of (failing_of new) (crowded new.seen.places) ≡ first_of None (failing 64 r.form at)
    first_is =
        ap (λ z. first_of z (crowded new.seen.places)) r.failing ∙ ap (first_of (first_of None (form_class.fails r.form at))) (ap crowded r.places ∙ crowded_is_many tokens r.form at)
        ∙ sym (first_append None (form_class.fails r.form at) (too_many (sights_of_statement 64 r.form at)))

    pub fails_at : (found : Failing) → first_of (failing_of new) (crowded new.seen.places) ≡ Some found → IsRefusal text tokens at (fault_there text (place_of text tokens found.at) (check_cause found.check))
    fails_at found h = record { at = found.at; is = by found.check is; line = refl; column = refl }
      where
        is : IsFirstFailing text tokens at found.at (check_cause found.check)
        is = record { form = r.form; rest = here next; stands = stands; first = found; is = sym first_is ∙ h; place = refl; cause = refl }

        by : (c : Check) → IsFirstFailing text tokens at found.at (check_cause c) → IsFaultAt text tokens at found.at (check_cause c)
        by check.UnknownTheory h = h
        by check.WrongPlace h = h
        by check.BadGuard h = h
        by check.BadTerm h = h
        by check.TooManyVariables h = h

    tree_same : drafted tokens at new.seen draft ≡ tree_of tokens r.form at
    tree_same =
        ap (drafted tokens at new.seen) (r.tree new.seen.names ([], sym (append-nil new.seen.names))) ∙ drafted_same tokens at new.seen r.form
        ∙ ap (λ names. tree_by tokens names (start_of tokens at ∷ map (λ p. p.start) new.seen.places) r.form at) r.names
        ∙ ap (λ places. tree_by tokens (names_of r.form at) (start_of tokens at ∷ places) r.form at) (ap (map (λ p. p.start)) r.places ∙ starts_seen tokens [] (sights_of_statement 64 r.form at))

    pub passes : (made : Statement) → first_of (failing_of new) (crowded new.seen.places) ≡ None → made ≡ drafted tokens at new.seen draft → Passes text tokens at made next
    passes made h e = record {
      form = r.form;
      stands = stands;
      place = lengths.0;
      forward = let l = lengths.1 in omega (arith, l);
      within = r.within;
      pass = none_fails (failing 64 r.form at) (sym first_is ∙ h);
      is = e ∙ tree_same;
    }
