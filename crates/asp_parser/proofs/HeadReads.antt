-- What is kept of heads.
use Rattle.std.proofs.Common.{◌≡◌, ℕ, ◌+◌, ◌≤◌, Bool, true, false, List, [], ◌∷◌, ◌++◌, length, take, drop, Option, Some, None, Result, Ok, Err, refl, sym, ◌∙◌, ap, subst, append_assoc, arith}
use Rattle.std.proofs.lemmas.List.{append-nil, length-append}
use Rattle.lexer.specs.declared.token.Token.{Token}
use Rattle.symbols.specs.declared.rel.Rel.{Rel}
use Rattle.syntax_tree.specs.declared.rule.Name.{Name}
use Rattle.syntax_tree.specs.declared.rule.Choice.{Choice}
use Rattle.syntax_tree.specs.declared.rule.Head.{Head}
use Rattle.syntax_tree.specs.declared.rule.Head.TheVariants as head
use Rattle.syntax_tree.specs.declared.term.Term.{Term}
use Rattle.syntax_tree.specs.declared.literal.TheoryAtom.{TheoryAtom}
use Rattle.grammar.specs.declared.mark.Mark.TheVariants as m
use Rattle.grammar.specs.declared.shape.Shape.{Shape}
use Rattle.grammar.specs.declared.shape.Shape.TheVariants.{Atom}
use Rattle.grammar.specs.Word.{Word, words_at, is_word, is_next}
use Rattle.grammar.specs.Word as word
use Rattle.grammar.specs.Sight.{Sighting, of_atom, seen, size}
use Rattle.grammar.specs.Term.{TermAt, AtomAt, Operand, Room, atom, operand_words}
use Rattle.grammar.specs.Theory.{TheoryAt, rel_word}
use Rattle.grammar.specs.Statement.{HeadOf, atom_head, choice_head, theory_head}
use Rattle.grammar.specs.StatementTree.{head_tree}
use Rattle.grammar.specs.StatementSight.{choice_sights}
use Rattle.grammar.specs.Check.{first_of, bad_terms}
use Rattle.grammar.specs.Reading.{Fault, Expected, Outcome, Reader, Either, one, other, and_then, starts_next, pair_with, maybe_with, either_with, term_at, level}
use Rattle.grammar.specs.TheoryReading.{begins_term, term_atom, theory_at}
use Rattle.grammar.specs.StatementReading.{is_bounding, FreeOf, LedOf, choice_of, bounded_of, led, led_by, head_of, free_with, bounded_with, led_with, head_with}
use Rattle.grammar.proofs.TermLaws.{term_law, term_text}
use Rattle.grammar.proofs.Pairs.{weak_of}
use Rattle.grammar.proofs.ConditionLaws.{atom_term, term_atom_is, term_on}
use Rattle.grammar.proofs.ChoiceLaws.{chosens_law}
use Rattle.theory_grammar.specs.declared.fault.Stop.{Stop}
use Rattle.theory_grammar.specs.declared.seen.Seen.{Seen}
use Rattle.theory_grammar.specs.State.{Reads, Extends, named, seen_places, noted, least, unary_class}
use Rattle.theory_grammar.specs.TheoryState.{judged_class, whole_class}
use Rattle.theory_grammar.specs.TheoryParts.{with_bad}
use Rattle.theory_grammar.proofs.TermReads.{fails_along}
use Rattle.theory_grammar.proofs.PartReads.{taken}
use Rattle.theory_grammar.proofs.ConditionReads.{shape_is_atom, shape_not_atom, entered_places}
use Rattle.asp_parser.specs.declared.kept.Kept.{Kept}
use Rattle.asp_parser.specs.StatementState.{Takes, Taken, failing_of, lifted, pair_class, theory_class, elements_class, braces_class, right_class, parts_class, choice_class, bounded_gives, bounded_tree, bounded_class, led_class, head_class, heads_class}
use Rattle.asp_parser.proofs.FirstLaws.{bads_more}
use Rattle.asp_parser.proofs.ReadLaws.{starts_by, mapped_ok, mapped_err, one_ok, one_err, other_ok, other_err, maybe_gone, maybe_ok, maybe_err, pair_ok, pair_first_err, pair_second_err, kept_ok, kept_none, kept_err}
use Rattle.asp_parser.proofs.TakeLaws.{lift_take, recast, behind_form, pair_take}

abbrev Free : Type 0
Free = FreeOf (Operand 64) (Room 64)

abbrev Behind : Type 0
Behind = Either (Rel × Free) Free

abbrev leading : Reader (TermAt 64 × Option Behind)
leading = pair_with (term_at 64) (maybe_with is_bounding (bounded_with (level 64)))

abbrev as_head : LedOf (Operand 64) (Room 64) → HeadOf (Operand 64) (Room 64)
as_head l = head_of (other (one l))

abbrev led_read : Reader (LedOf (Operand 64) (Room 64))
led_read = led_with (level 64)

abbrev unled : Reader (Either (LedOf (Operand 64) (Room 64)) Free)
unled = either_with begins_term led_read (free_with (level 64))

-- ---- places in a choice
left_long : (t : TermAt 64) (w : Word) → length (term_text 64 t (w ∷ [])) ≡ size (term_text 64) t + 1
left_long t w = ap length ((term_law 64).parted t [] (w ∷ [])) ∙ length-append (term_text 64 t []) (w ∷ [])

braces_long : (f : Free) → size braces_class.words f.0 ≡ 1 + size elements_class.words f.0 + 1
braces_long f = let e = ap length ((chosens_law 64).parted f.0 [] (word.mark m.CloseBrace ∷ [])) ∙ length-append (elements_class.words f.0 []) (word.mark m.CloseBrace ∷ []) in omega (arith, e)

joined : {X : Type 0} (first : List X) (e r : ℕ → List X) (a b c d : ℕ) → a ≡ c → b ≡ d → first ++ (e a ++ r b) ≡ (first ++ e c) ++ r d
joined first e r a b c d p q = ap (λ n. first ++ (e n ++ r b)) p ∙ ap (λ n. first ++ (e c ++ r n)) q ∙ sym (append_assoc first (e c) (r d))

-- what a choice gives, by its parts
rel_gives : {X : Type 0} (first : List X) (e r : ℕ → List X) (t : TermAt 64) (rel : Rel) (f : Free) (at : ℕ)
    → first ++ (e (at + size (term_text 64) t + 1 + 1) ++ r (at + size (term_text 64) t + 1 + size braces_class.words f.0))
    ≡ (first ++ e (at + length (term_text 64 t (rel_word rel ∷ [])) + 1)) ++ r (at + length (term_text 64 t (rel_word rel ∷ [])) + 1 + size elements_class.words f.0 + 1)
rel_gives first e r t rel f at = let l = left_long t (rel_word rel) in let b = braces_long f in joined first e r _ _ _ _ (omega (arith, l)) (omega (arith, l, b))

plain_gives : {X : Type 0} (first : List X) (e r : ℕ → List X) (from : ℕ) (f : Free) → first ++ (e (from + 1) ++ r (from + size braces_class.words f.0)) ≡ (first ++ e (from + 1)) ++ r (from + 1 + size elements_class.words f.0 + 1)
plain_gives first e r from f = let b = braces_long f in joined first e r _ _ _ _ refl (omega (arith, b))

led_sights : (t : TermAt 64) (b : Behind) (at : ℕ) → whole_class.sights t at ++ bounded_gives parts_class.sights b (at + size (term_text 64) t) ≡ led_class.sights (choice_head (bounded_of t b)) at
led_sights t (one (rel, f)) at = rel_gives (whole_class.sights t at) (elements_class.sights f.0) (right_class.sights f.1) t rel f at
led_sights t (other f) at = plain_gives (whole_class.sights t at) (elements_class.sights f.0) (right_class.sights f.1) (at + size (term_text 64) t) f

led_fails : (t : TermAt 64) (b : Behind) (at : ℕ) → bad_terms ((judged_class false).bads t at) ++ bounded_gives parts_class.fails b (at + size (term_text 64) t) ≡ led_class.fails (choice_head (bounded_of t b)) at
led_fails t (one (rel, f)) at = rel_gives (bad_terms ((judged_class false).bads t at)) (elements_class.fails f.0) (right_class.fails f.1) t rel f at
led_fails t (other f) at = plain_gives (bad_terms ((judged_class false).bads t at)) (elements_class.fails f.0) (right_class.fails f.1) (at + size (term_text 64) t) f

free_sights : (f : Free) (at : ℕ) → parts_class.sights f at ≡ head_class.sights (choice_head (choice_of None f)) at
free_sights f at = let b = braces_long f in joined [] (elements_class.sights f.0) (right_class.sights f.1) _ _ _ _ (omega arith) (omega (arith, b))

free_fails : (f : Free) (at : ℕ) → parts_class.fails f at ≡ head_class.fails (choice_head (choice_of None f)) at
free_fails f at = let b = braces_long f in joined [] (elements_class.fails f.0) (right_class.fails f.1) _ _ _ _ (omega arith) (omega (arith, b))

led_tree : (names : List Name) (t : TermAt 64) (b : Behind) → head.Choice (bounded_tree (whole_class.tree names t) names b) ≡ led_class.tree names (choice_head (bounded_of t b))
led_tree names t (one (rel, f)) = refl
led_tree names t (other f) = refl

led_by_read : (r : Outcome (LedOf (Operand 64) (Room 64)))
    → and_then (and_then (and_then r (λ a rest. Ok (one a, rest))) (λ b rest. Ok (other b, rest))) (λ a rest. Ok (head_of a, rest)) ≡ and_then r (λ a rest. Ok (as_head a, rest))
led_by_read (Ok p) = refl
led_by_read (Err f) = refl

module _ (text : List ℕ) (tokens : List Token) where
  abbrev here : ℕ → List Word
  here at = words_at text tokens at

  -- ---- heads that begin with a term
  pub led_choice : (at : ℕ) (old new : Kept) (mid : Seen) (left : Term) (shape : Shape) (choice : Choice) (middle next : ℕ) → Reads (judged_class false) text tokens at old.seen mid left shape middle → starts_next is_bounding (here middle) ≡ true
      → Takes (bounded_class left) text tokens middle (record { seen = mid; failing = old.failing }) new choice next → Takes led_class text tokens at old new (head.Choice choice) next
  unfolding pair_take
  led_choice at old new mid left shape choice middle next r bounding u =
      let between : Kept = record { seen = mid; failing = old.failing } in
      let t = lift_take text tokens (judged_class false) at old mid left middle (taken text tokens (judged_class false) at old.seen mid left shape middle r) in
      let place = behind_form text tokens (lifted (judged_class false)) (term_on 64) (weak_of (term_text 64) (term_on 64) (term_at 64) (term_law 64)) at old between left middle t in
      let both = pair_take text tokens (lifted (judged_class false)) (bounded_class left) at old between new left choice middle next t u place in
      recast text tokens (pair_class (lifted (judged_class false)) (bounded_class left)) led_class (λ p. choice_head (bounded_of p.0 p.1)) at at old new (left, choice) (head.Choice choice) next both next (omega arith) (omega arith) both.within
      (mapped_ok as_head led_read (here at) (other both.form) (here next)
      (kept_ok led leading (here at) (t.form, Some u.form) (here next) (other both.form)
      (pair_ok (term_at 64) (maybe_with is_bounding (bounded_with (level 64))) (here at) t.form (here middle) (Some u.form) (here next) t.is (maybe_ok is_bounding (bounded_with (level 64)) (here middle) u.form (here next) bounding u.is)) refl))
      (led_sights t.form u.form at) (led_fails t.form u.form at)
      (λ later e. ap (λ p. head.Choice p.1) e ∙ ap (λ p. head.Choice (bounded_tree p.0 later u.form)) e ∙ led_tree later t.form u.form)

  pub led_term_fails : (at : ℕ) (f : Fault) → term_at 64 (here at) ≡ Err f → led_class.read (here at) ≡ Err f
  led_term_fails at f h = mapped_err as_head led_read (here at) f (kept_err led leading (here at) f (pair_first_err (term_at 64) (maybe_with is_bounding (bounded_with (level 64))) (here at) f h))

  pub led_bounded_fails : (at middle : ℕ) (t : TermAt 64) (f : Fault) → term_at 64 (here at) ≡ Ok (t, here middle) → starts_next is_bounding (here middle) ≡ true → bounded_with (level 64) (here middle) ≡ Err f → led_class.read (here at) ≡ Err f
  led_bounded_fails at middle t f is bounding h =
      mapped_err as_head led_read (here at) f (kept_err led leading (here at) f
      (pair_second_err (term_at 64) (maybe_with is_bounding (bounded_with (level 64))) (here at) t (here middle) f is (maybe_err is_bounding (bounded_with (level 64)) (here middle) f bounding h)))

  pub led_nothing : (at middle : ℕ) (t : TermAt 64) → term_at 64 (here at) ≡ Ok (t, here middle) → starts_next is_bounding (here middle) ≡ false → term_atom t ≡ None → led_class.read (here at) ≡ Err (Expected (length (here middle)))
  led_nothing at middle t is gone lacks =
      mapped_err as_head led_read (here at) (Expected (length (here middle))) (kept_none led leading (here at) (t, None) (here middle)
      (pair_ok (term_at 64) (maybe_with is_bounding (bounded_with (level 64))) (here at) t (here middle) None (here middle) is (maybe_gone is_bounding (bounded_with (level 64)) (here middle) gone)) (ap (λ o. led_by t o None) lacks))

  pub led_atom : (at : ℕ) (old : Kept) (mid new : Seen) (term : Term) (middle before : ℕ) → starts_next is_bounding (here middle) ≡ false → Reads (judged_class false) text tokens at old.seen mid term Atom middle → before ≡ length old.seen.places
      → new ≡ record mid { places = take before mid.places ++ noted tokens at false ∷ drop before mid.places } → Takes led_class text tokens at old (record { seen = new; failing = old.failing }) (head.Atom term) middle
  led_atom at old mid new term middle before gone r b e = finish found.0 form is names places failing tree
    where
      found : (a : AtomAt 64) × (term_atom r.form ≡ Some a)
      found = shape_is_atom r.form r.shaped

      form : r.form ≡ atom_term 64 found.0
      form = term_atom_is 64 r.form found.0 found.1

      is : led_class.read (here at) ≡ Ok (atom_head found.0, here middle)
      is = mapped_ok as_head led_read (here at) (one found.0) (here middle)
          (kept_ok led leading (here at) (r.form, None) (here middle) (one found.0)
          (pair_ok (term_at 64) (maybe_with is_bounding (bounded_with (level 64))) (here at) r.form (here middle) None (here middle) r.is (maybe_gone is_bounding (bounded_with (level 64)) (here middle) gone)) (ap (λ o. led_by r.form o None) found.1))

      names : new.names ≡ named old.seen.names (whole_class.sights (atom_term 64 found.0) at)
      names = ap (λ s. s.names) e ∙ r.names ∙ ap (λ u. named old.seen.names (whole_class.sights u at)) form

      places : new.places ≡ old.seen.places ++ seen_places tokens old.seen.names (seen of_atom at ++ whole_class.sights (atom_term 64 found.0) at)
      places = ap (λ s. s.places) e ∙ ap (λ n. take n mid.places ++ noted tokens at false ∷ drop n mid.places) b ∙ ap (λ z. take (length old.seen.places) z ++ noted tokens at false ∷ drop (length old.seen.places) z) r.places
          ∙ entered_places text tokens old.seen.names old.seen.places (whole_class.sights r.form at) at ∙ ap (λ u. old.seen.places ++ seen_places tokens old.seen.names (seen of_atom at ++ whole_class.sights u at)) form

      failing : with_bad old.failing new.bad ≡ first_of (failing_of old) (bad_terms ((judged_class false).bads (atom_term 64 found.0) at))
      failing = ap (λ s. with_bad old.failing s.bad) e ∙ ap (with_bad old.failing) r.bad ∙ bads_more old.failing old.seen.bad ((judged_class false).bads r.form at) ∙ ap (λ u. first_of (failing_of old) (bad_terms ((judged_class false).bads u at))) form

      tree : (later : List Name) → Extends new.names later → head.Atom term ≡ head.Atom (whole_class.tree later (atom_term 64 found.0))
      tree later h = ap head.Atom (r.tree later (subst (λ z. Extends z later) (ap (λ s. s.names) e) h) ∙ ap (whole_class.tree later) form)

      finish : (a : AtomAt 64) → r.form ≡ atom_term 64 a → led_class.read (here at) ≡ Ok (atom_head a, here middle) → new.names ≡ named old.seen.names (whole_class.sights (atom_term 64 a) at)
          → new.places ≡ old.seen.places ++ seen_places tokens old.seen.names (seen of_atom at ++ whole_class.sights (atom_term 64 a) at)
          → with_bad old.failing new.bad ≡ first_of (failing_of old) (bad_terms ((judged_class false).bads (atom_term 64 a) at))
          → ((later : List Name) → Extends new.names later → head.Atom term ≡ head.Atom (whole_class.tree later (atom_term 64 a))) → Takes led_class text tokens at old (record { seen = new; failing = old.failing }) (head.Atom term) middle
      finish a form is names places failing tree = record {
        form = atom_head a;
        is = is;
        forward = let f = r.forward in omega (arith, f);
        within = r.within;
        names = names ∙ ap (named old.seen.names) (append-nil ((unary_class 64).sights (atom a) at ++ []) ∙ append-nil ((unary_class 64).sights (atom a) at));
        places = places ∙ ap (λ z. old.seen.places ++ seen_places tokens old.seen.names (seen of_atom at ++ z)) (append-nil ((unary_class 64).sights (atom a) at ++ []) ∙ append-nil ((unary_class 64).sights (atom a) at));
        failing = failing;
        tree = tree;
      }

  -- ---- heads
  pub head_theory : (at : ℕ) (old new : Kept) (value : TheoryAtom) (next : ℕ) → is_next m.And (here at) ≡ true → Takes theory_class text tokens at old new value next → Takes head_class text tokens at old new (head.Theory value) next
  head_theory at old new value next there t =
      recast text tokens theory_class head_class theory_head at at old new value (head.Theory value) next t next (omega arith) (omega arith) t.within
      (mapped_ok head_of (either_with (is_word m.And) (theory_at 64) unled) (here at) (one t.form) (here next) (one_ok (is_word m.And) (theory_at 64) unled (here at) t.form (here next) (starts_by m.And (here at) ∙ there) t.is)) refl refl (λ later e. ap head.Theory e)

  pub head_theory_fails : (at : ℕ) (f : Fault) → is_next m.And (here at) ≡ true → theory_at 64 (here at) ≡ Err f → head_with (level 64) (here at) ≡ Err f
  head_theory_fails at f there h = mapped_err head_of (either_with (is_word m.And) (theory_at 64) unled) (here at) f (one_err (is_word m.And) (theory_at 64) unled (here at) f (starts_by m.And (here at) ∙ there) h)

  head_led_by : (ts : List Word) → starts_next (is_word m.And) ts ≡ false → starts_next begins_term ts ≡ true
      → head_with (level 64) ts ≡ and_then (and_then (and_then (led_read ts) (λ a rest. Ok (one a, rest))) (λ b rest. Ok (other b, rest))) (λ a rest. Ok (head_of a, rest))
  head_led_by ts h g = rw (h, g) refl

  head_led_is : (at : ℕ) → is_next m.And (here at) ≡ false → starts_next begins_term (here at) ≡ true → head_with (level 64) (here at) ≡ led_class.read (here at)
  head_led_is at gone begun = head_led_by (here at) (starts_by m.And (here at) ∙ gone) begun ∙ led_by_read (led_read (here at))

  pub head_led : (at : ℕ) (old new : Kept) (r : Result (Head × ℕ) Stop) → is_next m.And (here at) ≡ false → starts_next begins_term (here at) ≡ true → Taken led_class text tokens at old new r → Taken head_class text tokens at old new r
  head_led at old new (Ok p) gone begun t = recast text tokens led_class head_class (λ h. h) at at old new p.0 p.0 p.1 t p.1 (omega arith) (omega arith) t.within (head_led_is at gone begun ∙ t.is) refl refl (λ later e. e)
  head_led at old new (Err failed) gone begun t = fails_along text tokens failed (led_class.read (here at)) _ (λ f e. head_led_is at gone begun ∙ e) t

  pub head_free : (at : ℕ) (old new : Kept) (choice : Choice) (next : ℕ) → is_next m.And (here at) ≡ false → starts_next begins_term (here at) ≡ false → Takes (choice_class None) text tokens at old new choice next → Takes head_class text tokens at old new (head.Choice choice) next
  head_free at old new choice next gone plain t =
      recast text tokens (choice_class None) head_class (λ f. choice_head (choice_of None f)) at at old new choice (head.Choice choice) next t next (omega arith) (omega arith) t.within
      (mapped_ok head_of (either_with (is_word m.And) (theory_at 64) unled) (here at) (other (other t.form)) (here next)
      (other_ok (is_word m.And) (theory_at 64) unled (here at) (other t.form) (here next) (starts_by m.And (here at) ∙ gone) (other_ok begins_term led_read (free_with (level 64)) (here at) t.form (here next) plain t.is)))
      (free_sights t.form at) (free_fails t.form at) (λ later e. ap head.Choice e)

  pub head_free_fails : (at : ℕ) (f : Fault) → is_next m.And (here at) ≡ false → starts_next begins_term (here at) ≡ false → free_with (level 64) (here at) ≡ Err f → head_with (level 64) (here at) ≡ Err f
  head_free_fails at f gone plain h =
      mapped_err head_of (either_with (is_word m.And) (theory_at 64) unled) (here at) f
      (other_err (is_word m.And) (theory_at 64) unled (here at) f (starts_by m.And (here at) ∙ gone) (other_err begins_term led_read (free_with (level 64)) (here at) f plain h))
