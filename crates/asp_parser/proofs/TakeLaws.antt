-- What is kept of a form is kept of the forms that it is a part of.
use Rattle.std.proofs.Common.{◌≡◌, ℕ, ◌+◌, ◌<◌, ◌≤◌, Bool, List, [], ◌∷◌, ◌++◌, length, map, Option, Some, None, Ok, Err, refl, sym, ◌∙◌, ap, subst, append_assoc, arith}
use Rattle.std.proofs.lemmas.List.{append-nil, map-append, length-append}
use Rattle.lexer.specs.declared.token.Token.{Token}
use Rattle.syntax_tree.specs.declared.rule.Name.{Name}
use Rattle.grammar.specs.declared.check.Failing.{Failing}
use Rattle.grammar.specs.Word.{Word, words_at}
use Rattle.grammar.specs.Row.{Row}
use Rattle.grammar.specs.Sight.{Sighting, size, along_tail}
use Rattle.grammar.specs.Check.{first_of}
use Rattle.grammar.specs.Reading.{Fault, Outcome, Reader, and_then, sign_at, tail_with, row_with}
use Rattle.grammar.proofs.Lawful.{Lawful, bind_by}
use Rattle.grammar.proofs.Pairs.{Weak, weak_of}
use Rattle.grammar.proofs.Deeper.{Shrinks, lawful_shrinks, whole_tail, tail_none, tail_some, tail_err}
use Rattle.theory_grammar.specs.declared.seen.Seen.{Seen}
use Rattle.theory_grammar.specs.State.{named, seen_places, Extends}
use Rattle.theory_grammar.specs.State as plain
use Rattle.theory_grammar.specs.TheoryState as plain_takes
use Rattle.theory_grammar.specs.TheoryParts.{with_bad}
use Rattle.theory_grammar.proofs.StateLemmas.{named_append, named_extends, extends_more, places_join, words_long, words_next}
use Rattle.theory_grammar.proofs.FirstFails.{first_append}
use Rattle.asp_parser.specs.declared.kept.Kept.{Kept}
use Rattle.asp_parser.specs.StatementState.{Class, Takes, failing_of, lifted, pair_class, list_class}
use Rattle.asp_parser.proofs.FirstLaws.{bads_more}
use Rattle.asp_parser.proofs.ReadLaws.{pair_ok}

module _ (text : List ℕ) (tokens : List Token) where
  abbrev here : ℕ → List Word
  here at = words_at text tokens at

  -- what the readers of terms and theory atoms kept
  pub lift_take : {A X : Type 0} (c : plain.Class A X) (at : ℕ) (old : Kept) (seen : Seen) (value : X) (next : ℕ) → plain_takes.Takes c text tokens at old.seen seen value next
      → Takes (lifted c) text tokens at old (record { seen = seen; failing = old.failing }) value next
  lift_take c at old seen value next t = record {
    form = t.form;
    is = t.is;
    forward = t.forward;
    within = t.within;
    names = t.names;
    places = t.places;
    failing = ap (with_bad old.failing) t.bad ∙ bads_more old.failing old.seen.bad (c.bads t.form at);
    tree = t.tree;
  }

  -- a form as another that gives the same
  pub recast : {A B X Y : Type 0} (c : Class A X) (d : Class B Y) (f : A → B) (from at : ℕ) (old new : Kept) (value : X) (made : Y) (next : ℕ) (t : Takes c text tokens at old new value next) (last : ℕ) → from ≤ at → next ≤ last → last ≤ length tokens
      → d.read (here from) ≡ Ok (f t.form, here last) → c.sights t.form at ≡ d.sights (f t.form) from → c.fails t.form at ≡ d.fails (f t.form) from → ((later : List Name) → value ≡ c.tree later t.form → made ≡ d.tree later (f t.form))
      → Takes d text tokens from old new made last
  recast c d f from at old new value made next t last before behind within is sights fails tree = record {
    form = f t.form;
    is = is;
    forward = let g = t.forward in omega (arith, g, before, behind);
    within = within;
    names = t.names ∙ ap (named old.seen.names) sights;
    places = t.places ∙ ap (λ z. old.seen.places ++ seen_places tokens old.seen.names z) sights;
    failing = t.failing ∙ ap (first_of (failing_of old)) fails;
    tree = λ later h. tree later (t.tree later h);
  }

  -- nothing was read
  pub nothing : {A X : Type 0} (c : Class A X) (a : A) (at : ℕ) (kept : Kept) (value : X) → at ≤ length tokens → c.read (here at) ≡ Ok (a, here at) → c.sights a at ≡ [] → c.fails a at ≡ [] → ((later : List Name) → value ≡ c.tree later a)
      → Takes c text tokens at kept kept value at
  nothing c a at kept value within is sights fails tree = record {
    form = a;
    is = is;
    forward = omega arith;
    within = within;
    names = ap (named kept.seen.names) (sym sights);
    places = sym (append-nil kept.seen.places) ∙ ap (λ z. kept.seen.places ++ seen_places tokens kept.seen.names z) (sym sights);
    failing = ap (first_of (failing_of kept)) (sym fails);
    tree = λ later h. tree later;
  }

  -- the place behind a form
  pub behind_form : {A X : Type 0} (c : Class A X) (goes_on : A → Word → Bool) (law : Weak c.words goes_on c.read) (at : ℕ) (old new : Kept) (value : X) (next : ℕ) (t : Takes c text tokens at old new value next) → next ≡ at + size c.words t.form
  behind_form c goes_on law at old new value next t =
      let s = law.sound (here at) t.form (here next) t.is in
      let whole = ap length (s.0 ∙ law.parted t.form [] (here next)) in
      let parts = length-append (c.words t.form []) (here next) in
      let from = words_long text tokens at in
      let to = words_long text tokens next in
      let forward = t.forward in
      let within = t.within in
      omega (arith, whole, parts, from, to, forward, within)

  -- a form and another behind it
  unfoldable pub pair_take : {A B X Y : Type 0} (c : Class A X) (d : Class B Y) (at : ℕ) (old mid new : Kept) (x : X) (y : Y) (middle next : ℕ) (t : Takes c text tokens at old mid x middle) → Takes d text tokens middle mid new y next
      → middle ≡ at + size c.words t.form → Takes (pair_class c d) text tokens at old new (x, y) next
  pair_take c d at old mid new x y middle next t u place =
      let f = t.forward in let g = u.forward in
      let one = c.sights t.form at in
      let two = d.sights u.form in
      let fails = c.fails t.form at in
      record {
        form = (t.form, u.form);
        is = pair_ok c.read d.read (here at) t.form (here middle) u.form (here next) t.is u.is;
        forward = omega (arith, f, g);
        within = u.within;
        names = u.names ∙ ap (λ z. named z (two middle)) t.names ∙ sym (named_append old.seen.names one (two middle)) ∙ ap (λ n. named old.seen.names (one ++ two n)) place;
        places = places_join tokens old.seen.names mid.seen.names old.seen.places mid.seen.places new.seen.places one (two middle) t.names t.places u.places ∙ ap (λ n. old.seen.places ++ seen_places tokens old.seen.names (one ++ two n)) place;
        failing = u.failing ∙ ap (λ z. first_of z (d.fails u.form middle)) t.failing ∙ sym (first_append (failing_of old) fails (d.fails u.form middle)) ∙ ap (λ n. first_of (failing_of old) (fails ++ d.fails u.form n)) place;
        tree = λ later h.
            let so : Extends mid.seen.names later = extends_more mid.seen.names new.seen.names later (subst (Extends mid.seen.names) (sym u.names) (named_extends mid.seen.names (two middle))) h in
            ap (λ z. (z, y)) (t.tree later so) ∙ ap (λ z. (c.tree later t.form, z)) (u.tree later h);
      }

-- ---- rows, from the left
module _ {I S X : Type 0} (c : Class I X) (goes_on : I → Word → Bool) (law : Lawful c.words goes_on c.read) (sign_word : S → Word) (sign : Word → Option S) (text : List ℕ) (tokens : List Token) where
  pub shrinks : Shrinks c.read
  shrinks = lawful_shrinks c.words goes_on c.read law

  abbrev pub tail : Reader (List (S × I))
  tail = whole_tail c.read sign shrinks

  abbrev pub at_place : ℕ → List Word
  at_place at = words_at text tokens at

  abbrev pub made : I → List (S × I) → Row I S
  made first rest = record { first = first; rest = rest }

  abbrev pub behind : I → List (S × I) → Outcome (List (S × I)) → Outcome (Row I S)
  behind first found r = and_then r (λ parts after. Ok (made first (found ++ parts), after))

  pub tail_long : List (S × I) → ℕ
  tail_long [] = 0
  tail_long (p ∷ ps) = 1 + size c.words p.1 + tail_long ps

  tail_long_last : (ps : List (S × I)) (p : S × I) → tail_long (ps ++ p ∷ []) ≡ tail_long ps + 1 + size c.words p.1
  unfolding tail_long
  tail_long_last [] p = omega arith
  tail_long_last (q ∷ ps) p = let e = tail_long_last ps p in omega (arith, e)

  along_last : {Z : Type 0} (gives : I → ℕ → List Z) (ps : List (S × I)) (p : S × I) (at : ℕ) → along_tail gives (size c.words) (ps ++ p ∷ []) at ≡ along_tail gives (size c.words) ps at ++ gives p.1 (at + tail_long ps + 1)
  unfolding tail_long
  along_last gives [] p at = append-nil (gives p.1 (at + 1)) ∙ ap (gives p.1) (omega arith)
  along_last gives (q ∷ ps) p at =
      ap (λ z. gives q.1 (at + 1) ++ z) (along_last gives ps p (at + 1 + size c.words q.1) ∙ ap (λ n. along_tail gives (size c.words) ps (at + 1 + size c.words q.1) ++ gives p.1 n) (omega arith))
      ∙ sym (append_assoc (gives q.1 (at + 1)) (along_tail gives (size c.words) ps (at + 1 + size c.words q.1)) (gives p.1 (at + (1 + size c.words q.1 + tail_long ps) + 1)))

  abbrev pub row_of : {Z : Type 0} → (I → ℕ → List Z) → I → List (S × I) → ℕ → List Z
  row_of gives first found at = gives first at ++ along_tail gives (size c.words) found (at + size c.words first)

  row_last : {Z : Type 0} (gives : I → ℕ → List Z) (first : I) (found : List (S × I)) (p : S × I) (at next : ℕ) → next ≡ at + size c.words first + tail_long found → row_of gives first (found ++ p ∷ []) at ≡ row_of gives first found at ++ gives p.1 (next + 1)
  row_last gives first found p at next place =
      ap (λ z. gives first at ++ z) (along_last gives found p (at + size c.words first) ∙ ap (λ n. along_tail gives (size c.words) found (at + size c.words first) ++ gives p.1 (n + 1)) (sym place))
      ∙ sym (append_assoc (gives first at) (along_tail gives (size c.words) found (at + size c.words first)) (gives p.1 (next + 1)))

  -- a row of which a front was read
  pub record Partial (at : ℕ) (old new : Kept) (so_far : List X) (next : ℕ) : Type 0 where
    pub first : I
    pub found : List (S × I)
    pub reads : row_with c.read sign (at_place at) ≡ behind first found (tail (at_place next))
    pub place : next ≡ at + size c.words first + tail_long found
    pub within : next ≤ length tokens
    pub names : new.seen.names ≡ named old.seen.names (row_of c.sights first found at)
    pub places : new.seen.places ≡ old.seen.places ++ seen_places tokens old.seen.names (row_of c.sights first found at)
    pub failing : failing_of new ≡ first_of (failing_of old) (row_of c.fails first found at)
    pub tree : (later : List Name) → Extends new.seen.names later → so_far ≡ c.tree later first ∷ map (λ p. c.tree later p.1) found

  start_reads : (ts : List Word) (first : I) (rest : List Word) → c.read ts ≡ Ok (first, rest) → row_with c.read sign ts ≡ behind first [] (tail rest)
  unfolding row_with
  start_reads ts first rest h = bind_by (c.read ts) _ first rest h

  pub row_start : (at : ℕ) (old new : Kept) (value : X) (next : ℕ) (so_far : List X) → Takes c text tokens at old new value next → so_far ≡ value ∷ [] → Partial at old new so_far next
  unfolding tail_long
  row_start at old new value next so_far t e = record {
    first = t.form;
    found = [];
    reads = start_reads (at_place at) t.form (at_place next) t.is;
    place = let p = behind_form text tokens c goes_on (weak_of c.words goes_on c.read law) at old new value next t in omega (arith, p);
    within = t.within;
    names = t.names ∙ ap (named old.seen.names) (sym (append-nil (c.sights t.form at)));
    places = t.places ∙ ap (λ z. old.seen.places ++ seen_places tokens old.seen.names z) (sym (append-nil (c.sights t.form at)));
    failing = t.failing ∙ ap (first_of (failing_of old)) (sym (append-nil (c.fails t.form at)));
    tree = λ later h. e ∙ ap (λ v. v ∷ []) (t.tree later h);
  }

  rejoined : (first : I) (found : List (S × I)) (s : S) (x : I) (r : Outcome (List (S × I))) → behind first found (and_then r (λ parts after. Ok ((s, x) ∷ parts, after))) ≡ behind first (found ++ (s, x) ∷ []) r
  rejoined first found s x (Ok p) = ap (λ z. Ok (made first z, p.1)) (sym (append_assoc found ((s, x) ∷ []) p.0))
  rejoined first found s x (Err f) = refl

  pub row_more : (at : ℕ) (old mid new : Kept) (so_far : List X) (next : ℕ) (s : S) (value : X) (after : ℕ) (pushed : List X) → Partial at old mid so_far next
      → sign_at sign (at_place next) ≡ Some s → Takes c text tokens (next + 1) mid new value after → pushed ≡ so_far ++ value ∷ [] → Partial at old new pushed after
  row_more at old mid new so_far next s value after pushed p signed r e =
      let item : S × I = (s, r.form) in
      let step = tail_some c.read sign shrinks (at_place next) s r.form (at_place after) signed (ap c.read (words_next text tokens next) ∙ r.is) in
      let sights = row_last c.sights p.first p.found item at next p.place in
      let fails = row_last c.fails p.first p.found item at next p.place in
      record {
        first = p.first;
        found = p.found ++ item ∷ [];
        reads = p.reads ∙ ap (behind p.first p.found) step ∙ rejoined p.first p.found s r.form (tail (at_place after));
        place =
            let b = behind_form text tokens c goes_on (weak_of c.words goes_on c.read law) (next + 1) mid new value after r in
            let l = tail_long_last p.found item in
            omega (arith, b, l, p.place);
        within = r.within;
        names = r.names ∙ ap (λ z. named z (c.sights r.form (next + 1))) p.names ∙ sym (named_append old.seen.names (row_of c.sights p.first p.found at) (c.sights r.form (next + 1))) ∙ ap (named old.seen.names) (sym sights);
        places = places_join tokens old.seen.names mid.seen.names old.seen.places mid.seen.places new.seen.places (row_of c.sights p.first p.found at) (c.sights r.form (next + 1)) p.names p.places r.places
            ∙ ap (λ z. old.seen.places ++ seen_places tokens old.seen.names z) (sym sights);
        failing = r.failing ∙ ap (λ z. first_of z (c.fails r.form (next + 1))) p.failing ∙ sym (first_append (failing_of old) (row_of c.fails p.first p.found at) (c.fails r.form (next + 1))) ∙ ap (first_of (failing_of old)) (sym fails);
        tree = λ later h.
            let so : Extends mid.seen.names later = extends_more mid.seen.names new.seen.names later (subst (Extends mid.seen.names) (sym r.names) (named_extends mid.seen.names (c.sights r.form (next + 1)))) h in
            e ∙ ap (λ z. z ++ value ∷ []) (p.tree later so) ∙ ap (λ v. (c.tree later p.first ∷ map (λ p. c.tree later p.1) p.found) ++ v ∷ []) (r.tree later h)
            ∙ ap (λ z. c.tree later p.first ∷ z) (sym (map-append (λ p. c.tree later p.1) p.found (item ∷ [])));
      }

  pub row_done : (at : ℕ) (old new : Kept) (so_far : List X) (next : ℕ) → Partial at old new so_far next → sign_at sign (at_place next) ≡ None → Takes (list_class c sign_word sign) text tokens at old new so_far next
  row_done at old new so_far next p none = record {
    form = made p.first p.found;
    is = p.reads ∙ ap (behind p.first p.found) (tail_none c.read sign shrinks (at_place next) none) ∙ ap (λ z. Ok (made p.first z, at_place next)) (append-nil p.found);
    forward = let q = p.place in omega (arith, q);
    within = p.within;
    names = p.names;
    places = p.places;
    failing = p.failing;
    tree = p.tree;
  }

  pub row_fails : (at : ℕ) (old mid : Kept) (so_far : List X) (next : ℕ) (s : S) (f : Fault) → Partial at old mid so_far next → sign_at sign (at_place next) ≡ Some s → c.read (at_place (next + 1)) ≡ Err f → row_with c.read sign (at_place at) ≡ Err f
  row_fails at old mid so_far next s f p signed failed =
      p.reads ∙ ap (behind p.first p.found) (tail_err c.read sign shrinks (at_place next) s f signed (ap c.read (words_next text tokens next) ∙ failed))

  pub first_fails : (at : ℕ) (f : Fault) → c.read (at_place at) ≡ Err f → row_with c.read sign (at_place at) ≡ Err f
  unfolding row_with
  first_fails at f h = ap (λ r. and_then r (λ x rest. and_then (tail_with c.read sign (length rest) rest) (λ parts after. Ok (made x parts, after)))) h
