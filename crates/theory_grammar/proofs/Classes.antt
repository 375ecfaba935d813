-- What is kept of a form is kept of the forms that it is a part of.
use Rattle.std.proofs.Common.{◌≡◌, ℕ, ◌+◌, ◌<◌, ◌≤◌, Bool, true, List, [], ◌∷◌, ◌++◌, length, map, Option, Some, None, Ok, Err, refl, sym, ◌∙◌, ap, subst, append_assoc, arith}
use Rattle.std.proofs.lemmas.List.{append-nil, map-append, length-append}
use Rattle.lexer.specs.declared.token.Token.{Token}
use Rattle.syntax_tree.specs.declared.rule.Name.{Name}
use Rattle.grammar.specs.declared.shape.Shape.{Shape}
use Rattle.grammar.specs.declared.shape.Shape.TheVariants.{Other}
use Rattle.grammar.specs.Word.{Word, words_at}
use Rattle.grammar.specs.Row.{Row}
use Rattle.grammar.specs.Sight.{Sighting, size, along_tail, argument_by, refused_by}
use Rattle.grammar.specs.Reading.{Fault, Outcome, Reader, and_then, sign_at, tail_with, row_with}
use Rattle.grammar.proofs.Lawful.{Lawful, bind_by}
use Rattle.grammar.proofs.Deeper.{Shrinks, lawful_shrinks, whole_tail, tail_none, tail_some, tail_err}
use Rattle.theory_grammar.specs.declared.seen.Seen.{Seen}
use Rattle.theory_grammar.specs.State.{least, refused, argued, noted, named, seen_places, Extends, Class, Reads, part_class, argument_class, list_class}
use Rattle.theory_grammar.proofs.StateLemmas.{named_append, named_extends, extends_more, places_join, argued_places, argued_names, least_append, refused_least, words_long, words_next}

module _ {A X : Type 0} (c : Class A X) (text : List ℕ) (tokens : List Token) where
  -- an operand among others
  pub part_read : (at : ℕ) (old mid new : Seen) (value : X) (shape : Shape) (next : ℕ) → Reads c text tokens at old mid value shape next → new ≡ record mid { bad = refused mid.bad shape at }
      → Reads (part_class c) text tokens at old new value Other next
  part_read at old mid new value shape next r e = record {
    form = r.form;
    is = r.is;
    forward = r.forward;
    within = r.within;
    shaped = refl;
    names = ap (λ s. s.names) e ∙ r.names;
    places = ap (λ s. s.places) e ∙ r.places;
    bad = ap (λ s. s.bad) e ∙ ap (λ b. refused b shape at) r.bad ∙ refused_least old.bad (c.bads r.form at) shape at ∙ ap (λ z. least old.bad (refused_by z at ++ c.bads r.form at)) r.shaped;
    tree = λ later h. r.tree later (subst (λ z. Extends z later) (ap (λ s. s.names) e) h);
  }

  -- an argument
  pub argument_read : (at : ℕ) (old mid new : Seen) (value : X) (shape : Shape) (next : ℕ) → Reads c text tokens at old mid value shape next
      → new ≡ record mid { places = argued mid.places shape (length old.places) (noted tokens at true) } → Reads (argument_class c) text tokens at old new value Other next
  argument_read at old mid new value shape next r e = record {
    form = r.form;
    is = r.is;
    forward = r.forward;
    within = r.within;
    shaped = refl;
    names = ap (λ s. s.names) e ∙ r.names ∙ sym (argued_names old.names (c.sights r.form at) (c.shape r.form) at);
    places = ap (λ s. s.places) e ∙ ap (λ z. argued z shape (length old.places) (noted tokens at true)) r.places ∙ argued_places tokens old.names old.places (c.sights r.form at) shape at
        ∙ ap (λ z. old.places ++ seen_places tokens old.names (argument_by z at ++ c.sights r.form at)) r.shaped;
    bad = ap (λ s. s.bad) e ∙ r.bad;
    tree = λ later h. r.tree later (subst (λ z. Extends z later) (ap (λ s. s.names) e) h);
  }

-- the place behind a form
pub place_behind : {A X : Type 0} (c : Class A X) (goes_on : A → Word → Bool) (law : Lawful c.words goes_on c.read) (text : List ℕ) (tokens : List Token) (at : ℕ) (form : A) (next : ℕ)
    → c.read (words_at text tokens at) ≡ Ok (form, words_at text tokens next) → at < next → next ≤ length tokens → next ≡ at + size c.words form
place_behind c goes_on law text tokens at form next is forward within =
    let s = law.sound (words_at text tokens at) form (words_at text tokens next) is in
    let whole = ap length (s.0 ∙ law.parted form [] (words_at text tokens next)) in
    let parts = length-append (c.words form []) (words_at text tokens next) in
    let from = words_long text tokens at in
    let to = words_long text tokens next in
    omega (arith, whole, parts, from, to, forward, within)

-- ---- rows, from the left
module _ {I S X Y : Type 0} (c : Class I X) (goes_on : I → Word → Bool) (law : Lawful c.words goes_on c.read) (sign_word : S → Word) (sign : Word → Option S) (one : X → Y) (joined : S → X → Y)
    (text : List ℕ) (tokens : List Token) where
  pub shrinks : Shrinks c.read
  shrinks = lawful_shrinks c.words goes_on c.read law

  abbrev pub tail : Reader (List (S × I))
  tail = whole_tail c.read sign shrinks

  abbrev pub here : ℕ → List Word
  here at = words_at text tokens at

  abbrev pub made : I → List (S × I) → Row I S
  made first rest = record { first = first; rest = rest }

  abbrev pub behind : I → List (S × I) → Outcome (List (S × I)) → Outcome (Row I S)
  behind first found r = and_then r (λ parts after. Ok (made first (found ++ parts), after))

  pub tail_long : List (S × I) → ℕ
  tail_long [] = 0
  tail_long (p ∷ ps) = 1 + size c.words p.1 + tail_long ps

  tail_long_last : (ps : List (S × I)) (p : S × I) → tail_long (ps ++ p ∷ []) ≡ tail_long ps + 1 + size c.words p.1
  unfolding tail_long
  tail_long_last [] p = omega arith
  tail_long_last (q ∷ ps) p = let e = tail_long_last ps p in omega (arith, e)

  along_last : {Z : Type 0} (gives : I → ℕ → List Z) (ps : List (S × I)) (p : S × I) (at : ℕ) → along_tail gives (size c.words) (ps ++ p ∷ []) at ≡ along_tail gives (size c.words) ps at ++ gives p.1 (at + tail_long ps + 1)
  unfolding tail_long
  along_last gives [] p at = append-nil (gives p.1 (at + 1)) ∙ ap (gives p.1) (omega arith)
  along_last gives (q ∷ ps) p at =
      ap (λ z. gives q.1 (at + 1) ++ z) (along_last gives ps p (at + 1 + size c.words q.1) ∙ ap (λ n. along_tail gives (size c.words) ps (at + 1 + size c.words q.1) ++ gives p.1 n) (omega arith))
      ∙ sym (append_assoc (gives q.1 (at + 1)) (along_tail gives (size c.words) ps (at + 1 + size c.words q.1)) (gives p.1 (at + (1 + size c.words q.1 + tail_long ps) + 1)))

  abbrev pub seen_of : I → List (S × I) → ℕ → List Sighting
  seen_of first found at = c.sights first at ++ along_tail c.sights (size c.words) found (at + size c.words first)

  abbrev pub bads_of : I → List (S × I) → ℕ → List ℕ
  bads_of first found at = c.bads first at ++ along_tail c.bads (size c.words) found (at + size c.words first)

  -- a row of which a front was read; `start` is the place behind its first item
  pub record Partial (at start : ℕ) (old new : Seen) (so_far : List Y) (next : ℕ) : Type 0 where
    pub first : I
    pub found : List (S × I)
    pub reads : row_with c.read sign (here at) ≡ behind first found (tail (here next))
    pub place : next ≡ at + size c.words first + tail_long found
    pub forward : at < next
    pub within : next ≤ length tokens
    pub many : found ≡ [] → next ≡ start
    pub names : new.names ≡ named old.names (seen_of first found at)
    pub places : new.places ≡ old.places ++ seen_places tokens old.names (seen_of first found at)
    pub bad : new.bad ≡ least old.bad (bads_of first found at)
    pub tree : (later : List Name) → Extends new.names later → so_far ≡ one (c.tree later first) ∷ map (λ p. joined p.0 (c.tree later p.1)) found

  start_reads : (ts : List Word) (first : I) (rest : List Word) → c.read ts ≡ Ok (first, rest) → row_with c.read sign ts ≡ behind first [] (tail rest)
  unfolding row_with
  start_reads ts first rest h = bind_by (c.read ts) _ first rest h

  pub row_start : (at : ℕ) (old new : Seen) (value : X) (shape : Shape) (next : ℕ) (so_far : List Y) → Reads c text tokens at old new value shape next → so_far ≡ one value ∷ [] → Partial at next old new so_far next
  unfolding tail_long
  row_start at old new value shape next so_far r e = record {
    first = r.form;
    found = [];
    reads = start_reads (here at) r.form (here next) r.is;
    place = let p = place_behind c goes_on law text tokens at r.form next r.is r.forward r.within in omega (arith, p);
    forward = r.forward;
    within = r.within;
    many = λ h. refl;
    names = r.names ∙ ap (named old.names) (sym (append-nil (c.sights r.form at)));
    places = r.places ∙ ap (λ z. old.places ++ seen_places tokens old.names z) (sym (append-nil (c.sights r.form at)));
    bad = r.bad ∙ ap (least old.bad) (sym (append-nil (c.bads r.form at)));
    tree = λ later h. e ∙ ap (λ v. one v ∷ []) (r.tree later h);
  }

  rejoined : (first : I) (found : List (S × I)) (s : S) (x : I) (r : Outcome (List (S × I))) → behind first found (and_then r (λ parts after. Ok ((s, x) ∷ parts, after))) ≡ behind first (found ++ (s, x) ∷ []) r
  rejoined first found s x (Ok p) = ap (λ z. Ok (made first z, p.1)) (sym (append_assoc found ((s, x) ∷ []) p.0))
  rejoined first found s x (Err f) = refl

  not_nil : {Z : Type 0} (xs : List Z) (x : Z) → xs ++ x ∷ [] ≡ [] → ⊥
  not_nil [] x h = cc
  not_nil (y ∷ xs) x h = cc

  pub row_more : (at start : ℕ) (old mid new : Seen) (so_far : List Y) (next : ℕ) (s : S) (value : X) (shape : Shape) (after : ℕ) (pushed : List Y) → Partial at start old mid so_far next
      → sign_at sign (here next) ≡ Some s → Reads c text tokens (next + 1) mid new value shape after → pushed ≡ so_far ++ joined s value ∷ [] → Partial at start old new pushed after
  row_more at start old mid new so_far next s value shape after pushed p signed r e =
      let item : S × I = (s, r.form) in
      let step = tail_some c.read sign shrinks (here next) s r.form (here after) signed (ap c.read (words_next text tokens next) ∙ r.is) in
      let at_item : at + size c.words p.first + tail_long p.found + 1 ≡ next + 1 = ap (λ n. n + 1) (sym p.place) in
      let sights : seen_of p.first (p.found ++ item ∷ []) at ≡ seen_of p.first p.found at ++ c.sights r.form (next + 1) =
      ap (λ z. c.sights p.first at ++ z) (along_last c.sights p.found item (at + size c.words p.first) ∙ ap (λ n. along_tail c.sights (size c.words) p.found (at + size c.words p.first) ++ c.sights r.form n) at_item)
      ∙ sym (append_assoc (c.sights p.first at) (along_tail c.sights (size c.words) p.found (at + size c.words p.first)) (c.sights r.form (next + 1))) in
      let bads : bads_of p.first (p.found ++ item ∷ []) at ≡ bads_of p.first p.found at ++ c.bads r.form (next + 1) =
      ap (λ z. c.bads p.first at ++ z) (along_last c.bads p.found item (at + size c.words p.first) ∙ ap (λ n. along_tail c.bads (size c.words) p.found (at + size c.words p.first) ++ c.bads r.form n) at_item)
      ∙ sym (append_assoc (c.bads p.first at) (along_tail c.bads (size c.words) p.found (at + size c.words p.first)) (c.bads r.form (next + 1))) in
      record {
        first = p.first;
        found = p.found ++ item ∷ [];
        reads = p.reads ∙ ap (behind p.first p.found) step ∙ rejoined p.first p.found s r.form (tail (here after));
        place =
            let b = place_behind c goes_on law text tokens (next + 1) r.form after r.is r.forward r.within in
            let l = tail_long_last p.found item in
            omega (arith, b, l, p.place);
        forward = omega (arith, p.forward, r.forward);
        within = r.within;
        many = λ h. absurd (not_nil p.found item h);
        names = r.names ∙ ap (λ z. named z (c.sights r.form (next + 1))) p.names ∙ sym (named_append old.names (seen_of p.first p.found at) (c.sights r.form (next + 1))) ∙ ap (named old.names) (sym sights);
        places = places_join tokens old.names mid.names old.places mid.places new.places (seen_of p.first p.found at) (c.sights r.form (next + 1)) p.names p.places r.places
            ∙ ap (λ z. old.places ++ seen_places tokens old.names z) (sym sights);
        bad = r.bad ∙ ap (λ z. least z (c.bads r.form (next + 1))) p.bad ∙ sym (least_append old.bad (bads_of p.first p.found at) (c.bads r.form (next + 1))) ∙ ap (least old.bad) (sym bads);
        tree = λ later h.
            let so : Extends mid.names later = extends_more mid.names new.names later (subst (Extends mid.names) (sym r.names) (named_extends mid.names (c.sights r.form (next + 1)))) h in
            e ∙ ap (λ z. z ++ joined s value ∷ []) (p.tree later so) ∙ ap (λ v. (one (c.tree later p.first) ∷ map (λ p. joined p.0 (c.tree later p.1)) p.found) ++ joined s v ∷ []) (r.tree later h)
            ∙ ap (λ z. one (c.tree later p.first) ∷ z) (sym (map-append (λ p. joined p.0 (c.tree later p.1)) p.found (item ∷ [])));
      }

  pub row_end : (at start : ℕ) (old new : Seen) (so_far : List Y) (next : ℕ) (p : Partial at start old new so_far next) → sign_at sign (here next) ≡ None → row_with c.read sign (here at) ≡ Ok (made p.first p.found, here next)
  row_end at start old new so_far next p none =
      p.reads ∙ ap (behind p.first p.found) (tail_none c.read sign shrinks (here next) none) ∙ ap (λ z. Ok (made p.first z, here next)) (append-nil p.found)

  pub row_done : (at start : ℕ) (old new : Seen) (so_far : List Y) (next : ℕ) → Partial at start old new so_far next → sign_at sign (here next) ≡ None
      → Reads (list_class c sign_word sign one joined) text tokens at old new so_far Other next
  row_done at start old new so_far next p none = record {
    form = made p.first p.found;
    is = row_end at start old new so_far next p none;
    forward = p.forward;
    within = p.within;
    shaped = refl;
    names = p.names;
    places = p.places;
    bad = p.bad;
    tree = p.tree;
  }

  pub row_fails : (at start : ℕ) (old mid : Seen) (so_far : List Y) (next : ℕ) (s : S) (f : Fault) → Partial at start old mid so_far next → sign_at sign (here next) ≡ Some s
      → c.read (here (next + 1)) ≡ Err f → row_with c.read sign (here at) ≡ Err f
  row_fails at start old mid so_far next s f p signed failed =
      p.reads ∙ ap (behind p.first p.found) (tail_err c.read sign shrinks (here next) s f signed (ap c.read (words_next text tokens next) ∙ failed))

  pub first_fails : (at : ℕ) (f : Fault) → c.read (here at) ≡ Err f → row_with c.read sign (here at) ≡ Err f
  unfolding row_with
  first_fails at f h = ap (λ r. and_then r (λ x rest. and_then (tail_with c.read sign (length rest) rest) (λ parts after. Ok (made x parts, after)))) h

  -- one item alone
  pub row_alone : (at : ℕ) (form : I) (next : ℕ) → c.read (here at) ≡ Ok (form, here next) → sign_at sign (here next) ≡ None → row_with c.read sign (here at) ≡ Ok (made form [], here next)
  row_alone at form next h none = start_reads (here at) form (here next) h ∙ ap (behind form []) (tail_none c.read sign shrinks (here next) none)
