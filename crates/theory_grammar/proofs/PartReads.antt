-- What is kept of the parts of conditions and theory atoms.
use Rattle.std.proofs.Common.{◌≡◌, ℕ, ◌+◌, ◌<◌, ◌≤◌, Bool, true, false, ◌&&◌, if◌then◌else◌, List, [], ◌∷◌, ◌++◌, length, drop, Option, Some, None, Ok, Err, refl, sym, ◌∙◌, ap, subst, arith}
use Rattle.std.specs.Option.{is_some}
use Rattle.std.proofs.lemmas.List.{append-nil, length-append}
use Rattle.lexer.specs.declared.token.Token.{Token}
use Rattle.symbols.specs.declared.rel.Rel.{Rel}
use Rattle.syntax_tree.specs.declared.rule.Name.{Name}
use Rattle.syntax_tree.specs.declared.term.Term.{Term}
use Rattle.syntax_tree.specs.declared.literal.Guard.{Guard}
use Rattle.grammar.specs.declared.shape.Shape.{Shape}
use Rattle.grammar.specs.declared.shape.Shape.TheVariants.{Other}
use Rattle.grammar.specs.declared.mark.Mark.{Mark}
use Rattle.grammar.specs.Word.{Word, words_at, is_next}
use Rattle.grammar.specs.Sight.{size, refused_by}
use Rattle.grammar.specs.Theory.{relation}
use Rattle.grammar.specs.Check.{is_equal}
use Rattle.grammar.specs.Reading.{Fault, Reader, and_then, expected, sign_at, starts_next, maybe_with, marked_with, signed_with, pair_with, term_at, level}
use Rattle.grammar.specs.TheoryReading.{is_relation, compared_with}
use Rattle.grammar.proofs.Lawful.{bind_by}
use Rattle.grammar.proofs.Pairs.{Weak}
use Rattle.theory_grammar.specs.declared.seen.Seen.{Seen}
use Rattle.theory_grammar.specs.State.{least, refused, named, seen_places, Extends, Class, Reads}
use Rattle.theory_grammar.specs.TheoryState.{Takes, maybe_class, marked_class, more_class, pair_class, judged_class, judged_shape, compared_class, guard_class, whole_class}
use Rattle.theory_grammar.proofs.StateLemmas.{named_append, named_extends, extends_more, places_join, least_append, refused_least, words_long, words_next}
use Rattle.theory_grammar.proofs.TermReads.{then_fails}

-- ---- signs
pub relation_some : (words : List Word) (r : Rel) → sign_at relation words ≡ Some r → starts_next is_relation words ≡ true
relation_some [] r h = absurd cc
relation_some (w ∷ words) r h = ap is_some h

pub relation_none : (words : List Word) → sign_at relation words ≡ None → starts_next is_relation words ≡ false
relation_none [] h = refl
relation_none (w ∷ words) h = ap is_some h

module _ (text : List ℕ) (tokens : List Token) where
  abbrev here : ℕ → List Word
  here at = words_at text tokens at

  -- ---- what is read is taken
  unfoldable pub taken : {A X : Type 0} (c : Class A X) (at : ℕ) (old new : Seen) (value : X) (shape : Shape) (next : ℕ) → Reads c text tokens at old new value shape next → Takes c text tokens at old new value next
  taken c at old new value shape next r = let f = r.forward in record {
    form = r.form;
    is = r.is;
    forward = omega (arith, f);
    within = r.within;
    names = r.names;
    places = r.places;
    bad = r.bad;
    tree = r.tree;
  }

  pub read_of : {A X : Type 0} (c : Class A X) (at : ℕ) (old new : Seen) (value : X) (shape : Shape) (next : ℕ) (t : Takes c text tokens at old new value next) → at < next → shape ≡ c.shape t.form → Reads c text tokens at old new value shape next
  read_of c at old new value shape next t forward shaped = record {
    form = t.form;
    is = t.is;
    forward = forward;
    within = t.within;
    shaped = shaped;
    names = t.names;
    places = t.places;
    bad = t.bad;
    tree = t.tree;
  }

  -- the place behind a form
  pub behind_form : {A X : Type 0} (c : Class A X) (goes_on : A → Word → Bool) (law : Weak c.words goes_on c.read) (at : ℕ) (old new : Seen) (value : X) (next : ℕ) (t : Takes c text tokens at old new value next) → next ≡ at + size c.words t.form
  behind_form c goes_on law at old new value next t =
      let s = law.sound (here at) t.form (here next) t.is in
      let whole = ap length (s.0 ∙ law.parted t.form [] (here next)) in
      let parts = length-append (c.words t.form []) (here next) in
      let from = words_long text tokens at in
      let to = words_long text tokens next in
      let forward = t.forward in
      let within = t.within in
      omega (arith, whole, parts, from, to, forward, within)

  -- ---- a form that may be missing
  maybe_absent : {A : Type 0} (starts : Word → Bool) (read : Reader A) (ts : List Word) → starts_next starts ts ≡ false → maybe_with starts read ts ≡ Ok (None, ts)
  maybe_absent starts read ts h = rw h refl

  maybe_present : {A : Type 0} (starts : Word → Bool) (read : Reader A) (ts : List Word) → starts_next starts ts ≡ true → maybe_with starts read ts ≡ and_then (read ts) (λ a rest. Ok (Some a, rest))
  maybe_present starts read ts h = rw h refl

  pub maybe_none : {A X Y : Type 0} (starts : Word → Bool) (tree : List Name → Option A → Y) (bads : Option A → ℕ → List ℕ) (c : Class A X) (at : ℕ) (old new : Seen) (value : Y) → starts_next starts (here at) ≡ false → at ≤ length tokens
      → new ≡ record old { bad = least old.bad (bads None at) } → ((later : List Name) → value ≡ tree later None) → Takes (maybe_class starts tree bads c) text tokens at old new value at
  maybe_none starts tree bads c at old new value absent within same valued = record {
    form = None;
    is = maybe_absent starts c.read (here at) absent;
    forward = omega arith;
    within = within;
    names = ap (λ s. s.names) same;
    places = ap (λ s. s.places) same ∙ sym (append-nil old.places);
    bad = ap (λ s. s.bad) same;
    tree = λ later h. valued later;
  }

  pub maybe_some : {A X Y : Type 0} (starts : Word → Bool) (tree : List Name → Option A → Y) (bads : Option A → ℕ → List ℕ) (c : Class A X) (at : ℕ) (old new : Seen) (v : X) (value : Y) (next : ℕ) → starts_next starts (here at) ≡ true
      → Takes c text tokens at old new v next → ((a : A) → bads (Some a) at ≡ c.bads a at) → ((later : List Name) (a : A) → v ≡ c.tree later a → value ≡ tree later (Some a)) → Takes (maybe_class starts tree bads c) text tokens at old new value next
  maybe_some starts tree bads c at old new v value next present t same valued = record {
    form = Some t.form;
    is = maybe_present starts c.read (here at) present ∙ bind_by (c.read (here at)) _ t.form (here next) t.is;
    forward = t.forward;
    within = t.within;
    names = t.names;
    places = t.places;
    bad = t.bad ∙ ap (least old.bad) (sym (same t.form));
    tree = λ later h. valued later t.form (t.tree later h);
  }

  pub maybe_fails : {A : Type 0} (starts : Word → Bool) (read : Reader A) (at : ℕ) (f : Fault) → starts_next starts (here at) ≡ true → read (here at) ≡ Err f → maybe_with starts read (here at) ≡ Err f
  maybe_fails starts read at f present h = maybe_present starts read (here at) present ∙ then_fails (read (here at)) _ f h

  -- ---- a form behind a mark
  marked_present : {A : Type 0} (mark : Mark) (read : Reader A) (at : ℕ) → is_next mark (here at) ≡ true → marked_with mark read (here at) ≡ read (here (at + 1))
  marked_present mark read at h = (let e : marked_with mark read (here at) ≡ read (drop 1 (here at)) = rw h refl in e) ∙ ap read (words_next text tokens at)

  pub marked_take : {A X : Type 0} (mark : Mark) (c : Class A X) (at : ℕ) (old new : Seen) (value : X) (next : ℕ) → is_next mark (here at) ≡ true → Takes c text tokens (at + 1) old new value next
      → Takes (marked_class mark c) text tokens at old new value next
  marked_take mark c at old new value next present t = let f = t.forward in record {
    form = t.form;
    is = marked_present mark c.read at present ∙ t.is;
    forward = omega (arith, f);
    within = t.within;
    names = t.names;
    places = t.places;
    bad = t.bad;
    tree = t.tree;
  }

  pub marked_fails : {A : Type 0} (mark : Mark) (read : Reader A) (at : ℕ) (f : Fault) → is_next mark (here at) ≡ true → read (here (at + 1)) ≡ Err f → marked_with mark read (here at) ≡ Err f
  marked_fails mark read at f present h = marked_present mark read at present ∙ h

  -- ---- more bad places, where the form begins
  unfoldable pub more_take : {A X : Type 0} (extra : ℕ → List ℕ) (c : Class A X) (at : ℕ) (old mid new : Seen) (value : X) (next : ℕ) → mid ≡ record old { bad = least old.bad (extra at) } → Takes c text tokens at mid new value next
      → Takes (more_class extra c) text tokens at old new value next
  more_take extra c at old mid new value next e t = record {
    form = t.form;
    is = t.is;
    forward = t.forward;
    within = t.within;
    names = t.names ∙ ap (λ s. named s.names (c.sights t.form at)) e;
    places = t.places ∙ ap (λ s. s.places ++ seen_places tokens s.names (c.sights t.form at)) e;
    bad = t.bad ∙ ap (λ s. least s.bad (c.bads t.form at)) e ∙ sym (least_append old.bad (extra at) (c.bads t.form at));
    tree = t.tree;
  }

  pub more_read : {A X : Type 0} (extra : ℕ → List ℕ) (c : Class A X) (at : ℕ) (old mid new : Seen) (value : X) (shape : Shape) (next : ℕ) → mid ≡ record old { bad = least old.bad (extra at) }
      → Reads c text tokens at mid new value shape next → Reads (more_class extra c) text tokens at old new value shape next
  unfolding more_take taken
  more_read extra c at old mid new value shape next e r =
      read_of (more_class extra c) at old new value shape next (more_take extra c at old mid new value next e (taken c at mid new value shape next r)) r.forward r.shaped

  -- ---- a form and another behind it
  unfoldable pub pair_take : {A B X Y : Type 0} (c : Class A X) (d : Class B Y) (at : ℕ) (old mid new : Seen) (x : X) (y : Y) (middle next : ℕ) (t : Takes c text tokens at old mid x middle) → Takes d text tokens middle mid new y next
      → middle ≡ at + size c.words t.form → Takes (pair_class c d) text tokens at old new (x, y) next
  pair_take c d at old mid new x y middle next t u place =
      let f = t.forward in let g = u.forward in
      let one = c.sights t.form at in
      let two = d.sights u.form in
      let bads = c.bads t.form at in
      record {
        form = (t.form, u.form);
        is = bind_by (c.read (here at)) _ t.form (here middle) t.is ∙ bind_by (d.read (here middle)) _ u.form (here next) u.is;
        forward = omega (arith, f, g);
        within = u.within;
        names = u.names ∙ ap (λ z. named z (two middle)) t.names ∙ sym (named_append old.names one (two middle)) ∙ ap (λ n. named old.names (one ++ two n)) place;
        places = places_join tokens old.names mid.names old.places mid.places new.places one (two middle) t.names t.places u.places ∙ ap (λ n. old.places ++ seen_places tokens old.names (one ++ two n)) place;
        bad = u.bad ∙ ap (λ z. least z (d.bads u.form middle)) t.bad ∙ sym (least_append old.bad bads (d.bads u.form middle)) ∙ ap (λ n. least old.bad (bads ++ d.bads u.form n)) place;
        tree = λ later h.
            let so : Extends mid.names later = extends_more mid.names new.names later (subst (Extends mid.names) (sym u.names) (named_extends mid.names (two middle))) h in
            ap (λ z. (z, y)) (t.tree later so) ∙ ap (λ z. (c.tree later t.form, z)) (u.tree later h);
      }

  pub pair_second_fails : {A B : Type 0} (read : Reader A) (second : Reader B) (at middle : ℕ) (a : A) (f : Fault) → read (here at) ≡ Ok (a, here middle) → second (here middle) ≡ Err f → pair_with read second (here at) ≡ Err f
  pair_second_fails read second at middle a f h g = bind_by (read (here at)) _ a (here middle) h ∙ then_fails (second (here middle)) _ f g

  -- ---- terms outside of other terms
  judged_by : (free : Bool) (bad : Option ℕ) (xs : List ℕ) (shape : Shape) (at : ℕ) → refused (least bad xs) (judged_shape free shape) at ≡ least bad (if free then xs else refused_by shape at ++ xs)
  judged_by true bad xs shape at = refl
  judged_by false bad xs shape at = refused_least bad xs shape at

  pub judged_read : (free : Bool) (at : ℕ) (old mid new : Seen) (value : Term) (shape : Shape) (next : ℕ) → Reads whole_class text tokens at old mid value shape next → new ≡ record mid { bad = refused mid.bad (judged_shape free shape) at }
      → Reads (judged_class free) text tokens at old new value shape next
  judged_read free at old mid new value shape next r e = record {
    form = r.form;
    is = r.is;
    forward = r.forward;
    within = r.within;
    shaped = r.shaped;
    names = ap (λ s. s.names) e ∙ r.names;
    places = ap (λ s. s.places) e ∙ r.places;
    bad = ap (λ s. s.bad) e ∙ ap (λ b. refused b (judged_shape free shape) at) r.bad ∙ judged_by free old.bad (whole_class.bads r.form at) shape at
        ∙ ap (λ z. least old.bad (if free then whole_class.bads r.form at else refused_by z at ++ whole_class.bads r.form at)) r.shaped;
    tree = λ later h. r.tree later (subst (λ z. Extends z later) (ap (λ s. s.names) e) h);
  }

  -- ---- a relation and what stands behind it
  signed_present : {S A : Type 0} (sign : Word → Option S) (read : Reader A) (at : ℕ) (s : S) → sign_at sign (here at) ≡ Some s → signed_with sign read (here at) ≡ and_then (read (here (at + 1))) (λ a rest. Ok ((s, a), rest))
  signed_present {S} {A} sign read at s h =
      ap (λ found. elim found [ Some s ↦ and_then (read (drop 1 (here at))) (λ a rest. Ok ((s, a), rest)) | None ↦ expected {A = S × A} (here at) ]) h ∙ ap (λ z. and_then (read z) (λ a rest. Ok ((s, a), rest))) (words_next text tokens at)

  pub compared_read : (free : Bool) (rel : Rel) (at : ℕ) (old new : Seen) (v : Term) (value : Guard) (shape : Shape) (next : ℕ) → sign_at relation (here at) ≡ Some rel → Reads (judged_class (free && is_equal rel)) text tokens (at + 1) old new v shape next
      → value ≡ record { rel = rel; right = v } → Reads (compared_class free) text tokens at old new value Other next
  compared_read free rel at old new v value shape next signed r made = let f = r.forward in record {
    form = (rel, r.form);
    is = signed_present relation (term_at 64) at rel signed ∙ bind_by (term_at 64 (here (at + 1))) _ r.form (here next) r.is;
    forward = omega (arith, f);
    within = r.within;
    shaped = refl;
    names = r.names;
    places = r.places;
    bad = r.bad;
    tree = λ later h. made ∙ ap (λ z. record { rel = rel; right = z }) (r.tree later h);
  }

  pub compared_fails : (rel : Rel) (at : ℕ) (f : Fault) → sign_at relation (here at) ≡ Some rel → term_at 64 (here (at + 1)) ≡ Err f → compared_with (level 64) (here at) ≡ Err f
  compared_fails rel at f signed h = signed_present relation (term_at 64) at rel signed ∙ then_fails (term_at 64 (here (at + 1))) _ f h

  pub guard_none : (at : ℕ) (seen : Seen) → sign_at relation (here at) ≡ None → at ≤ length tokens → Takes guard_class text tokens at seen seen None at
  guard_none at seen none within = maybe_none is_relation _ _ (compared_class false) at seen seen None (relation_none (here at) none) within refl (λ later. refl)

  pub guard_some : (rel : Rel) (at : ℕ) (old new : Seen) (value : Guard) (next : ℕ) → sign_at relation (here at) ≡ Some rel → Reads (compared_class false) text tokens at old new value Other next → Takes guard_class text tokens at old new (Some value) next
  guard_some rel at old new value next signed r =
      maybe_some is_relation _ _ (compared_class false) at old new value (Some value) next (relation_some (here at) rel signed) (taken (compared_class false) at old new value Other next r) (λ a. refl) (λ later a e. ap Some e)

  pub guard_fails : (rel : Rel) (at : ℕ) (f : Fault) → sign_at relation (here at) ≡ Some rel → compared_with (level 64) (here at) ≡ Err f → maybe_with is_relation (compared_with (level 64)) (here at) ≡ Err f
  guard_fails rel at f signed h = maybe_fails is_relation (compared_with (level 64)) at f (relation_some (here at) rel signed) h
