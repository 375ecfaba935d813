-- What is kept of terms and of the operands that hold them.
use Rattle.std.proofs.Common.{◌≡◌, ℕ, ◌+◌, Bool, true, false, List, [], ◌∷◌, ◌++◌, map, drop, Option, Some, None, Ok, Err, refl, sym, ◌∙◌, ap, subst, arith}
use Rattle.std.proofs.lemmas.List.{append-nil}
use Rattle.lexer.specs.declared.token.Token.{Token}
use Rattle.syntax_tree.specs.declared.rule.Name.{Name}
use Rattle.syntax_tree.specs.declared.term.Op.{Op}
use Rattle.syntax_tree.specs.declared.term.Part.{Part}
use Rattle.syntax_tree.specs.declared.term.Term.{Term}
use Rattle.syntax_tree.specs.declared.term.Term.TheVariants as t
use Rattle.grammar.specs.declared.shape.Shape.{Shape}
use Rattle.grammar.specs.declared.shape.Shape.TheVariants.{Interval, Other}
use Rattle.grammar.specs.declared.mark.Mark.{Mark}
use Rattle.grammar.specs.declared.mark.Mark.TheVariants as m
use Rattle.grammar.specs.Word.{Word, words_at, is_next}
use Rattle.grammar.specs.Word as word
use Rattle.grammar.specs.Row.{Row, row_words}
use Rattle.grammar.specs.Term.{SumOf, alone, interval}
use Rattle.grammar.specs.Shape.{row_shape}
use Rattle.grammar.specs.Tree.{parts_tree, part_of}
use Rattle.grammar.specs.Sight.{Sighting, size, along, row_bads_by}
use Rattle.grammar.specs.Reading.{Fault, Outcome, Reader, and_then, sign_at, row_with, sum_with, term_with}
use Rattle.grammar.proofs.WordLemmas.{the_next}
use Rattle.grammar.proofs.Lawful.{Lawful, bind_by}
use Rattle.theory_grammar.specs.declared.fault.Stop.{Stop}
use Rattle.theory_grammar.specs.declared.fault.Stop.TheVariants as stop
use Rattle.theory_grammar.specs.declared.seen.Seen.{Seen}
use Rattle.theory_grammar.specs.State.{least, named, seen_places, Extends, Class, Reads, Fails, part_class, sum_class, term_class}
use Rattle.theory_grammar.proofs.StateLemmas.{named_append, named_extends, extends_more, places_join, least_append, words_next}
use Rattle.theory_grammar.proofs.Classes.{Partial, place_behind, row_end, row_alone}

-- ---- rows that are trees of their own
module _ {I S : Type 0} (c : Class I Term) (goes_on : I → Word → Bool) (law : Lawful c.words goes_on c.read) (sign_word : S → Word) (sign : Word → Option S) (whole : List Part → Term) (first : Op) (op : S → Op)
    (text : List ℕ) (tokens : List Token) where
  abbrev row_class : Class (Row I S) Term
  row_class = record {
    words = row_words c.words sign_word;
    read = row_with c.read sign;
    shape = row_shape c.shape;
    tree = λ names row. parts_tree whole first op (c.tree names) row.first row.rest;
    sights = along c.sights (size c.words);
    bads = λ row. row_bads_by c.shape (size c.words) c.bads row.first row.rest;
  }

  pub row_one : (at : ℕ) (old new : Seen) (value : Term) (shape : Shape) (next : ℕ) → Reads c text tokens at old new value shape next → sign_at sign (words_at text tokens next) ≡ None
      → Reads row_class text tokens at old new value shape next
  row_one at old new value shape next r none = record {
    form = record { first = r.form; rest = [] };
    is = row_alone c goes_on law sign_word sign (λ x. x) (λ s x. x) text tokens at r.form next r.is none;
    forward = r.forward;
    within = r.within;
    shaped = r.shaped;
    names = r.names ∙ ap (named old.names) (sym (append-nil (c.sights r.form at)));
    places = r.places ∙ ap (λ z. old.places ++ seen_places tokens old.names z) (sym (append-nil (c.sights r.form at)));
    bad = r.bad;
    tree = r.tree;
  }

  abbrev Parts : (at start : ℕ) (old new : Seen) (so_far : List Part) (next : ℕ) → Type 0
  Parts at start old new so_far next = Partial (part_class c) goes_on law sign_word sign (part_of first) (λ s x. part_of (op s) x) text tokens at start old new so_far next

  -- two items or more
  pub row_many : (at start : ℕ) (old new : Seen) (parts : List Part) (next : ℕ) (s : S) → Parts at start old new parts next → sign_at sign (words_at text tokens start) ≡ Some s
      → sign_at sign (words_at text tokens next) ≡ None → Reads row_class text tokens at old new (whole parts) Other next
  row_many at start old new parts next s p some none = by p.first p.found refl p.many p.names p.places p.bad p.tree (row_end (part_class c) goes_on law sign_word sign (part_of first) (λ s x. part_of (op s) x) text tokens at start old new parts next p none)
    where
      by : (x : I) (found : List (S × I)) → p.found ≡ found → (found ≡ [] → next ≡ start) → new.names ≡ named old.names (along c.sights (size c.words) (record { first = x; rest = found }) at)
          → new.places ≡ old.places ++ seen_places tokens old.names (along c.sights (size c.words) (record { first = x; rest = found }) at)
          → new.bad ≡ least old.bad (along (part_class c).bads (size c.words) (record { first = x; rest = found }) at)
          → ((later : List Name) → Extends new.names later → parts ≡ part_of first (c.tree later x) ∷ map (λ p. part_of (op p.0) (c.tree later p.1)) found)
          → row_with c.read sign (words_at text tokens at) ≡ Ok (record { first = x; rest = found }, words_at text tokens next) → Reads row_class text tokens at old new (whole parts) Other next
      by x [] e many names places bad tree is =
          let two = ap (λ n. sign_at sign (words_at text tokens n)) (many refl) in
          let none_some = sym none ∙ two ∙ some in absurd cc
      by x (q ∷ found) e many names places bad tree is = record {
        form = record { first = x; rest = q ∷ found };
        is = is;
        forward = p.forward;
        within = p.within;
        shaped = refl;
        names = names;
        places = places;
        bad = bad;
        tree = λ later h. ap whole (tree later h);
      }

-- ---- failures go along
pub fails_along : {A B : Type 0} (text : List ℕ) (tokens : List Token) (failed : Stop) (r : Outcome A) (q : Outcome B) → ((f : Fault) → r ≡ Err f → q ≡ Err f) → Fails text tokens r failed → Fails text tokens q failed
fails_along text tokens (stop.Expected at) r q step h = (step _ h.0, h.1)
fails_along text tokens (stop.TooDeep at) r q step h = (step _ h.0, h.1)
fails_along text tokens stop.Memory r q step h = tt

pub then_fails : {A B : Type 0} (r : Outcome A) (g : A → Reader B) (f : Fault) → r ≡ Err f → and_then r g ≡ Err f
then_fails r g f h = ap (λ z. and_then z g) h

-- ---- a mark at a place
module _ (text : List ℕ) (tokens : List Token) where
  abbrev at : ℕ → List Word
  at place = words_at text tokens place

  pub mark_there : (mark : Mark) (place : ℕ) → is_next mark (at place) ≡ true → at place ≡ word.mark mark ∷ at (place + 1)
  mark_there mark place h = the_next mark (at place) h ∙ ap (λ z. word.mark mark ∷ z) (words_next text tokens place)

  pub two_on : (place : ℕ) → at (place + 1 + 1) ≡ at (place + 2)
  two_on place = ap at (omega arith)

-- ---- terms
module _ {U : Type 0} (c : Class U Term) (goes_on : SumOf U → Word → Bool) (law : Lawful (sum_class c).words goes_on (sum_class c).read) (text : List ℕ) (tokens : List Token) where
  term_alone : (ts : List Word) (s : SumOf U) (rest : List Word) → sum_with c.read ts ≡ Ok (s, rest) → is_next m.Dots rest ≡ false → term_with c.read ts ≡ Ok (alone s, rest)
  unfolding term_with
  term_alone ts s rest h g = bind_by (sum_with c.read ts) _ s rest h ∙ rw g refl

  term_dots : (ts : List Word) (a : SumOf U) (rest : List Word) → sum_with c.read ts ≡ Ok (a, rest) → is_next m.Dots rest ≡ true → term_with c.read ts ≡ and_then (sum_with c.read (drop 1 rest)) (λ b after. Ok (interval a b, after))
  unfolding term_with
  term_dots ts a rest h g = bind_by (sum_with c.read ts) _ a rest h ∙ rw g refl

  pub alone_read : (at : ℕ) (old new : Seen) (value : Term) (shape : Shape) (next : ℕ) → Reads (sum_class c) text tokens at old new value shape next → is_next m.Dots (words_at text tokens next) ≡ false
      → Reads (term_class c) text tokens at old new value shape next
  alone_read at old new value shape next r none = record {
    form = alone r.form;
    is = term_alone (words_at text tokens at) r.form (words_at text tokens next) r.is none;
    forward = r.forward;
    within = r.within;
    shaped = r.shaped;
    names = r.names;
    places = r.places;
    bad = r.bad;
    tree = r.tree;
  }

  pub interval_read : (at : ℕ) (old mid new : Seen) (left right : Term) (middle next : ℕ) → Reads (part_class (sum_class c)) text tokens at old mid left Other middle → is_next m.Dots (words_at text tokens middle) ≡ true
      → Reads (part_class (sum_class c)) text tokens (middle + 1) mid new right Other next → Reads (term_class c) text tokens at old new (t.Interval left right) Interval next
  interval_read at old mid new left right middle next a dots b =
      let place = place_behind (sum_class c) goes_on law text tokens at a.form middle a.is a.forward a.within in
      let from : middle + 1 ≡ at + size (sum_class c).words a.form + 1 = ap (λ n. n + 1) place in
      let sights : List Sighting = (sum_class c).sights a.form at in
      let bads = (part_class (sum_class c)).bads in
      record {
        form = interval a.form b.form;
        is = term_dots (words_at text tokens at) a.form (words_at text tokens middle) a.is dots
            ∙ bind_by (sum_with c.read (drop 1 (words_at text tokens middle))) _ b.form (words_at text tokens next) (ap (sum_with c.read) (words_next text tokens middle) ∙ b.is);
        forward = omega (arith, a.forward, b.forward);
        within = b.within;
        shaped = refl;
        names = b.names ∙ ap (λ z. named z ((sum_class c).sights b.form (middle + 1))) a.names ∙ sym (named_append old.names sights ((sum_class c).sights b.form (middle + 1)))
            ∙ ap (λ n. named old.names (sights ++ (sum_class c).sights b.form n)) from;
        places = places_join tokens old.names mid.names old.places mid.places new.places sights ((sum_class c).sights b.form (middle + 1)) a.names a.places b.places ∙ ap (λ n. old.places ++ seen_places tokens old.names (sights ++ (sum_class c).sights b.form n)) from;
        bad = b.bad ∙ ap (λ z. least z (bads b.form (middle + 1))) a.bad ∙ sym (least_append old.bad (bads a.form at) (bads b.form (middle + 1))) ∙ ap (λ n. least old.bad (bads a.form at ++ bads b.form n)) from;
        tree = λ later h.
            let so : Extends mid.names later = extends_more mid.names new.names later (subst (Extends mid.names) (sym b.names) (named_extends mid.names ((sum_class c).sights b.form (middle + 1)))) h in
            ap (λ z. t.Interval z right) (a.tree later so) ∙ ap (λ z. t.Interval ((sum_class c).tree later a.form) z) (b.tree later h);
      }

  pub left_fails : (at : ℕ) (f : Fault) → sum_with c.read (words_at text tokens at) ≡ Err f → term_with c.read (words_at text tokens at) ≡ Err f
  unfolding term_with
  left_fails at f h = rw h refl

  pub right_fails : (at middle : ℕ) (a : SumOf U) (f : Fault) → sum_with c.read (words_at text tokens at) ≡ Ok (a, words_at text tokens middle) → is_next m.Dots (words_at text tokens middle) ≡ true
      → sum_with c.read (words_at text tokens (middle + 1)) ≡ Err f → term_with c.read (words_at text tokens at) ≡ Err f
  right_fails at middle a f is dots h =
      term_dots (words_at text tokens at) a (words_at text tokens middle) is dots
      ∙ then_fails (sum_with c.read (drop 1 (words_at text tokens middle))) _ f (ap (sum_with c.read) (words_next text tokens middle) ∙ h)
