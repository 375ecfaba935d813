-- What is kept of atoms and conditions.
use Rattle.std.proofs.Common.{◌≡◌, ℕ, ◌+◌, true, false, List, [], ◌∷◌, ◌++◌, length, take, drop, Option, Some, None, Ok, Err, refl, sym, ◌∙◌, ap, subst, arith}
use Rattle.std.specs.Option.{is_some}
use Rattle.std.proofs.lemmas.List.{append-nil}
use Rattle.lexer.specs.declared.token.Token.{Token}
use Rattle.symbols.specs.declared.rel.Rel.{Rel}
use Rattle.syntax_tree.specs.declared.rule.Name.{Name}
use Rattle.syntax_tree.specs.declared.term.Term.{Term}
use Rattle.syntax_tree.specs.declared.literal.Guard.{Guard}
use Rattle.syntax_tree.specs.declared.literal.Literal.{Literal}
use Rattle.syntax_tree.specs.declared.literal.Literal.TheVariants as literal
use Rattle.grammar.specs.declared.shape.Shape.{Shape}
use Rattle.grammar.specs.declared.shape.Shape.TheVariants.{Interval, Atom, Other}
use Rattle.grammar.specs.Word.{Word, words_at}
use Rattle.grammar.specs.Spelled.{word_by}
use Rattle.grammar.specs.declared.words.WordKind.{WordKind}
use Rattle.grammar.specs.declared.words.WordKind.TheVariants as kinds
use Rattle.grammar.specs.Shape.{row_shape_by, grouped, term_shape, unary_shape, operand_shape}
use Rattle.grammar.specs.Sight.{Sighting, of_atom, seen}
use Rattle.grammar.specs.Term.{TermAt, UnaryAt, UnaryOf, AtomAt, AtomOf, Operand, Room, alone, interval, plain, applied, negated, number, text, variable, anonymous, atom, unit, group, single, tuple, unary_words, operand_words}
use Rattle.grammar.specs.Theory.{holds, compares, relation}
use Rattle.grammar.specs.Reading.{Fault, Expected, one, other, and_then, expected, sign_at, starts_next, maybe_with, kept_by, kept_with, unary_at, term_at, level}
use Rattle.grammar.specs.TheoryReading.{is_name, is_negation, is_relation, negation_by, unary_atom, row_atom, term_atom, PlainOf, compared, compared_by, condition_of, atom_with, compared_with, sides_with, plain_with, denied_with, condition_with}
use Rattle.grammar.proofs.Lawful.{bind_by}
use Rattle.grammar.proofs.Levels.{operand_lawful}
use Rattle.grammar.proofs.TermLaws.{term_law, term_text}
use Rattle.grammar.proofs.Pairs.{weak_of}
use Rattle.grammar.proofs.ConditionLaws.{atom_term, term_atom_is, term_on}
use Rattle.theory_grammar.specs.declared.places.Place.{Place}
use Rattle.theory_grammar.specs.declared.seen.Seen.{Seen}
use Rattle.theory_grammar.specs.State.{least, noted, named, seen_places, Extends, Reads, unary_class}
use Rattle.theory_grammar.specs.TheoryState.{judged_class, compared_class, atom_class, condition_class, whole_class}
use Rattle.theory_grammar.proofs.StateLemmas.{words_next}
use Rattle.theory_grammar.proofs.TermReads.{then_fails}
use Rattle.theory_grammar.proofs.PartReads.{taken, behind_form, pair_take, relation_some, relation_none}

-- ---- terms that are atoms
name_atom : (n : ℕ) (u : UnaryAt n) (rest : List Word) → starts_next is_name (unary_words (operand_words n) u rest) ≡ is_some (unary_atom u)
name_atom n (negated d) rest = refl
name_atom n (number k) rest = refl
name_atom n (text bytes) rest = refl
name_atom n (variable name) rest = refl
name_atom n anonymous rest = refl
name_atom n (atom (plain name)) rest = refl
name_atom n (atom (applied name args)) rest = refl
name_atom n (unit room) rest = refl
name_atom n (group t) rest = refl
name_atom n (single t) rest = refl
name_atom n (tuple t args) rest = refl

some_atom : {D R : Type 0} (u : UnaryOf D R) → is_some (unary_atom u) ≡ true → (a : AtomOf D) × (u ≡ atom a)
some_atom (atom a) h = (a, refl)
some_atom (negated d) h = absurd cc
some_atom (number n) h = absurd cc
some_atom (text bytes) h = absurd cc
some_atom (variable name) h = absurd cc
some_atom anonymous h = absurd cc
some_atom (unit room) h = absurd cc
some_atom (group t) h = absurd cc
some_atom (single t) h = absurd cc
some_atom (tuple t args) h = absurd cc

grouped_not : (shape : Shape) → grouped shape ≡ Atom → ⊥
grouped_not Atom h = cc
grouped_not Interval h = cc
grouped_not Other h = cc

unary_shape_atom : {D R : Type 0} (inner : D → Shape) (u : UnaryOf D R) → unary_shape inner u ≡ Atom → is_some (unary_atom u) ≡ true
unary_shape_atom inner (atom a) h = refl
unary_shape_atom inner (negated d) h = absurd cc
unary_shape_atom inner (number n) h = absurd cc
unary_shape_atom inner (text bytes) h = absurd cc
unary_shape_atom inner (variable name) h = absurd cc
unary_shape_atom inner anonymous h = absurd cc
unary_shape_atom inner (unit room) h = absurd cc
unary_shape_atom inner (group t) h = absurd (grouped_not (term_shape inner t) h)
unary_shape_atom inner (single t) h = absurd cc
unary_shape_atom inner (tuple t args) h = absurd cc

row_shape_atom : {A I S : Type 0} (shape : Shape) (found : Option A) (rest : List (S × I)) → (shape ≡ Atom → is_some found ≡ true) → row_shape_by shape rest ≡ Atom → is_some (row_atom found rest) ≡ true
row_shape_atom shape found [] step h = step h
row_shape_atom shape found (p ∷ rest) step h = absurd cc

-- a term with the shape of an atom is one
shape_atom : (t : TermAt 64) → whole_class.shape t ≡ Atom → is_some (term_atom t) ≡ true
shape_atom (alone s) h =
    row_shape_atom _ (row_atom (unary_atom s.first.first) s.first.rest) s.rest (row_shape_atom _ (unary_atom s.first.first) s.first.rest (unary_shape_atom (operand_shape 64) s.first.first)) h
shape_atom (interval a b) h = absurd cc

pub shape_not_atom : (t : TermAt 64) (shape : Shape) → shape ≡ whole_class.shape t → (shape ≡ Atom → ⊥) → term_atom t ≡ None
shape_not_atom t shape e never = by (term_atom t) refl
  where
    by : (o : Option (AtomAt 64)) → term_atom t ≡ o → term_atom t ≡ None
    by None q = q
    by (Some a) q = absurd (never (e ∙ ap whole_class.shape (term_atom_is 64 t a q)))

pub shape_is_atom : (t : TermAt 64) → Atom ≡ whole_class.shape t → (a : AtomAt 64) × (term_atom t ≡ Some a)
shape_is_atom t e = by (term_atom t) refl (shape_atom t (sym e))
  where
    by : (o : Option (AtomAt 64)) → term_atom t ≡ o → is_some (term_atom t) ≡ true → (a : AtomAt 64) × (term_atom t ≡ Some a)
    by (Some a) q h = (a, q)
    by None q h = let k = sym (ap is_some q) ∙ h in absurd cc

module _ (bytes : List ℕ) (tokens : List Token) where
  abbrev here : ℕ → List Word
  here at = words_at bytes tokens at

  -- ---- an atom, which is noted before what is inside it
  abbrev entered : ℕ → List Place → ℕ → List Place
  entered before places at = take before places ++ noted tokens at false ∷ drop before places

  take_all : {X : Type 0} (xs ys : List X) → take (length xs) (xs ++ ys) ≡ xs
  take_all [] ys = refl
  take_all (x ∷ xs) ys = ap (λ z. x ∷ z) (take_all xs ys)

  drop_all : {X : Type 0} (xs ys : List X) → drop (length xs) (xs ++ ys) ≡ ys
  drop_all [] ys = refl
  drop_all (x ∷ xs) ys = drop_all xs ys

  pub entered_places : (names : List Name) (old : List Place) (sights : List Sighting) (at : ℕ) → entered (length old) (old ++ seen_places tokens names sights) at ≡ old ++ seen_places tokens names (seen of_atom at ++ sights)
  entered_places names old sights at =
      ap (λ z. z ++ noted tokens at false ∷ drop (length old) (old ++ seen_places tokens names sights)) (take_all old (seen_places tokens names sights)) ∙ ap (λ z. old ++ noted tokens at false ∷ z) (drop_all old (seen_places tokens names sights))

  atom_present : (at : ℕ) → starts_next is_name (here at) ≡ true → atom_with (level 64) (here at) ≡ kept_with unary_atom (unary_at 64) (here at)
  atom_present at h = rw h refl

  pub atom_absent : (at : ℕ) → starts_next is_name (here at) ≡ false → atom_with (level 64) (here at) ≡ Err (Expected (length (here at)))
  atom_absent at h = rw h refl

  -- a word that is no name
  pub kind_no_name : (kind : WordKind) (spelled : List ℕ) → (kind ≡ kinds.Name → ⊥) → is_name (word_by kind spelled) ≡ false
  kind_no_name kinds.Name spelled h = absurd (h refl)
  kind_no_name kinds.Number spelled h = refl
  kind_no_name kinds.Text spelled h = refl
  kind_no_name kinds.Variable spelled h = refl
  kind_no_name kinds.Anonymous spelled h = refl
  kind_no_name kinds.Not spelled h = refl
  kind_no_name kinds.Const spelled h = refl
  kind_no_name kinds.Show spelled h = refl
  kind_no_name (kinds.Mark mark) spelled h = refl

  pub no_atom : (at : ℕ) (kind : WordKind) (spelled : List ℕ) → here at ≡ word_by kind spelled ∷ here (at + 1) → (kind ≡ kinds.Name → ⊥) → atom_with (level 64) (here at) ≡ Err (Expected (length (here at)))
  no_atom at kind spelled e h = atom_absent at (ap (starts_next is_name) e ∙ kind_no_name kind spelled h)

  pub atom_fails : (at : ℕ) (f : Fault) → starts_next is_name (here at) ≡ true → unary_at 64 (here at) ≡ Err f → atom_with (level 64) (here at) ≡ Err f
  atom_fails at f h e = atom_present at h ∙ then_fails (unary_at 64 (here at)) _ f e

  pub atom_read : (at : ℕ) (old mid new : Seen) (value : Term) (shape : Shape) (next before : ℕ) → starts_next is_name (here at) ≡ true → Reads (unary_class 64) bytes tokens at old mid value shape next → before ≡ length old.places
      → new ≡ record mid { places = entered before mid.places at } → Reads atom_class bytes tokens at old new value Other next
  atom_read at old mid new value shape next before starts r b e = finish a.0 is names places bad tree
    where
      sound : here at ≡ unary_words (operand_words 64) r.form (here next)
      sound = ((operand_lawful 64).sound (here at) r.form (here next) r.is).0

      a : (a : AtomAt 64) × (r.form ≡ atom a)
      a = some_atom r.form (sym (name_atom 64 r.form (here next)) ∙ ap (starts_next is_name) (sym sound) ∙ starts)

      is : atom_with (level 64) (here at) ≡ Ok (a.0, here next)
      is = atom_present at starts ∙ bind_by (unary_at 64 (here at)) _ r.form (here next) r.is ∙ ap (λ u. kept_by (unary_atom u) (here next)) a.1

      names : new.names ≡ named old.names ((unary_class 64).sights (atom a.0) at)
      names = ap (λ s. s.names) e ∙ r.names ∙ ap (λ u. named old.names ((unary_class 64).sights u at)) a.1

      places : new.places ≡ old.places ++ seen_places tokens old.names (seen of_atom at ++ (unary_class 64).sights (atom a.0) at)
      places = ap (λ s. s.places) e ∙ ap (λ n. entered n mid.places at) b ∙ ap (λ z. entered (length old.places) z at) r.places ∙ entered_places old.names old.places ((unary_class 64).sights r.form at) at
          ∙ ap (λ u. old.places ++ seen_places tokens old.names (seen of_atom at ++ (unary_class 64).sights u at)) a.1

      bad : new.bad ≡ least old.bad ((unary_class 64).bads (atom a.0) at)
      bad = ap (λ s. s.bad) e ∙ r.bad ∙ ap (λ u. least old.bad ((unary_class 64).bads u at)) a.1

      tree : (later : List Name) → Extends new.names later → value ≡ (unary_class 64).tree later (atom a.0)
      tree later h = r.tree later (subst (λ z. Extends z later) (ap (λ s. s.names) e) h) ∙ ap ((unary_class 64).tree later) a.1

      finish : (a : AtomAt 64) → atom_with (level 64) (here at) ≡ Ok (a, here next) → new.names ≡ named old.names ((unary_class 64).sights (atom a) at)
          → new.places ≡ old.places ++ seen_places tokens old.names (seen of_atom at ++ (unary_class 64).sights (atom a) at) → new.bad ≡ least old.bad ((unary_class 64).bads (atom a) at)
          → ((later : List Name) → Extends new.names later → value ≡ (unary_class 64).tree later (atom a)) → Reads atom_class bytes tokens at old new value Other next
      finish a is names places bad tree = record { form = a; is = is; forward = r.forward; within = r.within; shaped = refl; names = names; places = places; bad = bad; tree = tree }

  -- ---- conditions
  sides_is : (at middle next : ℕ) (t : TermAt 64) (o : Option (Rel × TermAt 64)) → term_at 64 (here at) ≡ Ok (t, here middle) → maybe_with is_relation (compared_with (level 64)) (here middle) ≡ Ok (o, here next)
      → sides_with (level 64) (here at) ≡ Ok ((t, o), here next)
  sides_is at middle next t o h g = bind_by (term_at 64 (here at)) _ t (here middle) h ∙ bind_by (maybe_with is_relation (compared_with (level 64)) (here middle)) _ o (here next) g

  plain_is : (ts : List Word) (a : TermAt 64 × Option (Rel × TermAt 64)) (rest : List Word) → sides_with (level 64) ts ≡ Ok (a, rest) → plain_with (level 64) ts ≡ kept_by (compared a) rest
  plain_is ts a rest h = bind_by (sides_with (level 64) ts) _ a rest h

  pub positive_is : (ts : List Word) → starts_next is_negation ts ≡ false → condition_with (level 64) ts ≡ and_then (and_then (plain_with (level 64) ts) (λ b rest. Ok (other b, rest))) (λ a rest. Ok (condition_of a, rest))
  positive_is ts h = rw h refl

  denied_is : (ts : List Word) → starts_next is_negation ts ≡ true → condition_with (level 64) ts ≡ and_then (and_then (denied_with (level 64) ts) (λ b rest. Ok (one b, rest))) (λ a rest. Ok (condition_of a, rest))
  denied_is ts h = rw h refl

  positive_ok : (ts rest : List Word) (b : PlainOf (Operand 64) (Room 64)) → starts_next is_negation ts ≡ false → plain_with (level 64) ts ≡ Ok (b, rest) → condition_with (level 64) ts ≡ Ok (condition_of (other b), rest)
  positive_ok ts rest b h g = positive_is ts h ∙ ap (λ r. and_then (and_then r (λ b rest. Ok (other b, rest))) (λ a rest. Ok (condition_of a, rest))) g

  pub positive_fails : (ts : List Word) (f : Fault) → starts_next is_negation ts ≡ false → plain_with (level 64) ts ≡ Err f → condition_with (level 64) ts ≡ Err f
  positive_fails ts f h g = positive_is ts h ∙ ap (λ r. and_then (and_then r (λ b rest. Ok (other b, rest))) (λ a rest. Ok (condition_of a, rest))) g

  pub left_of_fails : (at : ℕ) (f : Fault) → starts_next is_negation (here at) ≡ false → term_at 64 (here at) ≡ Err f → condition_with (level 64) (here at) ≡ Err f
  left_of_fails at f h e = positive_fails (here at) f h (then_fails (sides_with (level 64) (here at)) _ f (then_fails (term_at 64 (here at)) _ f e))

  present : (at : ℕ) → starts_next is_relation (here at) ≡ true → maybe_with is_relation (compared_with (level 64)) (here at) ≡ and_then (compared_with (level 64) (here at)) (λ a rest. Ok (Some a, rest))
  present at h = rw h refl

  absent : (at : ℕ) → starts_next is_relation (here at) ≡ false → maybe_with is_relation (compared_with (level 64)) (here at) ≡ Ok (None, here at)
  absent at h = rw h refl

  pub right_of_fails : (at middle : ℕ) (t : TermAt 64) (rel : Rel) (f : Fault) → starts_next is_negation (here at) ≡ false → term_at 64 (here at) ≡ Ok (t, here middle) → sign_at relation (here middle) ≡ Some rel
      → compared_with (level 64) (here middle) ≡ Err f → condition_with (level 64) (here at) ≡ Err f
  right_of_fails at middle t rel f h is signed e =
      positive_fails (here at) f h (then_fails (sides_with (level 64) (here at)) _ f
      (bind_by (term_at 64 (here at)) _ t (here middle) is ∙ then_fails (maybe_with is_relation (compared_with (level 64)) (here middle)) _ f (present middle (relation_some (here middle) rel signed) ∙ then_fails (compared_with (level 64) (here middle)) _ f e)))

  pub not_atom_fails : (at middle : ℕ) (t : TermAt 64) → starts_next is_negation (here at) ≡ false → term_at 64 (here at) ≡ Ok (t, here middle) → sign_at relation (here middle) ≡ None → term_atom t ≡ None
      → condition_with (level 64) (here at) ≡ Err (Expected (length (here middle)))
  not_atom_fails at middle t h is none lacks =
      positive_fails (here at) (Expected (length (here middle))) h
      (plain_is (here at) (t, None) (here middle) (sides_is at middle middle t None is (absent middle (relation_none (here middle) none))) ∙ ap (λ o. kept_by (compared_by t o None) (here middle)) lacks)

  pub compare_read : (at : ℕ) (old mid new : Seen) (left : Term) (shape : Shape) (guard : Guard) (value : Literal) (rel : Rel) (middle next : ℕ) → starts_next is_negation (here at) ≡ false → sign_at relation (here middle) ≡ Some rel
      → Reads (judged_class false) bytes tokens at old mid left shape middle → Reads (compared_class true) bytes tokens middle mid new guard Other next → value ≡ literal.Compare left guard.rel guard.right
      → Reads condition_class bytes tokens at old new value Other next
  unfolding pair_take taken
  compare_read at old mid new left shape guard value rel middle next plain_word signed a b made =
      let t = taken bytes tokens (judged_class false) at old mid left shape middle a in
      let u = taken bytes tokens (compared_class true) middle mid new guard Other next b in
      let place = behind_form bytes tokens (judged_class false) (term_on 64) (weak_of (term_text 64) (term_on 64) (term_at 64) (term_law 64)) at old mid left middle t in
      let both = pair_take bytes tokens (judged_class false) (compared_class true) at old mid new left guard middle next t u place in
      let form = b.form in
      let f = a.forward in let g = b.forward in
      record {
        form = compares a.form form.0 form.1;
        is = positive_ok (here at) (here next) (other (a.form, (form.0, form.1))) plain_word
            (plain_is (here at) (a.form, Some form) (here next) (sides_is at middle next a.form (Some form) a.is (present middle (relation_some (here middle) rel signed) ∙ bind_by (compared_with (level 64) (here middle)) _ form (here next) b.is)));
        forward = omega (arith, f, g);
        within = b.within;
        shaped = refl;
        names = both.names;
        places = both.places;
        bad = both.bad;
        tree = λ later h. made ∙ ap (λ p. literal.Compare p.0 p.1.rel p.1.right) (both.tree later h);
      }

  pub alone_is_read : (at : ℕ) (old mid new : Seen) (value : Term) (made : Literal) (middle before : ℕ) → starts_next is_negation (here at) ≡ false → sign_at relation (here middle) ≡ None
      → Reads (judged_class false) bytes tokens at old mid value Atom middle → before ≡ length old.places → new ≡ record mid { places = entered before mid.places at } → made ≡ literal.Atom value true
      → Reads condition_class bytes tokens at old new made Other middle
  alone_is_read at old mid new value made middle before plain_word none r b e same = finish found.0 form is names places bad tree
    where
      found : (a : AtomAt 64) × (term_atom r.form ≡ Some a)
      found = shape_is_atom r.form r.shaped

      form : r.form ≡ atom_term 64 found.0
      form = term_atom_is 64 r.form found.0 found.1

      is : condition_with (level 64) (here at) ≡ Ok (holds true found.0, here middle)
      is = positive_ok (here at) (here middle) (one found.0) plain_word
          (plain_is (here at) (r.form, None) (here middle) (sides_is at middle middle r.form None r.is (absent middle (relation_none (here middle) none))) ∙ ap (λ o. kept_by (compared_by r.form o None) (here middle)) found.1)

      names : new.names ≡ named old.names (whole_class.sights (atom_term 64 found.0) at)
      names = ap (λ s. s.names) e ∙ r.names ∙ ap (λ u. named old.names (whole_class.sights u at)) form

      places : new.places ≡ old.places ++ seen_places tokens old.names (seen of_atom at ++ whole_class.sights (atom_term 64 found.0) at)
      places = ap (λ s. s.places) e ∙ ap (λ n. entered n mid.places at) b ∙ ap (λ z. entered (length old.places) z at) r.places ∙ entered_places old.names old.places (whole_class.sights r.form at) at
          ∙ ap (λ u. old.places ++ seen_places tokens old.names (seen of_atom at ++ whole_class.sights u at)) form

      bad : new.bad ≡ least old.bad ((judged_class false).bads (atom_term 64 found.0) at)
      bad = ap (λ s. s.bad) e ∙ r.bad ∙ ap (λ u. least old.bad ((judged_class false).bads u at)) form

      tree : (later : List Name) → Extends new.names later → made ≡ literal.Atom (whole_class.tree later (atom_term 64 found.0)) true
      tree later h = same ∙ ap (λ z. literal.Atom z true) (r.tree later (subst (λ z. Extends z later) (ap (λ s. s.names) e) h) ∙ ap (whole_class.tree later) form)

      finish : (a : AtomAt 64) → r.form ≡ atom_term 64 a → condition_with (level 64) (here at) ≡ Ok (holds true a, here middle) → new.names ≡ named old.names (whole_class.sights (atom_term 64 a) at)
          → new.places ≡ old.places ++ seen_places tokens old.names (seen of_atom at ++ whole_class.sights (atom_term 64 a) at) → new.bad ≡ least old.bad ((judged_class false).bads (atom_term 64 a) at)
          → ((later : List Name) → Extends new.names later → made ≡ literal.Atom (whole_class.tree later (atom_term 64 a)) true) → Reads condition_class bytes tokens at old new made Other middle
      finish a form is names places bad tree = record {
        form = holds true a;
        is = is;
        forward = r.forward;
        within = r.within;
        shaped = refl;
        names = names ∙ ap (named old.names) (append-nil ((unary_class 64).sights (atom a) at ++ []) ∙ append-nil ((unary_class 64).sights (atom a) at));
        places = places ∙ ap (λ z. old.places ++ seen_places tokens old.names (seen of_atom at ++ z)) (append-nil ((unary_class 64).sights (atom a) at ++ []) ∙ append-nil ((unary_class 64).sights (atom a) at));
        bad = bad;
        tree = tree;
      }

  -- behind `not`
  denied_signed : (at : ℕ) → starts_next is_negation (here at) ≡ true → denied_with (level 64) (here at) ≡ and_then (atom_with (level 64) (here (at + 1))) (λ a rest. Ok ((tt, a), rest))
  denied_signed at h = by (here at) h ∙ ap (λ z. and_then (atom_with (level 64) z) (λ a rest. Ok ((tt, a), rest))) (words_next bytes tokens at)
    where
      by : (ts : List Word) → starts_next is_negation ts ≡ true → denied_with (level 64) ts ≡ and_then (atom_with (level 64) (drop 1 ts)) (λ a rest. Ok ((tt, a), rest))
      by [] h = absurd cc
      by (w ∷ ts) h = ap (λ b. elim (negation_by b) [ Some s ↦ and_then (atom_with (level 64) ts) (λ a rest. Ok ((s, a), rest)) | None ↦ expected {A = Unit {0} × AtomAt 64} (w ∷ ts) ]) h

  pub denied_read : (at : ℕ) (old new : Seen) (term : Term) (value : Literal) (next : ℕ) → starts_next is_negation (here at) ≡ true → Reads atom_class bytes tokens (at + 1) old new term Other next → value ≡ literal.Atom term false
      → Reads condition_class bytes tokens at old new value Other next
  denied_read at old new term value next starts r made = let f = r.forward in record {
    form = holds false r.form;
    is = denied_is (here at) starts
        ∙ ap (λ q. and_then (and_then q (λ b rest. Ok (one b, rest))) (λ a rest. Ok (condition_of a, rest))) (denied_signed at starts ∙ bind_by (atom_with (level 64) (here (at + 1))) _ r.form (here next) r.is);
    forward = omega (arith, f);
    within = r.within;
    shaped = refl;
    names = r.names;
    places = r.places;
    bad = r.bad;
    tree = λ later h. made ∙ ap (λ z. literal.Atom z false) (r.tree later h);
  }

  pub denied_fails : (at : ℕ) (f : Fault) → starts_next is_negation (here at) ≡ true → atom_with (level 64) (here (at + 1)) ≡ Err f → condition_with (level 64) (here at) ≡ Err f
  denied_fails at f starts h =
      denied_is (here at) starts ∙ ap (λ q. and_then (and_then q (λ b rest. Ok (one b, rest))) (λ a rest. Ok (condition_of a, rest))) (denied_signed at starts ∙ then_fails (atom_with (level 64) (here (at + 1))) _ f h)
