-- Atoms, comparisons and conditions are lawful at every depth.
use Rattle.std.proofs.Common.{◌≡◌, ℕ, Bool, true, false, ◌||◌, ◌⊎◌, inl, inr, if◌then◌else◌, List, [], ◌∷◌, ◌++◌, Option, Some, None, Ok, Err, refl, sym, ◌∙◌, ap, subst}
use Rattle.std.specs.Option.{is_some, is_none}
use Rattle.std.proofs.lemmas.List.{append-nil}
use Rattle.symbols.specs.declared.rel.Rel.{Rel}
use Rattle.symbols.specs.declared.rel.Rel.TheVariants as rel
use Rattle.grammar.specs.declared.mark.Mark.TheVariants as m
use Rattle.grammar.specs.Word.{Word, Ends, is_word, is_next}
use Rattle.grammar.specs.Word as word
use Rattle.grammar.specs.Parts.{maybe_words, signed_words, pair_words, maybe_goes_on}
use Rattle.grammar.specs.Row.{Row, row_words, last_item}
use Rattle.grammar.specs.Term.{AtomOf, AtomAt, UnaryOf, UnaryAt, TermAt, Operand, Room, alone, interval, plain, applied, negated, number, text, variable, anonymous, atom, unit, group, single, tuple, multiplying, adding, comma, comma_word, atom_words, operand_words, atom_goes_on, term_goes_on}
use Rattle.grammar.specs.Theory.{ConditionOf, holds, compares, rel_word, relation, condition_words}
use Rattle.grammar.specs.Reading.{Fault, Reader, Either, one, other, expected, maybe_with, starts_next, kept_by, kept_with, unary_at, term_at, level}
use Rattle.grammar.specs.TheoryReading.{is_name, is_negation, is_relation, negation, begins, begins_term, unary_atom, row_atom, term_atom, PlainOf, compared, compared_by, condition_of, atom_with, compared_with, sides_with, plain_with, denied_with, condition_with, conditions_with}
use Rattle.grammar.proofs.WordLemmas.{the_word, comma_is, comma_only}
use Rattle.grammar.proofs.Lawful.{Refuses, Stuck, Lawful, ok_parts, bind_ok, bind_err, bind_by, expected_left, or_false}
use Rattle.grammar.proofs.Rows.{row_lawful}
use Rattle.grammar.proofs.Terms.{term_only}
use Rattle.grammar.proofs.Levels.{operand_lawful, operand_only}
use Rattle.grammar.proofs.TermLaws.{unary_text, unary_on, term_text, term_law}
use Rattle.grammar.proofs.Pairs.{Weak, weak_of, maybe_weak, pair_goes_on, pair_lawful}
use Rattle.grammar.proofs.Marked.{mapped_lawful}
use Rattle.grammar.proofs.KindLaws.{signed_lawful, either_words, either_goes_on, either_lawful, kept_lawful, lawful_as}

-- ---- relations and `not`
pub relation_is : (r : Rel) → relation (rel_word r) ≡ Some r
relation_is rel.Equal = refl
relation_is rel.NotEqual = refl
relation_is rel.Less = refl
relation_is rel.LessEqual = refl
relation_is rel.Greater = refl
relation_is rel.GreaterEqual = refl

pub relation_only : (w : Word) (r : Rel) → relation w ≡ Some r → w ≡ rel_word r
relation_only w r h = by (is_word m.Equal w) refl (is_word m.NotEqual w) refl (is_word m.Less w) refl (is_word m.LessEqual w) refl (is_word m.Greater w) refl (is_word m.GreaterEqual w) refl h
  where
    by : (a : Bool) → is_word m.Equal w ≡ a → (b : Bool) → is_word m.NotEqual w ≡ b → (c : Bool) → is_word m.Less w ≡ c → (d : Bool) → is_word m.LessEqual w ≡ d → (e : Bool) → is_word m.Greater w ≡ e → (f : Bool) → is_word m.GreaterEqual w ≡ f
        → (if a then Some rel.Equal else (if b then Some rel.NotEqual else (if c then Some rel.Less else (if d then Some rel.LessEqual else (if e then Some rel.Greater else (if f then Some rel.GreaterEqual else None)))))) ≡ Some r → w ≡ rel_word r
    by true p b q c s d t e u f v h = let k : rel.Equal ≡ r = cc in the_word m.Equal w p ∙ ap rel_word k
    by false p true q c s d t e u f v h = let k : rel.NotEqual ≡ r = cc in the_word m.NotEqual w q ∙ ap rel_word k
    by false p false q true s d t e u f v h = let k : rel.Less ≡ r = cc in the_word m.Less w s ∙ ap rel_word k
    by false p false q false s true t e u f v h = let k : rel.LessEqual ≡ r = cc in the_word m.LessEqual w t ∙ ap rel_word k
    by false p false q false s false t true u f v h = let k : rel.Greater ≡ r = cc in the_word m.Greater w u ∙ ap rel_word k
    by false p false q false s false t false u true v h = let k : rel.GreaterEqual ≡ r = cc in the_word m.GreaterEqual w v ∙ ap rel_word k
    by false p false q false s false t false u false v h = absurd cc

abbrev pub negation_word : Unit {0} → Word
negation_word sign = word.negation

pub negation_is : (s : Unit {0}) → negation (negation_word s) ≡ Some s
negation_is s = refl

pub negation_only : (w : Word) (s : Unit {0}) → negation w ≡ Some s → w ≡ negation_word s
negation_only word.negation s h = refl
negation_only _ s h = absurd cc

-- ---- words with which no term goes on
pub record Closing (w : Word) : Type 0 where
  pub opens : is_word m.Open w ≡ false
  pub multiply : multiplying w ≡ None
  pub add : adding w ≡ None
  pub dots : is_word m.Dots w ≡ false

pub rel_closing : (r : Rel) → Closing (rel_word r)
rel_closing rel.Equal = record { opens = refl; multiply = refl; add = refl; dots = refl }
rel_closing rel.NotEqual = record { opens = refl; multiply = refl; add = refl; dots = refl }
rel_closing rel.Less = record { opens = refl; multiply = refl; add = refl; dots = refl }
rel_closing rel.LessEqual = record { opens = refl; multiply = refl; add = refl; dots = refl }
rel_closing rel.Greater = record { opens = refl; multiply = refl; add = refl; dots = refl }
rel_closing rel.GreaterEqual = record { opens = refl; multiply = refl; add = refl; dots = refl }

pub starts_as : (f g : Word → Bool) (a b : Bool) → ((w : Word) → f w ≡ a → g w ≡ b) → (w : Word) (ts rest : List Word) → ts ≡ w ∷ rest → f w ≡ a → starts_next g ts ≡ b
starts_as f g a b step w ts rest e h = ap (starts_next g) e ∙ step w h

pub term_not_negation : (w : Word) → begins_term w ≡ true → is_negation w ≡ false
term_not_negation word.negation h = absurd cc
term_not_negation (word.numeral n) h = refl
term_not_negation (word.name bytes) h = refl
term_not_negation (word.variable bytes) h = refl
term_not_negation word.anonymous h = refl
term_not_negation (word.string bytes) h = refl
term_not_negation word.const_word h = refl
term_not_negation word.show_word h = refl
term_not_negation (word.mark mark) h = refl

pub next_as : (f g : Word → Bool) → ((w : Word) → f w ≡ true → g w ≡ false) → (ts : List Word) → starts_next f ts ≡ true → starts_next g ts ≡ false
next_as f g step [] h = refl
next_as f g step (w ∷ ts) h = step w h

pub next_more : (f g : Word → Bool) (ts : List Word) → starts_next f ts ≡ true → starts_next (λ w. g w || f w) ts ≡ true
next_more f g [] h = absurd cc
next_more f g (w ∷ ts) h = by (g w)
  where
    by : (b : Bool) → (b || f w) ≡ true
    by true = refl
    by false = h

-- ---- atoms
atom_is_unary : {D R : Type 0} (u : UnaryOf D R) (a : AtomOf D) → unary_atom u ≡ Some a → u ≡ atom a
atom_is_unary (atom b) a h = let e : b ≡ a = cc in ap atom e
atom_is_unary (negated d) a h = absurd cc
atom_is_unary (number n) a h = absurd cc
atom_is_unary (text bytes) a h = absurd cc
atom_is_unary (variable name) a h = absurd cc
atom_is_unary anonymous a h = absurd cc
atom_is_unary (unit room) a h = absurd cc
atom_is_unary (group t) a h = absurd cc
atom_is_unary (single t) a h = absurd cc
atom_is_unary (tuple t args) a h = absurd cc

not_name : (v w : Word) (vs ws : List Word) → v ∷ vs ≡ w ∷ ws → is_name v ≡ false → is_name w ≡ true → ⊥
not_name v w vs ws e h g = let q : v ≡ w = cc in let k = sym h ∙ ap is_name q ∙ g in absurd cc

module _ (n : ℕ) where
  abbrev Inner : Operand n → List Word → List Word
  Inner = operand_words n

  abbrev unary_read : Reader (UnaryAt n)
  unary_read = unary_at n

  abbrev pub atom_text : AtomAt n → List Word → List Word
  atom_text = atom_words (operand_words n)

  abbrev pub atom_read : Reader (AtomAt n)
  atom_read = atom_with (level n)

  pub atom_starts : (a : AtomAt n) (rest : List Word) → starts_next is_name (atom_text a rest) ≡ true
  atom_starts (plain name) rest = refl
  atom_starts (applied name args) rest = refl

  atom_yes : (ts : List Word) → starts_next is_name ts ≡ true → atom_read ts ≡ kept_with unary_atom unary_read ts
  atom_yes ts h = rw h refl

  atom_no : (ts : List Word) → starts_next is_name ts ≡ false → atom_read ts ≡ expected ts
  atom_no ts h = rw h refl

  atom_complete : (a : AtomAt n) (rest : List Word) → Ends (atom_goes_on a) rest → atom_read (atom_text a rest) ≡ Ok (a, rest)
  atom_complete a rest h = atom_yes (atom_text a rest) (atom_starts a rest) ∙ bind_by (unary_read (atom_text a rest)) _ (atom a) rest ((operand_lawful n).complete (atom a) rest h)

  abbrev IsAtom : List Word → AtomAt n → List Word → Type 0
  IsAtom ts a rest = (ts ≡ atom_text a rest) × Ends (atom_goes_on a) rest

  atom_sound : (ts : List Word) (a : AtomAt n) (rest : List Word) → atom_read ts ≡ Ok (a, rest) → IsAtom ts a rest
  atom_sound ts a rest h = by (starts_next is_name ts) refl h
    where
      two : (u : UnaryAt n) (after : List Word) → (ts ≡ unary_text n u after) × Ends (unary_on n u) after → (o : Option (AtomAt n)) → unary_atom u ≡ o → kept_by o after ≡ Ok (a, rest) → IsAtom ts a rest
      two u after i None q h = absurd cc
      two u after i (Some b) q h =
          let p = ok_parts b a after rest h in
          let same : u ≡ atom a = atom_is_unary u b q ∙ ap atom p.0 in
          (i.0 ∙ ap (unary_text n u) p.1 ∙ ap (λ z. unary_text n z rest) same, subst (λ z. Ends (unary_on n z) rest) same (subst (Ends (unary_on n u)) p.1 i.1))

      by : (b : Bool) → starts_next is_name ts ≡ b → (if b then kept_with unary_atom unary_read ts else expected ts) ≡ Ok (a, rest) → IsAtom ts a rest
      by true q h = let c = bind_ok (unary_read ts) _ (a, rest) h in two c.0 c.1 ((operand_lawful n).sound ts c.0 c.1 c.2) (unary_atom c.0) refl c.3
      by false q h = absurd cc

  -- an operand that begins with a name is an atom
  named_atom : (u : UnaryAt n) (rest : List Word) (w : Word) (ws : List Word) → is_name w ≡ true → unary_text n u rest ≡ w ∷ ws → (a : AtomAt n) × (u ≡ atom a)
  named_atom (atom a) rest w ws h e = (a, refl)
  named_atom (negated d) rest w ws h e = absurd (not_name (word.mark m.Minus) w (operand_words n d rest) ws e refl h)
  named_atom (number k) rest w ws h e = absurd (not_name (word.numeral k) w rest ws e refl h)
  named_atom (text bytes) rest w ws h e = absurd (not_name (word.string bytes) w rest ws e refl h)
  named_atom (variable name) rest w ws h e = absurd (not_name (word.variable name) w rest ws e refl h)
  named_atom anonymous rest w ws h e = absurd (not_name word.anonymous w rest ws e refl h)
  named_atom (unit room) rest w ws h e = absurd (not_name (word.mark m.Open) w _ ws e refl h)
  named_atom (group t) rest w ws h e = absurd (not_name (word.mark m.Open) w _ ws e refl h)
  named_atom (single t) rest w ws h e = absurd (not_name (word.mark m.Open) w _ ws e refl h)
  named_atom (tuple t args) rest w ws h e = absurd (not_name (word.mark m.Open) w _ ws e refl h)

  goes_atom : (ts front after more : List Word) (u : UnaryAt n) → starts_next is_name ts ≡ true → ts ≡ front ++ after → unary_text n u [] ≡ front ++ more → (a : AtomAt n) × (last : List Word) × (atom_text a [] ≡ front ++ last)
  goes_atom ts [] after more u h split e = (plain [], word.name [] ∷ [], refl)
  goes_atom ts (w ∷ front) after more u h split e =
      let named : is_name w ≡ true = sym (ap (starts_next is_name) split) ∙ h in
      let g = named_atom u [] w (front ++ more) named e in
      (g.0, more, ap (λ z. unary_text n z []) (sym g.1) ∙ e)

  starts_refuses : (ts : List Word) → Refuses unary_read ts → Refuses atom_read ts
  starts_refuses ts never y h = by (starts_next is_name ts) h
    where
      by : (b : Bool) → (if b then kept_with unary_atom unary_read ts else expected ts) ≡ Ok y → ⊥
      by true h = let c = bind_ok (unary_read ts) _ y h in never (c.0, c.1) c.2
      by false h = absurd cc

  atom_stuck : (ts : List Word) (f : Fault) → atom_read ts ≡ Err f → Stuck atom_text (Refuses atom_read) ts f
  atom_stuck ts f h = by (starts_next is_name ts) refl h
    where
      two : starts_next is_name ts ≡ true → (unary_read ts ≡ Err f) ⊎ ((u : UnaryAt n) × (after : List Word) × (unary_read ts ≡ Ok (u, after)) × (kept_by (unary_atom u) after ≡ Err f)) → Stuck atom_text (Refuses atom_read) ts f
      two q (inl g) =
          let s = (operand_lawful n).stuck ts f g in
          let a = goes_atom ts s.front s.after s.more s.goes q s.split s.begins in
          record {
            front = s.front;
            after = s.after;
            split = s.split;
            place = s.place;
            goes = a.0;
            more = a.1;
            begins = a.2;
            local = λ x r next e. starts_refuses (s.front ++ x ∷ next) (s.local x r next e);
          }
      two q (inr c) = three ts q refl
        where
          three : (us : List Word) → starts_next is_name us ≡ true → us ≡ ts → Stuck atom_text (Refuses atom_read) ts f
          three [] q e = absurd cc
          three (w ∷ us) q e =
              let i = (operand_lawful n).sound ts c.0 c.1 c.2 in
              let g = named_atom c.0 c.1 w us q (sym i.0 ∙ sym e) in
              let k = sym (ap (λ z. kept_by (unary_atom z) c.1) g.1) ∙ c.3 in absurd cc

      by : (b : Bool) → starts_next is_name ts ≡ b → (if b then kept_with unary_atom unary_read ts else expected ts) ≡ Err f → Stuck atom_text (Refuses atom_read) ts f
      by true q h = two q (bind_err (unary_read ts) _ f h)
      by false q h = record {
        front = [];
        after = ts;
        split = refl;
        place = expected_left {A = AtomAt n} ts f h;
        goes = plain [];
        more = word.name [] ∷ [];
        begins = refl;
        local = λ x r next e y k. let g = sym (atom_no (x ∷ next) (subst (λ z. starts_next is_name z ≡ false) e q)) ∙ k in absurd cc;
      }

  pub atom_law : Lawful atom_text atom_goes_on atom_read
  atom_law = record {
    parted = λ a x y. (operand_lawful n).parted (atom a) x y;
    some = λ a rest. (operand_lawful n).some (atom a) rest;
    sound = atom_sound;
    complete = atom_complete;
    stuck = atom_stuck;
  }

  -- ---- terms
  abbrev pub term_on : TermAt n → Word → Bool
  term_on = term_goes_on (unary_on n)

  pub term_closes : (t : TermAt n) (w : Word) → Closing w → term_on t w ≡ false
  term_closes t w c = term_only (unary_text n) (unary_on n) (unary_at n) (operand_lawful n) (operand_only n) t w c.opens c.multiply c.add c.dots

  unary_begins : (u : UnaryAt n) (rest : List Word) → starts_next begins_term (unary_text n u rest) ≡ true
  unary_begins (negated d) rest = refl
  unary_begins (number k) rest = refl
  unary_begins (text bytes) rest = refl
  unary_begins (variable name) rest = refl
  unary_begins anonymous rest = refl
  unary_begins (atom (plain name)) rest = refl
  unary_begins (atom (applied name args)) rest = refl
  unary_begins (unit room) rest = refl
  unary_begins (group t) rest = refl
  unary_begins (single t) rest = refl
  unary_begins (tuple t args) rest = refl

  pub term_begins : (t : TermAt n) (rest : List Word) → starts_next begins_term (term_text n t rest) ≡ true
  term_begins (alone s) rest = unary_begins s.first.first _
  term_begins (interval a b) rest = unary_begins a.first.first _

  abbrev pub some_term : TermAt n
  some_term = alone (record { first = record { first = number 0; rest = [] }; rest = [] })

  -- ---- comparisons
  pub compared_law : Lawful (signed_words rel_word (term_text n)) (λ p. term_on p.1) (compared_with (level n))
  compared_law = signed_lawful rel_word relation relation_is relation_only (term_text n) term_on (term_at n) (term_law n) (rel.Equal, some_term)

  abbrev pub right_words : Option (Rel × TermAt n) → List Word → List Word
  right_words = maybe_words (signed_words rel_word (term_text n))

  abbrev pub right_on : Option (Rel × TermAt n) → Word → Bool
  right_on = maybe_goes_on is_relation (λ p. term_on p.1)

  pub right_law : Weak right_words right_on (maybe_with is_relation (compared_with (level n)))
  right_law = maybe_weak (signed_words rel_word (term_text n)) (λ p. term_on p.1) (compared_with (level n)) compared_law is_relation (λ p rest. ap is_some (relation_is p.0))

  none_right : (o : Option (Rel × TermAt n)) (rest : List Word) → is_none o ≡ true → right_words o rest ≡ rest
  none_right None rest h = refl
  none_right (Some p) rest h = absurd cc

  right_apart : (t : TermAt n) (o : Option (Rel × TermAt n)) (rest : List Word) → is_none o ≡ false → Ends (term_on t) (right_words o rest)
  right_apart t None rest h = absurd cc
  right_apart t (Some p) rest h = term_closes t (rel_word p.0) (rel_closing p.0)

  abbrev pub sides_words : TermAt n × Option (Rel × TermAt n) → List Word → List Word
  sides_words = pair_words (term_text n) right_words

  abbrev pub sides_on : TermAt n × Option (Rel × TermAt n) → Word → Bool
  sides_on = pair_goes_on term_on right_on is_none

  pub sides_law : Lawful sides_words sides_on (sides_with (level n))
  sides_law =
      pair_lawful (term_text n) term_on (term_at n) (weak_of (term_text n) term_on (term_at n) (term_law n)) right_words right_on (maybe_with is_relation (compared_with (level n))) right_law is_none None none_right right_apart
      (term_law n).some

  -- ---- an atom, or a comparison
  abbrev pub atom_term : AtomAt n → TermAt n
  atom_term a = alone (record { first = record { first = atom a; rest = [] }; rest = [] })

  abbrev row_of : {I S : Type 0} → I → List (S × I) → Row I S
  row_of x rest = record { first = x; rest = rest }

  row_atom_is : {I S : Type 0} (o : Option (AtomAt n)) (x : I) (rest : List (S × I)) (a : AtomAt n) → row_atom o rest ≡ Some a → (o ≡ Some a) × (row_of x rest ≡ row_of x [])
  row_atom_is o x [] a h = (h, refl)
  row_atom_is o x (p ∷ rest) a h = absurd cc

  pub term_atom_is : (t : TermAt n) (a : AtomAt n) → term_atom t ≡ Some a → t ≡ atom_term a
  term_atom_is (interval l r) a h = absurd cc
  term_atom_is (alone s) a h =
      let p = row_atom_is (row_atom (unary_atom s.first.first) s.first.rest) s.first s.rest a h in
      let q = row_atom_is (unary_atom s.first.first) s.first.first s.first.rest a p.0 in
      ap alone p.1 ∙ ap (λ z. alone (record { first = z; rest = [] })) q.1 ∙ ap (λ z. alone (record { first = record { first = z; rest = [] }; rest = [] })) (atom_is_unary s.first.first a q.0)

  abbrev pub sides_of : PlainOf (Operand n) (Room n) → TermAt n × Option (Rel × TermAt n)
  sides_of (one a) = (atom_term a, None)
  sides_of (other s) = (s.0, Some s.1)

  kept_is : (b : PlainOf (Operand n) (Room n)) → compared (sides_of b) ≡ Some b
  kept_is (one a) = refl
  kept_is (other s) = refl

  kept_only : (a : TermAt n × Option (Rel × TermAt n)) (b : PlainOf (Operand n) (Room n)) → compared a ≡ Some b → a ≡ sides_of b
  kept_only a b h = by a.0 a.1 (term_atom a.0) refl h
    where
      by : (t : TermAt n) (o : Option (Rel × TermAt n)) (found : Option (AtomAt n)) → term_atom t ≡ found → compared_by t found o ≡ Some b → (t, o) ≡ sides_of b
      by t (Some r) found q h = let e : other (t, r) ≡ b = cc in ap sides_of e
      by t None (Some c) q h = let e : one c ≡ b = cc in ap (λ z. (z, None)) (term_atom_is t c q) ∙ ap sides_of e
      by t None None q h = absurd cc

  grows : (a : TermAt n × Option (Rel × TermAt n)) → (b : PlainOf (Operand n) (Room n)) × (more : List Word) × (sides_words (sides_of b) [] ≡ sides_words a [] ++ more)
  grows a = by a.0 a.1
    where
      by : (t : TermAt n) (o : Option (Rel × TermAt n)) → (b : PlainOf (Operand n) (Room n)) × (more : List Word) × (sides_words (sides_of b) [] ≡ sides_words (t, o) [] ++ more)
      by t (Some r) = (other (t, r), [], sym (append-nil (sides_words (t, Some r) [])))
      by t None = (other (t, (rel.Equal, t)), word.mark m.Equal ∷ term_text n t [], (term_law n).parted t [] (word.mark m.Equal ∷ term_text n t []))

  pub plain_law : Lawful (λ b. sides_words (sides_of b)) (λ b. sides_on (sides_of b)) (plain_with (level n))
  plain_law = kept_lawful sides_words sides_on (sides_with (level n)) sides_law compared sides_of kept_is kept_only grows

  -- ---- conditions
  pub denied_law : Lawful (signed_words negation_word atom_text) (λ p. atom_goes_on p.1) (denied_with (level n))
  denied_law = signed_lawful negation_word negation negation_is negation_only atom_text atom_goes_on atom_read atom_law (tt, plain [])

  abbrev kinds_words : Either (Unit {0} × AtomAt n) (PlainOf (Operand n) (Room n)) → List Word → List Word
  kinds_words = either_words (signed_words negation_word atom_text) (λ b. sides_words (sides_of b))

  abbrev kinds_on : Either (Unit {0} × AtomAt n) (PlainOf (Operand n) (Room n)) → Word → Bool
  kinds_on = either_goes_on (λ p. atom_goes_on p.1) (λ b. sides_on (sides_of b))

  pub sides_begin : (s : TermAt n × Option (Rel × TermAt n)) (rest : List Word) → starts_next begins_term (sides_words s rest) ≡ true
  sides_begin s rest = term_begins s.0 (right_words s.1 rest)

  pub not_denied : (b : PlainOf (Operand n) (Room n)) (rest : List Word) → starts_next is_negation (sides_words (sides_of b) rest) ≡ false
  not_denied b rest = next_as begins_term is_negation term_not_negation (sides_words (sides_of b) rest) (sides_begin (sides_of b) rest)

  abbrev pub parts_of : ConditionOf (Operand n) (Room n) → Either (Unit {0} × AtomAt n) (PlainOf (Operand n) (Room n))
  parts_of (holds false a) = one (tt, a)
  parts_of (holds true a) = other (one a)
  parts_of (compares l r u) = other (other (l, (r, u)))

  of_parts : (c : ConditionOf (Operand n) (Room n)) → condition_of (parts_of c) ≡ c
  of_parts (holds false a) = refl
  of_parts (holds true a) = refl
  of_parts (compares l r u) = refl

  parts_are : (p : Either (Unit {0} × AtomAt n) (PlainOf (Operand n) (Room n))) → parts_of (condition_of p) ≡ p
  parts_are (one a) = refl
  parts_are (other (one a)) = refl
  parts_are (other (other s)) = refl

  abbrev pub condition_on : ConditionOf (Operand n) (Room n) → Word → Bool
  condition_on (holds false a) next = atom_goes_on a next
  condition_on (holds true a) next = sides_on (atom_term a, None) next
  condition_on (compares l r u) next = sides_on (l, Some (r, u)) next

  pub condition_law : Lawful (condition_words (operand_words n)) condition_on (condition_with (level n))
  condition_law =
      lawful_as _ (condition_words (operand_words n)) _ condition_on (condition_with (level n)) same ends
      (mapped_lawful _ _ _ (either_lawful (signed_words negation_word atom_text) (λ p. atom_goes_on p.1) (denied_with (level n)) denied_law (λ b. sides_words (sides_of b)) (λ b. sides_on (sides_of b)) (plain_with (level n)) plain_law is_negation
      (λ a rest. refl) not_denied) condition_of parts_of of_parts parts_are)
    where
      same : (c : ConditionOf (Operand n) (Room n)) (rest : List Word) → kinds_words (parts_of c) rest ≡ condition_words (operand_words n) c rest
      same (holds false a) rest = refl
      same (holds true a) rest = refl
      same (compares l r u) rest = refl

      ends : (c : ConditionOf (Operand n) (Room n)) (w : Word) → kinds_on (parts_of c) w ≡ condition_on c w
      ends (holds false a) w = refl
      ends (holds true a) w = refl
      ends (compares l r u) w = refl

  -- a word with which neither a term nor a comparison goes on
  pub condition_closes : (c : ConditionOf (Operand n) (Room n)) (w : Word) → Closing w → relation w ≡ None → condition_on c w ≡ false
  condition_closes (holds false (plain name)) w c h = c.opens
  condition_closes (holds false (applied name args)) w c h = refl
  condition_closes (holds true a) w c h = or_false (is_relation w) (term_on (atom_term a) w) (ap is_some h) (term_closes (atom_term a) w c)
  condition_closes (compares l r u) w c h = or_false (term_on u w) false (term_closes u w c) refl

  pub condition_begins : (c : ConditionOf (Operand n) (Room n)) (rest : List Word) → starts_next begins (condition_words (operand_words n) c rest) ≡ true
  condition_begins (holds false a) rest = refl
  condition_begins (holds true (plain name)) rest = refl
  condition_begins (holds true (applied name args)) rest = refl
  condition_begins (compares l r u) rest = next_more begins_term is_negation (term_text n l (rel_word r ∷ term_text n u rest)) (term_begins l (rel_word r ∷ term_text n u rest))

  pub conditions_law : Lawful (row_words (condition_words (operand_words n)) comma_word) (λ row w. condition_on (last_item row.first row.rest) w || is_some (comma w)) (conditions_with (level n))
  conditions_law =
      row_lawful (condition_words (operand_words n)) condition_on (condition_with (level n)) condition_law comma_word comma comma_is comma_only
      (λ c s. condition_closes c (word.mark m.Comma) (record { opens = refl; multiply = refl; add = refl; dots = refl }) refl)
