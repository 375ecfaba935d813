-- A form that may be missing, and one form behind another: lawful where both are and the second begins with no word that goes on with the first.
use Rattle.std.proofs.Common.{◌≡◌, ◌<◌, ◌≤◌, Bool, true, false, ◌||◌, ◌&&◌, ◌⊎◌, inl, inr, if◌then◌else◌, List, [], ◌∷◌, ◌++◌, length, Option, Some, None, Ok, Err, refl, sym, ◌∙◌, ap, subst, append_assoc, arith}
use Rattle.grammar.specs.Word.{Word, Ends}
use Rattle.grammar.specs.Parts.{maybe_words, pair_words, maybe_goes_on}
use Rattle.grammar.specs.Reading.{Fault, Reader, and_then, pair_with, starts_next, maybe_with}
use Rattle.grammar.proofs.Lawful.{Refuses, Stuck, Lawful, ok_pair, ok_parts, bind_ok, bind_err, bind_by, ends_head, or_left, or_right, or_false, stuck_inside}
use Rattle.grammar.proofs.Deeper.{Deeper, Shrinks, then_shrinks, then_deeper, if_deeper, if_within}

-- as `Lawful`, where a form may have no words
pub record Weak {A : Type 0} (words : A → List Word → List Word) (goes_on : A → Word → Bool) (read : Reader A) : Type 0 where
  pub parted : (a : A) (x y : List Word) → words a (x ++ y) ≡ words a x ++ y
  pub longer : (a : A) (rest : List Word) → length rest ≤ length (words a rest)
  pub sound : (ts : List Word) (a : A) (rest : List Word) → read ts ≡ Ok (a, rest) → (ts ≡ words a rest) × Ends (goes_on a) rest
  pub complete : (a : A) (rest : List Word) → Ends (goes_on a) rest → read (words a rest) ≡ Ok (a, rest)
  pub stuck : (ts : List Word) (f : Fault) → read ts ≡ Err f → Stuck words (Refuses read) ts f

pub weak_of : {A : Type 0} (words : A → List Word → List Word) (goes_on : A → Word → Bool) (read : Reader A) → Lawful words goes_on read → Weak words goes_on read
weak_of words goes_on read law = record {
  parted = law.parted;
  longer = λ a rest. omega (arith, law.some a rest);
  sound = law.sound;
  complete = law.complete;
  stuck = law.stuck;
}

-- ---- a form that may be missing
module _ {A : Type 0} (words : A → List Word → List Word) (goes_on : A → Word → Bool) (read : Reader A) (law : Lawful words goes_on read) (starts : Word → Bool)
    (begins : (a : A) (rest : List Word) → starts_next starts (words a rest) ≡ true) where
  abbrev Words : Option A → List Word → List Word
  Words = maybe_words words

  abbrev GoesOn : Option A → Word → Bool
  GoesOn = maybe_goes_on starts goes_on

  abbrev maybe : Reader (Option A)
  maybe = maybe_with starts read

  none_next : (rest : List Word) → Ends starts rest → starts_next starts rest ≡ false
  none_next [] h = refl
  none_next (w ∷ rest) h = h

  none_ends : (rest : List Word) → starts_next starts rest ≡ false → Ends starts rest
  none_ends [] h = tt
  none_ends (w ∷ rest) h = h

  starts_head : (front : List Word) (x : Word) (r next : List Word) → starts_next starts (front ++ x ∷ r) ≡ starts_next starts (front ++ x ∷ next)
  starts_head [] x r next = refl
  starts_head (w ∷ front) x r next = refl

  maybe_none : (ts : List Word) → starts_next starts ts ≡ false → maybe ts ≡ Ok (None, ts)
  maybe_none ts h = rw h refl

  maybe_some : (ts : List Word) → starts_next starts ts ≡ true → maybe ts ≡ and_then (read ts) (λ a rest. Ok (Some a, rest))
  maybe_some ts h = rw h refl

  maybe_complete : (o : Option A) (rest : List Word) → Ends (GoesOn o) rest → maybe (Words o rest) ≡ Ok (o, rest)
  maybe_complete None rest h = maybe_none rest (none_next rest h)
  maybe_complete (Some a) rest h = maybe_some (words a rest) (begins a rest) ∙ bind_by (read (words a rest)) _ a rest (law.complete a rest h)

  abbrev IsMaybe : List Word → Option A → List Word → Type 0
  IsMaybe ts o rest = (ts ≡ Words o rest) × Ends (GoesOn o) rest

  maybe_sound : (ts : List Word) (o : Option A) (rest : List Word) → maybe ts ≡ Ok (o, rest) → IsMaybe ts o rest
  maybe_sound ts o rest h = by (starts_next starts ts) refl h
    where
      by : (b : Bool) → starts_next starts ts ≡ b → (if b then and_then (read ts) (λ a after. ok_pair (Some a) after) else Ok (None, ts)) ≡ Ok (o, rest) → IsMaybe ts o rest
      by true q h =
          let b = bind_ok (read ts) _ (o, rest) h in
          let p = ok_parts (Some b.0) o b.1 rest b.3 in
          let s = law.sound ts b.0 b.1 b.2 in
          subst (λ z. IsMaybe ts z rest) p.0 (s.0 ∙ ap (words b.0) p.1, subst (Ends (goes_on b.0)) p.1 s.1)
      by false q h =
          let p = ok_parts {A = Option A} None o ts rest h in
          subst (λ z. IsMaybe ts z rest) p.0 (p.1, subst (Ends starts) p.1 (none_ends ts q))

  maybe_stuck : (ts : List Word) (f : Fault) → maybe ts ≡ Err f → Stuck Words (Refuses maybe) ts f
  maybe_stuck ts f h = by (starts_next starts ts) refl h
    where
      by : (b : Bool) → starts_next starts ts ≡ b → (if b then and_then (read ts) (λ a after. ok_pair (Some a) after) else Ok (None, ts)) ≡ Err f → Stuck Words (Refuses maybe) ts f
      by false q h = absurd cc
      by true q h = two (bind_err (read ts) _ f h)
        where
          two : (read ts ≡ Err f) ⊎ ((a : A) × (after : List Word) × (read ts ≡ Ok (a, after)) × (ok_pair (Some a) after ≡ Err f)) → Stuck Words (Refuses maybe) ts f
          two (inr c) = let g = c.3 in absurd cc
          two (inl g) =
              stuck_inside words Words (Refuses read) (Refuses maybe) [] Some [] ts f (λ a. refl) law.parted
              (λ front x r next e bad y k.
              let there = sym (starts_head front x r next) ∙ ap (starts_next starts) (sym e) ∙ q in
              let b = bind_ok (read (front ++ x ∷ next)) _ y (sym (maybe_some (front ++ x ∷ next) there) ∙ k) in
              bad (b.0, b.1) b.2)
              (law.stuck ts f g)

  pub maybe_weak : Weak Words GoesOn maybe
  maybe_weak = record {
    parted = λ o x y. elim o as (λ o. Words o (x ++ y) ≡ Words o x ++ y) [ None ↦ refl | Some a ↦ law.parted a x y ];
    longer = λ o rest. elim o as (λ o. length rest ≤ length (Words o rest)) [ None ↦ omega arith | Some a ↦ omega (arith, law.some a rest) ];
    sound = maybe_sound;
    complete = maybe_complete;
    stuck = maybe_stuck;
  }

-- ---- a form and one behind it
-- a word goes on with the second form, or with the first where the second has no words
abbrev pub pair_goes_on : {A B : Type 0} → (A → Word → Bool) → (B → Word → Bool) → (B → Bool) → A × B → Word → Bool
pair_goes_on a_goes_on b_goes_on empty p next = b_goes_on p.1 next || (empty p.1 && a_goes_on p.0 next)

module _ {A B : Type 0} (a_words : A → List Word → List Word) (a_goes_on : A → Word → Bool) (a_read : Reader A) (a_law : Weak a_words a_goes_on a_read)
    (b_words : B → List Word → List Word) (b_goes_on : B → Word → Bool) (b_read : Reader B) (b_law : Weak b_words b_goes_on b_read) (empty : B → Bool)
    (some_b : B)
    (no_words : (b : B) (rest : List Word) → empty b ≡ true → b_words b rest ≡ rest)
    (apart : (a : A) (b : B) (rest : List Word) → empty b ≡ false → Ends (a_goes_on a) (b_words b rest)) where
  abbrev Whole : A × B → List Word → List Word
  Whole = pair_words a_words b_words

  abbrev Goes : A × B → Word → Bool
  Goes = pair_goes_on a_goes_on b_goes_on empty

  abbrev pair : Reader (A × B)
  pair = pair_with a_read b_read

  ends_parts : (a : A) (b : B) (rest : List Word) → Ends (Goes (a, b)) rest → Ends (b_goes_on b) rest × Ends (a_goes_on a) (b_words b rest)
  ends_parts a b rest h = (first rest h, by (empty b) refl rest h)
    where
      first : (rest : List Word) → Ends (Goes (a, b)) rest → Ends (b_goes_on b) rest
      first [] h = tt
      first (w ∷ rest) h = or_left (b_goes_on b w) (empty b && a_goes_on a w) h

      alone_ends : (rest : List Word) → empty b ≡ true → Ends (Goes (a, b)) rest → Ends (a_goes_on a) rest
      alone_ends [] e h = tt
      alone_ends (w ∷ rest) e h = sym (ap (λ t. t && a_goes_on a w) e) ∙ or_right (b_goes_on b w) (empty b && a_goes_on a w) h

      by : (e : Bool) → empty b ≡ e → (rest : List Word) → Ends (Goes (a, b)) rest → Ends (a_goes_on a) (b_words b rest)
      by true e rest h = subst (Ends (a_goes_on a)) (sym (no_words b rest e)) (alone_ends rest e h)
      by false e rest h = apart a b rest e

  ends_whole : (a : A) (b : B) (rest : List Word) → Ends (b_goes_on b) rest → Ends (a_goes_on a) (b_words b rest) → Ends (Goes (a, b)) rest
  ends_whole a b rest h g = by (empty b) refl rest h g
    where
      join : (e : Bool) → empty b ≡ e → (w : Word) → b_goes_on b w ≡ false → (e && a_goes_on a w) ≡ false → Goes (a, b) w ≡ false
      join e q w h g = or_false (b_goes_on b w) (empty b && a_goes_on a w) h (ap (λ t. t && a_goes_on a w) q ∙ g)

      alone_ends : empty b ≡ true → (rest : List Word) → Ends (b_goes_on b) rest → Ends (a_goes_on a) rest → Ends (Goes (a, b)) rest
      alone_ends e [] h g = tt
      alone_ends e (w ∷ rest) h g = join true e w h g

      more_ends : empty b ≡ false → (rest : List Word) → Ends (b_goes_on b) rest → Ends (Goes (a, b)) rest
      more_ends e [] h = tt
      more_ends e (w ∷ rest) h = join false e w h refl

      by : (e : Bool) → empty b ≡ e → (rest : List Word) → Ends (b_goes_on b) rest → Ends (a_goes_on a) (b_words b rest) → Ends (Goes (a, b)) rest
      by true e rest h g = alone_ends e rest h (subst (Ends (a_goes_on a)) (no_words b rest e) g)
      by false e rest h g = more_ends e rest h

  pair_by : (ts : List Word) (a : A) (rest : List Word) → a_read ts ≡ Ok (a, rest) → pair ts ≡ and_then (b_read rest) (λ b after. Ok ((a, b), after))
  pair_by ts a rest h = bind_by (a_read ts) _ a rest h

  pair_complete : (p : A × B) (rest : List Word) → Ends (Goes p) rest → pair (Whole p rest) ≡ Ok (p, rest)
  pair_complete p rest h =
      let e = ends_parts p.0 p.1 rest h in
      pair_by (Whole p rest) p.0 (b_words p.1 rest) (a_law.complete p.0 (b_words p.1 rest) e.1) ∙ bind_by (b_read (b_words p.1 rest)) _ p.1 rest (b_law.complete p.1 rest e.0)

  pair_sound : (ts : List Word) (p : A × B) (rest : List Word) → pair ts ≡ Ok (p, rest) → (ts ≡ Whole p rest) × Ends (Goes p) rest
  pair_sound ts p rest h =
      let b = bind_ok (a_read ts) _ (p, rest) h in
      let c = bind_ok (b_read b.1) _ (p, rest) b.3 in
      let q = ok_parts (b.0, c.0) p c.1 rest c.3 in
      let s = a_law.sound ts b.0 b.1 b.2 in
      let t = b_law.sound b.1 c.0 c.1 c.2 in
      let ends : Ends (Goes (b.0, c.0)) rest = subst (Ends (Goes (b.0, c.0))) q.1 (ends_whole b.0 c.0 c.1 t.1 (subst (Ends (a_goes_on b.0)) t.0 s.1)) in
      subst (λ z. (ts ≡ Whole z rest) × Ends (Goes z) rest) q.0 (s.0 ∙ ap (a_words b.0) (t.0 ∙ ap (b_words c.0) q.1), ends)

  pair_stuck : (ts : List Word) (f : Fault) → pair ts ≡ Err f → Stuck Whole (Refuses pair) ts f
  pair_stuck ts f h = two (bind_err (a_read ts) _ f h)
    where
      three : (a : A) (rest : List Word) → (ts ≡ a_words a rest) × Ends (a_goes_on a) rest → (b_read rest ≡ Err f) ⊎ ((b : B) × (after : List Word) × (b_read rest ≡ Ok (b, after)) × (ok_pair {A = A × B} (a, b) after ≡ Err f)) → Stuck Whole (Refuses pair) ts f
      three a rest s (inr c) = let g = c.3 in absurd cc
      three a rest s (inl g) =
          let t = b_law.stuck rest f g in
          record {
            front = a_words a t.front;
            after = t.after;
            split = s.0 ∙ ap (a_words a) t.split ∙ a_law.parted a t.front t.after;
            place = t.place;
            goes = (a, t.goes);
            more = t.more;
            begins = ap (a_words a) t.begins ∙ a_law.parted a t.front t.more;
            local = λ x r next e y k.
                let ends = ends_head (a_goes_on a) t.front x r next (subst (Ends (a_goes_on a)) (t.split ∙ ap (λ z. t.front ++ z) e) s.1) in
                let same : a_words a t.front ++ x ∷ next ≡ a_words a (t.front ++ x ∷ next) = sym (a_law.parted a t.front (x ∷ next)) in
                let read = pair_by (a_words a (t.front ++ x ∷ next)) a (t.front ++ x ∷ next) (a_law.complete a (t.front ++ x ∷ next) ends) in
                let c = bind_ok (b_read (t.front ++ x ∷ next)) _ y (sym read ∙ ap pair (sym same) ∙ k) in
                t.local x r next e (c.0, c.1) c.2;
          }

      two : (a_read ts ≡ Err f) ⊎ ((a : A) × (rest : List Word) × (a_read ts ≡ Ok (a, rest)) × (and_then (b_read rest) (λ b after. ok_pair {A = A × B} (a, b) after) ≡ Err f)) → Stuck Whole (Refuses pair) ts f
      two (inr c) = three c.0 c.1 (a_law.sound ts c.0 c.1 c.2) (bind_err (b_read c.1) _ f c.3)
      two (inl g) =
          let t = a_law.stuck ts f g in
          record {
            front = t.front;
            after = t.after;
            split = t.split;
            place = t.place;
            goes = (t.goes, some_b);
            more = t.more ++ b_words some_b [];
            begins = a_law.parted t.goes [] (b_words some_b []) ∙ ap (λ z. z ++ b_words some_b []) t.begins ∙ append_assoc t.front t.more (b_words some_b []);
            local = λ x r next e y k. let c = bind_ok (a_read (t.front ++ x ∷ next)) _ y k in t.local x r next e (c.0, c.1) c.2;
          }

  pub pair_weak : Weak Whole Goes pair
  pair_weak = record {
    parted = λ p x y. ap (a_words p.0) (b_law.parted p.1 x y) ∙ a_law.parted p.0 (b_words p.1 x) y;
    longer = λ p rest. omega (arith, a_law.longer p.0 (b_words p.1 rest), b_law.longer p.1 rest);
    sound = pair_sound;
    complete = pair_complete;
    stuck = pair_stuck;
  }

  pub pair_lawful : ((a : A) (rest : List Word) → length rest < length (a_words a rest)) → Lawful Whole Goes pair
  pair_lawful some = record {
    parted = pair_weak.parted;
    some = λ p rest. omega (arith, some p.0 (b_words p.1 rest), b_law.longer p.1 rest);
    sound = pair_sound;
    complete = pair_complete;
    stuck = pair_stuck;
  }

-- ---- deeper
pub pair_deeper : {A A2 B B2 : Type 0} (a : Reader A) (a2 : Reader A2) (b : Reader B) (b2 : Reader B2) → Deeper a a2 → Deeper b b2 → Shrinks b2 → Deeper (pair_with a b) (pair_with a2 b2)
pair_deeper a a2 b b2 da db sb ts =
    then_deeper (a ts) (a2 ts) _ _ (da ts)
    (λ x x2 rest. then_deeper (b rest) (b2 rest) _ _ (db rest) (λ y y2 after. ((x2, y2), refl)) (λ y2 after. omega arith))
    (λ x2 rest. then_shrinks (length rest) (b2 rest) _ (sb rest) (λ y2 after. omega arith))

pub pair_shrinks : {A B : Type 0} (a : Reader A) (b : Reader B) → Shrinks a → Shrinks b → Shrinks (pair_with a b)
pair_shrinks a b sa sb ts = then_shrinks (length ts) (a ts) _ (sa ts) (λ x rest. then_shrinks (length rest) (b rest) _ (sb rest) (λ y after. omega arith))

pub maybe_deeper : {A A2 : Type 0} (starts : Word → Bool) (a : Reader A) (a2 : Reader A2) → Deeper a a2 → Deeper (maybe_with starts a) (maybe_with starts a2)
maybe_deeper starts a a2 d ts = if_deeper (starts_next starts ts) _ _ _ _ (then_deeper (a ts) (a2 ts) _ _ (d ts) (λ x x2 rest. (Some x2, refl)) (λ x2 rest. omega arith)) (None, refl)

pub maybe_shrinks : {A : Type 0} (starts : Word → Bool) (a : Reader A) → Shrinks a → Shrinks (maybe_with starts a)
maybe_shrinks starts a s ts = if_within (length ts) (starts_next starts ts) _ _ (then_shrinks (length ts) (a ts) _ (s ts) (λ x rest. omega arith)) (omega arith)
