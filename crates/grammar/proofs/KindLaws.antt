-- Forms behind signs, forms of one of two kinds, and those of a kind that are forms of another.
use Rattle.std.proofs.Common.{◌≡◌, ℕ, ◌<◌, ◌≤◌, Bool, true, false, ◌⊎◌, inl, inr, if◌then◌else◌, List, [], ◌∷◌, ◌++◌, length, drop, Option, Some, None, Ok, Err, refl, sym, ◌∙◌, ap, subst, append_assoc, arith}
use Rattle.std.specs.Option.{is_some}
use Rattle.grammar.specs.Word.{Word, Ends}
use Rattle.grammar.specs.Parts.{signed_words}
use Rattle.grammar.specs.Reading.{Fault, Expected, TooDeep, Outcome, Reader, and_then, expected, sign_at, starts_next, signed_with, Either, one, other, either_with, kept_by, kept_with}
use Rattle.grammar.proofs.Lawful.{Refuses, Stuck, Lawful, ok_pair, ok_parts, bind_ok, bind_err, bind_by, expected_left, stuck_inside, next_is}
use Rattle.grammar.proofs.Deeper.{Deeper, Shrinks, After, Within, Past, within_less, within_past, drop_shorter, then_shrinks, then_deeper, if_deeper, if_within}
use Rattle.grammar.proofs.Pairs.{Weak}

-- ---- a form behind a sign
module _ {S A : Type 0} (sign_word : S → Word) (sign : Word → Option S) (sign_is : (s : S) → sign (sign_word s) ≡ Some s) (sign_only : (w : Word) (s : S) → sign w ≡ Some s → w ≡ sign_word s)
    (words : A → List Word → List Word) (goes_on : A → Word → Bool) (read : Reader A) (law : Lawful words goes_on read) (some_form : S × A) where
  abbrev Words : S × A → List Word → List Word
  Words = signed_words sign_word words

  abbrev pub signed_goes_on : S × A → Word → Bool
  signed_goes_on p next = goes_on p.1 next

  abbrev signed : Reader (S × A)
  signed = signed_with sign read

  abbrev by_sign : List Word → Option S → Outcome (S × A)
  by_sign ts found = elim found [ Some s ↦ and_then (read (drop 1 ts)) (λ a rest. Ok ((s, a), rest)) | None ↦ expected ts ]

  signed_is : (s : S) (ts : List Word) → signed (sign_word s ∷ ts) ≡ and_then (read ts) (λ a rest. Ok ((s, a), rest))
  signed_is s ts = ap (by_sign (sign_word s ∷ ts)) (sign_is s)

  there : (ts : List Word) (s : S) → sign_at sign ts ≡ Some s → ts ≡ sign_word s ∷ drop 1 ts
  there [] s h = absurd cc
  there (w ∷ ts) s h = ap (λ v. v ∷ ts) (sign_only w s h)

  signed_sound : (ts : List Word) (p : S × A) (rest : List Word) → signed ts ≡ Ok (p, rest) → (ts ≡ Words p rest) × Ends (signed_goes_on p) rest
  signed_sound ts p rest h = by (sign_at sign ts) refl h
    where
      by : (o : Option S) → sign_at sign ts ≡ o → by_sign ts o ≡ Ok (p, rest) → (ts ≡ Words p rest) × Ends (signed_goes_on p) rest
      by None q h = absurd cc
      by (Some s) q h =
          let b = bind_ok (read (drop 1 ts)) _ (p, rest) h in
          let e = ok_parts (s, b.0) p b.1 rest b.3 in
          let i = law.sound (drop 1 ts) b.0 b.1 b.2 in
          subst (λ z. (ts ≡ Words z rest) × Ends (signed_goes_on z) rest) e.0 (there ts s q ∙ ap (λ z. sign_word s ∷ z) (i.0 ∙ ap (words b.0) e.1), subst (Ends (goes_on b.0)) e.1 i.1)

  no_sign : (ts : List Word) → sign_at sign ts ≡ None → Refuses signed ts
  no_sign ts q y h = by (sign_at sign ts) q h
    where
      by : (o : Option S) → o ≡ None → by_sign ts o ≡ Ok y → ⊥
      by None q h = absurd cc
      by (Some s) q h = absurd cc

  signed_stuck : (ts : List Word) (f : Fault) → signed ts ≡ Err f → Stuck Words (Refuses signed) ts f
  signed_stuck ts f h = by (sign_at sign ts) refl h
    where
      head_sign : (x : Word) (r next : List Word) → ts ≡ x ∷ r → sign_at sign ts ≡ None → sign_at sign (x ∷ next) ≡ None
      head_sign x r next e q = subst (λ z. sign_at sign z ≡ None) e q

      by : (o : Option S) → sign_at sign ts ≡ o → by_sign ts o ≡ Err f → Stuck Words (Refuses signed) ts f
      by None q h = record {
        front = [];
        after = ts;
        split = refl;
        place = expected_left {A = S × A} ts f h;
        goes = some_form;
        more = Words some_form [];
        begins = refl;
        local = λ x r next e. no_sign (x ∷ next) (head_sign x r next e q);
      }
      by (Some s) q h = two (bind_err (read (drop 1 ts)) _ f h)
        where
          two : (read (drop 1 ts) ≡ Err f) ⊎ ((a : A) × (after : List Word) × (read (drop 1 ts) ≡ Ok (a, after)) × (ok_pair {A = S × A} (s, a) after ≡ Err f)) → Stuck Words (Refuses signed) ts f
          two (inr c) = let g = c.3 in absurd cc
          two (inl g) =
              subst (λ z. Stuck Words (Refuses signed) z f) (sym (there ts s q))
              (stuck_inside words Words (Refuses read) (Refuses signed) (sign_word s ∷ []) (λ a. (s, a)) [] (drop 1 ts) f (λ a. refl) law.parted
              (λ front x r next e bad y k. let b = bind_ok (read (front ++ x ∷ next)) _ y (sym (signed_is s (front ++ x ∷ next)) ∙ k) in bad (b.0, b.1) b.2)
              (law.stuck (drop 1 ts) f g))

  pub signed_lawful : Lawful Words signed_goes_on signed
  signed_lawful = record {
    parted = λ p x y. ap (λ z. sign_word p.0 ∷ z) (law.parted p.1 x y);
    some = λ p rest. omega (arith, law.some p.1 rest);
    sound = signed_sound;
    complete = λ p rest h. signed_is p.0 (words p.1 rest) ∙ bind_by (read (words p.1 rest)) _ p.1 rest (law.complete p.1 rest h);
    stuck = signed_stuck;
  }

pub signed_deeper : {S A A2 : Type 0} (sign : Word → Option S) (a : Reader A) (a2 : Reader A2) → Deeper a a2 → Deeper (signed_with sign a) (signed_with sign a2)
signed_deeper {S} {A} {A2} sign a a2 d ts = by (sign_at sign ts)
  where
    by : (o : Option S) → After (elim o [ Some s ↦ and_then (a (drop 1 ts)) (λ x rest. Ok ((s, x), rest)) | None ↦ expected {A = S × A} ts ]) (elim o [ Some s ↦ and_then (a2 (drop 1 ts)) (λ x rest. Ok ((s, x), rest)) | None ↦ expected {A = S × A2} ts ])
    by None = refl
    by (Some s) = then_deeper (a (drop 1 ts)) (a2 (drop 1 ts)) _ _ (d (drop 1 ts)) (λ x x2 rest. ((s, x2), refl)) (λ x2 rest. omega arith)

pub signed_shrinks : {S A : Type 0} (sign : Word → Option S) (a : Reader A) → Shrinks a → Shrinks (signed_with sign a)
signed_shrinks {S} {A} sign a shrinks ts = by (sign_at sign ts)
  where
    by : (o : Option S) → Within (length ts) (elim o [ Some s ↦ and_then (a (drop 1 ts)) (λ x rest. Ok ((s, x), rest)) | None ↦ expected {A = S × A} ts ])
    by None = omega arith
    by (Some s) = within_less (length (drop 1 ts)) (length ts) _ (then_shrinks (length (drop 1 ts)) (a (drop 1 ts)) _ (shrinks (drop 1 ts)) (λ x rest. omega arith)) (drop_shorter ts)

-- ---- a form of one of two kinds
abbrev pub either_words : {A B : Type 0} → (A → List Word → List Word) → (B → List Word → List Word) → Either A B → List Word → List Word
either_words a_words b_words (one a) rest = a_words a rest
either_words a_words b_words (other b) rest = b_words b rest

abbrev pub either_goes_on : {A B : Type 0} → (A → Word → Bool) → (B → Word → Bool) → Either A B → Word → Bool
either_goes_on a_goes_on b_goes_on (one a) next = a_goes_on a next
either_goes_on a_goes_on b_goes_on (other b) next = b_goes_on b next

module _ {A B : Type 0} (a_words : A → List Word → List Word) (a_goes_on : A → Word → Bool) (a_read : Reader A) (a_law : Lawful a_words a_goes_on a_read)
    (b_words : B → List Word → List Word) (b_goes_on : B → Word → Bool) (b_read : Reader B) (b_law : Lawful b_words b_goes_on b_read) (starts : Word → Bool)
    (a_starts : (a : A) (rest : List Word) → starts_next starts (a_words a rest) ≡ true) (b_starts : (b : B) (rest : List Word) → starts_next starts (b_words b rest) ≡ false) where
  abbrev Whole : Either A B → List Word → List Word
  Whole = either_words a_words b_words

  abbrev Goes : Either A B → Word → Bool
  Goes = either_goes_on a_goes_on b_goes_on

  abbrev either : Reader (Either A B)
  either = either_with starts a_read b_read

  either_one : (ts : List Word) → starts_next starts ts ≡ true → either ts ≡ and_then (a_read ts) (λ a rest. Ok (one a, rest))
  either_one ts h = rw h refl

  either_other : (ts : List Word) → starts_next starts ts ≡ false → either ts ≡ and_then (b_read ts) (λ b rest. Ok (other b, rest))
  either_other ts h = rw h refl

  either_complete : (e : Either A B) (rest : List Word) → Ends (Goes e) rest → either (Whole e rest) ≡ Ok (e, rest)
  either_complete (one a) rest h = either_one (a_words a rest) (a_starts a rest) ∙ bind_by (a_read (a_words a rest)) _ a rest (a_law.complete a rest h)
  either_complete (other b) rest h = either_other (b_words b rest) (b_starts b rest) ∙ bind_by (b_read (b_words b rest)) _ b rest (b_law.complete b rest h)

  abbrev Is : List Word → Either A B → List Word → Type 0
  Is ts e rest = (ts ≡ Whole e rest) × Ends (Goes e) rest

  either_sound : (ts : List Word) (e : Either A B) (rest : List Word) → either ts ≡ Ok (e, rest) → Is ts e rest
  either_sound ts e rest h = by (starts_next starts ts) refl h
    where
      by : (t : Bool) → starts_next starts ts ≡ t → (if t then and_then (a_read ts) (λ a rest. ok_pair (one a) rest) else and_then (b_read ts) (λ b rest. ok_pair (other b) rest)) ≡ Ok (e, rest) → Is ts e rest
      by true q h =
          let b = bind_ok (a_read ts) _ (e, rest) h in
          let p = ok_parts (one b.0) e b.1 rest b.3 in
          let i = a_law.sound ts b.0 b.1 b.2 in
          subst (λ z. Is ts z rest) p.0 (i.0 ∙ ap (a_words b.0) p.1, subst (Ends (a_goes_on b.0)) p.1 i.1)
      by false q h =
          let b = bind_ok (b_read ts) _ (e, rest) h in
          let p = ok_parts (other b.0) e b.1 rest b.3 in
          let i = b_law.sound ts b.0 b.1 b.2 in
          subst (λ z. Is ts z rest) p.0 (i.0 ∙ ap (b_words b.0) p.1, subst (Ends (b_goes_on b.0)) p.1 i.1)

  starts_head : (front : List Word) (x : Word) (r next : List Word) → starts_next starts (front ++ x ∷ r) ≡ starts_next starts (front ++ x ∷ next)
  starts_head [] x r next = refl
  starts_head (w ∷ front) x r next = refl

  abbrev Halts : List Word → Fault → Type 0
  Halts ts f = Stuck Whole (Refuses either) ts f

  either_stuck : (ts : List Word) (f : Fault) → either ts ≡ Err f → Halts ts f
  either_stuck ts f h = by (starts_next starts ts) refl h
    where
      first : starts_next starts ts ≡ true → (a_read ts ≡ Err f) ⊎ ((a : A) × (after : List Word) × (a_read ts ≡ Ok (a, after)) × (ok_pair {A = Either A B} (one a) after ≡ Err f)) → Halts ts f
      first q (inr c) = let g = c.3 in absurd cc
      first q (inl g) =
          stuck_inside a_words Whole (Refuses a_read) (Refuses either) [] one [] ts f (λ a. refl) a_law.parted
          (λ front x r next e bad y k.
          let there = sym (starts_head front x r next) ∙ ap (starts_next starts) (sym e) ∙ q in
          let b = bind_ok (a_read (front ++ x ∷ next)) _ y (sym (either_one (front ++ x ∷ next) there) ∙ k) in
          bad (b.0, b.1) b.2)
          (a_law.stuck ts f g)

      second : starts_next starts ts ≡ false → (b_read ts ≡ Err f) ⊎ ((b : B) × (after : List Word) × (b_read ts ≡ Ok (b, after)) × (ok_pair {A = Either A B} (other b) after ≡ Err f)) → Halts ts f
      second q (inr c) = let g = c.3 in absurd cc
      second q (inl g) =
          stuck_inside b_words Whole (Refuses b_read) (Refuses either) [] other [] ts f (λ b. refl) b_law.parted
          (λ front x r next e bad y k.
          let there = sym (starts_head front x r next) ∙ ap (starts_next starts) (sym e) ∙ q in
          let b = bind_ok (b_read (front ++ x ∷ next)) _ y (sym (either_other (front ++ x ∷ next) there) ∙ k) in
          bad (b.0, b.1) b.2)
          (b_law.stuck ts f g)

      by : (t : Bool) → starts_next starts ts ≡ t → (if t then and_then (a_read ts) (λ a rest. ok_pair (one a) rest) else and_then (b_read ts) (λ b rest. ok_pair (other b) rest)) ≡ Err f → Halts ts f
      by true q h = first q (bind_err (a_read ts) _ f h)
      by false q h = second q (bind_err (b_read ts) _ f h)

  pub either_lawful : Lawful Whole Goes either
  either_lawful = record {
    parted = λ e x y. elim e as (λ e. Whole e (x ++ y) ≡ Whole e x ++ y) [ one a ↦ a_law.parted a x y | other b ↦ b_law.parted b x y ];
    some = λ e rest. elim e as (λ e. length rest < length (Whole e rest)) [ one a ↦ a_law.some a rest | other b ↦ b_law.some b rest ];
    sound = either_sound;
    complete = either_complete;
    stuck = either_stuck;
  }

pub either_deeper : {A A2 B B2 : Type 0} (starts : Word → Bool) (a : Reader A) (a2 : Reader A2) (b : Reader B) (b2 : Reader B2) → Deeper a a2 → Deeper b b2 → Deeper (either_with starts a b) (either_with starts a2 b2)
either_deeper starts a a2 b b2 da db ts =
    if_deeper (starts_next starts ts) _ _ _ _
    (then_deeper (a ts) (a2 ts) _ _ (da ts) (λ x x2 rest. (one x2, refl)) (λ x2 rest. omega arith))
    (then_deeper (b ts) (b2 ts) _ _ (db ts) (λ x x2 rest. (other x2, refl)) (λ x2 rest. omega arith))

pub either_shrinks : {A B : Type 0} (starts : Word → Bool) (a : Reader A) (b : Reader B) → Shrinks a → Shrinks b → Shrinks (either_with starts a b)
either_shrinks starts a b sa sb ts =
    if_within (length ts) (starts_next starts ts) _ _ (then_shrinks (length ts) (a ts) _ (sa ts) (λ x rest. omega arith)) (then_shrinks (length ts) (b ts) _ (sb ts) (λ x rest. omega arith))

-- ---- what of a kind of forms is a form of another
module _ {A B : Type 0} (words : A → List Word → List Word) (goes_on : A → Word → Bool) (read : Reader A) (law : Lawful words goes_on read) (keep : A → Option B) (back : B → A)
    (kept_is : (b : B) → keep (back b) ≡ Some b) (kept_only : (a : A) (b : B) → keep a ≡ Some b → a ≡ back b)
    (grows : (a : A) → (b : B) × (more : List Word) × (words (back b) [] ≡ words a [] ++ more)) where
  abbrev pub kept_words : B → List Word → List Word
  kept_words b rest = words (back b) rest

  abbrev pub kept_goes_on : B → Word → Bool
  kept_goes_on b next = goes_on (back b) next

  abbrev kept : Reader B
  kept = kept_with keep read

  kept_read : (ts : List Word) (a : A) (rest : List Word) → read ts ≡ Ok (a, rest) → kept ts ≡ kept_by (keep a) rest
  kept_read ts a rest h = bind_by (read ts) _ a rest h

  kept_complete : (b : B) (rest : List Word) → Ends (kept_goes_on b) rest → kept (kept_words b rest) ≡ Ok (b, rest)
  kept_complete b rest h = kept_read (words (back b) rest) (back b) rest (law.complete (back b) rest h) ∙ ap (λ o. kept_by o rest) (kept_is b)

  kept_sound : (ts : List Word) (b : B) (rest : List Word) → kept ts ≡ Ok (b, rest) → (ts ≡ kept_words b rest) × Ends (kept_goes_on b) rest
  kept_sound ts b rest h = let c = bind_ok (read ts) _ (b, rest) h in by c.0 c.1 (law.sound ts c.0 c.1 c.2) (keep c.0) refl c.3
    where
      by : (a : A) (after : List Word) → (ts ≡ words a after) × Ends (goes_on a) after → (o : Option B) → keep a ≡ o → kept_by o after ≡ Ok (b, rest) → (ts ≡ kept_words b rest) × Ends (kept_goes_on b) rest
      by a after i None q h = absurd cc
      by a after i (Some c) q h =
          let p = ok_parts c b after rest h in
          let same : a ≡ back b = kept_only a c q ∙ ap back p.0 in
          (i.0 ∙ ap (words a) p.1 ∙ ap (λ z. words z rest) same, subst (λ z. Ends (goes_on z) rest) same (subst (Ends (goes_on a)) p.1 i.1))

  kept_none : (a : A) (ts : List Word) → Ends (goes_on a) ts → keep a ≡ None → Refuses kept (words a ts)
  kept_none a ts e q y h = let g = sym (kept_read (words a ts) a ts (law.complete a ts e) ∙ ap (λ o. kept_by o ts) q) ∙ h in absurd cc

  kept_stuck : (ts : List Word) (f : Fault) → kept ts ≡ Err f → Stuck kept_words (Refuses kept) ts f
  kept_stuck ts f h = two (bind_err (read ts) _ f h)
    where
      by : (a : A) (after : List Word) → (ts ≡ words a after) × Ends (goes_on a) after → (o : Option B) → keep a ≡ o → kept_by o after ≡ Err f → Stuck kept_words (Refuses kept) ts f
      by a after i (Some c) q h = absurd cc
      by a after i None q h =
          let g = grows a in
          record {
            front = words a [];
            after = after;
            split = i.0 ∙ law.parted a [] after;
            place = expected_left {A = B} after f h;
            goes = g.0;
            more = g.1;
            begins = g.2;
            local = λ x r next e. subst (Refuses kept) (law.parted a [] (x ∷ next)) (kept_none a (x ∷ next) (next_is (goes_on a) x r next after e i.1) q);
          }

      two : (read ts ≡ Err f) ⊎ ((a : A) × (after : List Word) × (read ts ≡ Ok (a, after)) × (kept_by (keep a) after ≡ Err f)) → Stuck kept_words (Refuses kept) ts f
      two (inr c) = by c.0 c.1 (law.sound ts c.0 c.1 c.2) (keep c.0) refl c.3
      two (inl g) =
          let s = law.stuck ts f g in
          let m = grows s.goes in
          record {
            front = s.front;
            after = s.after;
            split = s.split;
            place = s.place;
            goes = m.0;
            more = s.more ++ m.1;
            begins = m.2 ∙ ap (λ z. z ++ m.1) s.begins ∙ append_assoc s.front s.more m.1;
            local = λ x r next e y k. let b = bind_ok (read (s.front ++ x ∷ next)) _ y k in s.local x r next e (b.0, b.1) b.2;
          }

  pub kept_lawful : Lawful kept_words kept_goes_on kept
  kept_lawful = record {
    parted = λ b x y. law.parted (back b) x y;
    some = λ b rest. law.some (back b) rest;
    sound = kept_sound;
    complete = kept_complete;
    stuck = kept_stuck;
  }

-- forms that are read deeper are kept as before
pub kept_deeper : {A A2 B B2 : Type 0} (read : Reader A) (read2 : Reader A2) (keep : A → Option B) (keep2 : A2 → Option B2) → Deeper read read2
    → ((ts : List Word) (a : A) (a2 : A2) (rest : List Word) → read ts ≡ Ok (a, rest) → read2 ts ≡ Ok (a2, rest) → is_some (keep a) ≡ is_some (keep2 a2)) → Deeper (kept_with keep read) (kept_with keep2 read2)
kept_deeper {A} {A2} {B} {B2} read read2 keep keep2 deeper same ts = by (read ts) refl (deeper ts)
  where
    both : (o : Option B) (o2 : Option B2) (rest : List Word) → is_some o ≡ is_some o2 → After (kept_by o rest) (kept_by o2 rest)
    both None None rest h = refl
    both None (Some b) rest h = absurd cc
    both (Some b) None rest h = absurd cc
    both (Some b) (Some b2) rest h = (b2, refl)

    shrink : (o : Option B2) → Shrinks (kept_by o)
    shrink None rest = omega arith
    shrink (Some b) rest = omega arith

    past : (k : ℕ) (r : Outcome A2) → Past k r → Past k (and_then r (λ a rest. kept_by (keep2 a) rest))
    past k (Ok p) h = within_past (length p.1) k (kept_by (keep2 p.0) p.1) (shrink (keep2 p.0) p.1) h
    past k (Err f) h = h

    by : (r : Outcome A) → read ts ≡ r → After r (read2 ts) → After (and_then r (λ a rest. kept_by (keep a) rest)) (and_then (read2 ts) (λ a rest. kept_by (keep2 a) rest))
    by (Ok p) e h = subst (λ z. After (kept_by (keep p.0) p.1) (and_then z (λ a rest. kept_by (keep2 a) rest))) (sym h.1) (both (keep p.0) (keep2 h.0) p.1 (same ts p.0 h.0 p.1 e h.1))
    by (Err (Expected k)) e h = ap (λ z. and_then z (λ a rest. kept_by (keep2 a) rest)) h
    by (Err (TooDeep k)) e h = past k (read2 ts) h

pub kept_shrinks : {A B : Type 0} (read : Reader A) (keep : A → Option B) → Shrinks read → Shrinks (kept_with keep read)
kept_shrinks {A} {B} read keep s ts = then_shrinks (length ts) (read ts) _ (s ts) (λ a. by (keep a))
  where
    by : (o : Option B) → Shrinks (kept_by o)
    by None rest = omega arith
    by (Some b) rest = omega arith

-- ---- forms whose words and ends are said in other ways
pub lawful_as : {A : Type 0} (words words2 : A → List Word → List Word) (goes_on goes_on2 : A → Word → Bool) (read : Reader A) → ((a : A) (rest : List Word) → words a rest ≡ words2 a rest)
    → ((a : A) (w : Word) → goes_on a w ≡ goes_on2 a w) → Lawful words goes_on read → Lawful words2 goes_on2 read
lawful_as {A} words words2 goes_on goes_on2 read same ends law = record {
  parted = λ a x y. sym (same a (x ++ y)) ∙ law.parted a x y ∙ ap (λ z. z ++ y) (same a x);
  some = λ a rest. subst (λ z. length rest < length z) (same a rest) (law.some a rest);
  sound = λ ts a rest h. let s = law.sound ts a rest h in (s.0 ∙ same a rest, there a rest s.1);
  complete = λ a rest h. ap read (sym (same a rest)) ∙ law.complete a rest (back a rest h);
  stuck = λ ts f h. let s = law.stuck ts f h in record { front = s.front; after = s.after; split = s.split; place = s.place; goes = s.goes; more = s.more; begins = sym (same s.goes []) ∙ s.begins; local = s.local };
}
  where
    there : (a : A) (rest : List Word) → Ends (goes_on a) rest → Ends (goes_on2 a) rest
    there a [] h = tt
    there a (w ∷ rest) h = sym (ends a w) ∙ h

    back : (a : A) (rest : List Word) → Ends (goes_on2 a) rest → Ends (goes_on a) rest
    back a [] h = tt
    back a (w ∷ rest) h = ends a w ∙ h

pub weak_as : {A : Type 0} (words words2 : A → List Word → List Word) (goes_on : A → Word → Bool) (read : Reader A) → ((a : A) (rest : List Word) → words a rest ≡ words2 a rest) → Weak words goes_on read → Weak words2 goes_on read
weak_as words words2 goes_on read same law = record {
  parted = λ a x y. sym (same a (x ++ y)) ∙ law.parted a x y ∙ ap (λ z. z ++ y) (same a x);
  longer = λ a rest. subst (λ z. length rest ≤ length z) (same a rest) (law.longer a rest);
  sound = λ ts a rest h. let s = law.sound ts a rest h in (s.0 ∙ same a rest, s.1);
  complete = λ a rest h. ap read (sym (same a rest)) ∙ law.complete a rest h;
  stuck = λ ts f h. let s = law.stuck ts f h in record { front = s.front; after = s.after; split = s.split; place = s.place; goes = s.goes; more = s.more; begins = sym (same s.goes []) ∙ s.begins; local = s.local };
}

-- readers that read the same
pub lawful_by : {A : Type 0} (words : A → List Word → List Word) (goes_on : A → Word → Bool) (read read2 : Reader A) → ((ts : List Word) → read ts ≡ read2 ts) → Lawful words goes_on read → Lawful words goes_on read2
lawful_by words goes_on read read2 same law = record {
  parted = law.parted;
  some = law.some;
  sound = λ ts a rest h. law.sound ts a rest (same ts ∙ h);
  complete = λ a rest h. sym (same (words a rest)) ∙ law.complete a rest h;
  stuck = λ ts f h. let s = law.stuck ts f (same ts ∙ h) in record { front = s.front; after = s.after; split = s.split; place = s.place; goes = s.goes; more = s.more; begins = s.begins; local = λ x r next e y k. s.local x r next e y (same (s.front ++ x ∷ next) ∙ k) };
}
