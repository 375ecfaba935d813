-- Forms with a mark before or behind them, and forms as others.
use Rattle.std.proofs.Common.{◌≡◌, Bool, true, false, ◌⊎◌, inl, inr, if◌then◌else◌, List, [], ◌∷◌, ◌++◌, length, drop, Ok, Err, refl, sym, ◌∙◌, ap, subst, arith}
use Rattle.std.proofs.lemmas.Bool.{eq-eqb}
use Rattle.grammar.specs.declared.mark.Mark.{Mark}
use Rattle.grammar.specs.Word.{Word, is_word, is_next, mark_number, Ends}
use Rattle.grammar.specs.Word as word
use Rattle.grammar.specs.Parts.{marked_words, closed_words}
use Rattle.grammar.specs.Reading.{Fault, Reader, expected, before, marked_with, closed_with, mapped_with}
use Rattle.grammar.proofs.WordLemmas.{the_next}
use Rattle.grammar.proofs.Lawful.{Refuses, Stuck, Lawful, ok_pair, ok_parts, bind_ok, bind_err, bind_by, expected_left, stuck_inside, stuck_behind, before_ok, before_err, before_refuses, never_on, next_is, next_same}
use Rattle.grammar.proofs.Deeper.{Deeper, Shrinks, within_less, drop_shorter, before_shrinks, before_deeper, then_shrinks, then_deeper, if_deeper, if_within}
use Rattle.grammar.proofs.Pairs.{Weak, weak_of}

mark_is : (mark : Mark) (rest : List Word) → is_next mark (word.mark mark ∷ rest) ≡ true
mark_is mark rest = eq-eqb (mark_number mark) (mark_number mark) refl

-- ---- a mark before
module _ {A : Type 0} (words : A → List Word → List Word) (goes_on : A → Word → Bool) (read : Reader A) (law : Weak words goes_on read) (mark : Mark) (some_form : A) where
  abbrev Words : A → List Word → List Word
  Words = marked_words mark words

  abbrev marked : Reader A
  marked = marked_with mark read

  marked_is : (ts : List Word) → marked (word.mark mark ∷ ts) ≡ read ts
  marked_is ts = ap (λ b. if b then read ts else expected (word.mark mark ∷ ts)) (mark_is mark ts)

  marked_sound : (ts : List Word) (a : A) (rest : List Word) → marked ts ≡ Ok (a, rest) → (ts ≡ Words a rest) × Ends (goes_on a) rest
  marked_sound ts a rest h = by (is_next mark ts) refl h
    where
      by : (b : Bool) → is_next mark ts ≡ b → (if b then read (drop 1 ts) else expected ts) ≡ Ok (a, rest) → (ts ≡ Words a rest) × Ends (goes_on a) rest
      by true q h = let s = law.sound (drop 1 ts) a rest h in (the_next mark ts q ∙ ap (λ z. word.mark mark ∷ z) s.0, s.1)
      by false q h = absurd cc

  no_mark : (ts : List Word) → is_next mark ts ≡ false → Refuses marked ts
  no_mark ts q y h = by (is_next mark ts) q h
    where
      by : (b : Bool) → b ≡ false → (if b then read (drop 1 ts) else expected ts) ≡ Ok y → ⊥
      by true q h = absurd cc
      by false q h = absurd cc

  marked_stuck : (ts : List Word) (f : Fault) → marked ts ≡ Err f → Stuck Words (Refuses marked) ts f
  marked_stuck ts f h = by (is_next mark ts) refl h
    where
      by : (b : Bool) → is_next mark ts ≡ b → (if b then read (drop 1 ts) else expected ts) ≡ Err f → Stuck Words (Refuses marked) ts f
      by false q h = record {
        front = [];
        after = ts;
        split = refl;
        place = expected_left {A = A} ts f h;
        goes = some_form;
        more = Words some_form [];
        begins = refl;
        local = λ x r next e. no_mark (x ∷ next) (next_same mark x r next ts e q);
      }
      by true q h =
          subst (λ z. Stuck Words (Refuses marked) z f) (sym (the_next mark ts q))
          (stuck_inside words Words (Refuses read) (Refuses marked) (word.mark mark ∷ []) (λ a. a) [] (drop 1 ts) f (λ a. refl) law.parted
          (λ front x r next e bad y k. bad y (sym (marked_is (front ++ x ∷ next)) ∙ k)) (law.stuck (drop 1 ts) f h))

  pub marked_lawful : Lawful Words goes_on marked
  marked_lawful = record {
    parted = λ a x y. ap (λ z. word.mark mark ∷ z) (law.parted a x y);
    some = λ a rest. omega (arith, law.longer a rest);
    sound = marked_sound;
    complete = λ a rest h. marked_is (words a rest) ∙ law.complete a rest h;
    stuck = marked_stuck;
  }

-- ---- a mark behind
module _ {A : Type 0} (words : A → List Word → List Word) (goes_on : A → Word → Bool) (read : Reader A) (law : Weak words goes_on read) (mark : Mark)
    (apart : (a : A) → goes_on a (word.mark mark) ≡ false) where
  abbrev Whole : A → List Word → List Word
  Whole = closed_words mark words

  abbrev pub never : A → Word → Bool
  never a next = false

  abbrev closed : Reader A
  closed = closed_with mark read

  before_is : (a : A) (rest : List Word) → before mark a (word.mark mark ∷ rest) ≡ Ok (a, rest)
  before_is a rest = ap (λ b. if b then ok_pair a rest else expected (word.mark mark ∷ rest)) (mark_is mark rest)

  closed_sound : (ts : List Word) (a : A) (rest : List Word) → closed ts ≡ Ok (a, rest) → (ts ≡ Whole a rest) × Ends (never a) rest
  closed_sound ts a rest h =
      let b = bind_ok (read ts) (before mark) (a, rest) h in
      let q = before_ok mark b.0 a b.1 rest b.3 in
      let s = law.sound ts b.0 b.1 b.2 in
      (s.0 ∙ ap (words b.0) q.0 ∙ ap (λ z. words z (word.mark mark ∷ rest)) q.1, never_on rest)

  closed_stuck : (ts : List Word) (f : Fault) → closed ts ≡ Err f → Stuck Whole (Refuses closed) ts f
  closed_stuck ts f h = two (bind_err (read ts) (before mark) f h)
    where
      two : (read ts ≡ Err f) ⊎ ((a : A) × (after : List Word) × (read ts ≡ Ok (a, after)) × (before mark a after ≡ Err f)) → Stuck Whole (Refuses closed) ts f
      two (inl g) =
          stuck_inside words Whole (Refuses read) (Refuses closed) [] (λ a. a) (word.mark mark ∷ []) ts f (λ a. refl) law.parted
          (λ front x r next e bad y k. let b = bind_ok (read (front ++ x ∷ next)) (before mark) y k in bad (b.0, b.1) b.2) (law.stuck ts f g)
      two (inr c) =
          let s = law.sound ts c.0 c.1 c.2 in
          let gone = before_err mark c.0 c.1 f c.3 in
          subst (λ z. Stuck Whole (Refuses closed) z f) (sym s.0)
          (stuck_behind words Whole (Refuses closed) law.parted [] c.0 (word.mark mark ∷ []) c.0 c.1 f gone.place refl
          (λ x r next e y k.
          let again = bind_by (read (words c.0 (x ∷ next))) (before mark) c.0 (x ∷ next) (law.complete c.0 (x ∷ next) (next_is (goes_on c.0) x r next c.1 e s.1)) in
          before_refuses mark c.0 (x ∷ next) (next_same mark x r next c.1 e gone.other) y (sym again ∙ k)))

  pub closed_lawful : Lawful Whole never closed
  closed_lawful = record {
    parted = λ a x y. law.parted a (word.mark mark ∷ x) y;
    some = λ a rest. omega (arith, law.longer a (word.mark mark ∷ rest));
    sound = closed_sound;
    complete = λ a rest h. bind_by (read (words a (word.mark mark ∷ rest))) (before mark) a (word.mark mark ∷ rest) (law.complete a (word.mark mark ∷ rest) (apart a)) ∙ before_is a rest;
    stuck = closed_stuck;
  }

-- ---- a form as another
module _ {A B : Type 0} (words : A → List Word → List Word) (goes_on : A → Word → Bool) (read : Reader A) (law : Weak words goes_on read) (to : A → B) (from : B → A)
    (there : (b : B) → to (from b) ≡ b) (back : (a : A) → from (to a) ≡ a) where
  abbrev pub mapped_words : B → List Word → List Word
  mapped_words b rest = words (from b) rest

  abbrev pub mapped_goes_on : B → Word → Bool
  mapped_goes_on b next = goes_on (from b) next

  abbrev mapped : Reader B
  mapped = mapped_with to read

  mapped_sound : (ts : List Word) (b : B) (rest : List Word) → mapped ts ≡ Ok (b, rest) → (ts ≡ mapped_words b rest) × Ends (mapped_goes_on b) rest
  mapped_sound ts b rest h =
      let c = bind_ok (read ts) _ (b, rest) h in
      let q = ok_parts (to c.0) b c.1 rest c.3 in
      let s = law.sound ts c.0 c.1 c.2 in
      let same : c.0 ≡ from b = sym (back c.0) ∙ ap from q.0 in
      (s.0 ∙ ap (words c.0) q.1 ∙ ap (λ z. words z rest) same, subst (λ z. Ends (goes_on z) rest) same (subst (Ends (goes_on c.0)) q.1 s.1))

  mapped_stuck : (ts : List Word) (f : Fault) → mapped ts ≡ Err f → Stuck mapped_words (Refuses mapped) ts f
  mapped_stuck ts f h = two (bind_err (read ts) _ f h)
    where
      two : (read ts ≡ Err f) ⊎ ((a : A) × (after : List Word) × (read ts ≡ Ok (a, after)) × (ok_pair (to a) after ≡ Err f)) → Stuck mapped_words (Refuses mapped) ts f
      two (inr c) = let g = c.3 in absurd cc
      two (inl g) =
          stuck_inside words mapped_words (Refuses read) (Refuses mapped) [] to [] ts f (λ a. ap (λ z. words z []) (back a)) law.parted
          (λ front x r next e bad y k. let b = bind_ok (read (front ++ x ∷ next)) _ y k in bad (b.0, b.1) b.2) (law.stuck ts f g)

  pub mapped_weak : Weak mapped_words mapped_goes_on mapped
  mapped_weak = record {
    parted = λ b x y. law.parted (from b) x y;
    longer = λ b rest. law.longer (from b) rest;
    sound = mapped_sound;
    complete = λ b rest h. bind_by (read (words (from b) rest)) _ (from b) rest (law.complete (from b) rest h) ∙ ap (λ z. Ok (z, rest)) (there b);
    stuck = mapped_stuck;
  }

pub mapped_lawful : {A B : Type 0} (words : A → List Word → List Word) (goes_on : A → Word → Bool) (read : Reader A) → Lawful words goes_on read → (to : A → B) (from : B → A)
    → ((b : B) → to (from b) ≡ b) → ((a : A) → from (to a) ≡ a) → Lawful (λ b rest. words (from b) rest) (λ b next. goes_on (from b) next) (mapped_with to read)
mapped_lawful words goes_on read law to from there back =
    let weak = mapped_weak words goes_on read (weak_of words goes_on read law) to from there back in
    record { parted = weak.parted; some = λ b rest. law.some (from b) rest; sound = weak.sound; complete = weak.complete; stuck = weak.stuck }

-- ---- deeper
pub marked_deeper : {A A2 : Type 0} (mark : Mark) (a : Reader A) (a2 : Reader A2) → Deeper a a2 → Deeper (marked_with mark a) (marked_with mark a2)
marked_deeper mark a a2 d ts = if_deeper (is_next mark ts) _ _ _ _ (d (drop 1 ts)) refl

pub marked_shrinks : {A : Type 0} (mark : Mark) (a : Reader A) → Shrinks a → Shrinks (marked_with mark a)
marked_shrinks mark a s ts = if_within (length ts) (is_next mark ts) _ _ (within_less (length (drop 1 ts)) (length ts) (a (drop 1 ts)) (s (drop 1 ts)) (drop_shorter ts)) (omega arith)

pub closed_deeper : {A A2 : Type 0} (mark : Mark) (a : Reader A) (a2 : Reader A2) → Deeper a a2 → Deeper (closed_with mark a) (closed_with mark a2)
closed_deeper mark a a2 d ts = then_deeper (a ts) (a2 ts) (before mark) (before mark) (d ts) (λ x x2 rest. before_deeper mark x x2 rest) (λ x2. before_shrinks mark x2)

pub closed_shrinks : {A : Type 0} (mark : Mark) (a : Reader A) → Shrinks a → Shrinks (closed_with mark a)
closed_shrinks mark a s ts = then_shrinks (length ts) (a ts) (before mark) (s ts) (λ x. before_shrinks mark x)

pub mapped_deeper : {A A2 B B2 : Type 0} (f : A → B) (f2 : A2 → B2) (a : Reader A) (a2 : Reader A2) → Deeper a a2 → Deeper (mapped_with f a) (mapped_with f2 a2)
mapped_deeper f f2 a a2 d ts = then_deeper (a ts) (a2 ts) _ _ (d ts) (λ x x2 rest. (f2 x2, refl)) (λ x2 rest. omega arith)

pub mapped_shrinks : {A B : Type 0} (f : A → B) (a : Reader A) → Shrinks a → Shrinks (mapped_with f a)
mapped_shrinks f a s ts = then_shrinks (length ts) (a ts) _ (s ts) (λ x rest. omega arith)
