-- Items up to the end of the words are lawful where an item is and no word goes on with one.
use Rattle.std.proofs.Common.{◌≡◌, ℕ, zero, suc, ◌≤◌, Bool, true, false, ◌⊎◌, inl, inr, List, [], ◌∷◌, ◌++◌, length, Ok, Err, refl, sym, ◌∙◌, ap, subst, arith}
use Rattle.grammar.specs.Word.{Word, Ends}
use Rattle.grammar.specs.Reading.{Fault, Reader, and_then}
use Rattle.grammar.specs.inner.TextReading.{items_with, all_with}
use Rattle.grammar.proofs.Lawful.{Refuses, Stuck, Lawful, ok_pair, ok_parts, bind_ok, bind_err, bind_by}
use Rattle.grammar.proofs.Deeper.{Deeper, Shrinks, then_shrinks, then_deeper}
use Rattle.grammar.proofs.Pairs.{Weak}

module _ {A : Type 0} (item_words : A → List Word → List Word) (item_goes_on : A → Word → Bool) (item : Reader A) (law : Lawful item_words item_goes_on item)
    (ended : (x : A) (w : Word) → item_goes_on x w ≡ false) where
  abbrev pub all_words : List A → List Word → List Word
  all_words [] rest = rest
  all_words (x ∷ xs) rest = item_words x (all_words xs rest)

  -- a text goes on with any word
  abbrev pub all_goes_on : List A → Word → Bool
  all_goes_on xs next = true

  item_ends : (x : A) (rest : List Word) → Ends (item_goes_on x) rest
  item_ends x [] = tt
  item_ends x (w ∷ rest) = ended x w

  all_parted : (xs : List A) (x y : List Word) → all_words xs (x ++ y) ≡ all_words xs x ++ y
  all_parted [] x y = refl
  all_parted (a ∷ xs) x y = ap (item_words a) (all_parted xs x y) ∙ law.parted a (all_words xs x) y

  all_longer : (xs : List A) (rest : List Word) → length rest ≤ length (all_words xs rest)
  all_longer [] rest = omega arith
  all_longer (a ∷ xs) rest = omega (arith, all_longer xs rest, law.some a (all_words xs rest))

  only_end : (rest : List Word) → Ends (λ w. true) rest → rest ≡ []
  only_end [] h = refl
  only_end (w ∷ rest) h = absurd cc

  abbrev behind : ℕ → A → Reader (List A)
  behind k x rest = and_then (items_with item k rest) (λ xs after. Ok (x ∷ xs, after))

  -- ---- one turn
  turn : (k : ℕ) (ts : List Word) → 1 ≤ length ts → items_with item (suc k) ts ≡ and_then (item ts) (behind k)
  unfolding items_with
  turn k [] l = absurd (omega (arith, l))
  turn k (w ∷ ts) l = refl

  at_end : (k : ℕ) → items_with item k [] ≡ Ok ([], [])
  unfolding items_with
  at_end zero = refl
  at_end (suc k) = refl

  turn_more : (k : ℕ) (ts : List Word) (x : A) (rest : List Word) → 1 ≤ length ts → item ts ≡ Ok (x, rest) → items_with item (suc k) ts ≡ behind k x rest
  turn_more k ts x rest l h = turn k ts l ∙ bind_by (item ts) (behind k) x rest h

  -- ---- complete
  all_read : (xs : List A) (k : ℕ) → length (all_words xs []) ≤ k → items_with item k (all_words xs []) ≡ Ok (xs, [])
  all_read [] k l = at_end k
  all_read (x ∷ xs) zero l = let s = law.some x (all_words xs []) in absurd (omega (arith, l, s))
  all_read (x ∷ xs) (suc k) l =
      let s = law.some x (all_words xs []) in
      turn_more k (item_words x (all_words xs [])) x (all_words xs []) (omega (arith, s)) (law.complete x (all_words xs []) (item_ends x (all_words xs [])))
      ∙ bind_by (items_with item k (all_words xs [])) (λ ys after. Ok (x ∷ ys, after)) xs [] (all_read xs k (omega (arith, l, s)))

  all_complete : (xs : List A) (rest : List Word) → Ends (λ w. true) rest → all_with item (all_words xs rest) ≡ Ok (xs, rest)
  all_complete xs rest h = subst (λ z. all_with item (all_words xs z) ≡ Ok (xs, z)) (sym (only_end rest h)) (all_read xs (length (all_words xs [])) (omega arith))

  -- ---- sound
  abbrev IsAll : List Word → List A → List Word → Type 0
  IsAll ts xs rest = (ts ≡ all_words xs rest) × Ends (λ w. true) rest

  no_items : (xs : List A) (rest : List Word) → ok_pair {A = List A} [] [] ≡ Ok (xs, rest) → IsAll [] xs rest
  no_items xs rest h = let p = ok_parts {A = List A} [] xs [] rest h in subst (λ z. IsAll [] z rest) p.0 (subst (λ z. IsAll [] [] z) p.1 (refl, tt))

  items_sound : (k : ℕ) (ts : List Word) (xs : List A) (rest : List Word) → length ts ≤ k → items_with item k ts ≡ Ok (xs, rest) → IsAll ts xs rest
  items_sound k [] xs rest l h = no_items xs rest (sym (at_end k) ∙ h)
  items_sound zero (w ∷ ts) xs rest l h = absurd (omega (arith, l))
  items_sound (suc k) (w ∷ ts) xs rest l h =
      let b = bind_ok (item (w ∷ ts)) (behind k) (xs, rest) (sym (turn k (w ∷ ts) (omega arith)) ∙ h) in
      let c = bind_ok (items_with item k b.1) _ (xs, rest) b.3 in
      let p = ok_parts (b.0 ∷ c.0) xs c.1 rest c.3 in
      let read = law.sound (w ∷ ts) b.0 b.1 b.2 in
      let len = ap length read.0 in
      let more = items_sound k b.1 c.0 rest (omega (arith, len, l, law.some b.0 b.1)) (c.2 ∙ ap (λ z. Ok (c.0, z)) p.1) in
      subst (λ z. IsAll (w ∷ ts) z rest) p.0 (read.0 ∙ ap (item_words b.0) more.0, more.1)

  -- ---- stuck
  abbrev AllRefuse : List Word → Type 0
  AllRefuse ts = (k : ℕ) (y : List A × List Word) → length ts ≤ k → items_with item k ts ≡ Ok y → ⊥

  refused_item : (ts : List Word) → 1 ≤ length ts → Refuses item ts → AllRefuse ts
  refused_item ts some never zero y l h = absurd (omega (arith, some, l))
  refused_item ts some never (suc k) y l h = let b = bind_ok (item ts) (behind k) y (sym (turn k ts some) ∙ h) in never (b.0, b.1) b.2

  refused_behind : (x : A) (ts : List Word) → AllRefuse ts → AllRefuse (item_words x ts)
  refused_behind x ts never zero y l h = let s = law.some x ts in absurd (omega (arith, s, l))
  refused_behind x ts never (suc k) y l h =
      let s = law.some x ts in
      let b = bind_ok (items_with item k ts) _ y (sym (turn_more k (item_words x ts) x ts (omega (arith, s)) (law.complete x ts (item_ends x ts))) ∙ h) in
      never k (b.0, b.1) (omega (arith, l, s)) b.2

  longer_front : (front : List Word) (x : Word) (next : List Word) → 1 ≤ length (front ++ x ∷ next)
  longer_front [] x next = omega arith
  longer_front (w ∷ front) x next = omega arith

  items_stuck : (k : ℕ) (ts : List Word) (f : Fault) → length ts ≤ k → items_with item k ts ≡ Err f → Stuck all_words AllRefuse ts f
  items_stuck k [] f l h = let g = sym (at_end k) ∙ h in absurd cc
  items_stuck zero (w ∷ ts) f l h = absurd (omega (arith, l))
  items_stuck (suc k) (w ∷ ts) f l h = two (bind_err (item (w ∷ ts)) (behind k) f (sym (turn k (w ∷ ts) (omega arith)) ∙ h)) (λ us l' g. items_stuck k us f l' g)
    where
      two : (item (w ∷ ts) ≡ Err f) ⊎ ((x : A) × (rest : List Word) × (item (w ∷ ts) ≡ Ok (x, rest)) × (behind k x rest ≡ Err f))
          → ((us : List Word) → length us ≤ k → items_with item k us ≡ Err f → Stuck all_words AllRefuse us f) → Stuck all_words AllRefuse (w ∷ ts) f
      two (inl g) next =
          let s = law.stuck (w ∷ ts) f g in
          record {
            front = s.front;
            after = s.after;
            split = s.split;
            place = s.place;
            goes = s.goes ∷ [];
            more = s.more;
            begins = s.begins;
            local = λ x r more e. refused_item (s.front ++ x ∷ more) (longer_front s.front x more) (s.local x r more e);
          }
      two (inr c) next = three (bind_err (items_with item k c.1) _ f c.3)
        where
          read : (w ∷ ts ≡ item_words c.0 c.1) × Ends (item_goes_on c.0) c.1
          read = law.sound (w ∷ ts) c.0 c.1 c.2

          short : length c.1 ≤ k
          short = let e = ap length read.0 in omega (arith, e, l, law.some c.0 c.1)

          three : (items_with item k c.1 ≡ Err f) ⊎ ((xs : List A) × (last : List Word) × (items_with item k c.1 ≡ Ok (xs, last)) × (ok_pair (c.0 ∷ xs) last ≡ Err f)) → Stuck all_words AllRefuse (w ∷ ts) f
          three (inr d) = let g = d.3 in absurd cc
          three (inl g) =
              let s = next c.1 short g in
              record {
                front = item_words c.0 s.front;
                after = s.after;
                split = read.0 ∙ ap (item_words c.0) s.split ∙ law.parted c.0 s.front s.after;
                place = s.place;
                goes = c.0 ∷ s.goes;
                more = s.more;
                begins = ap (item_words c.0) s.begins ∙ law.parted c.0 s.front s.more;
                local = λ x r more e. subst AllRefuse (law.parted c.0 s.front (x ∷ more)) (refused_behind c.0 (s.front ++ x ∷ more) (s.local x r more e));
              }

  all_stuck : (ts : List Word) (f : Fault) → all_with item ts ≡ Err f → Stuck all_words (Refuses (all_with item)) ts f
  all_stuck ts f h =
      let s = items_stuck (length ts) ts f (omega arith) h in
      record {
        front = s.front;
        after = s.after;
        split = s.split;
        place = s.place;
        goes = s.goes;
        more = s.more;
        begins = s.begins;
        local = λ x r more e y g. s.local x r more e (length (s.front ++ x ∷ more)) y (omega arith) g;
      }

  pub all_law : Weak all_words all_goes_on (all_with item)
  all_law = record {
    parted = all_parted;
    longer = all_longer;
    sound = λ ts xs rest h. items_sound (length ts) ts xs rest (omega arith) h;
    complete = all_complete;
    stuck = all_stuck;
  }

  -- ---- a fault behind items that are read is that of all
  pub all_err : (xs : List A) (ts : List Word) (f : Fault) → item ts ≡ Err f → 1 ≤ length ts → all_with item (all_words xs ts) ≡ Err f
  all_err xs ts f h some = by xs (length (all_words xs ts)) (omega arith)
    where
      by : (xs : List A) (k : ℕ) → length (all_words xs ts) ≤ k → items_with item k (all_words xs ts) ≡ Err f
      by [] zero l = absurd (omega (arith, some, l))
      by [] (suc k) l = turn k ts some ∙ ap (λ z. and_then z (behind k)) h
      by (x ∷ xs) zero l = let s = law.some x (all_words xs ts) in absurd (omega (arith, s, l))
      by (x ∷ xs) (suc k) l =
          let s = law.some x (all_words xs ts) in
          turn_more k (item_words x (all_words xs ts)) x (all_words xs ts) (omega (arith, s)) (law.complete x (all_words xs ts) (item_ends x (all_words xs ts)))
          ∙ ap (λ z. and_then z (λ ys after. Ok (x ∷ ys, after))) (by xs k (omega (arith, l, s)))

-- ---- deeper
items_shrinks : {A : Type 0} (item : Reader A) → Shrinks item → (k : ℕ) → Shrinks (items_with item k)
unfolding items_with
items_shrinks item s zero [] = omega arith
items_shrinks item s zero (w ∷ ts) = omega arith
items_shrinks item s (suc k) [] = omega arith
items_shrinks item s (suc k) (w ∷ ts) = then_shrinks (length (w ∷ ts)) (item (w ∷ ts)) _ (s (w ∷ ts)) (λ x rest. then_shrinks (length rest) (items_with item k rest) _ (items_shrinks item s k rest) (λ xs after. omega arith))

items_deeper : {A B : Type 0} (item : Reader A) (item2 : Reader B) → Deeper item item2 → Shrinks item2 → (k : ℕ) → Deeper (items_with item k) (items_with item2 k)
unfolding items_with
items_deeper item item2 d s zero [] = ([], refl)
items_deeper item item2 d s zero (w ∷ ts) = refl
items_deeper item item2 d s (suc k) [] = ([], refl)
items_deeper item item2 d s (suc k) (w ∷ ts) =
    then_deeper (item (w ∷ ts)) (item2 (w ∷ ts)) _ _ (d (w ∷ ts))
    (λ x x2 rest. then_deeper (items_with item k rest) (items_with item2 k rest) _ _ (items_deeper item item2 d s k rest) (λ xs xs2 after. (x2 ∷ xs2, refl)) (λ xs2 after. omega arith))
    (λ x2 rest. then_shrinks (length rest) (items_with item2 k rest) _ (items_shrinks item2 s k rest) (λ xs2 after. omega arith))

pub all_deeper : {A B : Type 0} (item : Reader A) (item2 : Reader B) → Deeper item item2 → Shrinks item2 → Deeper (all_with item) (all_with item2)
all_deeper item item2 d s ts = items_deeper item item2 d s (length ts) ts
