-- How slots stay watched as watches come and go, and as time goes on.
use Rattle.std.proofs.Common.{◌≡◌, ℕ, zero, suc, ◌+◌, ◌<◌, ◌≤◌, ◌==◌, ◌⊎◌, inl, inr, Bool, true, false, List, [], ◌∷◌, ◌++◌, length, get_or, set, refl, sym, ◌∙◌, ap, subst, arith, length-append}
use Rattle.std.specs.Prelude.{nat_lt}
use Rattle.std.specs.List.{Contains}
use Rattle.std.proofs.lemmas.List.{get_or-set_same, get_or-set_other, get_or_append_left, length-set}
use Rattle.std.proofs.lemmas.List.Elements.{Contains-append_left, Contains-append_cases}
use Rattle.std.proofs.lemmas.Bool.Decides.{nat_tests}
use Rattle.symbols.specs.declared.ends.Ends.{Ends}
use Rattle.literals.specs.declared.lit.Lit.{Lit}
use Rattle.literals.specs.declared.places.Counts.{Counts}
use Rattle.literals.specs.Lits.{complement_of, same_lit}
use Rattle.literals.specs.Places.{place_of}
use Rattle.literals.proofs.LitLaws.{same_refl, same_lit-equal}
use Rattle.trail.specs.Implied.{implied}
use Rattle.nogood_store.specs.declared.slot.Slot.{Slot}
use Rattle.nogood_store.specs.declared.watch.Watch.{Watch}
use Rattle.nogood_store.specs.declared.watching.Pair.{Pair}
use Rattle.nogood_store.specs.inner.Watching.{nogood_at, lit_at, pair_at, list_at, with_watch, IsTaken, HasFalse, IsGuard, IsWatched, IsSettled, IsSafe, IsSound, IsWatching}
use Rattle.nogood_store.proofs.Lists.{equal, differ, list_at_same, list_at_other, contains_kept, contains_from, taken_kept, taken_from}

clash : {X : Type 0} → true ≡ false → X
clash h = cc

-- from one moment to another: what is true before is true before that one, and what is true after that one is true after
pub record Turned (F : List Lit → List Lit → Type 0) (old new : Ends) (before after : List Lit) : Type 0 where
  pub from : List Lit
  pub to : List Lit
  pub is : F from to
  pub wider : (l : Lit) → implied new before l ≡ true → implied old from l ≡ true
  pub later : (l : Lit) → implied old to l ≡ true → implied new after l ≡ true

pub same_moment : (F : List Lit → List Lit → Type 0) (ends : Ends) (b a : List Lit) → F b a → Turned F ends ends b a
same_moment F ends b a m = record { from = b; to = a; is = m; wider = λ l h. h; later = λ l h. h }

guard_turned : (F G : List Lit → List Lit → Type 0) (old new : Ends) (slots : List Slot) (places : Counts) (lists : List (List Watch)) (i : ℕ) (l : Lit) → ((b a : List Lit) → G b a → Turned F old new b a) → IsGuard F old slots places lists i l → IsGuard G new slots places lists i l
guard_turned F G old new slots places lists i l turn g = record {
  there = g.there;
  calm = λ b a m h. lift b a (turn b a m) h;
}
  where
    lift : (b a : List Lit) → Turned F old new b a → implied new b l ≡ true → HasFalse new a (nogood_at slots i)
    lift b a t h = let has = g.calm t.from t.to t.is (t.wider l h) in (has.0, has.1, t.later (complement_of has.0) has.2)

pub watching_turned : (F G : List Lit → List Lit → Type 0) (old new : Ends) (slots : List Slot) (places : Counts) (lists : List (List Watch)) (pairs : List Pair) (fresh : List ℕ) → ((b a : List Lit) → G b a → Turned F old new b a) → IsWatching F old slots places lists pairs fresh → IsWatching G new slots places lists pairs fresh
watching_turned F G old new slots places lists pairs fresh turn w = record {
  seen = w.seen;
  sound = w.sound;
  known = w.known;
  each = λ i h. cases i (w.each i h);
}
  where
    settle : (b a : List Lit) → Turned F old new b a → (i : ℕ) → IsSettled F old slots i → HasFalse new a (nogood_at slots i)
    settle b a t i s = let has = s t.from t.to t.is in (has.0, has.1, t.later (complement_of has.0) has.2)

    cases : (i : ℕ) → Contains fresh i ⊎ IsSafe F old slots places lists i (pair_at pairs i) → Contains fresh i ⊎ IsSafe G new slots places lists i (pair_at pairs i)
    cases i (inl c) = inl c
    cases i (inr (inl g)) = inr (inl (record {
      first = g.first;
      second = g.second;
      apart = g.apart;
      one = guard_turned F G old new slots places lists i (lit_at (nogood_at slots i) (pair_at pairs i).first) turn g.one;
      two = guard_turned F G old new slots places lists i (lit_at (nogood_at slots i) (pair_at pairs i).second) turn g.two;
    }))
    cases i (inr (inr s)) = inr (inr (λ b a m. settle b a (turn b a m) i s))

-- each guard carried from some lists to others
pub watched_carried : (F : List Lit → List Lit → Type 0) (ends : Ends) (slots : List Slot) (places : Counts) (old new : List (List Watch)) (i : ℕ) (p : Pair) → ((l : Lit) (x : Watch) → Contains (list_at old (place_of places l)) x → x.slot ≡ i → x.lit ≡ l → Contains (list_at new (place_of places l)) x) → IsWatched F ends slots places old i p → IsWatched F ends slots places new i p
watched_carried F ends slots places old new i p carry g = record {
  first = g.first;
  second = g.second;
  apart = g.apart;
  one = record { there = (g.one.there.0, carry (lit_at (nogood_at slots i) p.first) g.one.there.0 g.one.there.1 g.one.there.2 g.one.there.3, g.one.there.2, g.one.there.3); calm = g.one.calm };
  two = record { there = (g.two.there.0, carry (lit_at (nogood_at slots i) p.second) g.two.there.0 g.two.there.1 g.two.there.2 g.two.there.3, g.two.there.2, g.two.there.3); calm = g.two.calm };
}

safe_carried : (F : List Lit → List Lit → Type 0) (ends : Ends) (slots : List Slot) (places : Counts) (old new : List (List Watch)) (i : ℕ) (p : Pair) → ((l : Lit) (x : Watch) → Contains (list_at old (place_of places l)) x → x.slot ≡ i → x.lit ≡ l → Contains (list_at new (place_of places l)) x) → IsSafe F ends slots places old i p → IsSafe F ends slots places new i p
safe_carried F ends slots places old new i p carry (inl g) = inl (watched_carried F ends slots places old new i p carry g)
safe_carried F ends slots places old new i p carry (inr s) = inr s

-- one more watch
pub added : (F : List Lit → List Lit → Type 0) (ends : Ends) (slots : List Slot) (places : Counts) (lists : List (List Watch)) (pairs : List Pair) (fresh : List ℕ) (x : Watch) → IsSound slots pairs x → place_of places x.lit < length lists → IsWatching F ends slots places lists pairs fresh → IsWatching F ends slots places (with_watch places lists x) pairs fresh
added F ends slots places lists pairs fresh x s h w = record {
  seen = w.seen;
  sound = λ p y c. sound p y (contains_from places lists x p y h c);
  known = w.known;
  each = λ i l. cases i (w.each i l);
}
  where
    sound : (p : ℕ) (y : Watch) → Contains (list_at lists p) y ⊎ (y ≡ x) → IsSound slots pairs y
    sound p y (inl c) = w.sound p y c
    sound p y (inr e) = subst (IsSound slots pairs) (sym e) s

    cases : (i : ℕ) → Contains fresh i ⊎ IsSafe F ends slots places lists i (pair_at pairs i) → Contains fresh i ⊎ IsSafe F ends slots places (with_watch places lists x) i (pair_at pairs i)
    cases i (inl c) = inl c
    cases i (inr g) = inr (safe_carried F ends slots places lists (with_watch places lists x) i (pair_at pairs i) (λ l y c e f. contains_kept places lists x (place_of places l) y h c) g)

pub sound_set : (slots : List Slot) (pairs : List Pair) (s : ℕ) (p : Pair) (y : Watch) → s < length pairs → p.first < length (nogood_at slots s) → p.second < length (nogood_at slots s) → IsSound slots pairs y → IsSound slots (set pairs s p) y
sound_set slots pairs s p y h one two x = cases (y.slot == s) refl
  where
    within : y.slot < length (set pairs s p)
    within = omega (arith, x.slot, length-set pairs s p)

    cases : (b : Bool) → (y.slot == s) ≡ b → IsSound slots (set pairs s p) y
    cases true e =
        let same : y.slot ≡ s = equal y.slot s e in
        let now : pair_at (set pairs s p) y.slot ≡ p = ap (λ (k : ℕ). pair_at (set pairs s p) k) same ∙ get_or-set_same pairs s p (record { first = 0; second = 0 }) h in
        record {
          slot = within;
          first = subst (λ (q : Pair). q.first < length (nogood_at slots y.slot)) (sym now) (subst (λ (k : ℕ). p.first < length (nogood_at slots k)) (sym same) one);
          second = subst (λ (q : Pair). q.second < length (nogood_at slots y.slot)) (sym now) (subst (λ (k : ℕ). p.second < length (nogood_at slots k)) (sym same) two);
          other = x.other;
        }
    cases false e =
        let now : pair_at (set pairs s p) y.slot ≡ pair_at pairs y.slot = get_or-set_other pairs s y.slot p (record { first = 0; second = 0 }) (differ y.slot s e) in
        record {
          slot = within;
          first = subst (λ (q : Pair). q.first < length (nogood_at slots y.slot)) (sym now) x.first;
          second = subst (λ (q : Pair). q.second < length (nogood_at slots y.slot)) (sym now) x.second;
          other = x.other;
        }

-- another pair for a fresh slot
pub paired : (F : List Lit → List Lit → Type 0) (ends : Ends) (slots : List Slot) (places : Counts) (lists : List (List Watch)) (pairs : List Pair) (fresh : List ℕ) (s : ℕ) (p : Pair) → s < length pairs → Contains fresh s → p.first < length (nogood_at slots s) → p.second < length (nogood_at slots s) → IsWatching F ends slots places lists pairs fresh → IsWatching F ends slots places lists (set pairs s p) fresh
paired F ends slots places lists pairs fresh s p h c one two w = record {
  seen = omega (arith, w.seen, length-set pairs s p);
  sound = λ q y d. sound_set slots pairs s p y h one two (w.sound q y d);
  known = w.known;
  each = λ i l. cases i l (i == s) refl;
}
  where
    keep : (i : ℕ) → pair_at (set pairs s p) i ≡ pair_at pairs i → Contains fresh i ⊎ IsSafe F ends slots places lists i (pair_at pairs i) → Contains fresh i ⊎ IsSafe F ends slots places lists i (pair_at (set pairs s p) i)
    keep i e (inl d) = inl d
    keep i e (inr g) = inr (subst (IsSafe F ends slots places lists i) (sym e) g)

    cases : (i : ℕ) → i < length (set pairs s p) → (b : Bool) → (i == s) ≡ b → Contains fresh i ⊎ IsSafe F ends slots places lists i (pair_at (set pairs s p) i)
    cases i l true e = inl (subst (Contains fresh) (sym (equal i s e)) c)
    cases i l false e = keep i (get_or-set_other pairs s i p (record { first = 0; second = 0 }) (differ i s e)) (w.each i (omega (arith, l, length-set pairs s p)))

-- a fresh slot that is watched is fresh no more
pub dropped : (F : List Lit → List Lit → Type 0) (ends : Ends) (slots : List Slot) (places : Counts) (lists : List (List Watch)) (pairs : List Pair) (fresh less : List ℕ) (index s : ℕ) → index < length fresh → s ≡ get_or fresh index 0 → IsTaken fresh less index → IsSafe F ends slots places lists s (pair_at pairs s) → IsWatching F ends slots places lists pairs fresh → IsWatching F ends slots places lists pairs less
dropped F ends slots places lists pairs fresh less index s h is t own w = record {
  seen = w.seen;
  sound = w.sound;
  known = λ i c. w.known i (taken_from fresh less index i t c);
  each = λ i l. cases i (w.each i l);
}
  where
    zero_at : (xs : List ℕ) (k d : ℕ) → k < length xs → get_or xs k d ≡ get_or xs k 0
    zero_at [] k d l = absurd (omega arith)
    zero_at (x ∷ xs) zero d l = refl
    zero_at (x ∷ xs) (suc k) d l = zero_at xs k d (omega arith)

    split : (i : ℕ) → (i ≡ get_or fresh index i) ⊎ Contains less i → Contains less i ⊎ IsSafe F ends slots places lists i (pair_at pairs i)
    split i (inl e) =
        let same : i ≡ s = e ∙ zero_at fresh index i h ∙ sym is in
        inr (subst (λ (k : ℕ). IsSafe F ends slots places lists k (pair_at pairs k)) (sym same) own)
    split i (inr c) = inl c

    cases : (i : ℕ) → Contains fresh i ⊎ IsSafe F ends slots places lists i (pair_at pairs i) → Contains less i ⊎ IsSafe F ends slots places lists i (pair_at pairs i)
    cases i (inl c) = split i (taken_kept fresh less index i t h c)
    cases i (inr g) = inr g

-- a watch leaves its list as another literal is watched in place of its own
pub retaken : (F : List Lit → List Lit → Type 0) (ends : Ends) (slots : List Slot) (places : Counts) (lists : List (List Watch)) (pairs : List Pair) (fresh : List ℕ) (place index to kept : ℕ) (old x : Watch) (ys : List Watch) (p : Pair) → place < length lists → index < length (list_at lists place) → old ≡ get_or (list_at lists place) index old → IsTaken (list_at lists place) ys index → x.slot ≡ old.slot → x.slot < length pairs → to < length (nogood_at slots x.slot) → kept < length (nogood_at slots x.slot) → (lit_at (nogood_at slots x.slot) to ≡ lit_at (nogood_at slots x.slot) kept → ⊥) → x.lit ≡ lit_at (nogood_at slots x.slot) to → Contains (list_at lists (place_of places x.lit)) x → (x ≡ old → ⊥) → ((b a : List Lit) → F b a → implied ends b x.lit ≡ true → HasFalse ends a (nogood_at slots x.slot)) → ((same_lit (lit_at (nogood_at slots x.slot) (pair_at pairs x.slot).first) old.lit ≡ true) × (kept ≡ (pair_at pairs x.slot).second) × (p ≡ record { first = to; second = kept })) ⊎ ((same_lit (lit_at (nogood_at slots x.slot) (pair_at pairs x.slot).first) old.lit ≡ false) × (kept ≡ (pair_at pairs x.slot).first) × (p ≡ record { first = kept; second = to })) → IsWatching F ends slots places lists pairs fresh → IsWatching F ends slots places (set lists place ys) (set pairs x.slot p) fresh
retaken F ends slots places lists pairs fresh place index to kept old x ys p h within is t slot_is s_in to_in kept_in apart lit_is there other calm sides w = record {
  seen = omega (arith, w.seen, length-set pairs x.slot p);
  sound = λ q y c. sound_set slots pairs x.slot p y s_in (first_in sides) (second_in sides) (w.sound q y (back q y c));
  known = w.known;
  each = λ i l. cases i l (i == x.slot) refl;
}
  where
    Sides : Type 0
    Sides = ((same_lit (lit_at (nogood_at slots x.slot) (pair_at pairs x.slot).first) old.lit ≡ true) × (kept ≡ (pair_at pairs x.slot).second) × (p ≡ record { first = to; second = kept })) ⊎ ((same_lit (lit_at (nogood_at slots x.slot) (pair_at pairs x.slot).first) old.lit ≡ false) × (kept ≡ (pair_at pairs x.slot).first) × (p ≡ record { first = kept; second = to }))

    first_in : Sides → p.first < length (nogood_at slots x.slot)
    first_in (inl a) = subst (λ (q : Pair). q.first < length (nogood_at slots x.slot)) (sym a.2) to_in
    first_in (inr a) = subst (λ (q : Pair). q.first < length (nogood_at slots x.slot)) (sym a.2) kept_in

    second_in : Sides → p.second < length (nogood_at slots x.slot)
    second_in (inl a) = subst (λ (q : Pair). q.second < length (nogood_at slots x.slot)) (sym a.2) kept_in
    second_in (inr a) = subst (λ (q : Pair). q.second < length (nogood_at slots x.slot)) (sym a.2) to_in

    back : (q : ℕ) (y : Watch) → Contains (list_at (set lists place ys) q) y → Contains (list_at lists q) y
    back q y c = there_back (q == place) refl
      where
        there_back : (b : Bool) → (q == place) ≡ b → Contains (list_at lists q) y
        there_back true e =
            let same : q ≡ place = equal q place e in
            subst (λ (k : ℕ). Contains (list_at lists k) y) (sym same)
            (taken_from (list_at lists place) ys index y t
            (subst (λ (l : List Watch). Contains l y) (list_at_same lists place ys h)
            (subst (λ (k : ℕ). Contains (list_at (set lists place ys) k) y) same c)))
        there_back false e = subst (λ (l : List Watch). Contains l y) (list_at_other lists q place ys (differ q place e)) c

    left : (y : Watch) → (y ≡ old → ⊥) → (y ≡ get_or (list_at lists place) index y) ⊎ Contains ys y → Contains ys y
    left y ne (inl e) = absurd (ne (e ∙ any_default (list_at lists place) index y old within ∙ sym is))
      where
        any_default : (xs : List Watch) (k : ℕ) (d e : Watch) → k < length xs → get_or xs k d ≡ get_or xs k e
        any_default [] k d e l = absurd (omega arith)
        any_default (z ∷ zs) zero d e l = refl
        any_default (z ∷ zs) (suc k) d e l = any_default zs k d e (omega arith)
    left y ne (inr c) = c

    stays : (q : ℕ) (y : Watch) → (y ≡ old → ⊥) → Contains (list_at lists q) y → Contains (list_at (set lists place ys) q) y
    stays q y ne c = there_stays (q == place) refl
      where
        there_stays : (b : Bool) → (q == place) ≡ b → Contains (list_at (set lists place ys) q) y
        there_stays true e =
            let same : q ≡ place = equal q place e in
            subst (λ (k : ℕ). Contains (list_at (set lists place ys) k) y) (sym same)
            (subst (λ (l : List Watch). Contains l y) (sym (list_at_same lists place ys h))
            (left y ne (taken_kept (list_at lists place) ys index y t within (subst (λ (k : ℕ). Contains (list_at lists k) y) same c))))
        there_stays false e = subst (λ (l : List Watch). Contains l y) (sym (list_at_other lists q place ys (differ q place e))) c

    new_guard : IsGuard F ends slots places (set lists place ys) x.slot (lit_at (nogood_at slots x.slot) to)
    new_guard = subst (IsGuard F ends slots places (set lists place ys) x.slot) lit_is (record { there = (x, stays (place_of places x.lit) x other there, refl, refl); calm = calm })

    old_guard : (l : Lit) → (l ≡ old.lit → ⊥) → IsGuard F ends slots places lists x.slot l → IsGuard F ends slots places (set lists place ys) x.slot l
    old_guard l ne g = record {
      there = (g.there.0, stays (place_of places l) g.there.0 (λ e. ne (sym g.there.3 ∙ ap (λ (y : Watch). y.lit) e)) g.there.1, g.there.2, g.there.3);
      calm = g.calm;
    }

    renewed : Sides → IsWatched F ends slots places lists x.slot (pair_at pairs x.slot) → IsWatched F ends slots places (set lists place ys) x.slot p
    renewed (inl a) g =
        let own : lit_at (nogood_at slots x.slot) (pair_at pairs x.slot).first ≡ old.lit = same_lit-equal (lit_at (nogood_at slots x.slot) (pair_at pairs x.slot).first) old.lit a.0 in
        let ne : lit_at (nogood_at slots x.slot) (pair_at pairs x.slot).second ≡ old.lit → ⊥ = λ e. g.apart (own ∙ sym e) in
        subst (IsWatched F ends slots places (set lists place ys) x.slot) (sym a.2) (record {
          first = to_in;
          second = kept_in;
          apart = apart;
          one = new_guard;
          two = subst (λ (k : ℕ). IsGuard F ends slots places (set lists place ys) x.slot (lit_at (nogood_at slots x.slot) k)) (sym a.1) (old_guard (lit_at (nogood_at slots x.slot) (pair_at pairs x.slot).second) ne g.two);
        })
    renewed (inr a) g =
        let ne : lit_at (nogood_at slots x.slot) (pair_at pairs x.slot).first ≡ old.lit → ⊥ = λ e. clash (sym (ap (λ (l : Lit). same_lit l old.lit) e ∙ same_refl old.lit) ∙ a.0) in
        subst (IsWatched F ends slots places (set lists place ys) x.slot) (sym a.2) (record {
          first = kept_in;
          second = to_in;
          apart = λ e. apart (sym e);
          one = subst (λ (k : ℕ). IsGuard F ends slots places (set lists place ys) x.slot (lit_at (nogood_at slots x.slot) k)) (sym a.1) (old_guard (lit_at (nogood_at slots x.slot) (pair_at pairs x.slot).first) ne g.one);
          two = new_guard;
        })

    own_case : Contains fresh x.slot ⊎ IsSafe F ends slots places lists x.slot (pair_at pairs x.slot) → Contains fresh x.slot ⊎ IsSafe F ends slots places (set lists place ys) x.slot (pair_at (set pairs x.slot p) x.slot)
    own_case (inl c) = inl c
    own_case (inr (inl g)) = inr (inl (subst (IsWatched F ends slots places (set lists place ys) x.slot) (sym (get_or-set_same pairs x.slot p (record { first = 0; second = 0 }) s_in)) (renewed sides g)))
    own_case (inr (inr s)) = inr (inr s)

    other_case : (i : ℕ) → (i ≡ x.slot → ⊥) → pair_at (set pairs x.slot p) i ≡ pair_at pairs i → Contains fresh i ⊎ IsSafe F ends slots places lists i (pair_at pairs i) → Contains fresh i ⊎ IsSafe F ends slots places (set lists place ys) i (pair_at (set pairs x.slot p) i)
    other_case i ne e (inl c) = inl c
    other_case i ne e (inr g) =
        inr (subst (IsSafe F ends slots places (set lists place ys) i) (sym e)
        (safe_carried F ends slots places lists (set lists place ys) i (pair_at pairs i) (λ l y c f m. stays (place_of places l) y (λ same. ne (sym f ∙ ap (λ (v : Watch). v.slot) same ∙ sym slot_is)) c) g))

    cases : (i : ℕ) → i < length (set pairs x.slot p) → (b : Bool) → (i == x.slot) ≡ b → Contains fresh i ⊎ IsSafe F ends slots places (set lists place ys) i (pair_at (set pairs x.slot p) i)
    cases i l true e = subst (λ (k : ℕ). Contains fresh k ⊎ IsSafe F ends slots places (set lists place ys) k (pair_at (set pairs x.slot p) k)) (sym (equal i x.slot e)) (own_case (w.each x.slot s_in))
    cases i l false e = other_case i (differ i x.slot e) (get_or-set_other pairs x.slot i p (record { first = 0; second = 0 }) (differ i x.slot e)) (w.each i (omega (arith, l, length-set pairs x.slot p)))

-- one more fresh slot
pub fresh_more : (F : List Lit → List Lit → Type 0) (ends : Ends) (slots : List Slot) (places : Counts) (lists : List (List Watch)) (pairs : List Pair) (fresh : List ℕ) (s : ℕ) → s < length slots → IsWatching F ends slots places lists pairs fresh → IsWatching F ends slots places lists pairs (fresh ++ s ∷ [])
fresh_more F ends slots places lists pairs fresh s h w = record {
  seen = w.seen;
  sound = w.sound;
  known = λ i c. known i (Contains-append_cases fresh (s ∷ []) i c);
  each = λ i l. cases i (w.each i l);
}
  where
    one_only : (i k : ℕ) → k < length (s ∷ []) → get_or (s ∷ []) k i ≡ i → i < length slots
    one_only i zero l e = subst (λ (j : ℕ). j < length slots) e h
    one_only i (suc k) l e = absurd (omega arith)

    known : (i : ℕ) → Contains fresh i ⊎ Contains (s ∷ []) i → i < length slots
    known i (inl c) = w.known i c
    known i (inr c) = one_only i c.0 c.1 c.2

    cases : (i : ℕ) → Contains fresh i ⊎ IsSafe F ends slots places lists i (pair_at pairs i) → Contains (fresh ++ s ∷ []) i ⊎ IsSafe F ends slots places lists i (pair_at pairs i)
    cases i (inl c) = inl (Contains-append_left fresh (s ∷ []) i c)
    cases i (inr g) = inr g

-- one more slot that was seen, which is fresh
pub pairs_more : (F : List Lit → List Lit → Type 0) (ends : Ends) (slots : List Slot) (places : Counts) (lists : List (List Watch)) (pairs : List Pair) (fresh : List ℕ) (p : Pair) → length pairs < length slots → Contains fresh (length pairs) → IsWatching F ends slots places lists pairs fresh → IsWatching F ends slots places lists (pairs ++ p ∷ []) fresh
pairs_more F ends slots places lists pairs fresh p h c w = record {
  seen = omega (arith, h, length-append pairs (p ∷ []));
  sound = λ q y d. sound y (w.sound q y d);
  known = w.known;
  each = λ i l. cases i l (nat_lt i (length pairs)) refl;
}
  where
    size : length (pairs ++ p ∷ []) ≡ length pairs + 1
    size = length-append pairs (p ∷ [])

    same : (i : ℕ) → i < length pairs → pair_at (pairs ++ p ∷ []) i ≡ pair_at pairs i
    same i l = get_or_append_left pairs (p ∷ []) (record { first = 0; second = 0 }) i l

    sound : (y : Watch) → IsSound slots pairs y → IsSound slots (pairs ++ p ∷ []) y
    sound y x = record {
      slot = omega (arith, x.slot, size);
      first = subst (λ (q : Pair). q.first < length (nogood_at slots y.slot)) (sym (same y.slot x.slot)) x.first;
      second = subst (λ (q : Pair). q.second < length (nogood_at slots y.slot)) (sym (same y.slot x.slot)) x.second;
      other = x.other;
    }

    keep : (i : ℕ) → pair_at (pairs ++ p ∷ []) i ≡ pair_at pairs i → Contains fresh i ⊎ IsSafe F ends slots places lists i (pair_at pairs i) → Contains fresh i ⊎ IsSafe F ends slots places lists i (pair_at (pairs ++ p ∷ []) i)
    keep i e (inl d) = inl d
    keep i e (inr g) = inr (subst (IsSafe F ends slots places lists i) (sym e) g)

    cases : (i : ℕ) → i < length (pairs ++ p ∷ []) → (b : Bool) → nat_lt i (length pairs) ≡ b → Contains fresh i ⊎ IsSafe F ends slots places lists i (pair_at (pairs ++ p ∷ []) i)
    cases i l true e =
        let less : i < length pairs = grind (arith, nat_tests) in
        keep i (same i less) (w.each i less)
    cases i l false e =
        let over : length pairs ≤ i = grind (arith, nat_tests) in
        let last : i ≡ length pairs = omega (arith, over, l, size) in
        inl (subst (Contains fresh) (sym last) c)

-- nothing watched
pub blank : (F : List Lit → List Lit → Type 0) (ends : Ends) (slots : List Slot) (places : Counts) (lists : List (List Watch)) (pairs : List Pair) (fresh : List ℕ) → ((p : ℕ) → list_at lists p ≡ []) → pairs ≡ [] → fresh ≡ [] → IsWatching F ends slots places lists pairs fresh
blank F ends slots places lists pairs fresh none e f = record {
  seen = omega (arith, ap length e);
  sound = λ p x c. absurd (nothing x (subst (λ (l : List Watch). Contains l x) (none p) c));
  known = λ i c. absurd (no_fresh i (subst (λ (l : List ℕ). Contains l i) f c));
  each = λ i l. absurd (omega (arith, l, ap length e));
}
  where
    nothing : (x : Watch) → Contains [] x → ⊥
    nothing x c = omega (arith, c.1)

    no_fresh : (i : ℕ) → Contains [] i → ⊥
    no_fresh i c = omega (arith, c.1)

-- one more slot
pub slot_same : (slots : List Slot) (s : Slot) (i : ℕ) → i < length slots → nogood_at (slots ++ s ∷ []) i ≡ nogood_at slots i
slot_same slots s i h = ap (λ (r : Slot). r.nogood) (get_or_append_left slots (s ∷ []) (record { id = 0; nogood = [] }) i h)

pub slots_more : (F : List Lit → List Lit → Type 0) (ends : Ends) (slots : List Slot) (places : Counts) (lists : List (List Watch)) (pairs : List Pair) (fresh : List ℕ) (s : Slot) → IsWatching F ends slots places lists pairs fresh → IsWatching F ends (slots ++ s ∷ []) places lists pairs fresh
slots_more F ends slots places lists pairs fresh s w = record {
  seen = omega (arith, w.seen, length-append slots (s ∷ []));
  sound = λ q y d. sound y (w.sound q y d);
  known = λ i c. omega (arith, w.known i c, length-append slots (s ∷ []));
  each = λ i l. cases i (omega (arith, l, w.seen)) (w.each i l);
}
  where
    sound : (y : Watch) → IsSound slots pairs y → IsSound (slots ++ s ∷ []) pairs y
    sound y x =
        let e : nogood_at (slots ++ s ∷ []) y.slot ≡ nogood_at slots y.slot = slot_same slots s y.slot (omega (arith, x.slot, w.seen)) in
        record {
          slot = x.slot;
          first = subst (λ (n : List Lit). (pair_at pairs y.slot).first < length n) (sym e) x.first;
          second = subst (λ (n : List Lit). (pair_at pairs y.slot).second < length n) (sym e) x.second;
          other = subst (λ (n : List Lit). Contains n y.other) (sym e) x.other;
        }

    guard : (i : ℕ) (l : Lit) → nogood_at (slots ++ s ∷ []) i ≡ nogood_at slots i → IsGuard F ends slots places lists i l → IsGuard F ends (slots ++ s ∷ []) places lists i l
    guard i l e g = record {
      there = g.there;
      calm = λ b a m h. subst (HasFalse ends a) (sym e) (g.calm b a m h);
    }

    watched : (i : ℕ) (p : Pair) → nogood_at (slots ++ s ∷ []) i ≡ nogood_at slots i → IsWatched F ends slots places lists i p → IsWatched F ends (slots ++ s ∷ []) places lists i p
    watched i p e g = record {
      first = subst (λ (n : List Lit). p.first < length n) (sym e) g.first;
      second = subst (λ (n : List Lit). p.second < length n) (sym e) g.second;
      apart = subst (λ (n : List Lit). lit_at n p.first ≡ lit_at n p.second → ⊥) (sym e) g.apart;
      one = subst (λ (n : List Lit). IsGuard F ends (slots ++ s ∷ []) places lists i (lit_at n p.first)) (sym e) (guard i (lit_at (nogood_at slots i) p.first) e g.one);
      two = subst (λ (n : List Lit). IsGuard F ends (slots ++ s ∷ []) places lists i (lit_at n p.second)) (sym e) (guard i (lit_at (nogood_at slots i) p.second) e g.two);
    }

    cases : (i : ℕ) → i < length slots → Contains fresh i ⊎ IsSafe F ends slots places lists i (pair_at pairs i) → Contains fresh i ⊎ IsSafe F ends (slots ++ s ∷ []) places lists i (pair_at pairs i)
    cases i l (inl c) = inl c
    cases i l (inr (inl g)) = inr (inl (watched i (pair_at pairs i) (slot_same slots s i l) g))
    cases i l (inr (inr g)) = inr (inr (λ b a m. subst (HasFalse ends a) (sym (slot_same slots s i l)) (g b a m)))
