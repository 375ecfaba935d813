-- Watches in lists: one more, and one taken out.
use Rattle.std.proofs.Common.{◌≡◌, ℕ, zero, suc, ◌+◌, ◌-◌, ◌<◌, ◌≤◌, ◌==◌, ◌⊎◌, inl, inr, Bool, true, false, List, [], ◌∷◌, ◌++◌, length, get_or, set, refl, sym, ◌∙◌, ap, subst, arith, length-append}
use Rattle.std.specs.Prelude.{nat_lt}
use Rattle.std.specs.List.{Contains}
use Rattle.std.proofs.lemmas.List.{get_or-set_same, get_or-set_other, get_or_append_left}
use Rattle.std.proofs.lemmas.List.Elements.{Contains-append_left, Contains-append_right, Contains-append_cases}
use Rattle.std.proofs.Math.Seq.{get_or-append_seam}
use Rattle.std.proofs.lemmas.Bool.Decides.{nat_tests}
use Rattle.literals.specs.declared.lit.Lit.{Lit}
use Rattle.literals.specs.declared.places.Counts.{Counts}
use Rattle.literals.specs.Lits.{implies_lit}
use Rattle.literals.specs.Places.{place_of}
use Rattle.trail.specs.Assignment.{Assignment, is_true_on, lits_of}
use Rattle.trail.proofs.ImpliedLaws.{implied_trans}
use Rattle.nogood_store.specs.declared.slot.Slot.{Slot}
use Rattle.nogood_store.specs.declared.watch.Watch.{Watch}
use Rattle.nogood_store.specs.inner.Watching.{nogood_at, list_at, with_watch, IsTaken, HasFalseOn, IsDone, IsDoneIn, AreDone}

clash : {X : Type 0} → true ≡ false → X
clash h = cc

pub equal : (p q : ℕ) → (p == q) ≡ true → p ≡ q
equal p q h = grind (arith, nat_tests)

pub differ : (p q : ℕ) → (p == q) ≡ false → p ≡ q → ⊥
differ p q h e = grind (arith, nat_tests)

pub list_at_same : (lists : List (List Watch)) (q : ℕ) (v : List Watch) → q < length lists → list_at (set lists q v) q ≡ v
list_at_same lists q v h = get_or-set_same lists q v [] h

pub list_at_other : (lists : List (List Watch)) (p q : ℕ) (v : List Watch) → (p ≡ q → ⊥) → list_at (set lists q v) p ≡ list_at lists p
list_at_other lists p q v ne = get_or-set_other lists q p v [] ne

abbrev more : Counts → List (List Watch) → Watch → List Watch
more places lists x = list_at lists (place_of places x.lit) ++ x ∷ []

-- one more watch
pub contains_kept : (places : Counts) (lists : List (List Watch)) (x : Watch) (p : ℕ) (y : Watch) → place_of places x.lit < length lists → Contains (list_at lists p) y → Contains (list_at (with_watch places lists x) p) y
contains_kept places lists x p y h c = cases (p == place_of places x.lit) refl
  where
    cases : (b : Bool) → (p == place_of places x.lit) ≡ b → Contains (list_at (with_watch places lists x) p) y
    cases true e =
        let same : p ≡ place_of places x.lit = equal p (place_of places x.lit) e in
        subst (λ (q : ℕ). Contains (list_at (with_watch places lists x) q) y) (sym same)
        (subst (λ (l : List Watch). Contains l y) (sym (list_at_same lists (place_of places x.lit) (more places lists x) h))
        (Contains-append_left (list_at lists (place_of places x.lit)) (x ∷ []) y (subst (λ (q : ℕ). Contains (list_at lists q) y) same c)))
    cases false e = subst (λ (l : List Watch). Contains l y) (sym (list_at_other lists p (place_of places x.lit) (more places lists x) (differ p (place_of places x.lit) e))) c

pub contains_new : (places : Counts) (lists : List (List Watch)) (x : Watch) → place_of places x.lit < length lists → Contains (list_at (with_watch places lists x) (place_of places x.lit)) x
contains_new places lists x h =
    subst (λ (l : List Watch). Contains l x) (sym (list_at_same lists (place_of places x.lit) (more places lists x) h))
    (Contains-append_right (list_at lists (place_of places x.lit)) (x ∷ []) x (0, omega arith, refl))

contains_one : (x y : Watch) → Contains (x ∷ []) y → y ≡ x
contains_one x y c = at c.0 c.1 c.2
  where
    at : (k : ℕ) → k < length (x ∷ []) → get_or (x ∷ []) k y ≡ y → y ≡ x
    at zero h e = sym e
    at (suc k) h e = absurd (omega arith)

pub contains_from : (places : Counts) (lists : List (List Watch)) (x : Watch) (p : ℕ) (y : Watch) → place_of places x.lit < length lists → Contains (list_at (with_watch places lists x) p) y → Contains (list_at lists p) y ⊎ (y ≡ x)
contains_from places lists x p y h c = cases (p == place_of places x.lit) refl
  where
    split : p ≡ place_of places x.lit → Contains (list_at lists (place_of places x.lit)) y ⊎ Contains (x ∷ []) y → Contains (list_at lists p) y ⊎ (y ≡ x)
    split same (inl d) = inl (subst (λ (q : ℕ). Contains (list_at lists q) y) (sym same) d)
    split same (inr d) = inr (contains_one x y d)

    cases : (b : Bool) → (p == place_of places x.lit) ≡ b → Contains (list_at lists p) y ⊎ (y ≡ x)
    cases true e =
        let same : p ≡ place_of places x.lit = equal p (place_of places x.lit) e in
        split same (Contains-append_cases (list_at lists (place_of places x.lit)) (x ∷ []) y
        (subst (λ (l : List Watch). Contains l y) (list_at_same lists (place_of places x.lit) (more places lists x) h)
        (subst (λ (q : ℕ). Contains (list_at (with_watch places lists x) q) y) same c)))
    cases false e = inl (subst (λ (l : List Watch). Contains l y) (list_at_other lists p (place_of places x.lit) (more places lists x) (differ p (place_of places x.lit) e)) c)

-- one taken out
pub taken_kept : {X : Type 0} (xs ys : List X) (i : ℕ) (z : X) → IsTaken xs ys i → i < length xs → Contains xs z → (z ≡ get_or xs i z) ⊎ Contains ys z
taken_kept xs ys i z t h c = cases (c.0 == i) refl (nat_lt (c.0 + 1) (length xs)) refl
  where
    cases : (b : Bool) → (c.0 == i) ≡ b → (l : Bool) → nat_lt (c.0 + 1) (length xs) ≡ l → (z ≡ get_or xs i z) ⊎ Contains ys z
    cases true e l f = inl (sym c.2 ∙ ap (λ (k : ℕ). get_or xs k z) (equal c.0 i e))
    cases false e true f =
        let less : c.0 + 1 < length xs = grind (arith, nat_tests) in
        inr (c.0, omega (arith, t.count, less), t.others c.0 z (differ c.0 i e) less ∙ c.2)
    cases false e false f =
        let over : length xs ≤ c.0 + 1 = grind (arith, nat_tests) in
        let within : c.0 < length xs = c.1 in
        let last : length xs - 1 ≡ c.0 = omega (arith, over, within) in
        let ne : c.0 ≡ i → ⊥ = differ c.0 i e in
        let less : i + 1 < length xs = omega (arith, over, within, h, ne) in
        inr (i, omega (arith, t.count, less), t.moved z less ∙ ap (λ (k : ℕ). get_or xs k z) last ∙ c.2)

pub taken_from : {X : Type 0} (xs ys : List X) (i : ℕ) (z : X) → IsTaken xs ys i → Contains ys z → Contains xs z
taken_from xs ys i z t c = cases (c.0 == i) refl
  where
    cases : (b : Bool) → (c.0 == i) ≡ b → Contains xs z
    cases true e =
        let same : c.0 ≡ i = equal c.0 i e in
        let within : c.0 < length ys = c.1 in
        let less : i + 1 < length xs = omega (arith, t.count, within, same) in
        (length xs - 1, omega (arith, less), sym (t.moved z less) ∙ ap (λ (k : ℕ). get_or ys k z) (sym same) ∙ c.2)
    cases false e =
        let within : c.0 < length ys = c.1 in
        let less : c.0 + 1 < length xs = omega (arith, t.count, within) in
        (c.0, omega (arith, less), sym (t.others c.0 z (differ c.0 i e) less) ∙ c.2)

pub taken_get : {X : Type 0} (xs ys : List X) (i k : ℕ) (d : X) → IsTaken xs ys i → k < length ys → ((k ≡ i → ⊥) × (get_or ys k d ≡ get_or xs k d)) ⊎ ((k ≡ i) × (get_or ys k d ≡ get_or xs (length xs - 1) d))
taken_get xs ys i k d t h = cases (k == i) refl
  where
    cases : (b : Bool) → (k == i) ≡ b → ((k ≡ i → ⊥) × (get_or ys k d ≡ get_or xs k d)) ⊎ ((k ≡ i) × (get_or ys k d ≡ get_or xs (length xs - 1) d))
    cases true e =
        let same : k ≡ i = equal k i e in
        let less : i + 1 < length xs = omega (arith, t.count, h, same) in
        inr (same, ap (λ (j : ℕ). get_or ys j d) same ∙ t.moved d less)
    cases false e =
        let less : k + 1 < length xs = omega (arith, t.count, h) in
        inl (differ k i e, t.others k d (differ k i e) less)

-- what was done stays done
pub apart_true : (t : Assignment) (lit l : Lit) → is_true_on t lit ≡ true → is_true_on t l ≡ false → implies_lit lit l ≡ true → ⊥
apart_true t lit l h e i = clash (sym (implied_trans t.shape.ends (lits_of t.entries) lit l i h) ∙ e)

done_push : (slots : List Slot) (list : List Watch) (t : Assignment) (lit : Lit) (from : ℕ) (x : Watch) → (implies_lit lit x.lit ≡ true → ⊥) → IsDoneIn slots list t lit from → IsDoneIn slots (list ++ x ∷ []) t lit from
done_push slots list t lit from x never done k d le lt imp = cases (nat_lt k (length list)) refl
  where
    cases : (b : Bool) → nat_lt k (length list) ≡ b → HasFalseOn t (nogood_at slots (get_or (list ++ x ∷ []) k d).slot)
    cases true f =
        let less : k < length list = grind (arith, nat_tests) in
        let e : get_or (list ++ x ∷ []) k d ≡ get_or list k d = get_or_append_left list (x ∷ []) d k less in
        subst (λ (w : Watch). HasFalseOn t (nogood_at slots w.slot)) (sym e) (done k d le less (subst (λ (w : Watch). implies_lit lit w.lit ≡ true) e imp))
    cases false f =
        let over : length list ≤ k = grind (arith, nat_tests) in
        let size : length (list ++ x ∷ []) ≡ length list + 1 = length-append list (x ∷ []) in
        let last : k ≡ length list = omega (arith, over, lt, size) in
        let e : get_or (list ++ x ∷ []) k d ≡ x = ap (λ (j : ℕ). get_or (list ++ x ∷ []) j d) last ∙ get_or-append_seam list x [] d in
        absurd (never (subst (λ (w : Watch). implies_lit lit w.lit ≡ true) e imp))

pub done_added : (slots : List Slot) (places : Counts) (lists : List (List Watch)) (x : Watch) (t : Assignment) (place : ℕ) (lit : Lit) (from : ℕ) → place_of places x.lit < length lists → is_true_on t lit ≡ true → is_true_on t x.lit ≡ false → IsDone slots lists t place lit from → IsDone slots (with_watch places lists x) t place lit from
done_added slots places lists x t place lit from h yes_ no_ done = cases (place == place_of places x.lit) refl
  where
    cases : (b : Bool) → (place == place_of places x.lit) ≡ b → IsDone slots (with_watch places lists x) t place lit from
    cases true e =
        let same : place ≡ place_of places x.lit = equal place (place_of places x.lit) e in
        subst (λ (q : ℕ). IsDoneIn slots (list_at (with_watch places lists x) q) t lit from) (sym same)
        (subst (λ (l : List Watch). IsDoneIn slots l t lit from) (sym (list_at_same lists (place_of places x.lit) (more places lists x) h))
        (done_push slots (list_at lists (place_of places x.lit)) t lit from x (apart_true t lit x.lit yes_ no_)
        (subst (λ (q : ℕ). IsDoneIn slots (list_at lists q) t lit from) same done)))
    cases false e = subst (λ (l : List Watch). IsDoneIn slots l t lit from) (sym (list_at_other lists place (place_of places x.lit) (more places lists x) (differ place (place_of places x.lit) e))) done

pub done_taken : (slots : List Slot) (xs ys : List Watch) (t : Assignment) (lit : Lit) (index : ℕ) → IsTaken xs ys index → IsDoneIn slots xs t lit (index + 1) → IsDoneIn slots ys t lit index
done_taken slots xs ys t lit index taken done k d le lt imp = cases (taken_get xs ys index k d taken lt)
  where
    cases : ((k ≡ index → ⊥) × (get_or ys k d ≡ get_or xs k d)) ⊎ ((k ≡ index) × (get_or ys k d ≡ get_or xs (length xs - 1) d)) → HasFalseOn t (nogood_at slots (get_or ys k d).slot)
    cases (inl c) =
        let ne : k ≡ index → ⊥ = c.0 in
        let over : index + 1 ≤ k = omega (arith, le, ne) in
        subst (λ (w : Watch). HasFalseOn t (nogood_at slots w.slot)) (sym c.1) (done k d over (omega (arith, lt, taken.count)) (subst (λ (w : Watch). implies_lit lit w.lit ≡ true) c.1 imp))
    cases (inr c) =
        let same : k ≡ index = c.0 in
        subst (λ (w : Watch). HasFalseOn t (nogood_at slots w.slot)) (sym c.1) (done (length xs - 1) d (omega (arith, lt, taken.count, same)) (omega (arith, lt, taken.count)) (subst (λ (w : Watch). implies_lit lit w.lit ≡ true) c.1 imp))

pub fresh_done : (slots : List Slot) (xs ys : List ℕ) (t : Assignment) (index : ℕ) → IsTaken xs ys index → AreDone slots xs t (index + 1) → AreDone slots ys t index
fresh_done slots xs ys t index taken done k le lt = cases (taken_get xs ys index k 0 taken lt)
  where
    cases : ((k ≡ index → ⊥) × (get_or ys k 0 ≡ get_or xs k 0)) ⊎ ((k ≡ index) × (get_or ys k 0 ≡ get_or xs (length xs - 1) 0)) → HasFalseOn t (nogood_at slots (get_or ys k 0))
    cases (inl c) =
        let ne : k ≡ index → ⊥ = c.0 in
        let over : index + 1 ≤ k = omega (arith, le, ne) in
        subst (λ (s : ℕ). HasFalseOn t (nogood_at slots s)) (sym c.1) (done k over (omega (arith, lt, taken.count)))
    cases (inr c) =
        let same : k ≡ index = c.0 in
        subst (λ (s : ℕ). HasFalseOn t (nogood_at slots s)) (sym c.1) (done (length xs - 1) (omega (arith, lt, taken.count, same)) (omega (arith, lt, taken.count)))
