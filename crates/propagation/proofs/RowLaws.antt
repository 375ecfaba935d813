-- Rows as propagators are put into them.
use Rattle.std.proofs.Common.{◌⊎◌, inl, inr, ◌≡◌, ℕ, zero, suc, ◌+◌, ◌<◌, ◌≤◌, List, [], ◌∷◌, ◌++◌, length, get_or, set, take, map, slice_get, option_map, Some, Result, Ok, Err, OnOk, refl, sym, ◌∙◌, ap, subst, arith}
use Rattle.std.specs.List.{All, AllByRecursion, Contains}
use Rattle.std.proofs.lemmas.List.{take_more, take_all, get_or-set_other, length-append}
use Rattle.std.proofs.lemmas.Grind.{get_or-set_at}
use Rattle.std.proofs.lemmas.List.Elements.{Contains-append_left, Contains-push, Contains-push_cases}
use Rattle.std.proofs.lemmas.Option.{slice_get-map, slice_get-get_or, slice_get_within}
use Rattle.trail.specs.declared.shape.Shape.{Shape}
use Rattle.propagator_core.specs.declared.touch.Touch.{Touch}
use Rattle.propagator_core.specs.declared.touch.Touch.TheVariants.{Bounds, Truth}
use Rattle.propagator_core.specs.Meaning.{Meaning}
use Rattle.propagator_core.specs.Quiet.{IsSteady}
use Rattle.propagation.specs.Waking.{Rows, row_of, HasRows, AreWithin, AreWakes}
use Rattle.propagation.specs.inner.Hearing.{AreKept, EachIsKept, StandsIn, FirstAreWakes, FirstAreSteady}

-- EMPTY ROWS

push_none : (rows : List (List ℕ)) (at : ℕ) → get_or (rows ++ [] ∷ []) at [] ≡ get_or rows at []
push_none [] zero = refl
push_none [] (suc at) = refl
push_none (r ∷ rs) zero = refl
push_none (r ∷ rs) (suc at) = push_none rs at

pub kept_none : (first rows : List (List ℕ)) → EachIsKept first rows → EachIsKept first (rows ++ [] ∷ [])
kept_none first rows kept at i c = subst (λ r. Contains r i) (sym (push_none rows at)) (kept at i c)

pub within_none : (n : ℕ) (rows : List (List ℕ)) → AreWithin n rows → AreWithin n (rows ++ [] ∷ [])
within_none n [] a = (tt, tt)
within_none n (r ∷ rs) a = (a.0, within_none n rs a.1)

pub none_added : (rows now : List (List ℕ)) (row : List ℕ) → now ≡ rows ++ row ∷ [] → row ≡ [] → now ≡ rows ++ [] ∷ []
none_added rows now row is none = is ∙ ap (λ r. rows ++ r ∷ []) none

pub longer_none : (rows now : List (List ℕ)) → now ≡ rows ++ [] ∷ [] → length now ≡ length rows + 1
longer_none rows now is = ap length is ∙ length-append rows ([] ∷ [])

pub each_same : (rows : List (List ℕ)) → EachIsKept rows rows
each_same rows at i c = c

-- ONE PLACE MORE

push_within : (n : ℕ) (row : List ℕ) (place : ℕ) → place < n → AllByRecursion (λ i. i < n) row → AllByRecursion (λ i. i < n) (row ++ place ∷ [])
push_within n [] place lt a = (lt, tt)
push_within n (i ∷ is) place lt a = (a.0, push_within n is place lt a.1)

pub set_within : (n : ℕ) (rows : List (List ℕ)) (at place : ℕ) → place < n → AreWithin n rows → AreWithin n (set rows at (get_or rows at [] ++ place ∷ []))
set_within n [] at place lt a = tt
set_within n (r ∷ rs) zero place lt a = (push_within n r place lt a.0, a.1)
set_within n (r ∷ rs) (suc at) place lt a = (a.0, set_within n rs at place lt a.1)

decide : (i k : ℕ) → (i ≡ k) ⊎ ¬ (i ≡ k)
decide i k = grind arith

pub set_kept : (first rows : List (List ℕ)) (at place : ℕ) → at < length rows → EachIsKept first rows → EachIsKept first (set rows at (get_or rows at [] ++ place ∷ []))
set_kept first rows at place lt kept k i c = by_place (decide k at)
  where
    now : List (List ℕ)
    now = set rows at (get_or rows at [] ++ place ∷ [])

    by_place : (k ≡ at) ⊎ ¬ (k ≡ at) → Contains (get_or now k []) i
    by_place (inl same) =
        subst (λ r. Contains r i) (sym (get_or-set_at rows at k (get_or rows at [] ++ place ∷ []) [] same lt))
        (Contains-append_left (get_or rows at []) (place ∷ []) i (subst (λ q. Contains (get_or rows q []) i) same (kept k i c)))
    by_place (inr other) = subst (λ r. Contains r i) (sym (get_or-set_other rows at k (get_or rows at [] ++ place ∷ []) [] other)) (kept k i c)

pub set_there : (rows : List (List ℕ)) (at place : ℕ) → at < length rows → Contains (get_or (set rows at (get_or rows at [] ++ place ∷ [])) at []) place
set_there rows at place lt = subst (λ r. Contains r place) (sym (get_or-set_at rows at at (get_or rows at [] ++ place ∷ []) [] refl lt)) (Contains-push (get_or rows at []) place)

same_row : (rows : List (List ℕ)) (at : ℕ) (a b : List ℕ) → at < length rows → get_or rows at a ≡ get_or rows at b
same_row [] at a b lt = absurd (omega (arith, lt))
same_row (r ∷ rs) zero a b lt = refl
same_row (r ∷ rs) (suc at) a b lt = same_row rs at a b (omega (arith, lt))

pushed : (rows : List (List ℕ)) (at place : ℕ) (old row : List ℕ) → at < length rows → old ≡ get_or rows at old → row ≡ old ++ place ∷ [] → get_or rows at [] ++ place ∷ [] ≡ row
pushed rows at place old row lt is e = ap (λ r. r ++ place ∷ []) (same_row rows at [] old lt ∙ sym is) ∙ sym e

pub put_kept : (first rows : List (List ℕ)) (at place : ℕ) (old row : List ℕ) → at + 1 ≤ length rows → old ≡ get_or rows at old → row ≡ old ++ place ∷ [] → EachIsKept first rows → EachIsKept first (set rows at row)
put_kept first rows at place old row lt is e kept = subst (λ r. EachIsKept first (set rows at r)) (pushed rows at place old row (omega (arith, lt)) is e) (set_kept first rows at place (omega (arith, lt)) kept)

pub put_within : (first rows : List (List ℕ)) (at place : ℕ) (old row : List ℕ) → at + 1 ≤ length rows → old ≡ get_or rows at old → row ≡ old ++ place ∷ [] → ((n : ℕ) → AreWithin n first → AreWithin n rows) → (n : ℕ) → place < n → AreWithin n first → AreWithin n (set rows at row)
put_within first rows at place old row lt is e within n less a = subst (λ r. AreWithin n (set rows at r)) (pushed rows at place old row (omega (arith, lt)) is e) (set_within n rows at place less (within n a))

pub put_there : (rows : List (List ℕ)) (at place : ℕ) (old row : List ℕ) → at + 1 ≤ length rows → old ≡ get_or rows at old → row ≡ old ++ place ∷ [] → Contains (get_or (set rows at row) at []) place
put_there rows at place old row lt is e = subst (λ r. Contains (get_or (set rows at r) at []) place) (pushed rows at place old row (omega (arith, lt)) is e) (set_there rows at place (omega (arith, lt)))

-- THE ROWS OF WHAT IS TOUCHED

pub kept_bounds : (old new : Rows) → EachIsKept old.bounds new.bounds → new.truths ≡ old.truths → AreKept old new
kept_bounds old new kept same (Bounds x) i c = kept x i c
kept_bounds old new kept same (Truth n) i c = subst (λ (rs : List (List ℕ)). Contains (get_or rs n []) i) (sym same) c

pub kept_truths : (old new : Rows) → EachIsKept old.truths new.truths → new.bounds ≡ old.bounds → AreKept old new
kept_truths old new kept same (Truth n) i c = kept n i c
kept_truths old new kept same (Bounds x) i c = subst (λ (rs : List (List ℕ)). Contains (get_or rs x []) i) (sym same) c

pub rows_bounds : (s : Shape) (n : ℕ) (old new : Rows) → length old.bounds ≤ length new.bounds → (AreWithin n old.bounds → AreWithin n new.bounds) → new.truths ≡ old.truths → HasRows s n old → HasRows s n new
rows_bounds s n old new longer within same h = record {
  bounds = let had = h.bounds in omega (arith, longer, had);
  truths = subst (λ (rs : List (List ℕ)). s.constraints < length rs) (sym same) h.truths;
  bounds_within = within h.bounds_within;
  truths_within = subst (AreWithin n) (sym same) h.truths_within;
}

pub rows_truths : (s : Shape) (n : ℕ) (old new : Rows) → length old.truths ≤ length new.truths → (AreWithin n old.truths → AreWithin n new.truths) → new.bounds ≡ old.bounds → HasRows s n old → HasRows s n new
rows_truths s n old new longer within same h = record {
  bounds = subst (λ (rs : List (List ℕ)). s.variables < length rs) (sym same) h.bounds;
  truths = let had = h.truths in omega (arith, longer, had);
  bounds_within = subst (AreWithin n) (sym same) h.bounds_within;
  truths_within = within h.truths_within;
}

pub note_bounds : (old : Rows) (before bounds truths : List (List ℕ)) → record { bounds = before; truths = truths } ≡ old → EachIsKept before bounds → AreKept old (record { bounds = bounds; truths = truths })
note_bounds old before bounds truths is kept = subst (λ (w : Rows). AreKept w (record { bounds = bounds; truths = truths })) is (kept_bounds (record { bounds = before; truths = truths }) (record { bounds = bounds; truths = truths }) kept refl)

pub note_truths : (old : Rows) (before bounds truths : List (List ℕ)) → record { bounds = bounds; truths = before } ≡ old → EachIsKept before truths → AreKept old (record { bounds = bounds; truths = truths })
note_truths old before bounds truths is kept = subst (λ (w : Rows). AreKept w (record { bounds = bounds; truths = truths })) is (kept_truths (record { bounds = bounds; truths = before }) (record { bounds = bounds; truths = truths }) kept refl)

pub more_bounds : (old : Rows) (place : ℕ) (before bounds truths : List (List ℕ)) → record { bounds = before; truths = truths } ≡ old → length before ≤ length bounds → ((n : ℕ) → place < n → AreWithin n before → AreWithin n bounds)
    → (s : Shape) (n : ℕ) → place < n → HasRows s n old → HasRows s n (record { bounds = bounds; truths = truths })
more_bounds old place before bounds truths is longer within s n lt h =
    rows_bounds s n (record { bounds = before; truths = truths }) (record { bounds = bounds; truths = truths }) longer (within n lt) refl (subst (HasRows s n) (sym is) h)

pub more_truths : (old : Rows) (place : ℕ) (before bounds truths : List (List ℕ)) → record { bounds = bounds; truths = before } ≡ old → length before ≤ length truths → ((n : ℕ) → place < n → AreWithin n before → AreWithin n truths)
    → (s : Shape) (n : ℕ) → place < n → HasRows s n old → HasRows s n (record { bounds = bounds; truths = truths })
more_truths old place before bounds truths is longer within s n lt h =
    rows_truths s n (record { bounds = bounds; truths = before }) (record { bounds = bounds; truths = truths }) longer (within n lt) refl (subst (HasRows s n) (sym is) h)

pub there_bounds : (bounds truths : List (List ℕ)) (touch : Touch) (x place : ℕ) → touch ≡ Bounds x → Contains (get_or bounds x []) place → Contains (row_of (record { bounds = bounds; truths = truths }) touch) place
there_bounds bounds truths touch x place is c = subst (λ t. Contains (row_of (record { bounds = bounds; truths = truths }) t) place) (sym is) c

pub there_truths : (bounds truths : List (List ℕ)) (touch : Touch) (n place : ℕ) → touch ≡ Truth n → Contains (get_or truths n []) place → Contains (row_of (record { bounds = bounds; truths = truths }) touch) place
there_truths bounds truths touch n place is c = subst (λ t. Contains (row_of (record { bounds = bounds; truths = truths }) t) place) (sym is) c

-- two facts at a result
pub on_both : {T E P Q R : Type 0} (r : Result T E) → (P → Q → R) → OnOk r P → OnOk r Q → OnOk r R
on_both (Ok x) f p q = f p q
on_both (Err e) f p q = tt

pub has_rows : (s : Shape) (n : ℕ) (none other bounds truths : List (List ℕ)) → none ≡ [] → other ≡ [] → s.variables + 1 ≤ length bounds → s.constraints + 1 ≤ length truths
    → ((n : ℕ) → AreWithin n none → AreWithin n bounds) → ((n : ℕ) → AreWithin n other → AreWithin n truths) → HasRows s n (record { bounds = bounds; truths = truths })
has_rows s n none other bounds truths e f long longer within among = record {
  bounds = omega (arith, long);
  truths = omega (arith, longer);
  bounds_within = within n (subst (AreWithin n) (sym e) tt);
  truths_within = among n (subst (AreWithin n) (sym f) tt);
}

-- one touch more
pub stands_more : (rows now : Rows) (place : ℕ) (touches : List Touch) (i : ℕ) (d : Touch) → i < length touches → AreKept rows now → StandsIn rows place (take i touches) → Contains (row_of now (get_or touches i d)) place → StandsIn now place (take (i + 1) touches)
stands_more rows now place touches i d lt kept before there touch c = by_case (Contains-push_cases (take i touches) (get_or touches i d) touch (subst (λ ts. Contains ts touch) (take_more touches i d lt) c))
  where
    by_case : Contains (take i touches) touch ⊎ (get_or touches i d ≡ touch) → Contains (row_of now touch) place
    by_case (inl b) = kept touch place (before touch b)
    by_case (inr e) = subst (λ q. Contains (row_of now q) place) e there

pub stands_all : (rows : Rows) (place : ℕ) (touches all : List Touch) (i : ℕ) → length touches ≤ i → touches ≡ all → StandsIn rows place (take i touches) → StandsIn rows place all
stands_all rows place touches all i le same h = subst (StandsIn rows place) (take_all i touches le ∙ same) h

pub kept_then : (a b c : Rows) → AreKept a b → AreKept b c → AreKept a c
kept_then a b c f g touch i m = g touch i (f touch i m)

-- ONE PROPAGATOR MORE

split : (k i : ℕ) → k < i + 1 → (k < i) ⊎ (k ≡ i)
split k i lt = grind arith

-- where one propagator is found, its meaning is found
meaning_at : {X : Type 0} (f : X → Meaning) (xs : List X) (i k : ℕ) (x : X) (m : Meaning) → i < length xs → x ≡ get_or xs i x → k ≡ i → slice_get (map f xs) k ≡ Some m → m ≡ f x
meaning_at f xs i k x m lt is same at =
    let there : slice_get (map f xs) k ≡ Some (f (get_or xs i x)) = ap (slice_get (map f xs)) same ∙ slice_get-map f xs i ∙ ap (option_map f) (slice_get-get_or xs i x lt) in
    let one : Some m ≡ Some (f (get_or xs i x)) = sym at ∙ there in
    let own : m ≡ f (get_or xs i x) = cc in
    own ∙ ap f (sym is)

pub first_wakes : {X : Type 0} (f : X → Meaning) (xs : List X) (rows now : Rows) (i : ℕ) (x : X) → i < length xs → x ≡ get_or xs i x → AreKept rows now → FirstAreWakes i rows (map f xs) → StandsIn now i (f x).touches → FirstAreWakes (i + 1) now (map f xs)
first_wakes f xs rows now i x lt is kept before there k m below at touch c = by_place (split k i below)
  where
    by_place : (k < i) ⊎ (k ≡ i) → Contains (row_of now touch) k
    by_place (inl less) = kept touch k (before k m less at touch c)
    by_place (inr same) = subst (Contains (row_of now touch)) (sym same) (there touch (subst (λ (n : Meaning). Contains n.touches touch) (meaning_at f xs i k x m lt is same at) c))

pub first_steady : {X : Type 0} (f : X → Meaning) (xs : List X) (i : ℕ) (x : X) → i < length xs → x ≡ get_or xs i x → FirstAreSteady i (map f xs) → IsSteady (f x) → FirstAreSteady (i + 1) (map f xs)
first_steady f xs i x lt is before there k m below at = by_place (split k i below)
  where
    by_place : (k < i) ⊎ (k ≡ i) → IsSteady m
    by_place (inl less) = before k m less at
    by_place (inr same) = subst IsSteady (sym (meaning_at f xs i k x m lt is same at)) there

pub none_wakes : (rows : Rows) (ms : List Meaning) → FirstAreWakes 0 rows ms
none_wakes rows ms i m lt at = absurd (omega arith)

pub none_steady : (ms : List Meaning) → FirstAreSteady 0 ms
none_steady ms i m lt at = absurd (omega arith)

length_map : {X : Type 0} (f : X → Meaning) (xs : List X) → length (map f xs) ≡ length xs
length_map f [] = refl
length_map f (x ∷ xs) = ap suc (length_map f xs)

pub all_wakes : {X : Type 0} (f : X → Meaning) (xs : List X) (count : ℕ) (rows : Rows) → length xs ≤ count → FirstAreWakes count rows (map f xs) → AreWakes rows (map f xs)
all_wakes f xs count rows le first i m touch at c = first i m (let e = length_map f xs in let lt = slice_get_within (map f xs) i m at in omega (arith, e, lt, le)) at touch c

pub all_steady : {X : Type 0} (f : X → Meaning) (xs : List X) (count : ℕ) → length xs ≤ count → FirstAreSteady count (map f xs) → All IsSteady (map f xs)
all_steady f xs count le first k d lt = first k (get_or (map f xs) k d) (let e = length_map f xs in omega (arith, e, lt, le)) (slice_get-get_or (map f xs) k d lt)
