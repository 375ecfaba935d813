-- The order of tuples, the set of the tuples in a list, and pairs that get one more.
use Rattle.std.proofs.Common.{◌≡◌, ◌≤◌, ◌<◌, ◌⊎◌, inl, inr, ℕ, zero, suc, ◌-◌, Bool, true, false, ℤ, pos, ◌+ℤ◌, ◌↔◌, List, [], ◌∷◌, ◌++◌, length, map, drop, take, All, Contains, if◌then◌else◌, slice_index_or, slice_set, refl, sym, ◌∙◌, ap, subst, true≢false, arith}
use Rattle.std.specs.Cmp.{IsTotalOrder}
use Rattle.std.specs.Cmp.Lexicographic.{slice_cmp}
use Rattle.std.specs.List.{AllByRecursion, Any, dedup}
use Rattle.std.specs.List.Sorted.{IsPermutation, IsSortedBy, IsStrictlySortedBy}
use Rattle.std.specs.Ordering.{nat_cmp, int_cmp, ordering_then, is_eq, is_gt, is_lt}
use Rattle.std.specs.declared.cmp.Ordering.{Ordering}
use Rattle.std.specs.declared.cmp.Ordering.TheVariants.{Less, Equal, Greater}
use Rattle.std.proofs.lemmas.Bool.Decides.{nat_tests}
use Rattle.std.proofs.lemmas.Cmp.{int_ranked, int_cmp_total, on_total, then_total, lists_total, eq_by_cmp_equiv}
use Rattle.std.proofs.lemmas.List.{length-drop, length-map, drop_all, get_or_past, get_or-map, get_or-set_same, length-set, map-set, map-append, take-map, drop-map}
use Rattle.std.proofs.lemmas.List.Elements.{All-append, All-cons, All-drop, All-set, All-take}
use Rattle.std.proofs.lemmas.List.Kept.{Any-dedup, Contains-from_dedup, IsStrictlySortedBy-dedup}
use Rattle.std.proofs.lemmas.List.Sorted.{Contains-permutation, IsPermutation-sym}
use Rattle.symbols.specs.Symbol.{Symbol}
use Rattle.symbols.specs.Order.{symbol_cmp}
use Rattle.symbols.specs.Table.{IsOnce, symbol_at}
use Rattle.symbols.proofs.OrderLemmas.{symbol_cmp_total, symbol_cmp-level, symbol_cmp-itself}
use Rattle.syntax_tree.specs.Outcome.{IsSymbol, IsOver, IsUndefined}
use Rattle.ground_model.specs.Members.{IsMember}
use Rattle.ground_model.specs.Rule.{PlaceOf}
use Rattle.ground_model.specs.Sound.{is_small}
use Rattle.program_meaning.specs.declared.collected.CollectedPlace.{CollectedPlace}
use Rattle.program_meaning.specs.Ascending.{Ascends, IsOrderedListOf}
use Rattle.program_meaning.specs.Collected.{placed, pair_added}
use Rattle.program_meaning.specs.Instance.{PositiveIs}
use Rattle.program_meaning.specs.Said.{HasFlag, pair_in, place_in, pair_at, IsPairAt, IsKnownPair, place_for, id_order, pair_order, behind_pairs}
use Rattle.program_meaning.specs.Theory.{pair_cmp, place_cmp}

-- ---- the order of tuples, part by part

pub then_apart : (o p : Ordering) → (o ≡ Equal → ⊥) → ordering_then o p ≡ o
then_apart Less p n = refl
then_apart Equal p n = absurd (n refl)
then_apart Greater p n = refl

then_grouped : (a b c : Ordering) → ordering_then (ordering_then a b) c ≡ ordering_then a (ordering_then b c)
then_grouped Less b c = refl
then_grouped Equal b c = refl
then_grouped Greater b c = refl

mapped_cmp : {X Y : Type 0} (f : X → Y) (R : Y → Y → Ordering) (xs ys : List X) → slice_cmp (λ a b. R (f a) (f b)) xs ys ≡ slice_cmp R (map f xs) (map f ys)
mapped_cmp f R [] [] = refl
mapped_cmp f R [] (y ∷ ys) = refl
mapped_cmp f R (x ∷ xs) [] = refl
mapped_cmp f R (x ∷ xs) (y ∷ ys) = ap (ordering_then (R (f x) (f y))) (mapped_cmp f R xs ys)

pub by_parts : (symbols : List Symbol) (a b : CollectedPlace)
    → ordering_then (slice_cmp (pair_order symbols) a.linear.pairs b.linear.pairs) (behind_pairs symbols a b) ≡ place_cmp (place_in symbols a) (place_in symbols b)
by_parts symbols a b =
    let numbers = int_cmp a.linear.constant b.linear.constant in
    let durations = int_cmp a.duration b.duration in
    let rest = mapped_cmp (symbol_at symbols) symbol_cmp a.rest b.rest in
    let behind = then_grouped numbers durations (slice_cmp (id_order symbols) a.rest b.rest) ∙ ap (λ o. ordering_then numbers (ordering_then durations o)) rest in
    λ i. ordering_then (mapped_cmp (pair_in symbols) pair_cmp a.linear.pairs b.linear.pairs i) (behind i)

nothing_first : {X : Type 0} (R : X → X → Ordering) (zs : List X) → slice_cmp R [] zs ≡ nat_cmp 0 (length zs)
nothing_first R [] = refl
nothing_first R (z ∷ zs) = sym (more (length zs))
  where
    more : (n : ℕ) → nat_cmp 0 (suc n) ≡ Less
    more n = grind (arith, nat_tests)

-- where one list ends first, the lengths decide
pub ended : {X : Type 0} (R : X → X → Ordering) (xs ys : List X) (k : ℕ) → length xs ≤ k → k ≤ length xs → k ≤ length ys
    → slice_cmp R xs ys ≡ slice_cmp R (drop k xs) (drop k ys) → nat_cmp (length xs) (length ys) ≡ slice_cmp R xs ys
ended R xs ys k l m w e =
    less (length xs) (length ys) k l m w
    ∙ ap (nat_cmp 0) (sym (length-drop k ys))
    ∙ sym (nothing_first R (drop k ys))
    ∙ ap (λ zs. slice_cmp R zs (drop k ys)) (sym (drop_all k xs l))
    ∙ sym e
  where
    less : (a b k : ℕ) → a ≤ k → k ≤ a → k ≤ b → nat_cmp a b ≡ nat_cmp 0 (b - k)
    less a b k l m w = grind (arith, nat_tests)

-- ---- tuples that are level are equal

second_level : (o p : Ordering) → ordering_then o p ≡ Equal → (o ≡ Equal) × (p ≡ Equal)
second_level Less p e = cc
second_level Equal p e = (refl, e)
second_level Greater p e = cc

lists_level : {X : Type 0} (R : X → X → Ordering) → ((x y : X) → R x y ≡ Equal → x ≡ y) → (xs ys : List X) → slice_cmp R xs ys ≡ Equal → xs ≡ ys
lists_level R level [] [] e = refl
lists_level R level [] (y ∷ ys) e = cc
lists_level R level (x ∷ xs) [] e = cc
lists_level R level (x ∷ xs) (y ∷ ys) e =
    let both = second_level (R x y) (slice_cmp R xs ys) e in
    let first = level x y both.0 in
    let rest = lists_level R level xs ys both.1 in
    λ i. first i ∷ rest i

ints_level : (a b : ℤ) → int_cmp a b ≡ Equal → a ≡ b
ints_level a b e = int_ranked a b Equal (sym e)

pairs_level : (a b : Symbol × ℤ) → pair_cmp a b ≡ Equal → a ≡ b
pairs_level a b e =
    let both = second_level (symbol_cmp a.0 b.0) (int_cmp a.1 b.1) e in
    let first = symbol_cmp-level a.0 b.0 both.0 in
    let second = ints_level a.1 b.1 both.1 in
    λ i. (first i, second i)

pub places_level : (a b : PlaceOf Symbol) → place_cmp a b ≡ Equal → a ≡ b
places_level a b e =
    let one = second_level (slice_cmp pair_cmp a.linear.pairs b.linear.pairs) _ e in
    let two = second_level (int_cmp a.linear.constant b.linear.constant) _ one.1 in
    let three = second_level (int_cmp a.duration b.duration) (slice_cmp symbol_cmp a.rest b.rest) two.1 in
    let pairs = lists_level pair_cmp pairs_level a.linear.pairs b.linear.pairs one.0 in
    let constant = ints_level a.linear.constant b.linear.constant two.0 in
    let duration = ints_level a.duration b.duration three.0 in
    let rest = lists_level symbol_cmp symbol_cmp-level a.rest b.rest three.1 in
    λ i. record { linear = record { pairs = pairs i; constant = constant i }; duration = duration i; rest = rest i }

-- ---- the order is total

pairs_total : IsTotalOrder pair_cmp
pairs_total = then_total (on_total (λ p. p.0) symbol_cmp_total) (on_total (λ p. p.1) int_cmp_total)

places_total : IsTotalOrder place_cmp
places_total =
    then_total (on_total (λ p. p.linear.pairs) (lists_total pairs_total))
    (then_total (on_total (λ p. p.linear.constant) int_cmp_total)
    (then_total (on_total (λ p. p.duration) int_cmp_total) (on_total (λ p. p.rest) (lists_total symbol_cmp_total))))

abbrev pub tuple_order : List Symbol → CollectedPlace → CollectedPlace → Ordering
tuple_order symbols a b = place_cmp (place_in symbols a) (place_in symbols b)

pub tuples_total : (symbols : List Symbol) → IsTotalOrder (tuple_order symbols)
tuples_total symbols = on_total (place_in symbols) places_total

-- ---- members

contains_member : {X : Type 0} (xs : List X) (x : X) → Contains xs x → IsMember xs x
contains_member [] x (k, l, e) = absurd (omega (arith, l))
contains_member (y ∷ xs) x (zero, l, e) = inl (sym e)
contains_member (y ∷ xs) x (suc k, l, e) = inr (contains_member xs x (k, omega (arith, l), e))

member_contains : {X : Type 0} (xs : List X) (x : X) → IsMember xs x → Contains xs x
member_contains [] x m = absurd m
member_contains (y ∷ xs) x (inl e) = (zero, omega arith, sym e)
member_contains (y ∷ xs) x (inr m) = let r = member_contains xs x m in (suc r.0, omega (arith, r.1), r.2)

to_mapped : {X Y : Type 0} (f : X → Y) (xs : List X) (x : X) → IsMember xs x → IsMember (map f xs) (f x)
to_mapped f [] x m = m
to_mapped f (z ∷ xs) x (inl e) = inl (ap f e)
to_mapped f (z ∷ xs) x (inr m) = inr (to_mapped f xs x m)

from_mapped : {X Y : Type 0} (f : X → Y) (xs : List X) (y : Y) → IsMember (map f xs) y → (x : X) × IsMember xs x × (y ≡ f x)
from_mapped f [] y m = absurd m
from_mapped f (x ∷ xs) y (inl e) = (x, inl refl, e)
from_mapped f (x ∷ xs) y (inr m) = let r = from_mapped f xs y m in (r.0, inr r.1, r.2)

all_mapped : {X Y : Type 0} (f : X → Y) (P : Y → Type 0) (xs : List X) → AllByRecursion (λ x. P (f x)) xs → AllByRecursion P (map f xs)
all_mapped f P [] all = tt
all_mapped f P (x ∷ xs) all = (all.0, all_mapped f P xs all.1)

ascends_from : {X Y : Type 0} (f : X → Y) (R : Y → Y → Ordering) (xs : List X) → IsStrictlySortedBy (λ a b. R (f a) (f b)) xs → Ascends R (map f xs)
unfolding IsStrictlySortedBy
ascends_from f R [] s = tt
ascends_from f R (x ∷ xs) s = (all_mapped f (λ y. R (f x) y ≡ Less) xs s.0, ascends_from f R xs s.1)

is_level : (o : Ordering) → is_eq o ≡ true → o ≡ Equal
is_level Less e = cc
is_level Equal e = refl
is_level Greater e = cc

-- what a sort and the removal of level ones leave is the set in order
pub set_ordered : (symbols : List Symbol) (all sorted unique : List CollectedPlace) → IsPermutation all sorted
    → IsSortedBy (λ x y. is_lt (tuple_order symbols x y)) sorted → unique ≡ dedup (λ x y. is_eq (tuple_order symbols x y)) sorted
    → IsOrderedListOf place_cmp (IsMember (map (place_in symbols) all)) (map (place_in symbols) unique)
set_ordered symbols all sorted unique moved ascends is = record {
  ascend = ascends_from (place_in symbols) place_cmp unique
      (subst (IsStrictlySortedBy (tuple_order symbols)) (sym is) (IsStrictlySortedBy-dedup (tuples_total symbols) (λ x y. refl) sorted ascends));
  all = λ q. (λ m. old q (from_mapped (place_in symbols) unique q m), λ m. new q (from_mapped (place_in symbols) all q m));
}
  where
    same : CollectedPlace → CollectedPlace → Bool
    same x y = is_eq (tuple_order symbols x y)

    old : (q : PlaceOf Symbol) → (x : CollectedPlace) × IsMember unique x × (q ≡ place_in symbols x) → IsMember (map (place_in symbols) all) q
    old q (x, m, e) =
        let kept = subst (λ xs. Contains xs x) is (member_contains unique x m) in
        let there = Contains-permutation sorted all x (IsPermutation-sym all sorted moved) (Contains-from_dedup same sorted x kept) in
        subst (IsMember (map (place_in symbols) all)) (sym e) (to_mapped (place_in symbols) all x (contains_member all x there))

    level : (q : PlaceOf Symbol) (x : CollectedPlace) → q ≡ place_in symbols x → Any (λ y. same x y ≡ true) (dedup same sorted) → IsMember (map (place_in symbols) unique) q
    level q x e (k, y, l, at, h) =
        let there = contains_member unique y (subst (λ xs. Contains xs y) (sym is) (k, l, at)) in
        subst (IsMember (map (place_in symbols) unique)) (sym (e ∙ places_level (place_in symbols x) (place_in symbols y) (is_level (tuple_order symbols x y) h)))
        (to_mapped (place_in symbols) unique y there)

    new : (q : PlaceOf Symbol) → (x : CollectedPlace) × IsMember all x × (q ≡ place_in symbols x) → IsMember (map (place_in symbols) unique) q
    new q (x, m, e) =
        level q x e (Any-dedup (eq_by_cmp_equiv (tuples_total symbols)) sorted x (Contains-permutation all sorted x moved (member_contains all x m)))

-- ---- one pair more

pub place_within : (x : Symbol) (ps : List (Symbol × ℤ)) → place_for x ps ≤ length ps
place_within x [] = omega arith
place_within x (p ∷ ps) = go (is_gt (symbol_cmp x p.0)) (place_within x ps)
  where
    go : (b : Bool) → place_for x ps ≤ length ps → (if b then suc (place_for x ps) else 0) ≤ suc (length ps)
    go true l = omega (arith, l)
    go false l = omega arith

pub set_adds : (x : Symbol) (c : ℤ) (d : Symbol × ℤ) (ps : List (Symbol × ℤ)) → place_for x ps < length ps → (slice_index_or ps (place_for x ps) d).0 ≡ x
    → slice_set ps (place_for x ps) (x, c +ℤ (slice_index_or ps (place_for x ps) d).1) ≡ pair_added x c ps
set_adds x c d [] l e = absurd (omega (arith, l))
set_adds x c d (p ∷ ps) l e = go (symbol_cmp x p.0) refl l e (set_adds x c d ps)
  where
    at : Ordering → ℕ
    at o = (if is_gt o then suc (place_for x ps) else 0)

    go : (o : Ordering) → symbol_cmp x p.0 ≡ o → at o < suc (length ps) → (slice_index_or (p ∷ ps) (at o) d).0 ≡ x
        → (place_for x ps < length ps → (slice_index_or ps (place_for x ps) d).0 ≡ x
        → slice_set ps (place_for x ps) (x, c +ℤ (slice_index_or ps (place_for x ps) d).1) ≡ pair_added x c ps)
        → slice_set (p ∷ ps) (at o) (x, c +ℤ (slice_index_or (p ∷ ps) (at o) d).1) ≡ placed o x c p ps (pair_added x c ps)
    go Less o l e rec = absurd (less_itself (sym (ap (symbol_cmp x) e ∙ symbol_cmp-itself x) ∙ o))
      where
        less_itself : Equal ≡ Less → ⊥
        less_itself e = cc
    go Equal o l e rec = refl
    go Greater o l e rec = ap (λ rest. p ∷ rest) (rec (omega (arith, l)) e)

pub insert_adds : (x : Symbol) (c : ℤ) (d : Symbol × ℤ) (ps : List (Symbol × ℤ)) → (place_for x ps < length ps → (slice_index_or ps (place_for x ps) d).0 ≡ x → ⊥)
    → take (place_for x ps) ps ++ (x, c) ∷ drop (place_for x ps) ps ≡ pair_added x c ps
insert_adds x c d [] n = refl
insert_adds x c d (p ∷ ps) n = go (symbol_cmp x p.0) refl n (insert_adds x c d ps)
  where
    at : Ordering → ℕ
    at o = (if is_gt o then suc (place_for x ps) else 0)

    go : (o : Ordering) → symbol_cmp x p.0 ≡ o → (at o < suc (length ps) → (slice_index_or (p ∷ ps) (at o) d).0 ≡ x → ⊥)
        → ((place_for x ps < length ps → (slice_index_or ps (place_for x ps) d).0 ≡ x → ⊥)
        → take (place_for x ps) ps ++ (x, c) ∷ drop (place_for x ps) ps ≡ pair_added x c ps)
        → take (at o) (p ∷ ps) ++ (x, c) ∷ drop (at o) (p ∷ ps) ≡ placed o x c p ps (pair_added x c ps)
    go Less o n rec = refl
    go Equal o n rec = absurd (n (omega arith) (sym (symbol_cmp-level x p.0 o)))
    go Greater o n rec = ap (λ rest. p ∷ rest) (rec (λ l e. n (omega (arith, l)) e))

-- the pair at the place gets the sum
pub added_in : (symbols : List Symbol) (v : ℕ) (c sum : ℤ) (ids : List (ℕ × ℤ)) (k : ℕ) → k ≡ place_for (symbol_at symbols v) (map (pair_in symbols) ids)
    → IsPairAt ids k v → sum ≡ c +ℤ (pair_at ids k).1
    → map (pair_in symbols) (slice_set ids k (v, sum)) ≡ pair_added (symbol_at symbols v) c (map (pair_in symbols) ids)
added_in symbols v c sum ids k is at e =
    map-set (pair_in symbols) ids k (v, sum)
    ∙ ap (λ z. slice_set (map (pair_in symbols) ids) k (symbol_at symbols v, z)) (e ∙ ap (λ q. c +ℤ q.1) (sym there))
    ∙ ap (λ m. slice_set (map (pair_in symbols) ids) m (symbol_at symbols v, c +ℤ (slice_index_or (map (pair_in symbols) ids) m d).1)) is
    ∙ set_adds (symbol_at symbols v) c d (map (pair_in symbols) ids)
    (subst (λ m. m < length (map (pair_in symbols) ids)) is (subst (λ n. k < n) (sym (length-map ids (pair_in symbols))) at.0))
    (ap (λ m. (slice_index_or (map (pair_in symbols) ids) m d).0) (sym is) ∙ ap (λ q. q.0) there ∙ ap (symbol_at symbols) at.1)
  where
    d : Symbol × ℤ
    d = pair_in symbols (0, pos 0)

    there : slice_index_or (map (pair_in symbols) ids) k d ≡ pair_in symbols (pair_at ids k)
    there = get_or-map (pair_in symbols) ids k (0, pos 0) d at.0

-- a new pair stands at the place
pub inserted_in : (symbols : List Symbol) (v : ℕ) (c : ℤ) (ids : List (ℕ × ℤ)) (k : ℕ) → k ≡ place_for (symbol_at symbols v) (map (pair_in symbols) ids)
    → IsOnce symbols → v < length symbols → All (IsKnownPair (length symbols)) ids → (IsPairAt ids k v → ⊥)
    → map (pair_in symbols) (take k ids ++ (v, c) ∷ drop k ids) ≡ pair_added (symbol_at symbols v) c (map (pair_in symbols) ids)
inserted_in symbols v c ids k is once known all n =
    map-append (pair_in symbols) (take k ids) ((v, c) ∷ drop k ids)
    ∙ (λ i. sym (take-map (pair_in symbols) k ids) i ++ (symbol_at symbols v, c) ∷ sym (drop-map (pair_in symbols) k ids) i)
    ∙ ap (λ m. take m (map (pair_in symbols) ids) ++ (symbol_at symbols v, c) ∷ drop m (map (pair_in symbols) ids)) is
    ∙ insert_adds (symbol_at symbols v) c (pair_in symbols (0, pos 0)) (map (pair_in symbols) ids) absent
  where
    absent : place_for (symbol_at symbols v) (map (pair_in symbols) ids) < length (map (pair_in symbols) ids)
        → (slice_index_or (map (pair_in symbols) ids) (place_for (symbol_at symbols v) (map (pair_in symbols) ids)) (pair_in symbols (0, pos 0))).0 ≡ symbol_at symbols v → ⊥
    absent l e =
        let within : k < length ids = subst (λ n. k < n) (length-map ids (pair_in symbols)) (subst (λ m. m < length (map (pair_in symbols) ids)) (sym is) l) in
        let there = get_or-map (pair_in symbols) ids k (0, pos 0) (pair_in symbols (0, pos 0)) within in
        let same = sym (ap (λ q. q.0) there) ∙ ap (λ m. (slice_index_or (map (pair_in symbols) ids) m (pair_in symbols (0, pos 0))).0) is ∙ e in
        n (within, once (pair_at ids k).0 v (all k (0, pos 0) within).0 known same)

-- ---- flags

pub flag_within : (flags : List Bool) (id : ℕ) → slice_index_or flags id false ≡ true → id < length flags
flag_within [] id e = absurd (true≢false (sym e ∙ get_or_past [] id false (omega arith)))
flag_within (flag ∷ flags) zero e = omega arith
flag_within (flag ∷ flags) (suc id) e = let r = flag_within flags id e in omega (arith, r)

-- an id's flag says whether its symbol's is set
pub flag_of : (symbols : List Symbol) (flags : List Bool) (id : ℕ) → IsOnce symbols → id < length symbols → length flags ≡ length symbols
    → (slice_index_or flags id false ≡ true) ↔ PositiveIs (HasFlag symbols flags) (IsSymbol (symbol_at symbols id)) true
flag_of symbols flags id once known same = (
  λ e. (symbol_at symbols id, refl, (id, e, refl)),
  λ p. back p.0 p.1 p.2.0 p.2.1 p.2.2,
)
  where
    symbol_same : (a b : Symbol) → IsSymbol a ≡ IsSymbol b → a ≡ b
    symbol_same a b e = cc

    back : (a : Symbol) → IsSymbol (symbol_at symbols id) ≡ IsSymbol a → (other : ℕ) → slice_index_or flags other false ≡ true → symbol_at symbols other ≡ a
        → slice_index_or flags id false ≡ true
    back a e other f g =
        let there = subst (λ n. other < n) same (flag_within flags other f) in
        subst (λ k. slice_index_or flags k false ≡ true) (once other id there known (g ∙ sym (symbol_same (symbol_at symbols id) a e))) f

-- ---- one flag more

-- a flag that was not set makes a difference
pub set_differs : (flags : List Bool) (id : ℕ) (d : Bool) → id < length flags → slice_index_or flags id d ≡ false → slice_set flags id true ≡ flags → ⊥
set_differs flags id d below off e = true≢false (sym (get_or-set_same flags id true d below) ∙ ap (λ all. slice_index_or all id d) e ∙ off)

set_at : (flags : List Bool) (id other : ℕ) → slice_index_or (slice_set flags id true) other false ≡ true → (slice_index_or flags other false ≡ true) ⊎ (other ≡ id)
set_at [] id other e = inl e
set_at (flag ∷ flags) zero zero e = inr refl
set_at (flag ∷ flags) zero (suc other) e = inl e
set_at (flag ∷ flags) (suc id) zero e = inl e
set_at (flag ∷ flags) (suc id) (suc other) e = go (set_at flags id other e)
  where
    go : (slice_index_or flags other false ≡ true) ⊎ (other ≡ id) → (slice_index_or flags other false ≡ true) ⊎ (suc other ≡ suc id)
    go (inl f) = inl f
    go (inr f) = inr (ap suc f)

set_keeps : (flags : List Bool) (id other : ℕ) → slice_index_or flags other false ≡ true → slice_index_or (slice_set flags id true) other false ≡ true
set_keeps [] id other e = e
set_keeps (flag ∷ flags) zero zero e = refl
set_keeps (flag ∷ flags) zero (suc other) e = e
set_keeps (flag ∷ flags) (suc id) zero e = e
set_keeps (flag ∷ flags) (suc id) (suc other) e = set_keeps flags id other e

set_itself : (flags : List Bool) (id : ℕ) → id < length flags → slice_index_or (slice_set flags id true) id false ≡ true
set_itself [] id l = absurd (omega (arith, l))
set_itself (flag ∷ flags) zero l = refl
set_itself (flag ∷ flags) (suc id) l = set_itself flags id (omega (arith, l))

same_symbol : (a b : Symbol) → IsSymbol a ≡ IsSymbol b → a ≡ b
same_symbol a b e = cc

pub marked_symbol : (symbols : List Symbol) (flags : List Bool) (id : ℕ) → id < length flags
    → (a : Symbol) → HasFlag symbols (slice_set flags id true) a ↔ (HasFlag symbols flags a ⊎ (IsSymbol (symbol_at symbols id) ≡ IsSymbol a))
marked_symbol symbols flags id l a = (to, from)
  where
    to : HasFlag symbols (slice_set flags id true) a → HasFlag symbols flags a ⊎ (IsSymbol (symbol_at symbols id) ≡ IsSymbol a)
    to (other, e, f) = go (set_at flags id other e)
      where
        go : (slice_index_or flags other false ≡ true) ⊎ (other ≡ id) → HasFlag symbols flags a ⊎ (IsSymbol (symbol_at symbols id) ≡ IsSymbol a)
        go (inl h) = inl (other, h, f)
        go (inr h) = inr (ap IsSymbol (ap (symbol_at symbols) (sym h) ∙ f))

    from : HasFlag symbols flags a ⊎ (IsSymbol (symbol_at symbols id) ≡ IsSymbol a) → HasFlag symbols (slice_set flags id true) a
    from (inl (other, e, f)) = (other, set_keeps flags id other e, f)
    from (inr e) = (id, set_itself flags id l, same_symbol (symbol_at symbols id) a e)

pub marked_nothing : (symbols : List Symbol) (flags : List Bool) (P : Type 0) → (P → ⊥) → (a : Symbol) → HasFlag symbols flags a ↔ (HasFlag symbols flags a ⊎ P)
marked_nothing symbols flags P none a = (λ h. inl h, from)
  where
    from : HasFlag symbols flags a ⊎ P → HasFlag symbols flags a
    from (inl h) = h
    from (inr p) = absurd (none p)

pub no_symbol : (a : Symbol) → IsOver ≡ IsSymbol a → ⊥
no_symbol a e = cc

pub no_value : (a : Symbol) → IsUndefined ≡ IsSymbol a → ⊥
no_value a e = cc

pub marked_given : (P Q R S : Type 0) → R → P ↔ (Q ⊎ S) → P ↔ (Q ⊎ (S × R))
marked_given P Q R S r f = (λ p. to (f.0 p), λ q. f.1 (from q))
  where
    to : Q ⊎ S → Q ⊎ (S × R)
    to (inl q) = inl q
    to (inr s) = inr (s, r)

    from : Q ⊎ (S × R) → Q ⊎ S
    from (inl q) = inl q
    from (inr s) = inr s.0

-- ---- coefficients that stay small

pub set_small : (size v : ℕ) (sum : ℤ) (ids : List (ℕ × ℤ)) (k : ℕ) → All (IsKnownPair size) ids → v < size → k < length ids
    → (is_small sum ≡ true) ↔ All (IsKnownPair size) (slice_set ids k (v, sum))
set_small size v sum ids k all known within = (
  λ e. All-set (IsKnownPair size) ids k (v, sum) (known, e) all,
  λ each.
      ap (λ q. is_small q.1) (sym (get_or-set_same ids k (v, sum) (0, pos 0) within))
      ∙ (each k (0, pos 0) (subst (λ n. k < n) (sym (length-set ids k (v, sum))) within)).1,
)

pub inserted_small : (size v : ℕ) (c : ℤ) (ids : List (ℕ × ℤ)) (k : ℕ) → All (IsKnownPair size) ids → v < size → is_small c ≡ true
    → All (IsKnownPair size) (take k ids ++ (v, c) ∷ drop k ids)
inserted_small size v c ids k all known small =
    All-append (IsKnownPair size) (take k ids) ((v, c) ∷ drop k ids) (All-take (IsKnownPair size) k ids all)
    (All-cons (IsKnownPair size) (v, c) (drop k ids) (known, small) (All-drop (IsKnownPair size) k ids all))
