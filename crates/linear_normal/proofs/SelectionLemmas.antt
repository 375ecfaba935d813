-- Elements by their atoms.
use Rattle.std.proofs.Common.{◌≡◌, ℕ, zero, suc, ◌+◌, ◌<◌, ◌≤◌, ◌==◌, nat_lt, nat_eq, Bool, true, false, cond, ◌⊎◌, inl, inr, List, [], ◌∷◌, ◌++◌, map, filter, length, set, take, drop, get_or, refl, sym, ◌∙◌, ap, ap₂, subst, true≢false, eqb-true, append-nil, Ok, Err, All, arith}
use Rattle.std.specs.List.{AllByRecursion, list_any, range_with_len, dedup}
use Rattle.std.specs.List.Sorted.{IsPermutation, IsSorted, IsStrictlySortedBy, IsBinarySearchResult}
use Rattle.std.specs.Ordering.{nat_cmp, is_eq}
use Rattle.std.specs.declared.cmp.Ordering.TheVariants.{Less}
use Rattle.std.proofs.lemmas.Bool.Decides.{nat_tests}
use Rattle.std.proofs.lemmas.Cmp.{nat_cmp_total}
use Rattle.std.proofs.lemmas.List.{map-set, map-append, length-map}
use Rattle.std.proofs.lemmas.List.Elements.{All-from_recursion, recursion_from_All}
use Rattle.std.proofs.lemmas.List.Filters.{All-dedup}
use Rattle.std.proofs.lemmas.List.Kept.{IsStrictlySortedBy-dedup}
use Rattle.std.proofs.lemmas.List.Sorted.{All-permutation, searched}
use Rattle.symbols.proofs.SortedLemmas.{sorted_members}
use Rattle.ground_model.specs.declared.rule.ChoiceItem.{ChoiceItem}
use Rattle.ground_model.specs.Answers.{IsNumbered, ascend_from, has_atom}
use Rattle.ground_model.specs.Members.{IsMember}
use Rattle.ground_model.proofs.Ascending.{ascending_same}
use Rattle.ground_model.proofs.Bools.{and_elim, and_intro, or_elim, same_test}
use Rattle.ground_model.proofs.MemberLemmas.{same_nat, any_member, member_any, member_map, map_member, member_contains, contains_member, property_member}
use Rattle.linear_normal.specs.Bodies.{atoms_in, numbers_with}
use Rattle.linear_normal.specs.inner.Tables.{IsSoundItem}
use Rattle.linear_normal.proofs.GrowthLemmas.{mapped_next}
use Rattle.linear_normal.proofs.ListLemmas.{among_member, member_among, member_filter, filter_member, numbered_range}

-- ASCENDING ATOMS

less_is : (x y : ℕ) → nat_cmp x y ≡ Less → x < y
less_is x y e = grind (arith, nat_tests, e)

lt_test : (x y : ℕ) → x < y → nat_lt x y ≡ true
lt_test x y h = grind (arith, nat_tests, h)

all_less : (x : ℕ) (xs : List ℕ) → AllByRecursion (λ y. nat_cmp x y ≡ Less) xs → AllByRecursion (λ y. x < y) xs
all_less x [] all = tt
all_less x (y ∷ xs) all = (less_is x y all.0, all_less x xs all.1)

strictly_ascends : (last : ℕ) (xs : List ℕ) → AllByRecursion (λ y. last < y) xs → IsStrictlySortedBy nat_cmp xs → ascend_from last xs ≡ true
unfolding IsStrictlySortedBy
strictly_ascends last [] above strictly = refl
strictly_ascends last (x ∷ xs) above strictly =
    and_intro (nat_lt last x) (ascend_from x xs) (lt_test last x above.0) (strictly_ascends x xs (all_less x xs strictly.0) strictly.1)

ties : (a b : ℕ) → nat_eq a b ≡ is_eq (nat_cmp a b)
ties a b = grind (arith, nat_tests)

atoms_above : (items : List ChoiceItem) → AllByRecursion IsSoundItem items → AllByRecursion (λ a. 0 < a) (map (λ item. item.atom) items)
atoms_above [] sound = tt
atoms_above (item ∷ items) sound = (let is = sound.0.atom in omega (arith, is), atoms_above items sound.1)

module _ (items : List ChoiceItem) (listed ordered unique : List ℕ) (same : listed ≡ map (λ item. item.atom) items) (moved : IsPermutation listed ordered) (sorted : IsSorted nat_cmp ordered)
    (kept : unique ≡ dedup nat_eq ordered) where
  pub unique_ascend : AllByRecursion IsSoundItem items → ascend_from 0 unique ≡ true
  unique_ascend sound =
      let all : All (λ a. 0 < a) listed = subst (All (λ a. 0 < a)) (sym same) (All-from_recursion (λ a. 0 < a) (map (λ item. item.atom) items) (atoms_above items sound)) in
      let above : AllByRecursion (λ a. 0 < a) (dedup nat_eq ordered) =
      recursion_from_All (λ a. 0 < a) (dedup nat_eq ordered) (All-dedup nat_eq (λ a. 0 < a) ordered (All-permutation (λ a. 0 < a) listed ordered moved all)) in
      ap (ascend_from 0) kept ∙ strictly_ascends 0 (dedup nat_eq ordered) above (IsStrictlySortedBy-dedup nat_cmp_total ties ordered sorted)

  pub unique_members : (a : ℕ) → has_atom unique a ≡ list_any (λ item. item.atom == a) items
  unique_members a = same_test (has_atom unique a) (list_any (λ item. item.atom == a) items) forth back
    where
      forth : has_atom unique a ≡ true → list_any (λ item. item.atom == a) items ≡ true
      forth e =
          let m : IsMember (map (λ item. item.atom) items) a =
          contains_member (map (λ item. item.atom) items) a ((sorted_members (map (λ item. item.atom) items) listed ordered unique same moved kept a).0 (member_contains unique a (among_member unique a e))) in
          let i = map_member (λ item. item.atom) items a m in
          any_member (λ item. item.atom == a) items i.0 i.1 (same_nat i.0.atom a (sym i.2))

      back : list_any (λ item. item.atom == a) items ≡ true → has_atom unique a ≡ true
      back e =
          let i = member_any (λ item. item.atom == a) items e in
          let m : IsMember (map (λ item. item.atom) items) a = subst (IsMember (map (λ item. item.atom) items)) (eqb-true i.0.atom a i.2) (member_map (λ item. item.atom) items i.0 i.1) in
          member_among unique a (contains_member unique a ((sorted_members (map (λ item. item.atom) items) listed ordered unique same moved kept a).1 (member_contains (map (λ item. item.atom) items) a m)))

range_ascends : (p : ℕ → Bool) (last start n : ℕ) → last < start → ascend_from last (filter p (range_with_len start n)) ≡ true
range_ascends p last start zero h = refl
range_ascends p last start (suc n) h = go (p start) (range_ascends p start (start + 1) n (omega arith)) (range_ascends p last (start + 1) n (omega (arith, h)))
  where
    go : (b : Bool) → ascend_from start (filter p (range_with_len (start + 1) n)) ≡ true → ascend_from last (filter p (range_with_len (start + 1) n)) ≡ true
        → ascend_from last (cond b (start ∷ filter p (range_with_len (start + 1) n)) (filter p (range_with_len (start + 1) n))) ≡ true
    go true r s = and_intro (nat_lt last start) (ascend_from start (filter p (range_with_len (start + 1) n))) (lt_test last start h) r
    go false r s = s

-- these are the atoms of elements
pub atoms_found : (items : List ChoiceItem) (found : List ℕ) (atoms : ℕ) → ascend_from 0 found ≡ true → ((a : ℕ) → has_atom found a ≡ list_any (λ item. item.atom == a) items)
    → AllByRecursion (λ item. IsNumbered atoms item.atom) items → found ≡ atoms_in atoms items
atoms_found items found atoms ascends members numbered =
    ascending_same 0 0 found (atoms_in atoms items) ascends (range_ascends (λ a. list_any (λ item. item.atom == a) items) 0 1 atoms (omega arith)) forth back
  where
    forth : (a : ℕ) → has_atom found a ≡ true → has_atom (atoms_in atoms items) a ≡ true
    forth a e =
        let some : list_any (λ item. item.atom == a) items ≡ true = sym (members a) ∙ e in
        let i = member_any (λ item. item.atom == a) items some in
        let is : IsNumbered atoms a = subst (IsNumbered atoms) (eqb-true i.0.atom a i.2) (property_member (λ item. IsNumbered atoms item.atom) items i.0 numbered i.1) in
        member_among (atoms_in atoms items) a (member_filter (λ a. list_any (λ item. item.atom == a) items) (range_with_len 1 atoms) a (numbered_range atoms a is) some)

    back : (a : ℕ) → has_atom (atoms_in atoms items) a ≡ true → has_atom found a ≡ true
    back a e = members a ∙ (filter_member (λ a. list_any (λ item. item.atom == a) items) (range_with_len 1 atoms) a (among_member (atoms_in atoms items) a e)).1

-- THE PLACE OF AN ATOM

all_above : (last : ℕ) (xs : List ℕ) → ascend_from last xs ≡ true → AllByRecursion (λ y. last < y) xs
all_above last [] e = tt
all_above last (x ∷ xs) e =
    let p = and_elim (nat_lt last x) (ascend_from x xs) e in
    let l = below last x p.0 in
    (l, further x xs (all_above x xs p.1) l)
  where
    below : (last x : ℕ) → nat_lt last x ≡ true → last < x
    below last x e = grind (arith, nat_tests, e)

    further : (x : ℕ) (ys : List ℕ) → AllByRecursion (λ y. x < y) ys → last < x → AllByRecursion (λ y. last < y) ys
    further x [] all l = tt
    further x (y ∷ ys) all l = (let h = all.0 in omega (arith, h, l), further x ys all.1 l)

at_index : (P : ℕ → Type 0) (xs : List ℕ) (i : ℕ) → AllByRecursion P xs → i < length xs → P (get_or xs i 0)
at_index P [] i all h = absurd (omega arith)
at_index P (x ∷ xs) zero all h = all.0
at_index P (x ∷ xs) (suc i) all h = at_index P xs i all.1 (omega arith)

rising : (last : ℕ) (xs : List ℕ) → ascend_from last xs ≡ true → (i j : ℕ) → i ≤ j → j < length xs → get_or xs i 0 ≤ get_or xs j 0
rising last [] e i j l h = absurd (omega arith)
rising last (x ∷ xs) e zero zero l h = omega arith
rising last (x ∷ xs) e zero (suc j) l h =
    let p = and_elim (nat_lt last x) (ascend_from x xs) e in let b = at_index (λ y. x < y) xs j (all_above x xs p.1) (omega arith) in omega (arith, b)
rising last (x ∷ xs) e (suc i) zero l h = absurd (omega arith)
rising last (x ∷ xs) e (suc i) (suc j) l h = rising x xs (and_elim (nat_lt last x) (ascend_from x xs) e).1 i j (omega arith) (omega arith)

has_index : (xs : List ℕ) (a : ℕ) → has_atom xs a ≡ true → (k : ℕ) × (k < length xs) × (get_or xs k 0 ≡ a)
has_index [] a e = absurd (true≢false (sym e))
has_index (x ∷ xs) a e = go (or_elim (x == a) (has_atom xs a) e) (has_index xs a)
  where
    go : ((x == a) ≡ true) ⊎ (has_atom xs a ≡ true) → (has_atom xs a ≡ true → (k : ℕ) × (k < length xs) × (get_or xs k 0 ≡ a)) → (k : ℕ) × (k < length (x ∷ xs)) × (get_or (x ∷ xs) k 0 ≡ a)
    go (inl here) rec = (0, omega arith, eqb-true x a here)
    go (inr later) rec = let r = rec later in let l = r.1 in (suc r.0, omega (arith, l), r.2)

pub place_is : (xs : List ℕ) (a place : ℕ) → ascend_from 0 xs ≡ true → IsBinarySearchResult (λ y. nat_cmp y a) xs (Ok place) → (place < length xs) × (get_or xs place 0 ≡ a)
place_is xs a place ascends found = searched xs a (Ok place) found (rising 0 xs ascends)

pub place_there : {X : Type 0} (xs : List ℕ) (a place : ℕ) → ascend_from 0 xs ≡ true → has_atom xs a ≡ true → IsBinarySearchResult (λ y. nat_cmp y a) xs (Err place) → X
place_there xs a place ascends has found =
    let s = searched xs a (Err place) found (rising 0 xs ascends) in
    let k = has_index xs a has in
    absurd (go (place_cases k.0 place) s.1 s.2 k.0 refl k.1 k.2)
  where
    place_cases : (k p : ℕ) → (k < p) ⊎ (p ≤ k)
    place_cases k p = go (nat_lt k p) refl
      where
        go : (b : Bool) → nat_lt k p ≡ b → (k < p) ⊎ (p ≤ k)
        go true e = inl (grind (arith, nat_tests, e))
        go false e = inr (grind (arith, nat_tests, e))

    go : {k : ℕ} → (k < place) ⊎ (place ≤ k) → ((k : ℕ) → k < place → get_or xs k 0 < a) → ((k : ℕ) → place ≤ k → k < length xs → a < get_or xs k 0) → (j : ℕ) → j ≡ k → k < length xs → get_or xs k 0 ≡ a → ⊥
    go {k} (inl l) low high j e h is = let b = low k l in omega (arith, b, is)
    go {k} (inr l) low high j e h is = let b = high k l h in omega (arith, b, is)

-- ROWS

numbers_end : (n : ℕ) (items : List ChoiceItem) (item : ChoiceItem) (a : ℕ) → numbers_with n (items ++ item ∷ []) a ≡ numbers_with n items a ++ cond (item.atom == a) ((n + length items) ∷ []) []
numbers_end n [] item a = go (item.atom == a)
  where
    plus_zero : n ≡ n + 0
    plus_zero = omega arith

    go : (b : Bool) → cond b (n ∷ []) [] ≡ cond b ((n + 0) ∷ []) []
    go true = ap (λ k. k ∷ []) plus_zero
    go false = refl
numbers_end n (x ∷ items) item a = go (x.atom == a) (numbers_end (n + 1) items item a ∙ ap (λ k. numbers_with (n + 1) items a ++ cond (item.atom == a) (k ∷ []) []) (shift n (length items)))
  where
    shift : (n k : ℕ) → (n + 1) + k ≡ n + suc k
    shift n k = omega arith

    go : (b : Bool) → numbers_with (n + 1) (items ++ item ∷ []) a ≡ numbers_with (n + 1) items a ++ cond (item.atom == a) ((n + suc (length items)) ∷ []) []
        → cond b (n ∷ numbers_with (n + 1) (items ++ item ∷ []) a) (numbers_with (n + 1) (items ++ item ∷ []) a)
        ≡ cond b (n ∷ numbers_with (n + 1) items a) (numbers_with (n + 1) items a) ++ cond (item.atom == a) ((n + suc (length items)) ∷ []) []
    go true r = ap (λ ns. n ∷ ns) r
    go false r = r

module _ (n : ℕ) (items : List ChoiceItem) (item : ChoiceItem) where
  abbrev more : List ChoiceItem
  more = items ++ item ∷ []

  row_more : (a : ℕ) → item.atom ≡ a → numbers_with n more a ≡ numbers_with n items a ++ (n + length items) ∷ []
  row_more a e = numbers_end n items item a ∙ ap (λ b. numbers_with n items a ++ cond b ((n + length items) ∷ []) []) (same_nat item.atom a e)

  row_same : (a : ℕ) → (item.atom == a) ≡ false → numbers_with n more a ≡ numbers_with n items a
  row_same a e = numbers_end n items item a ∙ ap (λ b. numbers_with n items a ++ cond b ((n + length items) ∷ []) []) e ∙ append-nil (numbers_with n items a)

  rows_same : (atoms : List ℕ) → AllByRecursion (λ y. item.atom < y) atoms → map (numbers_with n more) atoms ≡ map (numbers_with n items) atoms
  rows_same [] above = refl
  rows_same (a ∷ atoms) above = ap₂ ◌∷◌ (row_same a (differ item.atom a above.0)) (rows_same atoms above.1)
    where
      differ : (y a : ℕ) → y < a → (y == a) ≡ false
      differ y a h = grind (arith, nat_tests, h)

  rows_set : (last : ℕ) (atoms : List ℕ) (p : ℕ) → ascend_from last atoms ≡ true → p < length atoms → get_or atoms p 0 ≡ item.atom
      → map (numbers_with n more) atoms ≡ set (map (numbers_with n items) atoms) p (numbers_with n items item.atom ++ (n + length items) ∷ [])
  rows_set last [] p e h is = absurd (omega arith)
  rows_set last (a ∷ atoms) zero e h is =
      ap₂ ◌∷◌ (row_more a (sym is) ∙ ap (λ x. numbers_with n items x ++ (n + length items) ∷ []) is)
      (rows_same atoms (subst (λ x. AllByRecursion (λ y. x < y) atoms) is (all_above a atoms (and_elim (nat_lt last a) (ascend_from a atoms) e).1)))
  rows_set last (a ∷ atoms) (suc p) e h is =
      let rest = (and_elim (nat_lt last a) (ascend_from a atoms) e).1 in
      let above = at_index (λ y. a < y) atoms p (all_above a atoms rest) (omega arith) in
      ap₂ ◌∷◌ (row_same a (differ item.atom a (omega (arith, above, is)))) (rows_set a atoms p rest (omega arith) is)
    where
      differ : (y a : ℕ) → a < y → (y == a) ≡ false
      differ y a h = grind (arith, nat_tests, h)

get_mapped : {V : Type 0} (f : V → List ℕ) (g : ℕ → List ℕ) (rows : List V) (atoms : List ℕ) (p : ℕ) (d : V) → map f rows ≡ map g atoms → p < length atoms → f (get_or rows p d) ≡ g (get_or atoms p 0)
get_mapped f g rows [] p d e h = absurd (omega arith)
get_mapped f g [] (a ∷ atoms) p d e h = absurd (none e)
  where
    none : {X : Type 0} {x : X} {xs : List X} → [] ≡ x ∷ xs → ⊥
    none p = cc
get_mapped f g (v ∷ rows) (a ∷ atoms) zero d e h = first e
  where
    first : {X : Type 0} {x y : X} {xs ys : List X} → x ∷ xs ≡ y ∷ ys → x ≡ y
    first p = cc
get_mapped f g (v ∷ rows) (a ∷ atoms) (suc p) d e h = get_mapped f g rows atoms p d (rest e) (omega arith)
  where
    rest : {X : Type 0} {x y : X} {xs ys : List X} → x ∷ xs ≡ y ∷ ys → xs ≡ ys
    rest p = cc

-- an element adds its number to the row of its atom
pub row_pushed : {V : Type 0} (f : V → List ℕ) (rows : List V) (n number : ℕ) (items : List ChoiceItem) (item : ChoiceItem) (atoms : List ℕ) (p : ℕ) (v d : V)
    → map f rows ≡ map (numbers_with n items) atoms → ascend_from 0 atoms ≡ true → p < length atoms → get_or atoms p 0 ≡ item.atom
    → f v ≡ f (get_or rows p d) ++ number ∷ [] → number ≡ n + length items → map f (set rows p v) ≡ map (numbers_with n (items ++ item ∷ [])) atoms
row_pushed f rows n number items item atoms p v d e ascends h is pushed number_is =
    map-set f rows p v
    ∙ ap₂ (λ xs y. set xs p y) e (pushed ∙ ap₂ (λ x k. x ++ k ∷ []) (get_mapped f (numbers_with n items) rows atoms p d e h ∙ ap (numbers_with n items) is) number_is)
    ∙ sym (rows_set n items item 0 atoms p ascends h is)

pub rows_length : {V : Type 0} (f : V → List ℕ) (g : ℕ → List ℕ) (rows : List V) (atoms : List ℕ) → map f rows ≡ map g atoms → length rows ≡ length atoms
rows_length f g rows atoms e = sym (length-map rows f) ∙ ap length e ∙ length-map atoms g

pub taken_length : {X : Type 0} (n : ℕ) (xs : List X) → n ≤ length xs → length (take n xs) ≡ n
taken_length zero xs h = refl
taken_length (suc n) [] h = absurd (omega (arith, h))
taken_length (suc n) (x ∷ xs) h = ap suc (taken_length n xs (omega (arith, h)))

-- the atom of an element is among the atoms of elements
pub element_there : (items : List ChoiceItem) (i : ℕ) (d : ChoiceItem) → i < length items → list_any (λ item. item.atom == (get_or items i d).atom) items ≡ true
element_there items i d h = any_member (λ item. item.atom == (get_or items i d).atom) items (get_or items i d) (member_at items i h) (same_nat (get_or items i d).atom (get_or items i d).atom refl)
  where
    member_at : (xs : List ChoiceItem) (i : ℕ) → i < length xs → IsMember xs (get_or xs i d)
    member_at [] i h = absurd (omega arith)
    member_at (x ∷ xs) zero h = inl refl
    member_at (x ∷ xs) (suc i) h = inr (member_at xs i (omega arith))

take_all : {X : Type 0} (n : ℕ) (xs : List X) → length xs ≤ n → take n xs ≡ xs
take_all zero [] h = refl
take_all zero (x ∷ xs) h = absurd (omega (arith, h))
take_all (suc n) [] h = refl
take_all (suc n) (x ∷ xs) h = ap (λ ys. x ∷ ys) (take_all n xs (omega (arith, h)))

pub selections_done : {V : Type 0} (f : V → List ℕ) (rows : List V) (n i : ℕ) (items : List ChoiceItem) (found : List ℕ) → length items ≤ i → map f rows ≡ map (numbers_with n (take i items)) found
    → ascend_from 0 found ≡ true → ((a : ℕ) → has_atom found a ≡ list_any (λ item. item.atom == a) items)
    → (atoms : ℕ) → AllByRecursion (λ item. IsNumbered atoms item.atom) items → map f rows ≡ map (numbers_with n items) (atoms_in atoms items)
selections_done f rows n i items found end e ascends members atoms numbered =
    e ∙ ap₂ (λ xs ys. map (numbers_with n xs) ys) (take_all i items end) (atoms_found items found atoms ascends members numbered)

pub empty_next : {V : Type 0} (f : V → List ℕ) (rows : List V) (v : V) (atoms : List ℕ) (i d : ℕ) → i < length atoms → map f rows ++ map (λ a. []) (drop i atoms) ≡ map (λ a. []) atoms → f v ≡ []
    → map f (rows ++ v ∷ []) ++ map (λ a. []) (drop (i + 1) atoms) ≡ map (λ a. []) atoms
empty_next f rows v atoms i d h e is =
    ap (λ xs. xs ++ map (λ a. []) (drop (i + 1) atoms)) (map-append f rows (v ∷ [])) ∙ mapped_next (λ a. []) atoms i d (map f rows) (map (λ a. []) atoms) (f v) h e is
