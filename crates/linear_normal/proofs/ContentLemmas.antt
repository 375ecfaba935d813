-- Contents that are told to be the same are the same, and each content of the list has its number.
use Rattle.std.proofs.Common.{◌≡◌, ℕ, suc, ◌+◌, Bool, true, false, cond, ◌&&◌, ◌||◌, ◌==◌, ◌⊎◌, inl, inr, List, [], ◌∷◌, ◌++◌, refl, sym, ap, ap₂, subst, true≢false, eqb-true, nat_eq, ℤ, int_eq, Some, slice_get, fold, arith}
use Rattle.std.proofs.Math.Bool.{Bool-set}
use Rattle.std.specs.Cmp.Lexicographic.{pointwise}
use Rattle.std.specs.List.{list_any}
use Rattle.std.proofs.lemmas.Bool.Decides.{nat_tests}
use Rattle.std.proofs.lemmas.Int.{ints}
use Rattle.ground_model.specs.declared.int_set.IntSet.{IntSet}
use Rattle.ground_model.specs.declared.linear.Place.{Place}
use Rattle.ground_model.specs.Intervals.{are_parted}
use Rattle.ground_model.specs.Members.{IsMember}
use Rattle.ground_model.specs.Sound.{same_pair, same_place}
use Rattle.ground_model.proofs.Bools.{and_elim, and_intro, or_elim, or_left, or_right}
use Rattle.linear_normal.specs.Contents.{Term, Variable, Counted, Content, SumAtMost, SumEquals, SumDiffers, InSet, AllDiffer, NoneOverlap, SomeTrue, same_term, same_interval, same_content}
use Rattle.linear_normal.specs.Demands.{with_content, number_of}

pub int_sound : (a b : ℤ) → int_eq a b ≡ true → a ≡ b
int_sound a b e = grind (arith, ints)

pub int_same : (a : ℤ) → int_eq a a ≡ true
int_same a = grind (arith, ints)

pub nat_same : (a : ℕ) → (a == a) ≡ true
nat_same a = grind (arith, nat_tests)

pub nat_sound : (a b : ℕ) → nat_eq a b ≡ true → a ≡ b
nat_sound a b e = grind (arith, nat_tests)

pub lists_sound : {X : Type 0} (eq : X → X → Bool) → ((a b : X) → eq a b ≡ true → a ≡ b) → (xs ys : List X) → pointwise eq xs ys ≡ true → xs ≡ ys
lists_sound eq sound [] [] e = refl
lists_sound eq sound [] (y ∷ ys) e = absurd (true≢false (sym e))
lists_sound eq sound (x ∷ xs) [] e = absurd (true≢false (sym e))
lists_sound eq sound (x ∷ xs) (y ∷ ys) e =
    let p = and_elim (eq x y) (pointwise eq xs ys) e in
    ap₂ ◌∷◌ (sound x y p.0) (lists_sound eq sound xs ys p.1)

pub lists_same : {X : Type 0} (eq : X → X → Bool) → ((a : X) → eq a a ≡ true) → (xs : List X) → pointwise eq xs xs ≡ true
lists_same eq same [] = refl
lists_same eq same (x ∷ xs) = and_intro (eq x x) (pointwise eq xs xs) (same x) (lists_same eq same xs)

pair_sound : (a b : ℕ × ℤ) → same_pair a b ≡ true → a ≡ b
pair_sound a b e =
    let p = and_elim (a.0 == b.0) (int_eq a.1 b.1) e in
    let f : a.0 ≡ b.0 = eqb-true a.0 b.0 p.0 in
    let g : a.1 ≡ b.1 = int_sound a.1 b.1 p.1 in
    (λ i. (f i, g i))

pair_same : (a : ℕ × ℤ) → same_pair a a ≡ true
pair_same a = and_intro (a.0 == a.0) (int_eq a.1 a.1) (nat_same a.0) (int_same a.1)

pub interval_sound : (a b : ℤ × ℤ) → same_interval a b ≡ true → a ≡ b
interval_sound a b e =
    let p = and_elim (int_eq a.0 b.0) (int_eq a.1 b.1) e in
    let f : a.0 ≡ b.0 = int_sound a.0 b.0 p.0 in
    let g : a.1 ≡ b.1 = int_sound a.1 b.1 p.1 in
    (λ i. (f i, g i))

pub interval_same : (a : ℤ × ℤ) → same_interval a a ≡ true
interval_same a = and_intro (int_eq a.0 a.0) (int_eq a.1 a.1) (int_same a.0) (int_same a.1)

pub place_sound : (a b : Place) → same_place a b ≡ true → a ≡ b
place_sound a b e =
    let p = and_elim (pointwise same_pair a.linear.pairs b.linear.pairs && int_eq a.linear.constant b.linear.constant && int_eq a.duration b.duration) (pointwise nat_eq a.rest b.rest) e in
    let q = and_elim (pointwise same_pair a.linear.pairs b.linear.pairs && int_eq a.linear.constant b.linear.constant) (int_eq a.duration b.duration) p.0 in
    let r = and_elim (pointwise same_pair a.linear.pairs b.linear.pairs) (int_eq a.linear.constant b.linear.constant) q.0 in
    let f : a.linear.pairs ≡ b.linear.pairs = lists_sound same_pair pair_sound a.linear.pairs b.linear.pairs r.0 in
    let g : a.linear.constant ≡ b.linear.constant = int_sound a.linear.constant b.linear.constant r.1 in
    let h : a.duration ≡ b.duration = int_sound a.duration b.duration q.1 in
    let k : a.rest ≡ b.rest = lists_sound nat_eq nat_sound a.rest b.rest p.1 in
    (λ i. record { linear = record { pairs = f i; constant = g i }; duration = h i; rest = k i })

pub place_same : (a : Place) → same_place a a ≡ true
place_same a =
    and_intro (pointwise same_pair a.linear.pairs a.linear.pairs && int_eq a.linear.constant a.linear.constant && int_eq a.duration a.duration) (pointwise nat_eq a.rest a.rest)
    (and_intro (pointwise same_pair a.linear.pairs a.linear.pairs && int_eq a.linear.constant a.linear.constant) (int_eq a.duration a.duration)
    (and_intro (pointwise same_pair a.linear.pairs a.linear.pairs) (int_eq a.linear.constant a.linear.constant) (lists_same same_pair pair_same a.linear.pairs) (int_same a.linear.constant))
    (int_same a.duration)) (lists_same nat_eq nat_same a.rest)

abbrev of : (xs : List (ℤ × ℤ)) → are_parted xs ≡ true → IntSet
of xs p = record { intervals = xs; parted = p }

pub set_sound : (a b : IntSet) → pointwise same_interval a.intervals b.intervals ≡ true → a ≡ b
set_sound a b e =
    set_with a.intervals a.parted b.intervals (lists_sound same_interval interval_sound a.intervals b.intervals e) b.parted
  where
    set_with : (xs : List (ℤ × ℤ)) (p : are_parted xs ≡ true) (ys : List (ℤ × ℤ)) → xs ≡ ys → (q : are_parted ys ≡ true)
        → of xs p ≡ of ys q
    set_with xs p ys f =
        let P : List (ℤ × ℤ) → Type 0 = λ zs. (q : are_parted zs ≡ true) → of xs p ≡ of zs q in
        subst P f (λ q. ap (of xs) (Bool-set (are_parted xs) true p q))

term_sound : (a b : Term) → same_term a b ≡ true → a ≡ b
term_sound (Variable x c) (Variable y d) e =
    let p = and_elim (x == y) (int_eq c d) e in
    ap₂ Variable (eqb-true x y p.0) (int_sound c d p.1)
term_sound (Counted bodies c) (Counted others d) e =
    let p = and_elim (pointwise nat_eq bodies others) (int_eq c d) e in
    ap₂ Counted (lists_sound nat_eq nat_sound bodies others p.0) (int_sound c d p.1)
term_sound _ _ e = absurd (true≢false (sym e))

term_same : (a : Term) → same_term a a ≡ true
term_same (Variable x c) = and_intro (x == x) (int_eq c c) (nat_same x) (int_same c)
term_same (Counted bodies c) = and_intro (pointwise nat_eq bodies bodies) (int_eq c c) (lists_same nat_eq nat_same bodies) (int_same c)

pub content_sound : (a b : Content) → same_content a b ≡ true → a ≡ b
content_sound (SumAtMost sum k) (SumAtMost other l) e =
    let p = and_elim (pointwise same_term sum other) (int_eq k l) e in ap₂ SumAtMost (lists_sound same_term term_sound sum other p.0) (int_sound k l p.1)
content_sound (SumEquals sum k) (SumEquals other l) e =
    let p = and_elim (pointwise same_term sum other) (int_eq k l) e in ap₂ SumEquals (lists_sound same_term term_sound sum other p.0) (int_sound k l p.1)
content_sound (SumDiffers sum k) (SumDiffers other l) e =
    let p = and_elim (pointwise same_term sum other) (int_eq k l) e in ap₂ SumDiffers (lists_sound same_term term_sound sum other p.0) (int_sound k l p.1)
content_sound (InSet x set) (InSet y other) e =
    let p = and_elim (x == y) (pointwise same_interval set.intervals other.intervals) e in ap₂ InSet (eqb-true x y p.0) (set_sound set other p.1)
content_sound (AllDiffer places) (AllDiffer others) e = ap AllDiffer (lists_sound same_place place_sound places others e)
content_sound (NoneOverlap places) (NoneOverlap others) e = ap NoneOverlap (lists_sound same_place place_sound places others e)
content_sound (SomeTrue bodies) (SomeTrue others) e = ap SomeTrue (lists_sound nat_eq nat_sound bodies others e)
content_sound _ _ e = absurd (true≢false (sym e))

pub content_same : (a : Content) → same_content a a ≡ true
content_same (SumAtMost sum k) = and_intro (pointwise same_term sum sum) (int_eq k k) (lists_same same_term term_same sum) (int_same k)
content_same (SumEquals sum k) = and_intro (pointwise same_term sum sum) (int_eq k k) (lists_same same_term term_same sum) (int_same k)
content_same (SumDiffers sum k) = and_intro (pointwise same_term sum sum) (int_eq k k) (lists_same same_term term_same sum) (int_same k)
content_same (InSet x set) = and_intro (x == x) (pointwise same_interval set.intervals set.intervals) (nat_same x) (lists_same same_interval interval_same set.intervals)
content_same (AllDiffer places) = lists_same same_place place_same places
content_same (NoneOverlap places) = lists_same same_place place_same places
content_same (SomeTrue bodies) = lists_same nat_eq nat_same bodies

-- THE LIST

-- the list has a content like this one
abbrev pub has_content : List Content → Content → Bool
has_content contents content = list_any (λ c. same_content c content) contents

-- a content that is there stands at its number
pub at_number : (contents : List Content) (content : Content) → has_content contents content ≡ true
    → (place : ℕ) × (number_of contents content ≡ suc place) × (slice_get contents place ≡ Some content)
at_number [] content e = absurd (true≢false (sym e))
at_number (c ∷ contents) content e = go (same_content c content) refl e (at_number contents content)
  where
    go : (b : Bool) → same_content c content ≡ b → (b || has_content contents content) ≡ true
        → (has_content contents content ≡ true → (place : ℕ) × (number_of contents content ≡ suc place) × (slice_get contents place ≡ Some content))
        → (place : ℕ) × ((cond b 1 (number_of contents content + 1)) ≡ suc place) × (slice_get (c ∷ contents) place ≡ Some content)
    go true is e rec = (0, refl, ap Some (content_sound c content is))
    go false is e rec = let r = rec e in (suc r.0, (let f = r.1 in omega arith), r.2)

-- what is there stays
pub kept : (contents : List Content) (content added : Content) → has_content contents content ≡ true → has_content (with_content contents added) content ≡ true
kept contents content added e = go (has_content contents added)
  where
    longer : (cs : List Content) → has_content cs content ≡ true → has_content (cs ++ added ∷ []) content ≡ true
    longer [] f = absurd (true≢false (sym f))
    longer (c ∷ cs) f = pick (or_elim (same_content c content) (has_content cs content) f) (longer cs)
      where
        pick : (same_content c content ≡ true) ⊎ (has_content cs content ≡ true) → (has_content cs content ≡ true → has_content (cs ++ added ∷ []) content ≡ true)
            → (same_content c content || has_content (cs ++ added ∷ []) content) ≡ true
        pick (inl here) rec = or_left (same_content c content) (has_content (cs ++ added ∷ []) content) here
        pick (inr later) rec = or_right (same_content c content) (has_content (cs ++ added ∷ []) content) (rec later)

    go : (b : Bool) → has_content (cond b contents (contents ++ added ∷ [])) content ≡ true
    go true = e
    go false = longer contents e

-- what is added is there
pub added_is_there : (contents : List Content) (added : Content) → has_content (with_content contents added) added ≡ true
added_is_there contents added = go (has_content contents added) refl
  where
    last : (cs : List Content) → has_content (cs ++ added ∷ []) added ≡ true
    last [] = or_left (same_content added added) false (content_same added)
    last (c ∷ cs) = or_right (same_content c added) (has_content (cs ++ added ∷ []) added) (last cs)

    go : (b : Bool) → has_content contents added ≡ b → has_content (cond b contents (contents ++ added ∷ [])) added ≡ true
    go true is = is
    go false is = last contents

pub fold_keeps : (contents demands : List Content) (content : Content) → has_content contents content ≡ true → has_content (fold with_content contents demands) content ≡ true
fold_keeps contents [] content e = e
fold_keeps contents (d ∷ demands) content e = fold_keeps (with_content contents d) demands content (kept contents content d e)

-- each demand is there in the end
pub demanded : (contents demands : List Content) (content : Content) → IsMember demands content → has_content (fold with_content contents demands) content ≡ true
demanded contents [] content m = absurd m
demanded contents (d ∷ demands) content (inl e) =
    fold_keeps (with_content contents d) demands content (subst (λ c. has_content (with_content contents d) c ≡ true) (sym e) (added_is_there contents d))
demanded contents (d ∷ demands) content (inr m) = demanded (with_content contents d) demands content m

-- the list has demands alone
pub only_demanded : (contents demands : List Content) (P : Content → Type 0) → ((c : Content) → IsMember contents c → P c) → ((c : Content) → IsMember demands c → P c)
    → (c : Content) → IsMember (fold with_content contents demands) c → P c
only_demanded contents [] P f g c m = f c m
only_demanded contents (d ∷ demands) P f g c m = only_demanded (with_content contents d) demands P (step (has_content contents d)) (λ e k. g e (inr k)) c m
  where
    step : (b : Bool) → (e : Content) → IsMember (cond b contents (contents ++ d ∷ [])) e → P e
    step true e k = f e k
    step false e k = last contents f e k
      where
        last : (cs : List Content) → ((e : Content) → IsMember cs e → P e) → (e : Content) → IsMember (cs ++ d ∷ []) e → P e
        last [] f e (inl p) = subst P (sym p) (g d (inl refl))
        last [] f e (inr k) = absurd k
        last (x ∷ cs) f e (inl p) = f e (inl p)
        last (x ∷ cs) f e (inr k) = last cs (λ w n. f w (inr n)) e k
