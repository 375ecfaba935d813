-- Spans in the order of their starts: a span shares no integer with those before it where it shares none with the last of them.
use Rattle.std.proofs.Common.{◌≡◌, ◌<◌, ◌≤◌, ◌+◌, ◌⊎◌, inl, inr, ℕ, zero, suc, Bool, true, false, cond, not, ◌&&◌, ℤ, pos, ◌+ℤ◌, ◌≤ℤ◌, ◌<ℤ◌, int_lt, List, [], ◌∷◌, drop, get_or, length, All, refl, sym, ◌∙◌, ap, subst, true≢false, arith}
use Rattle.std.specs.List.{AllByRecursion, list_all}
use Rattle.std.specs.List.Sorted.{IsPermutation}
use Rattle.std.proofs.lemmas.List.Sorted.{All-permutation}
use Rattle.std.specs.Ordering.{is_lt, int_cmp, ordering_then}
use Rattle.std.specs.Cmp.{int_cmp_is}
use Rattle.std.specs.declared.cmp.Ordering.TheVariants.{Less}
use Rattle.std.proofs.lemmas.Int.{ints}
use Rattle.ground_model.specs.Spans.{are_apart_spans, starts_before, AreAscending, IsSizedSpan}
use Rattle.ground_model.specs.Truth.{share, all_pairs}
use Rattle.ground_model.proofs.Bools.{and_elim, and_intro, bool_cases}
use Rattle.ground_model.proofs.MemberLemmas.{property_map}
use Rattle.ground_model.proofs.OrderedLemmas.{property_at}
use Rattle.ground_model.proofs.Products.{drop_next}

less : (x y : ℤ) → int_lt x y ≡ true → x <ℤ y
less x y f = grind (arith, ints)

at_least : (x y : ℤ) → int_lt x y ≡ false → y ≤ℤ x
at_least x y f = grind (arith, ints)

record Shares (a b : ℤ × ℤ) : Type 0 where
  pub own : pos 0 <ℤ a.1
  pub other : pos 0 <ℤ b.1
  pub under : a.0 <ℤ (b.0 +ℤ b.1)
  pub over : b.0 <ℤ (a.0 +ℤ a.1)

shares : (a b : ℤ × ℤ) → share a.0 a.1 b.0 b.1 ≡ true → Shares a b
shares a b e =
    let p = and_elim (int_lt (pos 0) a.1 && int_lt (pos 0) b.1 && int_lt a.0 (b.0 +ℤ b.1)) (int_lt b.0 (a.0 +ℤ a.1)) e in
    let q = and_elim (int_lt (pos 0) a.1 && int_lt (pos 0) b.1) (int_lt a.0 (b.0 +ℤ b.1)) p.0 in
    let r = and_elim (int_lt (pos 0) a.1) (int_lt (pos 0) b.1) q.0 in
    record { own = less (pos 0) a.1 r.0; other = less (pos 0) b.1 r.1; under = less a.0 (b.0 +ℤ b.1) q.1; over = less b.0 (a.0 +ℤ a.1) p.1 }

shared : (a b : ℤ × ℤ) → Shares a b → share a.0 a.1 b.0 b.1 ≡ true
shared a b s =
    and_intro (int_lt (pos 0) a.1 && int_lt (pos 0) b.1 && int_lt a.0 (b.0 +ℤ b.1)) (int_lt b.0 (a.0 +ℤ a.1))
    (and_intro (int_lt (pos 0) a.1 && int_lt (pos 0) b.1) (int_lt a.0 (b.0 +ℤ b.1))
    (and_intro (int_lt (pos 0) a.1) (int_lt (pos 0) b.1) (test (pos 0) a.1 s.own) (test (pos 0) b.1 s.other)) (test a.0 (b.0 +ℤ b.1) s.under))
    (test b.0 (a.0 +ℤ a.1) s.over)
  where
    test : (x y : ℤ) → x <ℤ y → int_lt x y ≡ true
    test x y f = grind (arith, ints)

apart_or : (a b : ℤ × ℤ) → (Shares a b → ⊥) → are_apart_spans a b ≡ true
apart_or a b differ = go (bool_cases (share a.0 a.1 b.0 b.1))
  where
    go : (share a.0 a.1 b.0 b.1 ≡ true) ⊎ (share a.0 a.1 b.0 b.1 ≡ false) → are_apart_spans a b ≡ true
    go (inl e) = absurd (differ (shares a b e))
    go (inr e) = ap not e

not_shared : (a b : ℤ × ℤ) → share a.0 a.1 b.0 b.1 ≡ false → Shares a b → ⊥
not_shared a b e s = true≢false (sym (shared a b s) ∙ e)

pub apart_both : (a b : ℤ × ℤ) → are_apart_spans a b ≡ true → are_apart_spans b a ≡ true
apart_both a b e = apart_or b a (λ s. true≢false (sym e ∙ ap not (shared a b (record { own = s.other; other = s.own; under = s.over; over = s.under }))))

-- a span of no length shares nothing
pub empty_apart : (x s : ℤ × ℤ) → int_lt (pos 0) x.1 ≡ false → are_apart_spans x s ≡ true
empty_apart x s e = apart_or x s (λ h. let p = h.own in let q = at_least (pos 0) x.1 e in absurd (omega (arith, ints)))

all_true : {X : Type 0} (p : X → Bool) (P : X → Type 0) → ((x : X) → P x → p x ≡ true) → (xs : List X) → AllByRecursion P xs → list_all p xs ≡ true
all_true p P f [] a = refl
all_true p P f (x ∷ xs) a = and_intro (p x) (list_all p xs) (f x a.0) (all_true p P f xs a.1)

-- what starts no earlier than a span that has a length and shares nothing with the last one shares nothing with the last one
beyond : (last x s : ℤ × ℤ) → starts_before x last ≡ false → int_lt (pos 0) x.1 ≡ true → share last.0 last.1 x.0 x.1 ≡ false → starts_before s x ≡ false → are_apart_spans last s ≡ true
beyond last x s before long apart after =
    apart_or last s (λ h.
    let p = at_least x.0 last.0 before in
    let q = less (pos 0) x.1 long in
    let r = at_least s.0 x.0 after in
    let a = h.own in
    let b = h.over in
    not_shared last x apart (record { own = a; other = q; under = omega (arith, ints); over = omega (arith, ints) }))

module _ (last x : ℤ × ℤ) (rest : List (ℤ × ℤ)) (total : Bool) (so_far : (list_all (are_apart_spans last) (x ∷ rest) && all_pairs are_apart_spans (x ∷ rest)) ≡ total) where
  -- a span of no length is passed over
  pub pass : int_lt (pos 0) x.1 ≡ false → (list_all (are_apart_spans last) rest && all_pairs are_apart_spans rest) ≡ total
  pass e =
      same (are_apart_spans last x) (list_all (are_apart_spans last) rest) (list_all (are_apart_spans x) rest) (all_pairs are_apart_spans rest)
      (apart_both x last (empty_apart x last e)) (all_true (are_apart_spans x) (λ s. Unit {0}) (λ s t. empty_apart x s e) rest (units rest))
      ∙ so_far
    where
      units : (xs : List (ℤ × ℤ)) → AllByRecursion (λ s. Unit {0}) xs
      units [] = tt
      units (y ∷ ys) = (tt, units ys)

      same : (a b c d : Bool) → a ≡ true → c ≡ true → (b && d) ≡ ((a && b) && (c && d))
      same true b true d e f = refl
      same true b false d e f = absurd (true≢false (sym f))
      same false b c d e f = absurd (true≢false (sym e))

  -- a span that shares nothing with the last one becomes the last one
  pub step : int_lt (pos 0) x.1 ≡ true → share last.0 last.1 x.0 x.1 ≡ false → starts_before x last ≡ false → AllByRecursion (λ s. starts_before s x ≡ false) rest
      → (list_all (are_apart_spans x) rest && all_pairs are_apart_spans rest) ≡ total
  step long apart before after =
      same (are_apart_spans last x) (list_all (are_apart_spans last) rest) (list_all (are_apart_spans x) rest) (all_pairs are_apart_spans rest)
      (ap not apart) (all_true (are_apart_spans last) (λ s. starts_before s x ≡ false) (λ s e. beyond last x s before long apart e) rest after)
      ∙ so_far
    where
      same : (a b c d : Bool) → a ≡ true → b ≡ true → (c && d) ≡ ((a && b) && (c && d))
      same true true c d e f = refl
      same true false c d e f = absurd (true≢false (sym f))
      same false b c d e f = absurd (true≢false (sym e))

  -- a span that shares something with the last one decides
  pub stop : share last.0 last.1 x.0 x.1 ≡ true → false ≡ total
  stop e = ap (λ t. (t && list_all (are_apart_spans last) rest) && all_pairs are_apart_spans (x ∷ rest)) (sym (ap not e)) ∙ so_far

-- ORDER

-- the order of pairs sorts spans by their starts
pub starts_in_order : (a b : ℤ × ℤ) → is_lt (ordering_then (int_cmp a.0 b.0) (int_cmp a.1 b.1)) ≡ false → starts_before a b ≡ false
starts_in_order a b e = go (bool_cases (int_lt a.0 b.0))
  where
    go : (int_lt a.0 b.0 ≡ true) ⊎ (int_lt a.0 b.0 ≡ false) → starts_before a b ≡ false
    go (inl f) =
        let same : Less ≡ int_cmp a.0 b.0 = int_cmp_is a.0 b.0 Less (less a.0 b.0 f) in
        absurd (true≢false (ap (λ o. is_lt (ordering_then o (int_cmp a.1 b.1))) same ∙ e))
    go (inr f) = f

pub ascending_from : (spans : List (ℤ × ℤ)) → ((k : ℕ) (d : ℤ × ℤ) → k + 1 < length spans → starts_before (get_or spans (k + 1) d) (get_or spans k d) ≡ false) → AreAscending spans
ascending_from [] sorted = tt
ascending_from (x ∷ []) sorted = (tt, tt)
ascending_from (x ∷ y ∷ spans) sorted =
    let rest = ascending_from (y ∷ spans) (λ k d below. let s : (k + 1) + 1 ≡ suc (k + 1) = omega arith in next k d below) in
    let first = sorted 0 x (omega arith) in
    ((first, property_map (λ s. starts_before s y ≡ false) (λ s. starts_before s x ≡ false) (λ s e. after s e first) spans rest.0), rest)
  where
    after : (s : ℤ × ℤ) → starts_before s y ≡ false → starts_before y x ≡ false → starts_before s x ≡ false
    after s e f = grind (arith, ints)

    next : (k : ℕ) (d : ℤ × ℤ) → k + 1 < length (y ∷ spans) → starts_before (get_or (y ∷ spans) (k + 1) d) (get_or (y ∷ spans) k d) ≡ false
    next k d below = let s : (k + 1) + 1 ≡ suc (k + 1) = omega arith in let t : k + 1 ≡ suc k = omega arith in
        subst (λ n. starts_before (get_or (y ∷ spans) (k + 1) d) (get_or (x ∷ y ∷ spans) n d) ≡ false) t
        (subst (λ n. starts_before (get_or (x ∷ y ∷ spans) n d) (get_or (x ∷ y ∷ spans) (k + 1) d) ≡ false) s (sorted (k + 1) d (omega arith)))

-- THE SWEEP

abbrev pub span_at : List (ℤ × ℤ) → ℕ → ℤ × ℤ
span_at spans i = get_or spans i (pos 0, pos 0)

-- what the spans before a place leave to check, the last of them that occupies something being given
pub record IsSwept (spans : List (ℤ × ℤ)) (last at : ℕ) : Type 0 where
  pub so_far : (list_all (are_apart_spans (span_at spans last)) (drop at spans) && all_pairs are_apart_spans (drop at spans)) ≡ all_pairs are_apart_spans spans
  pub after : AllByRecursion (λ s. starts_before s (span_at spans last) ≡ false) (drop at spans)
  pub ascending : AreAscending (drop at spans)
  pub left : AllByRecursion IsSizedSpan (drop at spans)
  pub sized : IsSizedSpan (span_at spans last)

pub begin : (spans : List (ℤ × ℤ)) → AllByRecursion IsSizedSpan spans → AreAscending spans → IsSwept spans 0 1
begin [] sized ascending = record { so_far = refl; after = tt; ascending = tt; left = tt; sized = record { start = omega (arith, ints); length = omega (arith, ints) } }
begin (span ∷ spans) sized ascending = record { so_far = refl; after = ascending.0; ascending = ascending.1; left = sized.1; sized = sized.0 }

module _ (spans : List (ℤ × ℤ)) (last at : ℕ) (below : at < length spans) (swept : IsSwept spans last at) where
  next : drop at spans ≡ span_at spans at ∷ drop (at + 1) spans
  next = drop_next spans at (pos 0, pos 0) below

  sized_at : AllByRecursion IsSizedSpan (span_at spans at ∷ drop (at + 1) spans)
  sized_at = subst (AllByRecursion IsSizedSpan) next swept.left

  pub sized_here : IsSizedSpan (span_at spans at)
  sized_here = sized_at.0

  follows : AllByRecursion (λ s. starts_before s (span_at spans last) ≡ false) (span_at spans at ∷ drop (at + 1) spans)
  follows = subst (AllByRecursion (λ s. starts_before s (span_at spans last) ≡ false)) next swept.after

  ascends : AreAscending (span_at spans at ∷ drop (at + 1) spans)
  ascends = subst AreAscending next swept.ascending

  checked : (list_all (are_apart_spans (span_at spans last)) (span_at spans at ∷ drop (at + 1) spans) && all_pairs are_apart_spans (span_at spans at ∷ drop (at + 1) spans))
      ≡ all_pairs are_apart_spans spans
  checked =
      subst (λ xs. (list_all (are_apart_spans (span_at spans last)) xs && all_pairs are_apart_spans xs) ≡ all_pairs are_apart_spans spans) next swept.so_far

  pub halt : share (span_at spans last).0 (span_at spans last).1 (span_at spans at).0 (span_at spans at).1 ≡ true → false ≡ all_pairs are_apart_spans spans
  halt e = stop (span_at spans last) (span_at spans at) (drop (at + 1) spans) (all_pairs are_apart_spans spans) checked e

  pub go_on : (new : ℕ) → share (span_at spans last).0 (span_at spans last).1 (span_at spans at).0 (span_at spans at).1 ≡ false
      → new ≡ cond (int_lt (pos 0) (span_at spans at).1) at last → IsSwept spans new (at + 1)
  go_on new apart is = go (int_lt (pos 0) (span_at spans at).1) refl is
    where
      go : (t : Bool) → int_lt (pos 0) (span_at spans at).1 ≡ t → new ≡ cond t at last → IsSwept spans new (at + 1)
      go true e is = subst (λ n. IsSwept spans n (at + 1)) (sym is) (record {
        so_far = step (span_at spans last) (span_at spans at) (drop (at + 1) spans) (all_pairs are_apart_spans spans) checked e apart follows.0 ascends.0;
        after = ascends.0;
        ascending = ascends.1;
        left = sized_at.1;
        sized = sized_at.0;
      })
      go false e is = subst (λ n. IsSwept spans n (at + 1)) (sym is) (record {
        so_far = pass (span_at spans last) (span_at spans at) (drop (at + 1) spans) (all_pairs are_apart_spans spans) checked e;
        after = follows.1;
        ascending = ascends.1;
        left = sized_at.1;
        sized = swept.sized;
      })

pub finish : (spans : List (ℤ × ℤ)) (last at : ℕ) → length spans ≤ at → IsSwept spans last at → true ≡ all_pairs are_apart_spans spans
finish spans last at past swept =
    subst (λ xs. (list_all (are_apart_spans (span_at spans last)) xs && all_pairs are_apart_spans xs) ≡ all_pairs are_apart_spans spans) (none spans at past) swept.so_far
  where
    none : (xs : List (ℤ × ℤ)) (n : ℕ) → length xs ≤ n → drop n xs ≡ []
    none [] zero le = refl
    none [] (suc n) le = refl
    none (x ∷ xs) zero le = absurd (omega arith)
    none (x ∷ xs) (suc n) le = none xs n (omega arith)

by_recursion : {X : Type 0} (P : X → Type 0) (xs : List X) → All P xs → AllByRecursion P xs
by_recursion P [] all = tt
by_recursion P (x ∷ xs) all = (all 0 x (omega arith), by_recursion P xs (λ k d below. all (suc k) d (omega arith)))

pub sized_sorted : (spans sorted : List (ℤ × ℤ)) → IsPermutation spans sorted → AllByRecursion IsSizedSpan spans → AllByRecursion IsSizedSpan sorted
sized_sorted spans sorted permutation sized =
    by_recursion IsSizedSpan sorted (All-permutation IsSizedSpan spans sorted permutation (λ k d below. property_at IsSizedSpan spans k d sized below))
