-- The texts under names are one, where each is told, and no text is too large beside texts of permitted sizes.
use Rattle.std.proofs.Common.{◌≡◌, ◌⊎◌, ℕ, zero, suc, ◌+◌, ◌<◌, ◌≤◌, ◌^◌, List, [], ◌∷◌, length, take, slice_get, Some, None, IsSome, IfSome, true, false, refl, sym, ◌∙◌, ap, subst, inl, inr, arith}
use Rattle.std.specs.List.{AllByRecursion}
use Rattle.std.specs.declared.option.Option.{Option}
use Rattle.outside_io.specs.Outputs.{Input}
use Rattle.inputs.specs.Sizes.{size_of, AreSmall, AreTold, AreTexts, IsTooLarge}
use Rattle.inputs.proofs.OneConstants.{one_some}

-- one place comes before another, or they are one
order_of : (k j : ℕ) → (k < j) ⊎ (k ≡ j) ⊎ (j < k)
order_of zero zero = inr (inl refl)
order_of zero (suc j) = inl (omega arith)
order_of (suc k) zero = inr (inr (omega arith))
order_of (suc k) (suc j) = go (order_of k j)
  where
    go : (k < j) ⊎ (k ≡ j) ⊎ (j < k) → (suc k < suc j) ⊎ (suc k ≡ suc j) ⊎ (suc j < suc k)
    go (inl less) = inl (omega (arith, less))
    go (inr (inl same)) = inr (inl (ap suc same))
    go (inr (inr more)) = inr (inr (omega (arith, more)))

-- the front of a front
front_of_front : {X : Type 0} (xs : List X) (k j : ℕ) → k < j → take k (take j xs) ≡ take k xs
front_of_front xs zero j below = refl
front_of_front xs (suc k) zero below = absurd (omega (arith, below))
front_of_front [] (suc k) (suc j) below = refl
front_of_front (x ∷ xs) (suc k) (suc j) below = ap (λ l. x ∷ l) (front_of_front xs k j (omega (arith, below)))

-- an item of a front
item_of_front : {X : Type 0} (xs : List X) (k j : ℕ) → k < j → slice_get (take j xs) k ≡ slice_get xs k
item_of_front xs k zero below = absurd (omega (arith, below))
item_of_front [] k (suc j) below = refl
item_of_front (x ∷ xs) zero (suc j) below = refl
item_of_front (x ∷ xs) (suc k) (suc j) below = item_of_front xs k j (omega (arith, below))

all_of_front : {X : Type 0} (P : X → Type 0) (xs : List X) (k : ℕ) → AllByRecursion P xs → AllByRecursion P (take k xs)
all_of_front P xs zero all = tt
all_of_front P [] (suc k) all = tt
all_of_front P (x ∷ xs) (suc k) all = (all.0, all_of_front P xs k all.1)

-- what is told is one text
one_told : (o : Option (List ℕ)) (text other : List ℕ) → IsSome o → IfSome o (λ told. text ≡ told) → IfSome o (λ told. other ≡ told) → text ≡ other
one_told None text other there is is_too = let wrong : false ≡ true = there in cc
one_told (Some told) text other there is is_too = is ∙ sym is_too

-- a text that is told is not too large behind texts, where it is not
not_large : (o : Option (List ℕ)) (text : List ℕ) (before : List (List ℕ)) → IsSome o → IfSome o (λ told. text ≡ told)
    → IfSome o (λ told. (2 ^ 24 < length told) ⊎ (2 ^ 26 < size_of before + length told)) → length text ≤ 2 ^ 24 → size_of before + length text ≤ 2 ^ 26 → ⊥
not_large None text before there is large small few = let wrong : false ≡ true = there in cc
not_large (Some told) text before there is (inl large) small few =
    let same : length text ≡ length told = ap length is in omega (arith, same, large, small)
not_large (Some told) text before there is (inr large) small few =
    let same : length text ≡ length told = ap length is in omega (arith, same, large, few)

-- each name has a text that is told
abbrev AreAllTold : Input → List (List ℕ) → Type 0
AreAllTold files names = AllByRecursion (λ name. IsSome (files.text name)) names

same_told : (files : Input) (names texts others : List (List ℕ)) → AreAllTold files names → AreTold files names texts
    → AreTold files names others → texts ≡ others
same_told files [] [] [] all are are_too = refl
same_told files [] [] (other ∷ others) all are are_too = absurd are_too
same_told files [] (text ∷ texts) others all are are_too = absurd are
same_told files (name ∷ names) [] others all are are_too = absurd are
same_told files (name ∷ names) (text ∷ texts) [] all are are_too = absurd are_too
same_told files (name ∷ names) (text ∷ texts) (other ∷ others) all are are_too =
    λ i. one_told (files.text name) text other all.0 are.0 are_too.0 i ∷ same_told files names texts others all.1 are.1 are_too.1 i

-- the texts under names are one
pub one_texts : (files : Input) (names texts others : List (List ℕ)) → AreAllTold files names → AreTexts files names texts
    → AreTexts files names others → texts ≡ others
one_texts files names texts others all are are_too = same_told files names texts others all are.told are_too.told

-- the text of a name among the texts, behind those of the names before it
record IsAmong (files : Input) (texts before : List (List ℕ)) (name : List ℕ) : Type 0 where
  pub text : List ℕ
  pub there : IsSome (files.text name)
  pub told : IfSome (files.text name) (λ told. text ≡ told)
  pub small : AreSmall texts → length text ≤ 2 ^ 24
  pub few : size_of before + length text ≤ size_of texts

among : (files : Input) (names texts before : List (List ℕ)) (name : List ℕ) → AreAllTold files names → AreTold files names texts
    → AreTold files (take (length before) names) before → slice_get names (length before) ≡ Some name → IsAmong files texts before name
among files [] texts before name all are front here = cc
among files (first ∷ names) [] before name all are front here = absurd are
among files (first ∷ names) (text ∷ texts) [] name all are front here =
    let same : first ≡ name = cc in record {
      text = text;
      there = subst (λ (n : List ℕ). IsSome (files.text n)) same all.0;
      told = subst (λ (n : List ℕ). IfSome (files.text n) (λ told. text ≡ told)) same are.0;
      small = λ small. small.0;
      few = omega arith;
    }
among files (first ∷ names) (text ∷ texts) (one ∷ before) name all are front here =
    let rest = among files names texts before name all.1 are.1 front.1 here in
    let same : length text ≡ length one = ap length (one_told (files.text first) text one all.0 are.0 front.0) in
    let less : size_of before + length rest.text ≤ size_of texts = rest.few in
    record {
      text = rest.text;
      there = rest.there;
      told = rest.told;
      small = λ small. rest.small small.1;
      few = omega (arith, same, less);
    }

-- a text of which so many bytes were taken is as long at least
long_enough : (o : Option (List ℕ)) (taken : ℕ) (before : List (List ℕ)) → (2 ^ 24 < taken) ⊎ (2 ^ 26 < size_of before + taken) → IfSome o (λ told. taken ≤ length told)
    → IfSome o (λ told. (2 ^ 24 < length told) ⊎ (2 ^ 26 < size_of before + length told))
long_enough None taken before large told = tt
long_enough (Some text) taken before (inl large) told = inl (omega (arith, large, told))
long_enough (Some text) taken before (inr large) told = inr (omega (arith, large, told))

large_there : (files : Input) (names : List (List ℕ)) (taken : ℕ) (name : List ℕ) → (large : IsTooLarge files names taken name)
    → IfSome (files.text name) (λ text. (2 ^ 24 < length text) ⊎ (2 ^ 26 < size_of large.before + length text))
large_there files names taken name large = long_enough (files.text name) taken large.before large.large large.told

-- no text is too large where the texts have permitted sizes
none_large : (files : Input) (names texts before : List (List ℕ)) (name : List ℕ) → AreAllTold files names → AreTexts files names texts
    → AreTold files (take (length before) names) before → slice_get names (length before) ≡ Some name
    → IfSome (files.text name) (λ text. (2 ^ 24 < length text) ⊎ (2 ^ 26 < size_of before + length text)) → ⊥
none_large files names texts before name all are front here large =
    let one = among files names texts before name all are.told front here in
    let less : size_of before + length one.text ≤ size_of texts = one.few in
    let few : size_of texts ≤ 2 ^ 26 = are.few in
    not_large (files.text name) one.text before one.there one.told large (one.small are.small) (omega (arith, less, few))

pub none_too_large : (files : Input) (names texts : List (List ℕ)) (taken : ℕ) (name : List ℕ) → AreAllTold files names → AreTexts files names texts
    → IsTooLarge files names taken name → ⊥
none_too_large files names texts taken name all are large =
    none_large files names texts large.before name all are large.texts.told large.here (large_there files names taken name large)

-- no text is too large before the first that is
none_before : (files : Input) (names : List (List ℕ)) (m n : ℕ) (name other : List ℕ) → AreAllTold files names → (a : IsTooLarge files names m name)
    → (b : IsTooLarge files names n other) → length a.before < length b.before → ⊥
none_before files names m n name other all a b below =
    none_large files (take (length b.before) names) b.before a.before name
    (all_of_front (λ name. IsSome (files.text name)) names (length b.before) all)
    b.texts
    (subst (λ (l : List (List ℕ)). AreTold files l a.before) (sym (front_of_front names (length a.before) (length b.before) below)) a.texts.told)
    (item_of_front names (length a.before) (length b.before) below ∙ a.here)
    (large_there files names m name a)

-- the first text that is too large is one
pub one_too_large : (files : Input) (names : List (List ℕ)) (m n : ℕ) (name other : List ℕ) → AreAllTold files names → IsTooLarge files names m name
    → IsTooLarge files names n other → name ≡ other
one_too_large files names m n name other all a b = go (order_of (length a.before) (length b.before))
  where
    go : (length a.before < length b.before) ⊎ (length a.before ≡ length b.before) ⊎ (length b.before < length a.before) → name ≡ other
    go (inl less) = absurd (none_before files names m n name other all a b less)
    go (inr (inl same)) = one_some (slice_get names (length b.before)) name other (ap (slice_get names) (sym same) ∙ a.here) b.here
    go (inr (inr more)) = absurd (none_before files names n m other name all b a more)
