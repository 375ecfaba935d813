-- Pieces of a rule's text, and the equations of the variables that are made for intervals in them.
use Rattle.std.proofs.Common.{◌≡◌, ◌⊎◌, ◌≤◌, ◌<◌, ℕ, Bool, true, false, List, [], ◌∷◌, ◌++◌, map, refl, sym, ◌∙◌, subst, inl, inr, arith, true≢false}
use Rattle.std.specs.List.{AllByRecursion, list_any}
use Rattle.symbols.specs.declared.rel.Rel.TheVariants.{Equal}
use Rattle.syntax_tree.specs.declared.term.Term.{Term}
use Rattle.syntax_tree.specs.declared.term.Term.TheVariants as t
use Rattle.syntax_tree.specs.declared.literal.Literal.{Literal}
use Rattle.syntax_tree.specs.declared.literal.Literal.TheVariants as l
use Rattle.ground_model.specs.Members.{IsMember}
use Rattle.ground_model.proofs.Bools.{or_elim, or_left, or_right}
use Rattle.rewriting.specs.declared.sight.Sight.{Sight}
use Rattle.rewriting.specs.declared.sight.Sight.TheVariants.{Variable, Interval}
use Rattle.rewriting.specs.Made.{Made, same, mapped, joined, both, each}
use Rattle.rewriting.specs.Rewritten.{closed}
use Rattle.program_meaning.specs.Read.{literal_read}
use Rattle.program_meaning.specs.Variables.{occurs, occurs_in_literal}
use Rattle.program_meaning.specs.Tuples.{told_in}
use Rattle.program_meaning.proofs.Lists.{append_left, append_right, append_from}

abbrev pub Named : ℕ → List Sight → Type 0
Named N sights = (k : ℕ) → IsMember sights (Variable k) → k ≤ N

-- a term has named variables and later ones alone
abbrev pub IsLater : ℕ → ℕ → Term → Type 0
IsLater N n term = (m : ℕ) → occurs m term ≡ true → (m ≤ N) ⊎ (n < m)

abbrev pub Equation : ℕ → ℕ → List Literal → Type 0
Equation N n literals = (term : Term) × IsMember literals (l.Compare (t.Variable n) Equal term) × IsLater N n term

-- the variable stands in one of the literals, outside the elements of theory atoms
abbrev pub plain_in : ℕ → List Literal → Bool
plain_in n literals = list_any (λ literal. occurs_in_literal n (literal_read literal)) literals

pub any_split : {X : Type 0} (test : X → Bool) (xs ys : List X) → list_any test (xs ++ ys) ≡ true → (list_any test xs ≡ true) ⊎ (list_any test ys ≡ true)
any_split test [] ys h = inr h
any_split test (x ∷ xs) ys h = go (or_elim (test x) (list_any test (xs ++ ys)) h) (any_split test xs ys)
  where
    go : (test x ≡ true) ⊎ (list_any test (xs ++ ys) ≡ true) → (list_any test (xs ++ ys) ≡ true → (list_any test xs ≡ true) ⊎ (list_any test ys ≡ true))
        → (list_any test (x ∷ xs) ≡ true) ⊎ (list_any test ys ≡ true)
    go (inl here) later = inl (or_left (test x) (list_any test xs) here)
    go (inr there) later = elim (later there) [ inl k ↦ inl (or_right (test x) (list_any test xs) k) | inr k ↦ inr k ]

pub plain_split : (n : ℕ) (xs ys : List Literal) → plain_in n (xs ++ ys) ≡ true → (plain_in n xs ≡ true) ⊎ (plain_in n ys ≡ true)
plain_split n xs ys h = any_split (λ literal. occurs_in_literal n (literal_read literal)) xs ys h

-- TERMS

-- what stands in a piece is named or made in it, and each interval has its equation
pub record Fresh {X : Type 0} (N : ℕ) (stands : ℕ → X → Bool) (next : ℕ) (a : Made X) : Type 0 where
  pub rises : next ≤ a.next
  pub low : (m : ℕ) → stands m a.made ≡ true → (m ≤ N) ⊎ ((next ≤ m) × (m < a.next))
  pub added_low : (m : ℕ) → plain_in m a.added ≡ true → (m ≤ N) ⊎ ((next ≤ m) × (m < a.next))
  pub interval : (m : ℕ) → IsMember a.sights (Interval m) → (next ≤ m) × (m < a.next)
  pub equation : (m : ℕ) → IsMember a.sights (Interval m) → Equation N m a.added
  pub told : (x : Literal) → IsMember a.added x → told_in (literal_read x) ≡ []

abbrev pub FreshWay : {X : Type 0} → ℕ → (ℕ → X → Bool) → (ℕ → Made X) → Type 0
FreshWay N stands way = (next : ℕ) → N < next → Named N (way next).sights → Fresh N stands next (way next)

pub fresh_same : {X : Type 0} (N : ℕ) (stands : ℕ → X → Bool) (x : X) (next : ℕ) → ((m : ℕ) → stands m x ≡ false) → Fresh N stands next (same x next)
fresh_same N stands x next none = record {
  rises = omega arith;
  low = λ m h. absurd (true≢false (sym h ∙ none m));
  added_low = λ m h. absurd (true≢false (sym h));
  interval = λ m k. absurd k;
  equation = λ m k. absurd k;
  told = λ x m. absurd m;
}

pub fresh_mapped : {X Y : Type 0} (N : ℕ) (stands : ℕ → X → Bool) (stands_there : ℕ → Y → Bool) (f : X → Y) (next : ℕ) (a : Made X)
    → ((m : ℕ) → stands_there m (f a.made) ≡ true → stands m a.made ≡ true) → Fresh N stands next a → Fresh N stands_there next (mapped f a)
fresh_mapped N stands stands_there f next a back s = record {
  rises = s.rises;
  low = λ m h. s.low m (back m h);
  added_low = s.added_low;
  interval = s.interval;
  equation = s.equation;
  told = s.told;
}

pub fresh_joined : {X Y Z : Type 0} (N : ℕ) (first : ℕ → X → Bool) (second : ℕ → Y → Bool) (whole : ℕ → Z → Bool) (f : X → Y → Z) (next : ℕ) (a : Made X) (b : Made Y)
    → ((m : ℕ) → whole m (f a.made b.made) ≡ true → (first m a.made ≡ true) ⊎ (second m b.made ≡ true)) → Fresh N first next a → Fresh N second a.next b
    → Fresh N whole next (joined f a b)
fresh_joined N first second whole f next a b back s r = record {
  told = λ x m. elim (append_from a.added b.added x m) [ inl k ↦ s.told x k | inr k ↦ r.told x k ];
  rises = let p = s.rises in let q = r.rises in omega (arith, p, q);
  low = λ m h. elim (back m h) [ inl k ↦ from_a m (s.low m k) | inr k ↦ from_b m (r.low m k) ];
  added_low = λ m h. elim (plain_split m a.added b.added h) [ inl k ↦ from_a m (s.added_low m k) | inr k ↦ from_b m (r.added_low m k) ];
  interval = λ m k. elim (append_from a.sights b.sights (Interval m) k) [
    | inl i ↦ (let p = s.interval m i in let q = r.rises in let high = p.1 in (p.0, omega (arith, q, high)))
    | inr i ↦ (let p = r.interval m i in let q = s.rises in let low = p.0 in (omega (arith, q, low), p.1))
  ];
  equation = λ m k. elim (append_from a.sights b.sights (Interval m) k) [
    | inl i ↦ (let e = s.equation m i in (e.0, append_left a.added b.added (l.Compare (t.Variable m) Equal e.0) e.1, e.2))
    | inr i ↦ (let e = r.equation m i in (e.0, append_right a.added b.added (l.Compare (t.Variable m) Equal e.0) e.1, e.2))
  ];
}
  where
    from_a : (m : ℕ) → (m ≤ N) ⊎ ((next ≤ m) × (m < a.next)) → (m ≤ N) ⊎ ((next ≤ m) × (m < b.next))
    from_a m (inl k) = inl k
    from_a m (inr k) = let q = r.rises in let high = k.1 in inr (k.0, omega (arith, q, high))

    from_b : (m : ℕ) → (m ≤ N) ⊎ ((a.next ≤ m) × (m < b.next)) → (m ≤ N) ⊎ ((next ≤ m) × (m < b.next))
    from_b m (inl k) = inl k
    from_b m (inr k) = let q = s.rises in let low = k.0 in inr (omega (arith, q, low), k.1)

pub named_left : (N : ℕ) (xs ys : List Sight) → Named N (xs ++ ys) → Named N xs
named_left N xs ys h k m = h k (append_left xs ys (Variable k) m)

pub named_right : (N : ℕ) (xs ys : List Sight) → Named N (xs ++ ys) → Named N ys
named_right N xs ys h k m = h k (append_right xs ys (Variable k) m)

pub fresh_both : {X Y Z : Type 0} (N : ℕ) (first : ℕ → X → Bool) (second : ℕ → Y → Bool) (whole : ℕ → Z → Bool) (f : X → Y → Z) (one : ℕ → Made X) (other : ℕ → Made Y)
    → ((m : ℕ) (x : X) (y : Y) → whole m (f x y) ≡ true → (first m x ≡ true) ⊎ (second m y ≡ true)) → FreshWay N first one → FreshWay N second other
    → FreshWay N whole (both f one other)
fresh_both N first second whole f one other back s r next above named =
    let a = one next in
    let p : Fresh N first next (one next) = s next above (named_left N (one next).sights (other (one next).next).sights named) in
    let rise = p.rises in
    fresh_joined N first second whole f next (one next) (other (one next).next) (λ m. back m (one next).made (other (one next).next).made) p
    (r (one next).next (omega (arith, rise, above)) (named_right N (one next).sights (other (one next).next).sights named))

pub data AllFresh {X : Type 0} (N : ℕ) (stands : ℕ → X → Bool) : List (ℕ → Made X) → Type 0 where
  NoneFresh : AllFresh N stands []
  OneFresh : (way : ℕ → Made X) (ways : List (ℕ → Made X)) → FreshWay N stands way → AllFresh N stands ways → AllFresh N stands (way ∷ ways)

pub fresh_each : {X : Type 0} (N : ℕ) (stands : ℕ → X → Bool) (ways : List (ℕ → Made X)) → AllFresh N stands ways → FreshWay N (λ m. list_any (stands m)) (each ways)
fresh_each N stands [] all next above named = fresh_same N (λ m. list_any (stands m)) [] next (λ m. refl)
fresh_each N stands (way ∷ ways) (OneFresh one rest s all) next above named =
    fresh_both N stands (λ m. list_any (stands m)) (λ m. list_any (stands m)) (λ x xs. x ∷ xs) way (each ways)
    (λ m x xs h. or_elim (stands m x) (list_any (stands m) xs) h) s (fresh_each N stands ways all) next above named

pub all_fresh : {A X : Type 0} (N : ℕ) (stands : ℕ → X → Bool) (way : A → ℕ → Made X) (xs : List A) → AllByRecursion (λ a. FreshWay N stands (way a)) xs
    → AllFresh N stands (map way xs)
all_fresh N stands way [] all = NoneFresh
all_fresh N stands way (a ∷ rest) all = OneFresh (way a) (map way rest) all.0 (all_fresh N stands way rest all.1)

-- SCOPES

-- what stands of the variable in a piece outside its elements has an equation with it, and so has what stands in one of its elements
pub record Scoped {X : Type 0} (N n : ℕ) (outer : X → Bool) (Inner : X → Type 0) (next : ℕ) (a : Made X) : Type 0 where
  pub told : (x : Literal) → IsMember a.added x → told_in (literal_read x) ≡ []
  pub rises : next ≤ a.next
  pub interval : IsMember a.sights (Interval n) → (next ≤ n) × (n < a.next)
  pub outside : (outer a.made ≡ true) ⊎ (plain_in n a.added ≡ true) → (n ≤ N) ⊎ ((next ≤ n) × (n < a.next))
  pub here : N < n → ((next ≤ n) × (n < a.next) → IsMember a.sights (Interval n)) → (outer a.made ≡ true) ⊎ (plain_in n a.added ≡ true) → Equation N n a.added
  pub inner : N < n → ((next ≤ n) × (n < a.next) → IsMember a.sights (Interval n)) → Inner a.made

abbrev pub ScopedWay : {X : Type 0} → ℕ → ℕ → (X → Bool) → (X → Type 0) → (ℕ → Made X) → Type 0
ScopedWay N n outer Inner way = (next : ℕ) → N < next → Named N (way next).sights → Scoped N n outer Inner next (way next)

pub scoped_fresh : {X : Type 0} (N n : ℕ) (stands : ℕ → X → Bool) (next : ℕ) (a : Made X) → Fresh N stands next a → Scoped N n (stands n) (λ x. Unit {0}) next a
scoped_fresh N n stands next a s = record {
  told = s.told;
  rises = s.rises;
  interval = s.interval n;
  outside = outside;
  here = λ above h o. s.equation n (h (above_range above (outside o)));
  inner = λ above h. tt;
}
  where
    above_range : N < n → (n ≤ N) ⊎ ((next ≤ n) × (n < a.next)) → (next ≤ n) × (n < a.next)
    above_range above (inl low) = absurd (omega (arith, low, above))
    above_range above (inr k) = k

    outside : (stands n a.made ≡ true) ⊎ (plain_in n a.added ≡ true) → (n ≤ N) ⊎ ((next ≤ n) × (n < a.next))
    outside (inl h) = s.low n h
    outside (inr h) = s.added_low n h

pub scoped_same : {X : Type 0} (N n : ℕ) (outer : X → Bool) (Inner : X → Type 0) (x : X) (next : ℕ) → outer x ≡ false → Inner x → Scoped N n outer Inner next (same x next)
scoped_same N n outer Inner x next none inside = record {
  told = λ y m. absurd m;
  rises = omega arith;
  interval = λ k. absurd k;
  outside = λ o. absurd (none_of o);
  here = λ above h o. absurd (none_of o);
  inner = λ above h. inside;
}
  where
    none_of : (outer x ≡ true) ⊎ (false ≡ true) → ⊥
    none_of (inl h) = true≢false (sym h ∙ none)
    none_of (inr h) = true≢false (sym h)

pub scoped_mapped : {X Y : Type 0} (N n : ℕ) (outer : X → Bool) (Inner : X → Type 0) (outer_there : Y → Bool) (Inner_there : Y → Type 0) (f : X → Y) (next : ℕ) (a : Made X)
    → (outer_there (f a.made) ≡ true → outer a.made ≡ true) → (Inner a.made → Inner_there (f a.made)) → Scoped N n outer Inner next a
    → Scoped N n outer_there Inner_there next (mapped f a)
scoped_mapped N n outer Inner outer_there Inner_there f next a back forth s = record {
  told = s.told;
  rises = s.rises;
  interval = s.interval;
  outside = λ o. s.outside (first o);
  here = λ above h o. s.here above h (first o);
  inner = λ above h. forth (s.inner above h);
}
  where
    first : (outer_there (f a.made) ≡ true) ⊎ (plain_in n a.added ≡ true) → (outer a.made ≡ true) ⊎ (plain_in n a.added ≡ true)
    first (inl h) = inl (back h)
    first (inr h) = inr h

-- of two pieces one behind the other, each has its own part of the numbers
module _ {X Y : Type 0} (N n : ℕ) (first : X → Bool) (First : X → Type 0) (second : Y → Bool) (Second : Y → Type 0) (next : ℕ) (a : Made X) (b : Made Y)
    (s : Scoped N n first First next a) (r : Scoped N n second Second a.next b) where
  pub pair_rises : next ≤ b.next
  pair_rises = let p = s.rises in let q = r.rises in omega (arith, p, q)

  pub widen_left : (next ≤ n) × (n < a.next) → (next ≤ n) × (n < b.next)
  widen_left k = let q = r.rises in let high = k.1 in (k.0, omega (arith, q, high))

  pub widen_right : (a.next ≤ n) × (n < b.next) → (next ≤ n) × (n < b.next)
  widen_right k = let q = s.rises in let low = k.0 in (omega (arith, q, low), k.1)

  pub pair_interval : IsMember (a.sights ++ b.sights) (Interval n) → (next ≤ n) × (n < b.next)
  pair_interval k = elim (append_from a.sights b.sights (Interval n) k) [ inl i ↦ widen_left (s.interval i) | inr i ↦ widen_right (r.interval i) ]

  module _ (h : (next ≤ n) × (n < b.next) → IsMember (a.sights ++ b.sights) (Interval n)) where
    pub in_left : (next ≤ n) × (n < a.next) → IsMember a.sights (Interval n)
    in_left k = elim (append_from a.sights b.sights (Interval n) (h (widen_left k))) [
      | inl i ↦ i
      | inr i ↦ absurd (let p = r.interval i in let low = p.0 in let high = k.1 in omega (arith, low, high))
    ]

    pub in_right : (a.next ≤ n) × (n < b.next) → IsMember b.sights (Interval n)
    in_right k = elim (append_from a.sights b.sights (Interval n) (h (widen_right k))) [
      | inl i ↦ absurd (let p = s.interval i in let high = p.1 in let low = k.0 in omega (arith, low, high))
      | inr i ↦ i
    ]

pub equation_left : (N n : ℕ) (xs ys : List Literal) → Equation N n xs → Equation N n (xs ++ ys)
equation_left N n xs ys e = (e.0, append_left xs ys (l.Compare (t.Variable n) Equal e.0) e.1, e.2)

pub equation_right : (N n : ℕ) (xs ys : List Literal) → Equation N n ys → Equation N n (xs ++ ys)
equation_right N n xs ys e = (e.0, append_right xs ys (l.Compare (t.Variable n) Equal e.0) e.1, e.2)

pub scoped_joined : {X Y Z : Type 0} (N n : ℕ) (first : X → Bool) (First : X → Type 0) (second : Y → Bool) (Second : Y → Type 0) (whole : Z → Bool) (Whole : Z → Type 0) (f : X → Y → Z)
    (next : ℕ) (a : Made X) (b : Made Y) → (whole (f a.made b.made) ≡ true → (first a.made ≡ true) ⊎ (second b.made ≡ true))
    → (First a.made → Second b.made → Whole (f a.made b.made)) → Scoped N n first First next a → Scoped N n second Second a.next b
    → Scoped N n whole Whole next (joined f a b)
scoped_joined N n first First second Second whole Whole f next a b back forth s r = record {
  told = λ x m. elim (append_from a.added b.added x m) [ inl k ↦ s.told x k | inr k ↦ r.told x k ];
  rises = pair_rises N n first First second Second next a b s r;
  interval = pair_interval N n first First second Second next a b s r;
  outside = λ o. elim (split o) [
    | inl k ↦ (elim (s.outside k) [ inl low ↦ inl low | inr range ↦ inr (widen_left N n first First second Second next a b s r range) ])
    | inr k ↦ (elim (r.outside k) [ inl low ↦ inl low | inr range ↦ inr (widen_right N n first First second Second next a b s r range) ])
  ];
  here = λ above h o. elim (split o) [
    | inl k ↦ equation_left N n a.added b.added (s.here above (in_left N n first First second Second next a b s r h) k)
    | inr k ↦ equation_right N n a.added b.added (r.here above (in_right N n first First second Second next a b s r h) k)
  ];
  inner = λ above h. forth (s.inner above (in_left N n first First second Second next a b s r h)) (r.inner above (in_right N n first First second Second next a b s r h));
}
  where
    split : (whole (f a.made b.made) ≡ true) ⊎ (plain_in n (a.added ++ b.added) ≡ true)
        → ((first a.made ≡ true) ⊎ (plain_in n a.added ≡ true)) ⊎ ((second b.made ≡ true) ⊎ (plain_in n b.added ≡ true))
    split (inl w) = elim (back w) [ inl k ↦ inl (inl k) | inr k ↦ inr (inl k) ]
    split (inr w) = elim (plain_split n a.added b.added w) [ inl k ↦ inl (inr k) | inr k ↦ inr (inr k) ]

pub scoped_both : {X Y Z : Type 0} (N n : ℕ) (first : X → Bool) (First : X → Type 0) (second : Y → Bool) (Second : Y → Type 0) (whole : Z → Bool) (Whole : Z → Type 0) (f : X → Y → Z)
    (one : ℕ → Made X) (other : ℕ → Made Y) → ((x : X) (y : Y) → whole (f x y) ≡ true → (first x ≡ true) ⊎ (second y ≡ true))
    → ((x : X) (y : Y) → First x → Second y → Whole (f x y)) → ScopedWay N n first First one → ScopedWay N n second Second other → ScopedWay N n whole Whole (both f one other)
scoped_both N n first First second Second whole Whole f one other back forth s r next above named =
    let p : Scoped N n first First next (one next) = s next above (named_left N (one next).sights (other (one next).next).sights named) in
    let rise = p.rises in
    scoped_joined N n first First second Second whole Whole f next (one next) (other (one next).next) (back (one next).made (other (one next).next).made)
    (forth (one next).made (other (one next).next).made) p
    (r (one next).next (omega (arith, rise, above)) (named_right N (one next).sights (other (one next).next).sights named))

pub data AllScoped {X : Type 0} (N n : ℕ) (outer : X → Bool) (Inner : X → Type 0) : List (ℕ → Made X) → Type 0 where
  NoneScoped : AllScoped N n outer Inner []
  OneScoped : (way : ℕ → Made X) (ways : List (ℕ → Made X)) → ScopedWay N n outer Inner way → AllScoped N n outer Inner ways → AllScoped N n outer Inner (way ∷ ways)

abbrev pub Each : {X : Type 0} → (X → Type 0) → List X → Type 0
Each {X} P xs = (x : X) → IsMember xs x → P x

pub scoped_each : {X : Type 0} (N n : ℕ) (outer : X → Bool) (Inner : X → Type 0) (ways : List (ℕ → Made X)) → AllScoped N n outer Inner ways
    → ScopedWay N n (list_any outer) (λ xs. (x : X) → IsMember xs x → Inner x) (each ways)
scoped_each N n outer Inner [] all next above named = scoped_same N n (list_any outer) (λ xs. (x : _) → IsMember xs x → Inner x) [] next refl (λ x m. absurd m)
scoped_each {X} N n outer Inner (way ∷ ways) (OneScoped one rest s all) next above named =
    scoped_both N n outer Inner (list_any outer) (λ xs. (x : X) → IsMember xs x → Inner x) (list_any outer) (λ xs. (x : X) → IsMember xs x → Inner x) (λ x xs. x ∷ xs) way (each ways)
    (λ x xs h. or_elim (outer x) (list_any outer xs) h)
    (λ x xs here later y m. elim m [ inl e ↦ subst Inner (sym e) here | inr k ↦ later y k ]) s (scoped_each N n outer Inner ways all) next above named

pub all_scoped : {A X : Type 0} (N n : ℕ) (outer : X → Bool) (Inner : X → Type 0) (way : A → ℕ → Made X) (xs : List A) → AllByRecursion (λ a. ScopedWay N n outer Inner (way a)) xs
    → AllScoped N n outer Inner (map way xs)
all_scoped N n outer Inner way [] all = NoneScoped
all_scoped N n outer Inner way (a ∷ rest) all = OneScoped (way a) (map way rest) all.0 (all_scoped N n outer Inner way rest all.1)

-- a piece with a condition, behind which what comes with both is put
pub scoped_closed : {X Y : Type 0} (N n : ℕ) (first : X → Bool) (second : List Literal → Bool) (Second : List Literal → Type 0) (Meets : Y → Type 0) (f : X → List Literal → Y) (next : ℕ)
    (a : Made X) (b : Made (List Literal)) → (plain_in n b.made ≡ true → second b.made ≡ true)
    → (((first a.made ≡ true) ⊎ (plain_in n (b.made ++ (a.added ++ b.added)) ≡ true) → Equation N n (b.made ++ (a.added ++ b.added))) → Meets (f a.made (b.made ++ (a.added ++ b.added))))
    → Scoped N n first (λ x. Unit {0}) next a → Scoped N n second Second a.next b → Scoped N n (λ y. false) Meets next (closed f a b)
scoped_closed N n first second Second Meets f next a b plain make s r = record {
  told = λ x m. absurd m;
  rises = pair_rises N n first (λ x. Unit {0}) second Second next a b s r;
  interval = pair_interval N n first (λ x. Unit {0}) second Second next a b s r;
  outside = λ o. absurd (none_of o);
  here = λ above h o. absurd (none_of o);
  inner = λ above h. make (λ o. found above h (split o));
}
  where
    none_of : (false ≡ true) ⊎ (false ≡ true) → ⊥
    none_of (inl h) = true≢false (sym h)
    none_of (inr h) = true≢false (sym h)

    split : (first a.made ≡ true) ⊎ (plain_in n (b.made ++ (a.added ++ b.added)) ≡ true)
        → ((first a.made ≡ true) ⊎ (plain_in n a.added ≡ true)) ⊎ ((second b.made ≡ true) ⊎ (plain_in n b.added ≡ true))
    split (inl k) = inl (inl k)
    split (inr k) = elim (plain_split n b.made (a.added ++ b.added) k) [
      | inl m ↦ inr (inl (plain m))
      | inr m ↦ elim (plain_split n a.added b.added m) [ inl j ↦ inl (inr j) | inr j ↦ inr (inr j) ]
    ]

    found : N < n → ((next ≤ n) × (n < b.next) → IsMember (a.sights ++ b.sights) (Interval n))
        → ((first a.made ≡ true) ⊎ (plain_in n a.added ≡ true)) ⊎ ((second b.made ≡ true) ⊎ (plain_in n b.added ≡ true)) → Equation N n (b.made ++ (a.added ++ b.added))
    found above h (inl k) =
        equation_right N n b.made (a.added ++ b.added) (equation_left N n a.added b.added (s.here above (in_left N n first (λ x. Unit {0}) second Second next a b s r h) k))
    found above h (inr k) =
        equation_right N n b.made (a.added ++ b.added) (equation_right N n a.added b.added (r.here above (in_right N n first (λ x. Unit {0}) second Second next a b s r h) k))
