-- Deciding and going back.
use Rattle.std.proofs.Common.{◌⊎◌, inl, inr, ◌≡◌, ℕ, suc, ◌+◌, ◌<◌, ◌≤◌, true, false, IsTrue, List, [], ◌∷◌, ◌++◌, length, get_or, set, take, None, Some, refl, sym, ◌∙◌, ap, subst, arith, append_assoc}
use Rattle.std.specs.List.{Contains}
use Rattle.std.proofs.lemmas.List.{take-append-le, length-set, get_or-set_other, length-append}
use Rattle.std.proofs.lemmas.Grind.{get_or-set_at}
use Rattle.std.proofs.lemmas.Option.{slice_get_within, get_or_from_slice_get}
use Rattle.symbols.specs.declared.ends.Ends.{Ends}
use Rattle.literals.specs.declared.lit.Lit.{Lit}
use Rattle.trail.specs.declared.entry.Entry.{Entry}
use Rattle.trail.specs.declared.entry.Why.{Why}
use Rattle.trail.specs.declared.entry.Why.TheVariants.{Decision}
use Rattle.trail.specs.declared.entry.Placed.{Placed}
use Rattle.trail.specs.declared.entry.Placed.TheVariants.{Already, Clash, Done}
use Rattle.trail.specs.Assignment.{Assignment, IsAssignment, Names, Places, undone_to, with_entry, entry_of, truth_on}
use Rattle.trail.specs.Growth.{Grows}
use Rattle.trail.proofs.AssignmentLaws.{undone_front}
use Rattle.trail.proofs.GrowthLaws.{grows_one}
use Rattle.nogood_store.specs.Holding.{Seen, IsFront, seen_of}
use Rattle.propagator_core.specs.declared.touch.Touch.{Touch}
use Rattle.propagator_core.specs.declared.touch.Touch.TheVariants.{Bounds, Truth}
use Rattle.propagator_core.specs.Touching.{SameOf, SameOfAll}
use Rattle.propagator_core.specs.Meaning.{Meaning}
use Rattle.propagator_core.specs.Quiet.{IsSteady}
use Rattle.propagator_core.specs.Standing.{StandsFor}
use Rattle.propagator_core.specs.Several.{AllStand}
use Rattle.propagation.specs.Waking.{Rows, AreWakes, KeepsRest}
use Rattle.propagation.specs.Causes.{opened}
use Rattle.propagation.specs.inner.Hearing.{AreHeard, IsKept}
use Rattle.propagation.specs.inner.Going.{AreUndone}
use Rattle.propagation.proofs.RestLaws.{keeps_rest, keeps_then}

-- DECIDING

-- the trail with another open level knows the same of all
opened_of : (t : Assignment) (touch : Touch) → SameOf t (opened t) touch
opened_of t (Bounds x) = (refl, refl)
opened_of t (Truth c) = (refl, refl)

opened_all : (t : Assignment) (touches : List Touch) → SameOfAll t (opened t) touches
opened_all t [] = tt
opened_all t (touch ∷ touches) = (opened_of t touch, opened_all t touches)

keeps_opened : (rows : Rows) (ms : List Meaning) (before : List ℕ) (t : Assignment) → KeepsRest rows ms before before t (opened t)
keeps_opened rows ms before t wakes steady others i m at = by_old (others i m at)
  where
    is_steady : IsSteady m
    is_steady = subst IsSteady (get_or_from_slice_get ms i m m at) (steady i m (slice_get_within ms i m at))

    by_old : Contains before i ⊎ IsTrue (m.rests t) → Contains before i ⊎ IsTrue (m.rests (opened t))
    by_old (inl c) = inl c
    by_old (inr r) = inr (is_steady.lasts t (opened t) refl (opened_all t m.touches) r)

-- a literal that was open is set
pub placed_open : (t u : Assignment) (l : Lit) (why : Why) (placed : Placed) → truth_on t l ≡ None → Places t l why placed u → u ≡ with_entry t (entry_of t l why)
placed_open t u l why Already none p = absurd (let e : None ≡ Some true = sym none ∙ p.0 in cc)
placed_open t u l why Clash none p = absurd (let e : None ≡ Some false = sym none ∙ p.0 in cc)
placed_open t u l why Done none p = p.1

pub decided_is : (t u v : Assignment) (l : Lit) (placed : Placed) → u ≡ opened t → truth_on t l ≡ None → Places u l Decision placed v → v ≡ with_entry (opened t) (entry_of (opened t) l Decision)
decided_is t u v l placed same none p = placed_open (opened t) v l Decision placed none (subst (λ (w : Assignment). Places w l Decision placed v) same p)

pub decided_keeps : (rows : Rows) (ms : List Meaning) (before after : List ℕ) (t u v : Assignment) (l : Lit) (placed : Placed) (from : ℕ) → from ≡ length t.entries → u ≡ opened t → Names t.shape l → truth_on t l ≡ None → Places u l Decision placed v
    → IsKept before after → ((ns : List Meaning) → AreWakes rows ns → AreHeard ns after v.entries from (length v.entries)) → KeepsRest rows ms before after t v
decided_keeps rows ms before after t u v l placed from at same names none p kept heard =
    keeps_then rows ms before before after t (opened t) v (keeps_opened rows ms before t)
    (keeps_rest (λ w e. Unit {0}) rows ms before after (opened t) v
    (subst (Grows (λ w e. Unit {0}) (opened t)) (sym (decided_is t u v l placed same none p))
    (grows_one (λ w e. Unit {0}) (opened t) (entry_of (opened t) l Decision) (record { names = names; open_before = none; level = refl }) tt))
    kept (subst (λ n. AreWakes rows ms → AreHeard ms after v.entries n (length v.entries)) at (heard ms)))

pub decided_longer : (t u v : Assignment) (l : Lit) (placed : Placed) → u ≡ opened t → truth_on t l ≡ None → Places u l Decision placed v → length t.entries ≤ length v.entries
decided_longer t u v l placed same none p = subst (λ (w : Assignment). length t.entries ≤ length w.entries) (sym (decided_is t u v l placed same none p)) (longer t.entries (entry_of (opened t) l Decision))
  where
    longer : (es : List Entry) (e : Entry) → length es ≤ length (es ++ e ∷ [])
    longer es e = let n = length-append es (e ∷ []) in omega (arith, n)

-- GOING BACK

-- a propagator that looked no further than the shorter trail goes stands for it
pub stands_undone : (stands : Ends → List Entry → Type 0) (looked : ℕ) (t : Assignment) (level : ℕ) → IsAssignment t → looked ≤ length (undone_to level t).entries → StandsFor stands looked t → StandsFor stands looked (undone_to level t)
stands_undone stands looked t level is le h =
    let front = undone_front t level is in
    record {
      within = le;
      for_these = subst (λ es. stands t.shape.ends es) (ap (take looked) front.1 ∙ take-append-le looked (undone_to level t).entries front.0 le) h.for_these;
    }

pub all_undone : {X : Type 0} (stands : X → Ends → List Entry → Type 0) (looked : X → ℕ) (xs : List X) (t u : Assignment) (level n m : ℕ) → IsAssignment t → u ≡ undone_to level t → n ≡ length u.entries → m ≡ length t.entries → n ≡ m → AllStand stands looked xs t → AllStand stands looked xs u
all_undone stands looked xs t u level n m is same low high equal all k d lt =
    let own = all k d lt in
    let within = own.within in
    let as_long : length (undone_to level t).entries ≡ length t.entries = ap (λ (w : Assignment). length w.entries) (sym same) ∙ sym low ∙ equal ∙ high in
    subst (StandsFor (stands (get_or xs k d)) (looked (get_or xs k d))) (sym same) (stands_undone (stands (get_or xs k d)) (looked (get_or xs k d)) t level is (omega (arith, within, as_long)) own)

-- the store that looked no further than the shorter trail goes looked at its front
fronts : (first seen more : List Seen) → IsFront first (seen ++ more) → length first ≤ length seen → IsFront first seen
fronts [] seen more f le = (seen, refl)
fronts (x ∷ xs) [] more f le = absurd (omega (arith, le))
fronts (x ∷ xs) (y ∷ ys) more f le =
    let e : y ∷ (ys ++ more) ≡ x ∷ (xs ++ f.0) = f.1 in
    let head : y ≡ x = cc in
    let tail : ys ++ more ≡ xs ++ f.0 = cc in
    let rest = fronts xs ys more (f.0, tail) (omega (arith, le)) in
    (rest.0, rw head (ap (λ zs. x ∷ zs) rest.1))

front_then : (a b c : List Seen) → IsFront a b → IsFront b c → IsFront a c
front_then a b c f g = (f.0 ++ g.0, g.1 ∙ ap (λ xs. xs ++ g.0) f.1 ∙ append_assoc a f.0 g.0)

length_seen : (es : List Entry) → length (seen_of es) ≡ length es
length_seen [] = refl
length_seen (e ∷ es) = ap suc (length_seen es)

pub seen_append : (es more : List Entry) → seen_of (es ++ more) ≡ seen_of es ++ seen_of more
seen_append [] more = refl
seen_append (e ∷ es) more = ap (λ xs. record { lit = e.lit; level = e.level } ∷ xs) (seen_append es more)

pub looked_undone : (old new : List Seen) (t u : Assignment) (level : ℕ) → IsAssignment t → u ≡ undone_to level t → IsFront old (seen_of t.entries) → IsFront new old → length new ≤ length u.entries → IsFront new (seen_of u.entries)
looked_undone old new t u level is same f g le =
    let front = undone_front t level is in
    let entries : u.entries ≡ (undone_to level t).entries = ap (λ (w : Assignment). w.entries) same in
    let whole : seen_of t.entries ≡ seen_of u.entries ++ seen_of front.0 = ap seen_of front.1 ∙ ap (λ es. seen_of (es ++ front.0)) (sym entries) ∙ seen_append u.entries front.0 in
    let long = length_seen u.entries in
    fronts new (seen_of u.entries) (seen_of front.0) (subst (IsFront new) whole (front_then new old (seen_of t.entries) g f)) (omega (arith, long, le))

-- ONE PROPAGATOR AFTER ANOTHER

pub none_undone : {X : Type 0} (stands : X → Ends → List Entry → Type 0) (looked : X → ℕ) (xs : List X) (t : Assignment) → AreUndone stands looked 0 xs xs t
none_undone stands looked xs t = record {
  as_many = refl;
  first = λ k d lt _. absurd (omega (arith, lt));
  others = λ k d le. refl;
}

split : (k i : ℕ) → k < i + 1 → (k < i) ⊎ (k ≡ i)
split k i lt = grind arith

-- the next one has been undone
pub one_undone : {X : Type 0} (stands : X → Ends → List Entry → Type 0) (looked : X → ℕ) (xs ys : List X) (i : ℕ) (y : X) (t : Assignment) → i < length ys → AreUndone stands looked i xs ys t → StandsFor (stands y) (looked y) t → AreUndone stands looked (i + 1) xs (set ys i y) t
one_undone stands looked xs ys i y t lt is own = record {
  as_many = length-set ys i y ∙ is.as_many;
  first = λ k d below within. by_place k d (split k i below) within;
  others = λ k d le. get_or-set_other ys i k y d (λ same. absurd (let e : k ≡ i = same in omega (arith, e, le))) ∙ is.others k d (omega (arith, le));
}
  where
    by_place : (k : ℕ) (d : _) → (k < i) ⊎ (k ≡ i) → k < length (set ys i y) → StandsFor (stands (get_or (set ys i y) k d)) (looked (get_or (set ys i y) k d)) t
    by_place k d (inl less) within =
        subst (λ x. StandsFor (stands x) (looked x) t) (sym (get_or-set_other ys i k y d (λ same. absurd (let e : k ≡ i = same in omega (arith, e, less)))))
        (is.first k d less (let e = length-set ys i y in omega (arith, e, within)))
    by_place k d (inr same) within = subst (λ x. StandsFor (stands x) (looked x) t) (sym (get_or-set_at ys i k y d same lt)) own

-- what the next one stands for
pub next_stands : {X : Type 0} (stands : X → Ends → List Entry → Type 0) (looked : X → ℕ) (xs ys : List X) (i : ℕ) (d : X) (t u : Assignment) → i < length ys → AreUndone stands looked i xs ys u → AllStand stands looked xs t
    → StandsFor (stands (get_or ys i d)) (looked (get_or ys i d)) t
next_stands stands looked xs ys i d t u lt is all =
    let as_many = is.as_many in
    subst (λ x. StandsFor (stands x) (looked x) t) (sym (is.others i d (omega arith))) (all i d (omega (arith, as_many, lt)))

-- one that looked no further than the trail goes
pub near_stands : (stands : Ends → List Entry → Type 0) (looked : ℕ) (t u : Assignment) (level : ℕ) → IsAssignment t → u ≡ undone_to level t → looked ≤ length u.entries → StandsFor stands looked t → StandsFor stands looked u
near_stands stands looked t u level is same le h =
    subst (StandsFor stands looked) (sym same) (stands_undone stands looked t level is (subst (λ (w : Assignment). looked ≤ length w.entries) same le) h)

pub every_undone : {X : Type 0} (stands : X → Ends → List Entry → Type 0) (looked : X → ℕ) (count : ℕ) (xs ys : List X) (t : Assignment) → length ys ≤ count → AreUndone stands looked count xs ys t → AllStand stands looked ys t
every_undone stands looked count xs ys t le is k d lt = is.first k d (omega (arith, lt, le)) lt
