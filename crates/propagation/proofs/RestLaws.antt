-- Who rests while a trail grows.
use Rattle.std.proofs.Common.{◌⊎◌, inl, inr, ◌≡◌, ℕ, zero, suc, ◌+◌, ◌<◌, ◌||◌, Bool, true, false, IsTrue, List, [], ◌∷◌, ◌++◌, length, get_or, slice_get, Some, refl, sym, ◌∙◌, ap, subst, arith}
use Rattle.std.specs.List.{All, AllByRecursion, Contains, list_any}
use Rattle.std.proofs.lemmas.Option.{slice_get_within, get_or_from_slice_get}
use Rattle.trail.specs.declared.entry.Entry.{Entry}
use Rattle.trail.specs.Assignment.{Assignment}
use Rattle.trail.specs.Growth.{Grows}
use Rattle.trail.proofs.GrowthLaws.{grows_shape, grows_entries}
use Rattle.propagator_core.specs.declared.touch.Touch.{Touch}
use Rattle.propagator_core.specs.Touching.{is_touched, SameOfAll}
use Rattle.propagator_core.specs.Meaning.{Meaning}
use Rattle.propagator_core.specs.Quiet.{IsSteady}
use Rattle.propagator_core.proofs.TouchingLaws.{all_untouched}
use Rattle.propagation.specs.Waking.{Rows, AreWakes, KeepsRest}
use Rattle.propagation.specs.inner.Hearing.{AreHeard, IsKept}

one_off : (a b : Bool) → (a || b) ≡ false → (a ≡ false) × (b ≡ false)
one_off true b h = let no : true ≡ false = h in cc
one_off false b h = (refl, h)

none_touched : (touches : List Touch) (es : List Entry) → list_any (λ e. is_touched touches e.lit) es ≡ false → AllByRecursion (λ e. is_touched touches e.lit ≡ false) es
none_touched touches [] h = tt
none_touched touches (e ∷ es) h = let o = one_off (is_touched touches e.lit) (list_any (λ e. is_touched touches e.lit) es) h in (o.0, none_touched touches es o.1)

record Hit (touches : List Touch) (es : List Entry) : Type 0 where
  pub place : ℕ
  pub entry : Entry
  pub there : slice_get es place ≡ Some entry
  pub touched : is_touched touches entry.lit ≡ true

some_touched : (touches : List Touch) (es : List Entry) → list_any (λ e. is_touched touches e.lit) es ≡ true → Hit touches es
some_touched touches [] h = let no : false ≡ true = h in absurd (cc)
some_touched touches (e ∷ es) h = by_first (is_touched touches e.lit) refl h (some_touched touches es)
  where
    by_first : (b : Bool) → is_touched touches e.lit ≡ b → (b || list_any (λ e. is_touched touches e.lit) es) ≡ true → (list_any (λ e. is_touched touches e.lit) es ≡ true → Hit touches es) → Hit touches (e ∷ es)
    by_first true f g rec = record { place = 0; entry = e; there = refl; touched = f }
    by_first false f g rec = let rest = rec g in record { place = suc rest.place; entry = rest.entry; there = rest.there; touched = rest.touched }

got_after : {X : Type 0} (xs ys : List X) (k : ℕ) → slice_get (xs ++ ys) (length xs + k) ≡ slice_get ys k
got_after [] ys k = let e : 0 + k ≡ k = omega arith in ap (slice_get ys) e
got_after (x ∷ xs) ys k = let e : suc (length xs) + k ≡ suc (length xs + k) = omega arith in ap (slice_get (x ∷ (xs ++ ys))) e ∙ got_after xs ys k

-- one that rested rests on, or was woken, where those that look at the new entries were woken
rest_one : (P : Assignment → Entry → Type 0) (ms : List Meaning) (after : List ℕ) (t u : Assignment) (i : ℕ) (m : Meaning) → Grows P t u → All IsSteady ms
    → AreHeard ms after u.entries (length t.entries) (length u.entries) → slice_get ms i ≡ Some m → IsTrue (m.rests t) → Contains after i ⊎ IsTrue (m.rests u)
rest_one P ms after t u i m g steady heard at r = by_test (list_any (λ e. is_touched m.touches e.lit) g.more) refl
  where
    is_steady : IsSteady m
    is_steady = subst IsSteady (get_or_from_slice_get ms i m m at) (steady i m (slice_get_within ms i m at))

    by_test : (b : Bool) → list_any (λ e. is_touched m.touches e.lit) g.more ≡ b → Contains after i ⊎ IsTrue (m.rests u)
    by_test true e =
        let hit = some_touched m.touches g.more e in
        let there : slice_get u.entries (length t.entries + hit.place) ≡ Some hit.entry =
        ap (λ es. slice_get es (length t.entries + hit.place)) (grows_entries P t u g) ∙ got_after t.entries g.more hit.place ∙ hit.there in
        inl (heard (length t.entries + hit.place) hit.entry (omega arith) (slice_get_within u.entries (length t.entries + hit.place) hit.entry there) there i m at hit.touched)
    by_test false e =
        inr (is_steady.lasts t u (grows_shape P t u g) (subst (λ w. SameOfAll t w m.touches) (sym g.is) (all_untouched t g.more m.touches (none_touched m.touches g.more e))) r)

-- so does each that was not awake
pub keeps_rest : (P : Assignment → Entry → Type 0) (rows : Rows) (ms : List Meaning) (before after : List ℕ) (t u : Assignment) → Grows P t u → IsKept before after
    → (AreWakes rows ms → AreHeard ms after u.entries (length t.entries) (length u.entries)) → KeepsRest rows ms before after t u
keeps_rest P rows ms before after t u g kept heard wakes steady others i m at = by_old (others i m at)
  where
    by_old : Contains before i ⊎ IsTrue (m.rests t) → Contains after i ⊎ IsTrue (m.rests u)
    by_old (inl c) = inl (kept i c)
    by_old (inr r) = rest_one P ms after t u i m g steady (heard wakes) at r

pub keeps_none : (rows : Rows) (ms : List Meaning) (before : List ℕ) (t : Assignment) → KeepsRest rows ms before before t t
keeps_none rows ms before t wakes steady others = others

pub keeps_then : (rows : Rows) (ms : List Meaning) (a b c : List ℕ) (t u v : Assignment) → KeepsRest rows ms a b t u → KeepsRest rows ms b c u v → KeepsRest rows ms a c t v
keeps_then rows ms a b c t u v f g wakes steady others = g wakes steady (f wakes steady others)

-- one that was first in the queue, and is awake again or rests
pub keeps_call : (P : Assignment → Entry → Type 0) (rows : Rows) (ms : List Meaning) (place : ℕ) (before middle after : List ℕ) (t u : Assignment) → Grows P t u
    → before ≡ place ∷ middle → IsKept middle after → (AreWakes rows ms → AreHeard ms after u.entries (length t.entries) (length u.entries))
    → Contains after place ⊎ ((m : Meaning) → slice_get ms place ≡ Some m → IsTrue (m.rests u)) → KeepsRest rows ms before after t u
keeps_call P rows ms place before middle after t u g first kept heard again wakes steady others i m at = by_old (others i m at)
  where
    by_again : Contains after place ⊎ ((m : Meaning) → slice_get ms place ≡ Some m → IsTrue (m.rests u)) → place ≡ i → Contains after i ⊎ IsTrue (m.rests u)
    by_again (inl c) same = inl (subst (Contains after) same c)
    by_again (inr r) same = inr (r m (ap (slice_get ms) same ∙ at))

    of_first : (k : ℕ) → k < length (place ∷ middle) → get_or (place ∷ middle) k i ≡ i → (place ≡ i) ⊎ Contains middle i
    of_first zero lt e = inl e
    of_first (suc k) lt e = inr (k, omega (arith, lt), e)

    woken : Contains before i → (place ≡ i) ⊎ Contains middle i
    woken c = let d : Contains (place ∷ middle) i = subst (λ xs. Contains xs i) first c in of_first d.0 d.1 d.2

    by_place : (place ≡ i) ⊎ Contains middle i → Contains after i ⊎ IsTrue (m.rests u)
    by_place (inl same) = by_again again same
    by_place (inr c) = inl (kept i c)

    by_old : Contains before i ⊎ IsTrue (m.rests t) → Contains after i ⊎ IsTrue (m.rests u)
    by_old (inl c) = by_place (woken c)
    by_old (inr r) = rest_one P ms after t u i m g steady (heard wakes) at r
