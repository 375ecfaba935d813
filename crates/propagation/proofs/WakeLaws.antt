-- Those that look at what was set are woken.
use Rattle.std.proofs.Common.{◌⊎◌, inl, inr, ◌≡◌, ℕ, zero, suc, ◌+◌, ◌<◌, ◌≤◌, ◌==◌, ◌||◌, Bool, true, false, ℤ, List, [], ◌∷◌, length, get_or, take, slice_get, Some, refl, sym, ◌∙◌, ap, subst, arith}
use Rattle.std.specs.List.{Contains}
use Rattle.std.proofs.lemmas.Bool.Decides.{nat_tests}
use Rattle.std.proofs.lemmas.List.{take_more}
use Rattle.std.proofs.lemmas.List.Elements.{Contains-push_cases}
use Rattle.literals.specs.declared.lit.Lit.{Lit}
use Rattle.literals.specs.declared.lit.Lit.TheVariants.{Atom, Body, Constraint, AtMost, AtLeast}
use Rattle.trail.specs.declared.shape.Shape.{Shape}
use Rattle.trail.specs.declared.entry.Entry.{Entry}
use Rattle.trail.specs.Assignment.{Names}
use Rattle.propagator_core.specs.declared.touch.Touch.{Touch}
use Rattle.propagator_core.specs.declared.touch.Touch.TheVariants.{Bounds, Truth}
use Rattle.propagator_core.specs.Touching.{touches_lit, is_touched}
use Rattle.propagator_core.specs.Meaning.{Meaning}
use Rattle.propagation.specs.Waking.{Rows, HasRows, AreWakes}
use Rattle.propagation.specs.inner.Hearing.{IsHeard, AreHeard, IsKept}

-- one more of a row
pub row_more : (row before after : List ℕ) (i place : ℕ) → i < length row → get_or row i place ≡ place → IsKept (take i row) before → IsKept before after → Contains after place → IsKept (take (i + 1) row) after
row_more row before after i place lt is kept more there k c =
    by_case (Contains-push_cases (take i row) (get_or row i place) k (subst (λ xs. Contains xs k) (take_more row i place lt) c))
  where
    by_case : Contains (take i row) k ⊎ (get_or row i place ≡ k) → Contains after k
    by_case (inl d) = more k (kept k d)
    by_case (inr e) = subst (Contains after) (sym is ∙ e) there

pub row_none : (row places : List ℕ) → IsKept (take 0 row) places
row_none row places k c = absurd (let lt = c.1 in omega (arith, lt))

-- a literal and who looks at it

at_head : (touch : Touch) (touches : List Touch) → Contains (touch ∷ touches) touch
at_head touch touches = (0, omega arith, refl)

at_tail : (first touch : Touch) (touches : List Touch) → Contains touches touch → Contains (first ∷ touches) touch
at_tail first touch touches c = (suc c.0, (let lt = c.1 in omega (arith, lt)), c.2)

any_hit : (l : Lit) (touches : List Touch) → is_touched touches l ≡ true → (touch : Touch) × Contains touches touch × (touches_lit l touch ≡ true)
any_hit l [] h = let no : false ≡ true = h in absurd (cc)
any_hit l (t ∷ ts) h = by_first (touches_lit l t) refl h (any_hit l ts)
  where
    by_first : (b : Bool) → touches_lit l t ≡ b → (b || is_touched ts l) ≡ true → (is_touched ts l ≡ true → (touch : Touch) × Contains ts touch × (touches_lit l touch ≡ true)) → (touch : Touch) × Contains (t ∷ ts) touch × (touches_lit l touch ≡ true)
    by_first true e g rec = (t, at_head t ts, e)
    by_first false e g rec = let rest = rec g in (rest.0, at_tail t rest.0 ts rest.1, rest.2)

equal : (n m : ℕ) → (n == m) ≡ true → n ≡ m
equal n m h = grind (arith, nat_tests, h)

pub heard_atom : (ms : List Meaning) (places : List ℕ) (n : ℕ) (s : Bool) → IsHeard ms places (Atom n s)
heard_atom ms places n s i m at h = let hit = any_hit (Atom n s) m.touches h in absurd (no hit.0 hit.2)
  where
    no : (touch : Touch) → touches_lit (Atom n s) touch ≡ true → ⊥
    no (Bounds x) e = let f : false ≡ true = e in cc
    no (Truth c) e = let f : false ≡ true = e in cc

pub heard_body : (ms : List Meaning) (places : List ℕ) (n : ℕ) (s : Bool) → IsHeard ms places (Body n s)
heard_body ms places n s i m at h = let hit = any_hit (Body n s) m.touches h in absurd (no hit.0 hit.2)
  where
    no : (touch : Touch) → touches_lit (Body n s) touch ≡ true → ⊥
    no (Bounds x) e = let f : false ≡ true = e in cc
    no (Truth c) e = let f : false ≡ true = e in cc

pub heard_constraint : (rows : Rows) (ms : List Meaning) (places : List ℕ) (n : ℕ) (s : Bool) → IsKept (get_or rows.truths n []) places → AreWakes rows ms → IsHeard ms places (Constraint n s)
heard_constraint rows ms places n s kept wakes i m at h = let hit = any_hit (Constraint n s) m.touches h in by_touch hit.0 hit.1 hit.2
  where
    by_touch : (touch : Touch) → Contains m.touches touch → touches_lit (Constraint n s) touch ≡ true → Contains places i
    by_touch (Bounds x) c e = let f : false ≡ true = e in absurd (cc)
    by_touch (Truth k) c e = kept i (subst (λ q. Contains (get_or rows.truths q []) i) (sym (equal n k e)) (wakes i m (Truth k) at c))

pub heard_most : (rows : Rows) (ms : List Meaning) (places : List ℕ) (x : ℕ) (k : ℤ) → IsKept (get_or rows.bounds x []) places → AreWakes rows ms → IsHeard ms places (AtMost x k)
heard_most rows ms places x k kept wakes i m at h = let hit = any_hit (AtMost x k) m.touches h in by_touch hit.0 hit.1 hit.2
  where
    by_touch : (touch : Touch) → Contains m.touches touch → touches_lit (AtMost x k) touch ≡ true → Contains places i
    by_touch (Bounds y) c e = kept i (subst (λ q. Contains (get_or rows.bounds q []) i) (sym (equal x y e)) (wakes i m (Bounds y) at c))
    by_touch (Truth n) c e = let f : false ≡ true = e in absurd (cc)

pub heard_least : (rows : Rows) (ms : List Meaning) (places : List ℕ) (x : ℕ) (k : ℤ) → IsKept (get_or rows.bounds x []) places → AreWakes rows ms → IsHeard ms places (AtLeast x k)
heard_least rows ms places x k kept wakes i m at h = let hit = any_hit (AtLeast x k) m.touches h in by_touch hit.0 hit.1 hit.2
  where
    by_touch : (touch : Touch) → Contains m.touches touch → touches_lit (AtLeast x k) touch ≡ true → Contains places i
    by_touch (Bounds y) c e = kept i (subst (λ q. Contains (get_or rows.bounds q []) i) (sym (equal x y e)) (wakes i m (Bounds y) at c))
    by_touch (Truth n) c e = let f : false ≡ true = e in absurd (cc)

-- what the code has in hand

same_row : (rows : List (List ℕ)) (at : ℕ) (a b : List ℕ) → at < length rows → get_or rows at a ≡ get_or rows at b
same_row [] at a b lt = absurd (omega (arith, lt))
same_row (r ∷ rs) zero a b lt = refl
same_row (r ∷ rs) (suc at) a b lt = same_row rs at a b (omega (arith, lt))

row_is : (rows : List (List ℕ)) (at : ℕ) (row items places : List ℕ) → at < length rows → row ≡ get_or rows at row → items ≡ row → IsKept items places → IsKept (get_or rows at []) places
row_is rows at row items places lt is same kept i c = kept i (subst (λ r. Contains r i) (same_row rows at [] row lt ∙ sym is ∙ sym same) c)

pub heard_symbols : (ms : List Meaning) (places : List ℕ) (l : Lit) → ((n : ℕ) × (s : Bool) × (l ≡ Atom n s)) ⊎ ((n : ℕ) × (s : Bool) × (l ≡ Body n s)) → IsHeard ms places l
heard_symbols ms places l (inl a) = subst (IsHeard ms places) (sym a.2) (heard_atom ms places a.0 a.1)
heard_symbols ms places l (inr b) = subst (IsHeard ms places) (sym b.2) (heard_body ms places b.0 b.1)

pub heard_truth : (now : Rows) (bounds truths : List (List ℕ)) (ms : List Meaning) (places : List ℕ) (l : Lit) (n : ℕ) (s : Bool) (row items : List ℕ) → record { bounds = bounds; truths = truths } ≡ now → n < length truths → l ≡ Constraint n s
    → row ≡ get_or truths n row → items ≡ row → IsKept items places → AreWakes now ms → IsHeard ms places l
heard_truth now bounds truths ms places l n s row items is lt lit at same kept wakes =
    subst (IsHeard ms places) (sym lit)
    (heard_constraint (record { bounds = bounds; truths = truths }) ms places n s (row_is truths n row items places lt at same kept) (subst (λ (r : Rows). AreWakes r ms) (sym is) wakes))

pub heard_bound : (now : Rows) (bounds truths : List (List ℕ)) (ms : List Meaning) (places : List ℕ) (l : Lit) (x : ℕ) (row items : List ℕ) → record { bounds = bounds; truths = truths } ≡ now → x < length bounds
    → ((k : ℤ) × (l ≡ AtMost x k)) ⊎ ((k : ℤ) × (l ≡ AtLeast x k)) → row ≡ get_or bounds x row → items ≡ row → IsKept items places → AreWakes now ms → IsHeard ms places l
heard_bound now bounds truths ms places l x row items is lt lit at same kept wakes = by_kind lit
  where
    own : AreWakes (record { bounds = bounds; truths = truths }) ms
    own = subst (λ (r : Rows). AreWakes r ms) (sym is) wakes

    woken : IsKept (get_or bounds x []) places
    woken = row_is bounds x row items places lt at same kept

    by_kind : ((k : ℤ) × (l ≡ AtMost x k)) ⊎ ((k : ℤ) × (l ≡ AtLeast x k)) → IsHeard ms places l
    by_kind (inl m) = subst (IsHeard ms places) (sym m.1) (heard_most (record { bounds = bounds; truths = truths }) ms places x m.0 woken own)
    by_kind (inr m) = subst (IsHeard ms places) (sym m.1) (heard_least (record { bounds = bounds; truths = truths }) ms places x m.0 woken own)

-- the rows of a literal of the shape are there

pub has_truth : (s : Shape) (count : ℕ) (now : Rows) (bounds truths : List (List ℕ)) (l : Lit) (n : ℕ) (sign : Bool) → record { bounds = bounds; truths = truths } ≡ now → HasRows s count now → Names s l → l ≡ Constraint n sign → n < length truths
has_truth s count now bounds truths l n sign is h names lit =
    let own : HasRows s count (record { bounds = bounds; truths = truths }) = subst (HasRows s count) (sym is) h in
    let long = own.truths in
    let named : Names s (Constraint n sign) = subst (Names s) lit names in
    let within = named.within in
    omega (arith, long, within)

pub has_bound : (s : Shape) (count : ℕ) (now : Rows) (bounds truths : List (List ℕ)) (l : Lit) (x : ℕ) → record { bounds = bounds; truths = truths } ≡ now → HasRows s count now → Names s l → ((k : ℤ) × (l ≡ AtMost x k)) ⊎ ((k : ℤ) × (l ≡ AtLeast x k)) → x < length bounds
has_bound s count now bounds truths l x is h names lit = by_kind lit
  where
    own : HasRows s count (record { bounds = bounds; truths = truths })
    own = subst (HasRows s count) (sym is) h

    by_kind : ((k : ℤ) × (l ≡ AtMost x k)) ⊎ ((k : ℤ) × (l ≡ AtLeast x k)) → x < length bounds
    by_kind (inl m) = let long = own.bounds in let named : Names s (AtMost x m.0) = subst (Names s) m.1 names in let within = named.within in omega (arith, long, within)
    by_kind (inr m) = let long = own.bounds in let named : Names s (AtLeast x m.0) = subst (Names s) m.1 names in let within = named.within in omega (arith, long, within)

-- one more entry
pub heard_more : (ms : List Meaning) (before after : List ℕ) (entries : List Entry) (from at : ℕ) (e : Entry) → AreHeard ms before entries from at → IsKept before after → slice_get entries at ≡ Some e
    → IsHeard ms after e.lit → AreHeard ms after entries from (at + 1)
heard_more ms before after entries from at e all kept there heard k d low high is = by_place (split k at high)
  where
    split : (k at : ℕ) → k < at + 1 → (k < at) ⊎ (k ≡ at)
    split k at high = grind arith

    by_place : (k < at) ⊎ (k ≡ at) → IsHeard ms after d.lit
    by_place (inl less) = λ i m here touched. kept i (all k d low less is i m here touched)
    by_place (inr same) = let one : Some d ≡ Some e = sym is ∙ ap (slice_get entries) same ∙ there in let own : d ≡ e = cc in subst (λ (x : Entry). IsHeard ms after x.lit) (sym own) heard

pub heard_none : (ms : List Meaning) (places : List ℕ) (entries : List Entry) (from at : ℕ) → at ≤ from → AreHeard ms places entries from at
heard_none ms places entries from at le k e low high is = absurd (omega (arith, le, low, high))
