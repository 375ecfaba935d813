-- How a call begins and ends.
use Rattle.std.proofs.Common.{◌≡◌, ℕ, zero, suc, ◌+◌, ◌-◌, ◌<◌, ◌≤◌, ◌==◌, ◌||◌, ◌⊎◌, inl, inr, Bool, true, false, cond, List, [], ◌∷◌, ◌++◌, length, get_or, take, replicate, Option, None, Some, slice_get, refl, sym, ◌∙◌, ap, subst, arith, length-append, append_assoc, append-nil, ℤ}
use Rattle.std.specs.Prelude.{nat_lt, int_le, IfNone, IsTrue}
use Rattle.std.specs.List.{AllByRecursion, Contains, list_any}
use Rattle.std.proofs.lemmas.List.{get_or-replicate, get_or_past, length-replicate, get_or_append_left}
use Rattle.std.proofs.lemmas.List.Elements.{Contains-append_right}
use Rattle.std.proofs.lemmas.Option.{get_or_from_slice_get, slice_get_within}
use Rattle.std.proofs.lemmas.Bool.Decides.{nat_tests, Decides-int_eq}
use Rattle.std.proofs.Math.Seq.{get_or-append_seam}
use Rattle.symbols.specs.declared.ends.Ends.{Ends}
use Rattle.literals.specs.declared.lit.Lit.{Lit}
use Rattle.literals.specs.declared.lit.Lit.TheVariants.{Atom, Body, Constraint, AtMost, AtLeast}
use Rattle.literals.specs.declared.places.Counts.{Counts}
use Rattle.literals.specs.Lits.{complement_of, implies_lit}
use Rattle.literals.specs.Places.{place_of, places_of}
use Rattle.literals.proofs.LitLaws.{implies_refl}
use Rattle.trail.specs.declared.shape.Shape.{Shape}
use Rattle.trail.specs.contracts.shape.ShapePartialEq.TheImpl.{ghosts as of_shape}
use Rattle.trail.specs.declared.entry.Entry.{Entry}
use Rattle.trail.specs.declared.entry.Why.TheVariants.{Held as ByHeld}
use Rattle.trail.specs.Implied.{ends_imply, implied}
use Rattle.trail.specs.Assignment.{Assignment, IsAssignment, Names, Follow, counts_of, lits_of, is_true_on, truth_on, since_on, with_entry, entry_of}
use Rattle.trail.specs.Growth.{Grows}
use Rattle.trail.specs.Forced.{OthersTrueOn}
use Rattle.trail.proofs.ImpliedLaws.{implied-push}
use Rattle.trail.proofs.KeptLaws.{follow_low}
use Rattle.trail.proofs.SinceLaws.{since_found}
use Rattle.trail.proofs.EntryLaws.{entry_is}
use Rattle.trail.proofs.GrowthLaws.{grows_one, grows_entries}
use Rattle.nogood_store.specs.declared.slot.Slot.{Slot}
use Rattle.nogood_store.specs.declared.watch.Watch.{Watch}
use Rattle.nogood_store.specs.declared.watching.Pair.{Pair}
use Rattle.nogood_store.specs.declared.watching.Look.{Look}
use Rattle.nogood_store.specs.declared.watching.Watching.{Watching}
use Rattle.nogood_store.specs.Holding.{Seen, nogood_under, seen_of, IsFront}
use Rattle.nogood_store.specs.Propagation.{IsForced, IsConflict, IsQuiet, AllNamed}
use Rattle.nogood_store.specs.Kept.{held_of, SlotsAscend}
use Rattle.nogood_store.specs.inner.Watching.{nogood_at, lit_at, pair_at, list_at, looks_of, lits_seen, below, lits_below, Climbs, HasFalse, IsRecent, Stored, Left, Working, IsWatched, IsSafe, IsWatching, IsStored, IsLeft, IsWorking, IsKept, IsSame, IsDone, Suits, AreDone}
use Rattle.nogood_store.proofs.HeldLaws.{get_any, under_found}
use Rattle.nogood_store.proofs.Growing.{open_opposite}
use Rattle.nogood_store.proofs.Quiet.{false_quiet, two_quiet}
use Rattle.nogood_store.proofs.Moments.{lits_seen_of, front_true, below_true, below_all, cut_moment}
use Rattle.nogood_store.proofs.Watched.{Turned, same_moment, watching_turned, blank, fresh_more, pairs_more, slots_more}
use Rattle.nogood_store.proofs.Working.{lits_append, working_looked}

clash : {X : Type 0} → true ≡ false → X
clash h = cc

all_front : {X : Type 0} (P : X → Type 0) (xs ys : List X) → AllByRecursion P (xs ++ ys) → AllByRecursion P xs
all_front P [] ys a = tt
all_front P (x ∷ xs) ys a = (a.0, all_front P xs ys a.1)

pub climbs_front : (xs ys : List Seen) → Climbs (xs ++ ys) → Climbs xs
climbs_front [] ys c = tt
climbs_front (x ∷ xs) ys c = (all_front (λ r. x.level ≤ r.level) xs ys c.0, climbs_front xs ys c.1)

-- levels of a trail
levels_from : (s : Shape) (before : List Lit) (level floor : ℕ) (es : List Entry) (high : ℕ) → floor ≤ level → Follow s before level es high → AllByRecursion (λ r. floor ≤ r.level) (seen_of es)
levels_from s before level floor [] high h f = tt
levels_from s before level floor (e ∷ es) high h f =
    let rise : level ≤ e.level = f.2 in
    (omega (arith, h, rise), levels_from s (before ++ e.lit ∷ []) e.level floor es high (omega (arith, h, rise)) f.3)

climbs_follow : (s : Shape) (before : List Lit) (level : ℕ) (es : List Entry) (high : ℕ) → Follow s before level es high → Climbs (seen_of es)
climbs_follow s before level [] high f = tt
climbs_follow s before level (e ∷ es) high f = (levels_from s (before ++ e.lit ∷ []) e.level e.level es high (omega arith) f.3, climbs_follow s (before ++ e.lit ∷ []) e.level es high f.3)

pub climbs_trail : (t : Assignment) → IsAssignment t → Climbs (seen_of t.entries)
climbs_trail t a = climbs_follow t.shape [] 0 t.entries t.level a.entries

levels_under : (s : Shape) (before : List Lit) (level : ℕ) (es : List Entry) (high over : ℕ) → high < over → Follow s before level es high → AllByRecursion (λ r. r.level < over) (seen_of es)
levels_under s before level [] high over h f = tt
levels_under s before level (e ∷ es) high over h f =
    let low : e.level ≤ high = follow_low s (before ++ e.lit ∷ []) e.level es high f.3 in
    (omega (arith, low, h), levels_under s (before ++ e.lit ∷ []) e.level es high over h f.3)

pub looked_under : (t : Assignment) (seen : List Seen) (over : ℕ) → IsAssignment t → t.level < over → IsFront seen (seen_of t.entries) → AllByRecursion (λ r. r.level < over) seen
looked_under t seen over a h f = all_front (λ r. r.level < over) seen f.0 (subst (AllByRecursion (λ (r : Seen). r.level < over)) f.1 (levels_under t.shape [] 0 t.entries t.level over h a.entries))

pub climbs_looked : (t : Assignment) (seen : List Seen) → IsAssignment t → IsFront seen (seen_of t.entries) → Climbs seen
climbs_looked t seen a f = climbs_front seen f.0 (subst Climbs f.1 (climbs_trail t a))

-- literals that were not true below the open level
climbs_at : (seen : List Seen) (i j : ℕ) (d : Seen) → Climbs seen → i ≤ j → j < length seen → (get_or seen i d).level ≤ (get_or seen j d).level
climbs_at [] i j d c h l = absurd (omega arith)
climbs_at (s ∷ ss) zero zero d c h l = omega arith
climbs_at (s ∷ ss) zero (suc j) d c h l = at ss j c.0 (omega arith)
  where
    at : (rs : List Seen) (k : ℕ) → AllByRecursion (λ r. s.level ≤ r.level) rs → k < length rs → s.level ≤ (get_or rs k d).level
    at [] k a m = absurd (omega arith)
    at (r ∷ rs) zero a m = a.0
    at (r ∷ rs) (suc k) a m = at rs k a.1 (omega arith)
climbs_at (s ∷ ss) (suc i) zero d c h l = absurd (omega arith)
climbs_at (s ∷ ss) (suc i) (suc j) d c h l = climbs_at ss i j d c.1 (omega arith) (omega arith)

more_test : (m k : ℕ) → k ≤ m → nat_lt m k ≡ false
more_test m k h = grind (arith, nat_tests)

below_none : (m : ℕ) (seen : List Seen) → ((k : ℕ) (d : Seen) → k < length seen → m ≤ (get_or seen k d).level) → below m seen ≡ []
below_none m [] h = refl
below_none m (x ∷ xs) h = rw (more_test x.level m (h 0 x (omega arith))) (below_none m xs (λ k d l. h (suc k) d (omega arith)))

below_take : (m at : ℕ) (seen : List Seen) → ((k : ℕ) (d : Seen) → at ≤ k → k < length seen → m ≤ (get_or seen k d).level) → below m seen ≡ below m (take at seen)
below_take m zero [] h = refl
below_take m (suc at) [] h = refl
below_take m zero (x ∷ xs) h = below_none m (x ∷ xs) (λ k d l. h k d (omega arith) l)
below_take m (suc at) (x ∷ xs) h = ap (λ (zs : List Seen). cond (nat_lt x.level m) (x ∷ zs) zs) (below_take m at xs (λ k d g l. h (suc k) d (omega arith) (omega arith)))

seen_take : (at : ℕ) (es : List Entry) → lits_seen (take at (seen_of es)) ≡ take at (lits_of es)
seen_take zero [] = refl
seen_take (suc at) [] = refl
seen_take zero (e ∷ es) = refl
seen_take (suc at) (e ∷ es) = ap (λ (zs : List Lit). e.lit ∷ zs) (seen_take at es)

seen_level : (es : List Entry) (i : ℕ) (d : Seen) (e : Entry) → slice_get es i ≡ Some e → (get_or (seen_of es) i d).level ≡ e.level
seen_level [] i d e h = cc
seen_level (x ∷ xs) zero d e h = let same : x ≡ e = cc in ap (λ (y : Entry). y.level) same
seen_level (x ∷ xs) (suc i) d e h = seen_level xs i d e h

pub recent_since : (t : Assignment) (l : Lit) (at : ℕ) (e : Entry) → IsAssignment t → since_on t l ≡ Some at → slice_get t.entries at ≡ Some e → e.level ≡ t.level → IsRecent t l
recent_since t l at e a s is level m one under = cases (implied t.shape.ends (lits_below m (seen_of t.entries)) l) refl
  where
    found : implied t.shape.ends (take at (lits_of t.entries)) l ≡ false
    found = (since_found t l at s).2

    late : (k : ℕ) (d : Seen) → at ≤ k → k < length (seen_of t.entries) → m ≤ (get_or (seen_of t.entries) k d).level
    late k d le lt =
        let first : (get_or (seen_of t.entries) at d).level ≤ (get_or (seen_of t.entries) k d).level = climbs_at (seen_of t.entries) at k d (climbs_trail t a) le lt in
        let own : (get_or (seen_of t.entries) at d).level ≡ e.level = seen_level t.entries at d e is in
        omega (arith, first, own, level, under)

    cases : (b : Bool) → implied t.shape.ends (lits_below m (seen_of t.entries)) l ≡ b → b ≡ false
    cases false h = refl
    cases true h =
        let here : implied t.shape.ends (lits_below m (take at (seen_of t.entries))) l ≡ true = subst (λ (ss : List Seen). implied t.shape.ends (lits_seen ss) l ≡ true) (below_take m at (seen_of t.entries) late) h in
        let there : implied t.shape.ends (lits_seen (take at (seen_of t.entries))) l ≡ true = below_true t.shape.ends m (take at (seen_of t.entries)) l here in
        clash (sym (subst (λ (ls : List Lit). implied t.shape.ends ls l ≡ true) (seen_take at t.entries) there) ∙ found)

pub recent_root : (t : Assignment) (l : Lit) → t.level ≡ 0 → IsRecent t l
recent_root t l e m one under = absurd (omega (arith, e, one, under))

-- the entry of a nogood whose one open literal this is
pub entry_true : (t u : Assignment) (e : Entry) → u ≡ with_entry t e → is_true_on u e.lit ≡ true
entry_true t u e h =
    subst (λ (v : Assignment). is_true_on v e.lit ≡ true) (sym h)
    (ap (λ (ls : List Lit). implied t.shape.ends ls e.lit) (lits_append t.entries (e ∷ [])) ∙ implied-push t.shape.ends (lits_of t.entries) e.lit e.lit ∙ or_own (implied t.shape.ends (lits_of t.entries) e.lit) (implies_lit e.lit e.lit) (implies_refl e.lit))
  where
    or_own : (a b : Bool) → b ≡ true → (a || b) ≡ true
    or_own true b g = refl
    or_own false b g = g

pub closed_conflict : (slots : List Slot) (i : ℕ) (r : Slot) (t : Assignment) (l : Lit) → SlotsAscend slots → i < length slots → r ≡ get_or slots i r → OthersTrueOn t (nogood_at slots i) l → is_true_on t l ≡ true → IsConflict (held_of slots) t r.id
closed_conflict slots i r t l a h is others yes_ = record {
  nogood = nogood_at slots i;
  is_held = subst (λ (q : Slot). nogood_under (held_of slots) q.id ≡ Some (nogood_at slots i)) (sym is) (under_found slots i r a h ∙ ap (λ (q : Slot). Some q.nogood) (get_any slots i r (record { id = 0; nogood = [] }) h));
  all_true = λ m c. cases m (others m c);
}
  where
    cases : (m : Lit) → (m ≡ l) ⊎ (is_true_on t m ≡ true) → is_true_on t m ≡ true
    cases m (inl e) = ap (is_true_on t) e ∙ yes_
    cases m (inr e) = e

pub closed_grows : (slots : List Slot) (i : ℕ) (r : Slot) (t u : Assignment) (l : Lit) → SlotsAscend slots → AllNamed t.shape (held_of slots) → i < length slots → r ≡ get_or slots i r → Contains (nogood_at slots i) l → OthersTrueOn t (nogood_at slots i) l → truth_on t l ≡ None → Names t.shape (complement_of l) → u ≡ with_entry t (entry_of t (complement_of l) (ByHeld r.id)) → Grows (IsForced (held_of slots)) t u
closed_grows slots i r t u l a named h is among others open_ names e =
    subst (Grows (IsForced (held_of slots)) t) (sym e)
    (grows_one (IsForced (held_of slots)) t (entry_of t (complement_of l) (ByHeld r.id))
    (record { names = names; open_before = open_opposite t l open_; level = refl })
    (record {
      id = r.id;
      nogood = nogood_at slots i;
      lit = l;
      why = refl;
      is_held = subst (λ (q : Slot). nogood_under (held_of slots) q.id ≡ Some (nogood_at slots i)) (sym is) (under_found slots i r a h ∙ ap (λ (q : Slot). Some q.nogood) (get_any slots i r (record { id = 0; nogood = [] }) h));
      unit = record { among = among; is_open = open_; others = others };
      opposite = refl;
    }))

-- what the lists are laid out for
counts_same : (a b : Shape) → a.atoms ≡ b.atoms → a.bodies ≡ b.bodies → a.constraints ≡ b.constraints → a.variables ≡ b.variables → counts_of a ≡ counts_of b
counts_same a b e f g h =
    ap (λ (n : ℕ). record { atoms = n; bodies = a.bodies; constraints = a.constraints; variables = a.variables }) e
    ∙ ap (λ (n : ℕ). record { atoms = b.atoms; bodies = n; constraints = a.constraints; variables = a.variables }) f
    ∙ ap (λ (n : ℕ). record { atoms = b.atoms; bodies = b.bodies; constraints = n; variables = a.variables }) g
    ∙ ap (λ (n : ℕ). record { atoms = b.atoms; bodies = b.bodies; constraints = b.constraints; variables = n }) h

pub suits_same : (w : Watching) (s : Shape) → w.places ≡ counts_of w.shape → of_shape.eq w.shape s ≡ true → length w.lists.items ≡ places_of w.places → Suits w s
suits_same w s p e l = record {
  min = grind (arith, nat_tests, Decides-int_eq);
  max = grind (arith, nat_tests, Decides-int_eq);
  places =
      let one : w.shape.atoms ≡ s.atoms = grind (arith, nat_tests, Decides-int_eq) in
      let two : w.shape.bodies ≡ s.bodies = grind (arith, nat_tests, Decides-int_eq) in
      let three : w.shape.constraints ≡ s.constraints = grind (arith, nat_tests, Decides-int_eq) in
      let four : w.shape.variables ≡ s.variables = grind (arith, nat_tests, Decides-int_eq) in
      p ∙ counts_same w.shape s one two three four;
  lists = l;
}

pub no_lists : (n p : ℕ) → list_at (replicate n []) p ≡ []
no_lists n p = cases (nat_lt p n) refl
  where
    cases : (b : Bool) → nat_lt p n ≡ b → list_at (replicate n []) p ≡ []
    cases true e = let less : p < n = grind (arith, nat_tests) in get_or-replicate n p [] [] less
    cases false e = let over : n ≤ p = grind (arith, nat_tests) in get_or_past (replicate n []) p [] (omega (arith, over, length-replicate {A = List Watch} n []))

pub stored_blank : (slots : List Slot) (w : Watching) → SlotsAscend slots → w.places ≡ counts_of w.shape → ((p : ℕ) → list_at w.lists.items p ≡ []) → w.pairs.items ≡ [] → w.fresh.items ≡ [] → w.looked.items ≡ [] → IsStored slots w
stored_blank slots w a places lists pairs fresh looked = record {
  ascend = a;
  climbs = subst (λ (ls : List Look). Climbs (looks_of ls)) (sym looked) tt;
  places = places;
  watching = blank (Stored (looks_of w.looked.items)) w.shape.ends slots w.places w.lists.items w.pairs.items w.fresh.items lists pairs fresh;
}

-- new slots
pub stored_fresh : (slots : List Slot) (w v : Watching) (s : ℕ) → s < length slots → v.shape ≡ w.shape → v.places ≡ w.places → v.lists.items ≡ w.lists.items → v.pairs.items ≡ w.pairs.items → v.looked.items ≡ w.looked.items → v.fresh.items ≡ w.fresh.items ++ s ∷ [] → IsStored slots w → IsStored slots v
stored_fresh slots w v s h shape places lists pairs looked fresh x = record {
  ascend = x.ascend;
  climbs = subst (λ (ls : List Look). Climbs (looks_of ls)) (sym looked) x.climbs;
  places = places ∙ x.places ∙ ap counts_of (sym shape);
  watching =
      subst (λ (q : Shape). IsWatching (Stored (looks_of v.looked.items)) q.ends slots v.places v.lists.items v.pairs.items v.fresh.items) (sym shape)
      (subst (λ (ls : List Look). IsWatching (Stored (looks_of ls)) w.shape.ends slots v.places v.lists.items v.pairs.items v.fresh.items) (sym looked)
      (subst (λ (c : Counts). IsWatching (Stored (looks_of w.looked.items)) w.shape.ends slots c v.lists.items v.pairs.items v.fresh.items) (sym places)
      (subst (λ (ls : List (List Watch)). IsWatching (Stored (looks_of w.looked.items)) w.shape.ends slots w.places ls v.pairs.items v.fresh.items) (sym lists)
      (subst (λ (ps : List Pair). IsWatching (Stored (looks_of w.looked.items)) w.shape.ends slots w.places w.lists.items ps v.fresh.items) (sym pairs)
      (subst (IsWatching (Stored (looks_of w.looked.items)) w.shape.ends slots w.places w.lists.items w.pairs.items) (sym fresh)
      (fresh_more (Stored (looks_of w.looked.items)) w.shape.ends slots w.places w.lists.items w.pairs.items w.fresh.items s h x.watching))))));
}

pub stored_pairs : (slots : List Slot) (w v : Watching) (p : Pair) → length w.pairs.items < length slots → Contains w.fresh.items (length w.pairs.items) → v.shape ≡ w.shape → v.places ≡ w.places → v.lists.items ≡ w.lists.items → v.fresh.items ≡ w.fresh.items → v.looked.items ≡ w.looked.items → v.pairs.items ≡ w.pairs.items ++ p ∷ [] → IsStored slots w → IsStored slots v
stored_pairs slots w v p h c shape places lists fresh looked pairs x = record {
  ascend = x.ascend;
  climbs = subst (λ (ls : List Look). Climbs (looks_of ls)) (sym looked) x.climbs;
  places = places ∙ x.places ∙ ap counts_of (sym shape);
  watching =
      subst (λ (q : Shape). IsWatching (Stored (looks_of v.looked.items)) q.ends slots v.places v.lists.items v.pairs.items v.fresh.items) (sym shape)
      (subst (λ (ls : List Look). IsWatching (Stored (looks_of ls)) w.shape.ends slots v.places v.lists.items v.pairs.items v.fresh.items) (sym looked)
      (subst (λ (c : Counts). IsWatching (Stored (looks_of w.looked.items)) w.shape.ends slots c v.lists.items v.pairs.items v.fresh.items) (sym places)
      (subst (λ (ls : List (List Watch)). IsWatching (Stored (looks_of w.looked.items)) w.shape.ends slots w.places ls v.pairs.items v.fresh.items) (sym lists)
      (subst (λ (fs : List ℕ). IsWatching (Stored (looks_of w.looked.items)) w.shape.ends slots w.places w.lists.items v.pairs.items fs) (sym fresh)
      (subst (λ (ps : List Pair). IsWatching (Stored (looks_of w.looked.items)) w.shape.ends slots w.places w.lists.items ps w.fresh.items) (sym pairs)
      (pairs_more (Stored (looks_of w.looked.items)) w.shape.ends slots w.places w.lists.items w.pairs.items w.fresh.items p h c x.watching))))));
}

pub stored_added : (slots : List Slot) (s : Slot) (w : Watching) → SlotsAscend (slots ++ s ∷ []) → IsStored slots w → IsStored (slots ++ s ∷ []) w
stored_added slots s w a x = record {
  ascend = a;
  climbs = x.climbs;
  places = x.places;
  watching = slots_more (Stored (looks_of w.looked.items)) w.shape.ends slots w.places w.lists.items w.pairs.items w.fresh.items s x.watching;
}

-- a call begins
ends_same : (a b : Ends) (lits : List Lit) (l : Lit) → a.min ≡ b.min → a.max ≡ b.max → implied a lits l ≡ implied b lits l
ends_same a b lits l e f = ap (λ (c : Bool). c || list_any (λ m. implies_lit m l) lits) (own l)
  where
    own : (m : Lit) → ends_imply a m ≡ ends_imply b m
    own (Atom n s) = refl
    own (Body n s) = refl
    own (Constraint n s) = refl
    own (AtMost x k) = ap (λ (z : ℤ). int_le z k) f
    own (AtLeast x k) = ap (λ (z : ℤ). int_le k z) e

pub working_start : (slots : List Slot) (w v : Watching) (t : Assignment) → IsStored slots w → Suits w t.shape → length w.pairs.items ≡ length slots → AllNamed t.shape (held_of slots) → IsAssignment t → IsFront (looks_of w.looked.items) (seen_of t.entries) → v ≡ record w { shape = t.shape; low = t.level } → IsWorking slots v t
working_start slots w v t x s pairs named a front e =
    subst (λ (u : Watching). IsWorking slots u t) (sym e)
    (record {
      ascend = x.ascend;
      named = named;
      assignment = a;
      shape = refl;
      places = s.places;
      lists = s.lists;
      pairs = pairs;
      low = omega arith;
      front = front;
      watching =
          subst (λ (c : Counts). IsWatching (Working t.level (looks_of w.looked.items) (lits_of t.entries)) t.shape.ends slots c w.lists.items w.pairs.items w.fresh.items) s.places
          (watching_turned (Stored (looks_of w.looked.items)) (Working t.level (looks_of w.looked.items) (lits_of t.entries)) w.shape.ends t.shape.ends slots w.places w.lists.items w.pairs.items w.fresh.items turn x.watching);
    })
  where
    all : below (t.level + 1) (looks_of w.looked.items) ≡ looks_of w.looked.items
    all = below_all (t.level + 1) (looks_of w.looked.items) (looked_under t (looks_of w.looked.items) (t.level + 1) a (omega arith) front)

    turn : (b c : List Lit) → Working t.level (looks_of w.looked.items) (lits_of t.entries) b c → Turned (Stored (looks_of w.looked.items)) w.shape.ends t.shape.ends b c
    turn b c (inl m) = record {
      from = b;
      to = c;
      is = (m.0, m.1, m.3, m.4);
      wider = λ l h. ends_same w.shape.ends t.shape.ends b l s.min s.max ∙ h;
      later = λ l h. sym (ends_same w.shape.ends t.shape.ends c l s.min s.max) ∙ h;
    }
    turn b c (inr m) = record {
      from = lits_below (t.level + 1) (looks_of w.looked.items);
      to = lits_below (t.level + 1) (looks_of w.looked.items);
      is = (t.level + 1, omega arith, refl, refl);
      wider = λ l h. ap (λ (ss : List Seen). implied w.shape.ends (lits_seen ss) l) all ∙ ends_same w.shape.ends t.shape.ends (lits_seen (looks_of w.looked.items)) l s.min s.max ∙ ap (λ (ls : List Lit). implied t.shape.ends ls l) (sym m.0) ∙ h;
      later = λ l h.
          ap (λ (ls : List Lit). implied t.shape.ends ls l) m.1
          ∙ front_true t.shape.ends t.entries (looks_of w.looked.items) l front
          (sym (ends_same w.shape.ends t.shape.ends (lits_seen (looks_of w.looked.items)) l s.min s.max) ∙ ap (λ (ss : List Seen). implied w.shape.ends (lits_seen ss) l) (sym all) ∙ h);
    }

-- a call ends
pub left_stored : (slots : List Slot) (w : Watching) → IsStored slots w → IsLeft slots w
left_stored slots w x = record {
  ascend = x.ascend;
  climbs = x.climbs;
  places = x.places;
  watching = watching_turned (Stored (looks_of w.looked.items)) (Left w.low (looks_of w.looked.items)) w.shape.ends w.shape.ends slots w.places w.lists.items w.pairs.items w.fresh.items turn x.watching;
}
  where
    turn : (b a : List Lit) → Left w.low (looks_of w.looked.items) b a → Turned (Stored (looks_of w.looked.items)) w.shape.ends w.shape.ends b a
    turn b a m = same_moment (Stored (looks_of w.looked.items)) w.shape.ends b a (m.0, m.1, m.3, m.4)

pub left_working : (slots : List Slot) (w : Watching) (t : Assignment) → IsWorking slots w t → IsLeft slots w
left_working slots w t x = record {
  ascend = x.ascend;
  climbs = climbs_looked t (looks_of w.looked.items) x.assignment x.front;
  places = x.places ∙ ap counts_of (sym x.shape);
  watching =
      subst (λ (s : Shape). IsWatching (Left w.low (looks_of w.looked.items)) s.ends slots w.places w.lists.items w.pairs.items w.fresh.items) (sym x.shape)
      (subst (λ (c : Counts). IsWatching (Left w.low (looks_of w.looked.items)) t.shape.ends slots c w.lists.items w.pairs.items w.fresh.items) (sym x.places)
      (watching_turned (Working w.low (looks_of w.looked.items) (lits_of t.entries)) (Left w.low (looks_of w.looked.items)) t.shape.ends t.shape.ends slots (counts_of t.shape) w.lists.items w.pairs.items w.fresh.items turn x.watching));
}
  where
    turn : (b a : List Lit) → Left w.low (looks_of w.looked.items) b a → Turned (Working w.low (looks_of w.looked.items) (lits_of t.entries)) t.shape.ends t.shape.ends b a
    turn b a m = same_moment (Working w.low (looks_of w.looked.items) (lits_of t.entries)) t.shape.ends b a (inl m)

front_whole : (first all : List Seen) → IsFront first all → length all ≤ length first → all ≡ first
front_whole first all f h = cases f.0 f.1
  where
    cases : (more : List Seen) → all ≡ first ++ more → all ≡ first
    cases [] e = e ∙ append-nil first
    cases (y ∷ ys) e = absurd (omega (arith, h, ap length e, length-append first (y ∷ ys)))

length-looks : (ls : List Look) → length (looks_of ls) ≡ length ls
length-looks [] = refl
length-looks (x ∷ xs) = ap suc (length-looks xs)

length-seen : (es : List Entry) → length (seen_of es) ≡ length es
length-seen [] = refl
length-seen (x ∷ xs) = ap suc (length-seen xs)

pub all_looked : (w : Watching) (t : Assignment) → IsFront (looks_of w.looked.items) (seen_of t.entries) → length t.entries ≤ length w.looked.items → lits_seen (looks_of w.looked.items) ≡ lits_of t.entries
all_looked w t f h = ap lits_seen (sym (front_whole (looks_of w.looked.items) (seen_of t.entries) f (omega (arith, h, length-looks w.looked.items, length-seen t.entries)))) ∙ lits_seen_of t.entries

pub stored_working : (slots : List Slot) (w : Watching) (t : Assignment) → IsWorking slots w t → length t.entries ≤ length w.looked.items → t.level ≤ w.low → IsStored slots w
stored_working slots w t x h under = record {
  ascend = x.ascend;
  climbs = climbs_looked t (looks_of w.looked.items) x.assignment x.front;
  places = x.places ∙ ap counts_of (sym x.shape);
  watching =
      subst (λ (s : Shape). IsWatching (Stored (looks_of w.looked.items)) s.ends slots w.places w.lists.items w.pairs.items w.fresh.items) (sym x.shape)
      (subst (λ (c : Counts). IsWatching (Stored (looks_of w.looked.items)) t.shape.ends slots c w.lists.items w.pairs.items w.fresh.items) (sym x.places)
      (watching_turned (Working w.low (looks_of w.looked.items) (lits_of t.entries)) (Stored (looks_of w.looked.items)) t.shape.ends t.shape.ends slots (counts_of t.shape) w.lists.items w.pairs.items w.fresh.items turn x.watching));
}
  where
    turn : (b a : List Lit) → Stored (looks_of w.looked.items) b a → Turned (Working w.low (looks_of w.looked.items) (lits_of t.entries)) t.shape.ends t.shape.ends b a
    turn b a m = cases (nat_lt w.low m.0) refl
      where
        cases : (c : Bool) → nat_lt w.low m.0 ≡ c → Turned (Working w.low (looks_of w.looked.items) (lits_of t.entries)) t.shape.ends t.shape.ends b a
        cases false e =
            let within : m.0 ≤ w.low = grind (arith, nat_tests) in
            same_moment (Working w.low (looks_of w.looked.items) (lits_of t.entries)) t.shape.ends b a (inl (m.0, m.1, within, m.2, m.3))
        cases true e =
            let over : w.low < m.0 = grind (arith, nat_tests) in
            let whole : b ≡ lits_seen (looks_of w.looked.items) = m.2 ∙ ap lits_seen (below_all m.0 (looks_of w.looked.items) (looked_under t (looks_of w.looked.items) m.0 x.assignment (omega (arith, over, under)) x.front)) in
            record {
              from = b;
              to = lits_of t.entries;
              is = inr (whole, refl);
              wider = λ l k. k;
              later = λ l k. ap (λ (ls : List Lit). implied t.shape.ends ls l) (m.3 ∙ whole ∙ all_looked w t x.front h) ∙ k;
            }

all_held : (P : List Lit → Type 0) (slots : List Slot) → ((i : ℕ) → i < length slots → P (nogood_at slots i)) → AllByRecursion (λ h. P h.nogood) (held_of slots)
all_held P [] f = tt
all_held P (s ∷ ss) f = (f 0 (omega arith), all_held P ss (λ i h. f (suc i) (omega arith)))

-- at rest each held nogood is quiet
pub all_quiet : (slots : List Slot) (w : Watching) (t : Assignment) → IsWorking slots w t → AreDone slots w.fresh.items t 0 → length t.entries ≤ length w.looked.items → AllByRecursion (λ h. IsQuiet t h.nogood) (held_of slots)
all_quiet slots w t x done h = all_held (IsQuiet t) slots (λ i l. cases i (x.watching.each i (omega (arith, l, x.pairs))))
  where
    same : lits_seen (looks_of w.looked.items) ≡ lits_of t.entries
    same = all_looked w t x.front h

    true_case : (i : ℕ) (l : Lit) → ((b a : List Lit) → Working w.low (looks_of w.looked.items) (lits_of t.entries) b a → implied t.shape.ends b l ≡ true → HasFalse t.shape.ends a (nogood_at slots i)) → is_true_on t l ≡ true → IsQuiet t (nogood_at slots i)
    true_case i l calm e = false_quiet t (nogood_at slots i) x.assignment (calm (lits_seen (looks_of w.looked.items)) (lits_of t.entries) (inr (refl, refl)) (ap (λ (ls : List Lit). implied t.shape.ends ls l) same ∙ e))

    both : (i : ℕ) (p : Pair) → IsWatched (Working w.low (looks_of w.looked.items) (lits_of t.entries)) t.shape.ends slots (counts_of t.shape) w.lists.items i p → (a : Bool) → is_true_on t (lit_at (nogood_at slots i) p.first) ≡ a → (b : Bool) → is_true_on t (lit_at (nogood_at slots i) p.second) ≡ b → IsQuiet t (nogood_at slots i)
    both i p g true e b f = true_case i (lit_at (nogood_at slots i) p.first) g.one.calm e
    both i p g false e true f = true_case i (lit_at (nogood_at slots i) p.second) g.two.calm f
    both i p g false e false f = two_quiet t (nogood_at slots i) p.first p.second g.first g.second g.apart e f

    zero_at : (xs : List ℕ) (k d : ℕ) → k < length xs → get_or xs k d ≡ get_or xs k 0
    zero_at [] k d l = absurd (omega arith)
    zero_at (y ∷ ys) zero d l = refl
    zero_at (y ∷ ys) (suc k) d l = zero_at ys k d (omega arith)

    cases : (i : ℕ) → Contains w.fresh.items i ⊎ IsSafe (Working w.low (looks_of w.looked.items) (lits_of t.entries)) t.shape.ends slots (counts_of t.shape) w.lists.items i (pair_at w.pairs.items i) → IsQuiet t (nogood_at slots i)
    cases i (inl c) =
        let own : get_or w.fresh.items c.0 0 ≡ i = sym (zero_at w.fresh.items c.0 i c.1) ∙ c.2 in
        subst (λ (k : ℕ). IsQuiet t (nogood_at slots k)) own (false_quiet t (nogood_at slots (get_or w.fresh.items c.0 0)) x.assignment (done c.0 (omega arith) c.1))
    cases i (inr (inr s)) = false_quiet t (nogood_at slots i) x.assignment (s (lits_seen (looks_of w.looked.items)) (lits_of t.entries) (inr (refl, refl)))
    cases i (inr (inl g)) = both i (pair_at w.pairs.items i) g (is_true_on t (lit_at (nogood_at slots i) (pair_at w.pairs.items i).first)) refl (is_true_on t (lit_at (nogood_at slots i) (pair_at w.pairs.items i).second)) refl

-- the levels above are cut off
under_last : (m : ℕ) (front : List Seen) (s : Seen) → Climbs (front ++ s ∷ []) → s.level < m → AllByRecursion (λ r. r.level < m) (front ++ s ∷ [])
under_last m [] s c h = (h, tt)
under_last m (x ∷ xs) s c h = (omega (arith, last xs c.0, h), under_last m xs s c.1 h)
  where
    last : (ys : List Seen) → AllByRecursion (λ r. x.level ≤ r.level) (ys ++ s ∷ []) → x.level ≤ s.level
    last [] a = a.0
    last (y ∷ ys) a = last ys a.1

split_last : (x : Seen) (xs : List Seen) → (front : List Seen) × (s : Seen) × (x ∷ xs ≡ front ++ s ∷ [])
split_last x [] = ([], x, refl)
split_last x (y ∷ ys) = let rest = split_last y ys in (x ∷ rest.0, rest.1, ap (λ (zs : List Seen). x ∷ zs) rest.2)

pub under_all : (m : ℕ) (seen : List Seen) → Climbs seen → (length seen ≡ 0) ⊎ ((d : Seen) → (get_or seen (length seen - 1) d).level < m) → AllByRecursion (λ r. r.level < m) seen
under_all m [] c h = tt
under_all m (x ∷ xs) c (inl e) = absurd (omega (arith, e))
under_all m (x ∷ xs) c (inr f) =
    let parts = split_last x xs in
    let at : get_or (x ∷ xs) (length (x ∷ xs) - 1) x ≡ parts.1 =
    ap (λ (zs : List Seen). get_or zs (length zs - 1) x) parts.2
    ∙ ap (λ (k : ℕ). get_or (parts.0 ++ parts.1 ∷ []) k x) (end_ parts.0 parts.1)
    ∙ get_or-append_seam parts.0 parts.1 [] x
    in
    subst (AllByRecursion (λ (r : Seen). r.level < m)) (sym parts.2)
    (under_last m parts.0 parts.1 (subst Climbs parts.2 c) (subst (λ (s : Seen). s.level < m) at (f x)))
  where
    end_ : (front : List Seen) (s : Seen) → length (front ++ s ∷ []) - 1 ≡ length front
    end_ front s = omega (arith, length-append front (s ∷ []))

pub cut_stored : (slots : List Slot) (w v : Watching) → 1 ≤ w.low → v ≡ record w { looked = v.looked } → IsFront (looks_of v.looked.items) (looks_of w.looked.items) → below w.low (looks_of v.looked.items) ≡ below w.low (looks_of w.looked.items) → AllByRecursion (λ r. r.level < w.low) (looks_of v.looked.items) → IsLeft slots w → IsStored slots v
cut_stored slots w v one e front same under x =
    subst (IsStored slots) (sym e)
    (record {
      ascend = x.ascend;
      climbs = climbs_front (looks_of v.looked.items) front.0 (subst Climbs front.1 x.climbs);
      places = x.places;
      watching = watching_turned (Left w.low (looks_of w.looked.items)) (Stored (looks_of v.looked.items)) w.shape.ends w.shape.ends slots w.places w.lists.items w.pairs.items w.fresh.items turn x.watching;
    })
  where
    new : looks_of v.looked.items ≡ below w.low (looks_of w.looked.items)
    new = sym (below_all w.low (looks_of v.looked.items) under) ∙ same

    turn : (b a : List Lit) → Stored (looks_of v.looked.items) b a → Turned (Left w.low (looks_of w.looked.items)) w.shape.ends w.shape.ends b a
    turn b a m = same_moment (Left w.low (looks_of w.looked.items)) w.shape.ends b a (cut_moment w.low (looks_of w.looked.items) (looks_of v.looked.items) b a one new under m)

-- the entry that is looked at next
or_true : (a b : Bool) → b ≡ true → (a || b) ≡ true
or_true true b h = refl
or_true false b h = h

any_entry : (es : List Entry) (i : ℕ) (e : Entry) → slice_get es i ≡ Some e → list_any (λ m. implies_lit m e.lit) (lits_of es) ≡ true
any_entry [] i e h = cc
any_entry (x ∷ xs) zero e h =
    let same : x ≡ e = cc in
    ap (λ (b : Bool). b || list_any (λ m. implies_lit m e.lit) (lits_of xs)) (ap (λ (y : Entry). implies_lit y.lit e.lit) same ∙ implies_refl e.lit)
any_entry (x ∷ xs) (suc i) e h = or_true (implies_lit x.lit e.lit) (list_any (λ m. implies_lit m e.lit) (lits_of xs)) (any_entry xs i e h)

pub entry_lit_true : (t : Assignment) (i : ℕ) (e : Entry) → slice_get t.entries i ≡ Some e → is_true_on t e.lit ≡ true
entry_lit_true t i e h = or_true (ends_imply t.shape.ends e.lit) (list_any (λ m. implies_lit m e.lit) (lits_of t.entries)) (any_entry t.entries i e h)

pub entry_of_shape : (t : Assignment) (i : ℕ) (e : Entry) → IsAssignment t → slice_get t.entries i ≡ Some e → Names t.shape e.lit
entry_of_shape t i e a h =
    subst (λ (y : Entry). Names t.shape y.lit) (get_or_from_slice_get t.entries i e e h) (entry_is t i e a (slice_get_within t.entries i e h)).names

pub front_trans : (a b c : List Seen) → IsFront a b → IsFront b c → IsFront a c
front_trans a b c f g = (f.0 ++ g.0, g.1 ∙ ap (λ (l : List Seen). l ++ g.0) f.1 ∙ append_assoc a f.0 g.0)

pub step_looked : (slots : List Slot) (w u x v : Watching) (t s : Assignment) (e : Entry) → slice_get t.entries (length w.looked.items) ≡ Some e → u ≡ record w { low = u.low } → u.low ≤ e.level → Grows (IsForced (held_of slots)) t s → IsWorking slots x s → IsKept u x → IsDone slots x.lists.items s (place_of x.places e.lit) e.lit 0 → v.shape ≡ x.shape → v.places ≡ x.places → v.low ≡ x.low → v.lists.items ≡ x.lists.items → v.pairs.items ≡ x.pairs.items → v.fresh.items ≡ x.fresh.items → v.looked.items ≡ x.looked.items ++ record { lit = e.lit; level = e.level } ∷ [] → IsWorking slots v s
step_looked slots w u x v t s e at lowered under g working kept done shape places low lists pairs fresh looked =
    let seen : x.looked.items ≡ w.looked.items = kept.looked ∙ ap (λ (k : Watching). k.looked.items) lowered in
    let size : length x.looked.items ≡ length w.looked.items = ap length seen in
    let within : length w.looked.items < length t.entries = slice_get_within t.entries (length w.looked.items) e at in
    let longer : s.entries ≡ t.entries ++ g.more = grows_entries (IsForced (held_of slots)) t s g in
    let here : get_or s.entries (length w.looked.items) e ≡ e = ap (λ (es : List Entry). get_or es (length w.looked.items) e) longer ∙ get_or_append_left t.entries g.more e (length w.looked.items) within ∙ get_or_from_slice_get t.entries (length w.looked.items) e e at in
    working_looked slots x v s (record { lit = e.lit; level = e.level }) e working shape places low lists pairs fresh looked
    (omega (arith, within, size, ap length longer, length-append t.entries g.more))
    (sym (ap (λ (k : ℕ). get_or s.entries k e) size ∙ here))
    refl
    (omega (arith, under, kept.low))
    (subst (λ (c : Counts). IsDone slots x.lists.items s (place_of c e.lit) e.lit 0) working.places done)

pub none_map : {X : Type 0} {A B C : Type 0} (o : Option X) → IfNone o A → IfNone o B → (A → B → C) → IfNone o C
none_map None a b f = f a b
none_map (Some x) a b f = tt

pub is_equal : (p q : ℕ) → IsTrue (p == q) → p ≡ q
is_equal p q h = grind (arith, nat_tests)

-- slots that were not seen become fresh ones
pub enlisted_fresh : (slots : List Slot) (w u : Watching) (s : ℕ) → s < length slots → u ≡ record w { fresh = u.fresh } → u.fresh.items ≡ w.fresh.items ++ s ∷ [] → IsStored slots w → IsStored slots u
enlisted_fresh slots w u s h e f x =
    stored_fresh slots w u s h (ap (λ (k : Watching). k.shape) e) (ap (λ (k : Watching). k.places) e) (ap (λ (k : Watching). k.lists.items) e) (ap (λ (k : Watching). k.pairs.items) e) (ap (λ (k : Watching). k.looked.items) e) f x

pub enlisted_pair : (slots : List Slot) (w u v : Watching) (s : ℕ) (p : Pair) → s ≡ length w.pairs.items → s < length slots → u ≡ record w { fresh = u.fresh } → u.fresh.items ≡ w.fresh.items ++ s ∷ [] → v ≡ record u { pairs = v.pairs } → v.pairs.items ≡ u.pairs.items ++ p ∷ [] → IsStored slots u → IsStored slots v
enlisted_pair slots w u v s p is h e f g pairs x =
    let same : u.pairs.items ≡ w.pairs.items = ap (λ (k : Watching). k.pairs.items) e in
    let size : s ≡ length u.pairs.items = is ∙ ap (λ (ps : List Pair). length ps) (sym same) in
    let own : Contains (s ∷ []) s = (0, omega arith, refl) in
    let there : Contains u.fresh.items s = subst (λ (fs : List ℕ). Contains fs s) (sym f) (Contains-append_right w.fresh.items (s ∷ []) s own) in
    stored_pairs slots u v p (omega (arith, size, h)) (subst (Contains u.fresh.items) size there) (ap (λ (k : Watching). k.shape) g) (ap (λ (k : Watching). k.places) g) (ap (λ (k : Watching). k.lists.items) g) (ap (λ (k : Watching). k.fresh.items) g) (ap (λ (k : Watching). k.looked.items) g) pairs x

-- the pairs stay as they were
pub stored_same : (slots : List Slot) (w v : Watching) → v ≡ record w { pairs = v.pairs } → v.pairs.items ≡ w.pairs.items → IsStored slots w → IsStored slots v
stored_same slots w v e pairs x =
    subst (IsStored slots) (sym e)
    (record {
      ascend = x.ascend;
      climbs = x.climbs;
      places = x.places;
      watching = subst (λ (ps : List Pair). IsWatching (Stored (looks_of w.looked.items)) w.shape.ends slots w.places w.lists.items ps w.fresh.items) (sym pairs) x.watching;
    })

pub suits_kept : (w v : Watching) (s : Shape) → Suits w s → IsSame w v → Suits v s
suits_kept w v s x e = record {
  min = ap (λ (q : Shape). q.ends.min) e.shape ∙ x.min;
  max = ap (λ (q : Shape). q.ends.max) e.shape ∙ x.max;
  places = e.places ∙ x.places;
  lists = ap (λ (ls : List (List Watch)). length ls) e.lists ∙ x.lists ∙ ap places_of (sym e.places);
}

pub started : (w : Watching) (a b : Shape) (k m : ℕ) → a ≡ b → k ≡ m → record w { shape = a; low = k } ≡ record w { shape = b; low = m }
started w a b k m e f = ap (λ (s : Shape). record w { shape = s; low = k }) e ∙ ap (λ (n : ℕ). record w { shape = b; low = n }) f

pub entry_at : (es : List Entry) (i j : ℕ) (e : Entry) → i ≡ j → slice_get es i ≡ Some e → slice_get es j ≡ Some e
entry_at es i j e same h = subst (λ (k : ℕ). slice_get es k ≡ Some e) same h
