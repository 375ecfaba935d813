-- What holds within a call, step by step.
use Rattle.std.proofs.Common.{◌≡◌, ℕ, zero, suc, ◌+◌, ◌<◌, ◌≤◌, ◌==◌, ◌||◌, ◌⊎◌, inl, inr, Bool, true, false, List, [], ◌∷◌, ◌++◌, length, get_or, refl, sym, ◌∙◌, ap, subst, arith, length-append, append_assoc}
use Rattle.std.specs.List.{AllByRecursion, Contains}
use Rattle.std.proofs.lemmas.List.{length-set}
use Rattle.std.proofs.Math.Seq.{get_or-append_seam}
use Rattle.std.proofs.lemmas.Bool.Decides.{nat_tests}
use Rattle.literals.specs.declared.lit.Lit.{Lit}
use Rattle.literals.specs.declared.lit.Lit.TheVariants.{Atom, Body, Constraint, AtMost, AtLeast}
use Rattle.literals.specs.declared.places.Counts.{Counts}
use Rattle.literals.specs.Lits.{complement_of, implies_lit}
use Rattle.literals.specs.Places.{place_of, places_of}
use Rattle.literals.proofs.PlaceLaws.{place_within}
use Rattle.trail.specs.declared.shape.Shape.{Shape}
use Rattle.trail.specs.declared.entry.Entry.{Entry}
use Rattle.trail.specs.Implied.{implied}
use Rattle.trail.specs.Assignment.{Assignment, IsOf, Names, counts_of, lits_of, is_true_on}
use Rattle.trail.specs.Growth.{Grows}
use Rattle.trail.specs.Forced.{OthersTrueOn, AllTrueOn}
use Rattle.trail.proofs.ImpliedLaws.{implied_stays, implied-push}
use Rattle.trail.proofs.ShapeLaws.{of_counted}
use Rattle.trail.proofs.GrowthLaws.{grows_shape, grows_level, grows_entries, grows_assignment, grows_true}
use Rattle.nogood_store.specs.declared.slot.Slot.{Slot}
use Rattle.nogood_store.specs.declared.watch.Watch.{Watch}
use Rattle.nogood_store.specs.declared.watching.Pair.{Pair}
use Rattle.nogood_store.specs.declared.watching.Look.{Look}
use Rattle.nogood_store.specs.declared.watching.Watching.{Watching}
use Rattle.nogood_store.specs.Holding.{Held, Seen, seen_of, IsFront}
use Rattle.nogood_store.specs.Propagation.{IsForced, AllNamed}
use Rattle.nogood_store.specs.Kept.{held_of}
use Rattle.nogood_store.specs.inner.Watching.{nogood_at, lit_at, pair_at, list_at, looks_of, lits_seen, HasFalse, HasFalseOn, Working, with_watch, IsGuard, IsSettled, IsSafe, IsSound, IsWatching, IsWorking, IsKept, IsDoneIn, IsDone, AreDone}
use Rattle.nogood_store.proofs.HeldLaws.{get_any}
use Rattle.nogood_store.proofs.Growing.{still_front, grown_shape, named_own}
use Rattle.nogood_store.proofs.Moments.{lits_seen-append, below_out}
use Rattle.nogood_store.proofs.Lists.{equal, differ}
use Rattle.nogood_store.proofs.Watched.{Turned, same_moment, watching_turned, added}

clash : {X : Type 0} → true ≡ false → X
clash h = cc

-- the nogood of a slot that was read
pub slot_nogood : (slots : List Slot) (i : ℕ) (r : Slot) → i < length slots → r ≡ get_or slots i r → r.nogood ≡ nogood_at slots i
slot_nogood slots i r h e = ap (λ (s : Slot). s.nogood) (e ∙ get_any slots i r (record { id = 0; nogood = [] }) h)

pub lits_append : (xs ys : List Entry) → lits_of (xs ++ ys) ≡ lits_of xs ++ lits_of ys
lits_append [] ys = refl
lits_append (x ∷ xs) ys = ap (λ (zs : List Lit). x.lit ∷ zs) (lits_append xs ys)

-- a literal of a held nogood is of the shape
pub lit_named : (s : Shape) (slots : List Slot) (i : ℕ) (l : Lit) → AllNamed s (held_of slots) → i < length slots → Contains (nogood_at slots i) l → Names s l
lit_named s slots i l a h c = at (nogood_at slots i) (named_own s slots i (record { id = 0; nogood = [] }) a h) c.0 c.1 c.2
  where
    at : (n : List Lit) → AllByRecursion (Names s) n → (k : ℕ) → k < length n → get_or n k l ≡ l → Names s l
    at [] b k m e = absurd (omega arith)
    at (x ∷ xs) b zero m e = subst (Names s) e b.0
    at (x ∷ xs) b (suc k) m e = at xs b.1 k (omega arith) e

implies_place : (c : Counts) (a b : Lit) → implies_lit a b ≡ true → place_of c a ≡ place_of c b
implies_place c (Atom n true) (Atom m true) h = grind (arith, nat_tests)
implies_place c (Atom n true) (Atom m false) h = grind (arith, nat_tests)
implies_place c (Atom n false) (Atom m true) h = grind (arith, nat_tests)
implies_place c (Atom n false) (Atom m false) h = grind (arith, nat_tests)
implies_place c (Body n true) (Body m true) h = grind (arith, nat_tests)
implies_place c (Body n true) (Body m false) h = grind (arith, nat_tests)
implies_place c (Body n false) (Body m true) h = grind (arith, nat_tests)
implies_place c (Body n false) (Body m false) h = grind (arith, nat_tests)
implies_place c (Constraint n true) (Constraint m true) h = grind (arith, nat_tests)
implies_place c (Constraint n true) (Constraint m false) h = grind (arith, nat_tests)
implies_place c (Constraint n false) (Constraint m true) h = grind (arith, nat_tests)
implies_place c (Constraint n false) (Constraint m false) h = grind (arith, nat_tests)
implies_place c (AtMost x k) (AtMost y j) h = grind (arith, nat_tests)
implies_place c (AtLeast x k) (AtLeast y j) h = grind (arith, nat_tests)
implies_place c (Atom n s) (Body m r) h = clash (sym h)
implies_place c (Atom n s) (Constraint m r) h = clash (sym h)
implies_place c (Atom n s) (AtMost m r) h = clash (sym h)
implies_place c (Atom n s) (AtLeast m r) h = clash (sym h)
implies_place c (Body n s) (Atom m r) h = clash (sym h)
implies_place c (Body n s) (Constraint m r) h = clash (sym h)
implies_place c (Body n s) (AtMost m r) h = clash (sym h)
implies_place c (Body n s) (AtLeast m r) h = clash (sym h)
implies_place c (Constraint n s) (Atom m r) h = clash (sym h)
implies_place c (Constraint n s) (Body m r) h = clash (sym h)
implies_place c (Constraint n s) (AtMost m r) h = clash (sym h)
implies_place c (Constraint n s) (AtLeast m r) h = clash (sym h)
implies_place c (AtMost n s) (Atom m r) h = clash (sym h)
implies_place c (AtMost n s) (Body m r) h = clash (sym h)
implies_place c (AtMost n s) (Constraint m r) h = clash (sym h)
implies_place c (AtMost n s) (AtLeast m r) h = clash (sym h)
implies_place c (AtLeast n s) (Atom m r) h = clash (sym h)
implies_place c (AtLeast n s) (Body m r) h = clash (sym h)
implies_place c (AtLeast n s) (Constraint m r) h = clash (sym h)
implies_place c (AtLeast n s) (AtMost m r) h = clash (sym h)

-- a false literal stays false as the trail grows
pub false_grown : (held : List Held) (t u : Assignment) (n : List Lit) → Grows (IsForced held) t u → HasFalseOn t n → HasFalseOn u n
false_grown held t u n g f = (f.0, f.1, grows_true (IsForced held) t u (complement_of f.0) g f.2)

pub done_grown : (slots : List Slot) (list : List Watch) (held : List Held) (t u : Assignment) (lit : Lit) (index : ℕ) → Grows (IsForced held) t u → IsDoneIn slots list t lit index → IsDoneIn slots list u lit index
done_grown slots list held t u lit index g done k d le lt imp = false_grown held t u (nogood_at slots (get_or list k d).slot) g (done k d le lt imp)

pub fresh_grown : (slots : List Slot) (fresh : List ℕ) (held : List Held) (t u : Assignment) (index : ℕ) → Grows (IsForced held) t u → AreDone slots fresh t index → AreDone slots fresh u index
fresh_grown slots fresh held t u index g done k le lt = false_grown held t u (nogood_at slots (get_or fresh k 0)) g (done k le lt)

-- one more watch of a list was looked at
pub done_one : (slots : List Slot) (list : List Watch) (t : Assignment) (lit : Lit) (index : ℕ) (x : Watch) → index < length list → x ≡ get_or list index x → (implies_lit lit x.lit ≡ true → HasFalseOn t (nogood_at slots x.slot)) → IsDoneIn slots list t lit (index + 1) → IsDoneIn slots list t lit index
done_one slots list t lit index x h is here done k d le lt imp = cases (k == index) refl
  where
    cases : (b : Bool) → (k == index) ≡ b → HasFalseOn t (nogood_at slots (get_or list k d).slot)
    cases true e =
        let same : get_or list k d ≡ x = ap (λ (j : ℕ). get_or list j d) (equal k index e) ∙ get_any list index d x h ∙ sym is in
        subst (λ (w : Watch). HasFalseOn t (nogood_at slots w.slot)) (sym same) (here (subst (λ (w : Watch). implies_lit lit w.lit ≡ true) same imp))
    cases false e =
        let ne : k ≡ index → ⊥ = differ k index e in
        done k d (omega (arith, le, ne)) lt imp

pub fresh_one : (slots : List Slot) (fresh : List ℕ) (t : Assignment) (index s : ℕ) → s ≡ get_or fresh index 0 → HasFalseOn t (nogood_at slots s) → AreDone slots fresh t (index + 1) → AreDone slots fresh t index
fresh_one slots fresh t index s is here done k le lt = cases (k == index) refl
  where
    cases : (b : Bool) → (k == index) ≡ b → HasFalseOn t (nogood_at slots (get_or fresh k 0))
    cases true e = subst (λ (j : ℕ). HasFalseOn t (nogood_at slots (get_or fresh j 0))) (sym (equal k index e)) (subst (λ (j : ℕ). HasFalseOn t (nogood_at slots j)) is here)
    cases false e =
        let ne : k ≡ index → ⊥ = differ k index e in
        done k (omega (arith, le, ne)) lt

-- the others are true
pub others_true : (t : Assignment) (n : List Lit) (kept : ℕ) → kept < length n → ((k : ℕ) → k < length n → (d : Lit) → (k ≡ kept → ⊥) → is_true_on t (get_or n k d) ≡ true) → OthersTrueOn t n (lit_at n kept)
others_true t n kept h all l c = cases (c.0 == kept) refl
  where
    cases : (b : Bool) → (c.0 == kept) ≡ b → (l ≡ lit_at n kept) ⊎ (is_true_on t l ≡ true)
    cases true e = inl (sym c.2 ∙ ap (λ (k : ℕ). get_or n k l) (equal c.0 kept e) ∙ get_any n kept l (Atom 0 false) h)
    cases false e = inr (ap (is_true_on t) (sym c.2) ∙ all c.0 c.1 l (differ c.0 kept e))

pub all_true : (t : Assignment) (n : List Lit) (out : ℕ) → length n ≤ out → ((k : ℕ) → k < length n → (d : Lit) → (k ≡ out → ⊥) → is_true_on t (get_or n k d) ≡ true) → AllTrueOn t n
all_true t n out h all l c =
    let within : c.0 < length n = c.1 in
    let ne : c.0 ≡ out → ⊥ = λ e. omega (arith, e, within, h) in
    ap (is_true_on t) (sym c.2) ∙ all c.0 c.1 l ne

-- the trail grows within a call
pub working_grown : (slots : List Slot) (w : Watching) (t u : Assignment) → Grows (IsForced (held_of slots)) t u → IsWorking slots w t → IsWorking slots w u
working_grown slots w t u g x =
    let shape : u.shape ≡ t.shape = grows_shape (IsForced (held_of slots)) t u g in
    let level : u.level ≡ t.level = grows_level (IsForced (held_of slots)) t u g in
    record {
      ascend = x.ascend;
      named = grown_shape (held_of slots) t u g x.named;
      assignment = grows_assignment (IsForced (held_of slots)) t u g x.assignment;
      shape = x.shape ∙ sym shape;
      places = x.places ∙ ap counts_of (sym shape);
      lists = x.lists;
      pairs = x.pairs;
      low = omega (arith, x.low, level);
      front = still_front (IsForced (held_of slots)) t u (looks_of w.looked.items) g x.front;
      watching =
          subst (λ (s : Shape). IsWatching (Working w.low (looks_of w.looked.items) (lits_of u.entries)) s.ends slots (counts_of s) w.lists.items w.pairs.items w.fresh.items) (sym shape)
          (watching_turned (Working w.low (looks_of w.looked.items) (lits_of t.entries)) (Working w.low (looks_of w.looked.items) (lits_of u.entries)) t.shape.ends t.shape.ends slots (counts_of t.shape) w.lists.items w.pairs.items w.fresh.items turn x.watching);
    }
  where
    longer : lits_of u.entries ≡ lits_of t.entries ++ lits_of g.more
    longer = ap lits_of (grows_entries (IsForced (held_of slots)) t u g) ∙ lits_append t.entries g.more

    turn : (b a : List Lit) → Working w.low (looks_of w.looked.items) (lits_of u.entries) b a → Turned (Working w.low (looks_of w.looked.items) (lits_of t.entries)) t.shape.ends t.shape.ends b a
    turn b a (inl m) = same_moment (Working w.low (looks_of w.looked.items) (lits_of t.entries)) t.shape.ends b a (inl m)
    turn b a (inr m) = record {
      from = b;
      to = lits_of t.entries;
      is = inr (m.0, refl);
      wider = λ l h. h;
      later = λ l h. subst (λ (ls : List Lit). implied t.shape.ends ls l ≡ true) (sym (m.1 ∙ longer)) (implied_stays t.shape.ends (lits_of t.entries) (lits_of g.more) l h);
    }

-- the watches change within a call
pub working_changed : (slots : List Slot) (w v : Watching) (t : Assignment) → IsWorking slots w t → v.shape ≡ w.shape → v.places ≡ w.places → v.low ≡ w.low → v.looked.items ≡ w.looked.items → length v.lists.items ≡ length w.lists.items → length v.pairs.items ≡ length w.pairs.items → IsWatching (Working w.low (looks_of w.looked.items) (lits_of t.entries)) t.shape.ends slots (counts_of t.shape) v.lists.items v.pairs.items v.fresh.items → IsWorking slots v t
working_changed slots w v t x shape places low looked lists pairs g = record {
  ascend = x.ascend;
  named = x.named;
  assignment = x.assignment;
  shape = shape ∙ x.shape;
  places = places ∙ x.places;
  lists = lists ∙ x.lists ∙ ap places_of (sym places);
  pairs = pairs ∙ x.pairs;
  low = omega (arith, x.low, low);
  front = subst (λ (ls : List Look). IsFront (looks_of ls) (seen_of t.entries)) (sym looked) x.front;
  watching =
      subst (λ (k : ℕ). IsWatching (Working k (looks_of v.looked.items) (lits_of t.entries)) t.shape.ends slots (counts_of t.shape) v.lists.items v.pairs.items v.fresh.items) (sym low)
      (subst (λ (ls : List Look). IsWatching (Working w.low (looks_of ls) (lits_of t.entries)) t.shape.ends slots (counts_of t.shape) v.lists.items v.pairs.items v.fresh.items) (sym looked) g);
}

pub place_in : (slots : List Slot) (w : Watching) (t : Assignment) (l : Lit) → IsWorking slots w t → IsOf t.shape l → place_of (counts_of t.shape) l < length w.lists.items
place_in slots w t l x h =
    let within : place_of (counts_of t.shape) l < places_of (counts_of t.shape) = place_within (counts_of t.shape) l (of_counted t.shape l h) in
    omega (arith, within, x.lists, ap places_of x.places)

-- nothing changed but what was kept
pub working_same : (slots : List Slot) (w v : Watching) (t : Assignment) → IsWorking slots w t → IsKept w v → v.lists.items ≡ w.lists.items → v.pairs.items ≡ w.pairs.items → IsWorking slots v t
working_same slots w v t x k lists pairs =
    working_changed slots w v t x k.shape k.places k.low k.looked (ap length lists) (ap length pairs)
    (subst (λ (ls : List (List Watch)). IsWatching (Working w.low (looks_of w.looked.items) (lits_of t.entries)) t.shape.ends slots (counts_of t.shape) ls v.pairs.items v.fresh.items) (sym lists)
    (subst (λ (ps : List Pair). IsWatching (Working w.low (looks_of w.looked.items) (lits_of t.entries)) t.shape.ends slots (counts_of t.shape) w.lists.items ps v.fresh.items) (sym pairs)
    (subst (λ (fs : List ℕ). IsWatching (Working w.low (looks_of w.looked.items) (lits_of t.entries)) t.shape.ends slots (counts_of t.shape) w.lists.items w.pairs.items fs) (sym k.fresh) x.watching)))

-- one more watch
pub working_added : (slots : List Slot) (w v : Watching) (t : Assignment) (x : Watch) → IsWorking slots w t → IsSound slots w.pairs.items x → IsOf t.shape x.lit → IsKept w v → v.pairs.items ≡ w.pairs.items → v.lists.items ≡ with_watch w.places w.lists.items x → IsWorking slots v t
working_added slots w v t x g s h k pairs lists =
    let now : v.lists.items ≡ with_watch (counts_of t.shape) w.lists.items x = lists ∙ ap (λ (c : Counts). with_watch c w.lists.items x) g.places in
    working_changed slots w v t g k.shape k.places k.low k.looked
    (ap length lists ∙ length-set w.lists.items (place_of w.places x.lit) (list_at w.lists.items (place_of w.places x.lit) ++ x ∷ []))
    (ap length pairs)
    (subst (λ (ls : List (List Watch)). IsWatching (Working w.low (looks_of w.looked.items) (lits_of t.entries)) t.shape.ends slots (counts_of t.shape) ls v.pairs.items v.fresh.items) (sym now)
    (subst (λ (ps : List Pair). IsWatching (Working w.low (looks_of w.looked.items) (lits_of t.entries)) t.shape.ends slots (counts_of t.shape) (with_watch (counts_of t.shape) w.lists.items x) ps v.fresh.items) (sym pairs)
    (subst (λ (fs : List ℕ). IsWatching (Working w.low (looks_of w.looked.items) (lits_of t.entries)) t.shape.ends slots (counts_of t.shape) (with_watch (counts_of t.shape) w.lists.items x) w.pairs.items fs) (sym k.fresh)
    (added (Working w.low (looks_of w.looked.items) (lits_of t.entries)) t.shape.ends slots (counts_of t.shape) w.lists.items w.pairs.items w.fresh.items x s (place_in slots w t x.lit g h) g.watching))))

-- one more entry was looked at
front_next : (first all : List Seen) (s : Seen) → IsFront first all → length first < length all → get_or all (length first) s ≡ s → IsFront (first ++ s ∷ []) all
front_next first all s f h e = cases f.0 f.1
  where
    cases : (more : List Seen) → all ≡ first ++ more → IsFront (first ++ s ∷ []) all
    cases [] g = absurd (omega (arith, h, ap length g, length-append first []))
    cases (y ∷ ys) g =
        let here : y ≡ s = sym (get_or-append_seam first y ys s) ∙ ap (λ (l : List Seen). get_or l (length first) s) (sym g) ∙ e in
        (ys, g ∙ ap (λ (z : Seen). first ++ z ∷ ys) here ∙ sym (append_assoc first (s ∷ []) ys))

or_from : (a b : Bool) → (a || b) ≡ true → (a ≡ true) ⊎ (b ≡ true)
or_from true b h = inl refl
or_from false b h = inr h

guard_looked : (t : Assignment) (slots : List Slot) (lists : List (List Watch)) (low : ℕ) (seen : List Seen) (s : Seen) (i : ℕ) (l : Lit) → low ≤ s.level → IsDone slots lists t (place_of (counts_of t.shape) s.lit) s.lit 0 → IsGuard (Working low seen (lits_of t.entries)) t.shape.ends slots (counts_of t.shape) lists i l → IsGuard (Working low (seen ++ s ∷ []) (lits_of t.entries)) t.shape.ends slots (counts_of t.shape) lists i l
guard_looked t slots lists low seen s i l le done g = record { there = g.there; calm = calm }
  where
    new : (a : List Lit) → a ≡ lits_of t.entries → implies_lit s.lit l ≡ true → HasFalse t.shape.ends a (nogood_at slots i)
    new a e imp =
        let x : Watch = g.there.0 in
        let place : place_of (counts_of t.shape) l ≡ place_of (counts_of t.shape) s.lit = sym (implies_place (counts_of t.shape) s.lit l imp) in
        let c : Contains (list_at lists (place_of (counts_of t.shape) s.lit)) g.there.0 = subst (λ (p : ℕ). Contains (list_at lists p) g.there.0) place g.there.1 in
        let here : implies_lit s.lit (get_or (list_at lists (place_of (counts_of t.shape) s.lit)) c.0 g.there.0).lit ≡ true = subst (λ (m : Lit). implies_lit s.lit m ≡ true) (sym (ap (λ (v : Watch). v.lit) c.2 ∙ g.there.3)) imp in
        let has : HasFalseOn t (nogood_at slots (get_or (list_at lists (place_of (counts_of t.shape) s.lit)) c.0 g.there.0).slot) = done c.0 g.there.0 (omega arith) c.1 here in
        subst (λ (ls : List Lit). HasFalse t.shape.ends ls (nogood_at slots i)) (sym e)
        (subst (λ (k : ℕ). HasFalseOn t (nogood_at slots k)) (ap (λ (v : Watch). v.slot) c.2 ∙ g.there.2) has)

    split : (a : List Lit) → a ≡ lits_of t.entries → (implied t.shape.ends (lits_seen seen) l ≡ true) ⊎ (implies_lit s.lit l ≡ true) → HasFalse t.shape.ends a (nogood_at slots i)
    split a e (inl h) = g.calm (lits_seen seen) a (inr (refl, e)) h
    split a e (inr h) = new a e h

    calm : (b a : List Lit) → Working low (seen ++ s ∷ []) (lits_of t.entries) b a → implied t.shape.ends b l ≡ true → HasFalse t.shape.ends a (nogood_at slots i)
    calm b a (inl m) h =
        let under : m.0 ≤ s.level = omega (arith, m.2, le) in
        g.calm b a (inl (m.0, m.1, m.2, m.3 ∙ ap lits_seen (below_out m.0 seen s under), m.4)) h
    calm b a (inr m) h =
        split a m.1 (or_from (implied t.shape.ends (lits_seen seen) l) (implies_lit s.lit l)
        (sym (implied-push t.shape.ends (lits_seen seen) s.lit l) ∙ ap (λ (ls : List Lit). implied t.shape.ends ls l) (sym (m.0 ∙ lits_seen-append seen (s ∷ []))) ∙ h))

pub watching_looked : (t : Assignment) (slots : List Slot) (lists : List (List Watch)) (pairs : List Pair) (fresh : List ℕ) (low : ℕ) (seen : List Seen) (s : Seen) → low ≤ s.level → IsDone slots lists t (place_of (counts_of t.shape) s.lit) s.lit 0 → IsWatching (Working low seen (lits_of t.entries)) t.shape.ends slots (counts_of t.shape) lists pairs fresh → IsWatching (Working low (seen ++ s ∷ []) (lits_of t.entries)) t.shape.ends slots (counts_of t.shape) lists pairs fresh
watching_looked t slots lists pairs fresh low seen s le done w = record {
  seen = w.seen;
  sound = w.sound;
  known = w.known;
  each = λ i h. cases i (w.each i h);
}
  where
    settled : (i : ℕ) → IsSettled (Working low seen (lits_of t.entries)) t.shape.ends slots i → IsSettled (Working low (seen ++ s ∷ []) (lits_of t.entries)) t.shape.ends slots i
    settled i g b a (inl m) =
        let under : m.0 ≤ s.level = omega (arith, m.2, le) in
        g b a (inl (m.0, m.1, m.2, m.3 ∙ ap lits_seen (below_out m.0 seen s under), m.4))
    settled i g b a (inr m) = g (lits_seen seen) a (inr (refl, m.1))

    cases : (i : ℕ) → Contains fresh i ⊎ IsSafe (Working low seen (lits_of t.entries)) t.shape.ends slots (counts_of t.shape) lists i (pair_at pairs i) → Contains fresh i ⊎ IsSafe (Working low (seen ++ s ∷ []) (lits_of t.entries)) t.shape.ends slots (counts_of t.shape) lists i (pair_at pairs i)
    cases i (inl c) = inl c
    cases i (inr (inr g)) = inr (inr (settled i g))
    cases i (inr (inl g)) = inr (inl (record {
      first = g.first;
      second = g.second;
      apart = g.apart;
      one = guard_looked t slots lists low seen s i (lit_at (nogood_at slots i) (pair_at pairs i).first) le done g.one;
      two = guard_looked t slots lists low seen s i (lit_at (nogood_at slots i) (pair_at pairs i).second) le done g.two;
    }))

looks_push : (ls : List Look) (k : Look) → looks_of (ls ++ k ∷ []) ≡ looks_of ls ++ record { lit = k.lit; level = k.level } ∷ []
looks_push [] k = refl
looks_push (x ∷ xs) k = ap (λ (zs : List Seen). record { lit = x.lit; level = x.level } ∷ zs) (looks_push xs k)

length-looks : (ls : List Look) → length (looks_of ls) ≡ length ls
length-looks [] = refl
length-looks (x ∷ xs) = ap suc (length-looks xs)

seen_at : (es : List Entry) (i : ℕ) (e : Entry) (d : Seen) → i < length es → e ≡ get_or es i e → get_or (seen_of es) i d ≡ record { lit = e.lit; level = e.level }
seen_at [] i e d h is = absurd (omega arith)
seen_at (x ∷ xs) zero e d h is = ap (λ (y : Entry). record { lit = y.lit; level = y.level }) (sym is)
seen_at (x ∷ xs) (suc i) e d h is = seen_at xs i e d (omega arith) is

length-seen : (es : List Entry) → length (seen_of es) ≡ length es
length-seen [] = refl
length-seen (x ∷ xs) = ap suc (length-seen xs)

pub working_looked : (slots : List Slot) (w v : Watching) (t : Assignment) (k : Look) (e : Entry) → IsWorking slots w t → v.shape ≡ w.shape → v.places ≡ w.places → v.low ≡ w.low → v.lists.items ≡ w.lists.items → v.pairs.items ≡ w.pairs.items → v.fresh.items ≡ w.fresh.items → v.looked.items ≡ w.looked.items ++ k ∷ [] → length w.looked.items < length t.entries → e ≡ get_or t.entries (length w.looked.items) e → k ≡ record { lit = e.lit; level = e.level } → w.low ≤ k.level → IsDone slots w.lists.items t (place_of (counts_of t.shape) k.lit) k.lit 0 → IsWorking slots v t
working_looked slots w v t k e x shape places low lists pairs fresh looked within at is le done =
    let s : Seen = record { lit = k.lit; level = k.level } in
    let more : looks_of v.looked.items ≡ looks_of w.looked.items ++ record { lit = k.lit; level = k.level } ∷ [] = ap looks_of looked ∙ looks_push w.looked.items k in
    let here : get_or (seen_of t.entries) (length w.looked.items) (record { lit = k.lit; level = k.level }) ≡ record { lit = k.lit; level = k.level } = seen_at t.entries (length w.looked.items) e (record { lit = k.lit; level = k.level }) within at ∙ ap (λ (j : Look). record { lit = j.lit; level = j.level }) (sym is) in
    let next : IsFront (looks_of w.looked.items ++ record { lit = k.lit; level = k.level } ∷ []) (seen_of t.entries) =
    front_next (looks_of w.looked.items) (seen_of t.entries) (record { lit = k.lit; level = k.level }) x.front (omega (arith, within, length-looks w.looked.items, length-seen t.entries)) (ap (λ (n : ℕ). get_or (seen_of t.entries) n (record { lit = k.lit; level = k.level })) (length-looks w.looked.items) ∙ here) in
    record {
      ascend = x.ascend;
      named = x.named;
      assignment = x.assignment;
      shape = shape ∙ x.shape;
      places = places ∙ x.places;
      lists = ap length lists ∙ x.lists ∙ ap places_of (sym places);
      pairs = ap length pairs ∙ x.pairs;
      low = omega (arith, x.low, low);
      front = subst (λ (ss : List Seen). IsFront ss (seen_of t.entries)) (sym more) next;
      watching =
          subst (λ (n : ℕ). IsWatching (Working n (looks_of v.looked.items) (lits_of t.entries)) t.shape.ends slots (counts_of t.shape) v.lists.items v.pairs.items v.fresh.items) (sym low)
          (subst (λ (ss : List Seen). IsWatching (Working w.low ss (lits_of t.entries)) t.shape.ends slots (counts_of t.shape) v.lists.items v.pairs.items v.fresh.items) (sym more)
          (subst (λ (ls : List (List Watch)). IsWatching (Working w.low (looks_of w.looked.items ++ record { lit = k.lit; level = k.level } ∷ []) (lits_of t.entries)) t.shape.ends slots (counts_of t.shape) ls v.pairs.items v.fresh.items) (sym lists)
          (subst (λ (ps : List Pair). IsWatching (Working w.low (looks_of w.looked.items ++ record { lit = k.lit; level = k.level } ∷ []) (lits_of t.entries)) t.shape.ends slots (counts_of t.shape) w.lists.items ps v.fresh.items) (sym pairs)
          (subst (λ (fs : List ℕ). IsWatching (Working w.low (looks_of w.looked.items ++ record { lit = k.lit; level = k.level } ∷ []) (lits_of t.entries)) t.shape.ends slots (counts_of t.shape) w.lists.items w.pairs.items fs) (sym fresh)
          (watching_looked t slots w.lists.items w.pairs.items w.fresh.items w.low (looks_of w.looked.items) (record { lit = k.lit; level = k.level }) le done x.watching)))));
    }

-- the least level that was looked at falls
pub working_lower : (slots : List Slot) (w v : Watching) (t : Assignment) → IsWorking slots w t → v.low ≤ w.low → v ≡ record w { low = v.low } → IsWorking slots v t
working_lower slots w v t x le e =
    subst (λ (u : Watching). IsWorking slots u t) (sym e)
    (record {
      ascend = x.ascend;
      named = x.named;
      assignment = x.assignment;
      shape = x.shape;
      places = x.places;
      lists = x.lists;
      pairs = x.pairs;
      low = omega (arith, x.low, le);
      front = x.front;
      watching = watching_turned (Working w.low (looks_of w.looked.items) (lits_of t.entries)) (Working v.low (looks_of w.looked.items) (lits_of t.entries)) t.shape.ends t.shape.ends slots (counts_of t.shape) w.lists.items w.pairs.items w.fresh.items turn x.watching;
    })
  where
    turn : (b a : List Lit) → Working v.low (looks_of w.looked.items) (lits_of t.entries) b a → Turned (Working w.low (looks_of w.looked.items) (lits_of t.entries)) t.shape.ends t.shape.ends b a
    turn b a (inl m) = same_moment (Working w.low (looks_of w.looked.items) (lits_of t.entries)) t.shape.ends b a (inl (m.0, m.1, omega (arith, m.2, le), m.3, m.4))
    turn b a (inr m) = same_moment (Working w.low (looks_of w.looked.items) (lits_of t.entries)) t.shape.ends b a (inr m)
