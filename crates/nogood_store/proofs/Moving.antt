-- Watches that move, and slots that are watched from now on.
use Rattle.std.proofs.Common.{◌≡◌, ℕ, ◌+◌, ◌<◌, ◌≤◌, ◌==◌, ◌⊎◌, inl, inr, Bool, true, false, List, [], ◌∷◌, ◌++◌, length, get_or, set, refl, sym, ◌∙◌, ap, subst, arith, length-append}
use Rattle.std.specs.Prelude.{cond}
use Rattle.std.specs.List.{AllByRecursion, Contains}
use Rattle.std.proofs.lemmas.List.{length-set, get_or-set_same, get_or_append_left}
use Rattle.std.proofs.lemmas.List.Elements.{Contains-get_or}
use Rattle.literals.specs.declared.lit.Lit.{Lit}
use Rattle.literals.specs.declared.lit.Lit.TheVariants.{Atom}
use Rattle.literals.specs.declared.places.Counts.{Counts}
use Rattle.literals.specs.Lits.{same_lit}
use Rattle.literals.specs.Nogoods.{Rises}
use Rattle.literals.specs.Places.{IsCounted, place_of}
use Rattle.trail.specs.Assignment.{Assignment, IsOf, Names, counts_of, lits_of, is_true_on}
use Rattle.trail.specs.Implied.{implied}
use Rattle.trail.proofs.ShapeLaws.{of_counted}
use Rattle.nogood_store.specs.declared.slot.Slot.{Slot}
use Rattle.nogood_store.specs.declared.watch.Watch.{Watch}
use Rattle.nogood_store.specs.declared.watching.Pair.{Pair}
use Rattle.nogood_store.specs.declared.watching.Watching.{Watching}
use Rattle.nogood_store.specs.inner.Watching.{nogood_at, lit_at, pair_at, list_at, looks_of, HasFalse, HasFalseOn, IsRecent, Working, with_watch, IsTaken, IsSound, IsWatched, IsWatching, IsWorking, IsKept, IsDone, IsDoneIn, Shifts, Attaches}
use Rattle.nogood_store.proofs.HeldLaws.{get_any}
use Rattle.nogood_store.proofs.Growing.{named_own}
use Rattle.nogood_store.proofs.Quiet.{lits_apart}
use Rattle.nogood_store.proofs.Moments.{untrue_calm, recent_calm}
use Rattle.nogood_store.proofs.Lists.{equal, differ, list_at_same, list_at_other, contains_kept, contains_new, done_added, done_taken}
use Rattle.nogood_store.proofs.Watched.{added, paired, dropped, retaken}
use Rattle.nogood_store.proofs.Working.{lit_named, place_in, working_changed, working_added}

clash : {X : Type 0} → true ≡ false → X
clash h = cc

-- a list with one more watch has what it had
pub with_watch_get : (places : Counts) (lists : List (List Watch)) (x : Watch) (p k : ℕ) (d : Watch) → place_of places x.lit < length lists → k < length (list_at lists p) → (k < length (list_at (with_watch places lists x) p)) × (get_or (list_at (with_watch places lists x) p) k d ≡ get_or (list_at lists p) k d)
with_watch_get places lists x p k d h l = cases (p == place_of places x.lit) refl
  where
    cases : (b : Bool) → (p == place_of places x.lit) ≡ b → (k < length (list_at (with_watch places lists x) p)) × (get_or (list_at (with_watch places lists x) p) k d ≡ get_or (list_at lists p) k d)
    cases true e =
        let same : p ≡ place_of places x.lit = equal p (place_of places x.lit) e in
        let now : list_at (with_watch places lists x) p ≡ list_at lists p ++ x ∷ [] =
        ap (λ (q : ℕ). list_at (with_watch places lists x) q) same
        ∙ list_at_same lists (place_of places x.lit) (list_at lists (place_of places x.lit) ++ x ∷ []) h
        ∙ ap (λ (q : ℕ). list_at lists q ++ x ∷ []) (sym same)
        in
        (omega (arith, l, ap length now, length-append (list_at lists p) (x ∷ [])), ap (λ (ls : List Watch). get_or ls k d) now ∙ get_or_append_left (list_at lists p) (x ∷ []) d k l)
    cases false e =
        let now : list_at (with_watch places lists x) p ≡ list_at lists p = list_at_other lists p (place_of places x.lit) (list_at lists (place_of places x.lit) ++ x ∷ []) (differ p (place_of places x.lit) e) in
        (omega (arith, l, ap length now), ap (λ (ls : List Watch). get_or ls k d) now)

pub counted_in : (slots : List Slot) (w : Watching) (t : Assignment) (l : Lit) → IsWorking slots w t → IsOf t.shape l → IsCounted w.places l
counted_in slots w t l x h = subst (λ (c : Counts). IsCounted c l) (sym x.places) (of_counted t.shape l h)

-- the old watch is a sound one
old_sound : (slots : List Slot) (w : Watching) (t : Assignment) (place index : ℕ) (p : Pair) (x : Watch) → IsWorking slots w t → (s : Shifts slots w t place index p x) → IsSound slots w.pairs.items s.old
old_sound slots w t place index p x g s = g.watching.sound place s.old (index, s.within, sym s.is_old)

pub new_sound : (slots : List Slot) (w : Watching) (t : Assignment) (place index : ℕ) (p : Pair) (x : Watch) → IsWorking slots w t → Shifts slots w t place index p x → IsSound slots w.pairs.items x
new_sound slots w t place index p x g s =
    let old = old_sound slots w t place index p x g s in
    record {
      slot = subst (λ (k : ℕ). k < length w.pairs.items) (sym s.slot) old.slot;
      first = subst (λ (k : ℕ). (pair_at w.pairs.items k).first < length (nogood_at slots k)) (sym s.slot) old.first;
      second = subst (λ (k : ℕ). (pair_at w.pairs.items k).second < length (nogood_at slots k)) (sym s.slot) old.second;
      other = subst (Contains (nogood_at slots x.slot)) (sym s.other) (Contains-get_or (nogood_at slots x.slot) s.kept (Atom 0 false) s.kept_in);
    }

pub new_named : (slots : List Slot) (w : Watching) (t : Assignment) (place index : ℕ) (p : Pair) (x : Watch) → IsWorking slots w t → Shifts slots w t place index p x → Names t.shape x.lit
new_named slots w t place index p x g s =
    let sound = new_sound slots w t place index p x g s in
    lit_named t.shape slots x.slot x.lit g.named (omega (arith, sound.slot, g.pairs)) (subst (Contains (nogood_at slots x.slot)) (sym s.lit) (Contains-get_or (nogood_at slots x.slot) s.to (Atom 0 false) s.to_in))

pub working_shifted : (slots : List Slot) (w v : Watching) (t : Assignment) (place index : ℕ) (p : Pair) (x : Watch) (ys : List Watch) → IsWorking slots w t → Shifts slots w t place index p x → place < length w.lists.items → IsTaken (list_at (with_watch w.places w.lists.items x) place) ys index → v.shape ≡ w.shape → v.places ≡ w.places → v.low ≡ w.low → v.looked.items ≡ w.looked.items → v.fresh.items ≡ w.fresh.items → v.pairs.items ≡ set w.pairs.items x.slot p → v.lists.items ≡ set (with_watch w.places w.lists.items x) place ys → IsWorking slots v t
working_shifted slots w v t place index p x ys g s h taken shape places low looked fresh pairs lists =
    working_changed slots w v t g shape places low looked
    (ap length lists ∙ length-set (with_watch w.places w.lists.items x) place ys ∙ size w.places)
    (ap length pairs ∙ length-set w.pairs.items x.slot p)
    (subst (λ (ls : List (List Watch)). IsWatching (Working w.low (looks_of w.looked.items) (lits_of t.entries)) t.shape.ends slots (counts_of t.shape) ls v.pairs.items v.fresh.items) (sym (lists ∙ ap (λ (c : Counts). set (with_watch c w.lists.items x) place ys) g.places))
    (subst (λ (ps : List Pair). IsWatching (Working w.low (looks_of w.looked.items) (lits_of t.entries)) t.shape.ends slots (counts_of t.shape) (set (with_watch (counts_of t.shape) w.lists.items x) place ys) ps v.fresh.items) (sym pairs)
    (subst (λ (fs : List ℕ). IsWatching (Working w.low (looks_of w.looked.items) (lits_of t.entries)) t.shape.ends slots (counts_of t.shape) (set (with_watch (counts_of t.shape) w.lists.items x) place ys) (set w.pairs.items x.slot p) fs) (sym fresh)
    (retaken (Working w.low (looks_of w.looked.items) (lits_of t.entries)) t.shape.ends slots (counts_of t.shape) (with_watch (counts_of t.shape) w.lists.items x) w.pairs.items w.fresh.items place index s.to s.kept s.old x ys p
    (omega (arith, h, size (counts_of t.shape)))
    here.0
    (s.is_old ∙ sym here.1)
    (subst (λ (c : Counts). IsTaken (list_at (with_watch c w.lists.items x) place) ys index) g.places taken)
    s.slot
    sound.slot
    s.to_in
    s.kept_in
    s.apart
    s.lit
    (contains_new (counts_of t.shape) w.lists.items x in_)
    (λ e. clash (sym s.was_true ∙ ap (λ (y : Watch). is_true_on t y.lit) (sym e) ∙ s.untrue))
    (untrue_calm t w.low (looks_of w.looked.items) (nogood_at slots x.slot) x.lit g.front s.untrue)
    s.sides
    (added (Working w.low (looks_of w.looked.items) (lits_of t.entries)) t.shape.ends slots (counts_of t.shape) w.lists.items w.pairs.items w.fresh.items x sound in_ g.watching)))))
  where
    sound : IsSound slots w.pairs.items x
    sound = new_sound slots w t place index p x g s

    in_ : place_of (counts_of t.shape) x.lit < length w.lists.items
    in_ = place_in slots w t x.lit g (new_named slots w t place index p x g s).within

    size : (c : Counts) → length (with_watch c w.lists.items x) ≡ length w.lists.items
    size c = length-set w.lists.items (place_of c x.lit) (list_at w.lists.items (place_of c x.lit) ++ x ∷ [])

    here : (index < length (list_at (with_watch (counts_of t.shape) w.lists.items x) place)) × (get_or (list_at (with_watch (counts_of t.shape) w.lists.items x) place) index s.old ≡ get_or (list_at w.lists.items place) index s.old)
    here = with_watch_get (counts_of t.shape) w.lists.items x place index s.old in_ s.within

pub shifted_left : (slots : List Slot) (w : Watching) (t : Assignment) (place index : ℕ) (p : Pair) (x : Watch) (ys : List Watch) → IsWorking slots w t → Shifts slots w t place index p x → place < length w.lists.items → IsTaken (list_at (with_watch w.places w.lists.items x) place) ys index → index ≤ length (list_at (set (with_watch w.places w.lists.items x) place ys) place)
shifted_left slots w t place index p x ys g s h taken =
    let in_ : place_of w.places x.lit < length w.lists.items = subst (λ (c : Counts). place_of c x.lit < length w.lists.items) (sym g.places) (place_in slots w t x.lit g (new_named slots w t place index p x g s).within) in
    let here = with_watch_get w.places w.lists.items x place index s.old in_ s.within in
    let size : length (with_watch w.places w.lists.items x) ≡ length w.lists.items = length-set w.lists.items (place_of w.places x.lit) (list_at w.lists.items (place_of w.places x.lit) ++ x ∷ []) in
    let now : list_at (set (with_watch w.places w.lists.items x) place ys) place ≡ ys = list_at_same (with_watch w.places w.lists.items x) place ys (omega (arith, h, size)) in
    omega (arith, here.0, taken.count, ap length now)

pub shifted_done : (slots : List Slot) (w : Watching) (t : Assignment) (place index : ℕ) (p : Pair) (x : Watch) (ys : List Watch) (lit : Lit) → IsWorking slots w t → Shifts slots w t place index p x → place < length w.lists.items → IsTaken (list_at (with_watch w.places w.lists.items x) place) ys index → is_true_on t lit ≡ true → IsDone slots w.lists.items t place lit (index + 1) → IsDone slots (set (with_watch w.places w.lists.items x) place ys) t place lit index
shifted_done slots w t place index p x ys lit g s h taken yes_ done =
    let in_ : place_of w.places x.lit < length w.lists.items = subst (λ (c : Counts). place_of c x.lit < length w.lists.items) (sym g.places) (place_in slots w t x.lit g (new_named slots w t place index p x g s).within) in
    let size : length (with_watch w.places w.lists.items x) ≡ length w.lists.items = length-set w.lists.items (place_of w.places x.lit) (list_at w.lists.items (place_of w.places x.lit) ++ x ∷ []) in
    let now : list_at (set (with_watch w.places w.lists.items x) place ys) place ≡ ys = list_at_same (with_watch w.places w.lists.items x) place ys (omega (arith, h, size)) in
    subst (λ (l : List Watch). IsDoneIn slots l t lit index) (sym now)
    (done_taken slots (list_at (with_watch w.places w.lists.items x) place) ys t lit index taken
    (done_added slots w.places w.lists.items x t place lit (index + 1) in_ yes_ s.untrue done))

-- a fresh slot with another pair
pub working_paired : (slots : List Slot) (w v : Watching) (t : Assignment) (index : ℕ) (p : Pair) (s : ℕ) → IsWorking slots w t → Attaches slots w t index p → s ≡ get_or w.fresh.items index 0 → v.shape ≡ w.shape → v.places ≡ w.places → v.low ≡ w.low → v.looked.items ≡ w.looked.items → v.fresh.items ≡ w.fresh.items → v.lists.items ≡ w.lists.items → v.pairs.items ≡ set w.pairs.items s p → IsWorking slots v t
working_paired slots w v t index p s g a is shape places low looked fresh lists pairs =
    working_changed slots w v t g shape places low looked (ap length lists) (ap length pairs ∙ length-set w.pairs.items s p)
    (subst (λ (ls : List (List Watch)). IsWatching (Working w.low (looks_of w.looked.items) (lits_of t.entries)) t.shape.ends slots (counts_of t.shape) ls v.pairs.items v.fresh.items) (sym lists)
    (subst (λ (ps : List Pair). IsWatching (Working w.low (looks_of w.looked.items) (lits_of t.entries)) t.shape.ends slots (counts_of t.shape) w.lists.items ps v.fresh.items) (sym pairs)
    (subst (λ (fs : List ℕ). IsWatching (Working w.low (looks_of w.looked.items) (lits_of t.entries)) t.shape.ends slots (counts_of t.shape) w.lists.items (set w.pairs.items s p) fs) (sym fresh)
    (paired (Working w.low (looks_of w.looked.items) (lits_of t.entries)) t.shape.ends slots (counts_of t.shape) w.lists.items w.pairs.items w.fresh.items s p
    (omega (arith, known, g.pairs))
    there
    (subst (λ (k : ℕ). p.first < length (nogood_at slots k)) (sym is) a.first)
    (subst (λ (k : ℕ). p.second < length (nogood_at slots k)) (sym is) a.second)
    g.watching))))
  where
    there : Contains w.fresh.items s
    there = subst (Contains w.fresh.items) (sym is) (Contains-get_or w.fresh.items index 0 a.within)

    known : s < length slots
    known = g.watching.known s there

pub fresh_known : (slots : List Slot) (w : Watching) (t : Assignment) (index s : ℕ) → IsWorking slots w t → index < length w.fresh.items → s ≡ get_or w.fresh.items index 0 → s < length slots
fresh_known slots w t index s g h is = g.watching.known s (subst (Contains w.fresh.items) (sym is) (Contains-get_or w.fresh.items index 0 h))

-- the watches of a slot whose pair was set are sound
pub pair_sound : (slots : List Slot) (pairs : List Pair) (s : ℕ) (p : Pair) (l : Lit) (k : ℕ) → s < length pairs → p.first < length (nogood_at slots s) → p.second < length (nogood_at slots s) → k < length (nogood_at slots s) → IsSound slots (set pairs s p) (record { slot = s; lit = l; other = lit_at (nogood_at slots s) k })
pair_sound slots pairs s p l k h one two in_ =
    let now : pair_at (set pairs s p) s ≡ p = get_or-set_same pairs s p (record { first = 0; second = 0 }) h in
    record {
      slot = omega (arith, h, length-set pairs s p);
      first = subst (λ (q : Pair). q.first < length (nogood_at slots s)) (sym now) one;
      second = subst (λ (q : Pair). q.second < length (nogood_at slots s)) (sym now) two;
      other = Contains-get_or (nogood_at slots s) k (Atom 0 false) in_;
    }

-- both are watched, so the slot is fresh no more
pub working_dropped : (slots : List Slot) (w v : Watching) (t : Assignment) (index : ℕ) (p : Pair) (s : ℕ) (less : List ℕ) → IsWorking slots w t → index < length w.fresh.items → s ≡ get_or w.fresh.items index 0 → IsTaken w.fresh.items less index → p.first < length (nogood_at slots s) → p.second < length (nogood_at slots s) → (lit_at (nogood_at slots s) p.first ≡ lit_at (nogood_at slots s) p.second → ⊥) → is_true_on t (lit_at (nogood_at slots s) p.first) ≡ false → (is_true_on t (lit_at (nogood_at slots s) p.second) ≡ false) ⊎ (IsRecent t (lit_at (nogood_at slots s) p.second) × HasFalseOn t (nogood_at slots s)) → pair_at w.pairs.items s ≡ p → Contains (list_at w.lists.items (place_of (counts_of t.shape) (lit_at (nogood_at slots s) p.first))) (record { slot = s; lit = lit_at (nogood_at slots s) p.first; other = lit_at (nogood_at slots s) p.second }) → Contains (list_at w.lists.items (place_of (counts_of t.shape) (lit_at (nogood_at slots s) p.second))) (record { slot = s; lit = lit_at (nogood_at slots s) p.second; other = lit_at (nogood_at slots s) p.first }) → v.shape ≡ w.shape → v.places ≡ w.places → v.low ≡ w.low → v.looked.items ≡ w.looked.items → v.lists.items ≡ w.lists.items → v.pairs.items ≡ w.pairs.items → v.fresh.items ≡ less → IsWorking slots v t
working_dropped slots w v t index p s less g h is taken first second apart one two pair there also shape places low looked lists pairs fresh =
    working_changed slots w v t g shape places low looked (ap length lists) (ap length pairs)
    (subst (λ (ls : List (List Watch)). IsWatching (Working w.low (looks_of w.looked.items) (lits_of t.entries)) t.shape.ends slots (counts_of t.shape) ls v.pairs.items v.fresh.items) (sym lists)
    (subst (λ (ps : List Pair). IsWatching (Working w.low (looks_of w.looked.items) (lits_of t.entries)) t.shape.ends slots (counts_of t.shape) w.lists.items ps v.fresh.items) (sym pairs)
    (subst (λ (fs : List ℕ). IsWatching (Working w.low (looks_of w.looked.items) (lits_of t.entries)) t.shape.ends slots (counts_of t.shape) w.lists.items w.pairs.items fs) (sym fresh)
    (dropped (Working w.low (looks_of w.looked.items) (lits_of t.entries)) t.shape.ends slots (counts_of t.shape) w.lists.items w.pairs.items w.fresh.items less index s h is taken
    (inl (subst (IsWatched (Working w.low (looks_of w.looked.items) (lits_of t.entries)) t.shape.ends slots (counts_of t.shape) w.lists.items s) (sym pair)
    (record {
      first = first;
      second = second;
      apart = apart;
      one = record {
        there = (record { slot = s; lit = lit_at (nogood_at slots s) p.first; other = lit_at (nogood_at slots s) p.second }, there, refl, refl);
        calm = untrue_calm t w.low (looks_of w.looked.items) (nogood_at slots s) (lit_at (nogood_at slots s) p.first) g.front one;
      };
      two = record {
        there = (record { slot = s; lit = lit_at (nogood_at slots s) p.second; other = lit_at (nogood_at slots s) p.first }, also, refl, refl);
        calm = calm two;
      };
    })))
    g.watching))))
  where
    calm : (is_true_on t (lit_at (nogood_at slots s) p.second) ≡ false) ⊎ (IsRecent t (lit_at (nogood_at slots s) p.second) × HasFalseOn t (nogood_at slots s)) → (b a : List Lit) → Working w.low (looks_of w.looked.items) (lits_of t.entries) b a → implied t.shape.ends b (lit_at (nogood_at slots s) p.second) ≡ true → HasFalse t.shape.ends a (nogood_at slots s)
    calm (inl e) = untrue_calm t w.low (looks_of w.looked.items) (nogood_at slots s) (lit_at (nogood_at slots s) p.second) g.front e
    calm (inr e) = recent_calm t w.low (looks_of w.looked.items) (nogood_at slots s) (lit_at (nogood_at slots s) p.second) g.front g.low e.0 e.1

pub shifted_taken : (places : Counts) (old new : List (List Watch)) (x : Watch) (place index : ℕ) (row ys : List Watch) → new ≡ with_watch places old x → place < length old → row ≡ get_or new place row → IsTaken row ys index → IsTaken (list_at (with_watch places old x) place) ys index
shifted_taken places old new x place index row ys e h is taken =
    let size : length (with_watch places old x) ≡ length old = length-set old (place_of places x.lit) (list_at old (place_of places x.lit) ++ x ∷ []) in
    let within : place < length new = omega (arith, h, size, ap length e) in
    subst (λ (l : List Watch). IsTaken l ys index) (is ∙ get_any new place row [] within ∙ ap (λ (ls : List (List Watch)). list_at ls place) e) taken

-- a literal of the nogood that was read
pub read_named : (slots : List Slot) (w : Watching) (t : Assignment) (s k : ℕ) (n : List Lit) → IsWorking slots w t → s < length slots → n ≡ nogood_at slots s → k < length (nogood_at slots s) → Names t.shape (lit_at n k)
read_named slots w t s k n g h e l =
    subst (λ (m : List Lit). Names t.shape (lit_at m k)) (sym e)
    (lit_named t.shape slots s (lit_at (nogood_at slots s) k) g.named h (Contains-get_or (nogood_at slots s) k (Atom 0 false) l))

-- a fresh slot's first watch, its second, and the slot that is fresh no more
pub attach_first : (slots : List Slot) (w v : Watching) (t : Assignment) (index : ℕ) (p : Pair) (s : ℕ) (n : List Lit) → IsWorking slots w t → Attaches slots w t index p → s ≡ get_or w.fresh.items index 0 → n ≡ nogood_at slots s → v.shape ≡ w.shape → v.places ≡ w.places → v.low ≡ w.low → v.looked.items ≡ w.looked.items → v.fresh.items ≡ w.fresh.items → v.pairs.items ≡ set w.pairs.items s p → v.lists.items ≡ with_watch w.places w.lists.items (record { slot = s; lit = lit_at n p.first; other = lit_at n p.second }) → IsWorking slots v t
attach_first slots w v t index p s n g a is e shape places low looked fresh pairs lists =
    let known : s < length slots = fresh_known slots w t index s g a.within is in
    let first : p.first < length (nogood_at slots s) = subst (λ (k : ℕ). p.first < length (nogood_at slots k)) (sym is) a.first in
    let second : p.second < length (nogood_at slots s) = subst (λ (k : ℕ). p.second < length (nogood_at slots k)) (sym is) a.second in
    let in_ : s < length w.pairs.items = omega (arith, known, g.pairs) in
    let sound : IsSound slots (set w.pairs.items s p) (record { slot = s; lit = lit_at n p.first; other = lit_at n p.second }) =
    subst (λ (m : List Lit). IsSound slots (set w.pairs.items s p) (record { slot = s; lit = lit_at n p.first; other = lit_at m p.second })) (sym e) (pair_sound slots w.pairs.items s p (lit_at n p.first) p.second in_ first second second)
    in
    let named = read_named slots w t s p.first n g known e first in
    let there : Contains w.fresh.items s = subst (Contains w.fresh.items) (sym is) (Contains-get_or w.fresh.items index 0 a.within) in
    working_changed slots w v t g shape places low looked
    (ap length lists ∙ length-set w.lists.items (place_of w.places (lit_at n p.first)) (list_at w.lists.items (place_of w.places (lit_at n p.first)) ++ record { slot = s; lit = lit_at n p.first; other = lit_at n p.second } ∷ []))
    (ap length pairs ∙ length-set w.pairs.items s p)
    (subst (λ (ls : List (List Watch)). IsWatching (Working w.low (looks_of w.looked.items) (lits_of t.entries)) t.shape.ends slots (counts_of t.shape) ls v.pairs.items v.fresh.items) (sym (lists ∙ ap (λ (c : Counts). with_watch c w.lists.items (record { slot = s; lit = lit_at n p.first; other = lit_at n p.second })) g.places))
    (subst (λ (ps : List Pair). IsWatching (Working w.low (looks_of w.looked.items) (lits_of t.entries)) t.shape.ends slots (counts_of t.shape) (with_watch (counts_of t.shape) w.lists.items (record { slot = s; lit = lit_at n p.first; other = lit_at n p.second })) ps v.fresh.items) (sym pairs)
    (subst (λ (fs : List ℕ). IsWatching (Working w.low (looks_of w.looked.items) (lits_of t.entries)) t.shape.ends slots (counts_of t.shape) (with_watch (counts_of t.shape) w.lists.items (record { slot = s; lit = lit_at n p.first; other = lit_at n p.second })) (set w.pairs.items s p) fs) (sym fresh)
    (added (Working w.low (looks_of w.looked.items) (lits_of t.entries)) t.shape.ends slots (counts_of t.shape) w.lists.items (set w.pairs.items s p) w.fresh.items (record { slot = s; lit = lit_at n p.first; other = lit_at n p.second }) sound (place_in slots w t (lit_at n p.first) g named.within)
    (paired (Working w.low (looks_of w.looked.items) (lits_of t.entries)) t.shape.ends slots (counts_of t.shape) w.lists.items w.pairs.items w.fresh.items s p in_ there first second g.watching)))))

pub attach_second : (slots : List Slot) (w u v : Watching) (t : Assignment) (index : ℕ) (p : Pair) (s : ℕ) (n : List Lit) → IsWorking slots w t → Attaches slots w t index p → s ≡ get_or w.fresh.items index 0 → n ≡ nogood_at slots s → IsWorking slots u t → u.pairs.items ≡ set w.pairs.items s p → IsKept u v → v.pairs.items ≡ u.pairs.items → v.lists.items ≡ with_watch u.places u.lists.items (record { slot = s; lit = lit_at n p.second; other = lit_at n p.first }) → IsWorking slots v t
attach_second slots w u v t index p s n g a is e x set_ kept pairs lists =
    let known : s < length slots = fresh_known slots w t index s g a.within is in
    let first : p.first < length (nogood_at slots s) = subst (λ (k : ℕ). p.first < length (nogood_at slots k)) (sym is) a.first in
    let second : p.second < length (nogood_at slots s) = subst (λ (k : ℕ). p.second < length (nogood_at slots k)) (sym is) a.second in
    let in_ : s < length w.pairs.items = omega (arith, known, g.pairs) in
    let sound : IsSound slots u.pairs.items (record { slot = s; lit = lit_at n p.second; other = lit_at n p.first }) =
    subst (λ (ps : List Pair). IsSound slots ps (record { slot = s; lit = lit_at n p.second; other = lit_at n p.first })) (sym set_)
    (subst (λ (m : List Lit). IsSound slots (set w.pairs.items s p) (record { slot = s; lit = lit_at n p.second; other = lit_at m p.first })) (sym e) (pair_sound slots w.pairs.items s p (lit_at n p.second) p.first in_ first second first))
    in
    working_added slots u v t (record { slot = s; lit = lit_at n p.second; other = lit_at n p.first }) x sound (read_named slots w t s p.second n g known e second).within kept pairs lists

pub attach_last : (slots : List Slot) (w u x v : Watching) (t : Assignment) (index : ℕ) (p : Pair) (s : ℕ) (less : List ℕ) (lits : List Lit) → IsWorking slots w t → Attaches slots w t index p → s ≡ get_or w.fresh.items index 0 → lits ≡ nogood_at slots s → IsWorking slots x t → u.places ≡ w.places → u.fresh.items ≡ w.fresh.items → u.pairs.items ≡ set w.pairs.items s p → u.lists.items ≡ with_watch w.places w.lists.items (record { slot = s; lit = lit_at lits p.first; other = lit_at lits p.second }) → IsKept u x → x.pairs.items ≡ u.pairs.items → x.lists.items ≡ with_watch u.places u.lists.items (record { slot = s; lit = lit_at lits p.second; other = lit_at lits p.first }) → IsTaken x.fresh.items less index → v.shape ≡ x.shape → v.places ≡ x.places → v.low ≡ x.low → v.looked.items ≡ x.looked.items → v.lists.items ≡ x.lists.items → v.pairs.items ≡ x.pairs.items → v.fresh.items ≡ less → IsWorking slots v t
attach_last slots w u x v t index p s less lits g a is e y up uf upairs ulists kept pairs lists taken vshape vplaces vlow vlooked vlists vpairs vfresh =
    let known : s < length slots = fresh_known slots w t index s g a.within is in
    let first : p.first < length (nogood_at slots s) = subst (λ (k : ℕ). p.first < length (nogood_at slots k)) (sym is) a.first in
    let second : p.second < length (nogood_at slots s) = subst (λ (k : ℕ). p.second < length (nogood_at slots k)) (sym is) a.second in
    let in_ : s < length w.pairs.items = omega (arith, known, g.pairs) in
    let fresh : x.fresh.items ≡ w.fresh.items = kept.fresh ∙ uf in
    let counts : w.places ≡ counts_of t.shape = g.places in
    let one_in : place_of (counts_of t.shape) (lit_at lits p.first) < length w.lists.items = place_in slots w t (lit_at lits p.first) g (read_named slots w t s p.first lits g known e first).within in
    let two_in : place_of (counts_of t.shape) (lit_at lits p.second) < length w.lists.items = place_in slots w t (lit_at lits p.second) g (read_named slots w t s p.second lits g known e second).within in
    let u_lists : u.lists.items ≡ with_watch (counts_of t.shape) w.lists.items (record { slot = s; lit = lit_at lits p.first; other = lit_at lits p.second }) = ulists ∙ ap (λ (c : Counts). with_watch c w.lists.items (record { slot = s; lit = lit_at lits p.first; other = lit_at lits p.second })) counts in
    let x_lists : x.lists.items ≡ with_watch (counts_of t.shape) u.lists.items (record { slot = s; lit = lit_at lits p.second; other = lit_at lits p.first }) = lists ∙ ap (λ (c : Counts). with_watch c u.lists.items (record { slot = s; lit = lit_at lits p.second; other = lit_at lits p.first })) (up ∙ counts) in
    let size : length u.lists.items ≡ length w.lists.items = ap length u_lists ∙ length-set w.lists.items (place_of (counts_of t.shape) (lit_at lits p.first)) (list_at w.lists.items (place_of (counts_of t.shape) (lit_at lits p.first)) ++ record { slot = s; lit = lit_at lits p.first; other = lit_at lits p.second } ∷ []) in
    let there : Contains (list_at x.lists.items (place_of (counts_of t.shape) (lit_at lits p.first))) (record { slot = s; lit = lit_at lits p.first; other = lit_at lits p.second }) =
    subst (λ (ls : List (List Watch)). Contains (list_at ls (place_of (counts_of t.shape) (lit_at lits p.first))) (record { slot = s; lit = lit_at lits p.first; other = lit_at lits p.second })) (sym x_lists)
    (contains_kept (counts_of t.shape) u.lists.items (record { slot = s; lit = lit_at lits p.second; other = lit_at lits p.first }) (place_of (counts_of t.shape) (lit_at lits p.first)) (record { slot = s; lit = lit_at lits p.first; other = lit_at lits p.second }) (omega (arith, two_in, size))
    (subst (λ (ls : List (List Watch)). Contains (list_at ls (place_of (counts_of t.shape) (lit_at lits p.first))) (record { slot = s; lit = lit_at lits p.first; other = lit_at lits p.second })) (sym u_lists)
    (contains_new (counts_of t.shape) w.lists.items (record { slot = s; lit = lit_at lits p.first; other = lit_at lits p.second }) one_in)))
    in
    let also : Contains (list_at x.lists.items (place_of (counts_of t.shape) (lit_at lits p.second))) (record { slot = s; lit = lit_at lits p.second; other = lit_at lits p.first }) =
    subst (λ (ls : List (List Watch)). Contains (list_at ls (place_of (counts_of t.shape) (lit_at lits p.second))) (record { slot = s; lit = lit_at lits p.second; other = lit_at lits p.first })) (sym x_lists)
    (contains_new (counts_of t.shape) u.lists.items (record { slot = s; lit = lit_at lits p.second; other = lit_at lits p.first }) (omega (arith, two_in, size)))
    in
    working_dropped slots x v t index p s less y
    (omega (arith, a.within, ap length fresh))
    (is ∙ ap (λ (fs : List ℕ). get_or fs index 0) (sym fresh))
    taken first second
    (subst (λ (k : ℕ). lit_at (nogood_at slots k) p.first ≡ lit_at (nogood_at slots k) p.second → ⊥) (sym is) a.apart)
    (subst (λ (k : ℕ). is_true_on t (lit_at (nogood_at slots k) p.first) ≡ false) (sym is) a.one)
    (subst (λ (k : ℕ). (is_true_on t (lit_at (nogood_at slots k) p.second) ≡ false) ⊎ (IsRecent t (lit_at (nogood_at slots k) p.second) × HasFalseOn t (nogood_at slots k))) (sym is) a.two)
    (ap (λ (ps : List Pair). pair_at ps s) (pairs ∙ upairs) ∙ get_or-set_same w.pairs.items s p (record { first = 0; second = 0 }) in_)
    (subst (λ (m : List Lit). Contains (list_at x.lists.items (place_of (counts_of t.shape) (lit_at m p.first))) (record { slot = s; lit = lit_at m p.first; other = lit_at m p.second })) e there)
    (subst (λ (m : List Lit). Contains (list_at x.lists.items (place_of (counts_of t.shape) (lit_at m p.second))) (record { slot = s; lit = lit_at m p.second; other = lit_at m p.first })) e also)
    vshape vplaces vlow vlooked vlists vpairs vfresh

-- the watch that a visit moves
pub shifts_of : (slots : List Slot) (w : Watching) (t : Assignment) (place index : ℕ) (y : Watch) (n : List Lit) (q p : Pair) (b : Bool) (kept to : ℕ) → IsWorking slots w t → index < length (list_at w.lists.items place) → y ≡ get_or (list_at w.lists.items place) index y → n ≡ nogood_at slots y.slot → q ≡ pair_at w.pairs.items y.slot → Rises n → b ≡ same_lit (lit_at n q.first) y.lit → kept ≡ cond b q.second q.first → p ≡ cond b (record { first = to; second = kept }) (record { first = kept; second = to }) → to < length n → (to ≡ kept → ⊥) → is_true_on t (lit_at n to) ≡ false → is_true_on t y.lit ≡ true → Shifts slots w t place index p (record { slot = y.slot; lit = lit_at n to; other = lit_at n kept })
shifts_of slots w t place index y n q p b kept to g h is e qe rises be ke pe to_in ne untrue true_ = record {
  old = y;
  to = to;
  kept = kept;
  within = h;
  is_old = is;
  slot = refl;
  to_in = subst (λ (m : List Lit). to < length m) e to_in;
  kept_in = kept_in;
  apart = subst (λ (m : List Lit). lit_at m to ≡ lit_at m kept → ⊥) e (lits_apart n to kept rises to_in (subst (λ (m : List Lit). kept < length m) (sym e) kept_in) ne);
  lit = ap (λ (m : List Lit). lit_at m to) e;
  other = ap (λ (m : List Lit). lit_at m kept) e;
  untrue = untrue;
  was_true = true_;
  sides = sides b be ke pe;
}
  where
    sound : IsSound slots w.pairs.items y
    sound = g.watching.sound place y (index, h, sym is)

    within_of : (a : Bool) → kept ≡ cond a q.second q.first → kept < length (nogood_at slots y.slot)
    within_of true k = subst (λ (j : ℕ). j < length (nogood_at slots y.slot)) (sym (k ∙ ap (λ (r : Pair). r.second) qe)) sound.second
    within_of false k = subst (λ (j : ℕ). j < length (nogood_at slots y.slot)) (sym (k ∙ ap (λ (r : Pair). r.first) qe)) sound.first

    kept_in : kept < length (nogood_at slots y.slot)
    kept_in = within_of b ke

    own : same_lit (lit_at n q.first) y.lit ≡ same_lit (lit_at (nogood_at slots y.slot) (pair_at w.pairs.items y.slot).first) y.lit
    own = ap (λ (m : List Lit). same_lit (lit_at m q.first) y.lit) e ∙ ap (λ (r : Pair). same_lit (lit_at (nogood_at slots y.slot) r.first) y.lit) qe

    sides : (a : Bool) → a ≡ same_lit (lit_at n q.first) y.lit → kept ≡ cond a q.second q.first → p ≡ cond a (record { first = to; second = kept }) (record { first = kept; second = to }) → ((same_lit (lit_at (nogood_at slots y.slot) (pair_at w.pairs.items y.slot).first) y.lit ≡ true) × (kept ≡ (pair_at w.pairs.items y.slot).second) × (p ≡ record { first = to; second = kept })) ⊎ ((same_lit (lit_at (nogood_at slots y.slot) (pair_at w.pairs.items y.slot).first) y.lit ≡ false) × (kept ≡ (pair_at w.pairs.items y.slot).first) × (p ≡ record { first = kept; second = to }))
    sides true f k r = inl (sym own ∙ sym f, k ∙ ap (λ (v : Pair). v.second) qe, r)
    sides false f k r = inr (sym own ∙ sym f, k ∙ ap (λ (v : Pair). v.first) qe, r)

pub kept_within : (slots : List Slot) (w : Watching) (t : Assignment) (place index : ℕ) (y : Watch) (n : List Lit) (q : Pair) (b : Bool) (kept : ℕ) → IsWorking slots w t → index < length (list_at w.lists.items place) → y ≡ get_or (list_at w.lists.items place) index y → n ≡ nogood_at slots y.slot → q ≡ pair_at w.pairs.items y.slot → kept ≡ cond b q.second q.first → kept < length n
kept_within slots w t place index y n q true kept g h is e qe k =
    let sound = g.watching.sound place y (index, h, sym is) in
    subst (λ (m : List Lit). kept < length m) (sym e) (subst (λ (j : ℕ). j < length (nogood_at slots y.slot)) (sym (k ∙ ap (λ (r : Pair). r.second) qe)) sound.second)
kept_within slots w t place index y n q false kept g h is e qe k =
    let sound = g.watching.sound place y (index, h, sym is) in
    subst (λ (m : List Lit). kept < length m) (sym e) (subst (λ (j : ℕ). j < length (nogood_at slots y.slot)) (sym (k ∙ ap (λ (r : Pair). r.first) qe)) sound.first)

pub watch_sound : (slots : List Slot) (w : Watching) (t : Assignment) (place index : ℕ) (y : Watch) → IsWorking slots w t → index < length (list_at w.lists.items place) → y ≡ get_or (list_at w.lists.items place) index y → IsSound slots w.pairs.items y
watch_sound slots w t place index y g h is = g.watching.sound place y (index, h, sym is)

pub other_named : (slots : List Slot) (w : Watching) (t : Assignment) (place index : ℕ) (y : Watch) → IsWorking slots w t → index < length (list_at w.lists.items place) → y ≡ get_or (list_at w.lists.items place) index y → Names t.shape y.other
other_named slots w t place index y g h is =
    let sound = watch_sound slots w t place index y g h is in
    lit_named t.shape slots y.slot y.other g.named (omega (arith, sound.slot, g.pairs)) sound.other

pub nogood_named : (slots : List Slot) (w : Watching) (t : Assignment) (s : ℕ) (n : List Lit) → IsWorking slots w t → s < length slots → n ≡ nogood_at slots s → AllByRecursion (Names t.shape) n
nogood_named slots w t s n g h e = subst (AllByRecursion (Names t.shape)) (sym e) (named_own t.shape slots s (record { id = 0; nogood = [] }) g.named h)

-- at level 0 a fresh slot with a false literal is fresh no more
pub working_settled : (slots : List Slot) (w v : Watching) (t : Assignment) (index s : ℕ) (less : List ℕ) → IsWorking slots w t → index < length w.fresh.items → s ≡ get_or w.fresh.items index 0 → IsTaken w.fresh.items less index → t.level ≡ 0 → HasFalseOn t (nogood_at slots s) → v ≡ record w { fresh = v.fresh } → v.fresh.items ≡ less → IsWorking slots v t
working_settled slots w v t index s less g h is taken root has e fresh =
    working_changed slots w v t g (ap (λ (k : Watching). k.shape) e) (ap (λ (k : Watching). k.places) e) (ap (λ (k : Watching). k.low) e) (ap (λ (k : Watching). k.looked.items) e) (ap (λ (k : Watching). length k.lists.items) e) (ap (λ (k : Watching). length k.pairs.items) e)
    (subst (λ (ls : List (List Watch)). IsWatching (Working w.low (looks_of w.looked.items) (lits_of t.entries)) t.shape.ends slots (counts_of t.shape) ls v.pairs.items v.fresh.items) (sym (ap (λ (k : Watching). k.lists.items) e))
    (subst (λ (ps : List Pair). IsWatching (Working w.low (looks_of w.looked.items) (lits_of t.entries)) t.shape.ends slots (counts_of t.shape) w.lists.items ps v.fresh.items) (sym (ap (λ (k : Watching). k.pairs.items) e))
    (subst (λ (fs : List ℕ). IsWatching (Working w.low (looks_of w.looked.items) (lits_of t.entries)) t.shape.ends slots (counts_of t.shape) w.lists.items w.pairs.items fs) (sym fresh)
    (dropped (Working w.low (looks_of w.looked.items) (lits_of t.entries)) t.shape.ends slots (counts_of t.shape) w.lists.items w.pairs.items w.fresh.items less index s h is taken (inr settled) g.watching))))
  where
    settled : (b a : List Lit) → Working w.low (looks_of w.looked.items) (lits_of t.entries) b a → HasFalse t.shape.ends a (nogood_at slots s)
    settled b a (inl m) = absurd (omega (arith, m.1, m.2, g.low, root))
    settled b a (inr m) = subst (λ (ls : List Lit). HasFalse t.shape.ends ls (nogood_at slots s)) (sym m.1) has
