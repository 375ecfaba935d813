-- Looking at one watch of a list, and at one fresh slot.
use Rattle.std.proofs.Common.{◌≡◌, ℕ, ◌+◌, ◌<◌, ◌≤◌, ◌⊎◌, inl, inr, true, false, List, [], length, get_or, sym, ◌∙◌, ap, subst, arith}
use Rattle.std.specs.List.{Contains}
use Rattle.std.proofs.lemmas.List.Elements.{Contains-get_or}
use Rattle.literals.specs.declared.lit.Lit.{Lit}
use Rattle.literals.specs.declared.lit.Lit.TheVariants.{Atom}
use Rattle.literals.specs.Lits.{complement_of, implies_lit}
use Rattle.literals.specs.Nogoods.{Rises}
use Rattle.trail.specs.Assignment.{Assignment, IsAssignment, Names, is_true_on}
use Rattle.trail.specs.Growth.{Grows}
use Rattle.trail.specs.Forced.{OthersTrueOn}
use Rattle.nogood_store.specs.declared.slot.Slot.{Slot}
use Rattle.nogood_store.specs.declared.watch.Watch.{Watch}
use Rattle.nogood_store.specs.declared.watching.Pair.{Pair}
use Rattle.nogood_store.specs.declared.watching.Watching.{Watching}
use Rattle.nogood_store.specs.Propagation.{IsForced, IsConflict}
use Rattle.nogood_store.specs.Kept.{held_of, SlotsAscend}
use Rattle.nogood_store.specs.inner.Watching.{nogood_at, lit_at, pair_at, list_at, IsFreshAt, HasFalseOn, IsRecent, IsTaken, IsWorking, IsDone, AreDone, Attaches}
use Rattle.nogood_store.proofs.HeldLaws.{get_any}
use Rattle.nogood_store.proofs.Growing.{own_under}
use Rattle.nogood_store.proofs.Quiet.{lits_apart, false_untrue}
use Rattle.nogood_store.proofs.Lists.{fresh_done}
use Rattle.nogood_store.proofs.Moving.{read_named}
use Rattle.nogood_store.proofs.Working.{slot_nogood, done_one, done_grown, fresh_one, fresh_grown, others_true, all_true}

clash : {X : Type 0} → true ≡ false → X
clash h = cc

-- the row of a place, and a watch of it
pub row_is : (lists : List (List Watch)) (place : ℕ) (row : List Watch) → place < length lists → row ≡ get_or lists place row → row ≡ list_at lists place
row_is lists place row h e = e ∙ get_any lists place row [] h

pub watch_is : (lists : List (List Watch)) (place index : ℕ) (row : List Watch) (y : Watch) → place < length lists → row ≡ get_or lists place row → y ≡ get_or row index y → y ≡ get_or (list_at lists place) index y
watch_is lists place index row y h e f = f ∙ ap (λ (r : List Watch). get_or r index y) (row_is lists place row h e)

-- a watch that the literal does not imply
pub skip_unlike : (slots : List Slot) (lists : List (List Watch)) (t : Assignment) (place index : ℕ) (lit : Lit) (y : Watch) → index < length (list_at lists place) → y ≡ get_or (list_at lists place) index y → implies_lit lit y.lit ≡ false → IsDone slots lists t place lit (index + 1) → IsDone slots lists t place lit index
skip_unlike slots lists t place index lit y h is e done = done_one slots (list_at lists place) t lit index y h is (λ i. clash (sym i ∙ e)) done

-- one whose nogood has a false literal
pub skip_false : (slots : List Slot) (lists : List (List Watch)) (t : Assignment) (place index : ℕ) (lit : Lit) (y : Watch) (l : Lit) → index < length (list_at lists place) → y ≡ get_or (list_at lists place) index y → Contains (nogood_at slots y.slot) l → is_true_on t (complement_of l) ≡ true → IsDone slots lists t place lit (index + 1) → IsDone slots lists t place lit index
skip_false slots lists t place index lit y l h is c e done = done_one slots (list_at lists place) t lit index y h is (λ i. (l, c, e)) done

-- one whose nogood has a literal that became false
pub skip_closed : (slots : List Slot) (lists : List (List Watch)) (t u : Assignment) (place index : ℕ) (lit : Lit) (y : Watch) (l : Lit) → Grows (IsForced (held_of slots)) t u → index < length (list_at lists place) → y ≡ get_or (list_at lists place) index y → Contains (nogood_at slots y.slot) l → is_true_on u (complement_of l) ≡ true → IsDone slots lists t place lit (index + 1) → IsDone slots lists u place lit index
skip_closed slots lists t u place index lit y l g h is c e done = skip_false slots lists u place index lit y l h is c e (done_grown slots (list_at lists place) (held_of slots) t u lit (index + 1) g done)

-- a literal of the nogood that was read
pub read_among : (slots : List Slot) (s k : ℕ) (n : List Lit) → n ≡ nogood_at slots s → k < length n → Contains (nogood_at slots s) (lit_at n k)
read_among slots s k n e h = subst (λ (m : List Lit). Contains m (lit_at n k)) e (Contains-get_or n k (Atom 0 false) h)

pub lit_is : (n : List Lit) (k : ℕ) (l : Lit) → k < length n → l ≡ get_or n k l → l ≡ lit_at n k
lit_is n k l h e = e ∙ get_any n k l (Atom 0 false) h

-- the nogood of a slot whose literals are all true
pub met_conflict : (slots : List Slot) (s : ℕ) (r : Slot) (n : List Lit) (out : ℕ) (t : Assignment) → SlotsAscend slots → s < length slots → r ≡ get_or slots s r → n ≡ nogood_at slots s → length n ≤ out → ((k : ℕ) → k < length n → (d : Lit) → (k ≡ out → ⊥) → is_true_on t (get_or n k d) ≡ true) → IsConflict (held_of slots) t r.id
met_conflict slots s r n out t a h is e le all = record {
  nogood = r.nogood;
  is_held = own_under slots s r a h is;
  all_true = subst (λ (m : List Lit). (l : Lit) → Contains m l → is_true_on t l ≡ true) (e ∙ sym (slot_nogood slots s r h is)) (all_true t n out le all);
}

-- two literals that are watched from now on
pub attaches_two : (slots : List Slot) (w : Watching) (t : Assignment) (index s : ℕ) (n : List Lit) (i j : ℕ) → index < length w.fresh.items → s ≡ get_or w.fresh.items index 0 → n ≡ nogood_at slots s → Rises n → i < length n → j < length n → (j ≡ i → ⊥) → is_true_on t (lit_at n i) ≡ false → (is_true_on t (lit_at n j) ≡ false) ⊎ (IsRecent t (lit_at n j) × HasFalseOn t n) → Attaches slots w t index (record { first = i; second = j })
attaches_two slots w t index s n i j h is e rises hi hj ne one two =
    let own : n ≡ nogood_at slots (get_or w.fresh.items index 0) = e ∙ ap (λ (k : ℕ). nogood_at slots k) is in
    record {
      within = h;
      first = subst (λ (m : List Lit). i < length m) own hi;
      second = subst (λ (m : List Lit). j < length m) own hj;
      apart = subst (λ (m : List Lit). lit_at m i ≡ lit_at m j → ⊥) own (lits_apart n i j rises hi hj (λ f. ne (sym f)));
      one = subst (λ (m : List Lit). is_true_on t (lit_at m i) ≡ false) own one;
      two = subst (λ (m : List Lit). (is_true_on t (lit_at m j) ≡ false) ⊎ (IsRecent t (lit_at m j) × HasFalseOn t m)) own two;
    }

-- a nogood with a literal that became false
pub closed_false : (slots : List Slot) (t : Assignment) (s k : ℕ) (n : List Lit) → n ≡ nogood_at slots s → k < length n → is_true_on t (complement_of (lit_at n k)) ≡ true → HasFalseOn t (nogood_at slots s)
closed_false slots t s k n e h f = (lit_at n k, read_among slots s k n e h, f)

pub fresh_closed : (slots : List Slot) (fresh : List ℕ) (t u : Assignment) (index s : ℕ) → Grows (IsForced (held_of slots)) t u → s ≡ get_or fresh index 0 → HasFalseOn u (nogood_at slots s) → AreDone slots fresh t (index + 1) → AreDone slots fresh u index
fresh_closed slots fresh t u index s g is has done = fresh_one slots fresh u index s is has (fresh_grown slots fresh (held_of slots) t u (index + 1) g done)

pub fresh_later : (slots : List Slot) (fresh : List ℕ) (t : Assignment) (index : ℕ) → AreDone slots fresh t index → AreDone slots fresh t (index + 1)
fresh_later slots fresh t index done k le lt = done k (omega (arith, le)) lt

-- a fresh slot that is settled
pub settled_done : (slots : List Slot) (fresh less : List ℕ) (t : Assignment) (index : ℕ) → IsTaken fresh less index → AreDone slots fresh t index → AreDone slots less t index
settled_done slots fresh less t index taken done = fresh_done slots fresh less t index taken (fresh_later slots fresh t index done)

pub fresh_is : (fresh : List ℕ) (index s : ℕ) → index < length fresh → s ≡ get_or fresh index s → s ≡ get_or fresh index 0
fresh_is fresh index s h e = e ∙ get_any fresh index s 0 h

-- a list that was read stands for the nogood
pub others_read : (t : Assignment) (slots : List Slot) (s kept : ℕ) (n : List Lit) → n ≡ nogood_at slots s → kept < length n → ((k : ℕ) → k < length n → (d : Lit) → (k ≡ kept → ⊥) → is_true_on t (get_or n k d) ≡ true) → OthersTrueOn t (nogood_at slots s) (lit_at n kept)
others_read t slots s kept n e h all = subst (λ (m : List Lit). OthersTrueOn t m (lit_at n kept)) e (others_true t n kept h all)

pub others_at : (t : Assignment) (slots : List Slot) (s kept : ℕ) (n : List Lit) → n ≡ nogood_at slots s → kept < length n → ((k : ℕ) → k < length n → (d : Lit) → (k ≡ kept → ⊥) → is_true_on t (get_or n k d) ≡ true) → OthersTrueOn t (nogood_at slots s) (lit_at (nogood_at slots s) kept)
others_at t slots s kept n e h all = subst (λ (m : List Lit). OthersTrueOn t m (lit_at m kept)) e (others_true t n kept h all)

pub attaches_false : (slots : List Slot) (w : Watching) (t : Assignment) (index s : ℕ) (n : List Lit) (i j : ℕ) → IsAssignment t → IsFreshAt slots w index s → n ≡ nogood_at slots s → Rises n → i < length (nogood_at slots s) → is_true_on t (complement_of (lit_at (nogood_at slots s) i)) ≡ true → (j < length n) × (j ≡ i → ⊥) × ((d : Lit) → IsRecent t (get_or n j d)) → Attaches slots w t index (record { first = i; second = j })
attaches_false slots w t index s n i j a f e rises hi shut r =
    let within : i < length n = subst (λ (m : List Lit). i < length m) (sym e) hi in
    let here : is_true_on t (complement_of (lit_at n i)) ≡ true = subst (λ (m : List Lit). is_true_on t (complement_of (lit_at m i)) ≡ true) (sym e) shut in
    attaches_two slots w t index s n i j f.within f.is e rises within r.0 r.1 (false_untrue t (lit_at n i) a here)
    (inr (r.2 (Atom 0 false), (lit_at n i, Contains-get_or n i (Atom 0 false) within, here)))

pub attaches_open : (slots : List Slot) (w : Watching) (t : Assignment) (index s : ℕ) (n : List Lit) (i j : ℕ) → IsFreshAt slots w index s → n ≡ nogood_at slots s → Rises n → i < length (nogood_at slots s) → is_true_on t (lit_at (nogood_at slots s) i) ≡ false → (j < length n) × (j ≡ i → ⊥) × ((d : Lit) → is_true_on t (get_or n j d) ≡ false) → Attaches slots w t index (record { first = i; second = j })
attaches_open slots w t index s n i j f e rises hi open_ r =
    attaches_two slots w t index s n i j f.within f.is e rises
    (subst (λ (m : List Lit). i < length m) (sym e) hi) r.0 r.1
    (subst (λ (m : List Lit). is_true_on t (lit_at m i) ≡ false) (sym e) open_)
    (inl (r.2 (Atom 0 false)))

pub shut_false : (slots : List Slot) (t : Assignment) (s i : ℕ) → i < length (nogood_at slots s) → is_true_on t (complement_of (lit_at (nogood_at slots s) i)) ≡ true → HasFalseOn t (nogood_at slots s)
shut_false slots t s i h e = (lit_at (nogood_at slots s) i, Contains-get_or (nogood_at slots s) i (Atom 0 false) h, e)

pub first_in : (slots : List Slot) (s : ℕ) (n : List Lit) (q : Pair) (pairs : List Pair) → n ≡ nogood_at slots s → (pair_at pairs s).first < length (nogood_at slots s) → q ≡ pair_at pairs s → q.first < length n
first_in slots s n q pairs e h is = subst (λ (m : List Lit). q.first < length m) (sym e) (subst (λ (p : Pair). p.first < length (nogood_at slots s)) (sym is) h)

pub pair_is : (pairs : List Pair) (s : ℕ) (q : Pair) → s < length pairs → q ≡ get_or pairs s q → q ≡ pair_at pairs s
pair_is pairs s q h e = e ∙ get_any pairs s q (record { first = 0; second = 0 }) h

pub read_names : (slots : List Slot) (w : Watching) (t : Assignment) (s k : ℕ) (n : List Lit) → IsWorking slots w t → s < length slots → n ≡ nogood_at slots s → k < length n → Names t.shape (lit_at n k)
read_names slots w t s k n g h e l = read_named slots w t s k n g h e (subst (λ (m : List Lit). k < length m) e l)
