-- Nogoods under ids, in slots and as callers see them.
use Rattle.std.proofs.Common.{◌≡◌, ℕ, zero, suc, ◌+◌, ◌<◌, ◌≤◌, ◌==◌, Bool, true, false, cond, List, [], ◌∷◌, ◌++◌, length, get_or, None, Some, refl, sym, ◌∙◌, ap, arith, append_assoc}
use Rattle.std.specs.List.{AllByRecursion}
use Rattle.std.proofs.lemmas.Bool.Decides.{nat_tests}
use Rattle.std.specs.Prelude.{reverse, nat_lt}
use Rattle.std.proofs.lemmas.List.{reverse-append}
use Rattle.literals.specs.declared.lit.Lit.{Lit}
use Rattle.literals.specs.contracts.nogood.NogoodPartialEq.TheImpl.{ghosts as of_nogood}
use Rattle.literals.proofs.KeyLaws.{nogoods_decide}
use Rattle.nogood_store.specs.declared.slot.Slot.{Slot}
use Rattle.nogood_store.specs.Holding.{Held, nogood_under, Ascends, AreBelow, numbered_from, IsHeld}
use Rattle.nogood_store.specs.Kept.{held_of, SlotsAscend}

pub all_at : {X : Type 0} (P : X → Type 0) (xs : List X) (i : ℕ) (d : X) → AllByRecursion P xs → i < length xs → P (get_or xs i d)
all_at P [] i d a h = absurd (omega arith)
all_at P (x ∷ xs) zero d a h = a.0
all_at P (x ∷ xs) (suc i) d a h = all_at P xs i d a.1 (omega arith)

pub get_any : {X : Type 0} (xs : List X) (i : ℕ) (d e : X) → i < length xs → get_or xs i d ≡ get_or xs i e
get_any [] i d e h = absurd (omega arith)
get_any (x ∷ xs) zero d e h = refl
get_any (x ∷ xs) (suc i) d e h = get_any xs i d e (omega arith)

all_map : {X : Type 0} (P Q : X → Type 0) (xs : List X) → ((x : X) → P x → Q x) → AllByRecursion P xs → AllByRecursion Q xs
all_map P Q [] f a = tt
all_map P Q (x ∷ xs) f a = (f x a.0, all_map P Q xs f a.1)

all_push : {X : Type 0} (P : X → Type 0) (xs : List X) (x : X) → AllByRecursion P xs → P x → AllByRecursion P (xs ++ x ∷ [])
all_push P [] x a p = (p, tt)
all_push P (y ∷ ys) x a p = (a.0, all_push P ys x a.1 p)

eq_own : (n : ℕ) → (n == n) ≡ true
eq_own n = grind (arith, nat_tests)

eq_apart : (n m : ℕ) → n < m → (n == m) ≡ false
eq_apart n m h = grind (arith, nat_tests)

-- what stands under an id
pub under_found : (slots : List Slot) (i : ℕ) (d : Slot) → SlotsAscend slots → i < length slots → nogood_under (held_of slots) (get_or slots i d).id ≡ Some (get_or slots i d).nogood
under_found [] i d a h = absurd (omega arith)
under_found (s ∷ ss) zero d a h = rw (eq_own s.id) refl
under_found (s ∷ ss) (suc i) d a h = rw (eq_apart s.id (get_or ss i d).id (all_at (λ r. s.id < r.id) ss i d a.0 (omega arith))) (under_found ss i d a.1 (omega arith))

pub found_under : (slots : List Slot) (id i : ℕ) (d e : Slot) → SlotsAscend slots → i < length slots → (get_or slots i d).id ≡ id → Some (get_or slots i e).nogood ≡ nogood_under (held_of slots) id
found_under slots id i d e a h same =
    sym (under_found slots i e a h) ∙ ap (nogood_under (held_of slots)) (ap (λ (s : Slot). s.id) (get_any slots i e d h) ∙ same)

under_none : (slots : List Slot) (id : ℕ) (d : Slot) → ((i : ℕ) → i < length slots → (get_or slots i d).id ≡ id → ⊥) → nogood_under (held_of slots) id ≡ None
under_none [] id d f = refl
under_none (s ∷ ss) id d f = cases (s.id == id) refl (under_none ss id d (λ i h e. f (suc i) (omega arith) e))
  where
    cases : (b : Bool) → (s.id == id) ≡ b → nogood_under (held_of ss) id ≡ None → cond b (Some s.nogood) (nogood_under (held_of ss) id) ≡ None
    cases true e h = absurd (f 0 (omega arith) (grind (arith, nat_tests)))
    cases false e h = h

pub slots_rise : (slots : List Slot) (i j : ℕ) (d : Slot) → SlotsAscend slots → i < j → j < length slots → (get_or slots i d).id < (get_or slots j d).id
slots_rise [] i j d a h l = absurd (omega arith)
slots_rise (s ∷ ss) zero zero d a h l = absurd (omega arith)
slots_rise (s ∷ ss) zero (suc j) d a h l = all_at (λ r. s.id < r.id) ss j d a.0 (omega arith)
slots_rise (s ∷ ss) (suc i) zero d a h l = absurd (omega arith)
slots_rise (s ∷ ss) (suc i) (suc j) d a h l = slots_rise ss i j d a.1 (omega arith) (omega arith)

slots_order : (slots : List Slot) (i j : ℕ) (d : Slot) → SlotsAscend slots → i ≤ j → j < length slots → (get_or slots i d).id ≤ (get_or slots j d).id
slots_order [] i j d a h l = absurd (omega arith)
slots_order (s ∷ ss) zero zero d a h l = omega arith
slots_order (s ∷ ss) zero (suc j) d a h l = let less : s.id < (get_or ss j d).id = all_at (λ r. s.id < r.id) ss j d a.0 (omega arith) in omega arith
slots_order (s ∷ ss) (suc i) zero d a h l = absurd (omega arith)
slots_order (s ∷ ss) (suc i) (suc j) d a h l = slots_order ss i j d a.1 (omega arith) (omega arith)

-- one step of the search for an id
pub search_up : (slots : List Slot) (id middle : ℕ) (e : Slot) → SlotsAscend slots → middle < length slots → (get_or slots middle e).id < id → (k : ℕ) (d : Slot) → k < middle + 1 → (get_or slots k d).id < id
search_up slots id middle e a h t k d l =
    let order : (get_or slots k d).id ≤ (get_or slots middle d).id = slots_order slots k middle d a (omega arith) h in
    let same : (get_or slots middle d).id ≡ (get_or slots middle e).id = ap (λ (s : Slot). s.id) (get_any slots middle d e h) in
    omega arith

pub search_down : (slots : List Slot) (id middle : ℕ) (e : Slot) → SlotsAscend slots → middle < length slots → id ≤ (get_or slots middle e).id → (k : ℕ) (d : Slot) → middle ≤ k → k < length slots → id ≤ (get_or slots k d).id
search_down slots id middle e a h t k d l m =
    let order : (get_or slots middle d).id ≤ (get_or slots k d).id = slots_order slots middle k d a l m in
    let same : (get_or slots middle d).id ≡ (get_or slots middle e).id = ap (λ (s : Slot). s.id) (get_any slots middle d e h) in
    omega arith

pub search_ends : (slots : List Slot) (id low : ℕ) (e : Slot) → SlotsAscend slots → ((k : ℕ) (d : Slot) → k < low → (get_or slots k d).id < id) → ((k : ℕ) (d : Slot) → low ≤ k → k < length slots → id ≤ (get_or slots k d).id) → (low < length slots → (get_or slots low e).id ≡ id → ⊥) → nogood_under (held_of slots) id ≡ None
search_ends slots id low e a below above other = under_none slots id e (λ i h same. apart i h same (nat_lt i low) refl (nat_lt low i) refl)
  where
    apart : (i : ℕ) → i < length slots → (get_or slots i e).id ≡ id → (b : Bool) → nat_lt i low ≡ b → (c : Bool) → nat_lt low i ≡ c → ⊥
    apart i h same true f c g =
        let less : i < low = grind (arith, nat_tests) in
        let under : (get_or slots i e).id < id = below i e less in
        omega arith
    apart i h same false f true g =
        let more : low < i = grind (arith, nat_tests) in
        let first : id ≤ (get_or slots low e).id = above low e (omega arith) (omega arith) in
        let rise : (get_or slots low e).id < (get_or slots i e).id = slots_rise slots low i e a more h in
        omega arith
    apart i h same false f false g =
        let here : i ≡ low = grind (arith, nat_tests) in
        other (omega arith) (ap (λ k. (get_or slots k e).id) (sym here) ∙ same)

-- ids ascend as callers see them
behind : (id : ℕ) (slots : List Slot) → AllByRecursion (λ r. id < r.id) slots → AllByRecursion (λ h. id < h.id) (held_of slots)
behind id [] a = tt
behind id (s ∷ ss) a = (a.0, behind id ss a.1)

pub held_ascends : (slots : List Slot) → SlotsAscend slots → Ascends (held_of slots)
held_ascends [] a = tt
held_ascends (s ∷ ss) a = (behind s.id ss a.0, held_ascends ss a.1)

slots_below : (id : ℕ) (slots : List Slot) → AreBelow id (held_of slots) → AllByRecursion (λ r. r.id < id) slots
slots_below id [] a = tt
slots_below id (s ∷ ss) a = (a.0, slots_below id ss a.1)

ascend_push : (slots : List Slot) (s : Slot) → SlotsAscend slots → AllByRecursion (λ r. r.id < s.id) slots → SlotsAscend (slots ++ s ∷ [])
ascend_push [] s a b = (tt, tt)
ascend_push (r ∷ rs) s a b = (all_push (λ q. r.id < q.id) rs s a.0 b.0, ascend_push rs s a.1 b.1)

-- one more nogood, under an id above the others
pub held_push : (slots : List Slot) (s : Slot) → held_of (slots ++ s ∷ []) ≡ held_of slots ++ record { id = s.id; nogood = s.nogood } ∷ []
held_push [] s = refl
held_push (r ∷ rs) s = ap (λ (hs : List Held). record { id = r.id; nogood = r.nogood } ∷ hs) (held_push rs s)

pub slots_added : (slots : List Slot) (s : Slot) → SlotsAscend slots → AreBelow s.id (held_of slots) → SlotsAscend (slots ++ s ∷ [])
slots_added slots s a b = ascend_push slots s a (slots_below s.id slots b)

-- what the scan for a nogood finds
pub held_there : (slots : List Slot) (i : ℕ) (r : Slot) (n : List Lit) → i < length slots → r ≡ get_or slots i r → of_nogood.eq r.nogood n ≡ true → IsHeld (held_of slots) n
held_there slots i r n h is e = (record { id = r.id; nogood = r.nogood }, (i, within slots i h, at r slots i h is), (nogoods_decide r.nogood n).0 e)
  where
    within : (ss : List Slot) (k : ℕ) → k < length ss → k < length (held_of ss)
    within [] k l = absurd (omega arith)
    within (s ∷ ss) zero l = omega arith
    within (s ∷ ss) (suc k) l = let less = within ss k (omega arith) in omega arith

    at : (r : Slot) (ss : List Slot) (k : ℕ) → k < length ss → r ≡ get_or ss k r → get_or (held_of ss) k (record { id = r.id; nogood = r.nogood }) ≡ record { id = r.id; nogood = r.nogood }
    at r [] k l e = absurd (omega arith)
    at r (s ∷ ss) zero l e = ap (λ (q : Slot). record { id = q.id; nogood = q.nogood }) (sym e)
    at r (s ∷ ss) (suc k) l e = at r ss k (omega arith) e

pub held_nowhere : (slots : List Slot) (n : List Lit) (i : ℕ) → length slots ≤ i → ((k : ℕ) (d : Slot) → k < i → k < length slots → of_nogood.eq (get_or slots k d).nogood n ≡ false) → IsHeld (held_of slots) n → ⊥
held_nowhere slots n i h none held =
    let g : Held = held.0 in
    let d : Slot = record { id = 0; nogood = [] } in
    let k : ℕ = held.1.0 in
    let own : (ss : List Slot) (j : ℕ) → j < length (held_of ss) → (j < length ss) × ((get_or (held_of ss) j g).nogood ≡ (get_or ss j d).nogood) = go g d in
    let there = own slots k held.1.1 in
    let same : (get_or slots k d).nogood ≡ n = sym there.1 ∙ ap (λ (e : Held). e.nogood) held.1.2 ∙ held.2 in
    let yes_ : true ≡ false = sym ((nogoods_decide (get_or slots k d).nogood n).1 same) ∙ none k d (omega (arith, there.0)) there.0 in
    cc
  where
    go : (g : Held) (d : Slot) (ss : List Slot) (j : ℕ) → j < length (held_of ss) → (j < length ss) × ((get_or (held_of ss) j g).nogood ≡ (get_or ss j d).nogood)
    go g d [] j l = absurd (omega arith)
    go g d (s ∷ ss) zero l = (omega arith, refl)
    go g d (s ∷ ss) (suc j) l = let rest = go g d ss j (omega arith) in (omega (arith, rest.0), rest.1)

-- ids from one on
pub below_next : (id : ℕ) (hs : List Held) → AreBelow id hs → AreBelow (id + 1) hs
below_next id hs a = all_map (λ h. h.id < id) (λ h. h.id < id + 1) hs (λ h l. omega arith) a

pub below_push : (id : ℕ) (hs : List Held) (n : List Lit) → AreBelow id hs → AreBelow (id + 1) (hs ++ record { id = id; nogood = n } ∷ [])
below_push id hs n a = all_push (λ h. h.id < id + 1) hs (record { id = id; nogood = n }) (below_next id hs a) (omega arith)

-- a list taken from its end, turned
pub turned : {X : Type 0} (xs ys : List X) (x : X) → xs ≡ ys ++ x ∷ [] → reverse xs ≡ x ∷ reverse ys
turned xs ys x e = ap reverse e ∙ reverse-append ys (x ∷ [])

pub turned_on : {X : Type 0} (all other xs ys : List X) (x : X) → all ≡ other ++ reverse xs → xs ≡ ys ++ x ∷ [] → all ≡ (other ++ x ∷ []) ++ reverse ys
turned_on all other xs ys x h e = h ∙ ap (λ zs. other ++ zs) (turned xs ys x e) ∙ sym (append_assoc other (x ∷ []) (reverse ys))

pub filled_on : (all held : List Held) (id : ℕ) (rest less : List (List Lit)) (n : List Lit) → all ≡ held ++ numbered_from (id + 1) (reverse rest) → rest ≡ less ++ n ∷ [] → all ≡ (held ++ record { id = id + 1; nogood = n } ∷ []) ++ numbered_from (id + 1 + 1) (reverse less)
filled_on all held id rest less n h e =
    let one : suc (id + 1) ≡ id + 1 + 1 = omega arith in
    h
    ∙ ap (λ ns. held ++ numbered_from (id + 1) ns) (turned rest less n e)
    ∙ ap (λ k. held ++ record { id = id + 1; nogood = n } ∷ numbered_from k (reverse less)) one
    ∙ sym (append_assoc held (record { id = id + 1; nogood = n } ∷ []) (numbered_from (id + 1 + 1) (reverse less)))
