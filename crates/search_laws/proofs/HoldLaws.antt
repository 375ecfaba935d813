-- One more nogood is held: what stays, and what is known then.
use Rattle.std.proofs.Common.{◌≡◌, ℕ, zero, suc, ◌+◌, ◌<◌, ◌≤◌, ◌==◌, ◌||◌, cond, Bool, true, false, List, [], ◌∷◌, ◌++◌, length, Some, refl, sym, ◌∙◌, ap, arith, append_assoc, get_or}
use Rattle.std.specs.List.{AllByRecursion, Contains, list_any}
use Rattle.std.proofs.lemmas.Bool.Decides.{nat_tests}
use Rattle.literals.specs.declared.lit.Lit.{Lit}
use Rattle.ground_model.specs.declared.answer.Answer.{Answer}
use Rattle.ground_model.specs.declared.program.GroundProgram.{GroundProgram}
use Rattle.trail.specs.declared.shape.Shape.{Shape}
use Rattle.trail.specs.declared.entry.Entry.{Entry}
use Rattle.trail.specs.Assignment.{Names}
use Rattle.nogood_store.specs.Holding.{Held, Seen, nogood_under, AreBelow, IsHeld, IsFront, seen_of, numbered_from}
use Rattle.nogood_store.specs.Propagation.{AllNamed}
use Rattle.derivation_meaning.specs.State.{holds_empty, is_empty}
use Rattle.derivation_meaning.specs.Lines.{answer_nogood}
use Rattle.learning.specs.declared.known.Given.{Given}
use Rattle.learning.specs.Known.{Known, state_of, AreListed}
use Rattle.learning.specs.Learning.{AreNumbered}

-- LISTS

pub all_push : {X : Type 0} (P : X → Type 0) (xs : List X) (x : X) → AllByRecursion P xs → P x → AllByRecursion P (xs ++ x ∷ [])
all_push P [] x a p = (p, tt)
all_push P (y ∷ ys) x a p = (a.0, all_push P ys x a.1 p)

pub all_map : {X : Type 0} (P Q : X → Type 0) (xs : List X) → ((x : X) → P x → Q x) → AllByRecursion P xs → AllByRecursion Q xs
all_map P Q [] f a = tt
all_map P Q (x ∷ xs) f a = (f x a.0, all_map P Q xs f a.1)

contains_here : {X : Type 0} (z x : X) (zs : List X) → z ≡ x → Contains (z ∷ zs) x
contains_here z x zs e = (0, omega arith, e)

contains_next : {X : Type 0} (z x : X) (zs : List X) → Contains zs x → Contains (z ∷ zs) x
contains_next z x zs c = let lt = c.1 in (suc c.0, omega (arith, lt), c.2)

contains_at : {X : Type 0} (xs ys : List X) (x : X) (k : ℕ) → k < length xs → get_or xs k x ≡ x → Contains (xs ++ ys) x
contains_at [] ys x k lt e = absurd (omega (arith, lt))
contains_at (z ∷ zs) ys x zero lt e = contains_here z x (zs ++ ys) e
contains_at (z ∷ zs) ys x (suc k) lt e = contains_next z x (zs ++ ys) (contains_at zs ys x k (omega (arith, lt)) e)

contains_more : {X : Type 0} (xs ys : List X) (x : X) → Contains xs x → Contains (xs ++ ys) x
contains_more xs ys x c = contains_at xs ys x c.0 c.1 c.2

-- HELD NOGOODS

pub held_more : (held : List Held) (h : Held) (nogoods : List (List Lit)) → AllByRecursion (IsHeld held) nogoods → AllByRecursion (IsHeld (held ++ h ∷ [])) nogoods
held_more held h nogoods a = all_map (IsHeld held) (IsHeld (held ++ h ∷ [])) nogoods (λ n i. (i.0, contains_more held (h ∷ []) i.0 i.1, i.2)) a

under_more : (held more : List Held) (id : ℕ) (n : List Lit) → nogood_under held id ≡ Some n → nogood_under (held ++ more) id ≡ Some n
under_more [] more id n e = absurd (cc)
under_more (h ∷ hs) more id n e = by_id (h.id == id) e (under_more hs more id n)
  where
    by_id : (b : Bool) → cond b (Some h.nogood) (nogood_under hs id) ≡ Some n → (nogood_under hs id ≡ Some n → nogood_under (hs ++ more) id ≡ Some n)
        → cond b (Some h.nogood) (nogood_under (hs ++ more) id) ≡ Some n
    by_id true f rest = f
    by_id false f rest = rest f

under_last : (held : List Held) (h : Held) → AreBelow h.id held → nogood_under (held ++ h ∷ []) h.id ≡ Some h.nogood
under_last [] h a = let own : (h.id == h.id) ≡ true = grind (arith, nat_tests) in rw own refl
under_last (g ∷ gs) h a = let low = a.0 in let other : (g.id == h.id) ≡ false = grind (arith, nat_tests, low) in rw other (under_last gs h a.1)

pub listed_more : (program : GroundProgram) (held : List Held) (h : Held) (given : List Given) → AreListed program held given → AreListed program (held ++ h ∷ []) given
listed_more program held h given a =
    all_map (λ (g : Given). nogood_under held g.id ≡ Some (answer_nogood program g.answer)) (λ g. nogood_under (held ++ h ∷ []) g.id ≡ Some (answer_nogood program g.answer)) given
    (λ g e. under_more held (h ∷ []) g.id (answer_nogood program g.answer) e) a

pub listed_given : (program : GroundProgram) (held : List Held) (id : ℕ) (answer : Answer) (given : List Given) → AreBelow id held → AreListed program held given
    → AreListed program (held ++ record { id = id; nogood = answer_nogood program answer } ∷ []) (given ++ record { id = id; answer = answer } ∷ [])
listed_given program held id answer given below a =
    let h : Held = record { id = id; nogood = answer_nogood program answer } in
    all_push (λ (g : Given). nogood_under (held ++ h ∷ []) g.id ≡ Some (answer_nogood program g.answer)) given (record { id = id; answer = answer }) (listed_more program held h given a) (under_last held h below)

-- NUMBERS

pub below_up : (held : List Held) (low high : ℕ) → low ≤ high → AreBelow low held → AreBelow high held
below_up held low high le a = all_map (λ (h : Held). h.id < low) (λ h. h.id < high) held (λ h lt. omega (arith, lt, le)) a

given_up : (given : List Given) (low high : ℕ) → low ≤ high → AllByRecursion (λ (g : Given). g.id < low) given → AllByRecursion (λ (g : Given). g.id < high) given
given_up given low high le a = all_map (λ (g : Given). g.id < low) (λ g. g.id < high) given (λ g lt. omega (arith, lt, le)) a

-- after a lesson under this id
pub numbered_learned : (known : Known) (held : List Held) (id : ℕ) (nogood : List Lit) → known.next ≤ id → AreNumbered known held
    → AreNumbered (record known { next = id + 1 }) (held ++ record { id = id; nogood = nogood } ∷ [])
numbered_learned known held id nogood le a =
    let low = a.inputs in
    record {
      inputs = omega (arith, low, le);
      given = given_up known.given known.next (id + 1) (omega (arith, le)) a.given;
      below = all_push (λ (h : Held). h.id < id + 1) held (record { id = id; nogood = nogood }) (below_up held known.next (id + 1) (omega (arith, le)) a.below) (omega arith);
    }

-- after an answer under the next id
pub numbered_given : (known : Known) (held : List Held) (id : ℕ) (nogood : List Lit) (answer : Answer) → known.next ≡ id → AreNumbered known held
    → AreNumbered (record known { next = id + 1; given = known.given ++ record { id = id; answer = answer } ∷ [] }) (held ++ record { id = id; nogood = nogood } ∷ [])
numbered_given known held id nogood answer e a =
    let low = a.inputs in
    record {
      inputs = omega (arith, low, e);
      given = all_push (λ (g : Given). g.id < id + 1) known.given (record { id = id; answer = answer }) (given_up known.given known.next (id + 1) (omega (arith, e)) a.given) (omega arith);
      below = all_push (λ (h : Held). h.id < id + 1) held (record { id = id; nogood = nogood }) (below_up held known.next (id + 1) (omega (arith, e)) a.below) (omega arith);
    }

-- THE EMPTY NOGOOD

abbrev pub has_empty : List Held → Bool
has_empty held = list_any (λ h. is_empty h.nogood) held

pub holds_held : (held : List Held) (known : Known) → holds_empty (state_of held known) ≡ has_empty held
holds_held [] known = refl
holds_held (h ∷ hs) known = ap (λ b. is_empty h.nogood || b) (holds_held hs known)

empty_push : (held : List Held) (h : Held) → has_empty held ≡ false → has_empty (held ++ h ∷ []) ≡ is_empty h.nogood
empty_push [] h e = off (is_empty h.nogood)
  where
    off : (b : Bool) → (b || false) ≡ b
    off true = refl
    off false = refl
empty_push (g ∷ gs) h e = by_first (is_empty g.nogood) e (empty_push gs h)
  where
    by_first : (b : Bool) → (b || has_empty gs) ≡ false → (has_empty gs ≡ false → has_empty (gs ++ h ∷ []) ≡ is_empty h.nogood) → (b || has_empty (gs ++ h ∷ [])) ≡ is_empty h.nogood
    by_first true f rest = let no : true ≡ false = f in absurd (cc)
    by_first false f rest = rest f

-- where it was not held, it is held where this nogood is empty
pub closed_push : (held : List Held) (known after : Known) (h : Held) → holds_empty (state_of held known) ≡ false → is_empty h.nogood ≡ holds_empty (state_of (held ++ h ∷ []) after)
closed_push held known after h e = sym (holds_held (held ++ h ∷ []) after ∙ empty_push held h (sym (holds_held held known) ∙ e))

empty_from : (n : ℕ) (nogoods : List (List Lit)) → has_empty (numbered_from n nogoods) ≡ list_any is_empty nogoods
empty_from n [] = refl
empty_from n (x ∷ xs) = ap (λ b. is_empty x || b) (empty_from (suc n) xs)

pub closed_first : (known : Known) (nogoods : List (List Lit)) → list_any is_empty nogoods ≡ holds_empty (state_of (numbered_from 1 nogoods) known)
closed_first known nogoods = sym (holds_held (numbered_from 1 nogoods) known ∙ empty_from 1 nogoods)

empty_length : (lits : List Lit) → (length lits == 0) ≡ is_empty lits
empty_length [] = refl
empty_length (x ∷ xs) = grind (arith, nat_tests)

-- a nogood is empty where its length is 0
pub empty_test : (b : Bool) (xs lits : List Lit) → b ≡ (length xs == 0) → xs ≡ lits → b ≡ is_empty lits
empty_test b xs lits e f = e ∙ empty_length xs ∙ ap is_empty f

-- THE INPUT NOGOODS

from_held : (n : ℕ) (nogoods : List (List Lit)) (k : ℕ) → AllByRecursion (λ h. h.id < n + length nogoods + k) (numbered_from n nogoods)
from_held n [] k = tt
from_held n (x ∷ xs) k =
    (omega arith, all_map (λ (h : Held). h.id < suc n + length xs + k) (λ h. h.id < n + length (x ∷ xs) + k) (numbered_from (suc n) xs) (λ h lt. omega (arith, lt)) (from_held (suc n) xs k))

pub first_below : (nogoods : List (List Lit)) → AreBelow (1 + length nogoods) (numbered_from 1 nogoods)
first_below nogoods = all_map (λ (h : Held). h.id < 1 + length nogoods + 0) (λ h. h.id < 1 + length nogoods) (numbered_from 1 nogoods) (λ h lt. omega (arith, lt)) (from_held 1 nogoods 0)

pub first_held : (n : ℕ) (nogoods : List (List Lit)) → AllByRecursion (IsHeld (numbered_from n nogoods)) nogoods
first_held n [] = tt
first_held n (x ∷ xs) =
    let h : Held = record { id = n; nogood = x } in (
      (h, contains_here h h (numbered_from (suc n) xs) refl, refl),
      all_map (IsHeld (numbered_from (suc n) xs)) (IsHeld (numbered_from n (x ∷ xs))) xs (λ m i. (i.0, contains_next h i.0 (numbered_from (suc n) xs) i.1, i.2)) (first_held (suc n) xs),
    )

pub first_named : (s : Shape) (n : ℕ) (nogoods : List (List Lit)) → AllByRecursion (AllByRecursion (Names s)) nogoods → AllNamed s (numbered_from n nogoods)
first_named s n [] a = tt
first_named s n (x ∷ xs) a = (a.0, first_named s (suc n) xs a.1)

-- WHAT THE STORE HAS LOOKED AT

seen_append : (es more : List Entry) → seen_of (es ++ more) ≡ seen_of es ++ seen_of more
seen_append [] more = refl
seen_append (e ∷ es) more = ap (λ xs. record { lit = e.lit; level = e.level } ∷ xs) (seen_append es more)

pub front_more : (looked : List Seen) (es more : List Entry) → IsFront looked (seen_of es) → IsFront looked (seen_of (es ++ more))
front_more looked es more f = (f.0 ++ seen_of more, seen_append es more ∙ ap (λ xs. xs ++ seen_of more) f.1 ∙ append_assoc looked f.0 (seen_of more))

pub front_none : (looked : List Seen) (entries : List Entry) → looked ≡ [] → IsFront looked (seen_of entries)
front_none looked entries e = (seen_of entries, sym (ap (λ xs. xs ++ seen_of entries) e))
