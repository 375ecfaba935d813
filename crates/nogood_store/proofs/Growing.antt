-- How a trail grows by what held nogoods force.
use Rattle.std.proofs.Common.{◌≡◌, ℕ, ◌<◌, ◌≤◌, true, false, List, [], ◌∷◌, ◌++◌, length, get_or, None, Some, refl, sym, ◌∙◌, ap, subst, arith, zero, suc, append_assoc}
use Rattle.std.specs.List.{AllByRecursion}
use Rattle.std.proofs.lemmas.Int.{ints}
use Rattle.literals.specs.declared.lit.Lit.{Lit}
use Rattle.literals.specs.declared.lit.Lit.TheVariants.{Atom, Body, Constraint, AtMost, AtLeast}
use Rattle.literals.specs.Lits.{IsLit, complement_of}
use Rattle.literals.proofs.LitLaws.{complement-complement}
use Rattle.trail.specs.declared.shape.Shape.{Shape}
use Rattle.trail.specs.declared.entry.Entry.{Entry}
use Rattle.trail.specs.declared.entry.Why.{Why}
use Rattle.trail.specs.declared.entry.Placed.{Placed}
use Rattle.trail.specs.declared.entry.Placed.TheVariants.{Already, Clash, Done}
use Rattle.trail.specs.Assignment.{Assignment, IsOf, Names, truth_on, is_true_on, lits_of, with_entry, entry_of, Places, IsAssignment, undone_to}
use Rattle.trail.specs.Growth.{Grows}
use Rattle.trail.specs.Forced.{AllButOpen}
use Rattle.trail.proofs.ImpliedLaws.{open_is, truth-of}
use Rattle.trail.proofs.GrowthLaws.{grows_shape, grows_entries}
use Rattle.trail.proofs.AssignmentLaws.{undone_front}
use Rattle.nogood_store.specs.declared.slot.Slot.{Slot}
use Rattle.nogood_store.specs.Holding.{Held, Seen, nogood_under, seen_of, IsFront}
use Rattle.nogood_store.specs.Propagation.{IsForced, AllNamed}
use Rattle.nogood_store.specs.Kept.{held_of, SlotsAscend}
use Rattle.nogood_store.proofs.Members.{holds_contained}
use Rattle.nogood_store.proofs.HeldLaws.{under_found}

-- where a literal is open, so is its opposite
pub open_opposite : (t : Assignment) (l : Lit) → truth_on t l ≡ None → truth_on t (complement_of l) ≡ None
open_opposite t l h =
    let both = open_is t.shape.ends (lits_of t.entries) l h in
    truth-of t.shape.ends (lits_of t.entries) (complement_of l) false false both.1 (ap (is_true_on t) (complement-complement l) ∙ both.0)

of_opposite : (s : Shape) (l : Lit) → IsOf s l → IsOf s (complement_of l)
of_opposite s (Atom n b) h = h
of_opposite s (Body n b) h = h
of_opposite s (Constraint n b) h = h
of_opposite s (AtMost x k) h = h
of_opposite s (AtLeast x k) h = h

pub names_opposite : (s : Shape) (l : Lit) → Names s l → IsLit (complement_of l) → Names s (complement_of l)
names_opposite s l n h = record { literal = h; within = of_opposite s l n.within }

pub placed_done : (t new : Assignment) (l : Lit) (why : Why) (p : Placed) → Places t l why p new → truth_on t l ≡ None → new ≡ with_entry t (entry_of t l why)
placed_done t new l why Already h e = let no : Some true ≡ None = sym h.0 ∙ e in cc
placed_done t new l why Clash h e = let no : Some false ≡ None = sym h.0 ∙ e in cc
placed_done t new l why Done h e = h.1

pub named_own : (s : Shape) (slots : List Slot) (i : ℕ) (d : Slot) → AllNamed s (held_of slots) → i < length slots → AllByRecursion (Names s) (get_or slots i d).nogood
named_own s [] i d a h = absurd (omega arith)
named_own s (r ∷ rs) zero d a h = a.0
named_own s (r ∷ rs) (suc i) d a h = named_own s rs i d a.1 (omega arith)

pub names_unit : (t : Assignment) (n : List Lit) (l : Lit) → AllByRecursion (Names t.shape) n → AllButOpen t n l → Names t.shape l
names_unit t n l a u = holds_contained (Names t.shape) n l a u.among

pub grown_shape : (held : List Held) (a b : Assignment) → Grows (IsForced held) a b → AllNamed a.shape held → AllNamed b.shape held
grown_shape held a b g n = subst (λ (s : Shape). AllNamed s held) (sym (grows_shape (IsForced held) a b g)) n

-- the literals of entries, taken in two parts
seen-append : (xs ys : List Entry) → seen_of (xs ++ ys) ≡ seen_of xs ++ seen_of ys
seen-append [] ys = refl
seen-append (x ∷ xs) ys = ap (λ (zs : List Seen). record { lit = x.lit; level = x.level } ∷ zs) (seen-append xs ys)

length-seen : (xs : List Entry) → length (seen_of xs) ≡ length xs
length-seen [] = refl
length-seen (x ∷ xs) = ap suc (length-seen xs)

-- the first literals of a trail stay the first as it grows
pub still_front : (P : Assignment → Entry → Type 0) (a b : Assignment) (looked : List Seen) → Grows P a b → IsFront looked (seen_of a.entries) → IsFront looked (seen_of b.entries)
still_front P a b looked g f = (
  f.0 ++ seen_of g.more,
  ap seen_of (grows_entries P a b g) ∙ seen-append a.entries g.more ∙ ap (λ es. es ++ seen_of g.more) f.1 ∙ append_assoc looked f.0 (seen_of g.more),
)

-- after an undoing, what the store has looked at is the first of the trail again
pub front_undone : (t : Assignment) (level : ℕ) (old new : List Seen) → IsAssignment t → IsFront old (seen_of t.entries) → IsFront new old → length new ≤ length (undone_to level t).entries → IsFront new (seen_of (undone_to level t).entries)
front_undone t level old new h f g within =
    let rest = undone_front t level h in
    let less : length new ≤ length (seen_of (undone_to level t).entries) = omega (arith, within, length-seen (undone_to level t).entries) in
    shorter new (seen_of (undone_to level t).entries) (g.0 ++ f.0) (seen_of rest.0) less
    (sym (append_assoc new g.0 f.0) ∙ ap (λ es. es ++ f.0) (sym g.1) ∙ sym f.1 ∙ ap seen_of rest.1 ∙ seen-append (undone_to level t).entries rest.0)
  where
    shorter : (a b xs ys : List Seen) → length a ≤ length b → a ++ xs ≡ b ++ ys → IsFront a b
    shorter [] b xs ys l e = (b, refl)
    shorter (x ∷ a) [] xs ys l e = absurd (omega arith)
    shorter (x ∷ a) (y ∷ b) xs ys l e =
        let same : x ≡ y = cc in
        let others : a ++ xs ≡ b ++ ys = cc in
        let front = shorter a b xs ys (omega arith) others in
        (front.0, ap (λ z. z ∷ b) (sym same) ∙ ap (λ zs. x ∷ zs) front.1)

-- the nogood of a slot
pub own_named : (s : Shape) (slots : List Slot) (i : ℕ) (r : Slot) → AllNamed s (held_of slots) → i < length slots → r ≡ get_or slots i r → AllByRecursion (Names s) r.nogood
own_named s slots i r a h e = subst (λ (q : Slot). AllByRecursion (Names s) q.nogood) (sym e) (named_own s slots i r a h)

pub own_under : (slots : List Slot) (i : ℕ) (r : Slot) → SlotsAscend slots → i < length slots → r ≡ get_or slots i r → nogood_under (held_of slots) r.id ≡ Some r.nogood
own_under slots i r a h e = subst (λ (q : Slot). nogood_under (held_of slots) q.id ≡ Some q.nogood) (sym e) (under_found slots i r a h)

complement_named : (s : Shape) (l : Lit) → Names s l → Names s (complement_of l)
complement_named s (Atom n b) h = record { literal = h.literal; within = h.within }
complement_named s (Body n b) h = record { literal = h.literal; within = h.within }
complement_named s (Constraint n b) h = record { literal = h.literal; within = h.within }
complement_named s (AtMost x k) h = record { literal = (h.literal.0, omega (arith, ints, h.literal.1), omega (arith, ints, h.literal.2)); within = h.within }
complement_named s (AtLeast x k) h = record { literal = (h.literal.0, omega (arith, ints, h.literal.1), omega (arith, ints, h.literal.2)); within = h.within }

pub unit_named : (t : Assignment) (n : List Lit) → AllByRecursion (Names t.shape) n → (l : Lit) → AllButOpen t n l → Names t.shape (complement_of l)
unit_named t n a l u = complement_named t.shape l (names_unit t n l a u)
