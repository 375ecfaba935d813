-- A trail that grows: one entry, one growth after another, and what stays as it grows.
use Rattle.std.proofs.Common.{◌≡◌, ℕ, ◌+◌, ◌≤◌, Bool, true, false, cond, List, [], ◌∷◌, ◌++◌, length, refl, sym, ◌∙◌, ap, subst, arith, ℤ, ◌≤ℤ◌, pos, ◌-ℤ◌, append_assoc}
use Rattle.std.specs.Prelude.{int_le}
use Rattle.std.proofs.lemmas.Bool.Decides.{nat_tests}
use Rattle.std.proofs.lemmas.Int.{ints}
use Rattle.std.proofs.lemmas.List.{append-nil, length-append, map-append}
use Rattle.literals.specs.declared.lit.Lit.{Lit}
use Rattle.literals.specs.declared.lit.Lit.TheVariants.{Atom, Body, Constraint, AtMost, AtLeast}
use Rattle.order_literals.specs.Orders.{OrderLits, with_literal, is_made}
use Rattle.trail.specs.declared.shape.Shape.{Shape}
use Rattle.trail.specs.declared.entry.Entry.{Entry}
use Rattle.trail.specs.declared.entry.Why.{Why}
use Rattle.trail.specs.declared.entry.Placed.TheVariants.{Done}
use Rattle.trail.specs.Implied.{implied}
use Rattle.trail.specs.Assignment.{Assignment, Names, lits_of, is_true_on, lower_on, upper_on, with_entry, entry_of, orders_with, Places, IsAssignment}
use Rattle.trail.specs.Growth.{with_entries, IsNext, EachNext, Grows}
use Rattle.trail.proofs.ImpliedLaws.{implied_stays, implied-at_most, implied-at_least}
use Rattle.trail.proofs.KeptLaws.{follow_push, orders_variables}

with_entries-append : (t : Assignment) (es fs : List Entry) → with_entries t (es ++ fs) ≡ with_entries (with_entries t es) fs
with_entries-append t [] fs = refl
with_entries-append t (e ∷ es) fs = with_entries-append (with_entry t e) es fs

each_append : (P : Assignment → Entry → Type 0) (t : Assignment) (es fs : List Entry) → EachNext P t es → EachNext P (with_entries t es) fs → EachNext P t (es ++ fs)
each_append P t [] fs a b = b
each_append P t (e ∷ es) fs a b = (a.0, a.1, each_append P (with_entry t e) es fs a.2 b)

each_map : (P Q : Assignment → Entry → Type 0) → ((t : Assignment) (e : Entry) → P t e → Q t e) → (t : Assignment) (es : List Entry) → EachNext P t es → EachNext Q t es
each_map P Q f t [] a = tt
each_map P Q f t (e ∷ es) a = (a.0, f t e a.1, each_map P Q f (with_entry t e) es a.2)

-- no entry
pub grows_none : (P : Assignment → Entry → Type 0) (t : Assignment) → Grows P t t
grows_none P t = record { more = []; is = refl; each = tt }

-- one entry
pub grows_one : (P : Assignment → Entry → Type 0) (t : Assignment) (e : Entry) → IsNext t e → P t e → Grows P t (with_entry t e)
grows_one P t e n p = record { more = e ∷ []; is = refl; each = (n, p, tt) }

-- what a literal that was set adds
pub grows_set : (P : Assignment → Entry → Type 0) (old new : Assignment) (l : Lit) (why : Why) → Names old.shape l → Places old l why Done new → P old (entry_of old l why) → Grows P old new
grows_set P old new l why n placed p = subst (Grows P old) (sym placed.1) (grows_one P old (entry_of old l why) (record { names = n; open_before = placed.0; level = refl }) p)

-- one growth after another
pub grows_on : (P : Assignment → Entry → Type 0) (a b c : Assignment) → Grows P a b → Grows P b c → Grows P a c
grows_on P a b c g h = record {
  more = g.more ++ h.more;
  is = h.is ∙ ap (λ (t : Assignment). with_entries t h.more) g.is ∙ sym (with_entries-append a g.more h.more);
  each = each_append P a g.more h.more g.each (subst (λ (t : Assignment). EachNext P t h.more) g.is h.each);
}

-- what each entry meets may be weakened
pub grows_map : (P Q : Assignment → Entry → Type 0) → ((t : Assignment) (e : Entry) → P t e → Q t e) → (a b : Assignment) → Grows P a b → Grows Q a b
grows_map P Q f a b g = record { more = g.more; is = g.is; each = each_map P Q f a g.more g.each }

with_shape : (t : Assignment) (es : List Entry) → (with_entries t es).shape ≡ t.shape
with_shape t [] = refl
with_shape t (e ∷ es) = with_shape (with_entry t e) es

with_level : (t : Assignment) (es : List Entry) → (with_entries t es).level ≡ t.level
with_level t [] = refl
with_level t (e ∷ es) = with_level (with_entry t e) es

with_entries_are : (t : Assignment) (es : List Entry) → (with_entries t es).entries ≡ t.entries ++ es
with_entries_are t [] = sym (append-nil t.entries)
with_entries_are t (e ∷ es) = with_entries_are (with_entry t e) es ∙ append_assoc t.entries (e ∷ []) es

-- the shape, the level and the entries there were stay
pub grows_shape : (P : Assignment → Entry → Type 0) (a b : Assignment) → Grows P a b → b.shape ≡ a.shape
grows_shape P a b g = ap (λ (t : Assignment). t.shape) g.is ∙ with_shape a g.more

pub grows_level : (P : Assignment → Entry → Type 0) (a b : Assignment) → Grows P a b → b.level ≡ a.level
grows_level P a b g = ap (λ (t : Assignment). t.level) g.is ∙ with_level a g.more

pub grows_entries : (P : Assignment → Entry → Type 0) (a b : Assignment) (g : Grows P a b) → b.entries ≡ a.entries ++ g.more
grows_entries P a b g = ap (λ (t : Assignment). t.entries) g.is ∙ with_entries_are a g.more

pub grows_length : (P : Assignment → Entry → Type 0) (a b : Assignment) (g : Grows P a b) → length b.entries ≡ length a.entries + length g.more
grows_length P a b g = ap length (grows_entries P a b g) ∙ length-append a.entries g.more

no_more : (t : Assignment) (es : List Entry) → length es ≡ 0 → with_entries t es ≡ t
no_more t [] h = refl
no_more t (e ∷ es) h = absurd (omega arith)

-- a trail of the same length is the same
pub grows_same : (P : Assignment → Entry → Type 0) (a b : Assignment) → Grows P a b → length b.entries ≡ length a.entries → b ≡ a
grows_same P a b g h = let more = grows_length P a b g in let none : length g.more ≡ 0 = omega arith in g.is ∙ no_more a g.more none

-- what is true stays true
pub grows_true : (P : Assignment → Entry → Type 0) (a b : Assignment) (l : Lit) → Grows P a b → is_true_on a l ≡ true → is_true_on b l ≡ true
grows_true P a b l g h =
    let lits : lits_of b.entries ≡ lits_of a.entries ++ lits_of g.more = ap lits_of (grows_entries P a b g) ∙ map-append (λ (e : Entry). e.lit) a.entries g.more in
    ap (λ (s : Shape). implied s.ends (lits_of b.entries) l) (grows_shape P a b g)
    ∙ ap (λ (ls : List Lit). implied a.shape.ends ls l) lits
    ∙ implied_stays a.shape.ends (lits_of a.entries) (lits_of g.more) l h

le_int : (a b : ℤ) → int_le a b ≡ true → a ≤ℤ b
le_int a b h = grind (arith, nat_tests, ints)

le_same : (a : ℤ) → int_le a a ≡ true
le_same a = grind (arith, nat_tests, ints)

-- bounds only narrow
pub grows_lower : (P : Assignment → Entry → Type 0) (a b : Assignment) (x : ℕ) → Grows P a b → lower_on a x ≤ℤ lower_on b x
grows_lower P a b x g =
    let now : is_true_on a (AtLeast x (lower_on a x)) ≡ true = implied-at_least a.shape.ends (lits_of a.entries) x (lower_on a x) ∙ le_same (lower_on a x) in
    le_int (lower_on a x) (lower_on b x) (sym (implied-at_least b.shape.ends (lits_of b.entries) x (lower_on a x)) ∙ grows_true P a b (AtLeast x (lower_on a x)) g now)

pub grows_upper : (P : Assignment → Entry → Type 0) (a b : Assignment) (x : ℕ) → Grows P a b → upper_on b x ≤ℤ upper_on a x
grows_upper P a b x g =
    let now : is_true_on a (AtMost x (upper_on a x)) ≡ true = implied-at_most a.shape.ends (lits_of a.entries) x (upper_on a x) ∙ le_same (upper_on a x) in
    le_int (upper_on b x) (upper_on a x) (sym (implied-at_most b.shape.ends (lits_of b.entries) x (upper_on a x)) ∙ grows_true P a b (AtMost x (upper_on a x)) g now)

made_once : (t : OrderLits) (x : ℕ) (k : ℤ) → length (with_literal t x k).made ≤ length t.made + 1
made_once t x k = cases (is_made t.made x k)
  where
    cases : (b : Bool) → length (cond b t (record t { made = t.made ++ record { variable = x; number = k } ∷ [] })).made ≤ length t.made + 1
    cases true = omega arith
    cases false = rw (length-append t.made (record { variable = x; number = k } ∷ [])) (omega arith)

orders_once : (orders : OrderLits) (l : Lit) → length (orders_with orders l).made ≤ length orders.made + 1
orders_once orders (Atom n r) = omega arith
orders_once orders (Body n r) = omega arith
orders_once orders (Constraint n r) = omega arith
orders_once orders (AtMost x k) = made_once orders x k
orders_once orders (AtLeast x k) = made_once orders x (k -ℤ pos 1)

with_made : (t : Assignment) (es : List Entry) → length (with_entries t es).orders.made ≤ length t.orders.made + length es
with_made t [] = omega arith
with_made t (e ∷ es) = let here = orders_once t.orders e.lit in let rest = with_made (with_entry t e) es in omega arith

-- each entry makes at most one order literal
pub grows_made : (P : Assignment → Entry → Type 0) (a b : Assignment) (g : Grows P a b) → length b.orders.made ≤ length a.orders.made + length g.more
grows_made P a b g = subst (λ (t : Assignment). length t.orders.made ≤ length a.orders.made + length g.more) (sym g.is) (with_made a g.more)

-- a trail with an entry that may be set is one again
pub next_assignment : (t : Assignment) (e : Entry) → IsAssignment t → IsNext t e → IsAssignment (with_entry t e)
next_assignment t e h n = record {
  entries = follow_push t.shape [] 0 t.entries e t.level h.entries n.names n.open_before n.level;
  variables = orders_variables t.orders e.lit ∙ h.variables;
}

with_assignment : (P : Assignment → Entry → Type 0) (t : Assignment) (es : List Entry) → IsAssignment t → EachNext P t es → IsAssignment (with_entries t es)
with_assignment P t [] h a = h
with_assignment P t (e ∷ es) h a = with_assignment P (with_entry t e) es (next_assignment t e h a.0) a.2

pub grows_assignment : (P : Assignment → Entry → Type 0) (a b : Assignment) → Grows P a b → IsAssignment a → IsAssignment b
grows_assignment P a b g h = subst IsAssignment (sym g.is) (with_assignment P a g.more h g.each)
