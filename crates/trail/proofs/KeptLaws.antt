-- What a trail keeps when a slot is pushed, and when the last one is taken.
use Rattle.std.proofs.Common.{◌≡◌, ℕ, zero, suc, ◌+◌, ◌-◌, ◌*◌, ◌^◌, ◌<◌, ◌≤◌, ◌≤ℤ◌, neg_ℤ, nat_le, ◌-ℤ◌, Bool, true, false, cond, List, [], ◌∷◌, ◌++◌, length, get_or, replicate, refl, sym, ◌∙◌, ap, subst, arith, ℤ, pos, Option, None, Some, append_assoc}
use Rattle.std.specs.List.{filter}
use Rattle.std.specs.Prelude.{slice_get}
use Rattle.std.proofs.lemmas.Bool.Decides.{nat_tests}
use Rattle.std.proofs.lemmas.Int.{ints}
use Rattle.std.proofs.lemmas.List.{append-nil, length-replicate}
use Rattle.literals.specs.declared.lit.Lit.{Lit}
use Rattle.literals.specs.declared.lit.Lit.TheVariants.{Atom, Body, Constraint, AtMost, AtLeast}
use Rattle.literals.specs.Places.{places_of}
use Rattle.order_literals.specs.Orders.{OrderLits, with_literal, is_made}
use Rattle.symbols.specs.declared.ends.Ends.{Ends}
use Rattle.trail.specs.declared.shape.Shape.{Shape}
use Rattle.trail.specs.declared.entry.Entry.{Entry}
use Rattle.trail.specs.declared.entry.Why.{Why}
use Rattle.trail.specs.declared.entry.Slot.{Slot}
use Rattle.trail.specs.Implied.{truth_of}
use Rattle.trail.specs.Assignment.{Assignment, lits_of, counts_of, Names, Follow, undone_to, IsAssignment, orders_with, with_entry, entry_of}
use Rattle.trail.specs.inner.Cells.{Layout, is_fact, slot_of, HasPlace, saved_in, mark_in, applied, reverted, end_pairs}
use Rattle.trail.specs.inner.Kept.{latest, Shows, SavesBound, Saved, entries_of, IsTrail, IsBoundOf}
use Rattle.trail.proofs.CellLaws.{has_place, saved-shown}
use Rattle.trail.proofs.AppliedLaws.{fits-applied, shows-applied}
use Rattle.trail.proofs.RevertedLaws.{fits-reverted, shows-reverted}

pub lits-push : (ts : List Slot) (t : Slot) → lits_of (entries_of (ts ++ t ∷ [])) ≡ lits_of (entries_of ts) ++ t.entry.lit ∷ []
lits-push [] t = refl
lits-push (u ∷ us) t = ap (λ (ls : List Lit). u.entry.lit ∷ ls) (lits-push us t)

pub entries-push : (ts : List Slot) (t : Slot) → entries_of (ts ++ t ∷ []) ≡ entries_of ts ++ t.entry ∷ []
entries-push [] t = refl
entries-push (u ∷ us) t = ap (λ (es : List Entry). u.entry ∷ es) (entries-push us t)

pub length-lits : (ts : List Slot) → length (lits_of (entries_of ts)) ≡ length ts
length-lits [] = refl
length-lits (t ∷ ts) = ap suc (length-lits ts)

pub length-entries : (ts : List Slot) → length (entries_of ts) ≡ length ts
length-entries [] = refl
length-entries (t ∷ ts) = ap suc (length-entries ts)

pub entry_at : (ts : List Slot) (i : ℕ) (d : Slot) → i < length ts → slice_get (entries_of ts) i ≡ Some (get_or ts i d).entry
entry_at [] i d h = absurd (omega arith)
entry_at (t ∷ ts) zero d h = refl
entry_at (t ∷ ts) (suc i) d h = entry_at ts i d (omega arith)

pub follow_push : (s : Shape) (before : List Lit) (level : ℕ) (es : List Entry) (e : Entry) (high : ℕ) → Follow s before level es high → Names s e.lit → truth_of s.ends (before ++ lits_of es) e.lit ≡ None → e.level ≡ high → Follow s before level (es ++ e ∷ []) high
follow_push s before level [] e high h n new at = (n, subst (λ (ls : List Lit). truth_of s.ends ls e.lit ≡ None) (append-nil before) new, omega arith, omega arith)
follow_push s before level (x ∷ xs) e high h n new at = (
  h.0,
  h.1,
  h.2,
  follow_push s (before ++ x.lit ∷ []) x.level xs e high h.3 n
      (subst (λ (ls : List Lit). truth_of s.ends ls e.lit ≡ None) (sym (append_assoc before (x.lit ∷ []) (lits_of xs))) new)
      at,
)

pub follow_pop : (s : Shape) (before : List Lit) (level : ℕ) (es : List Entry) (e : Entry) (high : ℕ) → Follow s before level (es ++ e ∷ []) high → Follow s before level es high × Names s e.lit × (truth_of s.ends (before ++ lits_of es) e.lit ≡ None)
follow_pop s before level [] e high h = (omega (arith, h.2, h.3), h.0, subst (λ (ls : List Lit). truth_of s.ends ls e.lit ≡ None) (sym (append-nil before)) h.1)
follow_pop s before level (x ∷ xs) e high h =
    let rest = follow_pop s (before ++ x.lit ∷ []) x.level xs e high h.3 in
    ((h.0, h.1, h.2, rest.0), rest.1, subst (λ (ls : List Lit). truth_of s.ends ls e.lit ≡ None) (append_assoc before (x.lit ∷ []) (lits_of xs)) rest.2)

pub follow_raise : (s : Shape) (before : List Lit) (level : ℕ) (es : List Entry) (high higher : ℕ) → high ≤ higher → Follow s before level es high → Follow s before level es higher
follow_raise s before level [] high higher le h = omega arith
follow_raise s before level (x ∷ xs) high higher le h = (h.0, h.1, h.2, follow_raise s (before ++ x.lit ∷ []) x.level xs high higher le h.3)

pub follow_low : (s : Shape) (before : List Lit) (level : ℕ) (es : List Entry) (high : ℕ) → Follow s before level es high → level ≤ high
follow_low s before level [] high h = h
follow_low s before level (x ∷ xs) high h = omega (arith, h.2, follow_low s (before ++ x.lit ∷ []) x.level xs high h.3)

last_of : Slot → List Slot → Slot
last_of t [] = t
last_of t (u ∷ us) = last_of u us

get_or-last : (t : Slot) (ts : List Slot) (d : Slot) → get_or (t ∷ ts) (length ts) d ≡ last_of t ts
unfolding last_of
get_or-last t [] d = refl
get_or-last t (u ∷ us) d = get_or-last u us d

cut_last : (s : Shape) (before : List Lit) (level high cut : ℕ) (t : Slot) (ts : List Slot) → Follow s before level (entries_of (t ∷ ts)) high → (last_of t ts).entry.level ≤ cut → Follow s before level (entries_of (t ∷ ts)) cut
unfolding last_of
cut_last s before level high cut t [] h last = (h.0, h.1, h.2, last)
cut_last s before level high cut t (u ∷ us) h last = (h.0, h.1, h.2, cut_last s (before ++ t.entry.lit ∷ []) t.entry.level high cut u us h.3 last)

-- entries that end at or below the cut
pub follow_cut : (s : Shape) (high cut : ℕ) (ts : List Slot) → Follow s [] 0 (entries_of ts) high → ((d : Slot) → 0 < length ts → (get_or ts (length ts - 1) d).entry.level ≤ cut) → Follow s [] 0 (entries_of ts) cut
follow_cut s high cut [] h last = omega arith
follow_cut s high cut (t ∷ ts) h last =
    let at : length (t ∷ ts) - 1 ≡ length ts = omega arith in
    let here : (get_or (t ∷ ts) (length (t ∷ ts) - 1) t).entry.level ≤ cut = last t (omega arith) in
    cut_last s [] 0 high cut t ts h (subst (λ (u : Slot). u.entry.level ≤ cut) (ap (λ (n : ℕ). get_or (t ∷ ts) n t) at ∙ get_or-last t ts t) here)

-- nothing lies above the cut
pub filter_all : (s : Shape) (before : List Lit) (level cut : ℕ) (ts : List Slot) → Follow s before level (entries_of ts) cut → filter (λ e. nat_le e.level cut) (entries_of ts) ≡ entries_of ts
filter_all s before level cut [] h = refl
filter_all s before level cut (t ∷ ts) h =
    let le : t.entry.level ≤ cut = follow_low s (before ++ t.entry.lit ∷ []) t.entry.level (entries_of ts) cut h.3 in
    let test : nat_le t.entry.level cut ≡ true = grind (arith, nat_tests) in
    rw (test, filter_all s (before ++ t.entry.lit ∷ []) t.entry.level cut ts h.3) refl

-- the last slot lies above the cut
pub filter_last : (cut : ℕ) (ts : List Slot) (t : Slot) → cut < t.entry.level → filter (λ e. nat_le e.level cut) (entries_of (ts ++ t ∷ [])) ≡ filter (λ e. nat_le e.level cut) (entries_of ts)
filter_last cut [] t h =
    let test : nat_le t.entry.level cut ≡ false = grind (arith, nat_tests) in rw test refl
filter_last cut (u ∷ us) t h = rw (filter_last cut us t h) refl

saved_push : (ends : Ends) (before : List Lit) (ts : List Slot) (t : Slot) → Saved ends before ts → SavesBound ends (before ++ lits_of (entries_of ts)) t.entry.lit t.saved → t.mark ≡ latest (before ++ lits_of (entries_of ts)) t.entry.lit → Saved ends before (ts ++ t ∷ [])
saved_push ends before [] t h was mark = (
  subst (λ (ls : List Lit). SavesBound ends ls t.entry.lit t.saved) (append-nil before) was,
  subst (λ (ls : List Lit). t.mark ≡ latest ls t.entry.lit) (append-nil before) mark,
  tt,
)
saved_push ends before (u ∷ us) t h was mark = (
  h.0,
  h.1,
  saved_push ends (before ++ u.entry.lit ∷ []) us t h.2
      (subst (λ (ls : List Lit). SavesBound ends ls t.entry.lit t.saved) (sym (append_assoc before (u.entry.lit ∷ []) (lits_of (entries_of us)))) was)
      (subst (λ (ls : List Lit). t.mark ≡ latest ls t.entry.lit) (sym (append_assoc before (u.entry.lit ∷ []) (lits_of (entries_of us)))) mark),
)

saved_pop : (ends : Ends) (before : List Lit) (ts : List Slot) (t : Slot) → Saved ends before (ts ++ t ∷ []) → Saved ends before ts × SavesBound ends (before ++ lits_of (entries_of ts)) t.entry.lit t.saved × (t.mark ≡ latest (before ++ lits_of (entries_of ts)) t.entry.lit)
saved_pop ends before [] t h = (
  tt,
  subst (λ (ls : List Lit). SavesBound ends ls t.entry.lit t.saved) (sym (append-nil before)) h.0,
  subst (λ (ls : List Lit). t.mark ≡ latest ls t.entry.lit) (sym (append-nil before)) h.1,
)
saved_pop ends before (u ∷ us) t h =
    let rest = saved_pop ends (before ++ u.entry.lit ∷ []) us t h.2 in (
      (h.0, h.1, rest.0),
      subst (λ (ls : List Lit). SavesBound ends ls t.entry.lit t.saved) (append_assoc before (u.entry.lit ∷ []) (lits_of (entries_of us))) rest.1,
      subst (λ (ls : List Lit). t.mark ≡ latest ls t.entry.lit) (append_assoc before (u.entry.lit ∷ []) (lits_of (entries_of us))) rest.2,
    )

-- a slot with a literal that was open, at the open level, with what stood before it
pub trail_push : (s : Shape) (level : ℕ) (ts : List Slot) (a : Layout) (ordered : ℕ) (t : Slot) (at : ℕ) → IsTrail s level ts a ordered → Names s t.entry.lit → truth_of s.ends (lits_of (entries_of ts)) t.entry.lit ≡ None → t.entry.level ≡ level → t.saved ≡ saved_in a t.entry.lit → t.mark ≡ mark_in a t.entry.lit → at ≡ length ts → IsTrail s level (ts ++ t ∷ []) (applied a t.entry.lit at) ordered
trail_push s level ts a ordered t at h n new e was mark place = record {
  fits = fits-applied s a t.entry.lit at h.fits;
  shows = subst (λ (ls : List Lit). Shows s ls (applied a t.entry.lit at)) (sym (lits-push ts t)) (shows-applied s (lits_of (entries_of ts)) a t.entry.lit at h.fits n.within new (place ∙ sym (length-lits ts)) h.shows);
  saved = saved_push s.ends [] ts t h.saved
      (subst (λ (k : ℤ). SavesBound s.ends (lits_of (entries_of ts)) t.entry.lit k) (sym was) (saved-shown s (lits_of (entries_of ts)) a t.entry.lit n.within h.shows))
      (mark ∙ h.shows.mark t.entry.lit n.within);
  entries = subst (λ (es : List Entry). Follow s [] 0 es level) (sym (entries-push ts t)) (follow_push s [] 0 (entries_of ts) t.entry level h.entries n new e);
  variables = h.variables;
}

popped : (s : Shape) (level : ℕ) (ts : List Slot) (a : Layout) (ordered : ℕ) (t : Slot) → IsTrail s level (ts ++ t ∷ []) a ordered → Follow s [] 0 (entries_of ts) level × Names s t.entry.lit × (truth_of s.ends (lits_of (entries_of ts)) t.entry.lit ≡ None)
popped s level ts a ordered t h = follow_pop s [] 0 (entries_of ts) t.entry level (subst (λ (es : List Entry). Follow s [] 0 es level) (entries-push ts t) h.entries)

pub trail_pop : (s : Shape) (level : ℕ) (ts : List Slot) (a : Layout) (ordered : ℕ) (t : Slot) → IsTrail s level (ts ++ t ∷ []) a ordered → IsTrail s level ts (reverted a t.entry.lit t.saved t.mark) ordered
trail_pop s level ts a ordered t h =
    let last = popped s level ts a ordered t h in
    let before = saved_pop s.ends [] ts t h.saved in
    record {
      fits = fits-reverted s a t.entry.lit t.saved t.mark h.fits;
      shows = shows-reverted s (lits_of (entries_of ts)) a t.entry.lit t.saved t.mark h.fits last.1.within last.2 before.1 before.2 (subst (λ (ls : List Lit). Shows s ls a) (lits-push ts t) h.shows);
      saved = before.0;
      entries = last.0;
      variables = h.variables;
    }

pub last_place : (s : Shape) (level : ℕ) (ts : List Slot) (a : Layout) (ordered : ℕ) (t : Slot) → IsTrail s level (ts ++ t ∷ []) a ordered → HasPlace a t.entry.lit
last_place s level ts a ordered t h = has_place s a t.entry.lit h.fits (popped s level ts a ordered t h).1.within

pub trail_raise : (s : Shape) (level higher : ℕ) (ts : List Slot) (a : Layout) (ordered : ℕ) → level ≤ higher → IsTrail s level ts a ordered → IsTrail s higher ts a ordered
trail_raise s level higher ts a ordered le h = record { fits = h.fits; shows = h.shows; saved = h.saved; entries = follow_raise s [] 0 (entries_of ts) level higher le h.entries; variables = h.variables }

pub trail_cut : (s : Shape) (level cut : ℕ) (ts : List Slot) (a : Layout) (ordered : ℕ) → ((d : Slot) → 0 < length ts → (get_or ts (length ts - 1) d).entry.level ≤ cut) → IsTrail s level ts a ordered → IsTrail s cut ts a ordered
trail_cut s level cut ts a ordered last h = record { fits = h.fits; shows = h.shows; saved = h.saved; entries = follow_cut s level cut ts h.entries last; variables = h.variables }

-- a trail as its clauses see it
abbrev pub view_of : Shape → ℕ → OrderLits → List Entry → Assignment
view_of s level orders es = record { shape = s; level = level; orders = orders; entries = es }

pub undone : (t : Assignment) (s : Shape) (level : ℕ) (orders : OrderLits) (es : List Entry) → s ≡ t.shape → orders ≡ t.orders → es ≡ filter (λ e. nat_le e.level level) t.entries → view_of s level orders es ≡ undone_to level t
undone t s level orders es e o f = ap (λ (x : Shape). view_of x level orders es) e ∙ ap (λ (x : OrderLits). view_of t.shape level x es) o ∙ ap (λ (x : List Entry). view_of t.shape level t.orders x) f

pub assignment : (t : Assignment) (s : Shape) (level : ℕ) (ts : List Slot) (a : Layout) (orders : OrderLits) → view_of s level orders (entries_of ts) ≡ t → IsTrail s level ts a orders.variables → IsAssignment t
assignment t s level ts a orders view h = subst IsAssignment view (record { entries = h.entries; variables = h.variables })

upper_end : (n x : ℕ) (a b d : ℤ) → x < n → get_or (end_pairs n a b) (2 * x) d ≡ b
upper_end zero x a b d h = absurd (omega arith)
upper_end (suc n) zero a b d h = refl
upper_end (suc n) (suc x) a b d h =
    let at : 2 * suc x ≡ suc (suc (2 * x)) = omega arith in
    ap (λ i. get_or (end_pairs (suc n) a b) i d) at ∙ upper_end n x a b d (omega arith)

lower_end : (n x : ℕ) (a b d : ℤ) → x < n → get_or (end_pairs n a b) (2 * x + 1) d ≡ a
lower_end zero x a b d h = absurd (omega arith)
lower_end (suc n) zero a b d h = refl
lower_end (suc n) (suc x) a b d h =
    let at : 2 * suc x + 1 ≡ suc (suc (2 * x + 1)) = omega arith in
    ap (λ i. get_or (end_pairs (suc n) a b) i d) at ∙ lower_end n x a b d (omega arith)

length-end_pairs : (n : ℕ) (a b : ℤ) → length (end_pairs n a b) ≡ 2 * n
length-end_pairs zero a b = refl
length-end_pairs (suc n) a b = let h = length-end_pairs n a b in omega arith

end_pairs-push : (n : ℕ) (a b : ℤ) → (end_pairs n a b ++ b ∷ []) ++ a ∷ [] ≡ end_pairs (suc n) a b
end_pairs-push zero a b = refl
end_pairs-push (suc n) a b = ap (λ xs. b ∷ a ∷ xs) (end_pairs-push n a b)

pub pairs_more : (n : ℕ) (a b : ℤ) (xs ys zs : List ℤ) → xs ≡ end_pairs n a b → ys ≡ xs ++ b ∷ [] → zs ≡ ys ++ a ∷ [] → zs ≡ end_pairs (n + 1) a b
pairs_more n a b xs ys zs h one two =
    let next : suc n ≡ n + 1 = omega arith in
    two ∙ ap (λ ws. ws ++ a ∷ []) (one ∙ ap (λ ws. ws ++ b ∷ []) h) ∙ end_pairs-push n a b ∙ ap (λ i. end_pairs i a b) next

get_none : {X : Type 0} (m i : ℕ) → get_or {A = Option X} (replicate m None) i None ≡ None
get_none zero i = refl
get_none (suc m) zero = refl
get_none (suc m) (suc i) = get_none m i

-- the cells of a trail with no entry
pub trail_new : (s : Shape) (a : Layout) → a.counts ≡ counts_of s → a.truths ≡ replicate (places_of (counts_of s)) None → a.bounds ≡ end_pairs (s.variables + 1) s.ends.min s.ends.max → a.marks ≡ replicate (places_of (counts_of s)) None → IsTrail s 0 [] a s.variables
trail_new s a counts truths pairs marks = record {
  fits = record {
    counts = counts;
    truths = ap length truths ∙ length-replicate (places_of (counts_of s)) None ∙ ap places_of (sym counts);
    pairs = ap length pairs ∙ length-end_pairs (s.variables + 1) s.ends.min s.ends.max;
    marks = ap length marks ∙ length-replicate (places_of (counts_of s)) None ∙ ap places_of (sym counts);
  };
  shows = record {
    truth = λ l i fact. ap (λ xs. get_or xs (slot_of a l) None) truths ∙ get_none (places_of (counts_of s)) (slot_of a l) ∙ sym (open_first s.ends l fact);
    upper = λ x i. ap (λ xs. get_or xs (2 * x) (pos 0)) pairs ∙ upper_end (s.variables + 1) x s.ends.min s.ends.max (pos 0) (omega arith);
    lower = λ x i. ap (λ xs. get_or xs (2 * x + 1) (pos 0)) pairs ∙ lower_end (s.variables + 1) x s.ends.min s.ends.max (pos 0) (omega arith);
    mark = λ l i. ap (λ xs. get_or xs (slot_of a l) None) marks ∙ get_none (places_of (counts_of s)) (slot_of a l);
  };
  saved = tt;
  entries = omega arith;
  variables = refl;
}
  where
    -- no literal decides a fact before the first
    open_first : (ends : Ends) (l : Lit) → is_fact l ≡ true → truth_of ends [] l ≡ None
    open_first ends (Atom n r) e = refl
    open_first ends (Body n r) e = refl
    open_first ends (Constraint n r) e = refl
    open_first ends (AtMost x k) e = cc
    open_first ends (AtLeast x k) e = cc

-- a bound of the shape makes an order literal of the shape
pub bound_of : (s : Shape) (variables : ℕ) (l : Lit) → variables ≡ s.variables → Names s l → IsBoundOf variables l
bound_of s variables (Atom n r) e h = tt
bound_of s variables (Body n r) e h = tt
bound_of s variables (Constraint n r) e h = tt
bound_of s variables (AtMost x k) e h = omega (arith, h.within)
bound_of s variables (AtLeast x k) e h = (omega (arith, h.within), lower (h.literal.1))
  where
    lower : neg_ℤ (pos (2 ^ 30 - 1)) ≤ℤ k → neg_ℤ (pos (2 ^ 30)) ≤ℤ k
    lower f = omega (arith, ints)

made_variables : (t : OrderLits) (x : ℕ) (k : ℤ) → (with_literal t x k).variables ≡ t.variables
made_variables t x k = cases (is_made t.made x k)
  where
    cases : (b : Bool) → (cond b t (record t { made = t.made ++ record { variable = x; number = k } ∷ [] })).variables ≡ t.variables
    cases true = refl
    cases false = refl

pub orders_variables : (orders : OrderLits) (l : Lit) → (orders_with orders l).variables ≡ orders.variables
orders_variables orders (Atom n r) = refl
orders_variables orders (Body n r) = refl
orders_variables orders (Constraint n r) = refl
orders_variables orders (AtMost x k) = made_variables orders x k
orders_variables orders (AtLeast x k) = made_variables orders x (k -ℤ pos 1)

-- the view of a trail after one more entry
pub view_pushed : (t : Assignment) (s : Shape) (level : ℕ) (orders after : OrderLits) (ts us : List Slot) (l : Lit) (why : Why) (saved : ℤ) (mark : Option ℕ) → view_of s level orders (entries_of ts) ≡ t → us ≡ ts ++ record { entry = record { lit = l; level = level; why = why }; saved = saved; mark = mark } ∷ [] → after ≡ orders_with orders l → view_of s level after (entries_of us) ≡ with_entry t (entry_of t l why)
view_pushed t s level orders after ts us l why saved mark view pushed ordered =
    ap (λ (vs : List Slot). view_of s level after (entries_of vs)) pushed
    ∙ ap (λ (es : List Entry). view_of s level after es) (entries-push ts (record { entry = record { lit = l; level = level; why = why }; saved = saved; mark = mark }))
    ∙ ap (λ (o : OrderLits). view_of s level o (entries_of ts ++ record { lit = l; level = level; why = why } ∷ [])) ordered
    ∙ ap (λ (x : Assignment). with_entry x (entry_of x l why)) view

-- the fields of a trail after one more entry
pub trail_set : (s : Shape) (level : ℕ) (ts us : List Slot) (a b : Layout) (orders after : OrderLits) (l : Lit) (why : Why) (saved : ℤ) (mark : Option ℕ) (at : ℕ) → IsTrail s level ts a orders.variables → Names s l → truth_of s.ends (lits_of (entries_of ts)) l ≡ None → saved ≡ saved_in a l → mark ≡ mark_in a l → at ≡ length ts → us ≡ ts ++ record { entry = record { lit = l; level = level; why = why }; saved = saved; mark = mark } ∷ [] → b ≡ applied a l at → after ≡ orders_with orders l → IsTrail s level us b after.variables
trail_set s level ts us a b orders after l why saved mark at h n new was old place pushed known ordered =
    subst (λ (v : ℕ). IsTrail s level us b v) (sym (ap (λ (o : OrderLits). o.variables) ordered ∙ orders_variables orders l))
    (subst (λ (c : Layout). IsTrail s level us c orders.variables) (sym known)
    (subst (λ (vs : List Slot). IsTrail s level vs (applied a l at) orders.variables) (sym pushed)
    (trail_push s level ts a orders.variables (record { entry = record { lit = l; level = level; why = why }; saved = saved; mark = mark }) at h n new refl was old place)))
