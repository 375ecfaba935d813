-- At which entry a literal became true.
use Rattle.std.proofs.Common.{◌≡◌, ℕ, zero, suc, ◌+◌, ◌<◌, ◌≤◌, ◌||◌, Bool, true, false, cond, List, [], ◌∷◌, ◌++◌, length, take, get_or, Option, None, Some, refl, sym, ◌∙◌, ap, subst, arith, append_assoc}
use Rattle.std.specs.Prelude.{is_some}
use Rattle.std.specs.List.{list_any}
use Rattle.std.proofs.lemmas.List.{append-nil, take_more, take_all, length-take-le}
use Rattle.symbols.specs.declared.ends.Ends.{Ends}
use Rattle.literals.specs.declared.lit.Lit.{Lit}
use Rattle.literals.specs.Lits.{implies_lit, complement_of}
use Rattle.literals.specs.Nogoods.{same_place}
use Rattle.literals.proofs.OrderLaws.{implies_trans, implies_other}
use Rattle.trail.specs.declared.shape.Shape.{Shape}
use Rattle.trail.specs.declared.entry.Slot.{Slot}
use Rattle.trail.specs.Implied.{ends_imply, implied, truth_of, first_from}
use Rattle.trail.specs.Assignment.{Assignment, lits_of, Follow, is_true_on, since_on}
use Rattle.trail.specs.inner.Kept.{latest, Saved, entries_of, Outdoes, Marked, AreMarked}
use Rattle.trail.proofs.ImpliedLaws.{open_is}
use Rattle.trail.proofs.CellLaws.{apart_implies, latest-push, latest_same, cell_same}

-- the first of two answers
abbrev pub first_some : Option ℕ → Option ℕ → Option ℕ
first_some None o = o
first_some (Some n) o = Some n

first_some-none : (o : Option ℕ) → first_some o None ≡ o
first_some-none None = refl
first_some-none (Some n) = refl

first_some-assoc : (a b c : Option ℕ) → first_some (first_some a b) c ≡ first_some a (first_some b c)
first_some-assoc None b c = refl
first_some-assoc (Some n) b c = refl

first-push : (place : ℕ) (lits : List Lit) (m l : Lit) → first_from place (lits ++ m ∷ []) l ≡ first_some (first_from place lits l) (cond (implies_lit m l) (Some (place + length lits)) None)
first-push place [] m l = let e : place ≡ place + 0 = omega arith in ap (λ i. cond (implies_lit m l) (Some i) None) e
first-push place (x ∷ xs) m l = cases (implies_lit x l) (first-push (place + 1) xs m l)
  where
    cases : (b : Bool) → first_from (place + 1) (xs ++ m ∷ []) l ≡ first_some (first_from (place + 1) xs l) (cond (implies_lit m l) (Some ((place + 1) + length xs)) None) → cond b (Some place) (first_from (place + 1) (xs ++ m ∷ []) l) ≡ first_some (cond b (Some place) (first_from (place + 1) xs l)) (cond (implies_lit m l) (Some (place + suc (length xs))) None)
    cases true h = refl
    cases false h = let e : (place + 1) + length xs ≡ place + suc (length xs) = omega arith in h ∙ ap (λ i. first_some (first_from (place + 1) xs l) (cond (implies_lit m l) (Some i) None)) e

-- one literal more of a list
latest-more : (lits : List Lit) (n : ℕ) (l : Lit) → n < length lits → latest (take (n + 1) lits) l ≡ cond (same_place (get_or lits n l) l) (Some n) (latest (take n lits) l)
latest-more lits n l h =
    ap (λ ls. latest ls l) (take_more lits n l h)
    ∙ latest-push (take n lits) (get_or lits n l) l
    ∙ ap (λ i. cond (same_place (get_or lits n l) l) (Some i) (latest (take n lits) l)) (length-take-le n lits (omega arith))

first-more : (lits : List Lit) (n : ℕ) (l : Lit) → n < length lits → first_from 0 (take (n + 1) lits) l ≡ first_some (first_from 0 (take n lits) l) (cond (implies_lit (get_or lits n l) l) (Some n) None)
first-more lits n l h =
    let e : 0 + length (take n lits) ≡ n = omega (arith, length-take-le n lits (omega arith)) in
    ap (λ ls. first_from 0 ls l) (take_more lits n l h)
    ∙ first-push 0 (take n lits) (get_or lits n l) l
    ∙ ap (λ i. first_some (first_from 0 (take n lits) l) (cond (implies_lit (get_or lits n l) l) (Some i) None)) e

clash : {X : Type 0} {n : ℕ} → Some n ≡ None → X
clash e = cc

-- where none of the cell was set, none implies the literal
none_before : (lits : List Lit) (l : Lit) (n : ℕ) → n ≤ length lits → latest (take n lits) l ≡ None → first_from 0 (take n lits) l ≡ None
none_before lits l zero h e = refl
none_before lits l (suc n) h e =
    let one : suc n ≡ n + 1 = omega arith in
    ap (λ i. first_from 0 (take i lits) l) one
    ∙ first-more lits n l (omega arith)
    ∙ cases (same_place (get_or lits n l) l) refl (sym (latest-more lits n l (omega arith)) ∙ ap (λ i. latest (take i lits) l) (sym one) ∙ e) (λ f. none_before lits l n (omega arith) f)
  where
    cases : (b : Bool) → same_place (get_or lits n l) l ≡ b → cond b (Some n) (latest (take n lits) l) ≡ None → (latest (take n lits) l ≡ None → first_from 0 (take n lits) l ≡ None) → first_some (first_from 0 (take n lits) l) (cond (implies_lit (get_or lits n l) l) (Some n) None) ≡ None
    cases true c f rest = clash f
    cases false c f rest = rw (apart_implies (get_or lits n l) l c, rest f) refl

-- where a literal of the cell outdoes these and does not imply l, none of them does
none_outdone : (place : ℕ) (before : List Lit) (q l : Lit) → Outdoes before q → same_place q l ≡ true → implies_lit q l ≡ false → first_from place before l ≡ None
none_outdone place [] q l o c e = refl
none_outdone place (m ∷ ms) q l o c e = rw (not_by (implies_lit m l) refl) (none_outdone (place + 1) ms q l o.1 c e)
  where
    shut : true ≡ false → ⊥
    shut x = cc

    -- what implies l is of its cell
    of_cell : (b : Bool) → same_place m l ≡ b → implies_lit m l ≡ true → same_place m l ≡ true
    of_cell true f i = f
    of_cell false f i = absurd (shut (sym i ∙ apart_implies m l f))

    not_by : (b : Bool) → implies_lit m l ≡ b → implies_lit m l ≡ false
    not_by true i = absurd (shut (sym (implies_trans q m l (o.0 (cell_same m q l c ∙ of_cell (same_place m l) refl i)) i) ∙ e))
    not_by false i = i

-- each literal outdoes those before it
abbrev pub Outdoing : List Lit → Type 0
Outdoing lits = (i : ℕ) (d : Lit) → i < length lits → Outdoes (take i lits) (get_or lits i d)

last_within : (lits : List Lit) (l : Lit) (n at : ℕ) → n ≤ length lits → latest (take n lits) l ≡ Some at → at < n
last_within lits l zero at h e = cc
last_within lits l (suc n) at h e =
    let one : suc n ≡ n + 1 = omega arith in
    cases (same_place (get_or lits n l) l) (sym (latest-more lits n l (omega arith)) ∙ ap (λ i. latest (take i lits) l) (sym one) ∙ e) (λ f. last_within lits l n at (omega arith) f)
  where
    cases : (b : Bool) → cond b (Some n) (latest (take n lits) l) ≡ Some at → (latest (take n lits) l ≡ Some at → at < n) → at < suc n
    cases true f rest = let same : n ≡ at = cc in omega arith
    cases false f rest = let less : at < n = rest f in omega arith

-- the last of the cell implies the literal: what is before it decides
pub last_hit : (lits : List Lit) (l : Lit) (n at : ℕ) → n ≤ length lits → latest (take n lits) l ≡ Some at → implies_lit (get_or lits at l) l ≡ true → first_from 0 (take n lits) l ≡ first_some (first_from 0 (take at lits) l) (Some at)
last_hit lits l zero at h e i = cc
last_hit lits l (suc n) at h e i =
    let one : suc n ≡ n + 1 = omega arith in
    ap (λ k. first_from 0 (take k lits) l) one
    ∙ first-more lits n l (omega arith)
    ∙ cases (same_place (get_or lits n l) l) refl (sym (latest-more lits n l (omega arith)) ∙ ap (λ k. latest (take k lits) l) (sym one) ∙ e) (λ f. last_hit lits l n at (omega arith) f i)
  where
    cases : (b : Bool) → same_place (get_or lits n l) l ≡ b → cond b (Some n) (latest (take n lits) l) ≡ Some at → (latest (take n lits) l ≡ Some at → first_from 0 (take n lits) l ≡ first_some (first_from 0 (take at lits) l) (Some at)) → first_some (first_from 0 (take n lits) l) (cond (implies_lit (get_or lits n l) l) (Some n) None) ≡ first_some (first_from 0 (take at lits) l) (Some at)
    cases true c f rest =
        let same : n ≡ at = cc in
        let holds : implies_lit (get_or lits n l) l ≡ true = ap (λ k. implies_lit (get_or lits k l) l) same ∙ i in
        rw holds (ap (λ k. first_some (first_from 0 (take k lits) l) (Some k)) same)
    cases false c f rest = rw (apart_implies (get_or lits n l) l c) (first_some-none (first_from 0 (take n lits) l) ∙ rest f)

-- the last of the cell does not imply the literal: none does
pub last_miss : (lits : List Lit) (l : Lit) (n at : ℕ) → Outdoing lits → n ≤ length lits → latest (take n lits) l ≡ Some at → implies_lit (get_or lits at l) l ≡ false → first_from 0 (take n lits) l ≡ None
last_miss lits l zero at o h e i = cc
last_miss lits l (suc n) at o h e i =
    let one : suc n ≡ n + 1 = omega arith in
    ap (λ k. first_from 0 (take k lits) l) one
    ∙ first-more lits n l (omega arith)
    ∙ cases (same_place (get_or lits n l) l) refl (sym (latest-more lits n l (omega arith)) ∙ ap (λ k. latest (take k lits) l) (sym one) ∙ e) (λ f. last_miss lits l n at o (omega arith) f i)
  where
    cases : (b : Bool) → same_place (get_or lits n l) l ≡ b → cond b (Some n) (latest (take n lits) l) ≡ Some at → (latest (take n lits) l ≡ Some at → first_from 0 (take n lits) l ≡ None) → first_some (first_from 0 (take n lits) l) (cond (implies_lit (get_or lits n l) l) (Some n) None) ≡ None
    cases true c f rest =
        let same : n ≡ at = cc in
        let holds : implies_lit (get_or lits n l) l ≡ false = ap (λ k. implies_lit (get_or lits k l) l) same ∙ i in
        rw (holds, none_outdone 0 (take n lits) (get_or lits n l) l (o n l (omega arith)) c holds) refl
    cases false c f rest = rw (apart_implies (get_or lits n l) l c, rest f) refl

-- a literal that was open when it was set outdoes those of its cell before it
newer : (m l : Lit) → implies_lit m l ≡ false → same_place m l ≡ true → implies_lit l m ≡ true
newer m l h c = implies_other m l c h

or_parts : (a b : Bool) → (a || b) ≡ false → (a ≡ false) × (b ≡ false)
or_parts true b h = absurd (shut h)
  where
    shut : true ≡ false → ⊥
    shut x = cc
or_parts false b h = (refl, h)

any_outdone : (before : List Lit) (l : Lit) → list_any (λ m. implies_lit m l) before ≡ false → list_any (λ m. implies_lit m (complement_of l)) before ≡ false → Outdoes before l
any_outdone [] l h e = tt
any_outdone (m ∷ ms) l h e =
    let one = or_parts (implies_lit m l) (list_any (λ x. implies_lit x l) ms) h in
    let other = or_parts (implies_lit m (complement_of l)) (list_any (λ x. implies_lit x (complement_of l)) ms) e in
    (newer m l one.0, any_outdone ms l one.1 other.1)

open_outdoes : (ends : Ends) (before : List Lit) (l : Lit) → truth_of ends before l ≡ None → Outdoes before l
open_outdoes ends before l h =
    let both = open_is ends before l h in
    any_outdone before l (or_parts (ends_imply ends l) (list_any (λ x. implies_lit x l) before) both.0).1 (or_parts (ends_imply ends (complement_of l)) (list_any (λ x. implies_lit x (complement_of l)) before) both.1).1

pub marked : (s : Shape) (before : List Lit) (level : ℕ) (ts : List Slot) (high : ℕ) → Saved s.ends before ts → Follow s before level (entries_of ts) high → Marked before ts
marked s before level [] high h f = tt
marked s before level (t ∷ ts) high h f = (h.1, open_outdoes s.ends before t.entry.lit f.1, marked s (before ++ t.entry.lit ∷ []) t.entry.level ts high h.2 f.3)

pub lits_at : (ts : List Slot) (i : ℕ) (d : Lit) (t : Slot) → i < length ts → get_or (lits_of (entries_of ts)) i d ≡ (get_or ts i t).entry.lit
lits_at [] i d t h = absurd (omega arith)
lits_at (u ∷ us) zero d t h = refl
lits_at (u ∷ us) (suc i) d t h = lits_at us i d t (omega arith)

marked_at : (before : List Lit) (ts : List Slot) (i : ℕ) (t : Slot) → Marked before ts → i < length ts → ((get_or ts i t).mark ≡ latest (before ++ take i (lits_of (entries_of ts))) (get_or ts i t).entry.lit) × Outdoes (before ++ take i (lits_of (entries_of ts))) (get_or ts i t).entry.lit
marked_at before [] i t h l = absurd (omega arith)
marked_at before (u ∷ us) zero t h l = (
  h.0 ∙ ap (λ ls. latest ls u.entry.lit) (sym (append-nil before)),
  subst (λ (ls : List Lit). Outdoes ls u.entry.lit) (sym (append-nil before)) h.1,
)
marked_at before (u ∷ us) (suc i) t h l =
    let rest = marked_at (before ++ u.entry.lit ∷ []) us i t h.2 (omega arith) in (
      rest.0 ∙ ap (λ ls. latest ls (get_or us i t).entry.lit) (append_assoc before (u.entry.lit ∷ []) (take i (lits_of (entries_of us)))),
      subst (λ (ls : List Lit). Outdoes ls (get_or us i t).entry.lit) (append_assoc before (u.entry.lit ∷ []) (take i (lits_of (entries_of us)))) rest.1,
    )

length-lits : (ts : List Slot) → length (lits_of (entries_of ts)) ≡ length ts
length-lits [] = refl
length-lits (t ∷ ts) = ap suc (length-lits ts)

outdoing : (t : Slot) (ts : List Slot) → AreMarked ts → Outdoing (lits_of (entries_of ts))
outdoing t ts h i d lt =
    let within : i < length ts = omega (arith, length-lits ts) in
    subst (Outdoes (take i (lits_of (entries_of ts)))) (sym (lits_at ts i d t within)) (marked_at [] ts i t h within).1

-- how far the walk back has come: to the first found so far
abbrev pub reach : Option ℕ → List Lit → ℕ
reach None lits = length lits
reach (Some n) lits = n

-- the walk back: what it found so far, and what is left
pub record Walks (lits : List Lit) (l : Lit) (first mark : Option ℕ) : Type 0 where
  pub within : reach first lits ≤ length lits
  pub mark_is : mark ≡ latest (take (reach first lits) lits) l
  pub first_is : first_from 0 lits l ≡ first_some (first_from 0 (take (reach first lits) lits) l) first

pub walk_begins : (lits : List Lit) (l : Lit) (mark : Option ℕ) → mark ≡ latest lits l → Walks lits l None mark
walk_begins lits l mark e = record {
  within = omega arith;
  mark_is = e ∙ ap (λ ls. latest ls l) (sym (take_all (length lits) lits (omega arith)));
  first_is = ap (λ ls. first_from 0 ls l) (sym (take_all (length lits) lits (omega arith))) ∙ sym (first_some-none (first_from 0 (take (length lits) lits) l));
}

pub walk_ends : (lits : List Lit) (l : Lit) (first mark : Option ℕ) → mark ≡ None → Walks lits l first mark → first ≡ first_from 0 lits l
walk_ends lits l first mark none w = sym (w.first_is ∙ ap (λ o. first_some o first) (none_before lits l (reach first lits) w.within (sym w.mark_is ∙ none)))

pub walk_within : (ts : List Slot) (l : Lit) (first mark : Option ℕ) (at : ℕ) → mark ≡ Some at → Walks (lits_of (entries_of ts)) l first mark → at < length ts
walk_within ts l first mark at some w =
    let less : at < reach first (lits_of (entries_of ts)) = last_within (lits_of (entries_of ts)) l (reach first (lits_of (entries_of ts))) at w.within (sym w.mark_is ∙ some) in
    let within = w.within in
    omega (arith, length-lits ts)

pub walk_misses : (ts : List Slot) (l : Lit) (first mark : Option ℕ) (at : ℕ) (t : Slot) → AreMarked ts → mark ≡ Some at → t ≡ get_or ts at t → implies_lit t.entry.lit l ≡ false → Walks (lits_of (entries_of ts)) l first mark → first ≡ first_from 0 (lits_of (entries_of ts)) l
walk_misses ts l first mark at t marks some item miss w =
    let lt : at < length ts = walk_within ts l first mark at some w in
    let lit : get_or (lits_of (entries_of ts)) at l ≡ t.entry.lit = lits_at ts at l t lt ∙ ap (λ (u : Slot). u.entry.lit) (sym item) in
    sym (w.first_is ∙ ap (λ o. first_some o first) (last_miss (lits_of (entries_of ts)) l (reach first (lits_of (entries_of ts))) at (outdoing t ts marks) w.within (sym w.mark_is ∙ some) (ap (λ m. implies_lit m l) lit ∙ miss)))

last_cell : (lits : List Lit) (l : Lit) (n at : ℕ) → n ≤ length lits → latest (take n lits) l ≡ Some at → same_place (get_or lits at l) l ≡ true
last_cell lits l zero at h e = cc
last_cell lits l (suc n) at h e =
    let one : suc n ≡ n + 1 = omega arith in
    cases (same_place (get_or lits n l) l) refl (sym (latest-more lits n l (omega arith)) ∙ ap (λ k. latest (take k lits) l) (sym one) ∙ e) (λ f. last_cell lits l n at (omega arith) f)
  where
    cases : (b : Bool) → same_place (get_or lits n l) l ≡ b → cond b (Some n) (latest (take n lits) l) ≡ Some at → (latest (take n lits) l ≡ Some at → same_place (get_or lits at l) l ≡ true) → same_place (get_or lits at l) l ≡ true
    cases true c f rest = let same : n ≡ at = cc in ap (λ k. same_place (get_or lits k l) l) (sym same) ∙ c
    cases false c f rest = rest f

pub walk_on : (ts : List Slot) (l : Lit) (first mark : Option ℕ) (at : ℕ) (t : Slot) → AreMarked ts → mark ≡ Some at → t ≡ get_or ts at t → implies_lit t.entry.lit l ≡ true → Walks (lits_of (entries_of ts)) l first mark → Walks (lits_of (entries_of ts)) l (Some at) t.mark
walk_on ts l first mark at t marks some item hit w =
    let lt : at < length ts = walk_within ts l first mark at some w in
    let lit : get_or (lits_of (entries_of ts)) at l ≡ t.entry.lit = lits_at ts at l t lt ∙ ap (λ (u : Slot). u.entry.lit) (sym item) in
    let last : latest (take (reach first (lits_of (entries_of ts))) (lits_of (entries_of ts))) l ≡ Some at = sym w.mark_is ∙ some in
    let cell : same_place t.entry.lit l ≡ true = ap (λ m. same_place m l) (sym lit) ∙ last_cell (lits_of (entries_of ts)) l (reach first (lits_of (entries_of ts))) at w.within last in
    let here : t.mark ≡ latest (take at (lits_of (entries_of ts))) t.entry.lit = subst (λ (u : Slot). u.mark ≡ latest (take at (lits_of (entries_of ts))) u.entry.lit) (sym item) (marked_at [] ts at t marks lt).0 in
    let found : first_from 0 (lits_of (entries_of ts)) l ≡ first_some (first_from 0 (take at (lits_of (entries_of ts))) l) (Some at) =
    w.first_is
    ∙ ap (λ o. first_some o first) (last_hit (lits_of (entries_of ts)) l (reach first (lits_of (entries_of ts))) at w.within last (ap (λ m. implies_lit m l) lit ∙ hit))
    ∙ first_some-assoc (first_from 0 (take at (lits_of (entries_of ts))) l) (Some at) first
    in
    record {
      within = omega (arith, length-lits ts);
      mark_is = here ∙ latest_same (take at (lits_of (entries_of ts))) t.entry.lit l cell;
      first_is = found;
    }

-- how many steps the walk may still take
abbrev pub steps : Option ℕ → ℕ
steps None = 0
steps (Some n) = suc n

pub walk_falls : (ts : List Slot) (l : Lit) (mark next : Option ℕ) (at : ℕ) → mark ≡ Some at → Walks (lits_of (entries_of ts)) l (Some at) next → steps next < steps mark
walk_falls ts l mark next at some w = cases next refl w (ap steps some)
  where
    cases : (o : Option ℕ) → next ≡ o → Walks (lits_of (entries_of ts)) l (Some at) next → steps mark ≡ suc at → steps o < steps mark
    cases None e v size = omega arith
    cases (Some n) e v size = let less : n < at = last_within (lits_of (entries_of ts)) l at n v.within (sym v.mark_is ∙ e) in omega arith

-- a literal is true on the trail exactly where the ends imply it or some entry made it true
any-first : (place : ℕ) (lits : List Lit) (l : Lit) → list_any (λ m. implies_lit m l) lits ≡ is_some (first_from place lits l)
any-first place [] l = refl
any-first place (m ∷ ms) l = cases (implies_lit m l) (any-first (place + 1) ms l)
  where
    cases : (b : Bool) → list_any (λ x. implies_lit x l) ms ≡ is_some (first_from (place + 1) ms l) → (b || list_any (λ x. implies_lit x l) ms) ≡ is_some (cond b (Some place) (first_from (place + 1) ms l))
    cases true h = refl
    cases false h = h

pub true-since : (t : Assignment) (l : Lit) → is_true_on t l ≡ (ends_imply t.shape.ends l || is_some (since_on t l))
true-since t l = cases (ends_imply t.shape.ends l)
  where
    cases : (b : Bool) → (b || list_any (λ m. implies_lit m l) (lits_of t.entries)) ≡ (b || is_some (cond b None (first_from 0 (lits_of t.entries) l)))
    cases true = refl
    cases false = any-first 0 (lits_of t.entries) l

first_found : (place : ℕ) (lits : List Lit) (l : Lit) (i : ℕ) → first_from place lits l ≡ Some i → (j : ℕ) × (i ≡ place + j) × (j < length lits) × (implies_lit (get_or lits j l) l ≡ true) × (list_any (λ m. implies_lit m l) (take j lits) ≡ false)
first_found place [] l i h = cc
first_found place (m ∷ ms) l i h = cases (implies_lit m l) refl h (first_found (place + 1) ms l i)
  where
    cases : (b : Bool) → implies_lit m l ≡ b → cond b (Some place) (first_from (place + 1) ms l) ≡ Some i → (first_from (place + 1) ms l ≡ Some i → (j : ℕ) × (i ≡ (place + 1) + j) × (j < length ms) × (implies_lit (get_or ms j l) l ≡ true) × (list_any (λ x. implies_lit x l) (take j ms) ≡ false)) → (j : ℕ) × (i ≡ place + j) × (j < suc (length ms)) × (implies_lit (get_or (m ∷ ms) j l) l ≡ true) × (list_any (λ x. implies_lit x l) (take j (m ∷ ms)) ≡ false)
    cases true e h rest = let same : place ≡ i = cc in (0, omega arith, omega arith, e, refl)
    cases false e h rest = let found = rest h in let j = found.0 in (suc found.0, omega (arith, found.1), omega (arith, found.2), found.3, rw e found.4)

-- the entry at which a literal became true implies it, and none before it does
pub since_found : (t : Assignment) (l : Lit) (i : ℕ) → since_on t l ≡ Some i → (i < length (lits_of t.entries)) × (implies_lit (get_or (lits_of t.entries) i l) l ≡ true) × (implied t.shape.ends (take i (lits_of t.entries)) l ≡ false)
since_found t l i h = cases (ends_imply t.shape.ends l) refl h
  where
    cases : (b : Bool) → ends_imply t.shape.ends l ≡ b → cond b None (first_from 0 (lits_of t.entries) l) ≡ Some i → (i < length (lits_of t.entries)) × (implies_lit (get_or (lits_of t.entries) i l) l ≡ true) × (implied t.shape.ends (take i (lits_of t.entries)) l ≡ false)
    cases true e h = cc
    cases false e h =
        let found = first_found 0 (lits_of t.entries) l i h in
        let same : found.0 ≡ i = omega (arith, found.1) in
        (omega (arith, found.2), ap (λ k. implies_lit (get_or (lits_of t.entries) k l) l) (sym same) ∙ found.3, rw e (ap (λ k. list_any (λ x. implies_lit x l) (take k (lits_of t.entries))) (sym same) ∙ found.4))
