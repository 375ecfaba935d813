-- A learned nogood forces nothing below the level to which the search goes back for it.
use Rattle.std.proofs.Common.{◌⊎◌, inl, inr, ◌≡◌, ℕ, zero, suc, ◌<◌, ◌≤◌, nat_le, not, max, Bool, true, false, cond, List, [], ◌∷◌, ◌++◌, length, get_or, take, Option, None, Some, refl, sym, ◌∙◌, ap, subst, arith}
use Rattle.std.specs.List.{AllByRecursion, Contains, filter}
use Rattle.std.proofs.lemmas.Bool.Decides.{nat_tests}
use Rattle.std.proofs.Math.Seq.{take-append_seam}
use Rattle.literals.specs.declared.lit.Lit.{Lit}
use Rattle.literals.specs.Lits.{same_lit}
use Rattle.literals.specs.Nogoods.{without}
use Rattle.trail.specs.declared.entry.Entry.{Entry}
use Rattle.trail.specs.Implied.{implied}
use Rattle.trail.specs.Assignment.{Assignment, IsAssignment, lits_of, is_true_on, since_on, undone_to}
use Rattle.trail.specs.Forced.{AllButOpen}
use Rattle.trail.proofs.AssignmentLaws.{undone_front}
use Rattle.nogood_store.specs.Propagation.{IsQuiet}
use Rattle.nogood_store.proofs.Members.{contains-has}
use Rattle.conflict_analysis.specs.Levels.{level_at, level_since, level_on, highest, IsAsserting}
use Rattle.conflict_analysis.specs.Marked.{IsBefore}
use Rattle.conflict_analysis.proofs.TrailFacts.{before_since, lits_take}

-- WHAT IS TRUE AFTER UNDOING

low_levels : (level : ℕ) (es : List Entry) → AllByRecursion (λ (e : Entry). e.level ≤ level) (filter (λ e. nat_le e.level level) es)
low_levels level [] = tt
low_levels level (e ∷ es) = by_test (nat_le e.level level) refl (low_levels level es)
  where
    by_test : (b : Bool) → nat_le e.level level ≡ b → AllByRecursion (λ (x : Entry). x.level ≤ level) (filter (λ x. nat_le x.level level) es)
        → AllByRecursion (λ (x : Entry). x.level ≤ level) (cond b (e ∷ filter (λ x. nat_le x.level level) es) (filter (λ x. nat_le x.level level) es))
    by_test true h rest = (grind (arith, nat_tests, h), rest)
    by_test false h rest = rest

level_low : (level : ℕ) (es more : List Entry) (i : ℕ) → AllByRecursion (λ (e : Entry). e.level ≤ level) es → i < length es → level_at (es ++ more) i ≤ level
level_low level [] more i a lt = absurd (omega (arith, lt))
level_low level (e ∷ es) more zero a lt = a.0
level_low level (e ∷ es) more (suc i) a lt = level_low level es more i a.1 (omega (arith, lt))

-- a literal of a higher level is not true there
pub hidden : (t : Assignment) (level : ℕ) (l : Lit) → IsAssignment t → level < level_on t l → is_true_on (undone_to level t) l ≡ true → ⊥
hidden t level l is above e = by_since (since_on t l) refl (before_since t l (length front_entries) early)
  where
    front : (more : List Entry) × (t.entries ≡ (undone_to level t).entries ++ more)
    front = undone_front t level is

    front_entries : List Entry
    front_entries = (undone_to level t).entries

    taken : take (length front_entries) t.entries ≡ front_entries
    taken = ap (take (length front_entries)) front.1 ∙ take-append_seam front_entries front.0

    early : implied t.shape.ends (take (length front_entries) (lits_of t.entries)) l ≡ true
    early = subst (λ ls. implied t.shape.ends ls l ≡ true) (ap lits_of (sym taken) ∙ lits_take t.entries (length front_entries)) e

    by_since : (o : Option ℕ) → since_on t l ≡ o → IsBefore (length front_entries) o → ⊥
    by_since None s b = let none : level_on t l ≡ 0 = ap (level_since t.entries) s in omega (arith, none, above)
    by_since (Some i) s b =
        let at : level_on t l ≡ level_at t.entries i = ap (level_since t.entries) s in
        let low : level_at t.entries i ≤ level = subst (λ es. level_at es i ≤ level) (sym front.1) (level_low level front_entries front.0 i (low_levels level t.entries) b) in
        omega (arith, at, low, above)

-- THE LEARNED NOGOOD

record Reaches (t : Assignment) (lits : List Lit) (low : ℕ) : Type 0 where
  pub lit : Lit
  pub among : Contains lits lit
  pub above : low < level_on t lit

over : (low a b : ℕ) → low < max a b → (low < a) ⊎ (low < b)
over low a b h = by_order (order low a)
  where
    order : (n m : ℕ) → (n < m) ⊎ (m ≤ n)
    order n m = grind arith

    by_order : (low < a) ⊎ (a ≤ low) → (low < a) ⊎ (low < b)
    by_order (inl less) = inl less
    by_order (inr le) = inr (omega (arith, h, le))

contains_here : {X : Type 0} (z x : X) (zs : List X) → z ≡ x → Contains (z ∷ zs) x
contains_here z x zs e = (0, omega arith, e)

contains_next : {X : Type 0} (z x : X) (zs : List X) → Contains zs x → Contains (z ∷ zs) x
contains_next z x zs c = let lt = c.1 in (suc c.0, omega (arith, lt), c.2)

reaches_next : (t : Assignment) (l : Lit) (ls : List Lit) (low : ℕ) → Reaches t ls low → Reaches t (l ∷ ls) low
reaches_next t l ls low rest = record { lit = rest.lit; among = contains_next l rest.lit ls rest.among; above = rest.above }

reaches : (t : Assignment) (lits : List Lit) (low : ℕ) → low < highest t lits → Reaches t lits low
reaches t [] low h = absurd (omega (arith, h))
reaches t (l ∷ ls) low h = by_first (over low (level_on t l) (highest t ls) h) (λ later. reaches t ls low later)
  where
    by_first : (low < level_on t l) ⊎ (low < highest t ls) → (low < highest t ls → Reaches t ls low) → Reaches t (l ∷ ls) low
    by_first (inl first) rec = record { lit = l; among = contains_here l l ls refl; above = first }
    by_first (inr later) rec = reaches_next t l ls low (rec later)

of_head : (l : Lit) (rest ls : List Lit) (m : Lit) → (Contains rest m → Contains ls m) → (k : ℕ) → k < length (l ∷ rest) → get_or (l ∷ rest) k m ≡ m → Contains (l ∷ ls) m
of_head l rest ls m rec zero lt e = contains_here l m ls e
of_head l rest ls m rec (suc k) lt e = contains_next l m ls (rec (k, omega (arith, lt), e))

of_without : (lits : List Lit) (top m : Lit) → Contains (without lits top) m → Contains lits m
of_without [] top m c = c
of_without (l ∷ ls) top m c = by_test (not (same_lit l top)) c (λ d. of_without ls top m d)
  where
    by_test : (b : Bool) → Contains (cond b (l ∷ without ls top) (without ls top)) m → (Contains (without ls top) m → Contains ls m) → Contains (l ∷ ls) m
    by_test true d rec = of_head l (without ls top) ls m rec d.0 d.1 d.2
    by_test false d rec = contains_next l m ls (rec d)

all_at : {X : Type 0} (P : X → Type 0) (xs : List X) (x : X) (k : ℕ) → AllByRecursion P xs → k < length xs → get_or xs k x ≡ x → P x
all_at P [] x k a lt e = absurd (omega (arith, lt))
all_at P (y ∷ ys) x zero a lt e = subst P e a.0
all_at P (y ∷ ys) x (suc k) a lt e = all_at P ys x k a.1 (omega (arith, lt)) e

all_of : {X : Type 0} (P : X → Type 0) (xs : List X) (x : X) → AllByRecursion P xs → Contains xs x → P x
all_of P xs x a c = all_at P xs x c.0 a c.1 c.2

-- it forces nothing at the levels below the one to which the search goes back
pub learned_quiet : (t : Assignment) (lits : List Lit) (level low : ℕ) → IsAssignment t → IsAsserting t lits level → low < level → IsQuiet (undone_to low t) lits
learned_quiet t lits level low is asserting below = record {
  not_met = λ all. hidden t low asserting.top is top_above (all asserting.top top_among);
  not_unit = unit;
}
  where
    second : Reaches t (without lits asserting.top) low
    second = reaches t (without lits asserting.top) low (let next = asserting.next in omega (arith, next, below))

    second_below : level_on t second.lit < level_on t asserting.top
    second_below = all_of (λ m. level_on t m < level_on t asserting.top) (without lits asserting.top) second.lit asserting.others second.among

    top_above : low < level_on t asserting.top
    top_above = let a = second.above in let b = second_below in omega (arith, a, b)

    top_among : Contains lits asserting.top
    top_among = contains-has lits asserting.top asserting.among

    unit : (l : Lit) → AllButOpen (undone_to low t) lits l → ⊥
    unit l u = by_two (u.others asserting.top top_among) (u.others second.lit (of_without lits asserting.top second.lit second.among))
      where
        by_two : (asserting.top ≡ l) ⊎ (is_true_on (undone_to low t) asserting.top ≡ true) → (second.lit ≡ l) ⊎ (is_true_on (undone_to low t) second.lit ≡ true) → ⊥
        by_two (inr e) f = hidden t low asserting.top is top_above e
        by_two (inl e) (inr f) = hidden t low second.lit is second.above f
        by_two (inl e) (inl f) = let same : level_on t second.lit ≡ level_on t asserting.top = ap (level_on t) (f ∙ sym e) in let b = second_below in omega (arith, same, b)
