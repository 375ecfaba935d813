-- Nogoods by id: two ascending lists as one.
use Rattle.std.proofs.Common.{◌≡◌, ◌<◌, ◌≤◌, ◌+◌, ◌==◌, ℕ, zero, suc, nat_le, nat_lt, Bool, true, false, ◌&&◌, ◌||◌, cond, List, [], ◌∷◌, ◌++◌, length, get_or, Option, None, Some, refl, sym, ◌∙◌, ap, subst, true≢false, arith}
use Rattle.std.specs.List.{AllByRecursion, filter, list_any}
use Rattle.std.specs.List.Sorted.{IsPartitionedBy}
use Rattle.std.proofs.lemmas.Bool.{eqb-true}
use Rattle.std.proofs.lemmas.Bool.Decides.{nat_tests}
use Rattle.literals.specs.declared.lit.Lit.{Lit}
use Rattle.proof_checker.specs.declared.live.Live.{Live}
use Rattle.derivation_meaning.specs.State.{is_empty}
use Rattle.proof_checker.specs.inner.Replay.{found_in}
use Rattle.proof_checker.specs.inner.Merged.{put, merged, Ascend, IsTable, IsPlace}

abbrev pub AllLive : (Live → Type 0) → List Live → Type 0
AllLive P live = AllByRecursion P live

-- NUMBERS

le_true : (a b : ℕ) → a < b → nat_le a b ≡ true
le_true a b less = grind (arith, nat_tests)

le_false : (a b : ℕ) → b < a → nat_le a b ≡ false
le_false a b less = grind (arith, nat_tests)

le_never : (a b : ℕ) → a < b → nat_le a b ≡ false → ⊥
le_never a b less e = true≢false (sym (le_true a b less) ∙ e)

eq_never : (a b id : ℕ) → (a == id) ≡ true → (b == id) ≡ true → nat_le a b ≡ false → ⊥
eq_never a b id p q e = let same : a ≡ b = eqb-true a id p ∙ sym (eqb-true b id q) in true≢false (sym (le_refl b) ∙ sym (ap (λ n. nat_le n b) same) ∙ e)
  where
    le_refl : (n : ℕ) → nat_le n n ≡ true
    le_refl n = grind (arith, nat_tests)

above_other : (x id : ℕ) → id < x → (x == id) ≡ false
above_other x id less = grind (arith, nat_tests)

-- ONE MORE AT THE END

put_end : (one : Live) (xs : List Live) (last : Live) → one.id < last.id → put one (xs ++ last ∷ []) ≡ put one xs ++ last ∷ []
put_end one [] last less = rw (le_true one.id last.id less) refl
put_end one (x ∷ xs) last less = go (nat_le one.id x.id) (put_end one xs last less)
  where
    go : (b : Bool) → put one (xs ++ last ∷ []) ≡ put one xs ++ last ∷ []
        → cond b (one ∷ x ∷ (xs ++ last ∷ [])) (x ∷ put one (xs ++ last ∷ [])) ≡ cond b (one ∷ x ∷ xs) (x ∷ put one xs) ++ last ∷ []
    go true e = refl
    go false e = ap (λ (ys : List Live). x ∷ ys) e

put_last : (last : Live) (xs : List Live) → AllLive (λ x. x.id < last.id) xs → put last xs ≡ xs ++ last ∷ []
put_last last [] below = refl
put_last last (x ∷ xs) below =
    rw (le_false last.id x.id below.0) (ap (λ (ys : List Live). x ∷ ys) (put_last last xs below.1))

-- a passing nogood with the last id
pub merged_passing : (held passing : List Live) (last : Live) → AllLive (λ x. x.id < last.id) held → merged held (passing ++ last ∷ []) ≡ merged held passing ++ last ∷ []
merged_passing [] passing last below = refl
merged_passing (one ∷ held) passing last below =
    ap (put one) (merged_passing held passing last below.1) ∙ put_end one (merged held passing) last below.0

-- a held nogood with the last id
pub merged_held : (held passing : List Live) (last : Live) → AllLive (λ x. x.id < last.id) held → AllLive (λ x. x.id < last.id) passing
    → merged (held ++ last ∷ []) passing ≡ merged held passing ++ last ∷ []
merged_held [] passing last below others = put_last last passing others
merged_held (one ∷ held) passing last below others =
    ap (put one) (merged_held held passing last below.1 others) ∙ put_end one (merged held passing) last below.0

-- ALL

all_put : (P : Live → Type 0) (one : Live) (xs : List Live) → P one → AllLive P xs → AllLive P (put one xs)
all_put P one [] h all = (h, tt)
all_put P one (x ∷ xs) h all = go (nat_le one.id x.id) (all_put P one xs h all.1)
  where
    go : (b : Bool) → AllLive P (put one xs) → AllLive P (cond b (one ∷ x ∷ xs) (x ∷ put one xs))
    go true e = (h, all)
    go false e = (all.0, e)

pub all_merged : (P : Live → Type 0) (held passing : List Live) → AllLive P held → AllLive P passing → AllLive P (merged held passing)
all_merged P [] passing h p = p
all_merged P (one ∷ held) passing h p = all_put P one (merged held passing) h.0 (all_merged P held passing h.1 p)

-- THOSE THAT ARE HELD

abbrev IsAfter : Live → Live → Type 0
IsAfter one x = x.is_held ≡ true → one.id < x.id

put_held : (one : Live) (xs : List Live) → one.is_held ≡ true → AllLive (IsAfter one) xs → filter (λ (x : Live). x.is_held) (put one xs) ≡ one ∷ filter (λ (x : Live). x.is_held) xs
put_held one [] held after = rw held refl
put_held one (x ∷ xs) held after = go (nat_le one.id x.id) refl (put_held one xs held after.1)
  where
    skip : (b : Bool) → x.is_held ≡ b → nat_le one.id x.id ≡ false → filter (λ (y : Live). y.is_held) (put one xs) ≡ one ∷ filter (λ (y : Live). y.is_held) xs
        → cond b (x ∷ filter (λ (y : Live). y.is_held) (put one xs)) (filter (λ (y : Live). y.is_held) (put one xs))
        ≡ one ∷ cond b (x ∷ filter (λ (y : Live). y.is_held) xs) (filter (λ (y : Live). y.is_held) xs)
    skip true is before e = absurd (le_never one.id x.id (after.0 is) before)
    skip false is before e = e

    go : (b : Bool) → nat_le one.id x.id ≡ b → filter (λ (y : Live). y.is_held) (put one xs) ≡ one ∷ filter (λ (y : Live). y.is_held) xs
        → filter (λ (y : Live). y.is_held) (cond b (one ∷ x ∷ xs) (x ∷ put one xs)) ≡ one ∷ filter (λ (y : Live). y.is_held) (x ∷ xs)
    go true is e = rw held refl
    go false is e = skip x.is_held refl is e

none_held : (one : Live) (passing : List Live) → AllLive (λ x. x.is_held ≡ false) passing → AllLive (IsAfter one) passing
none_held one [] all = tt
none_held one (x ∷ xs) all = (λ h. absurd (true≢false (sym h ∙ all.0)), none_held one xs all.1)

no_filter : (passing : List Live) → AllLive (λ x. x.is_held ≡ false) passing → filter (λ (x : Live). x.is_held) passing ≡ []
no_filter [] all = refl
no_filter (x ∷ xs) all = rw (all.0) (no_filter xs all.1)

weaken : (one : Live) (xs : List Live) → AllLive (λ x. one.id < x.id) xs → AllLive (IsAfter one) xs
weaken one [] all = tt
weaken one (x ∷ xs) all = (λ h. all.0, weaken one xs all.1)

-- those of both that are held are the held ones
pub merged_filter : (held passing : List Live) → Ascend held → AllLive (λ x. x.is_held ≡ true) held → AllLive (λ x. x.is_held ≡ false) passing
    → filter (λ (x : Live). x.is_held) (merged held passing) ≡ held
merged_filter [] passing up all none = no_filter passing none
merged_filter (one ∷ held) passing up all none =
    put_held one (merged held passing) all.0 (all_merged (IsAfter one) held passing (weaken one held up.0) (none_held one passing none))
    ∙ ap (λ (xs : List Live). one ∷ xs) (merged_filter held passing up.1 all.1 none)

-- LOOKING UP

abbrev pub or_else : Option (List Lit) → Option (List Lit) → Option (List Lit)
or_else None other = other
or_else (Some nogood) other = Some nogood

found_put : (one : Live) (xs : List Live) (id : ℕ) → found_in (put one xs) id ≡ cond (one.id == id) (Some one.nogood) (found_in xs id)
found_put one [] id = refl
found_put one (x ∷ xs) id = go (nat_le one.id x.id) refl (found_put one xs id)
  where
    order : (a b : Bool) → (one.id == id) ≡ a → (x.id == id) ≡ b → nat_le one.id x.id ≡ false → found_in (put one xs) id ≡ cond a (Some one.nogood) (found_in xs id)
        → cond b (Some x.nogood) (found_in (put one xs) id) ≡ cond a (Some one.nogood) (cond b (Some x.nogood) (found_in xs id))
    order true true p q less e = absurd (eq_never one.id x.id id p q less)
    order true false p q less e = e
    order false true p q less e = refl
    order false false p q less e = e

    go : (b : Bool) → nat_le one.id x.id ≡ b → found_in (put one xs) id ≡ cond (one.id == id) (Some one.nogood) (found_in xs id)
        → found_in (cond b (one ∷ x ∷ xs) (x ∷ put one xs)) id ≡ cond (one.id == id) (Some one.nogood) (found_in (x ∷ xs) id)
    go true is e = refl
    go false is e = order (one.id == id) (x.id == id) refl refl is e

pub found_merged : (held passing : List Live) (id : ℕ) → found_in (merged held passing) id ≡ or_else (found_in held id) (found_in passing id)
found_merged [] passing id = refl
found_merged (one ∷ held) passing id =
    found_put one (merged held passing) id ∙ go (one.id == id) (found_merged held passing id)
  where
    go : (b : Bool) → found_in (merged held passing) id ≡ or_else (found_in held id) (found_in passing id)
        → cond b (Some one.nogood) (found_in (merged held passing) id) ≡ or_else (cond b (Some one.nogood) (found_in held id)) (found_in passing id)
    go true e = refl
    go false e = e

-- IN AN ASCENDING LIST

ids_at : (xs : List Live) (one : Live) (i : ℕ) (d : Live) → AllLive (λ x. one.id < x.id) xs → i < length xs → one.id < (get_or xs i d).id
ids_at [] one i d all below = absurd (omega (arith, below))
ids_at (x ∷ xs) one zero d all below = all.0
ids_at (x ∷ xs) one (suc i) d all below = ids_at xs one i d all.1 (omega (arith, below))

ascend_at : (xs : List Live) (i j : ℕ) (d : Live) → Ascend xs → i ≤ j → j < length xs → (get_or xs i d).id ≤ (get_or xs j d).id
ascend_at [] i j d up le below = absurd (omega (arith, below))
ascend_at (x ∷ xs) zero zero d up le below = omega arith
ascend_at (x ∷ xs) zero (suc j) d up le below = let l = ids_at xs x j d up.0 (omega (arith, below)) in omega (arith, l)
ascend_at (x ∷ xs) (suc i) zero d up le below = absurd (omega (arith, le))
ascend_at (x ∷ xs) (suc i) (suc j) d up le below = ascend_at xs i j d up.1 (omega (arith, le)) (omega (arith, below))

pub split_by : (xs : List Live) (id : ℕ) → Ascend xs → IsPartitionedBy (λ x. nat_lt x.id id) xs
split_by xs id up i j d le below e = less (get_or xs i d).id (get_or xs j d).id id (ascend_at xs i j d up le below) e
  where
    less : (a b c : ℕ) → a ≤ b → nat_lt b c ≡ true → nat_lt a c ≡ true
    less a b c le e = grind (arith, nat_tests)

above_none : (xs : List Live) (id : ℕ) → AllLive (λ x. id < x.id) xs → found_in xs id ≡ None
above_none [] id all = refl
above_none (x ∷ xs) id all = rw (above_other x.id id all.0) (above_none xs id all.1)

above_all : (one : Live) (xs : List Live) (id : ℕ) → id ≤ one.id → AllLive (λ x. one.id < x.id) xs → AllLive (λ x. id < x.id) xs
above_all one [] id le all = tt
above_all one (x ∷ xs) id le all = let l = all.0 in (omega (arith, le, l), above_all one xs id le all.1)

below_other : (x id : ℕ) → nat_lt x id ≡ true → (x == id) ≡ false
below_other x id e = grind (arith, nat_tests)

not_below : (x id : ℕ) → nat_lt x id ≡ false → id ≤ x
not_below x id e = grind (arith, nat_tests)

all_below : (xs : List Live) (id : ℕ) → ((i : ℕ) (d : Live) → i < length xs → nat_lt (get_or xs i d).id id ≡ true) → found_in xs id ≡ None
all_below [] id all = refl
all_below (x ∷ xs) id all =
    let other = below_other x.id id (all 0 x (omega arith)) in
    rw other (all_below xs id (λ i d below. all (suc i) d (omega (arith, below))))

-- where each stands before the id's place, it is not there
pub found_end : (xs : List Live) (id k : ℕ) → IsPlace xs id k → length xs ≤ k → found_in xs id ≡ None
found_end xs id k at above = all_below xs id (λ i d below. at.0 i d (omega arith) (omega (arith, below, above)))

first_here : (x : Live) (xs : List Live) (id : ℕ) → AllLive (λ y. x.id < y.id) xs → id ≤ x.id → (b : Bool) → (x.id == id) ≡ b → found_in (x ∷ xs) id ≡ cond b (Some x.nogood) None
first_here x xs id up le true e = rw e refl
first_here x xs id up le false e = rw e (above_none xs id (above_all x xs id le up))

at_place : (xs : List Live) (id k : ℕ) (d : Live) → Ascend xs → k < length xs → ((i : ℕ) → i < k → nat_lt (get_or xs i d).id id ≡ true) → nat_lt (get_or xs k d).id id ≡ false
    → found_in xs id ≡ cond ((get_or xs k d).id == id) (Some (get_or xs k d).nogood) None
at_place [] id k d up below before from = absurd (omega (arith, below))
at_place (x ∷ xs) id zero d up below before from = first_here x xs id up.0 (not_below x.id id from) (x.id == id) refl
at_place (x ∷ xs) id (suc k) d up below before from =
    let other = below_other x.id id (before 0 (omega arith)) in
    rw other (at_place xs id k d up.1 (omega (arith, below)) (λ i lt. before (suc i) (omega (arith, lt))) from)

-- what stands at the id's place has it, or none has
pub found_at : (xs : List Live) (id k : ℕ) (d : Live) → Ascend xs → IsPlace xs id k → k < length xs
    → found_in xs id ≡ cond ((get_or xs k d).id == id) (Some (get_or xs k d).nogood) None
found_at xs id k d up at below = at_place xs id k d up below (λ i lt. at.0 i d (omega arith) lt) (at.1 k d (omega arith) below)

same_id : (a b : ℕ) → a ≡ b → (a == b) ≡ true
same_id a b e = grind (arith, nat_tests)

other_id : (a b : ℕ) → (a ≡ b → ⊥) → (a == b) ≡ false
other_id a b e = grind (arith, nat_tests)

-- so it is found where it has the id
pub found_then : (xs : List Live) (id k : ℕ) (x : Live) → Ascend xs → IsPlace xs id k → k < length xs → x ≡ get_or xs k x → x.id ≡ id
    → found_in xs id ≡ Some x.nogood
found_then xs id k x up at below is e =
    found_at xs id k x up at below ∙ ap (λ (y : Live). cond (y.id == id) (Some y.nogood) None) (sym is) ∙ ap (λ b. cond b (Some x.nogood) None) (same_id x.id id e)

pub found_else : (xs : List Live) (id k : ℕ) (x : Live) → Ascend xs → IsPlace xs id k → k < length xs → x ≡ get_or xs k x → (x.id ≡ id → ⊥)
    → found_in xs id ≡ None
found_else xs id k x up at below is e =
    found_at xs id k x up at below ∙ ap (λ (y : Live). cond (y.id == id) (Some y.nogood) None) (sym is) ∙ ap (λ b. cond b (Some x.nogood) None) (other_id x.id id e)

-- TABLES

all_more : (P : Live → Type 0) (xs : List Live) (last : Live) → AllLive P xs → P last → AllLive P (xs ++ last ∷ [])
all_more P [] last all h = (h, tt)
all_more P (x ∷ xs) last all h = (all.0, all_more P xs last all.1 h)

pub ascend_more : (xs : List Live) (last : Live) → Ascend xs → AllLive (λ x. x.id < last.id) xs → Ascend (xs ++ last ∷ [])
ascend_more [] last up below = (tt, tt)
ascend_more (x ∷ xs) last up below = (all_more (λ y. x.id < y.id) xs last up.0 below.0, ascend_more xs last up.1 below.1)

below_more : (next more : ℕ) (xs : List Live) → next ≤ more → AllLive (λ x. x.id < next) xs → AllLive (λ x. x.id < more) xs
below_more next more [] le all = tt
below_more next more (x ∷ xs) le all = let l = all.0 in (omega (arith, le, l), below_more next more xs le all.1)

-- THE EMPTY NOGOOD

any_put : (test : Live → Bool) (one : Live) (xs : List Live) → list_any test (put one xs) ≡ (test one || list_any test xs)
any_put test one [] = refl
any_put test one (x ∷ xs) = go (nat_le one.id x.id) (any_put test one xs)
  where
    swap : (a b c : Bool) → (a || (b || c)) ≡ (b || (a || c))
    swap true true c = refl
    swap true false c = refl
    swap false true c = refl
    swap false false c = refl

    go : (b : Bool) → list_any test (put one xs) ≡ (test one || list_any test xs)
        → list_any test (cond b (one ∷ x ∷ xs) (x ∷ put one xs)) ≡ (test one || (test x || list_any test xs))
    go true e = refl
    go false e = ap (λ c. test x || c) e ∙ swap (test x) (test one) (list_any test xs)

abbrev IsHeldEmpty : Live → Bool
IsHeldEmpty one = one.is_held && is_empty one.nogood

none_empty : (passing : List Live) → AllLive (λ x. x.is_held ≡ false) passing → list_any IsHeldEmpty passing ≡ false
none_empty [] all = refl
none_empty (x ∷ xs) all = rw (all.0) (none_empty xs all.1)

pub held_any : (next : ℕ) (held passing : List Live) → IsTable next held passing
    → list_any (λ (one : Live). one.is_held && is_empty one.nogood) (merged held passing) ≡ list_any (λ (one : Live). one.is_held && is_empty one.nogood) held
held_any next held passing is = go held passing is.passing_go
  where
    go : (held passing : List Live) → AllLive (λ x. x.is_held ≡ false) passing → list_any IsHeldEmpty (merged held passing) ≡ list_any IsHeldEmpty held
    go [] passing all = none_empty passing all
    go (one ∷ held) passing all = any_put IsHeldEmpty one (merged held passing) ∙ ap (λ c. IsHeldEmpty one || c) (go held passing all)

-- CHANGES

pub none_table : IsTable 1 [] []
none_table = record { held_up = tt; passing_up = tt; held_below = tt; passing_below = tt; held_stay = tt; passing_go = tt }

pub settled_table : (next : ℕ) (held passing : List Live) → IsTable next held passing → IsTable next held []
settled_table next held passing is = record { held_up = is.held_up; passing_up = tt; held_below = is.held_below; passing_below = tt; held_stay = is.held_stay; passing_go = tt }

pub settled_live : (next : ℕ) (held passing : List Live) → IsTable next held passing → merged held [] ≡ filter (λ (one : Live). one.is_held) (merged held passing)
settled_live next held passing is =
    sym (all_held held is.held_stay) ∙ merged_filter held [] is.held_up is.held_stay tt ∙ sym (merged_filter held passing is.held_up is.held_stay is.passing_go)
  where
    all_held : (held : List Live) → AllLive (λ x. x.is_held ≡ true) held → filter (λ (x : Live). x.is_held) (merged held []) ≡ merged held []
    all_held held all = all_kept (merged held []) (all_merged (λ x. x.is_held ≡ true) held [] all tt)
      where
        all_kept : (xs : List Live) → AllLive (λ x. x.is_held ≡ true) xs → filter (λ (x : Live). x.is_held) xs ≡ xs
        all_kept [] all = refl
        all_kept (x ∷ xs) all =
            ap (λ b. cond b (x ∷ filter (λ (y : Live). y.is_held) xs) (filter (λ (y : Live). y.is_held) xs)) all.0 ∙ ap (λ ys. x ∷ ys) (all_kept xs all.1)

pub held_table : (next : ℕ) (held passing : List Live) (last : Live) → IsTable next held passing → last.id ≡ next → last.is_held ≡ true → IsTable (next + 1) (held ++ last ∷ []) passing
held_table next held passing last is id stays =
    let below : AllLive (λ x. x.id < last.id) held = subst (λ n. AllLive (λ x. x.id < n) held) (sym id) is.held_below in
    record {
      held_up = ascend_more held last is.held_up below;
      passing_up = is.passing_up;
      held_below = all_more (λ x. x.id < next + 1) held last (below_more next (next + 1) held (omega arith) is.held_below) (omega (arith, id));
      passing_below = below_more next (next + 1) passing (omega arith) is.passing_below;
      held_stay = all_more (λ x. x.is_held ≡ true) held last is.held_stay stays;
      passing_go = is.passing_go;
    }

pub passing_table : (next : ℕ) (held passing : List Live) (last : Live) → IsTable next held passing → last.id ≡ next → last.is_held ≡ false → IsTable (next + 1) held (passing ++ last ∷ [])
passing_table next held passing last is id goes =
    let below : AllLive (λ x. x.id < last.id) passing = subst (λ n. AllLive (λ x. x.id < n) passing) (sym id) is.passing_below in
    record {
      held_up = is.held_up;
      passing_up = ascend_more passing last is.passing_up below;
      held_below = below_more next (next + 1) held (omega arith) is.held_below;
      passing_below = all_more (λ x. x.id < next + 1) passing last (below_more next (next + 1) passing (omega arith) is.passing_below) (omega (arith, id));
      held_stay = is.held_stay;
      passing_go = all_more (λ x. x.is_held ≡ false) passing last is.passing_go goes;
    }

pub passing_more : (next more : ℕ) (held passing after : List Live) (last : Live) → IsTable next held passing → after ≡ passing ++ last ∷ [] → more ≡ next + 1
    → last.id ≡ next → last.is_held ≡ false → IsTable more held after
passing_more next more held passing after last is list count id goes =
    subst (λ xs. IsTable more held xs) (sym list) (subst (λ n. IsTable n held (passing ++ last ∷ [])) (sym count) (passing_table next held passing last is id goes))

pub held_live : (next : ℕ) (held passing : List Live) (last : Live) → IsTable next held passing → last.id ≡ next → merged (held ++ last ∷ []) passing ≡ merged held passing ++ last ∷ []
held_live next held passing last is id =
    merged_held held passing last (subst (λ n. AllLive (λ x. x.id < n) held) (sym id) is.held_below) (subst (λ n. AllLive (λ x. x.id < n) passing) (sym id) is.passing_below)

pub passing_live : (next : ℕ) (held passing : List Live) (last : Live) → IsTable next held passing → last.id ≡ next → merged held (passing ++ last ∷ []) ≡ merged held passing ++ last ∷ []
passing_live next held passing last is id = merged_passing held passing last (subst (λ n. AllLive (λ x. x.id < n) held) (sym id) is.held_below)
