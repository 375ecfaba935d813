-- How an analysis begins and ends.
use Rattle.std.proofs.Common.{◌≡◌, ℕ, zero, suc, ◌+◌, ◌<◌, ◌≤◌, ◌==◌, ◌||◌, ◌⊎◌, inl, inr, Bool, true, false, not, cond, max, List, [], ◌∷◌, length, get_or, set, Option, None, Some, refl, sym, ◌∙◌, ap, subst, arith}
use Rattle.std.specs.Prelude.{nat_lt}
use Rattle.std.specs.List.{All, AllByRecursion}
use Rattle.std.proofs.lemmas.List.Elements.{All-from_recursion}
use Rattle.std.proofs.lemmas.Bool.Decides.{nat_tests}
use Rattle.literals.specs.declared.lit.Lit.{Lit}
use Rattle.literals.specs.Lits.{IsLit, same_lit}
use Rattle.literals.specs.Nogoods.{Rises, canonical, has_lit, without}
use Rattle.literals.proofs.LitLaws.{same_refl, same_lit-equal}
use Rattle.trail.specs.Assignment.{Assignment, IsAssignment, Names, since_on}
use Rattle.trail.specs.Forced.{AllTrueOn}
use Rattle.nogood_store.specs.Holding.{Held}
use Rattle.nogood_store.proofs.Members.{holds_of, contains-has, has-contains}
use Rattle.conflict_analysis.specs.declared.learned.Start.{Start}
use Rattle.conflict_analysis.specs.declared.learned.Link.{Link}
use Rattle.conflict_analysis.specs.declared.marks.Mark.{Mark}
use Rattle.conflict_analysis.specs.declared.marks.Mark.TheVariants.{Clear, ByEnds, ByEntry}
use Rattle.conflict_analysis.specs.Levels.{level_at, level_on, level_since, IsByEntry, highest, IsAsserting}
use Rattle.conflict_analysis.specs.Chains.{replayed, nogood_of, IsUsable, PivotsDiffer}
use Rattle.conflict_analysis.specs.Marked.{Board, Fits, place_of, mark_of, mark_at, marked_lit, high_count, high_one, is_high, IsMark, IsClear, IsBefore, IsPending, Pends}
use Rattle.conflict_analysis.specs.inner.Runs.{mark_since, Run, Runs, IsHit, IsSettled, IsFromPlace, Setting, Drain, Drains, highest_but, boards_with, LitOfMark}
use Rattle.conflict_analysis.proofs.Standing.{standing_is, has_standing}
use Rattle.literals.proofs.Puts.{joined-nil, all_joined}
use Rattle.std.proofs.lemmas.List.{length-set}
use Rattle.conflict_analysis.proofs.BoardLaws.{set_else}
use Rattle.conflict_analysis.proofs.PlaceLaws.{has_place}
use Rattle.conflict_analysis.proofs.DrainLaws.{drained}
use Rattle.conflict_analysis.proofs.CountLaws.{count_some, count-set, count_one, since_within}
use Rattle.conflict_analysis.proofs.PendLaws.{all_of_has, has_without, hit_of, pends_all, pending_mark}
use Rattle.conflict_analysis.proofs.ResolveLaws.{high_mark, level_high}

clash : {X : Type 0} → true ≡ false → X
clash h = cc

some_same : {X : Type 0} {a b : X} → Some a ≡ Some b → a ≡ b
some_same h = cc

some_none : {X : Type 0} {n : ℕ} → Some n ≡ None → X
some_none h = cc

none_some : {X : Type 0} {x : Lit} → None ≡ Some x → X
none_some h = cc

-- the literal of a mark is one that the board has
pub marked_has : (t : Assignment) (high at : ℕ) (lits : List Lit) (b : Board) (i : ℕ) (x : Lit) → Pends t high at lits b → marked_lit (mark_at b i) ≡ Some x → has_lit lits x ≡ true
marked_has t high at lits b i x p e =
    let placed = p.places i x e in
    (standing_is lits x x (sym (p.shows x placed.1) ∙ ap (λ n. marked_lit (mark_at b n)) placed.0 ∙ e)).0

-- where the walk finds nothing, only what the ends imply is left
pub none_settled : (held : List Held) (t : Assignment) (first : Start) (chain : List Link) (high at : ℕ) (b : Board) (count : ℕ) → IsAssignment t → Runs held t first chain high at b count → ((i : ℕ) (l : Lit) → i < at → IsHit t b i l → ⊥) → IsSettled t high b count
none_settled held t first chain high at b count a r none = inr (low high refl, entries)
  where
    run : Run held t first chain high at b count r.0
    run = r.1

    entries : (i : ℕ) (l : Lit) (j : ℕ) → mark_at b i ≡ ByEntry l j → ⊥
    entries i l j e =
        let has : has_lit r.0 l ≡ true = marked_has t high at r.0 b i l run.pends (ap marked_lit e) in
        let since : since_on t l ≡ Some j = subst (IsMark t) e (run.pends.marks i) in
        let pending : IsPending t high at l = holds_of (IsPending t high at) r.0 l run.pends.each has in
        none j l (subst (IsBefore at) since pending.before) (hit_of t high at r.0 b l j a run.pends has since)

    low : (h : ℕ) → high ≡ h → high ≡ 0
    low zero e = e
    low (suc h) e =
        let counted = run.count in
        let some : 1 ≤ count = run.some (omega arith) in
        let found = count_some t high b.marks Clear (omega arith) in
        let it = high_mark t high at r.0 b found.0 run.pends found.2 in
        absurd (entries found.0 it.0 it.1 it.2)

-- the literals before those by the ends are resolved away
pub drain_begins : (held : List Held) (t : Assignment) (first : Start) (chain : List Link) (high at : ℕ) (b : Board) (count : ℕ) (lits : List Lit) → Run held t first chain high at b count lits → Drain (record { held = held; trail = t; first = first; before = lits }) chain b lits []
drain_begins held t first chain high at b count lits run = record {
  replays = run.replays;
  used = run.used;
  differ = run.differ;
  fresh = all_map chain run.later;
  rises = run.pends.rises;
  named = λ x h. let p = pending x h in (p.named, p.is_true);
  within = λ x h. h;
  stay = λ x i h e. h;
  kept_of = tt;
  kept_by = tt;
  marks = run.pends.marks;
  boards = λ i x e. (marked_has t high at lits b i x run.pends e, (run.pends.places i x e).0);
  all = λ x h. inl (run.pends.shows x (pending x h).named.within ∙ has_standing lits x run.pends.rises h);
}
  where
    pending : (x : Lit) → has_lit lits x ≡ true → IsPending t high at x
    pending x h = holds_of (IsPending t high at) lits x run.pends.each h

    gone : (x : Lit) → IsFromPlace at (since_on t x) → has_lit lits x ≡ false
    gone x f = test (has_lit lits x) refl
      where
        late : (o : Option ℕ) → IsFromPlace at o → IsBefore at o → ⊥
        late None g h = g
        late (Some i) g h = omega arith

        test : (c : Bool) → has_lit lits x ≡ c → has_lit lits x ≡ false
        test true e = absurd (late (since_on t x) f (pending x e).before)
        test false e = e

    all_map : (ks : List Link) → AllByRecursion (λ k. IsFromPlace at (since_on t k.pivot)) ks → AllByRecursion (λ k. has_lit lits k.pivot ≡ false) ks
    all_map [] f = tt
    all_map (k ∷ ks) f = (gone k.pivot f.0, all_map ks f.1)

-- marks of the literals of a run are well formed
pub run_literals : (held : List Held) (t : Assignment) (first : Start) (chain : List Link) (high at : ℕ) (b : Board) (count : ℕ) → Runs held t first chain high at b count → (i : ℕ) → LitOfMark (mark_at b i)
run_literals held t first chain high at b count r i = cases (mark_at b i) refl
  where
    cases : (m : Mark) → mark_at b i ≡ m → LitOfMark m
    cases Clear e = tt
    cases (ByEnds l) e =
        let has : has_lit r.0 l ≡ true = marked_has t high at r.0 b i l r.1.pends (ap marked_lit e) in
        let pending : IsPending t high at l = holds_of (IsPending t high at) r.0 l r.1.pends.each has in
        pending.named.literal
    cases (ByEntry l j) e = tt

one_two : (t : Assignment) (high : ℕ) (ms : List Mark) (i j : ℕ) → i < length ms → j < length ms → (i == j) ≡ false → is_high t high (get_or ms i Clear) ≡ true → is_high t high (get_or ms j Clear) ≡ true → 2 ≤ high_count t high ms
one_two t high ms i j hi hj apart ei ej =
    let whole : high_count t high (set ms i Clear) + high_one t high (get_or ms i Clear) ≡ high_count t high ms + 0 = count-set t high ms i Clear Clear hi in
    let one : high_one t high (get_or ms i Clear) ≡ 1 = ap (λ (k : Bool). cond k 1 0) ei in
    let longer : j < length (set ms i Clear) = rw length-set hj in
    let other : high_one t high (get_or (set ms i Clear) j Clear) ≡ 1 = ap (high_one t high) (set_else ms i j Clear Clear apart) ∙ ap (λ (k : Bool). cond k 1 0) ej in
    let least : high_one t high (get_or (set ms i Clear) j Clear) ≤ high_count t high (set ms i Clear) = count_one t high (set ms i Clear) j Clear longer in
    omega arith

-- one literal alone of the run is of the highest level
pub record IsTop (t : Assignment) (high : ℕ) (lits : List Lit) : Type 0 where
  pub top : Lit
  pub place : ℕ
  pub among : has_lit lits top ≡ true
  pub since : since_on t top ≡ Some place
  pub level : level_on t top ≡ high
  pub others : (x : Lit) → has_lit lits x ≡ true → same_lit x top ≡ false → level_on t x < high

pub run_top : (held : List Held) (t : Assignment) (first : Start) (chain : List Link) (high at : ℕ) (b : Board) (count : ℕ) (lits : List Lit) → Run held t first chain high at b count lits → 0 < high → count ≡ 1 → IsTop t high lits
run_top held t first chain high at b count lits run above one =
    let counted = run.count in
    let found = count_some t high b.marks Clear (omega arith) in
    let it = high_mark t high at lits b found.0 run.pends found.2 in
    let level : level_on t it.0 ≡ high = ap (level_since t.entries) it.4 ∙ it.6 in
    record {
      top = it.0;
      place = it.1;
      among = (standing_is lits it.0 it.0 it.5).0;
      since = it.4;
      level = level;
      others = λ x h apart. below found.0 it.0 it.1 found.1 found.2 it.2 x h apart (since_on t x) refl;
    }
  where
    entry_lit : (m : Mark) (a c : Lit) (i j : ℕ) → m ≡ ByEntry a i → m ≡ ByEntry c j → a ≡ c
    entry_lit m a c i j e f = cc

    below : (k : ℕ) (top : Lit) (i : ℕ) → k < length b.marks → is_high t high (mark_at b k) ≡ true → mark_at b k ≡ ByEntry top i → (x : Lit) → has_lit lits x ≡ true → same_lit x top ≡ false → (o : Option ℕ) → since_on t x ≡ o → level_on t x < high
    below k top i within is_top mark_top x h apart None e = subst (λ n. n < high) (sym (ap (level_since t.entries) e)) above
    below k top i within is_top mark_top x h apart (Some j) e = test (level_on t x == high) refl
      where
        pending : IsPending t high at x
        pending = holds_of (IsPending t high at) lits x run.pends.each h

        inside : place_of b x < length b.marks
        inside = has_place t.shape b x run.pends.fits pending.named.within

        mark : mark_of b x ≡ ByEntry x j
        mark = pending_mark t high at lits b x run.pends h ∙ ap (mark_since x) e

        here : (n m : ℕ) → (n == m) ≡ true → n ≡ m
        here n m g = grind (arith, nat_tests)

        same_level : (n m : ℕ) → (n == m) ≡ true → n ≡ m
        same_level n m g = grind (arith, nat_tests)

        less : (n m : ℕ) → (n == m) ≡ false → n ≤ m → n < m
        less n m g l = grind (arith, nat_tests)

        places : (level_on t x ≡ high) → (d : Bool) → (k == place_of b x) ≡ d → level_on t x < high
        places level true g =
            let top_is : top ≡ x = entry_lit (mark_at b k) top x i j mark_top (ap (mark_at b) (here k (place_of b x) g) ∙ mark) in
            clash (sym (ap (same_lit x) top_is ∙ same_refl x) ∙ apart)
        places level false g =
            let high_there : level_at t.entries j ≡ high = sym (ap (level_since t.entries) e) ∙ level in
            let is_there : is_high t high (get_or b.marks (place_of b x) Clear) ≡ true = ap (is_high t high) mark ∙ level_high t high x j high_there in
            let both : 2 ≤ high_count t high b.marks = one_two t high b.marks k (place_of b x) within inside g is_top is_there in
            let counted = run.count in
            absurd (omega arith)

        test : (c : Bool) → (level_on t x == high) ≡ c → level_on t x < high
        test true f = places (same_level (level_on t x) high f) (k == place_of b x) refl
        test false f = less (level_on t x) high f pending.low

max_zero : (a b : ℕ) → max a b ≡ 0 → (a ≡ 0) × (b ≡ 0)
max_zero a b h = (omega arith, omega arith)

-- the start, met at the level that is its highest
pub level_highest : (t : Assignment) (lits : List Lit) (l : Lit) → has_lit lits l ≡ true → level_on t l ≤ highest t lits
level_highest t [] l h = clash (sym h)
level_highest t (x ∷ xs) l h = cases (same_lit x l) refl h (level_highest t xs l)
  where
    first : (a b c : ℕ) → a ≡ b → a ≤ max b c
    first a b c e = omega arith

    later : (a b c : ℕ) → a ≤ c → a ≤ max b c
    later a b c e = omega arith

    cases : (b : Bool) → same_lit x l ≡ b → (b || has_lit xs l) ≡ true → (has_lit xs l ≡ true → level_on t l ≤ highest t xs) → level_on t l ≤ max (level_on t x) (highest t xs)
    cases true e f rest = first (level_on t l) (level_on t x) (highest t xs) (ap (level_on t) (sym (same_lit-equal x l e)))
    cases false e f rest = later (level_on t l) (level_on t x) (highest t xs) (rest f)

-- the next highest level, read past the one of the highest
next_of : (t : Assignment) (high : ℕ) (top : Lit) (lits : List Lit) → level_on t top ≡ high → ((x : Lit) → has_lit lits x ≡ true → same_lit x top ≡ false → level_on t x < high) → highest_but t high lits ≡ highest t (without lits top)
next_of t high top [] e f = refl
next_of t high top (x ∷ xs) e f = cases (same_lit x top) refl (next_of t high top xs e (λ y h a. f y (later (same_lit x y) y h) a))
  where
    later : (b : Bool) (y : Lit) → has_lit xs y ≡ true → (b || has_lit xs y) ≡ true
    later true y h = refl
    later false y h = h

    own : (n m : ℕ) → n ≡ m → (n == m) ≡ true
    own n m g = grind (arith, nat_tests)

    other : (n m : ℕ) → n < m → (n == m) ≡ false
    other n m g = grind (arith, nat_tests)

    none : (n : ℕ) → max 0 n ≡ n
    none n = omega arith

    cases : (b : Bool) → same_lit x top ≡ b → highest_but t high xs ≡ highest t (without xs top) → highest_but t high (x ∷ xs) ≡ highest t (cond (not b) (x ∷ without xs top) (without xs top))
    cases true g rest =
        let level : level_on t x ≡ high = ap (level_on t) (same_lit-equal x top g) ∙ e in
        ap (λ k. max (cond k 0 (level_on t x)) (highest_but t high xs)) (own (level_on t x) high level) ∙ none (highest_but t high xs) ∙ rest
    cases false g rest =
        let low : level_on t x < high = f x (rw (same_refl x) refl) g in
        ap (λ k. max (cond k 0 (level_on t x)) (highest_but t high xs)) (other (level_on t x) high low) ∙ ap (max (level_on t x)) rest

-- what is learned, where one literal alone was of the highest level
pub learned_asserts : (s : Setting) (chain : List Link) (b : Board) (kept : List Lit) (high : ℕ) (d : Drains s chain b kept) → 0 < high → IsTop s.trail high s.before → IsAsserting s.trail d.0 (highest_but s.trail high d.0)
learned_asserts s chain b kept high d above top =
    let others : (x : Lit) → has_lit d.0 x ≡ true → same_lit x top.top ≡ false → level_on s.trail x < high = λ x h a. top.others x (d.1.within x h) a in
    record {
      top = top.top;
      among = d.1.stay top.top top.place top.among top.since;
      above = subst (λ n. 0 < n) (sym top.level) above;
      others = all_of_has (λ m. level_on s.trail m < level_on s.trail top.top) (without d.0 top.top) (λ m h. subst (λ n. level_on s.trail m < n) (sym top.level) (others m (has_without d.0 top.top m h).0 (has_without d.0 top.top m h).1));
      next = next_of s.trail high top.top d.0 top.level others;
    }

-- what is learned, where only what the ends imply was left
pub learned_none : (s : Setting) (chain : List Link) (b : Board) (kept : List Lit) (d : Drains s chain b kept) → ((x : Lit) (j : ℕ) → has_lit s.before x ≡ true → since_on s.trail x ≡ Some j → ⊥) → IsClear b → d.0 ≡ []
learned_none s chain b kept d none clear = sym (drained s chain b kept clear d) ∙ empty kept d.1.kept_of d.1.kept_by
  where
    empty : (ks : List Lit) → AllByRecursion (λ x. has_lit d.0 x ≡ true) ks → AllByRecursion (λ x. (i : ℕ) × (since_on s.trail x ≡ Some i)) ks → canonical ks ≡ []
    empty [] a c = refl
    empty (k ∷ ks) a c = absurd (none k c.0.0 (d.1.within k a.0) c.0.1)

pub settled_none : (held : List Held) (t : Assignment) (first : Start) (chain : List Link) (high at : ℕ) (b : Board) (count : ℕ) (lits : List Lit) → Run held t first chain high at b count lits → ((i : ℕ) (l : Lit) (j : ℕ) → mark_at b i ≡ ByEntry l j → ⊥) → (x : Lit) (j : ℕ) → has_lit lits x ≡ true → since_on t x ≡ Some j → ⊥
settled_none held t first chain high at b count lits run none x j h e = none (place_of b x) x j (pending_mark t high at lits b x run.pends h ∙ ap (mark_since x) e)

-- the board once the start is met
pub start_pends : (t : Assignment) (high at : ℕ) (n : List Lit) (b new : Board) → Fits t.shape b → IsClear b → Rises n → AllByRecursion (IsPending t high at) n → new ≡ boards_with t b n → Pends t high at n new
start_pends t high at n b new fits clear rises each board =
    subst (Pends t high at n) (sym board)
    (subst (λ (ls : List Lit). Pends t high at ls (boards_with t b n)) (joined-nil n rises)
    (pends_all t high at [] n b (record {
      fits = fits;
      rises = tt;
      each = tt;
      shows = λ l o. ap marked_lit (clear (place_of b l));
      marks = λ i. subst (IsMark t) (sym (clear i)) tt;
      places = λ i l e. none_some (ap marked_lit (sym (clear i)) ∙ e);
    }) each))

pub clear_count : (t : Assignment) (high : ℕ) (ms : List Mark) → ((i : ℕ) → get_or ms i Clear ≡ Clear) → 0 ≡ high_count t high ms
clear_count t high [] f = refl
clear_count t high (m ∷ ms) f = ap (λ k. high_one t high k + 0) (sym (f 0)) ∙ ap (λ k. high_one t high m + k) (clear_count t high ms (λ i. f (suc i)))

start_each : (t : Assignment) (high : ℕ) (n : List Lit) → IsAssignment t → AllByRecursion (Names t.shape) n → AllTrueOn t n → high ≡ highest t n → AllByRecursion (IsPending t high (length t.entries)) n
start_each t high n a named true_ e = all_of_has (IsPending t high (length t.entries)) n (λ l h. record {
  named = holds_of (Names t.shape) n l named h;
  is_true = true_ l (contains-has n l h);
  before = early l (since_on t l) refl;
  low = subst (λ k. level_on t l ≤ k) (sym e) (level_highest t n l h);
})
  where
    early : (l : Lit) (o : Option ℕ) → since_on t l ≡ o → IsBefore (length t.entries) o
    early l None f = tt
    early l (Some j) f = since_within t l j (sym f)

-- where the highest level of the start is above 0, some literal is counted
start_some : (t : Assignment) (high at : ℕ) (n : List Lit) (b : Board) → Pends t high at n b → high ≡ highest t n → 0 < high → 1 ≤ high_count t high b.marks
start_some t high at n b p e above =
    let found = some_highest n (subst (λ k. 0 < k) e above) in
    let l : Lit = found.0 in
    let pending : IsPending t high at l = holds_of (IsPending t high at) n l p.each found.1 in
    counted l pending found.1 (found.2 ∙ sym e) (since_on t l) refl
  where
    some_highest : (ls : List Lit) → 0 < highest t ls → (l : Lit) × (has_lit ls l ≡ true) × (level_on t l ≡ highest t ls)
    some_highest [] h = absurd (omega arith)
    some_highest (x ∷ xs) h = cases (nat_lt (level_on t x) (highest t xs)) refl (λ f. some_highest xs f)
      where
        greater : (a b : ℕ) → nat_lt a b ≡ true → (b ≡ max a b) × (0 < max a b → 0 < b)
        greater a b f = (grind (arith, nat_tests), λ g. grind (arith, nat_tests))

        other : (a b : ℕ) → nat_lt a b ≡ false → a ≡ max a b
        other a b f = grind (arith, nat_tests)

        later : (c : Bool) (y : Lit) → has_lit xs y ≡ true → (c || has_lit xs y) ≡ true
        later true y g = refl
        later false y g = g

        cases : (c : Bool) → nat_lt (level_on t x) (highest t xs) ≡ c → (0 < highest t xs → (l : Lit) × (has_lit xs l ≡ true) × (level_on t l ≡ highest t xs)) → (l : Lit) × (has_lit (x ∷ xs) l ≡ true) × (level_on t l ≡ highest t (x ∷ xs))
        cases true f rest =
            let g = greater (level_on t x) (highest t xs) f in
            let r = rest (g.1 h) in
            (r.0, later (same_lit x r.0) r.0 r.1, r.2 ∙ g.0)
        cases false f rest = (x, rw (same_refl x) refl, other (level_on t x) (highest t xs) f)

    counted : (l : Lit) → IsPending t high at l → has_lit n l ≡ true → level_on t l ≡ high → (o : Option ℕ) → since_on t l ≡ o → 1 ≤ high_count t high b.marks
    counted l pending h level None f =
        let zero_level : level_on t l ≡ 0 = ap (level_since t.entries) f in
        absurd (omega arith)
    counted l pending h level (Some j) f =
        let mark : mark_of b l ≡ ByEntry l j = pending_mark t high at n b l p h ∙ ap (mark_since l) f in
        let there : level_at t.entries j ≡ high = sym (ap (level_since t.entries) f) ∙ level in
        let one : high_one t high (get_or b.marks (place_of b l) Clear) ≡ 1 = ap (high_one t high) mark ∙ ap (λ (k : Bool). cond k 1 0) (level_high t high l j there) in
        let least : high_one t high (get_or b.marks (place_of b l) Clear) ≤ high_count t high b.marks = count_one t high b.marks (place_of b l) Clear (has_place t.shape b l p.fits pending.named.within) in
        omega arith

-- the run begins
pub start_run : (held : List Held) (t : Assignment) (first : Start) (chain : List Link) (high count : ℕ) (n lits : List Lit) (b new : Board)
    → IsAssignment t → chain ≡ [] → nogood_of held first ≡ Some n → AllByRecursion (Names t.shape) n → AllTrueOn t n
    → lits ≡ n → Rises lits → high ≡ highest t lits → Fits t.shape b → IsClear b → new ≡ boards_with t b lits → count ≡ high_count t high new.marks
    → Runs held t first chain high (length t.entries) new count
start_run held t first chain high count n lits b new a empty there named true_ same rises highest_is fits clear board counted =
    let rises_n : Rises n = subst Rises same rises in
    let high_n : high ≡ highest t n = highest_is ∙ ap (highest t) same in
    let pends : Pends t high (length t.entries) n new = start_pends t high (length t.entries) n b new fits clear rises_n (start_each t high n a named true_ high_n) (board ∙ ap (boards_with t b) same) in
    subst (λ (ks : List Link). Runs held t first ks high (length t.entries) new count) (sym empty) (
      n,
      record {
        pends = pends;
        replays = there;
        used = tt;
        count = counted;
        some = λ above. subst (λ k. 1 ≤ k) (sym counted) (start_some t high (length t.entries) n new pends high_n above);
        later = tt;
        differ = tt;
      },
    )

-- what holds of what is learned
pub record IsLearned (held : List Held) (t : Assignment) (start : Start) (chain : List Link) (high : ℕ) (nogood : List Lit) : Type 0 where
  pub used : AllByRecursion (λ k. IsUsable held t k.used) chain
  pub replays : replayed held start chain ≡ Some nogood
  pub differ : PivotsDiffer chain
  pub named : AllByRecursion (Names t.shape) nogood
  pub by_entries : AllByRecursion (IsByEntry t) nogood
  pub all_true : AllTrueOn t nogood
  pub asserts : (nogood ≡ []) ⊎ IsAsserting t nogood (highest_but t high nogood)
  pub empty : high ≡ 0 → nogood ≡ []

-- the runs that end an analysis
abbrev pub Ends : List Held → Assignment → Start → List Link → ℕ → Board → Type 0
Ends held t start chain high b = (at : ℕ) × (n : ℕ) × Runs held t start chain high at b n × IsSettled t high b n

abbrev pub Lefts : List Link → Board → List Link → Board → List Lit → Type 0
Lefts chain b after new kept = (of : Setting) → Drains of chain b [] → Drains of after new kept

pub left_of : (held : List Held) (t : Assignment) (start : Start) (chain after : List Link) (high : ℕ) (b new : Board) (kept : List Lit) → (e : Ends held t start chain high b) → Lefts chain b after new kept → Drains (record { held = held; trail = t; first = start; before = e.2.0 }) after new kept
left_of held t start chain after high b new kept e left =
    left (record { held = held; trail = t; first = start; before = e.2.0 }) (e.2.0, drain_begins held t start chain high e.0 b e.1 e.2.0 e.2.1)

pub kept_literals : (s : Setting) (chain : List Link) (b : Board) (kept : List Lit) → (d : Drains s chain b kept) → All IsLit kept
kept_literals s chain b kept d = All-from_recursion IsLit kept (each kept d.1.kept_of)
  where
    each : (ks : List Lit) → AllByRecursion (λ x. has_lit d.0 x ≡ true) ks → AllByRecursion IsLit ks
    each [] a = tt
    each (k ∷ ks) a = ((d.1.named k a.0).0.literal, each ks a.1)

pub learned : (held : List Held) (t : Assignment) (start : Start) (chain after : List Link) (high : ℕ) (b new : Board) (kept nogood : List Lit) → Ends held t start chain high b → Lefts chain b after new kept → IsClear new → nogood ≡ canonical kept → IsLearned held t start after high nogood
learned held t start chain after high b new kept nogood e left clear same = cases e.3
  where
    d : Drains (record { held = held; trail = t; first = start; before = e.2.0 }) after new kept
    d = left_of held t start chain after high b new kept e left

    whole : nogood ≡ d.0
    whole = same ∙ drained (record { held = held; trail = t; first = start; before = e.2.0 }) after new kept clear d

    make : (d.0 ≡ []) ⊎ IsAsserting t d.0 (highest_but t high d.0) → (high ≡ 0 → d.0 ≡ []) → IsLearned held t start after high nogood
    make asserts empty = subst (IsLearned held t start after high) (sym whole) (record {
      used = d.1.used;
      replays = d.1.replays;
      differ = d.1.differ;
      named = all_of_has (Names t.shape) d.0 (λ x h. (d.1.named x h).0);
      by_entries = subst (λ (ls : List Lit). AllByRecursion (IsByEntry t) ls) whole (subst (λ (ls : List Lit). AllByRecursion (IsByEntry t) ls) (sym same) (all_joined (IsByEntry t) [] kept tt d.1.kept_by));
      all_true = λ x c. (d.1.named x (has-contains d.0 x c)).1;
      asserts = asserts;
      empty = empty;
    })

    cases : IsSettled t high b e.1 → IsLearned held t start after high nogood
    cases (inl f) =
        make (inr (learned_asserts (record { held = held; trail = t; first = start; before = e.2.0 }) after new kept high d f.0 (run_top held t start chain high e.0 b e.1 e.2.0 e.2.1 f.0 f.1)))
        (λ zero_high. absurd (none high f.0 zero_high))
      where
        none : (n : ℕ) → 0 < n → n ≡ 0 → ⊥
        none n p q = omega arith
    cases (inr f) =
        let nothing : d.0 ≡ [] = learned_none (record { held = held; trail = t; first = start; before = e.2.0 }) after new kept d (settled_none held t start chain high e.0 b e.1 e.2.0 e.2.1 f.1) clear in
        make (inl nothing) (λ zero_high. nothing)
