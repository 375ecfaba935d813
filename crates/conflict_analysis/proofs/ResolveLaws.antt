-- One resolution of an analysis.
use Rattle.std.proofs.Common.{◌≡◌, ℕ, zero, suc, ◌+◌, ◌<◌, ◌≤◌, ◌⊎◌, inl, inr, Bool, true, false, cond, List, [], ◌∷◌, ◌++◌, length, get_or, set, take, slice_get, Option, None, Some, refl, sym, ◌∙◌, ap, subst, arith}
use Rattle.std.specs.List.{AllByRecursion, Contains}
use Rattle.std.proofs.lemmas.Bool.Decides.{nat_tests}
use Rattle.std.proofs.lemmas.Option.{slice_get_within, get_or_from_slice_get}
use Rattle.literals.specs.declared.lit.Lit.{Lit}
use Rattle.literals.specs.Lits.{implies_lit, same_lit, complement_of}
use Rattle.literals.specs.Nogoods.{same_place, Rises, put_lit, joined, has_lit, without, answers, resolvent, resolved_with}
use Rattle.literals.proofs.LitLaws.{same_refl, same_lit-equal, complement-complement}
use Rattle.literals.proofs.OrderLaws.{implies_other}
use Rattle.trail.specs.declared.shape.Shape.{Shape}
use Rattle.trail.specs.declared.entry.Entry.{Entry}
use Rattle.trail.specs.declared.entry.Why.{Why}
use Rattle.trail.specs.declared.entry.Why.TheVariants.{Decision, Held as ByHeld, Shown as ByShown}
use Rattle.trail.specs.Implied.{implied}
use Rattle.trail.specs.Assignment.{Assignment, IsAssignment, Names, lits_of, is_true_on, since_on}
use Rattle.literals.proofs.ChainLaws.{chain_push}
use Rattle.nogood_store.specs.Holding.{Held}
use Rattle.nogood_store.proofs.Members.{holds_of, contains-has, has-contains}
use Rattle.conflict_analysis.specs.declared.learned.Start.{Start}
use Rattle.conflict_analysis.specs.declared.learned.Link.{Link}
use Rattle.conflict_analysis.specs.declared.marks.Mark.{Mark}
use Rattle.conflict_analysis.specs.declared.marks.Mark.TheVariants.{Clear, ByEnds, ByEntry}
use Rattle.conflict_analysis.specs.Justified.{trail_of, IsReasonFor, Stands, IsJustified}
use Rattle.conflict_analysis.specs.Levels.{level_at, level_on, level_since}
use Rattle.conflict_analysis.specs.Chains.{nogood_of, linked, replayed, IsUsable, PivotsDiffer}
use Rattle.conflict_analysis.specs.Marked.{Board, HasPlace, place_of, mark_of, mark_at, unmarked, marked_lit, is_high, high_one, high_count, IsMark, IsBefore, IsPending, Pends, standing}
use Rattle.conflict_analysis.specs.inner.Runs.{mark_since, covers_lit, board_with, boards_with, nogood_by, IsFrom, IsHit, IsFromPlace, Run, Runs, IsLast, IsReady}
use Rattle.conflict_analysis.proofs.PlaceLaws.{has_place, is_placed}
use Rattle.conflict_analysis.proofs.Standing.{standing_is, resolvent_at}
use Rattle.conflict_analysis.proofs.TrailFacts.{before_since, before_true, since_entry, since_later, levels_rise, stands_at, lits_take, level_take}
use Rattle.conflict_analysis.proofs.CountLaws.{count-set, count_some, level_read}
use Rattle.conflict_analysis.proofs.RunLaws.{board_old, board_new}
use Rattle.conflict_analysis.proofs.PendLaws.{all_of_has, has_without, hit_since, hit_has, pends_unmarked, pends_put, pends_all, pending_mark, same_of_place}

clash : {X : Type 0} → true ≡ false → X
clash h = cc

some_same : {X : Type 0} {a b : X} → Some a ≡ Some b → a ≡ b
some_same h = cc

-- why the entry at a place stands
stands_there : (held : List Held) (t : Assignment) (i : ℕ) (e : Entry) → IsJustified held t → slice_get t.entries i ≡ Some e → Stands t.shape held (take i t.entries) e e.why
stands_there held t i e j h =
    let within : i < length t.entries = slice_get_within t.entries i e h in
    subst (λ (x : Entry). Stands t.shape held (take i t.entries) x x.why) (get_or_from_slice_get t.entries i e e h) (stands_at held t i e j within)

reason_by : (s : Shape) (held : List Held) (before : List Entry) (e : Entry) (w : Why) → Stands s held before e w → (w ≡ Decision → ⊥) → (n : List Lit) × (nogood_by held w ≡ Some n) × IsReasonFor s before e.lit n
reason_by s held before e Decision st ne = absurd (ne refl)
reason_by s held before e (ByHeld id) st ne = (st.0, st.1, st.2)
reason_by s held before e (ByShown r) st ne = (r.nogood, refl, st)

-- the reason of the entry at a place
pub reason_at : (held : List Held) (t : Assignment) (i : ℕ) (e : Entry) → IsJustified held t → slice_get t.entries i ≡ Some e → (e.why ≡ Decision → ⊥) → (n : List Lit) × (nogood_by held e.why ≡ Some n) × IsReasonFor t.shape (take i t.entries) e.lit n
reason_at held t i e j h ne = reason_by t.shape held (take i t.entries) e e.why (stands_there held t i e j h) ne

contains_at : (es : List Entry) (i : ℕ) (e : Entry) → slice_get es i ≡ Some e → Contains es e
contains_at es i e h = (i, slice_get_within es i e h, get_or_from_slice_get es i e e h)

-- what names the entry's reason may be used
pub usable : (held : List Held) (t : Assignment) (e : Entry) (w : Why) (u : Start) (n : List Lit) → Contains t.entries e → e.why ≡ w → IsFrom w u → nogood_by held w ≡ Some n → IsUsable held t u × (nogood_of held u ≡ Some n)
usable held t e Decision u n c ew f h = absurd f
usable held t e (ByHeld id) u n c ew f h = subst (λ (v : Start). IsUsable held t v × (nogood_of held v ≡ Some n)) (sym f) ((n, h), h)
usable held t e (ByShown r) u n c ew f h = subst (λ (v : Start). IsUsable held t v × (nogood_of held v ≡ Some n)) (sym f) (inl (e, c, ew), h)

high_level : (t : Assignment) (high : ℕ) (x : Lit) (j : ℕ) → is_high t high (ByEntry x j) ≡ true → level_at t.entries j ≡ high
high_level t high x j h = grind (arith, nat_tests)

pub level_high : (t : Assignment) (high : ℕ) (x : Lit) (j : ℕ) → level_at t.entries j ≡ high → is_high t high (ByEntry x j) ≡ true
level_high t high x j h = grind (arith, nat_tests)

-- a mark that is counted is of a literal that the board has
pub high_mark : (t : Assignment) (high at : ℕ) (lits : List Lit) (b : Board) (k : ℕ) → Pends t high at lits b → is_high t high (mark_at b k) ≡ true → (x : Lit) × (j : ℕ) × (mark_at b k ≡ ByEntry x j) × (place_of b x ≡ k) × (since_on t x ≡ Some j) × (standing lits x ≡ Some x) × (level_at t.entries j ≡ high)
high_mark t high at lits b k p h = cases (mark_at b k) refl h
  where
    cases : (m : Mark) → mark_at b k ≡ m → is_high t high m ≡ true → (x : Lit) × (j : ℕ) × (mark_at b k ≡ ByEntry x j) × (place_of b x ≡ k) × (since_on t x ≡ Some j) × (standing lits x ≡ Some x) × (level_at t.entries j ≡ high)
    cases Clear e f = clash (sym f)
    cases (ByEnds x) e f = clash (sym f)
    cases (ByEntry x j) e f =
        let placed = p.places k x (ap marked_lit e) in
        (x, j, e, placed.0, subst (IsMark t) e (p.marks k), sym (p.shows x placed.1) ∙ ap (λ n. marked_lit (mark_at b n)) placed.0 ∙ ap marked_lit e, high_level t high x j f)

one_at_most : (t : Assignment) (high : ℕ) (m : Mark) → high_one t high m ≤ 1
one_at_most t high m = cases (is_high t high m)
  where
    cases : (c : Bool) → cond c 1 0 ≤ 1
    cases true = omega arith
    cases false = omega arith

-- the count without the last literal
pub left_count : (t : Assignment) (high at : ℕ) (lits : List Lit) (b : Board) (place : ℕ) (l : Lit) (count left : ℕ) (was : Bool) → IsAssignment t → Pends t high at lits b → IsLast t b at place l → count ≡ high_count t high b.marks → was ≡ is_high t high (ByEntry l place) → left + cond was 1 0 ≡ count + 0 → left ≡ high_count t high (unmarked b l).marks
left_count t high at lits b place l count left was a p last e ew sum =
    let has : has_lit lits l ≡ true = (hit_has t high at lits b place l a p last.1).1 in
    let pending : IsPending t high at l = holds_of (IsPending t high at) lits l p.each has in
    let inside : place_of b l < length b.marks = has_place t.shape b l p.fits pending.named.within in
    let mark : mark_of b l ≡ ByEntry l place = pending_mark t high at lits b l p has ∙ ap (mark_since l) (hit_since t high at lits b place l p last.1) in
    let whole : high_count t high (set b.marks (place_of b l) Clear) + high_one t high (get_or b.marks (place_of b l) Clear) ≡ high_count t high b.marks + high_one t high Clear = count-set t high b.marks (place_of b l) Clear Clear inside in
    let one : high_one t high (get_or b.marks (place_of b l) Clear) ≡ cond was 1 0 = ap (high_one t high) mark ∙ ap (λ (k : Bool). cond k 1 0) (sym ew) in
    omega arith

pub left_least : (t : Assignment) (high at : ℕ) (lits : List Lit) (b : Board) (place : ℕ) (l : Lit) (count : ℕ) (was : Bool) → IsAssignment t → Pends t high at lits b → IsLast t b at place l → count ≡ high_count t high b.marks → was ≡ is_high t high (ByEntry l place) → was ≡ true → 1 ≤ count
left_least t high at lits b place l count was a p last e ew on =
    let has : has_lit lits l ≡ true = (hit_has t high at lits b place l a p last.1).1 in
    let pending : IsPending t high at l = holds_of (IsPending t high at) lits l p.each has in
    let inside : place_of b l < length b.marks = has_place t.shape b l p.fits pending.named.within in
    let mark : mark_of b l ≡ ByEntry l place = pending_mark t high at lits b l p has ∙ ap (mark_since l) (hit_since t high at lits b place l p last.1) in
    let whole : high_count t high (set b.marks (place_of b l) Clear) + high_one t high (get_or b.marks (place_of b l) Clear) ≡ high_count t high b.marks + high_one t high Clear = count-set t high b.marks (place_of b l) Clear Clear inside in
    let one : high_one t high (get_or b.marks (place_of b l) Clear) ≡ 1 = ap (high_one t high) mark ∙ ap (λ (k : Bool). cond k 1 0) (sym ew ∙ on) in
    omega arith

-- what is resolved away is no decision
pub no_decision : (held : List Held) (t : Assignment) (first : Start) (chain : List Link) (high at : ℕ) (b : Board) (count : ℕ) (lits : List Lit) (place : ℕ) (l : Lit) → IsAssignment t → IsJustified held t → Run held t first chain high at b count lits → (last : IsLast t b at place l) → (0 < high → count ≡ 1 → ⊥) → last.1.entry.why ≡ Decision → ⊥
no_decision held t first chain high at b count lits place l a j run last two why =
    let e : Entry = last.1.entry in
    let st : (0 < e.level) × AllByRecursion (λ (d : Entry). d.level < e.level) (take place t.entries) =
    subst (λ (w : Why). Stands t.shape held (take place t.entries) e w) why (stands_there held t place e j last.1.there)
    in
    let has : has_lit lits l ≡ true = (hit_has t high at lits b place l a run.pends last.1).1 in
    let pending : IsPending t high at l = holds_of (IsPending t high at) lits l run.pends.each has in
    let since : since_on t l ≡ Some place = hit_since t high at lits b place l run.pends last.1 in
    let level : e.level ≡ level_on t l = level_read t.entries place e last.1.there ∙ sym (ap (level_since t.entries) since) in
    let low : level_on t l ≤ high = pending.low in
    let above : 0 < high = let pos = st.0 in omega arith in
    let least : 1 ≤ count = run.some above in
    let more : 2 ≤ count = other count least (two above) in
    let inside : place_of b l < length b.marks = has_place t.shape b l run.pends.fits pending.named.within in
    let whole : high_count t high (set b.marks (place_of b l) Clear) + high_one t high (get_or b.marks (place_of b l) Clear) ≡ high_count t high b.marks + 0 = count-set t high b.marks (place_of b l) Clear Clear inside in
    let one : high_one t high (get_or b.marks (place_of b l) Clear) ≤ 1 = one_at_most t high (get_or b.marks (place_of b l) Clear) in
    let counted = run.count in
    let left : 1 ≤ high_count t high (unmarked b l).marks = omega arith in
    let found = count_some t high (unmarked b l).marks Clear left in
    let after : Pends t high place (without lits l) (unmarked b l) = pends_unmarked t high at lits b place l a run.pends last in
    let it = high_mark t high place (without lits l) (unmarked b l) found.0 after found.2 in
    let x : Lit = it.0 in
    let i : ℕ = it.1 in
    let there : has_lit (without lits l) x ≡ true = (standing_is (without lits l) x x it.5).0 in
    let earlier : IsPending t high place x = holds_of (IsPending t high place) (without lits l) x after.each there in
    let before : i < place = subst (IsBefore place) it.4 earlier.before in
    let within : i < length t.entries = (since_entry t x i e it.4).0 in
    let below : level_at t.entries i < e.level = level_take t.entries place i e.level st.1 before within in
    let same : level_at t.entries i ≡ high = it.6 in
    absurd (omega arith)
  where
    other : (c : ℕ) → 1 ≤ c → (c ≡ 1 → ⊥) → 2 ≤ c
    other zero h f = absurd (omega arith)
    other (suc zero) h f = absurd (f (omega arith))
    other (suc (suc c)) h f = omega arith

-- one more literal takes nothing from the count
put_grows : (t : Assignment) (high at : ℕ) (lits : List Lit) (b : Board) (l : Lit) → IsAssignment t → Pends t high at lits b → IsPending t high at l → high_count t high b.marks ≤ high_count t high (board_with t b l).marks
put_grows t high at lits b l a p n = cases (covers_lit (mark_of b l) l) refl
  where
    inside : place_of b l < length b.marks
    inside = has_place t.shape b l p.fits n.named.within

    new : Mark
    new = mark_since l (since_on t l)

    not_covered : (x : Lit) (i : ℕ) → covers_lit (ByEntry x i) l ≡ false → implies_lit x l ≡ false
    not_covered x i h = h

    still : (was : Bool) → is_high t high (mark_of b l) ≡ was → covers_lit (mark_of b l) l ≡ false → cond was 1 0 ≤ high_one t high new
    still false e k = omega arith
    still true e k =
        let it = high_mark t high at lits b (place_of b l) p e in
        let x : Lit = it.0 in
        let i : ℕ = it.1 in
        let of = (p.places (place_of b l) x (ap marked_lit it.2)).1 in
        let one : same_place x l ≡ true = same_of_place t.shape b x l p.fits of n.named.within it.3 in
        let weaker : implies_lit l x ≡ true = implies_other x l one (not_covered x i (ap (λ m. covers_lit m l) (sym it.2) ∙ k)) in
        let later = since_later t l x i n.is_true weaker it.4 in
        let j : ℕ = later.0 in
        let within : j < length t.entries = (since_entry t l j (record { lit = l; level = 0; why = Decision }) later.1).0 in
        let rise : level_at t.entries i ≤ level_at t.entries j = levels_rise t i j a later.2 within in
        let low : level_at t.entries j ≤ high = subst (λ k. k ≤ high) (ap (level_since t.entries) later.1) n.low in
        let was : level_at t.entries i ≡ high = it.6 in
        let same : level_at t.entries j ≡ high = omega arith in
        subst (λ (m : Mark). 1 ≤ high_one t high m) (sym (ap (mark_since l) later.1)) (rw (level_high t high l j same) (omega arith))

    cases : (k : Bool) → covers_lit (mark_of b l) l ≡ k → high_count t high b.marks ≤ high_count t high (board_with t b l).marks
    cases true k = subst (λ (v : Board). high_count t high b.marks ≤ high_count t high v.marks) (sym (board_old t b l k)) (omega arith)
    cases false k =
        let whole : high_count t high (set b.marks (place_of b l) new) + high_one t high (get_or b.marks (place_of b l) Clear) ≡ high_count t high b.marks + high_one t high new = count-set t high b.marks (place_of b l) new Clear inside in
        let keep : high_one t high (mark_of b l) ≤ high_one t high new = still (is_high t high (mark_of b l)) refl k in
        subst (λ (v : Board). high_count t high b.marks ≤ high_count t high v.marks) (sym (board_new t b l k)) (omega arith)

pub all_grow : (t : Assignment) (high at : ℕ) (lits more : List Lit) (b : Board) → IsAssignment t → Pends t high at lits b → AllByRecursion (IsPending t high at) more → high_count t high b.marks ≤ high_count t high (boards_with t b more).marks
all_grow t high at lits [] b a p n = omega arith
all_grow t high at lits (l ∷ ls) b a p n =
    let here = put_grows t high at lits b l a p n.0 in
    let rest = all_grow t high at (put_lit lits l) ls (board_with t b l) a (pends_put t high at lits b l p n.0) n.1 in
    omega arith

-- the other literals of a reason are pending before the entry
pub reason_pends : (t : Assignment) (high at place : ℕ) (e : Entry) (n : List Lit) → IsAssignment t → slice_get t.entries place ≡ Some e → e.level ≤ high → IsReasonFor t.shape (take place t.entries) e.lit n → AllByRecursion (IsPending t high place) (without n (complement_of e.lit))
reason_pends t high at place e n a there low r = all_of_has (IsPending t high place) (without n (complement_of e.lit)) each
  where
    level : (m : Lit) → IsBefore place (since_on t m) → level_on t m ≤ high
    level m h = cases (since_on t m) refl h
      where
        cases : (o : Option ℕ) → since_on t m ≡ o → IsBefore place o → level_since t.entries o ≤ high
        cases None f g = omega arith
        cases (Some j) f g =
            let within : place < length t.entries = slice_get_within t.entries place e there in
            let rise : level_at t.entries j ≤ level_at t.entries place = levels_rise t j place a (omega arith) within in
            let here : e.level ≡ level_at t.entries place = level_read t.entries place e there in
            omega arith

    other : (m : Lit) → same_lit m (complement_of e.lit) ≡ false → (m ≡ complement_of e.lit) ⊎ (is_true_on (trail_of t.shape (take place t.entries)) m ≡ true) → implied t.shape.ends (lits_of (take place t.entries)) m ≡ true
    other m apart (inl same) = clash (sym (ap (λ q. same_lit q (complement_of e.lit)) same ∙ same_refl (complement_of e.lit)) ∙ apart)
    other m apart (inr on) = on

    each : (m : Lit) → has_lit (without n (complement_of e.lit)) m ≡ true → IsPending t high place m
    each m h =
        let both = has_without n (complement_of e.lit) m h in
        let implied_before : implied t.shape.ends (take place (lits_of t.entries)) m ≡ true = subst (λ (ls : List Lit). implied t.shape.ends ls m ≡ true) (lits_take t.entries place) (other m both.1 (r.forces.others m (contains-has n m both.0))) in
        let before : IsBefore place (since_on t m) = before_since t m place implied_before in
        record {
          named = holds_of (Names t.shape) n m r.named both.0;
          is_true = before_true t m place implied_before;
          before = before;
          low = level m before;
        }

all_push : (P : Link → Type 0) (ks : List Link) (k : Link) → AllByRecursion P ks → P k → AllByRecursion P (ks ++ k ∷ [])
all_push P [] k a p = (p, tt)
all_push P (j ∷ js) k a p = (a.0, all_push P js k a.1 p)

all_map : (P Q : Link → Type 0) (ks : List Link) → ((k : Link) → P k → Q k) → AllByRecursion P ks → AllByRecursion Q ks
all_map P Q [] f a = tt
all_map P Q (k ∷ ks) f a = (f k a.0, all_map P Q ks f a.1)

pub differ_push : (ks : List Link) (k : Link) → PivotsDiffer ks → AllByRecursion (λ (j : Link). same_lit j.pivot k.pivot ≡ false) ks → PivotsDiffer (ks ++ k ∷ [])
differ_push [] k d a = (tt, tt)
differ_push (j ∷ js) k d a = (all_push (λ i. same_lit j.pivot i.pivot ≡ false) js k d.0 a.0, differ_push js k d.1 a.1)

from_lower : (at place : ℕ) (o : Option ℕ) → place < at → IsFromPlace at o → IsFromPlace place o
from_lower at place None h f = f
from_lower at place (Some i) h f = omega arith

-- a literal of a place differs from those of later places
apart_later : (t : Assignment) (at place : ℕ) (x l : Lit) → place < at → since_on t l ≡ Some place → IsFromPlace at (since_on t x) → same_lit x l ≡ false
apart_later t at place x l h e f = cases (same_lit x l) refl
  where
    cases : (b : Bool) → same_lit x l ≡ b → same_lit x l ≡ false
    cases true g =
        let le : at ≤ place = subst (IsFromPlace at) (ap (since_on t) (same_lit-equal x l g) ∙ e) f in
        absurd (omega arith)
    cases false g = g

pub replayed_push : (held : List Held) (first : Start) (chain : List Link) (k : Link) (lits n new : List Lit) → replayed held first chain ≡ Some lits → nogood_of held k.used ≡ Some n → resolvent lits k.pivot n ≡ Some new → replayed held first (chain ++ k ∷ []) ≡ Some new
replayed_push held first chain k lits n new e f g =
    chain_push (λ (j : Link). j.pivot) (λ (j : Link). nogood_of held j.used) (nogood_of held first) chain k
    ∙ ap (λ o. linked held o k) e
    ∙ ap (λ o. resolved_with (Some lits) k.pivot o) f
    ∙ g

answers_own : (e p : Lit) → implies_lit e p ≡ true → answers p (complement_of e) ≡ true
answers_own e p h = ap (λ x. implies_lit x p) (complement-complement e) ∙ h

-- the run once the last literal is resolved away
pub resolved_run : (held : List Held) (t : Assignment) (first : Start) (chain : List Link) (high at : ℕ) (b new : Board) (count after : ℕ) (lits : List Lit) (place : ℕ) (l : Lit) (used : Start) (n : List Lit) (e : Entry)
    → IsAssignment t → Run held t first chain high at b count lits → IsLast t b at place l → (0 < high → count ≡ 1 → ⊥)
    → slice_get t.entries place ≡ Some e → IsReasonFor t.shape (take place t.entries) e.lit n → nogood_by held e.why ≡ Some n → Rises n → IsFrom e.why used
    → new ≡ boards_with t (unmarked b l) (without n (complement_of e.lit)) → after ≡ high_count t high new.marks
    → Run held t first (chain ++ record { pivot = l; used = used } ∷ []) high place new after (joined (without lits l) (without n (complement_of e.lit)))
resolved_run held t first chain high at b new count after lits place l used n e a run last two there reason by rises from board counted =
    let hit = last.1 in
    let has : has_lit lits l ≡ true = (hit_has t high at lits b place l a run.pends hit).1 in
    let pending : IsPending t high at l = holds_of (IsPending t high at) lits l run.pends.each has in
    let since : since_on t l ≡ Some place = hit_since t high at lits b place l run.pends hit in
    let level : e.level ≡ level_on t l = level_read t.entries place e there ∙ sym (ap (level_since t.entries) since) in
    let low : level_on t l ≤ high = pending.low in
    let mores : AllByRecursion (IsPending t high place) (without n (complement_of e.lit)) = reason_pends t high at place e n a there (omega arith) reason in
    let fewer : Pends t high place (without lits l) (unmarked b l) = pends_unmarked t high at lits b place l a run.pends last in
    let found = since_entry t l place e since in
    let own : implies_lit e.lit l ≡ true = ap (λ (x : Entry). implies_lit x.lit l) (sym (get_or_from_slice_get t.entries place e e there)) ∙ found.1 in
    let use_ = usable held t e e.why used n (contains_at t.entries place e there) refl from by in
    record {
      pends = subst (Pends t high place (joined (without lits l) (without n (complement_of e.lit)))) (sym board) (pends_all t high place (without lits l) (without n (complement_of e.lit)) (unmarked b l) fewer mores);
      replays = replayed_push held first chain (record { pivot = l; used = used }) lits n (joined (without lits l) (without n (complement_of e.lit))) run.replays use_.1 (resolvent_at lits n l (complement_of e.lit) has rises (has-contains n (complement_of e.lit) reason.forces.opposite) (answers_own e.lit l own));
      used = all_push (λ k. IsUsable held t k.used) chain (record { pivot = l; used = used }) run.used use_.0;
      count = counted;
      some = some_left fewer mores pending;
      later = all_push (λ k. IsFromPlace place (since_on t k.pivot)) chain (record { pivot = l; used = used }) (all_map (λ k. IsFromPlace at (since_on t k.pivot)) (λ k. IsFromPlace place (since_on t k.pivot)) chain (λ k f. from_lower at place (since_on t k.pivot) last.0 f) run.later) (subst (IsFromPlace place) (sym since) (omega arith));
      differ = differ_push chain (record { pivot = l; used = used }) run.differ (all_map (λ k. IsFromPlace at (since_on t k.pivot)) (λ k. same_lit k.pivot l ≡ false) chain (λ k f. apart_later t at place k.pivot l last.0 since f) run.later);
    }
  where
    other : (c : ℕ) → 1 ≤ c → (c ≡ 1 → ⊥) → 2 ≤ c
    other zero h f = absurd (omega arith)
    other (suc zero) h f = absurd (f (omega arith))
    other (suc (suc c)) h f = omega arith

    some_left : Pends t high place (without lits l) (unmarked b l) → AllByRecursion (IsPending t high place) (without n (complement_of e.lit)) → IsPending t high at l → 0 < high → 1 ≤ after
    some_left fewer mores pending above =
        let more : 2 ≤ count = other count (run.some above) (two above) in
        let inside : place_of b l < length b.marks = has_place t.shape b l run.pends.fits pending.named.within in
        let whole : high_count t high (set b.marks (place_of b l) Clear) + high_one t high (get_or b.marks (place_of b l) Clear) ≡ high_count t high b.marks + 0 = count-set t high b.marks (place_of b l) Clear Clear inside in
        let one : high_one t high (get_or b.marks (place_of b l) Clear) ≤ 1 = one_at_most t high (get_or b.marks (place_of b l) Clear) in
        let sum = run.count in
        let left : 1 ≤ high_count t high (unmarked b l).marks = omega arith in
        let grown = all_grow t high place (without lits l) (without n (complement_of e.lit)) (unmarked b l) a fewer mores in
        let whole_new : high_count t high new.marks ≡ high_count t high (boards_with t (unmarked b l) (without n (complement_of e.lit))).marks = ap (λ (v : Board). high_count t high v.marks) board in
        omega arith

-- what is ready to be resolved away
one_entry : (t : Assignment) (b : Board) (place : ℕ) (l : Lit) (e : Entry) (h : IsHit t b place l) → slice_get t.entries place ≡ Some e → h.entry ≡ e
one_entry t b place l e h f = some_same (sym h.there ∙ f)

pub ready_no_decision : (held : List Held) (t : Assignment) (first : Start) (chain : List Link) (high place : ℕ) (l : Lit) (b : Board) (count : ℕ) (e : Entry) → IsAssignment t → IsJustified held t → IsReady held t first chain high place l b count → (0 < high → count ≡ 1 → ⊥) → slice_get t.entries place ≡ Some e → e.why ≡ Decision → ⊥
ready_no_decision held t first chain high place l b count e a j r two there why =
    no_decision held t first chain high r.0 b count r.1.0 place l a j r.1.1 r.2 two (ap (λ (x : Entry). x.why) (one_entry t b place l e r.2.1 there) ∙ why)

pub ready_since : (held : List Held) (t : Assignment) (first : Start) (chain : List Link) (high place : ℕ) (l : Lit) (b : Board) (count : ℕ) → IsReady held t first chain high place l b count → since_on t l ≡ Some place
ready_since held t first chain high place l b count r = hit_since t high r.0 r.1.0 b place l r.1.1.pends r.2.1

pub ready_left : (held : List Held) (t : Assignment) (first : Start) (chain : List Link) (high place : ℕ) (l : Lit) (b : Board) (count left : ℕ) (was : Bool) → IsAssignment t → IsReady held t first chain high place l b count → was ≡ is_high t high (ByEntry l place) → left + cond was 1 0 ≡ count + 0 → left ≡ high_count t high (unmarked b l).marks
ready_left held t first chain high place l b count left was a r ew sum = left_count t high r.0 r.1.0 b place l count left was a r.1.1.pends r.2 r.1.1.count ew sum

pub ready_least : (held : List Held) (t : Assignment) (first : Start) (chain : List Link) (high place : ℕ) (l : Lit) (b : Board) (count : ℕ) (was : Bool) → IsAssignment t → IsReady held t first chain high place l b count → was ≡ is_high t high (ByEntry l place) → was ≡ true → 1 ≤ count
ready_least held t first chain high place l b count was a r ew on = left_least t high r.0 r.1.0 b place l count was a r.1.1.pends r.2 r.1.1.count ew on

pub ready_pends : (held : List Held) (t : Assignment) (first : Start) (chain : List Link) (high place : ℕ) (l : Lit) (b : Board) (count : ℕ) → IsAssignment t → (r : IsReady held t first chain high place l b count) → Pends t high place (without r.1.0 l) (unmarked b l)
ready_pends held t first chain high place l b count a r = pends_unmarked t high r.0 r.1.0 b place l a r.1.1.pends r.2

pub ready_place : (held : List Held) (t : Assignment) (first : Start) (chain : List Link) (high place : ℕ) (l : Lit) (b : Board) (count : ℕ) → IsAssignment t → IsReady held t first chain high place l b count → HasPlace b l
ready_place held t first chain high place l b count a r =
    let pending : IsPending t high r.0 l = holds_of (IsPending t high r.0) r.1.0 l r.1.1.pends.each (hit_has t high r.0 r.1.0 b place l a r.1.1.pends r.2.1).1 in
    is_placed t.shape b l r.1.1.pends.fits pending.named.within

pub ready_run : (held : List Held) (t : Assignment) (first : Start) (chain after_chain : List Link) (high place : ℕ) (l : Lit) (b new : Board) (count after : ℕ) (e : Entry) (n lits : List Lit) (q : Lit) (used : Start)
    → IsAssignment t → IsReady held t first chain high place l b count → (0 < high → count ≡ 1 → ⊥)
    → slice_get t.entries place ≡ Some e → IsReasonFor t.shape (take place t.entries) e.lit n → nogood_by held e.why ≡ Some n → lits ≡ n → Rises lits → q ≡ complement_of e.lit → IsFrom e.why used
    → new ≡ boards_with t (unmarked b l) (without lits q) → after ≡ high_count t high new.marks → after_chain ≡ chain ++ record { pivot = l; used = used } ∷ []
    → Runs held t first after_chain high place new after
ready_run held t first chain after_chain high place l b new count after e n lits q used a r two there reason by same rises out from board counted pushed =
    let lits_is : new ≡ boards_with t (unmarked b l) (without n (complement_of e.lit)) = board ∙ ap (λ (ls : List Lit). boards_with t (unmarked b l) (without ls q)) same ∙ ap (λ (x : Lit). boards_with t (unmarked b l) (without n x)) out in
    subst (λ (ks : List Link). Runs held t first ks high place new after) (sym pushed)
    (joined (without r.1.0 l) (without n (complement_of e.lit)), resolved_run held t first chain high r.0 b new count after r.1.0 place l used n e a r.1.1 r.2 two there reason by (subst Rises same rises) from lits_is counted)
