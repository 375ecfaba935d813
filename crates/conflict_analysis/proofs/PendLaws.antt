-- The board and the literals that it has: one more, one less, and which came when.
use Rattle.std.proofs.Common.{◌≡◌, ℕ, ◌<◌, ◌==◌, ◌||◌, Bool, true, false, not, cond, List, [], ◌∷◌, length, get_or, set, slice_get, Option, None, Some, refl, sym, ◌∙◌, ap, subst, arith}
use Rattle.std.specs.Prelude.{nat_lt}
use Rattle.std.specs.List.{AllByRecursion}
use Rattle.std.proofs.lemmas.Bool.Decides.{nat_tests}
use Rattle.std.proofs.lemmas.Option.{get_or_from_slice_get, slice_get-get_or}
use Rattle.literals.specs.declared.lit.Lit.{Lit}
use Rattle.literals.specs.Lits.{implies_lit, same_lit}
use Rattle.literals.specs.Nogoods.{same_place, Rises, put_lit, joined, has_lit, without}
use Rattle.literals.proofs.LitLaws.{same_refl, same_lit-equal}
use Rattle.literals.proofs.Puts.{all_put, rises_joined, rises_without}
use Rattle.trail.specs.declared.shape.Shape.{Shape}
use Rattle.trail.specs.declared.entry.Entry.{Entry}
use Rattle.trail.specs.declared.entry.Why.TheVariants.{Decision}
use Rattle.trail.specs.Assignment.{Assignment, IsAssignment, IsOf, since_on}
use Rattle.nogood_store.proofs.Members.{holds_of}
use Rattle.conflict_analysis.specs.declared.marks.Mark.{Mark}
use Rattle.conflict_analysis.specs.declared.marks.Mark.TheVariants.{Clear, ByEnds, ByEntry}
use Rattle.conflict_analysis.specs.Marked.{Board, Fits, place_of, mark_of, mark_at, marked_with, unmarked, marked_lit, IsMark, IsBefore, IsPending, Pends, standing}
use Rattle.conflict_analysis.specs.inner.Runs.{mark_since, covers_lit, board_with, boards_with, IsHit, IsLast}
use Rattle.conflict_analysis.proofs.BoardLaws.{set_there, set_else}
use Rattle.conflict_analysis.proofs.PlaceLaws.{places_same, has_place}
use Rattle.conflict_analysis.proofs.Standing.{stronger_on, standing-put, standing-without, has_standing, standing_is, standing_place, implies_place}
use Rattle.conflict_analysis.proofs.TrailFacts.{since_entry}
use Rattle.conflict_analysis.proofs.CountLaws.{entry_of}
use Rattle.conflict_analysis.proofs.RunLaws.{fits_with, fits_without, marks_set, mark_is, board_old, board_new}

clash : {X : Type 0} → true ≡ false → X
clash h = cc

some_none : {X : Type 0} {n : ℕ} → Some n ≡ None → X
some_none h = cc

some_same : {X : Type 0} {a b : X} → Some a ≡ Some b → a ≡ b
some_same h = cc

-- what holds of each literal that a list has holds of the list
pub all_of_has : (P : Lit → Type 0) (xs : List Lit) → ((x : Lit) → has_lit xs x ≡ true → P x) → AllByRecursion P xs
all_of_has P [] f = tt
all_of_has P (x ∷ xs) f = (f x (rw (same_refl x) refl), all_of_has P xs (λ y h. f y (later (same_lit x y) y h)))
  where
    later : (b : Bool) (y : Lit) → has_lit xs y ≡ true → (b || has_lit xs y) ≡ true
    later true y h = refl
    later false y h = h

pub has_without : (xs : List Lit) (p x : Lit) → has_lit (without xs p) x ≡ true → (has_lit xs x ≡ true) × (same_lit x p ≡ false)
has_without [] p x h = clash (sym h)
has_without (y ∷ ys) p x h = cases (same_lit y p) refl h (has_without ys p x)
  where
    later : (b : Bool) → has_lit ys x ≡ true → (b || has_lit ys x) ≡ true
    later true e = refl
    later false e = e

    first : (b : Bool) → same_lit y x ≡ b → same_lit y p ≡ false → (b || has_lit (without ys p) x) ≡ true → (has_lit (without ys p) x ≡ true → (has_lit ys x ≡ true) × (same_lit x p ≡ false)) → ((b || has_lit ys x) ≡ true) × (same_lit x p ≡ false)
    first true e f g rest = (refl, ap (λ z. same_lit z p) (sym (same_lit-equal y x e)) ∙ f)
    first false e f g rest = rest g

    cases : (b : Bool) → same_lit y p ≡ b → has_lit (cond (not b) (y ∷ without ys p) (without ys p)) x ≡ true → (has_lit (without ys p) x ≡ true → (has_lit ys x ≡ true) × (same_lit x p ≡ false)) → (has_lit (y ∷ ys) x ≡ true) × (same_lit x p ≡ false)
    cases true e f rest = let both = rest f in (later (same_lit y x) both.0, both.1)
    cases false e f rest = first (same_lit y x) refl e f rest

pub without_has : (xs : List Lit) (p x : Lit) → has_lit xs x ≡ true → same_lit x p ≡ false → has_lit (without xs p) x ≡ true
without_has [] p x h e = h
without_has (y ∷ ys) p x h e = cases (same_lit y p) refl (same_lit y x) refl h (λ f. without_has ys p x f e)
  where
    later : (b : Bool) → has_lit (without ys p) x ≡ true → (b || has_lit (without ys p) x) ≡ true
    later true f = refl
    later false f = f

    cases : (b : Bool) → same_lit y p ≡ b → (c : Bool) → same_lit y x ≡ c → (c || has_lit ys x) ≡ true → (has_lit ys x ≡ true → has_lit (without ys p) x ≡ true) → has_lit (cond (not b) (y ∷ without ys p) (without ys p)) x ≡ true
    cases true eb true ec f rest = clash (sym (ap (λ z. same_lit z p) (sym (same_lit-equal y x ec)) ∙ eb) ∙ e)
    cases true eb false ec f rest = rest f
    cases false eb true ec f rest = rw ec refl
    cases false eb false ec f rest = later (same_lit y x) (rest f)

-- the marks of literals of one place are one
pub mark_place : (s : Shape) (b : Board) (a l : Lit) → Fits s b → IsOf s a → IsOf s l → same_place a l ≡ true → mark_of b a ≡ mark_of b l
mark_place s b a l f i j h = ap (mark_at b) (same (place_of b a) (place_of b l) (places_same s b a l f i j ∙ h))
  where
    same : (n m : ℕ) → (n == m) ≡ true → n ≡ m
    same n m e = grind (arith, nat_tests)

pub same_of_place : (s : Shape) (b : Board) (a l : Lit) → Fits s b → IsOf s a → IsOf s l → place_of b a ≡ place_of b l → same_place a l ≡ true
same_of_place s b a l f i j h = sym (places_same s b a l f i j) ∙ own (place_of b a) (place_of b l) h
  where
    own : (n m : ℕ) → n ≡ m → (n == m) ≡ true
    own n m e = grind (arith, nat_tests)

-- the mark of a literal that the board has
abbrev pub IsMarkOf : Assignment → Lit → Mark → Type 0
IsMarkOf t l m = m ≡ mark_since l (since_on t l)

mark_of_lit : (t : Assignment) (l : Lit) (m : Mark) → IsMark t m → marked_lit m ≡ Some l → IsMarkOf t l m
mark_of_lit t l Clear k e = cc
mark_of_lit t l (ByEnds x) k e =
    let same : x ≡ l = some_same e in
    subst (λ y. ByEnds x ≡ mark_since y (since_on t y)) same (sym (ap (mark_since x) k))
mark_of_lit t l (ByEntry x i) k e =
    let same : x ≡ l = some_same e in
    subst (λ y. ByEntry x i ≡ mark_since y (since_on t y)) same (sym (ap (mark_since x) k))

pub pending_mark : (t : Assignment) (high at : ℕ) (lits : List Lit) (b : Board) (x : Lit) → Pends t high at lits b → has_lit lits x ≡ true → mark_of b x ≡ mark_since x (since_on t x)
pending_mark t high at lits b x p h =
    let pending : IsPending t high at x = holds_of (IsPending t high at) lits x p.each h in
    mark_of_lit t x (mark_of b x) (p.marks (place_of b x)) (p.shows x pending.named.within ∙ has_standing lits x p.rises h)

-- what became true by an entry is hit there
pub hit_of : (t : Assignment) (high at : ℕ) (lits : List Lit) (b : Board) (x : Lit) (j : ℕ) → IsAssignment t → Pends t high at lits b → has_lit lits x ≡ true → since_on t x ≡ Some j → IsHit t b j x
hit_of t high at lits b x j a p h e =
    let d : Entry = record { lit = x; level = 0; why = Decision } in
    let found = since_entry t x j d e in
    let there : slice_get t.entries j ≡ Some (get_or t.entries j d) = slice_get-get_or t.entries j d found.0 in
    let pending : IsPending t high at x = holds_of (IsPending t high at) lits x p.each h in
    record {
      entry = get_or t.entries j d;
      there = there;
      mark = mark_place t.shape b (get_or t.entries j d).lit x p.fits (entry_of t j (get_or t.entries j d) a there) pending.named.within (implies_place (get_or t.entries j d).lit x found.1)
          ∙ pending_mark t high at lits b x p h
          ∙ ap (mark_since x) e;
    }

pub hit_since : (t : Assignment) (high at : ℕ) (lits : List Lit) (b : Board) (place : ℕ) (l : Lit) → Pends t high at lits b → IsHit t b place l → since_on t l ≡ Some place
hit_since t high at lits b place l p h = subst (IsMark t) h.mark (p.marks (place_of b h.entry.lit))

pub hit_has : (t : Assignment) (high at : ℕ) (lits : List Lit) (b : Board) (place : ℕ) (l : Lit) → IsAssignment t → Pends t high at lits b → (h : IsHit t b place l) → (standing lits h.entry.lit ≡ Some l) × (has_lit lits l ≡ true)
hit_has t high at lits b place l a p h =
    let of : IsOf t.shape h.entry.lit = entry_of t place h.entry a h.there in
    let stands : standing lits h.entry.lit ≡ Some l = sym (p.shows h.entry.lit of) ∙ ap marked_lit h.mark in
    (stands, (standing_is lits h.entry.lit l stands).0)

-- what is left but the last of the literals came before it
pub others_before : (t : Assignment) (high at : ℕ) (lits : List Lit) (b : Board) (place : ℕ) (l x : Lit) (j : ℕ) → IsAssignment t → Pends t high at lits b → IsLast t b at place l → has_lit lits x ≡ true → same_lit x l ≡ false → since_on t x ≡ Some j → j < place
others_before t high at lits b place l x j a p last h apart e = cases (nat_lt j place) refl (nat_lt place j) refl
  where
    cases : (c : Bool) → nat_lt j place ≡ c → (d : Bool) → nat_lt place j ≡ d → j < place
    cases true f d g = grind (arith, nat_tests)
    cases false f true g =
        let more : place < j = grind (arith, nat_tests) in
        let pending : IsPending t high at x = holds_of (IsPending t high at) lits x p.each h in
        let before : j < at = subst (IsBefore at) e pending.before in
        absurd (last.2 j x more before (hit_of t high at lits b x j a p h e))
    cases false f false g =
        let same : j ≡ place = grind (arith, nat_tests) in
        let d : Entry = last.1.entry in
        let found = since_entry t x j d e in
        let here : get_or t.entries j d ≡ d = ap (λ n. get_or t.entries n d) same ∙ get_or_from_slice_get t.entries place d d last.1.there in
        let place_same : same_place d.lit x ≡ true = implies_place d.lit x (ap (λ (y : Entry). implies_lit y.lit x) (sym here) ∙ found.1) in
        let one : l ≡ x = some_same (sym (hit_has t high at lits b place l a p last.1).0 ∙ standing_place lits d.lit x place_same ∙ has_standing lits x p.rises h) in
        clash (sym (ap (λ y. same_lit x y) one ∙ same_refl x) ∙ apart)

-- the board with the last literal taken away
pub pends_unmarked : (t : Assignment) (high at : ℕ) (lits : List Lit) (b : Board) (place : ℕ) (l : Lit) → IsAssignment t → Pends t high at lits b → IsLast t b at place l → Pends t high place (without lits l) (unmarked b l)
pends_unmarked t high at lits b place l a p last =
    let has : has_lit lits l ≡ true = (hit_has t high at lits b place l a p last.1).1 in
    let pending : IsPending t high at l = holds_of (IsPending t high at) lits l p.each has in
    let inside : place_of b l < length b.marks = has_place t.shape b l p.fits pending.named.within in
    record {
      fits = fits_without t.shape b l p.fits;
      rises = rises_without lits l p.rises;
      each = all_of_has (IsPending t high place) (without lits l) (λ x h. earlier x h);
      shows = λ x o. shown has pending inside x o (same_place l x) refl;
      marks = marks_set t b.marks (place_of b l) Clear inside p.marks tt;
      places = λ i x e. placed inside i x e (place_of b l == i) refl;
    }
  where
    earlier : (x : Lit) → has_lit (without lits l) x ≡ true → IsPending t high place x
    earlier x h =
        let both = has_without lits l x h in
        let old : IsPending t high at x = holds_of (IsPending t high at) lits x p.each both.0 in
        record { named = old.named; is_true = old.is_true; before = when (since_on t x) refl both; low = old.low }
      where
        when : (o : Option ℕ) → since_on t x ≡ o → (has_lit lits x ≡ true) × (same_lit x l ≡ false) → IsBefore place o
        when None e both = tt
        when (Some j) e both = others_before t high at lits b place l x j a p last both.0 both.1 e

    other_place : (x : Lit) → IsOf t.shape l → IsOf t.shape x → same_place l x ≡ false → (place_of b l == place_of b x) ≡ false
    other_place x i o h = places_same t.shape b l x p.fits i o ∙ h

    shown : has_lit lits l ≡ true → IsPending t high at l → place_of b l < length b.marks → (x : Lit) → IsOf t.shape x → (c : Bool) → same_place l x ≡ c → marked_lit (mark_of (unmarked b l) x) ≡ standing (without lits l) x
    shown has pending inside x o true e =
        ap marked_lit (set_there b.marks (place_of b l) (place_of b x) Clear Clear inside (places_same t.shape b l x p.fits pending.named.within o ∙ e))
        ∙ sym (standing-without lits l x p.rises (has_standing lits l p.rises has) ∙ rw e refl)
    shown has pending inside x o false e =
        ap marked_lit (set_else b.marks (place_of b l) (place_of b x) Clear Clear (other_place x pending.named.within o e))
        ∙ p.shows x o
        ∙ sym (standing-without lits l x p.rises (has_standing lits l p.rises has) ∙ rw e refl)

    placed : place_of b l < length b.marks → (i : ℕ) (x : Lit) → marked_lit (get_or (set b.marks (place_of b l) Clear) i Clear) ≡ Some x → (c : Bool) → (place_of b l == i) ≡ c → (place_of b x ≡ i) × IsOf t.shape x
    placed inside i x e true f = cc (set_there b.marks (place_of b l) i Clear Clear inside f)
    placed inside i x e false f = p.places i x (ap marked_lit (sym (set_else b.marks (place_of b l) i Clear Clear f)) ∙ e)

marked_since : (t : Assignment) (l : Lit) → marked_lit (mark_since l (since_on t l)) ≡ Some l
marked_since t l = cases (since_on t l)
  where
    cases : (o : Option ℕ) → marked_lit (mark_since l o) ≡ Some l
    cases None = refl
    cases (Some i) = refl

-- what the mark's literal leaves of one more
covered : (m : Mark) (l x : Lit) → covers_lit m l ≡ true → marked_lit m ≡ Some x → implies_lit x l ≡ true
covered Clear l x h e = cc
covered (ByEnds y) l x h e = let same : y ≡ x = some_same e in ap (λ z. implies_lit z l) (sym same) ∙ h
covered (ByEntry y i) l x h e = let same : y ≡ x = some_same e in ap (λ z. implies_lit z l) (sym same) ∙ h

uncovered : (m : Mark) (l x : Lit) → covers_lit m l ≡ false → marked_lit m ≡ Some x → implies_lit x l ≡ false
uncovered Clear l x h e = cc
uncovered (ByEnds y) l x h e = let same : y ≡ x = some_same e in ap (λ z. implies_lit z l) (sym same) ∙ h
uncovered (ByEntry y i) l x h e = let same : y ≡ x = some_same e in ap (λ z. implies_lit z l) (sym same) ∙ h

stays : (m : Mark) (l : Lit) → covers_lit m l ≡ true → Some (stronger_on (marked_lit m) l) ≡ marked_lit m
stays Clear l h = cc
stays (ByEnds x) l h = rw h refl
stays (ByEntry x i) l h = rw h refl

replaced : (m : Mark) (l : Lit) → covers_lit m l ≡ false → stronger_on (marked_lit m) l ≡ l
replaced Clear l h = refl
replaced (ByEnds x) l h = rw h refl
replaced (ByEntry x i) l h = rw h refl

-- one more literal
pub pends_put : (t : Assignment) (high at : ℕ) (lits : List Lit) (b : Board) (l : Lit) → Pends t high at lits b → IsPending t high at l → Pends t high at (put_lit lits l) (board_with t b l)
pends_put t high at lits b l p n = cases (covers_lit (mark_of b l) l) refl
  where
    rises : Rises (put_lit lits l)
    rises = rises_joined lits (l ∷ []) p.rises

    each : AllByRecursion (IsPending t high at) (put_lit lits l)
    each = all_put (IsPending t high at) lits l p.each n

    inside : place_of b l < length b.marks
    inside = has_place t.shape b l p.fits n.named.within

    new : Mark
    new = mark_since l (since_on t l)

    old_shows : covers_lit (mark_of b l) l ≡ true → (x : Lit) → IsOf t.shape x → (c : Bool) → same_place l x ≡ c → marked_lit (mark_of b x) ≡ cond c (Some (stronger_on (standing lits l) l)) (standing lits x)
    old_shows k x o true e =
        ap marked_lit (sym (mark_place t.shape b l x p.fits n.named.within o e))
        ∙ sym (stays (mark_of b l) l k)
        ∙ ap (λ (y : Option Lit). Some (stronger_on y l)) (p.shows l n.named.within)
    old_shows k x o false e = p.shows x o

    new_shows : covers_lit (mark_of b l) l ≡ false → (x : Lit) → IsOf t.shape x → (c : Bool) → same_place l x ≡ c → marked_lit (mark_of (marked_with b l new) x) ≡ cond c (Some (stronger_on (standing lits l) l)) (standing lits x)
    new_shows k x o true e =
        ap marked_lit (set_there b.marks (place_of b l) (place_of b x) new Clear inside (places_same t.shape b l x p.fits n.named.within o ∙ e))
        ∙ marked_since t l
        ∙ ap Some (sym (replaced (mark_of b l) l k))
        ∙ ap (λ (y : Option Lit). Some (stronger_on y l)) (p.shows l n.named.within)
    new_shows k x o false e =
        ap marked_lit (set_else b.marks (place_of b l) (place_of b x) new Clear (places_same t.shape b l x p.fits n.named.within o ∙ e)) ∙ p.shows x o

    new_places : (i : ℕ) (x : Lit) → marked_lit (get_or (set b.marks (place_of b l) new) i Clear) ≡ Some x → (c : Bool) → (place_of b l == i) ≡ c → (place_of b x ≡ i) × IsOf t.shape x
    new_places i x e true f =
        let one : l ≡ x = some_same (sym (marked_since t l) ∙ ap marked_lit (sym (set_there b.marks (place_of b l) i new Clear inside f)) ∙ e) in
        subst (λ (y : Lit). (place_of b y ≡ i) × IsOf t.shape y) one (here (place_of b l) i f, n.named.within)
      where
        here : (a c : ℕ) → (a == c) ≡ true → a ≡ c
        here a c g = grind (arith, nat_tests)
    new_places i x e false f = p.places i x (ap marked_lit (sym (set_else b.marks (place_of b l) i new Clear f)) ∙ e)

    cases : (k : Bool) → covers_lit (mark_of b l) l ≡ k → Pends t high at (put_lit lits l) (board_with t b l)
    cases true k =
        subst (Pends t high at (put_lit lits l)) (sym (board_old t b l k)) (record {
          fits = p.fits;
          rises = rises;
          each = each;
          shows = λ x o. old_shows k x o (same_place l x) refl ∙ sym (standing-put lits l x p.rises);
          marks = p.marks;
          places = p.places;
        })
    cases false k =
        subst (Pends t high at (put_lit lits l)) (sym (board_new t b l k)) (record {
          fits = fits_with t.shape b l new p.fits;
          rises = rises;
          each = each;
          shows = λ x o. new_shows k x o (same_place l x) refl ∙ sym (standing-put lits l x p.rises);
          marks = marks_set t b.marks (place_of b l) new inside p.marks (mark_is t l);
          places = λ i x e. new_places i x e (place_of b l == i) refl;
        })

pub pends_all : (t : Assignment) (high at : ℕ) (lits more : List Lit) (b : Board) → Pends t high at lits b → AllByRecursion (IsPending t high at) more → Pends t high at (joined lits more) (boards_with t b more)
pends_all t high at lits [] b p a = p
pends_all t high at lits (l ∷ ls) b p a = pends_all t high at (put_lit lits l) ls (board_with t b l) (pends_put t high at lits b l p a.0) a.1
