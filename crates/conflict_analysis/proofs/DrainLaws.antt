-- Taking the marked literals: those by the ends are resolved away, the others are kept.
use Rattle.std.proofs.Common.{◌≡◌, ℕ, ◌<◌, ◌==◌, ◌||◌, ◌⊎◌, inl, inr, Bool, true, false, List, [], ◌∷◌, ◌++◌, length, set, None, Some, refl, sym, ◌∙◌, ap, subst, arith, length-append}
use Rattle.std.specs.List.{AllByRecursion}
use Rattle.std.proofs.lemmas.Bool.Decides.{nat_tests}
use Rattle.literals.specs.declared.lit.Lit.{Lit}
use Rattle.literals.specs.declared.reason.Step.TheVariants.{Hole}
use Rattle.literals.specs.Lits.{implies_lit, same_lit, complement_of}
use Rattle.literals.specs.Nogoods.{joined, canonical, has_lit, without, resolvent}
use Rattle.literals.proofs.LitLaws.{same_refl, same_lit-equal, complement-complement, implies_refl}
use Rattle.literals.proofs.Puts.{rises_without}
use Rattle.trail.specs.Implied.{ends_imply}
use Rattle.trail.specs.Assignment.{Assignment, since_on}
use Rattle.conflict_analysis.specs.declared.learned.Link.{Link}
use Rattle.conflict_analysis.specs.declared.marks.Mark.{Mark}
use Rattle.conflict_analysis.specs.declared.marks.Mark.TheVariants.{Clear, ByEnds, ByEntry}
use Rattle.conflict_analysis.specs.Chains.{IsUsable, IsHole}
use Rattle.conflict_analysis.specs.Marked.{Board, place_of, mark_of, mark_at, marked_lit, IsMark, IsClear, Takes}
use Rattle.conflict_analysis.specs.inner.Runs.{Setting, Drain, Drains, SortsOut, LitOfMark, hole_link}
use Rattle.conflict_analysis.proofs.BoardLaws.{set_there, set_else}
use Rattle.conflict_analysis.proofs.Standing.{resolvent_at, canonical_of}
use Rattle.conflict_analysis.proofs.TrailFacts.{by_ends, names_complement}
use Rattle.conflict_analysis.proofs.PendLaws.{has_without, without_has}
use Rattle.conflict_analysis.proofs.ResolveLaws.{differ_push, replayed_push}

clash : {X : Type 0} → true ≡ false → X
clash h = cc

some_same : {X : Type 0} {a b : X} → Some a ≡ Some b → a ≡ b
some_same h = cc

some_none : {X : Type 0} {n : ℕ} → Some n ≡ None → X
some_none h = cc

none_some : {X : Type 0} {x : Lit} → None ≡ Some x → X
none_some h = cc

all_push : {T : Type 0} (P : T → Type 0) (ks : List T) (k : T) → AllByRecursion P ks → P k → AllByRecursion P (ks ++ k ∷ [])
all_push P [] k a p = (p, tt)
all_push P (j ∷ js) k a p = (a.0, all_push P js k a.1 p)

all_map : {T : Type 0} (P Q : T → Type 0) (ks : List T) → ((k : T) → P k → Q k) → AllByRecursion P ks → AllByRecursion Q ks
all_map P Q [] f a = tt
all_map P Q (k ∷ ks) f a = (f k a.0, all_map P Q ks f a.1)

all_both : {T : Type 0} (P Q R : T → Type 0) (ks : List T) → ((k : T) → P k → Q k → R k) → AllByRecursion P ks → AllByRecursion Q ks → AllByRecursion R ks
all_both P Q R [] f a b = tt
all_both P Q R (k ∷ ks) f a b = (f k a.0 b.0, all_both P Q R ks f a.1 b.1)

has_push_old : (xs : List Lit) (x y : Lit) → has_lit xs y ≡ true → has_lit (xs ++ x ∷ []) y ≡ true
has_push_old [] x y h = clash (sym h)
has_push_old (z ∷ zs) x y h = cases (same_lit z y) h (has_push_old zs x y)
  where
    cases : (b : Bool) → (b || has_lit zs y) ≡ true → (has_lit zs y ≡ true → has_lit (zs ++ x ∷ []) y ≡ true) → (b || has_lit (zs ++ x ∷ []) y) ≡ true
    cases true f rest = refl
    cases false f rest = rest f

has_push_new : (xs : List Lit) (x : Lit) → has_lit (xs ++ x ∷ []) x ≡ true
has_push_new [] x = rw (same_refl x) refl
has_push_new (z ∷ zs) x = cases (same_lit z x) (has_push_new zs x)
  where
    cases : (b : Bool) → has_lit (zs ++ x ∷ []) x ≡ true → (b || has_lit (zs ++ x ∷ []) x) ≡ true
    cases true f = refl
    cases false f = f

not_same : (P : Lit → Type 0) (a b : Lit) → P a → (P b → ⊥) → same_lit a b ≡ false
not_same P a b p q = cases (same_lit a b) refl
  where
    cases : (c : Bool) → same_lit a b ≡ c → same_lit a b ≡ false
    cases true e = absurd (q (subst P (same_lit-equal a b e) p))
    cases false e = e

-- a board with one place cleared
abbrev taken : Board → ℕ → List ℕ → Board
taken b p touched = record b { marks = set b.marks p Clear; touched = touched }

taken_other : (b : Board) (p : ℕ) (touched : List ℕ) (i : ℕ) (x : Lit) → p < length b.marks → marked_lit (mark_at (taken b p touched) i) ≡ Some x → ((p == i) ≡ false) × (marked_lit (mark_at b i) ≡ Some x)
taken_other b p touched i x h e = cases (p == i) refl
  where
    cases : (c : Bool) → (p == i) ≡ c → ((p == i) ≡ false) × (marked_lit (mark_at b i) ≡ Some x)
    cases true f = none_some (ap marked_lit (sym (set_there b.marks p i Clear Clear h f)) ∙ e)
    cases false f = (f, ap marked_lit (sym (set_else b.marks p i Clear Clear f)) ∙ e)

taken_marks : (t : Assignment) (b : Board) (p : ℕ) (touched : List ℕ) → p < length b.marks → ((i : ℕ) → IsMark t (mark_at b i)) → (i : ℕ) → IsMark t (mark_at (taken b p touched) i)
taken_marks t b p touched h f i = cases (p == i) refl
  where
    cases : (c : Bool) → (p == i) ≡ c → IsMark t (mark_at (taken b p touched) i)
    cases true e = subst (IsMark t) (sym (set_there b.marks p i Clear Clear h e)) tt
    cases false e = subst (IsMark t) (sym (set_else b.marks p i Clear Clear e)) (f i)

-- a literal that is marked elsewhere is still marked
still_marked : (b : Board) (p : ℕ) (touched : List ℕ) (y : Lit) → (mark_at b p ≡ mark_of b y → ⊥) → marked_lit (mark_of b y) ≡ Some y → marked_lit (mark_of (taken b p touched) y) ≡ Some y
still_marked b p touched y apart e = cases (p == place_of b y) refl
  where
    cases : (c : Bool) → (p == place_of b y) ≡ c → marked_lit (mark_of (taken b p touched) y) ≡ Some y
    cases true f = absurd (apart (ap (mark_at b) (here p (place_of b y) f)))
      where
        here : (n m : ℕ) → (n == m) ≡ true → n ≡ m
        here n m g = grind (arith, nat_tests)
    cases false f = ap marked_lit (set_else b.marks p (place_of b y) Clear Clear f) ∙ e

-- nothing was marked there
drain_clear : (s : Setting) (chain : List Link) (b : Board) (lits kept : List Lit) (p : ℕ) (touched : List ℕ) → p < length b.marks → mark_at b p ≡ Clear → Drain s chain b lits kept → Drain s chain (taken b p touched) lits kept
drain_clear s chain b lits kept p touched h e d = record {
  replays = d.replays;
  used = d.used;
  differ = d.differ;
  fresh = d.fresh;
  rises = d.rises;
  named = d.named;
  within = d.within;
  stay = d.stay;
  kept_of = d.kept_of;
  kept_by = d.kept_by;
  marks = taken_marks s.trail b p touched h d.marks;
  boards = λ i x f. d.boards i x (taken_other b p touched i x h f).1;
  all = λ x f. cases x (d.all x f);
}
  where
    cases : (x : Lit) → (marked_lit (mark_of b x) ≡ Some x) ⊎ (has_lit kept x ≡ true) → (marked_lit (mark_of (taken b p touched) x) ≡ Some x) ⊎ (has_lit kept x ≡ true)
    cases x (inl f) = inl (still_marked b p touched x (λ g. none_some (ap marked_lit (sym e ∙ g) ∙ f)) f)
    cases x (inr f) = inr f

-- a literal that became true by an entry is kept
drain_kept : (s : Setting) (chain : List Link) (b : Board) (lits kept : List Lit) (p : ℕ) (touched : List ℕ) (l : Lit) (i : ℕ) → p < length b.marks → mark_at b p ≡ ByEntry l i → Drain s chain b lits kept → Drain s chain (taken b p touched) lits (kept ++ l ∷ [])
drain_kept s chain b lits kept p touched l i h e d = record {
  replays = d.replays;
  used = d.used;
  differ = d.differ;
  fresh = d.fresh;
  rises = d.rises;
  named = d.named;
  within = d.within;
  stay = d.stay;
  kept_of = all_push (λ x. has_lit lits x ≡ true) kept l d.kept_of (d.boards p l (ap marked_lit e)).0;
  kept_by = all_push (λ x. (j : ℕ) × (since_on s.trail x ≡ Some j)) kept l d.kept_by (i, subst (IsMark s.trail) e (d.marks p));
  marks = taken_marks s.trail b p touched h d.marks;
  boards = λ j x f. d.boards j x (taken_other b p touched j x h f).1;
  all = λ x f. cases x (d.all x f);
}
  where
    marked : (x : Lit) → marked_lit (mark_of b x) ≡ Some x → (c : Bool) → same_lit l x ≡ c → (marked_lit (mark_of (taken b p touched) x) ≡ Some x) ⊎ (has_lit (kept ++ l ∷ []) x ≡ true)
    marked x f true g = inr (subst (λ (y : Lit). has_lit (kept ++ l ∷ []) y ≡ true) (same_lit-equal l x g) (has_push_new kept l))
    marked x f false g = inl (still_marked b p touched x (λ k. clash (sym (ap (λ y. same_lit y x) (some_same (ap marked_lit (sym e ∙ k) ∙ f)) ∙ same_refl x) ∙ g)) f)

    cases : (x : Lit) → (marked_lit (mark_of b x) ≡ Some x) ⊎ (has_lit kept x ≡ true) → (marked_lit (mark_of (taken b p touched) x) ≡ Some x) ⊎ (has_lit (kept ++ l ∷ []) x ≡ true)
    cases x (inl f) = marked x f (same_lit l x) refl
    cases x (inr f) = inr (has_push_old kept l x f)

without_one : (l : Lit) → without (l ∷ []) l ≡ []
without_one l = rw (same_refl l) refl

has_one : (l : Lit) → has_lit (l ∷ []) l ≡ true
has_one l = rw (same_refl l) refl

hole_resolvent : (lits : List Lit) (l : Lit) → has_lit lits l ≡ true → resolvent lits l (complement_of l ∷ []) ≡ Some (without lits l)
hole_resolvent lits l h =
    resolvent_at lits (complement_of l ∷ []) l (complement_of l) h (tt, tt) (has_one (complement_of l)) (ap (λ x. implies_lit x l) (complement-complement l) ∙ implies_refl l)
    ∙ ap (λ (ls : List Lit). Some (joined (without lits l) ls)) (without_one (complement_of l))

-- a literal that the ends imply is resolved away
drain_hole : (s : Setting) (chain : List Link) (b : Board) (lits kept : List Lit) (p : ℕ) (touched : List ℕ) (l : Lit) → p < length b.marks → mark_at b p ≡ ByEnds l → Drain s chain b lits kept → Drain s (chain ++ hole_link l ∷ []) (taken b p touched) (without lits l) kept
drain_hole s chain b lits kept p touched l h e d =
    let here = d.boards p l (ap marked_lit e) in
    let none : since_on s.trail l ≡ None = subst (IsMark s.trail) e (d.marks p) in
    record {
      replays = replayed_push s.held s.first chain (hole_link l) lits (complement_of l ∷ []) (without lits l) d.replays refl (hole_resolvent lits l here.0);
      used = all_push (λ k. IsUsable s.held s.trail k.used) chain (hole_link l) d.used (inr (hole here.0 none));
      differ = differ_push chain (hole_link l) d.differ (all_map (λ k. has_lit lits k.pivot ≡ false) (λ k. same_lit k.pivot l ≡ false) chain (λ k f. apart k f here.0) d.fresh);
      fresh = all_push (λ k. has_lit (without lits l) k.pivot ≡ false) chain (hole_link l) (all_map (λ k. has_lit lits k.pivot ≡ false) (λ k. has_lit (without lits l) k.pivot ≡ false) chain (λ k f. gone k.pivot f) d.fresh) itself;
      rises = rises_without lits l d.rises;
      named = λ x f. d.named x (has_without lits l x f).0;
      within = λ x f. d.within x (has_without lits l x f).0;
      stay = λ x i f g. without_has lits l x (d.stay x i f g) (entry_apart x i g none);
      kept_of = all_both (λ x. has_lit lits x ≡ true) (λ x. (i : ℕ) × (since_on s.trail x ≡ Some i)) (λ x. has_lit (without lits l) x ≡ true) kept (λ x f g. without_has lits l x f (entry_apart x g.0 g.1 none)) d.kept_of d.kept_by;
      kept_by = d.kept_by;
      marks = taken_marks s.trail b p touched h d.marks;
      boards = λ i x f. boarded i x here.1 (taken_other b p touched i x h f);
      all = λ x f. cases x (has_without lits l x f) (d.all x (has_without lits l x f).0);
    }
  where
    hole : has_lit lits l ≡ true → since_on s.trail l ≡ None → IsHole s.trail (record { nogood = complement_of l ∷ []; step = Hole 0 })
    hole f g = record { lit = complement_of l; named = names_complement s.trail.shape l (d.named l f).0; step = refl; nogood = refl; by_ends = ap (ends_imply s.trail.shape.ends) (complement-complement l) ∙ by_ends s.trail l (d.named l f).1 g }

    apart : (k : Link) → has_lit lits k.pivot ≡ false → has_lit lits l ≡ true → same_lit k.pivot l ≡ false
    apart k f g = not_same (λ x. has_lit lits x ≡ false) k.pivot l f (λ q. clash (sym g ∙ q))

    gone : (x : Lit) → has_lit lits x ≡ false → has_lit (without lits l) x ≡ false
    gone x f = test (has_lit (without lits l) x) refl
      where
        test : (c : Bool) → has_lit (without lits l) x ≡ c → has_lit (without lits l) x ≡ false
        test true g = clash (sym (has_without lits l x g).0 ∙ f)
        test false g = g

    itself : has_lit (without lits l) l ≡ false
    itself = test (has_lit (without lits l) l) refl
      where
        test : (c : Bool) → has_lit (without lits l) l ≡ c → has_lit (without lits l) l ≡ false
        test true g = clash (sym (same_refl l) ∙ (has_without lits l l g).1)
        test false g = g

    entry_apart : (x : Lit) (i : ℕ) → since_on s.trail x ≡ Some i → since_on s.trail l ≡ None → same_lit x l ≡ false
    entry_apart x i f g = not_same (λ y. since_on s.trail y ≡ Some i) x l f (λ q. some_none (sym q ∙ g))

    boarded : (i : ℕ) (x : Lit) → place_of b l ≡ p → ((p == i) ≡ false) × (marked_lit (mark_at b i) ≡ Some x) → (has_lit (without lits l) x ≡ true) × (place_of b x ≡ i)
    boarded i x at_p both =
        let old = d.boards i x both.1 in
        (without_has lits l x old.0 (not_same (λ y. place_of b y ≡ i) x l old.1 (λ q. clash (sym (own p i (sym at_p ∙ q)) ∙ both.0))), old.1)
      where
        own : (n m : ℕ) → n ≡ m → (n == m) ≡ true
        own n m g = grind (arith, nat_tests)

    cases : (x : Lit) → (has_lit lits x ≡ true) × (same_lit x l ≡ false) → (marked_lit (mark_of b x) ≡ Some x) ⊎ (has_lit kept x ≡ true) → (marked_lit (mark_of (taken b p touched) x) ≡ Some x) ⊎ (has_lit kept x ≡ true)
    cases x both (inl f) = inl (still_marked b p touched x (λ k. clash (sym (ap (λ y. same_lit y l) (sym (some_same (ap marked_lit (sym e ∙ k) ∙ f))) ∙ same_refl l) ∙ both.1)) f)
    cases x both (inr f) = inr f

-- one mark taken and sorted out
pub drain_step : (s : Setting) (chain after : List Link) (b new : Board) (kept more : List Lit) (m : Mark) → Takes b new m → Drains s chain b kept → SortsOut m chain after kept more → Drains s after new more
drain_step s chain after b new kept more m t d sorted =
    subst (λ (v : Board). Drains s after v more) (sym t.rest) (cases m t.mark sorted)
  where
    cases : (k : Mark) → k ≡ mark_at b t.place → SortsOut k chain after kept more → Drains s after (taken b t.place new.touched) more
    cases Clear e f =
        subst (λ (ks : List Link). Drains s ks (taken b t.place new.touched) more) (sym f.0)
        (subst (Drains s chain (taken b t.place new.touched)) (sym f.1) (d.0, drain_clear s chain b d.0 kept t.place new.touched t.within (sym e) d.1))
    cases (ByEnds l) e f =
        subst (λ (ks : List Link). Drains s ks (taken b t.place new.touched) more) (sym f.0)
        (subst (Drains s (chain ++ hole_link l ∷ []) (taken b t.place new.touched)) (sym f.1) (without d.0 l, drain_hole s chain b d.0 kept t.place new.touched l t.within (sym e) d.1))
    cases (ByEntry l i) e f =
        subst (λ (ks : List Link). Drains s ks (taken b t.place new.touched) more) (sym f.0)
        (subst (Drains s chain (taken b t.place new.touched)) (sym f.1) (d.0, drain_kept s chain b d.0 kept t.place new.touched l i t.within (sym e) d.1))

-- marks have well formed literals
pub mark_literal : (b new : Board) (m : Mark) → Takes b new m → ((i : ℕ) → LitOfMark (mark_at b i)) → LitOfMark m
mark_literal b new m t f = subst LitOfMark (sym t.mark) (f t.place)

pub taken_literals : (b new : Board) (m : Mark) → Takes b new m → ((i : ℕ) → LitOfMark (mark_at b i)) → (i : ℕ) → LitOfMark (mark_at new i)
taken_literals b new m t f i = subst (λ (v : Board). LitOfMark (mark_at v i)) (sym t.rest) (cases (t.place == i) refl)
  where
    cases : (c : Bool) → (t.place == i) ≡ c → LitOfMark (mark_at (taken b t.place new.touched) i)
    cases true e = subst LitOfMark (sym (set_there b.marks t.place i Clear Clear t.within e)) tt
    cases false e = subst LitOfMark (sym (set_else b.marks t.place i Clear Clear e)) (f i)

pub takes_falls : (b new : Board) (m : Mark) → Takes b new m → length new.touched < length b.touched
takes_falls b new m t = omega (arith, ap length t.last, length-append new.touched (t.place ∷ []))

-- where no mark is left, what is kept is the nogood
pub drained : (s : Setting) (chain : List Link) (b : Board) (kept : List Lit) → IsClear b → (d : Drains s chain b kept) → canonical kept ≡ d.0
drained s chain b kept clear d = canonical_of d.0 kept d.1.rises d.1.kept_of (λ l h. cases l (d.1.all l h))
  where
    cases : (l : Lit) → (marked_lit (mark_of b l) ≡ Some l) ⊎ (has_lit kept l ≡ true) → has_lit kept l ≡ true
    cases l (inl f) = none_some (ap marked_lit (sym (clear (place_of b l))) ∙ f)
    cases l (inr f) = f
