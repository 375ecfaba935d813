-- The marks of a board: what is not touched stays clear.
use Rattle.std.proofs.Common.{◌≡◌, ℕ, zero, suc, ◌<◌, ◌==◌, ◌||◌, Bool, true, false, List, [], ◌∷◌, ◌++◌, length, get_or, set, replicate, refl, sym, ◌∙◌, ap, subst, arith}
use Rattle.std.specs.List.{AllByRecursion, list_any}
use Rattle.std.proofs.lemmas.Bool.Decides.{nat_tests}
use Rattle.std.proofs.lemmas.List.{length-set, get_or-set_same, get_or-set_other}
use Rattle.conflict_analysis.specs.declared.marks.Mark.{Mark}
use Rattle.conflict_analysis.specs.declared.marks.Mark.TheVariants.{Clear, ByEnds, ByEntry}
use Rattle.conflict_analysis.specs.Marked.{Board, IsBoard, is_clear, Takes}
use Rattle.nogood_store.proofs.HeldLaws.{get_any}

clash : {X : Type 0} → true ≡ false → X
clash h = cc

all_push : (P : ℕ → Type 0) (xs : List ℕ) (x : ℕ) → AllByRecursion P xs → P x → AllByRecursion P (xs ++ x ∷ [])
all_push P [] x a p = (p, tt)
all_push P (y ∷ ys) x a p = (a.0, all_push P ys x a.1 p)

all_front : (P : ℕ → Type 0) (xs : List ℕ) (x : ℕ) → AllByRecursion P (xs ++ x ∷ []) → AllByRecursion P xs × P x
all_front P [] x a = (tt, a.0)
all_front P (y ∷ ys) x a = let rest = all_front P ys x a.1 in ((a.0, rest.0), rest.1)

all_map : (P Q : ℕ → Type 0) (xs : List ℕ) → ((x : ℕ) → P x → Q x) → AllByRecursion P xs → AllByRecursion Q xs
all_map P Q [] f a = tt
all_map P Q (x ∷ xs) f a = (f x a.0, all_map P Q xs f a.1)

any_push : (xs : List ℕ) (x i : ℕ) → list_any (λ j. j == i) (xs ++ x ∷ []) ≡ (list_any (λ j. j == i) xs || (x == i))
any_push [] x i = cases (x == i)
  where
    cases : (b : Bool) → (b || false) ≡ b
    cases true = refl
    cases false = refl
any_push (y ∷ ys) x i = cases (y == i) (any_push ys x i)
  where
    cases : (b : Bool) → list_any (λ j. j == i) (ys ++ x ∷ []) ≡ (list_any (λ j. j == i) ys || (x == i)) → (b || list_any (λ j. j == i) (ys ++ x ∷ [])) ≡ ((b || list_any (λ j. j == i) ys) || (x == i))
    cases true h = refl
    cases false h = h

-- one place written
pub set_there : (ms : List Mark) (p i : ℕ) (m d : Mark) → p < length ms → (p == i) ≡ true → get_or (set ms p m) i d ≡ m
set_there ms p i m d h e = let same : p ≡ i = grind (arith, nat_tests) in ap (λ k. get_or (set ms p m) k d) (sym same) ∙ get_or-set_same ms p m d h

pub set_else : (ms : List Mark) (p i : ℕ) (m d : Mark) → (p == i) ≡ false → get_or (set ms p m) i d ≡ get_or ms i d
set_else ms p i m d e = get_or-set_other ms p i m d (λ same. clash (own i p same e))
  where
    own : (a b : ℕ) → a ≡ b → (b == a) ≡ false → true ≡ false
    own a b s f = grind (arith, nat_tests)

within_set : (ms : List Mark) (p : ℕ) (m : Mark) (touched : List ℕ) → AllByRecursion (λ j. j < length ms) touched → AllByRecursion (λ j. j < length (set ms p m)) touched
within_set ms p m touched a = all_map (λ j. j < length ms) (λ j. j < length (set ms p m)) touched (λ j h. rw length-set h) a

pub board_none : IsBoard [] []
board_none = record { within = tt; clear = λ i h. refl }

pub board_empty : (touched : List ℕ) → touched ≡ [] → IsBoard [] touched
board_empty touched e = subst (IsBoard []) (sym e) board_none

pub board_unset : (ms : List Mark) (touched : List ℕ) (p : ℕ) → p < length ms → IsBoard ms touched → IsBoard (set ms p Clear) touched
board_unset ms touched p h b = record {
  within = within_set ms p Clear touched b.within;
  clear = λ i u. cases i u (p == i) refl;
}
  where
    cases : (i : ℕ) → list_any (λ j. j == i) touched ≡ false → (t : Bool) → (p == i) ≡ t → get_or (set ms p Clear) i Clear ≡ Clear
    cases i u true e = set_there ms p i Clear Clear h e
    cases i u false e = set_else ms p i Clear Clear e ∙ b.clear i u

or_parts : (a b : Bool) → (a || b) ≡ false → (a ≡ false) × (b ≡ false)
or_parts true b h = clash h
or_parts false b h = (refl, h)

pub board_touch : (ms : List Mark) (touched : List ℕ) (p : ℕ) (m : Mark) → p < length ms → IsBoard ms touched → IsBoard (set ms p m) (touched ++ p ∷ [])
board_touch ms touched p m h b = record {
  within = within_set ms p m (touched ++ p ∷ []) (all_push (λ j. j < length ms) touched p b.within h);
  clear = λ i u. let parts = or_parts (list_any (λ j. j == i) touched) (p == i) (sym (any_push touched p i) ∙ u) in set_else ms p i m Clear parts.1 ∙ b.clear i parts.0;
}

pub board_again : (ms : List Mark) (touched : List ℕ) (p : ℕ) (m : Mark) → p < length ms → is_clear (get_or ms p Clear) ≡ false → IsBoard ms touched → IsBoard (set ms p m) touched
board_again ms touched p m h full b = record {
  within = within_set ms p m touched b.within;
  clear = λ i u. cases i u (p == i) refl;
}
  where
    empty : (k : Mark) → k ≡ Clear → is_clear k ≡ false → ⊥
    empty Clear e f = clash f
    empty (ByEnds l) e f = cc
    empty (ByEntry l n) e f = cc

    cases : (i : ℕ) → list_any (λ j. j == i) touched ≡ false → (t : Bool) → (p == i) ≡ t → get_or (set ms p m) i Clear ≡ Clear
    cases i u true e =
        let same : p ≡ i = grind (arith, nat_tests) in
        absurd (empty (get_or ms p Clear) (ap (λ k. get_or ms k Clear) same ∙ b.clear i u) full)
    cases i u false e = set_else ms p i m Clear e ∙ b.clear i u

-- the last touched place cleared
pub board_taken : (ms : List Mark) (old new : List ℕ) (p : ℕ) → old ≡ new ++ p ∷ [] → IsBoard ms old → (p < length ms) × IsBoard (set ms p Clear) new
board_taken ms old new p e b =
    let whole : IsBoard ms (new ++ p ∷ []) = subst (IsBoard ms) e b in
    let parts = all_front (λ j. j < length ms) new p whole.within in (
      parts.1,
      record {
        within = within_set ms p Clear new parts.0;
        clear = λ i u. cases whole parts.1 i u (p == i) refl;
      },
    )
  where
    cases : IsBoard ms (new ++ p ∷ []) → p < length ms → (i : ℕ) → list_any (λ j. j == i) new ≡ false → (t : Bool) → (p == i) ≡ t → get_or (set ms p Clear) i Clear ≡ Clear
    cases w h i u true f = set_there ms p i Clear Clear h f
    cases w h i u false f = set_else ms p i Clear Clear f ∙ w.clear i (any_push new p i ∙ rw (u, f) refl)

pub board_clear : (ms : List Mark) (touched : List ℕ) → touched ≡ [] → IsBoard ms touched → (i : ℕ) → get_or ms i Clear ≡ Clear
board_clear ms touched e b i = (subst (IsBoard ms) e b).clear i refl

pub replicate_clear : (n i : ℕ) → get_or (replicate n Clear) i Clear ≡ Clear
replicate_clear zero i = refl
replicate_clear (suc n) zero = refl
replicate_clear (suc n) (suc i) = replicate_clear n i

pub takes : (v old new : Board) (p : ℕ) (m : Mark) → v ≡ old → v.touched ≡ new.touched ++ p ∷ [] → p < length v.marks → m ≡ get_or v.marks p Clear → new ≡ record v { marks = set v.marks p Clear; touched = new.touched } → Takes old new m
takes v old new p m e last within mark rest = subst (λ (b : Board). Takes b new m) e (record { place = p; last = last; within = within; mark = mark; rest = rest })

not_clear : (m : Mark) → (m ≡ Clear → ⊥) → is_clear m ≡ false
not_clear Clear h = absurd (h refl)
not_clear (ByEnds l) h = refl
not_clear (ByEntry l i) h = refl

pub board_marked : (ms : List Mark) (touched : List ℕ) (p : ℕ) (m d : Mark) → p < length ms → (get_or ms p d ≡ Clear → ⊥) → IsBoard ms touched → IsBoard (set ms p m) touched
board_marked ms touched p m d h full b = board_again ms touched p m h (ap is_clear (get_any ms p Clear d h) ∙ not_clear (get_or ms p d) full) b
