-- What several propagators keep, and what one of them says said of all.
use Rattle.std.proofs.Common.{◌⊎◌, inl, inr, ◌≡◌, ℕ, zero, suc, ◌+◌, ◌<◌, Bool, true, false, ◌==◌, IsTrue, List, [], ◌∷◌, length, get_or, set, map, take, refl, sym, ◌∙◌, ap, subst, arith}
use Rattle.std.proofs.lemmas.Bool.Decides.{nat_tests}
use Rattle.std.proofs.lemmas.List.{get_or-map, take-append-le, length-set, get_or-set_other}
use Rattle.std.proofs.lemmas.Grind.{get_or-set_at}
use Rattle.symbols.specs.declared.ends.Ends.{Ends}
use Rattle.literals.specs.declared.reason.Reason.{Reason}
use Rattle.trail.specs.declared.shape.Shape.{Shape}
use Rattle.trail.specs.declared.entry.Entry.{Entry}
use Rattle.trail.specs.Assignment.{Assignment}
use Rattle.trail.specs.Growth.{Grows}
use Rattle.trail.proofs.GrowthLaws.{grows_on, grows_map, grows_same, grows_shape, grows_length, grows_entries}
use Rattle.propagator_core.specs.Meaning.{Meaning}
use Rattle.propagator_core.specs.Standing.{StandsFor}
use Rattle.propagator_core.specs.Shown.{IsShown, IsConflict}
use Rattle.propagator_core.specs.Quiet.{Answers}
use Rattle.propagator_core.specs.Several.{some_valid, AllFit, AllStand, AllQuiet, AllRest}
use Rattle.propagator_core.specs.Turns.{IsDone, FirstDone, Turns, turn_after}
use Rattle.propagator_core.specs.declared.outcome.Outcome.{Outcome}
use Rattle.propagator_core.specs.declared.outcome.Outcome.TheVariants as outcome
use Rattle.propagator_core.specs.declared.several.Turn.{Turn}

abbrev Valid : Type 0
Valid = Shape → Reason → Bool

-- validity

shown_map : (v w : Valid) → ((s : Shape) (r : Reason) → IsTrue (v s r) → IsTrue (w s r)) → (t : Assignment) (e : Entry) → IsShown v t e → IsShown w t e
shown_map v w f t e h = record { reason = h.reason; why = h.why; is_valid = f t.shape h.reason h.is_valid; spelled = h.spelled; forces = h.forces }

pub shown_grows : (v w : Valid) → ((s : Shape) (r : Reason) → IsTrue (v s r) → IsTrue (w s r)) → (a b : Assignment) → Grows (IsShown v) a b → Grows (IsShown w) a b
shown_grows v w f a b g = grows_map (IsShown v) (IsShown w) (shown_map v w f) a b g

pub conflict_map : (v w : Valid) → ((s : Shape) (r : Reason) → IsTrue (v s r) → IsTrue (w s r)) → (t : Assignment) (r : Reason) → IsConflict v t r → IsConflict w t r
conflict_map v w f t r c = record { is_valid = f t.shape r c.is_valid; spelled = c.spelled; all_true = c.all_true }

-- what one calls valid, one of them does
pub one_valid : (ms : List Meaning) (i : ℕ) (d : Meaning) → i < length ms → (s : Shape) (r : Reason) → IsTrue ((get_or ms i d).valid s r) → IsTrue (some_valid ms s r)
one_valid [] i d lt s r h = absurd (omega arith)
one_valid (m ∷ ms) zero d lt s r h = grind (arith, nat_tests, h)
one_valid (m ∷ ms) (suc i) d lt s r h = let rest = one_valid ms i d (omega arith) s r h in grind (arith, nat_tests, rest)

-- one of several

length_map : {X : Type 0} (f : X → Meaning) (xs : List X) → length (map f xs) ≡ length xs
length_map f [] = refl
length_map f (x ∷ xs) = ap suc (length_map f xs)

pub fit_at : {X : Type 0} (f : X → Meaning) (xs : List X) (i : ℕ) (d : X) (s : Shape) → AllFit (map f xs) s → i < length xs → IsTrue ((f (get_or xs i d)).fits s)
fit_at f xs i d s h lt = subst (λ (m : Meaning). IsTrue (m.fits s)) (get_or-map f xs i d (f d) lt) (h i (f d) (let e = length_map f xs in omega (arith, e, lt)))

pub stands_on : (P : Assignment → Entry → Type 0) (stands : Ends → List Entry → Type 0) (looked : ℕ) (a b : Assignment) → Grows P a b → StandsFor stands looked a → StandsFor stands looked b
stands_on P stands looked a b g h =
    let longer = grows_length P a b g in
    let within = h.within in
    record {
      within = omega (arith, longer, within);
      for_these =
          subst (λ (s : Shape). stands s.ends (take looked b.entries)) (sym (grows_shape P a b g))
          (subst (λ (es : List Entry). stands a.shape.ends es) (sym (ap (take looked) (grows_entries P a b g) ∙ take-append-le looked a.entries g.more h.within)) h.for_these);
    }

pub stand_at : {X : Type 0} (P : Assignment → Entry → Type 0) (stands : X → Ends → List Entry → Type 0) (looked : X → ℕ) (xs : List X) (i : ℕ) (y : X) (a b : Assignment) → i < length xs → Grows P a b → AllStand stands looked xs a → StandsFor (stands y) (looked y) b → AllStand stands looked (set xs i y) b
stand_at P stands looked xs i y a b at g h s k d lt = split (decide k)
  where
    decide : (k : ℕ) → (k ≡ i) ⊎ ¬ (k ≡ i)
    decide k = grind arith

    split : (k ≡ i) ⊎ ¬ (k ≡ i) → StandsFor (stands (get_or (set xs i y) k d)) (looked (get_or (set xs i y) k d)) b
    split (inl same) = subst (λ x. StandsFor (stands x) (looked x) b) (sym (get_or-set_at xs i k y d same at)) s
    split (inr other) = subst (λ x. StandsFor (stands x) (looked x) b) (sym (get_or-set_other xs i k y d other)) (stands_on P (stands (get_or xs k d)) (looked (get_or xs k d)) a b g (h k d (let e = length-set xs i y in omega (arith, e, lt))))

pub grows_at : {X : Type 0} (f : X → Meaning) (xs : List X) (i : ℕ) (d : X) (a b : Assignment) → i < length xs → Grows (IsShown (f (get_or xs i d)).valid) a b → Grows (IsShown (some_valid (map f xs))) a b
grows_at f xs i d a b lt g =
    shown_grows (f (get_or xs i d)).valid (some_valid (map f xs))
    (λ s r h. one_valid (map f xs) i (f d) (let e = length_map f xs in omega (arith, e, lt)) s r (subst (λ (m : Meaning). IsTrue (m.valid s r)) (sym (get_or-map f xs i d (f d) lt)) h)) a b g

any : Meaning
any = record { number = 0; fits = λ s. true; valid = λ s r. true; counts = λ n. true; settled = λ t. true; touches = []; rests = λ t. true }

-- what the answer of one says of all of them

pub conflict_at : {X : Type 0} (f : X → Meaning) (xs : List X) (i : ℕ) (a b : Assignment) (r : Reason) → i < length xs → ((m : Meaning) → Answers (get_or (map f xs) i m) a b (outcome.Conflict r)) → IsConflict (some_valid (map f xs)) b r
conflict_at f xs i a b r lt h =
    let ms = map f xs in
    conflict_map (get_or ms i any).valid (some_valid ms) (λ s q v. one_valid ms i any (let n = length_map f xs in omega (arith, n, lt)) s q v) b r (h any)

longer : (P : Assignment → Entry → Type 0) (a b : Assignment) → Grows P a b → ((length b.entries == length a.entries) ≡ false) → length a.entries < length b.entries
longer P a b g other = let l = grows_length P a b g in grind (arith, nat_tests, l, other)

pub turn_at : {X : Type 0} (f : X → Meaning) (xs : List X) (i : ℕ) (a b : Assignment) (o : Outcome) → i < length xs → Grows (IsShown (some_valid (map f xs))) a b → ((m : Meaning) → Answers (get_or (map f xs) i m) a b o) → Turns (map f xs) i a b (turn_after o (length b.entries == length a.entries))
turn_at f xs i a b (outcome.Conflict r) lt g h = conflict_at f xs i a b r lt h
turn_at f xs i a b outcome.Narrowed lt g h = h any
turn_at f xs i a b outcome.Quiet lt g h = cases (length b.entries == length a.entries) refl
  where
    P : Assignment → Entry → Type 0
    P = IsShown (some_valid (map f xs))

    cases : (same : Bool) → (length b.entries == length a.entries) ≡ same → Turns (map f xs) i a b (turn_after outcome.Quiet same)
    cases true e = (grows_same P a b g (grind (arith, nat_tests, e)), λ m. h m)
    cases false e = longer P a b g e

pub turn_as : {X : Type 0} (f : X → Meaning) (xs : List X) (i : ℕ) (a b : Assignment) (o : Outcome) (turn : Turn) (same : Bool) → i < length xs → Grows (IsShown (some_valid (map f xs))) a b → ((m : Meaning) → Answers (get_or (map f xs) i m) a b o) → turn ≡ turn_after o same → same ≡ (length b.entries == length a.entries) → Turns (map f xs) i a b turn
turn_as f xs i a b o turn same lt g h e d = subst (Turns (map f xs) i a b) (sym (e ∙ ap (turn_after o) d)) (turn_at f xs i a b o lt g h)

-- turn after turn

pub fit_on : (P : Assignment → Entry → Type 0) (ms ns : List Meaning) (a b : Assignment) → Grows P a b → ns ≡ ms → AllFit ms a.shape → AllFit ns b.shape
fit_on P ms ns a b g e h = subst (λ (s : Shape). AllFit ns s) (sym (grows_shape P a b g)) (subst (λ (qs : List Meaning). AllFit qs a.shape) (sym e) h)

pub grows_turn : (ms ns : List Meaning) (a b c : Assignment) → Grows (IsShown (some_valid ms)) a b → ns ≡ ms → Grows (IsShown (some_valid ns)) b c → Grows (IsShown (some_valid ms)) a c
grows_turn ms ns a b c g e h = grows_on (IsShown (some_valid ms)) a b c g (subst (λ (qs : List Meaning). Grows (IsShown (some_valid qs)) b c) e h)

pub conflict_as : (ms ns : List Meaning) (t : Assignment) (r : Reason) → ns ≡ ms → IsConflict (some_valid ns) t r → IsConflict (some_valid ms) t r
conflict_as ms ns t r e h = subst (λ (qs : List Meaning). IsConflict (some_valid qs) t r) e h

pub one_more_done : (ms ns : List Meaning) (i : ℕ) (a b : Assignment) → ns ≡ ms → FirstDone ms i a → (b ≡ a) × ((m : Meaning) → IsDone (get_or ns i m) b) → FirstDone ms (i + 1) b
one_more_done ms ns i a b e before h k m lt = split (nat_split k lt)
  where
    nat_split : (k : ℕ) → k < i + 1 → (k < i) ⊎ (k ≡ i)
    nat_split k lt = grind arith

    split : (k < i) ⊎ (k ≡ i) → IsDone (get_or ms k m) b
    split (inl less) = subst (λ (t : Assignment). IsDone (get_or ms k m) t) (sym h.0) (before k m less)
    split (inr same) = subst (λ (n : ℕ). IsDone (get_or ms n m) b) (sym same) (subst (λ (qs : List Meaning). IsDone (get_or qs i m) b) e (h.1 m))

pub none_done : (ms : List Meaning) (t : Assignment) → FirstDone ms 0 t
none_done ms t k m lt = absurd (omega arith)

pub all_quiet : {X : Type 0} (f : X → Meaning) (xs ys : List X) (t : Assignment) → map f ys ≡ map f xs → FirstDone (map f xs) (length ys) t → AllQuiet (map f xs) t
all_quiet f xs ys t e h k m lt = (h k m (let a = length_map f xs in let b = length_map f ys in let c = ap length e in omega (arith, a, b, c, lt))).0

pub all_rest : {X : Type 0} (f : X → Meaning) (xs ys : List X) (t : Assignment) → map f ys ≡ map f xs → FirstDone (map f xs) (length ys) t → AllRest (map f xs) t
all_rest f xs ys t e h k m lt = (h k m (let a = length_map f xs in let b = length_map f ys in let c = ap length e in omega (arith, a, b, c, lt))).1

pub count_of : {X : Type 0} (f : X → Meaning) (xs ys : List X) → map f ys ≡ map f xs → length ys ≡ length xs
count_of f xs ys e = sym (length_map f ys) ∙ ap length e ∙ length_map f xs
