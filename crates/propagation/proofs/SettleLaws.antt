-- What calls of propagators leave, put together.
use Rattle.std.proofs.Common.{◌⊎◌, inl, inr, ◌≡◌, ℕ, suc, ◌-◌, ◌<◌, ◌≤◌, ◌^◌, true, IsTrue, List, [], ◌∷◌, ◌++◌, length, get_or, map, slice_get, Option, None, Some, IfNone, sym, ◌∙◌, ap, subst, arith, append_assoc}
use Rattle.std.specs.List.{All, AllByRecursion, Contains}
use Rattle.std.proofs.lemmas.Option.{slice_get-get_or, get_or_from_slice_get}
use Rattle.symbols.specs.declared.ends.Ends.{Ends}
use Rattle.literals.specs.declared.reason.Reason.{Reason}
use Rattle.trail.specs.declared.entry.Entry.{Entry}
use Rattle.trail.specs.declared.shape.Shape.{Shape}
use Rattle.trail.specs.Assignment.{Assignment}
use Rattle.trail.specs.Growth.{Grows}
use Rattle.trail.proofs.GrowthLaws.{grows_on, grows_map, grows_same, grows_length, grows_shape, grows_entries}
use Rattle.nogood_store.specs.Holding.{Held, Seen, IsFront, seen_of}
use Rattle.nogood_store.specs.Propagation as store
use Rattle.nogood_store.specs.Propagation.{IsForced, AllNamed}
use Rattle.propagator_core.specs.declared.outcome.Outcome.{Outcome}
use Rattle.propagator_core.specs.declared.outcome.Outcome.TheVariants as outcome
use Rattle.propagator_core.specs.Meaning.{Meaning}
use Rattle.propagator_core.specs.Quiet.{IsSteady, Answers}
use Rattle.propagator_core.specs.Shown.{IsShown, IsConflict}
use Rattle.propagator_core.specs.Several.{some_valid, AllStand, AllRest}
use Rattle.propagator_core.proofs.SeveralLaws.{stands_on, conflict_at}
use Rattle.propagation.specs.declared.calls.Move.{Move}
use Rattle.propagation.specs.declared.calls.Move.TheVariants.{Done, Gone}
use Rattle.propagation.specs.declared.found.Found.TheVariants.{Calm}
use Rattle.propagation.specs.Awake.{Awake}
use Rattle.propagation.specs.Waking.{Rows, HasRows, AreWakes, OthersRest, KeepsRest}
use Rattle.propagation.specs.inner.Hearing.{AreHeard, IsKept}
use Rattle.propagation.specs.Causes.{IsCaused, Finds}
use Rattle.propagation.specs.inner.Moves.{Steps, Runs}
use Rattle.propagation.proofs.RestLaws.{keeps_rest, keeps_call, keeps_then}
use Rattle.propagation.proofs.StepLaws.{seen_append}

-- TRAILS THAT GREW

pub rows_on : (P : Assignment → Entry → Type 0) (rows : Rows) (a b : Assignment) (n m : ℕ) → Grows P a b → m ≡ n → HasRows a.shape n rows → HasRows b.shape m rows
rows_on P rows a b n m g same h = subst (λ (k : ℕ). HasRows b.shape k rows) (sym same) (subst (λ (s : Shape). HasRows s n rows) (sym (grows_shape P a b g)) h)

pub from_on : (P : Assignment → Entry → Type 0) (a b : Assignment) (from : ℕ) → from ≡ length a.entries → Grows P a b → from ≤ length b.entries
from_on P a b from at g = let n = grows_length P a b g in omega (arith, n, at)

pub named_on : (P : Assignment → Entry → Type 0) (held others : List Held) (a b : Assignment) → Grows P a b → others ≡ held → AllNamed a.shape held → AllNamed b.shape others
named_on P held others a b g same h = subst (AllNamed b.shape) (sym same) (subst (λ (s : Shape). AllNamed s held) (sym (grows_shape P a b g)) h)

pub looked_on : (P : Assignment → Entry → Type 0) (looked : List Seen) (a b : Assignment) → Grows P a b → IsFront looked (seen_of a.entries) → IsFront looked (seen_of b.entries)
looked_on P looked a b g f =
    (f.0 ++ seen_of g.more, ap seen_of (grows_entries P a b g) ∙ seen_append a.entries g.more ∙ ap (λ xs. xs ++ seen_of g.more) f.1 ∙ append_assoc looked f.0 (seen_of g.more))

pub all_stand_on : {X : Type 0} (P : Assignment → Entry → Type 0) (stands : X → Ends → List Entry → Type 0) (looked : X → ℕ) (xs : List X) (a b : Assignment) → Grows P a b → AllStand stands looked xs a → AllStand stands looked xs b
all_stand_on P stands looked xs a b g all k d lt = stands_on P (stands (get_or xs k d)) (looked (get_or xs k d)) a b g (all k d lt)

-- ONE CALL

pub answer_as : (ms : List Meaning) (place : ℕ) (t u : Assignment) (o p : Outcome) → o ≡ p → ((m : Meaning) → Answers (get_or ms place m) t u o) → (m : Meaning) → Answers (get_or ms place m) t u p
answer_as ms place t u o p same answer m = subst (Answers (get_or ms place m) t u) same (answer m)

any : Meaning
any = record { number = 0; fits = λ s. true; valid = λ s r. true; counts = λ n. true; settled = λ t. true; touches = []; rests = λ t. true }

pub narrowed_step : (rows : Rows) (ms : List Meaning) (place from : ℕ) (before middle woken after : List ℕ) (t u : Assignment) (o : Outcome) → from ≡ length t.entries → Grows (IsShown (some_valid ms)) t u → before ≡ place ∷ middle
    → IsKept middle woken → Contains woken place → IsKept woken after → ((ns : List Meaning) → AreWakes rows ns → AreHeard ns after u.entries from (length u.entries))
    → o ≡ outcome.Narrowed → ((m : Meaning) → Answers (get_or ms place m) t u o) → Steps ms rows t u before after Gone
narrowed_step rows ms place from before middle woken after t u o at g first kept there more heard is answer = (
  keeps_call (IsShown (some_valid ms)) rows ms place before middle after t u g first (λ i c. more i (kept i c)) (subst (λ n. AreWakes rows ms → AreHeard ms after u.entries n (length u.entries)) at (heard ms)) (inl (more place there)),
  inl (answer_as ms place t u o outcome.Narrowed is answer any),
)

pub quiet_step : (rows : Rows) (ms : List Meaning) (place from : ℕ) (before : List ℕ) (awake after : Awake) (t u : Assignment) (o : Outcome) → from ≡ length t.entries → Grows (IsShown (some_valid ms)) t u → before ≡ place ∷ awake.places
    → IsKept awake.places after.places → ((ns : List Meaning) → AreWakes rows ns → AreHeard ns after.places u.entries from (length u.entries)) → (from ≡ length u.entries → after ≡ awake)
    → o ≡ outcome.Quiet → ((m : Meaning) → Answers (get_or ms place m) t u o) → Steps ms rows t u before after.places Gone
quiet_step rows ms place from before awake after t u o at g first kept heard same is answer = (
  keeps_call (IsShown (some_valid ms)) rows ms place before awake.places after.places t u g first kept (subst (λ n. AreWakes rows ms → AreHeard ms after.places u.entries n (length u.entries)) at (heard ms)) (inr rested),
  by_length (split (length t.entries) (length u.entries) (let n = grows_length (IsShown (some_valid ms)) t u g in omega (arith, n))),
)
  where
    rested : (m : Meaning) → slice_get ms place ≡ Some m → IsTrue (m.rests u)
    rested m there = subst (λ (n : Meaning). IsTrue (n.rests u)) (get_or_from_slice_get ms place m m there) (answer_as ms place t u o outcome.Quiet is answer m).1

    split : (n k : ℕ) → n ≤ k → (n < k) ⊎ (n ≡ k)
    split n k le = grind arith

    by_length : (length t.entries < length u.entries) ⊎ (length t.entries ≡ length u.entries) → (length t.entries < length u.entries) ⊎ ((u ≡ t) × (length after.places < length before))
    by_length (inl longer) = inl longer
    by_length (inr e) =
        let shorter : length after.places ≡ length awake.places = ap (λ (a : Awake). length a.places) (same (at ∙ e)) in
        let longer : length before ≡ suc (length awake.places) = ap length first in
        inr (grows_same (IsShown (some_valid ms)) t u g (sym e), omega (arith, shorter, longer))

pub conflict_step : {X : Type 0} (f : X → Meaning) (xs : List X) (place : ℕ) (t u : Assignment) (o : Outcome) (r : Reason) → place < length xs → o ≡ outcome.Conflict r → ((m : Meaning) → Answers (get_or (map f xs) place m) t u o) → IsConflict (some_valid (map f xs)) u r
conflict_step f xs place t u o r lt is answer = conflict_at f xs place t u r lt (answer_as (map f xs) place t u o (outcome.Conflict r) is answer)

-- CALLS

-- what a step leaves after steps that left the trail the same
pub runs_done : (rows : Rows) (ms ns : List Meaning) (before middle after : List ℕ) (t u v : Assignment) → ns ≡ ms → u ≡ t → KeepsRest rows ms before middle t u → Steps ns rows u v middle after Done → Runs ms rows t v before after Done
runs_done rows ms ns before middle after t u v e same keeps s =
    (subst (λ (w : Assignment). KeepsRest rows ms before after t w) (sym s.2) (subst (λ ps. KeepsRest rows ms before ps t u) (s.0 ∙ sym s.1) keeps), s.1, s.2 ∙ same)

steps_as : (ms : List Meaning) (rows : Rows) (t u : Assignment) (before after : List ℕ) (step gone : Move) → step ≡ gone → Steps ms rows t u before after step → Steps ms rows t u before after gone
steps_as ms rows t u before after step gone same s = subst (Steps ms rows t u before after) same s

pub runs_gone : (rows : Rows) (ms ns : List Meaning) (before middle after : List ℕ) (t u v : Assignment) (from to : ℕ) (step : Move) → ns ≡ ms → u ≡ t → KeepsRest rows ms before middle t u → step ≡ Gone → Steps ns rows u v middle after step
    → from ≡ length t.entries → to ≡ length v.entries → from < to → to < 2 ^ 64 → Runs ms rows t v before after Gone
runs_gone rows ms ns before middle after t u v from to step e same keeps is s low high longer room =
    let gone : Steps ns rows u v middle after Gone = steps_as ns rows u v middle after step Gone is s in
    (keeps_then rows ms before middle after t u v keeps (subst (λ (qs : List Meaning). KeepsRest rows qs middle after u v) e gone.0), omega (arith, low, high, longer), omega (arith, high, room))

pub same_gone : (rows : Rows) (ms ns : List Meaning) (before middle after : List ℕ) (t u v : Assignment) (from to : ℕ) (step : Move) → ns ≡ ms → u ≡ t → KeepsRest rows ms before middle t u → step ≡ Gone → Steps ns rows u v middle after step
    → from ≡ length t.entries → to ≡ length v.entries → to ≤ from → (v ≡ t) × KeepsRest rows ms before after t v × (length after < length middle)
same_gone rows ms ns before middle after t u v from to step e same keeps is s low high short = by_case (steps_as ns rows u v middle after step Gone is s)
  where
    by_case : Steps ns rows u v middle after Gone → (v ≡ t) × KeepsRest rows ms before after t v × (length after < length middle)
    by_case (k, inl longer) = absurd (let had : length t.entries < length v.entries = subst (λ (w : Assignment). length w.entries < length v.entries) same longer in omega (arith, had, low, high, short))
    by_case (k, inr r) = (r.0 ∙ same, keeps_then rows ms before middle after t u v keeps (subst (λ (qs : List Meaning). KeepsRest rows qs middle after u v) e k), r.1)

-- ROUNDS

pub forced_caused : (held others : List Held) (ms : List Meaning) (a b c : Assignment) → Grows (IsCaused held ms) a b → others ≡ held → Grows (IsForced others) b c → Grows (IsCaused held ms) a c
forced_caused held others ms a b c g e h =
    grows_on (IsCaused held ms) a b c g (grows_map (IsForced held) (IsCaused held ms) (λ t x f. inl f) b c (subst (λ hs. Grows (IsForced hs) b c) e h))

pub shown_caused : (held : List Held) (ms ns : List Meaning) (a b c : Assignment) → Grows (IsCaused held ms) a b → ns ≡ ms → Grows (IsShown (some_valid ns)) b c → Grows (IsCaused held ms) a c
shown_caused held ms ns a b c g e h =
    grows_on (IsCaused held ms) a b c g (grows_map (IsShown (some_valid ms)) (IsCaused held ms) (λ t x f. inr f) b c (subst (λ (qs : List Meaning). Grows (IsShown (some_valid qs)) b c) e h))

pub all_rest : (ms : List Meaning) (t : Assignment) (places : List ℕ) → places ≡ [] → OthersRest places ms t → AllRest ms t
all_rest ms t places e others k d lt = by_case (others k (get_or ms k d) (slice_get-get_or ms k d lt))
  where
    by_case : Contains places k ⊎ IsTrue ((get_or ms k d).rests t) → IsTrue ((get_or ms k d).rests t)
    by_case (inl c) = absurd (let d : Contains [] k = subst (λ ps. Contains ps k) e c in let lt = d.1 in omega (arith, lt))
    by_case (inr r) = r

-- unit propagation that ended with no nogood
units_rest : (met : Option ℕ) (ms : List Meaning) (rows : Rows) (t u : Assignment) (before after : List ℕ) → met ≡ None → IfNone met ((ns : List Meaning) → KeepsRest rows ns before after t u) → KeepsRest rows ms before after t u
units_rest met ms rows t u before after none keeps = (subst (λ m. IfNone m ((ns : List Meaning) → KeepsRest rows ns before after t u)) none keeps) ms

runs_as : (ms : List Meaning) (rows : Rows) (t u : Assignment) (before after : List ℕ) (step last : Move) → step ≡ last → Runs ms rows t u before after step → Runs ms rows t u before after last
runs_as ms rows t u before after step last same r = subst (Runs ms rows t u before after) same r

pub units_keep : (P : Assignment → Entry → Type 0) (rows : Rows) (ms : List Meaning) (before after : List ℕ) (t u : Assignment) (from : ℕ) → from ≡ length t.entries → Grows P t u → IsKept before after
    → ((ns : List Meaning) → AreWakes rows ns → AreHeard ns after u.entries from (length u.entries)) → KeepsRest rows ms before after t u
units_keep P rows ms before after t u from at g kept heard = keeps_rest P rows ms before after t u g kept (subst (λ n. AreWakes rows ms → AreHeard ms after u.entries n (length u.entries)) at (heard ms))

pub finds_calm : (held others : List Held) (ms ns : List Meaning) (rows : Rows) (t u v : Assignment) (before middle after : List ℕ) (step : Move) (met : Option ℕ) → others ≡ held → ns ≡ ms → AreWakes rows ms → All IsSteady ms → OthersRest before ms t
    → met ≡ None → IfNone met (AllByRecursion (λ h. store.IsQuiet u h.nogood) others) → IfNone met ((qs : List Meaning) → KeepsRest rows qs before middle t u) → step ≡ Done → Runs ns rows u v middle after step → Finds held ms v after Calm
finds_calm held others ms ns rows t u v before middle after step met e same wakes steady rest none quiet keeps is runs =
    let done : Runs ns rows u v middle after Done = runs_as ns rows u v middle after step Done is runs in
    let quiet_on : AllByRecursion (λ h. store.IsQuiet u h.nogood) others = subst (λ m. IfNone m (AllByRecursion (λ h. store.IsQuiet u h.nogood) others)) none quiet in
    let keep : KeepsRest rows ms middle after u v = subst (λ (qs : List Meaning). KeepsRest rows qs middle after u v) same done.0 in (
      record {
        nogoods = subst (λ (w : Assignment). AllByRecursion (λ h. store.IsQuiet w h.nogood) held) (sym done.2) (subst (AllByRecursion (λ (h : Held). store.IsQuiet u h.nogood)) e quiet_on);
        rest = all_rest ms v after done.1 (keep wakes steady (units_rest met ms rows t u before middle none keeps wakes steady rest));
      },
      done.1,
    )

pub gone_others : (ms ns : List Meaning) (rows : Rows) (t u v : Assignment) (before middle after : List ℕ) (step : Move) (met : Option ℕ) → ns ≡ ms → AreWakes rows ms → All IsSteady ms → OthersRest before ms t
    → met ≡ None → IfNone met ((qs : List Meaning) → KeepsRest rows qs before middle t u) → step ≡ Gone → Runs ns rows u v middle after step → OthersRest after ms v
gone_others ms ns rows t u v before middle after step met same wakes steady rest none keeps is runs =
    let gone : Runs ns rows u v middle after Gone = runs_as ns rows u v middle after step Gone is runs in
    let keep : KeepsRest rows ms middle after u v = subst (λ (qs : List Meaning). KeepsRest rows qs middle after u v) same gone.0 in
    keep wakes steady (units_rest met ms rows t u before middle none keeps wakes steady rest)

pub gone_longer : (P : Assignment → Entry → Type 0) (ms : List Meaning) (rows : Rows) (t u v : Assignment) (middle after : List ℕ) (step : Move) → Grows P t u → step ≡ Gone → Runs ms rows u v middle after step → 2 ^ 64 - length v.entries < 2 ^ 64 - length t.entries
gone_longer P ms rows t u v middle after step g is runs =
    let gone : Runs ms rows u v middle after Gone = runs_as ms rows u v middle after step Gone is runs in
    let n = grows_length P t u g in
    let longer = gone.1 in
    let room = gone.2 in
    omega (arith, n, longer, room)
