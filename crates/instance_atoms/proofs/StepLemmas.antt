-- One theory atom more.
use Rattle.std.proofs.Common.{◌≡◌, ◌⊎◌, inl, inr, ◌<◌, ◌≤◌, ◌+◌, ℕ, zero, suc, List, [], ◌∷◌, ◌++◌, map, take, get_or, length, Option, Result, IfOk, IfErr, refl, sym, ◌∙◌, ap, subst, arith}
use Rattle.std.specs.List.{AllByRecursion, AllZip}
use Rattle.std.proofs.lemmas.List.{take_all}
use Rattle.symbols.specs.Symbol.{Symbol}
use Rattle.symbols.specs.Table.{IsFront}
use Rattle.symbols.specs.declared.rel.Rel.{Rel}
use Rattle.ground_model.specs.Members.{IsMember}
use Rattle.ground_model.specs.Rule.{LinearOf, PlaceOf}
use Rattle.program_meaning.specs.Read.{ReadTheory, ReadRule}
use Rattle.program_meaning.specs.Substitution.{Value}
use Rattle.program_meaning.specs.Said.{place_in}
use Rattle.program_meaning.specs.Tuples.{theories}
use Rattle.program_meaning.specs.Outside.{Cause, causes_before}
use Rattle.program_meaning.proofs.Lists.{append_left, append_right, append_from, all_append}
use Rattle.theory_laws.specs.Collecting.{AtomHas, IsFirstOf, IsCollected}
use Rattle.collected_atoms.specs.declared.atom.CollectedAtom.{CollectedAtom}
use Rattle.collected_atoms.specs.declared.atom.OutsideCause.{OutsideCause}
use Rattle.collected_atoms.specs.declared.atom.OutsideCause.TheVariants as cause
use Rattle.collected_atoms.specs.Said.{IsAtomIn, IsKnownAtom, cause_of, guard_in}
use Rattle.growing_atoms.proofs.Growing.{known_law, same_law}
use Rattle.theory_plans.specs.declared.plan.TheoryPlan.{TheoryPlan}
use Rattle.theory_plans.specs.Planned.{IsTheoryPlan}
use Rattle.theory_ground.specs.declared.collecting.CollectStop.{CollectStop}
use Rattle.theory_ground.specs.declared.collecting.CollectStop.TheVariants as stop
use Rattle.theory_ground.specs.Collected.{IsStopOf}
use Rattle.instance_atoms.specs.declared.collecting.Step.{Step}
use Rattle.instance_atoms.specs.declared.collecting.Step.TheVariants as step
use Rattle.instance_atoms.specs.Collected.{IsFirstIn, IsStopOfAll, FitsPlans, AreAtomsIn}
use Rattle.instance_atoms.specs.inner.Steps.{first_of, joined, IsStep, IsWithAtom, IsWithStop, IsPassedOn, IsPassed, IsFinished}

-- THE FIRST OF TWO CAUSES

which : (d c : OutsideCause) → (first_of d c ≡ d) ⊎ (first_of d c ≡ c)
which cause.Overflow c = inl refl
which cause.NotLinear cause.Overflow = inr refl
which cause.NotLinear cause.NotLinear = inl refl
which cause.NotLinear cause.TooManyElements = inl refl
which cause.NotLinear cause.TooLarge = inl refl
which cause.TooManyElements cause.Overflow = inr refl
which cause.TooManyElements cause.NotLinear = inr refl
which cause.TooManyElements cause.TooManyElements = inl refl
which cause.TooManyElements cause.TooLarge = inl refl
which cause.TooLarge c = inr refl

abbrev Before : OutsideCause → Cause → Type 0
Before c other = IsMember (causes_before (cause_of c)) other

not_linear_many : (other : Cause) → Before cause.NotLinear other → Before cause.TooManyElements other
not_linear_many other (inl e) = inl e
not_linear_many other (inr m) = absurd m

not_linear_large : (other : Cause) → Before cause.NotLinear other → Before cause.TooLarge other
not_linear_large other (inl e) = inl e
not_linear_large other (inr m) = absurd m

many_large : (other : Cause) → Before cause.TooManyElements other → Before cause.TooLarge other
many_large other (inl e) = inl e
many_large other (inr (inl e)) = inr (inl e)
many_large other (inr (inr m)) = absurd m

before_left : (d c : OutsideCause) (other : Cause) → Before (first_of d c) other → Before d other
before_left cause.Overflow c other m = m
before_left cause.NotLinear cause.Overflow other m = absurd m
before_left cause.NotLinear cause.NotLinear other m = m
before_left cause.NotLinear cause.TooManyElements other m = m
before_left cause.NotLinear cause.TooLarge other m = m
before_left cause.TooManyElements cause.Overflow other m = absurd m
before_left cause.TooManyElements cause.NotLinear other m = not_linear_many other m
before_left cause.TooManyElements cause.TooManyElements other m = m
before_left cause.TooManyElements cause.TooLarge other m = m
before_left cause.TooLarge cause.Overflow other m = absurd m
before_left cause.TooLarge cause.NotLinear other m = not_linear_large other m
before_left cause.TooLarge cause.TooManyElements other m = many_large other m
before_left cause.TooLarge cause.TooLarge other m = m

before_right : (d c : OutsideCause) (other : Cause) → Before (first_of d c) other → Before c other
before_right cause.Overflow c other m = absurd m
before_right cause.NotLinear cause.Overflow other m = m
before_right cause.NotLinear cause.NotLinear other m = m
before_right cause.NotLinear cause.TooManyElements other m = not_linear_many other m
before_right cause.NotLinear cause.TooLarge other m = not_linear_large other m
before_right cause.TooManyElements cause.Overflow other m = m
before_right cause.TooManyElements cause.NotLinear other m = m
before_right cause.TooManyElements cause.TooManyElements other m = m
before_right cause.TooManyElements cause.TooLarge other m = many_large other m
before_right cause.TooLarge c other m = m

-- STEPS

module _ (old new : List Symbol) (front : IsFront old new) (P : Symbol → Type 0) (rule : ReadRule) (values : List Value) (done : List ReadTheory) (theory : ReadTheory) where
  abbrev Has : ReadTheory → Cause → Type 0
  Has one cause = AtomHas P rule values one cause

  atom_front : (one : ReadTheory) (atom : CollectedAtom) → IsKnownAtom old atom → IsAtomIn old P rule values one atom → IsAtomIn new P rule values one atom
  atom_front one atom known h =
      let same = same_law old new atom front known in
      subst (λ (places : List (PlaceOf Symbol)). IsCollected P rule values one places atom.numbers.intervals (guard_in new atom.guard)) (sym same.0)
      (subst (λ (guard : Option (Rel × LinearOf Symbol)). IsCollected P rule values one (map (place_in old) atom.places) atom.numbers.intervals guard) (sym same.1) h)

  zip_more : (xs : List ReadTheory) (atoms : List CollectedAtom) (x : ReadTheory) (atom : CollectedAtom) → AllZip (IsAtomIn old P rule values) xs atoms → AllByRecursion (IsKnownAtom old) atoms
      → IsAtomIn new P rule values x atom → AllZip (IsAtomIn new P rule values) (xs ++ x ∷ []) (atoms ++ atom ∷ [])
  zip_more [] [] x atom z k h = (h, tt)
  zip_more [] (y ∷ atoms) x atom z k h = absurd z
  zip_more (w ∷ xs) [] x atom z k h = absurd z
  zip_more (w ∷ xs) (y ∷ atoms) x atom z k h = (atom_front w y k.0 z.0, zip_more xs atoms x atom z.1 k.1 h)

  all_known : (atoms : List CollectedAtom) → AllByRecursion (IsKnownAtom old) atoms → AllByRecursion (IsKnownAtom new) atoms
  all_known [] k = tt
  all_known (atom ∷ atoms) k = (known_law old new atom front k.0, all_known atoms k.1)

  -- a theory atom that is collected has no cause
  no_cause : (xs : List ReadTheory) (atoms : List CollectedAtom) → AllZip (IsAtomIn old P rule values) xs atoms → (one : ReadTheory) → IsMember xs one → (cause : Cause) → AtomHas P rule values one cause → ⊥
  no_cause [] atoms z one m cause h = m
  no_cause (x ∷ xs) [] z one m cause h = z
  no_cause (x ∷ xs) (atom ∷ atoms) z one (inl e) cause h = z.0.inside cause (subst (λ (t : ReadTheory). AtomHas P rule values t cause) e h)
  no_cause (x ∷ xs) (atom ∷ atoms) z one (inr m) cause h = no_cause xs atoms z.1 one m cause h

  pub step_atom : (so_far next : Step) (atom : CollectedAtom) → IsStep old P rule values done so_far → IsAtomIn new P rule values theory atom → IsKnownAtom new atom → IsWithAtom so_far atom next
      → IsStep new P rule values (done ++ theory ∷ []) next
  step_atom (step.Atoms atoms) next atom h is known w =
      subst (IsStep new P rule values (done ++ theory ∷ [])) (sym w)
      (zip_more done atoms theory atom h.0 h.1 is, all_append (IsKnownAtom new) atoms (atom ∷ []) (all_known atoms h.1) (known, tt))
  step_atom (step.Outside cause) next atom h is known w =
      subst (IsStep new P rule values (done ++ theory ∷ [])) (sym w)
      (record {
        theory = h.theory;
        member = append_left done (theory ∷ []) h.theory h.member;
        has = h.has;
        first = λ other m one k has. go other m one (append_from done (theory ∷ []) one k) has;
      })
    where
      go : (other : Cause) → IsMember (causes_before (cause_of cause)) other → (one : ReadTheory) → IsMember done one ⊎ IsMember (theory ∷ []) one → AtomHas P rule values one other → ⊥
      go other m one (inl k) has = h.first other m one k has
      go other m one (inr (inl e)) has = is.inside other (subst (λ (t : ReadTheory). AtomHas P rule values t other) e has)
      go other m one (inr (inr k)) has = k

  pub step_cause : (so_far next : Step) (c : OutsideCause) → IsStep old P rule values done so_far → IsFirstOf P rule values theory (cause_of c) → next ≡ step.Outside (joined so_far c)
      → IsStep new P rule values (done ++ theory ∷ []) next
  step_cause (step.Atoms atoms) next c h is w =
      subst (IsStep new P rule values (done ++ theory ∷ [])) (sym w)
      (record {
        theory = theory;
        member = append_right done (theory ∷ []) theory (inl refl);
        has = is.has;
        first = λ other m one k has. go other m one (append_from done (theory ∷ []) one k) has;
      })
    where
      go : (other : Cause) → IsMember (causes_before (cause_of c)) other → (one : ReadTheory) → IsMember done one ⊎ IsMember (theory ∷ []) one → AtomHas P rule values one other → ⊥
      go other m one (inl k) has = no_cause done atoms h.0 one k other has
      go other m one (inr (inl e)) has = is.first other m (subst (λ (t : ReadTheory). AtomHas P rule values t other) e has)
      go other m one (inr (inr k)) has = k
  step_cause (step.Outside d) next c h is w = subst (IsStep new P rule values (done ++ theory ∷ [])) (sym w) (by (which d c))
    where
      go : (other : Cause) → IsMember (causes_before (cause_of (first_of d c))) other → (one : ReadTheory) → IsMember done one ⊎ IsMember (theory ∷ []) one → AtomHas P rule values one other → ⊥
      go other m one (inl k) has = h.first other (before_left d c other m) one k has
      go other m one (inr (inl e)) has = is.first other (before_right d c other m) (subst (λ (t : ReadTheory). AtomHas P rule values t other) e has)
      go other m one (inr (inr k)) has = k

      by : (first_of d c ≡ d) ⊎ (first_of d c ≡ c) → IsFirstIn P rule values (done ++ theory ∷ []) (cause_of (first_of d c))
      by (inl e) = record {
        theory = h.theory;
        member = append_left done (theory ∷ []) h.theory h.member;
        has = subst (λ (o : OutsideCause). AtomHas P rule values h.theory (cause_of o)) (sym e) h.has;
        first = λ other m one k has. go other m one (append_from done (theory ∷ []) one k) has;
      }
      by (inr e) = record {
        theory = theory;
        member = append_right done (theory ∷ []) theory (inl refl);
        has = subst (λ (o : OutsideCause). AtomHas P rule values theory (cause_of o)) (sym e) is.has;
        first = λ other m one k has. go other m one (append_from done (theory ∷ []) one k) has;
      }

  pub step_stop : (most : ℕ) (so_far next : Step) (s : CollectStop) → IsStep old P rule values done so_far → IsStopOf P rule values theory most s → IsWithStop so_far s next
      → IsStep new P rule values (done ++ theory ∷ []) next
  step_stop most so_far next stop.TooMany h is w = absurd w
  step_stop most so_far next (stop.Outside c) h is w = step_cause so_far next c h is w
  step_stop most so_far next stop.Memory h is w = absurd w

pub passed : (P : Symbol → Type 0) (rule : ReadRule) (values : List Value) (theory : ReadTheory) (most : ℕ) (s outer : CollectStop) → IsStopOf P rule values theory most s → IsPassedOn s outer
    → IsPassed P rule values theory most outer
passed P rule values theory most stop.TooMany outer is e = subst (IsPassed P rule values theory most) (sym e) is
passed P rule values theory most (stop.Outside c) outer is e = absurd e
passed P rule values theory most stop.Memory outer is e = subst (IsPassed P rule values theory most) (sym e) tt

pub all_stop : (P : Symbol → Type 0) (rule : ReadRule) (values : List Value) (theory : ReadTheory) (most : ℕ) (s : CollectStop)
    → IsMember (theories rule) theory → IsPassed P rule values theory most s → IsStopOfAll P rule values most s
all_stop P rule values theory most stop.TooMany m h = (theory, m, h)
all_stop P rule values theory most (stop.Outside c) m h = absurd h
all_stop P rule values theory most stop.Memory m h = tt

-- LISTS

pub record At {X Y : Type 0} (R : X → Y → Type 0) (xs : List X) (i : ℕ) (y : Y) : Type 0 where
  pub x : X
  pub is : R x y
  pub next : take (i + 1) xs ≡ take i xs ++ x ∷ []
  pub member : IsMember xs x

pub zip_place : {X Y : Type 0} (R : X → Y → Type 0) (xs : List X) (ys : List Y) (i : ℕ) (y : Y) → AllZip R xs ys → y ≡ get_or ys i y → i < length ys → At R xs i y
zip_place R [] [] i y z e l = absurd (omega (arith, l))
zip_place R [] (w ∷ ys) i y z e l = absurd z
zip_place R (x ∷ xs) [] i y z e l = absurd z
zip_place R (x ∷ xs) (w ∷ ys) zero y z e l = record { x = x; is = subst (R x) (sym e) z.0; next = refl; member = inl refl }
zip_place R (x ∷ xs) (w ∷ ys) (suc i) y z e l =
    let r = zip_place R xs ys i y z.1 e (omega (arith, l)) in
    let on : suc i + 1 ≡ suc (i + 1) = omega arith in
    record { x = r.x; is = r.is; next = ap (λ n. take n (x ∷ xs)) on ∙ ap (λ ts. x ∷ ts) r.next; member = inr r.member }

pub zip_length : {X Y : Type 0} (R : X → Y → Type 0) (xs : List X) (ys : List Y) → AllZip R xs ys → length xs ≡ length ys
zip_length R [] [] z = refl
zip_length R [] (y ∷ ys) z = absurd z
zip_length R (x ∷ xs) [] z = absurd z
zip_length R (x ∷ xs) (y ∷ ys) z = let r = zip_length R xs ys z.1 in omega (arith, r)

-- THE END

pub end_collected : (symbols : List Symbol) (P : Symbol → Type 0) (plans : List TheoryPlan) (count : ℕ) (values : List Value) (last : Step) (result : Result (List CollectedAtom) CollectStop)
    → IsFinished last result → FitsPlans plans count (λ rule. IsStep symbols P rule values (theories rule) last)
    → IfOk result (λ atoms. FitsPlans plans count (λ rule. AreAtomsIn symbols P rule values atoms))
end_collected symbols P plans count values (step.Atoms atoms) result w h =
    subst (λ r. IfOk r (λ found. FitsPlans plans count (λ rule. AreAtomsIn symbols P rule values found))) (sym w) (λ rule zip each. (h rule zip each).0)
end_collected symbols P plans count values (step.Outside c) result w h =
    subst (λ r. IfOk r (λ found. FitsPlans plans count (λ rule. AreAtomsIn symbols P rule values found))) (sym w) tt

pub end_stop : (symbols : List Symbol) (P : Symbol → Type 0) (plans : List TheoryPlan) (count : ℕ) (values : List Value) (most : ℕ) (last : Step) (result : Result (List CollectedAtom) CollectStop)
    → IsFinished last result → FitsPlans plans count (λ rule. IsStep symbols P rule values (theories rule) last)
    → IfErr result (λ s. FitsPlans plans count (λ rule. IsStopOfAll P rule values most s))
end_stop symbols P plans count values most (step.Atoms atoms) result w h =
    subst (λ r. IfErr r (λ s. FitsPlans plans count (λ rule. IsStopOfAll P rule values most s))) (sym w) tt
end_stop symbols P plans count values most (step.Outside c) result w h =
    subst (λ r. IfErr r (λ s. FitsPlans plans count (λ rule. IsStopOfAll P rule values most s))) (sym w) (λ rule zip each. h rule zip each)

pub end_known : (symbols : List Symbol) (P : Symbol → Type 0) (rule : ReadRule) (values : List Value) (last : Step) (result : Result (List CollectedAtom) CollectStop)
    → IsFinished last result → IsStep symbols P rule values (theories rule) last → IfOk result (AllByRecursion (IsKnownAtom symbols))
end_known symbols P rule values (step.Atoms atoms) result w h = subst (λ r. IfOk r (AllByRecursion (IsKnownAtom symbols))) (sym w) h.1
end_known symbols P rule values (step.Outside c) result w h = subst (λ r. IfOk r (AllByRecursion (IsKnownAtom symbols))) (sym w) tt

-- all theory atoms are taken
pub whole_step : (symbols : List Symbol) (P : Symbol → Type 0) (plans : List TheoryPlan) (count : ℕ) (values : List Value) (place : ℕ) (last : Step) → length plans ≤ place
    → FitsPlans plans count (λ rule. IsStep symbols P rule values (take place (theories rule)) last) → FitsPlans plans count (λ rule. IsStep symbols P rule values (theories rule) last)
whole_step symbols P plans count values place last below h = λ rule zip each.
    subst (λ ts. IsStep symbols P rule values ts last)
    (take_all place (theories rule) (shorter (zip_length (IsTheoryPlan rule) (theories rule) plans zip)))
    (h rule zip each)
  where
    shorter : {n : ℕ} → n ≡ length plans → n ≤ place
    shorter e = omega (arith, e, below)

-- the same over the atoms and the values of an earlier table
pub step_same : (symbols : List Symbol) (one other : List Symbol) (rule : ReadRule) (values others : List Value) (done : List ReadTheory) (s : Step) → one ≡ other → values ≡ others
    → IsStep symbols (IsMember one) rule values done s → IsStep symbols (IsMember other) rule others done s
step_same symbols one other rule values others done s e f h =
    subst (λ (vs : List Value). IsStep symbols (IsMember other) rule vs done s) f (subst (λ (names : List Symbol). IsStep symbols (IsMember names) rule values done s) e h)

pub passed_same : (one other : List Symbol) (rule : ReadRule) (values others : List Value) (theory : ReadTheory) (most : ℕ) (s : CollectStop) → one ≡ other → values ≡ others
    → IsPassed (IsMember one) rule values theory most s → IsPassed (IsMember other) rule others theory most s
passed_same one other rule values others theory most s e f h =
    subst (λ (vs : List Value). IsPassed (IsMember other) rule vs theory most s) f (subst (λ (names : List Symbol). IsPassed (IsMember names) rule values theory most s) e h)
