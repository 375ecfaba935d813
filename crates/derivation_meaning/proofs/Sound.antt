-- After valid lines each live nogood is met by each model that remains.
use Rattle.std.proofs.Common.{◌≡◌, inl, inr, ℕ, ◌+◌, ◌==◌, Bool, true, false, cond, ℤ, int_lt, List, [], ◌∷◌, ◌++◌, Option, None, Some, find, filter, refl, sym, subst, arith}
use Rattle.std.specs.List.{AllByRecursion}
use Rattle.std.proofs.lemmas.Bool.Decides.{nat_tests}
use Rattle.std.proofs.lemmas.Int.{ints}
use Rattle.literals.specs.declared.lit.Lit.{Lit}
use Rattle.literals.specs.declared.reason.Step.{Step}
use Rattle.literals.specs.declared.reason.Step.TheVariants as step
use Rattle.literals.specs.Truths.{Truths, Meets}
use Rattle.literals.specs.Nogoods.{has_lit, answers, resolved, resolvent, resolved_with}
use Rattle.literals.proofs.Worlds.{resolved_met, found_answers}
use Rattle.ground_model.specs.declared.answer.Answer.{Answer}
use Rattle.ground_model.specs.declared.program.GroundProgram.{GroundProgram}
use Rattle.ground_model.specs.Members.{IsMember}
use Rattle.ground_model.specs.Answers.{IsAnswerOf}
use Rattle.ground_model.specs.Objective.{objective_of}
use Rattle.ground_model.specs.World.{world_of}
use Rattle.ground_model.proofs.OrderedLemmas.{property_append}
use Rattle.linear_normal.specs.Numbering.{numbering}
use Rattle.linear_normal.specs.Truth.{truths_in}
use Rattle.linear_normal.specs.Steps.{is_valid}
use Rattle.completion.specs.Inputs.{input_nogoods}
use Rattle.derivation.specs.declared.line.Line.{Line}
use Rattle.derivation.specs.declared.line.Line.TheVariants as line
use Rattle.derivation_meaning.specs.State.{Entry, State, held_from, start, nogood_in, live_nogood, cost_in, last_cost}
use Rattle.derivation_meaning.specs.Lines.{answer_of, improves, Shown, chained}
use Rattle.derivation_meaning.specs.Valid.{IsShown, IsLearned, IsNewAnswer, IsBetterAnswer, IsValid, with_nogood, held_alone, with_answer, after}
use Rattle.derivation_meaning.specs.Claims.{IsRemaining}
use Rattle.derivation_meaning.proofs.AnswerLemmas.{answer_met}

-- ENTRIES

-- each entry's nogood is met
abbrev pub AllMet : Truths → List Entry → Type 0
AllMet truths entries = AllByRecursion (λ entry. Meets truths entry.nogood) entries

held_met : (truths : Truths) (n : ℕ) (nogoods : List (List Lit)) → AllByRecursion (Meets truths) nogoods → AllMet truths (held_from n nogoods)
held_met truths n [] m = tt
held_met truths n (nogood ∷ rest) m = (m.0, held_met truths (n + 1) rest m.1)

filter_met : (truths : Truths) (keep : Entry → Bool) (entries : List Entry) → AllMet truths entries → AllMet truths (filter keep entries)
filter_met truths keep [] m = tt
filter_met truths keep (entry ∷ rest) m = go (keep entry) m.0 (filter_met truths keep rest m.1)
  where
    go : (b : Bool) → Meets truths entry.nogood → AllMet truths (filter keep rest) → AllMet truths (cond b (entry ∷ filter keep rest) (filter keep rest))
    go true here rec = (here, rec)
    go false here rec = rec

found_met : (truths : Truths) (id : ℕ) (nogood : List Lit) (entries : List Entry) → AllMet truths entries → nogood_in (find (λ entry. entry.id == id) entries) ≡ Some nogood → Meets truths nogood
found_met truths id nogood [] m e = cc
found_met truths id nogood (entry ∷ rest) m e = go (entry.id == id) m.0 (found_met truths id nogood rest m.1) e
  where
    go : (b : Bool) → Meets truths entry.nogood → (nogood_in (find (λ other. other.id == id) rest) ≡ Some nogood → Meets truths nogood)
        → nogood_in (cond b (Some entry) (find (λ other. other.id == id) rest)) ≡ Some nogood → Meets truths nogood
    go true here rec e = let same : entry.nogood ≡ nogood = cc in subst (Meets truths) same here
    go false here rec e = rec e

-- CHAINS

resolvent_met : (truths : Truths) (left : List Lit) (pivot : Lit) (right last : List Lit) → resolvent left pivot right ≡ Some last → Meets truths left → Meets truths right → Meets truths last
resolvent_met truths left pivot right last e l r = outer (has_lit left pivot) e
  where
    inner : (q : Option Lit) → find (answers pivot) right ≡ q → resolved left pivot right q ≡ Some last → Meets truths last
    inner None f e = cc
    inner (Some q) f e =
        let met = resolved_met truths left pivot right q (found_answers pivot right q f) l r in
        subst (λ (found : Option (List Lit)). IsMet found) e met
      where
        IsMet : Option (List Lit) → Type 0
        IsMet None = ⊥
        IsMet (Some nogood) = Meets truths nogood

    outer : (b : Bool) → cond b (resolved left pivot right (find (answers pivot) right)) None ≡ Some last → Meets truths last
    outer true e = inner (find (answers pivot) right) refl e
    outer false e = cc

chained_met : (truths : Truths) (state : State) → AllMet truths state.live → (links : List (Lit × ℕ)) (from : Option (List Lit)) (last : List Lit)
    → ((nogood : List Lit) → from ≡ Some nogood → Meets truths nogood) → chained state from links ≡ Some last → Meets truths last
chained_met truths state m [] from last h e = h last e
chained_met truths state m (link ∷ links) from last h e =
    chained_met truths state m links (resolved_with from link.0 (live_nogood state link.1)) last (next from (live_nogood state link.1) refl h) e
  where
    next : (from right : Option (List Lit)) → live_nogood state link.1 ≡ right → ((nogood : List Lit) → from ≡ Some nogood → Meets truths nogood)
        → (nogood : List Lit) → resolved_with from link.0 right ≡ Some nogood → Meets truths nogood
    next None right is h nogood e = cc
    next (Some left) None is h nogood e = cc
    next (Some left) (Some right) is h nogood e = resolvent_met truths left link.0 right nogood e (h left refl) (found_met truths link.1 right state.live m is)

-- MEMBERS

pub member_front : {X : Type 0} (xs ys : List X) (x : X) → IsMember xs x → IsMember (xs ++ ys) x
member_front [] ys x m = absurd m
member_front (y ∷ rest) ys x (inl same) = inl same
member_front (y ∷ rest) ys x (inr later) = inr (member_front rest ys x later)

pub member_back : {X : Type 0} (xs ys : List X) (x : X) → IsMember ys x → IsMember (xs ++ ys) x
member_back [] ys x m = m
member_back (y ∷ rest) ys x m = inr (member_back rest ys x m)

-- SOUND

module _ (program : GroundProgram) where
  -- the truths of an answer's world
  abbrev pub truths_of : Answer → Truths
  truths_of answer = truths_in (numbering program) (world_of answer)

  -- each constraint stable model meets the input nogoods
  abbrev pub MeetsInputs : Type 0
  MeetsInputs = (answer : Answer) → IsAnswerOf program answer → AllByRecursion (Meets (truths_of answer)) (input_nogoods program)

  -- each constraint stable model that is cheaper than the last cost meets what a valid reason shows
  abbrev pub MeetsReasons : Type 0
  MeetsReasons =
      (answer : Answer) (cost : Option ℤ) (lits : List Lit) (by : Step) → IsAnswerOf program answer → improves cost (objective_of program answer) ≡ true
      → is_valid program (numbering program) cost lits by ≡ true → Meets (truths_of answer) lits

  -- each live nogood is met by each model that remains
  abbrev pub IsSound : State → Type 0
  IsSound state = (answer : Answer) → IsRemaining program state answer → AllMet (truths_of answer) state.live

  pub start_sound : MeetsInputs → IsSound (start program)
  start_sound inputs answer remains = held_met (truths_of answer) 1 (input_nogoods program) (inputs answer remains.stable)

  shown_sound : MeetsReasons → (state : State) (shown : Shown) → IsSound state → IsShown program state shown → IsSound (with_nogood state shown.lits false false)
  shown_sound reasons state shown sound valid answer remains =
      property_append (λ entry. Meets (truths_of answer) entry.nogood) state.live _
      (sound answer (record { stable = remains.stable; unlisted = remains.unlisted; cheaper = remains.cheaper }))
      (reasons answer (last_cost state) shown.lits shown.step remains.stable remains.cheaper valid, tt)

  learned_sound : (state : State) (id : ℕ) (links : List (Lit × ℕ)) (lits : List Lit) → IsSound state → IsLearned state id links lits → IsSound (with_nogood (held_alone state) lits true true)
  learned_sound state id links lits sound valid answer remains =
      let met = sound answer (record { stable = remains.stable; unlisted = remains.unlisted; cheaper = remains.cheaper }) in
      property_append (λ entry. Meets (truths_of answer) entry.nogood) (held_alone state).live _
      (filter_met (truths_of answer) (λ entry. entry.is_held) state.live met)
      (chained_met (truths_of answer) state met links (live_nogood state id) lits (λ nogood e. found_met (truths_of answer) id nogood state.live met e) valid, tt)

  answer_sound : (state : State) (atoms : List ℕ) (values : List (ℕ × ℤ)) → IsSound state → IsNewAnswer program state atoms values → IsSound (with_answer program state (answer_of atoms values))
  answer_sound state atoms values sound valid answer remains =
      property_append (λ entry. Meets (truths_of answer) entry.nogood) state.live _
      (sound answer (record {
        stable = remains.stable;
        unlisted = λ m. remains.unlisted (member_front state.answers (answer_of atoms values ∷ []) answer m);
        cheaper = remains.cheaper;
      })) (
        answer_met program answer (answer_of atoms values) remains.stable valid.line.answer (truths_of answer) (λ a. refl) (λ x. refl)
            (λ same. remains.unlisted (member_back state.answers (answer_of atoms values ∷ []) answer (inl same))),
        tt,
      )

  better_sound : (state : State) (cost : ℤ) (atoms : List ℕ) (values : List (ℕ × ℤ)) → IsSound state → IsBetterAnswer program state cost atoms values → IsSound (after program state (line.Better cost atoms values))
  better_sound state cost atoms values sound valid answer remains =
      sound answer (record { stable = remains.stable; unlisted = remains.unlisted; cheaper = before (last_cost state) valid.smaller remains.cheaper })
    where
      trans : (a b c : ℤ) → int_lt a b ≡ true → int_lt b c ≡ true → int_lt a c ≡ true
      trans a b c p q = grind (arith, nat_tests, ints, p, q)

      before : (last : Option ℤ) → improves last cost ≡ true → int_lt (objective_of program answer) cost ≡ true → improves last (objective_of program answer) ≡ true
      before None p q = refl
      before (Some last) p q = trans (objective_of program answer) cost last q p

  claim_sound : (state later : State) → later.live ≡ state.live → later.answers ≡ state.answers → later.best ≡ state.best → IsSound state → IsSound later
  claim_sound state later live answers best sound answer remains =
      subst (AllMet (truths_of answer)) (sym live)
      (sound answer (record {
        stable = remains.stable;
        unlisted = subst (λ (list : List Answer). IsMember list answer → ⊥) answers remains.unlisted;
        cheaper = subst (λ last. improves (cost_in last) (objective_of program answer) ≡ true) best remains.cheaper;
      }))

  pub step_sound : MeetsReasons → (state : State) (l : Line) → IsSound state → IsValid program state l → IsSound (after program state l)
  step_sound reasons state (line.Header version min max limit) sound valid = absurd valid.valid
  step_sound reasons state (line.Sum c lits) sound valid = shown_sound reasons state (record { step = step.Sum c; lits = lits }) sound valid.valid
  step_sound reasons state (line.Distinct c a b lits) sound valid = shown_sound reasons state (record { step = step.Distinct c a b; lits = lits }) sound valid.valid
  step_sound reasons state (line.Window c a b lits) sound valid = shown_sound reasons state (record { step = step.Window c a b; lits = lits }) sound valid.valid
  step_sound reasons state (line.Pair c i j lits) sound valid = shown_sound reasons state (record { step = step.Pair c i j; lits = lits }) sound valid.valid
  step_sound reasons state (line.Loop atoms lits) sound valid = shown_sound reasons state (record { step = step.Loop atoms; lits = lits }) sound valid.valid
  step_sound reasons state (line.Hole c lits) sound valid = shown_sound reasons state (record { step = step.Hole c; lits = lits }) sound valid.valid
  step_sound reasons state (line.Learned id links lits) sound valid = learned_sound state id links lits sound valid.valid
  step_sound reasons state (line.Answer atoms values) sound valid = answer_sound state atoms values sound valid.valid
  step_sound reasons state (line.Better cost atoms values) sound valid = better_sound state cost atoms values sound valid.valid
  step_sound reasons state line.EndNone sound valid = claim_sound state (after program state line.EndNone) refl refl refl sound
  step_sound reasons state (line.EndAll count) sound valid = claim_sound state (after program state (line.EndAll count)) refl refl refl sound
  step_sound reasons state (line.EndBest cost) sound valid = claim_sound state (after program state (line.EndBest cost)) refl refl refl sound
