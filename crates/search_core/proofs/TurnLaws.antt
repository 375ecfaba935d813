-- What a turn of a search leaves: an answer, a lesson or the end.
use Rattle.std.proofs.Common.{◌⊎◌, inl, inr, ◌≡◌, ℕ, zero, suc, ◌+◌, ◌≤◌, true, List, [], ◌∷◌, ◌++◌, length, map, Option, Some, refl, sym, ◌∙◌, ap, subst, arith}
use Rattle.std.proofs.lemmas.List.{length-map}
use Rattle.std.specs.List.{All, AllByRecursion}
use Rattle.ground_model.specs.declared.answer.Answer.{Answer}
use Rattle.ground_model.specs.declared.program.GroundProgram.{GroundProgram}
use Rattle.ground_model.specs.Answers.{IsAnswerOf}
use Rattle.ground_model.specs.Members.{IsMember}
use Rattle.ground_model.specs.Objective.{objective_of}
use Rattle.trail.specs.declared.shape.Shape.{Shape}
use Rattle.trail.specs.Assignment.{Assignment, IsAssignment, Names, undone_to}
use Rattle.nogood_store.specs.Holding.{Held, Holding, IsFront, seen_of, AreBelow}
use Rattle.conflict_analysis.specs.declared.learned.Learned.{Learned}
use Rattle.conflict_analysis.specs.Levels.{IsAsserting}
use Rattle.derivation_meaning.specs.State.{State, Best, cost_in, holds_empty}
use Rattle.derivation_meaning.specs.Lines.{answer_nogood, improves}
use Rattle.derivation_meaning.specs.Valid.{after}
use Rattle.derivation_meaning.specs.Acceptance.{after_all}
use Rattle.propagator_core.specs.Meaning.{Meaning}
use Rattle.propagator_core.specs.Several.{AllFit}
use Rattle.propagator_core.specs.Quiet.{IsSteady}
use Rattle.trail_worlds.specs.Total.{shape_of, IsTotal}
use Rattle.trail_worlds.specs.Worlds.{answer_on}
use Rattle.trail_worlds.specs.Calm.{IsCalm}
use Rattle.trail_worlds.specs.Founded.{IsFounded}
use Rattle.linear_normal.specs.Numbering.{numbering}
use Rattle.propagation.specs.Waking.{Rows, OthersRest}
use Rattle.learning.specs.declared.known.Given.{Given}
use Rattle.learning.specs.Known.{Known, state_of, IsReached}
use Rattle.learning.specs.Learning.{IsLesson}
use Rattle.learning.proofs.StateLaws.{reach_law, given_law}
use Rattle.search_laws.specs.Levels.{IsCalmBelow}
use Rattle.search_core.specs.inner.Invariant.{IsSearch}
use Rattle.search_laws.specs.Giving.{answer_line, end_line, claim_after}
use Rattle.search_core.specs.inner.Lines.{Gives, Ends}
use Rattle.search_laws.proofs.EventLaws.{answer_rests, answer_unlisted, none_remains, answer_valid, answer_after, end_valid}
use Rattle.search_laws.proofs.LevelLaws.{calm_learned}
use Rattle.search_laws.proofs.LineLaws.{next_counts}
use Rattle.search_laws.proofs.HoldLaws.{listed_more, listed_given, numbered_learned, numbered_given}
use Rattle.search_core.proofs.SearchLaws.{search_held, calm_lowest, calm_first, asserting_below, rest_calm}

-- ANSWERS

-- the answer of a trail on which all is decided and calm is a model
pub answer_is : (program : GroundProgram) (known : Known) (holding : Holding) (t : Assignment) (ms : List Meaning) (rows : Rows) → IsSearch program known holding t ms rows → IsAssignment t → IsTotal t → IsCalm holding.held ms t → IsFounded (numbering program) t
    → IsAnswerOf program (answer_on t)
answer_is program known holding t ms rows s is total calm founded =
    answer_rests program holding.held ms t is s.explained.shape total s.held.inputs calm s.is_set.steady (subst (AllFit ms) (sym s.explained.shape) s.is_set.fit) s.is_set.work founded

-- what is known after an answer under the next id
abbrev pub known_given : Known → ℕ → Answer → Known
known_given known id answer = record known { next = id + 1; given = known.given ++ record { id = id; answer = answer } ∷ [] }

abbrev pub held_given : GroundProgram → List Held → ℕ → Answer → List Held
held_given program held id answer = held ++ record { id = id; nogood = answer_nogood program answer } ∷ []

given_leads : (program : GroundProgram) (known : Known) (held : List Held) (id : ℕ) (answer : Answer) → AreBelow known.next held → known.next ≡ id
    → state_of (held_given program held id answer) (known_given known id answer) ≡ after program (state_of held known) (answer_line answer)
given_leads program known held id answer below e =
    subst (λ n. state_of (held_given program held n answer) (known_given known n answer) ≡ after program (state_of held known) (answer_line answer)) e
    (sym (answer_after program (state_of held known) answer ∙ given_law program known held answer below))

-- the line of the answer is valid, and leads on
pub gives : (program : GroundProgram) (known : Known) (holding : Holding) (t : Assignment) (ms : List Meaning) (rows : Rows) (id : ℕ) (answer : Answer) → IsSearch program known holding t ms rows → IsAssignment t → IsTotal t
    → IsCalm holding.held ms t → IsFounded (numbering program) t → known.next ≡ id → answer ≡ answer_on t → Gives program (state_of holding.held known) (state_of (held_given program holding.held id answer) (known_given known id answer)) answer
gives program known holding t ms rows id answer s is total calm founded e said =
    let S : State = state_of holding.held known in
    let model : IsAnswerOf program answer = subst (IsAnswerOf program) (sym said) (answer_is program known holding t ms rows s is total calm founded) in
    let leads = given_leads program known holding.held id answer s.held.numbered.below e in
    record {
      valid = answer_valid program S answer s.told.unclaimed s.is_set.plain model (unlisted S);
      leads = leads;
      remaining = record {
        stable = model;
        unlisted = λ m. unlisted S m;
        cheaper = subst (λ (b : Option Best). improves (cost_in b) (objective_of program answer) ≡ true) (sym s.told.unbettered) refl;
      };
      answers = ap (λ (x : State). x.answers) (leads ∙ answer_after program S answer);
      unclaimed = s.told.unclaimed;
    }
  where
    unlisted : (S : State) → IsMember (map (λ (g : Given). g.answer) known.given) answer → ⊥
    unlisted S m = answer_unlisted program holding.held ms t known.given s.explained.shape total calm s.told.listed (subst (IsMember (map (λ (g : Given). g.answer) known.given)) said m)

-- so it does to the state of what is held and known then
pub gives_as : (program : GroundProgram) (known then : Known) (before after : List Held) (id : ℕ) (answer : Answer) → after ≡ held_given program before id answer → then ≡ known_given known id answer
    → Gives program (state_of before known) (state_of (held_given program before id answer) (known_given known id answer)) answer → Gives program (state_of before known) (state_of after then) answer
gives_as program known then before after id answer more noted g =
    subst (λ (k : Known). Gives program (state_of before known) (state_of after k) answer) (sym noted)
    (subst (λ hs. Gives program (state_of before known) (state_of hs (known_given known id answer)) answer) (sym more) g)

reached_given : (program : GroundProgram) (old new : State) (answer : Answer) → IsReached program old → Gives program old new answer → IsReached program new
reached_given program old new answer reached g =
    subst (IsReached program) (sym g.leads) (reach_law program old (answer_line answer ∷ []) reached (g.valid, tt))

-- the search goes on at level 0, where the nogood of the answer is held
pub search_given : (program : GroundProgram) (known then : Known) (before after : Holding) (t u : Assignment) (ms ns : List Meaning) (rows : Rows) (id : ℕ) (answer : Answer) → IsSearch program known before t ms rows → IsAssignment t
    → IsTotal t → IsCalm before.held ms t → IsFounded (numbering program) t → known.next ≡ id → answer ≡ answer_on t → AllByRecursion (Names (shape_of program)) (answer_nogood program answer)
    → u ≡ undone_to 0 t → after.held ≡ held_given program before.held id answer → ns ≡ ms → IsFront after.looked (seen_of u.entries) → then ≡ known_given known id answer → IsSearch program then after u ns rows
search_given program known then before after t u ms ns rows id answer s is total calm founded e said names back more means looked noted =
    let h : Held = record { id = id; nogood = answer_nogood program answer } in
    let g = gives program known before t ms rows id answer s is total calm founded e said in
    subst (λ (k : Known). IsSearch program k after u ns rows) (sym noted)
    (search_held program known (known_given known id answer) before after t u 0 ms ns rows h s is back more means looked names
    (numbered_given known before.held id (answer_nogood program answer) answer e s.held.numbered) refl
    (record {
      unclaimed = s.told.unclaimed;
      unbettered = s.told.unbettered;
      reached = reached_given program (state_of before.held known) (state_of (held_given program before.held id answer) (known_given known id answer)) answer s.told.reached g;
      listed = listed_given program before.held id answer known.given (subst (λ n. AreBelow n before.held) e s.held.numbered.below) s.told.listed;
    })
    (calm_lowest (held_given program before.held id answer) ms t u back))

pub rest_given : (held : List Held) (ms ns : List Meaning) (places : List ℕ) (t u : Assignment) → IsAssignment t → All IsSteady ms → IsCalm held ms t → IsCalmBelow held ms t → u ≡ undone_to 0 t → ns ≡ ms → OthersRest places ns u
rest_given held ms ns places t u is steady calm below back means =
    subst (λ qs. OthersRest places qs u) (sym means) (subst (OthersRest places ms) (sym back) (rest_calm held ms places (undone_to 0 t) (calm_first held ms t is steady calm below)))

-- LESSONS

abbrev pub known_learned : Known → ℕ → Known
known_learned known id = record known { next = id + 1 }

pub next_learned : (program : GroundProgram) (known : Known) (held : List Held) (learned : Learned) (id : ℕ) → IsLesson program known held learned id → known.next ≤ id
next_learned program known held learned id l =
    let counts = next_counts program (state_of held known) l.lead.lines in
    let one = l.lead.counted in
    let same : id + 1 ≡ (after_all program (state_of held known) l.lead.lines).next = ap (λ (s : State). s.next) l.lead.leads in
    omega (arith, counts, one, same)

-- the level to which the search goes back is no higher than its own
pub back_low : (t : Assignment) (learned : Learned) (back : ℕ) → IsAssignment t → (learned.nogood ≡ []) ⊎ IsAsserting t learned.nogood learned.level → (learned.nogood ≡ [] → learned.level ≡ 0) → back ≤ learned.level → back ≤ t.level
back_low t learned back is (inl e) lowest under = let least = lowest e in omega (arith, least, under)
back_low t learned back is (inr a) lowest under = let lt = asserting_below t learned.nogood learned.level is a in omega (arith, lt, under)

-- the search goes on at that level, where what was learned is held
pub search_learned : (program : GroundProgram) (known then : Known) (before after : Holding) (t u : Assignment) (ms ns : List Meaning) (rows : Rows) (learned : Learned) (id back : ℕ) → IsSearch program known before t ms rows → IsAssignment t
    → IsLesson program known before.held learned id → AllByRecursion (Names t.shape) learned.nogood → (learned.nogood ≡ []) ⊎ IsAsserting t learned.nogood learned.level → (learned.nogood ≡ [] → learned.level ≡ 0) → back ≤ learned.level
    → u ≡ undone_to back t → after.held ≡ before.held ++ record { id = id; nogood = learned.nogood } ∷ [] → ns ≡ ms → IsFront after.looked (seen_of u.entries) → then ≡ known_learned known id → IsSearch program then after u ns rows
search_learned program known then before after t u ms ns rows learned id back s is lesson names asserting lowest under undone more means looked noted =
    let h : Held = record { id = id; nogood = learned.nogood } in
    subst (λ (k : Known). IsSearch program k after u ns rows) (sym noted)
    (search_held program known (known_learned known id) before after t u back ms ns rows h s is undone more means looked
    (subst (λ (x : Shape). AllByRecursion (Names x) learned.nogood) s.explained.shape names)
    (numbered_learned known before.held id learned.nogood (next_learned program known before.held learned id lesson) s.held.numbered) refl
    (record {
      unclaimed = s.told.unclaimed;
      unbettered = s.told.unbettered;
      reached = subst (IsReached program) (sym lesson.lead.leads) (reach_law program (state_of before.held known) lesson.lead.lines s.told.reached lesson.lead.valid);
      listed = listed_more program before.held h known.given s.told.listed;
    })
    (by_kind asserting))
  where
    by_kind : (learned.nogood ≡ []) ⊎ IsAsserting t learned.nogood learned.level → IsCalmBelow (before.held ++ record { id = id; nogood = learned.nogood } ∷ []) ms u
    by_kind (inl e) =
        let none : back ≡ 0 = (let least = lowest e in omega (arith, least, under)) in
        calm_lowest (before.held ++ record { id = id; nogood = learned.nogood } ∷ []) ms t u (undone ∙ ap (λ n. undone_to n t) none)
    by_kind (inr a) =
        let lt = asserting_below t learned.nogood learned.level is a in
        subst (IsCalmBelow (before.held ++ record { id = id; nogood = learned.nogood } ∷ []) ms) (sym undone)
        (calm_learned before.held ms t (record { id = id; nogood = learned.nogood }) learned.level back is (omega (arith, lt)) under a s.calm)

-- there all propagators rest, unless the search is over
pub rest_learned : (program : GroundProgram) (known : Known) (before : Holding) (t u : Assignment) (ms ns : List Meaning) (rows : Rows) (places : List ℕ) (learned : Learned) (back : ℕ) → IsSearch program known before t ms rows → IsAssignment t
    → (learned.nogood ≡ []) ⊎ IsAsserting t learned.nogood learned.level → (learned.nogood ≡ [] → ⊥) → back ≤ learned.level → u ≡ undone_to back t → ns ≡ ms → OthersRest places ns u
rest_learned program known before t u ms ns rows places learned back s is (inl e) some under undone means = absurd (some e)
rest_learned program known before t u ms ns rows places learned back s is (inr a) some under undone means =
    let lt = asserting_below t learned.nogood learned.level is a in
    subst (λ qs. OthersRest places qs u) (sym means)
    (subst (OthersRest places ms) (sym undone) (rest_calm before.held ms places (undone_to back t) (s.calm back (omega (arith, lt, under)))))

-- THE END

ends_leads : (program : GroundProgram) (state : State) (count : ℕ) → record state { claim = Some (claim_after count) } ≡ after program state (end_line count)
ends_leads program state zero = refl
ends_leads program state (suc n) = refl

-- the line that ends the search is valid where the empty nogood is held
pub ends : (program : GroundProgram) (known then : Known) (holding : Holding) (t : Assignment) (ms : List Meaning) (rows : Rows) → IsSearch program known holding t ms rows → holds_empty (state_of holding.held known) ≡ true
    → then ≡ record known { claim = Some (claim_after (length known.given)) } → Ends program (state_of holding.held known) (state_of holding.held then)
ends program known then holding t ms rows s empty noted =
    subst (λ (k : Known). Ends program (state_of holding.held known) (state_of holding.held k)) (sym noted) (record {
      valid = end_valid program S S.answers refl s.told.unclaimed s.told.unbettered empty;
      leads = ap (λ c. record S { claim = Some c }) (ap claim_after (sym count)) ∙ ends_leads program S (length S.answers);
      none = none_remains program S s.told.reached empty;
      empty = empty;
      claimed = ap (λ n. Some (claim_after n)) (sym count);
    })
  where
    S : State
    S = state_of holding.held known

    count : length S.answers ≡ length known.given
    count = length-map known.given (λ (g : Given). g.answer)
