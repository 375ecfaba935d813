-- What a search may answer: the answer of a trail at rest on which all is decided is a model that remains, and where the empty nogood is held none remains.
use Rattle.std.proofs.Common.{inr, ◌≡◌, ℕ, zero, suc, ◌+◌, ◌<◌, ◌≤◌, ◌==◌, ◌&&◌, Bool, true, false, cond, ℤ, List, [], ◌∷◌, ◌++◌, length, map, None, Some, refl, sym, ◌∙◌, ap, subst, arith}
use Rattle.std.specs.List.{All, AllByRecursion, flat_map, range_with_len}
use Rattle.std.proofs.lemmas.List.Elements.{All-from_recursion, All-contains}
use Rattle.literals.specs.declared.lit.Lit.{Lit}
use Rattle.literals.specs.declared.lit.Lit.TheVariants as l
use Rattle.literals.specs.Lits.{IsLit}
use Rattle.literals.specs.Truths.{Truths, Meets}
use Rattle.ground_model.specs.declared.answer.Answer.{Answer}
use Rattle.ground_model.specs.declared.program.GroundProgram.{GroundProgram}
use Rattle.ground_model.specs.Answers.{IsNumbered, IsAnswerOf, has_atom}
use Rattle.ground_model.specs.Members.{IsMember}
use Rattle.ground_model.specs.World.{world_of}
use Rattle.ground_model.proofs.MemberLemmas.{property_member, member_any, map_member}
use Rattle.linear_normal.specs.Numbering.{numbering}
use Rattle.linear_normal.specs.Truth.{truths_in}
use Rattle.completion.specs.Inputs.{input_nogoods}
use Rattle.trail.specs.Assignment.{Assignment, IsAssignment, Names, IsOf, is_true_on}
use Rattle.trail.specs.Forced.{AllTrueOn}
use Rattle.nogood_store.specs.Holding.{Held, nogood_under, IsHeld}
use Rattle.nogood_store.specs.Propagation as store
use Rattle.derivation_meaning.specs.State.{Entry, State, is_empty, holds_empty}
use Rattle.derivation_meaning.specs.Lines.{value_lits, answer_nogood, answer_of}
use Rattle.derivation_meaning.specs.Valid.{IsValid, after, with_answer}
use Rattle.derivation_meaning.specs.Claims.{IsRemaining, given_in}
use Rattle.derivation_meaning.proofs.LawProofs.{sound_law}
use Rattle.derivation_meaning.proofs.ExcludingLemmas.{answer_literals}
use Rattle.propagator_core.specs.Meaning.{Meaning}
use Rattle.propagator_core.specs.Quiet.{IsSteady}
use Rattle.propagator_core.specs.Several.{AllFit}
use Rattle.trail_worlds.specs.Total.{shape_of, IsTotal}
use Rattle.trail_worlds.specs.Worlds.{answer_on}
use Rattle.trail_worlds.specs.Calm.{IsCalm}
use Rattle.trail_worlds.specs.Founded.{IsFounded}
use Rattle.trail_worlds.specs.Laws.{SaysAnswer}
use Rattle.trail_worlds.proofs.SayLemmas.{say_law}
use Rattle.trail_worlds.proofs.CalmLemmas.{calm_law}
use Rattle.learning.specs.declared.known.Given.{Given}
use Rattle.learning.specs.Known.{IsReached, AreListed}
use Rattle.propagators.specs.Work.{DoTheWork}
use Rattle.search_laws.specs.Giving.{values_from, answer_line, end_line}

-- AN ANSWER

pub answer_rests : (program : GroundProgram) (held : List Held) (ms : List Meaning) (t : Assignment) → IsAssignment t → t.shape ≡ shape_of program → IsTotal t → AllByRecursion (IsHeld held) (input_nogoods program)
    → IsCalm held ms t → All IsSteady ms → AllFit ms t.shape → DoTheWork program ms → IsFounded (numbering program) t → IsAnswerOf program (answer_on t)
answer_rests program held ms t is shape total inputs calm steady fit work founded =
    calm_law program held ms t (record {
      assignment = is;
      shape = shape;
      total = total;
      inputs = inputs;
      calm = calm;
      steady = steady;
      fit = fit;
      each = work.settled;
      founded = inr founded;
    })

all_join : {X : Type 0} (P : X → Type 0) (xs ys : List X) → AllByRecursion P xs → AllByRecursion P ys → AllByRecursion P (xs ++ ys)
all_join P [] ys a b = b
all_join P (x ∷ xs) ys a b = (a.0, all_join P xs ys a.1 b)

all_range : {X : Type 0} (P : X → Type 0) (f : ℕ → X) (from n : ℕ) → ((a : ℕ) → from ≤ a → a < from + n → P (f a)) → AllByRecursion P (map f (range_with_len from n))
all_range P f from zero h = tt
all_range P f from (suc n) h = (h from (omega arith) (omega arith), all_range P f (from + 1) n (λ a low high. h a (omega (arith, low)) (omega (arith, high))))

all_flat : {X : Type 0} (P : X → Type 0) (f : ℕ → List X) (from n : ℕ) → ((a : ℕ) → from ≤ a → a < from + n → AllByRecursion P (f a)) → AllByRecursion P (flat_map f (range_with_len from n))
all_flat P f from zero h = tt
all_flat P f from (suc n) h =
    all_join P (f from) (flat_map f (range_with_len (from + 1) n)) (h from (omega arith) (omega arith)) (all_flat P f (from + 1) n (λ a low high. h a (omega (arith, low)) (omega (arith, high))))

-- the nogood of a trail's answer is all true on the trail
says_all : (program : GroundProgram) (t : Assignment) → SaysAnswer program t → AllTrueOn t (answer_nogood program (answer_on t))
says_all program t says lit c = All-contains P nogood lit (All-from_recursion P nogood each) c
  where
    P : Lit → Type 0
    P = λ x. is_true_on t x ≡ true

    nogood : List Lit
    nogood = answer_nogood program (answer_on t)

    within : (count a : ℕ) → 1 ≤ a → a < 1 + count → IsNumbered count a
    within count a low high = record { above = low; known = omega (arith, high) }

    atoms : AllByRecursion P (map (λ a. l.Atom a (has_atom (answer_on t).atoms a)) (range_with_len 1 (length program.atoms)))
    atoms = all_range P (λ a. l.Atom a (has_atom (answer_on t).atoms a)) 1 (length program.atoms) (λ a low high. says.atoms a (within (length program.atoms) a low high))

    values : AllByRecursion P (flat_map (value_lits (answer_on t)) (range_with_len 1 (length program.variables)))
    values = all_flat P (value_lits (answer_on t)) 1 (length program.variables)
        (λ x low high. (says.most x (within (length program.variables) x low high), (says.least x (within (length program.variables) x low high), tt)))

    each : AllByRecursion P nogood
    each = all_join P (map (λ a. l.Atom a (has_atom (answer_on t).atoms a)) (range_with_len 1 (length program.atoms))) (flat_map (value_lits (answer_on t)) (range_with_len 1 (length program.variables))) atoms values

under_quiet : (t : Assignment) (held : List Held) (id : ℕ) (n : List Lit) → AllByRecursion (λ h. store.IsQuiet t h.nogood) held → nogood_under held id ≡ Some n → store.IsQuiet t n
under_quiet t [] id n a e = absurd (cc)
under_quiet t (h ∷ hs) id n a e = by_id (h.id == id) e (under_quiet t hs id n a.1)
  where
    by_id : (b : Bool) → cond b (Some h.nogood) (nogood_under hs id) ≡ Some n → (nogood_under hs id ≡ Some n → store.IsQuiet t n) → store.IsQuiet t n
    by_id true f rest = let same : h.nogood ≡ n = cc in subst (store.IsQuiet t) same a.0
    by_id false f rest = rest f

-- THE NOGOOD OF AN ANSWER

all_both : {X : Type 0} (P Q R : X → Type 0) (xs : List X) → ((x : X) → P x → Q x → R x) → AllByRecursion P xs → AllByRecursion Q xs → AllByRecursion R xs
all_both P Q R [] f a b = tt
all_both P Q R (x ∷ xs) f a b = (f x a.0 b.0, all_both P Q R xs f a.1 b.1)

all_listed : {X : Type 0} (P : X → Type 0) (xs : List X) → All P xs → AllByRecursion P xs
all_listed P [] a = tt
all_listed P (x ∷ xs) a = (a 0 x (omega arith), all_listed P xs (λ k d lt. a (suc k) d (omega (arith, lt))))

-- its literals are of the shape
pub answer_named : (program : GroundProgram) (answer : Answer) → IsAnswerOf program answer → AllByRecursion (Names (shape_of program)) (answer_nogood program answer)
answer_named program answer is =
    all_both IsLit (IsOf (shape_of program)) (Names (shape_of program)) (answer_nogood program answer) (λ lit a b. record { literal = a; within = b })
    (all_listed IsLit (answer_nogood program answer) (answer_literals program answer is.valuation))
    (all_join (IsOf (shape_of program)) (map (λ a. l.Atom a (has_atom answer.atoms a)) (range_with_len 1 (length program.atoms))) (flat_map (value_lits answer) (range_with_len 1 (length program.variables)))
    (all_range (IsOf (shape_of program)) (λ a. l.Atom a (has_atom answer.atoms a)) 1 (length program.atoms) (λ a low high. omega (arith, high)))
    (all_flat (IsOf (shape_of program)) (value_lits answer) 1 (length program.variables) (λ x low high. (omega (arith, high), (omega (arith, high), tt)))))

-- it was not given before: the nogood of each answer that was given is held
pub answer_unlisted : (program : GroundProgram) (held : List Held) (ms : List Meaning) (t : Assignment) (given : List Given) → t.shape ≡ shape_of program → IsTotal t → IsCalm held ms t → AreListed program held given
    → IsMember (map (λ g. g.answer) given) (answer_on t) → ⊥
answer_unlisted program held ms t given shape total calm listed member =
    let one = map_member (λ (g : Given). g.answer) given (answer_on t) member in
    let under : nogood_under held one.0.id ≡ Some (answer_nogood program one.0.answer) =
    property_member (λ (g : Given). nogood_under held g.id ≡ Some (answer_nogood program g.answer)) given one.0 listed one.1 in
    let own : nogood_under held one.0.id ≡ Some (answer_nogood program (answer_on t)) = subst (λ a. nogood_under held one.0.id ≡ Some (answer_nogood program a)) (sym one.2) under in
    (under_quiet t held one.0.id (answer_nogood program (answer_on t)) calm.nogoods own).not_met (says_all program t (say_law program t shape total))

-- NO ANSWER

both_of : (a b : Bool) → (a && b) ≡ true → b ≡ true
both_of true b h = h
both_of false b h = let no : false ≡ true = h in absurd (cc)

empty_not_met : (w : Truths) (nogood : List Lit) → is_empty nogood ≡ true → Meets w nogood → ⊥
empty_not_met w [] e m = let no : true ≡ false = m in cc
empty_not_met w (x ∷ xs) e m = let no : false ≡ true = e in cc

-- where valid lines lead to a state that holds the empty nogood, no model remains
pub none_remains : (program : GroundProgram) (state : State) → IsReached program state → holds_empty state ≡ true → (answer : Answer) → IsRemaining program state answer → ⊥
none_remains program state reached empty answer remaining =
    let same = reached.2 in
    let met : AllByRecursion (λ (entry : Entry). Meets (truths_in (numbering program) (world_of answer)) entry.nogood) state.live =
    subst (λ (s : State). AllByRecursion (λ (entry : Entry). Meets (truths_in (numbering program) (world_of answer)) entry.nogood) s.live) (sym same)
    (sound_law program reached.0 answer reached.1 (subst (λ (s : State). IsRemaining program s answer) same remaining)) in
    let hit = member_any (λ (entry : Entry). entry.is_held && is_empty entry.nogood) state.live empty in
    empty_not_met (truths_in (numbering program) (world_of answer)) hit.0.nogood (both_of hit.0.is_held (is_empty hit.0.nogood) hit.2)
    (property_member (λ (entry : Entry). Meets (truths_in (numbering program) (world_of answer)) entry.nogood) state.live hit.0 met hit.1)

-- THE LINES

values_names : (x : ℕ) (values : List ℤ) → map (λ value. value.0) (values_from x values) ≡ range_with_len x (length values)
values_names x [] = refl
values_names x (value ∷ values) = ap (λ xs. x ∷ xs) (values_names (x + 1) values)

values_are : (x : ℕ) (values : List ℤ) → map (λ value. value.1) (values_from x values) ≡ values
values_are x [] = refl
values_are x (value ∷ values) = ap (λ vs. value ∷ vs) (values_are (x + 1) values)

answer_again : (answer : Answer) → answer_of answer.atoms (values_from 1 answer.values) ≡ answer
answer_again answer = ap (λ vs. record { atoms = answer.atoms; values = vs }) (values_are 1 answer.values)

pub answer_given : (answer : Answer) → given_in (answer_line answer ∷ []) ≡ answer ∷ []
answer_given answer = ap (λ a. a ∷ []) (answer_again answer)

-- the line that gives a model that was not given is valid
pub answer_valid : (program : GroundProgram) (state : State) (answer : Answer) → state.claim ≡ None → program.has_objective ≡ false → IsAnswerOf program answer → (IsMember state.answers answer → ⊥) → IsValid program state (answer_line answer)
answer_valid program state answer unclaimed plain is unlisted = record {
  unclaimed = unclaimed;
  valid = record {
    kind = plain;
    line = record {
      variables = values_names 1 answer.values ∙ ap (range_with_len 1) is.valuation.each;
      answer = subst (IsAnswerOf program) (sym (answer_again answer)) is;
    };
    unlisted = λ m. unlisted (subst (IsMember state.answers) (answer_again answer) m);
  };
}

pub answer_after : (program : GroundProgram) (state : State) (answer : Answer) → after program state (answer_line answer) ≡ with_answer program state answer
answer_after program state answer = ap (with_answer program state) (answer_again answer)

-- the line that ends a search is valid where the empty nogood is held
pub end_valid : (program : GroundProgram) (state : State) (answers : List Answer) → state.answers ≡ answers → state.claim ≡ None → state.best ≡ None → holds_empty state ≡ true → IsValid program state (end_line (length answers))
end_valid program state [] e unclaimed best empty = record { unclaimed = unclaimed; valid = record { empty = empty; given = (e, best) } }
end_valid program state (a ∷ rest) e unclaimed best empty = record { unclaimed = unclaimed; valid = record { empty = empty; given = (omega arith, ap length e) } }
