-- What accepted lines claim holds.
use Rattle.std.proofs.Common.{◌≡◌, ◌≤◌, ◌⊎◌, inl, inr, ℕ, Bool, true, false, ◌&&◌, ℤ, ◌≤ℤ◌, ◌<ℤ◌, int_lt, List, [], ◌∷◌, ◌++◌, length, if◌then◌else◌, Option, None, Some, refl, sym, ◌∙◌, ap, subst, true≢false, arith}
use Rattle.std.specs.Option.{option_map}
use Rattle.std.specs.List.{AllByRecursion, last_or}
use Rattle.std.proofs.lemmas.Bool.Decides.{nat_tests}
use Rattle.std.proofs.lemmas.Int.{ints}
use Rattle.std.proofs.lemmas.Grind.{flat_map-append}
use Rattle.std.proofs.lemmas.List.{append_assoc, append-nil}
use Rattle.literals.specs.declared.lit.Lit.{Lit}
use Rattle.literals.specs.Truths.{Meets}
use Rattle.ground_model.specs.declared.answer.Answer.{Answer}
use Rattle.ground_model.specs.declared.program.GroundProgram.{GroundProgram}
use Rattle.ground_model.specs.Members.{IsMember, IsApart}
use Rattle.ground_model.specs.Answers.{IsAnswerOf}
use Rattle.ground_model.specs.Objective.{objective_of}
use Rattle.ground_model.proofs.Bools.{and_elim, bool_cases}
use Rattle.ground_model.proofs.MemberLemmas.{member_any, property_member}
use Rattle.ground_model.proofs.OrderedLemmas.{property_append}
use Rattle.derivation.specs.declared.line.Line.{Line}
use Rattle.derivation.specs.declared.line.Line.TheVariants as line
use Rattle.derivation_meaning.specs.declared.claim.Claim.{Claim}
use Rattle.derivation_meaning.specs.declared.claim.Claim.TheVariants as claim
use Rattle.derivation_meaning.specs.Found.{Improve, last_of, best_of, AreFound}
use Rattle.derivation_meaning.specs.State.{Best, State, start, is_empty, holds_empty, cost_in, answer_in_best, last_cost}
use Rattle.derivation_meaning.specs.Lines.{answer_of, improves}
use Rattle.derivation_meaning.specs.Valid.{IsValid, after}
use Rattle.derivation_meaning.specs.Acceptance.{AreValid, after_all, IsAccepted}
use Rattle.derivation_meaning.specs.Claims.{answer_in, given_in, IsOptimum, AreAll, ClaimHolds, Fits, IsRemaining, IsGivenIn}
use Rattle.derivation_meaning.proofs.AnswerLemmas.{decide_member}
use Rattle.derivation_meaning.proofs.Sound.{truths_of, MeetsInputs, MeetsReasons, IsSound, start_sound, step_sound}

-- LISTS

append_member : {X : Type 0} (xs ys : List X) (x : X) → IsMember (xs ++ ys) x → IsMember xs x ⊎ IsMember ys x
append_member [] ys x m = inr m
append_member (y ∷ rest) ys x (inl same) = inl (inl same)
append_member (y ∷ rest) ys x (inr later) = go (append_member rest ys x later)
  where
    go : IsMember rest x ⊎ IsMember ys x → IsMember (y ∷ rest) x ⊎ IsMember ys x
    go (inl m) = inl (inr m)
    go (inr m) = inr m

apart_one_more : {X : Type 0} (xs : List X) (x : X) → IsApart xs → (IsMember xs x → ⊥) → IsApart (xs ++ x ∷ [])
apart_one_more [] x apart other = (λ m. m, tt)
apart_one_more (y ∷ rest) x apart other = (λ m. go (append_member rest (x ∷ []) y m), apart_one_more rest x apart.1 (λ m. other (inr m)))
  where
    go : IsMember rest y ⊎ IsMember (x ∷ []) y → ⊥
    go (inl m) = apart.0 m
    go (inr (inl same)) = other (inl (sym same))
    go (inr (inr none)) = none

given_one_more : (done : List Line) (l : Line) → given_in (done ++ l ∷ []) ≡ given_in done ++ answer_in l
given_one_more done l = flat_map-append answer_in done (l ∷ []) ∙ ap (λ (rest : List Answer). given_in done ++ rest) (append-nil (answer_in l))

last_append : (o : Option Answer) (xs : List Answer) (x : Answer) → last_or o (xs ++ x ∷ []) ≡ Some x
last_append o [] x = refl
last_append o (y ∷ rest) x = last_append (Some y) rest x

-- a list without a last member is empty
last_none : (o : Option Answer) (xs : List Answer) → last_or o xs ≡ None → (o ≡ None) × (xs ≡ [])
last_none o [] e = (e, refl)
last_none o (x ∷ xs) e = let p = last_none (Some x) xs e in absurd (some_none x p.0)
  where
    some_none : (x : Answer) → Some x ≡ None → ⊥
    some_none x e = absurd (cc e)

improve_one_more : (program : GroundProgram) (xs : List Answer) (x : Answer) → Improve program xs
    → ((last : Answer) → last_of xs ≡ Some last → objective_of program x <ℤ objective_of program last) → Improve program (xs ++ x ∷ [])
improve_one_more program [] x h less = tt
improve_one_more program (y ∷ []) x h less = (less y refl, tt)
improve_one_more program (y ∷ z ∷ rest) x h less = (h.0, improve_one_more program (z ∷ rest) x h.1 less)

less_than : (a b : ℤ) → int_lt a b ≡ true → a <ℤ b
less_than a b e = grind (arith, nat_tests, ints, e)

less_trans : (a b c : ℤ) → int_lt a b ≡ true → int_lt b c ≡ true → int_lt a c ≡ true
less_trans a b c p q = grind (arith, nat_tests, ints, p, q)

not_less : (a : ℤ) → int_lt a a ≡ true → ⊥
not_less a e = let l = less_than a a e in grind (arith, ints, l)

improves_trans : (last : Option ℤ) (cost other : ℤ) → improves last cost ≡ true → int_lt other cost ≡ true → improves last other ≡ true
improves_trans None cost other p q = refl
improves_trans (Some last) cost other p q = less_trans other cost last q p

module _ (program : GroundProgram) (inputs : MeetsInputs program) (reasons : MeetsReasons program) where
  -- where the empty nogood is held, no model remains
  none_remains : (state : State) → IsSound program state → holds_empty state ≡ true → (answer : Answer) → IsRemaining program state answer → ⊥
  none_remains state sound empty answer remains =
      let found = member_any (λ entry. entry.is_held && is_empty entry.nogood) state.live empty in
      let met = property_member (λ entry. Meets (truths_of program answer) entry.nogood) state.live found.0 (sound answer remains) found.1 in
      no_empty found.0.nogood met (and_elim found.0.is_held (is_empty found.0.nogood) found.2).1
    where
      no_empty : (nogood : List Lit) → Meets (truths_of program answer) nogood → is_empty nogood ≡ true → ⊥
      no_empty [] m e = true≢false m
      no_empty (lit ∷ lits) m e = true≢false (sym e)

  -- the last better answer is a model of its cost
  abbrev IsModelOf : Option Best → Type 0
  IsModelOf None = Unit {0}
  IsModelOf (Some best) = IsAnswerOf program best.answer × (objective_of program best.answer ≡ best.cost)

  -- what stays true of the lines so far and the state after them
  record IsGood (done : List Line) (state : State) : Type 0 where
    pub sound : IsSound program state
    pub models : AllByRecursion (IsAnswerOf program) (given_in done)
    pub apart : IsApart (given_in done)
    pub improve : program.has_objective ≡ true → Improve program (given_in done)
    pub above : program.has_objective ≡ true → (answer : Answer) → IsMember (given_in done) answer → improves (last_cost state) (objective_of program answer) ≡ true → ⊥
    pub listed : program.has_objective ≡ false → state.answers ≡ given_in done
    pub unlisted : program.has_objective ≡ true → state.answers ≡ []
    pub last : program.has_objective ≡ true → answer_in_best state.best ≡ last_of (given_in done)
    pub best : IsModelOf state.best
    pub no_best : program.has_objective ≡ false → state.best ≡ None
    pub claimed : (claimed : Claim) → state.claim ≡ Some claimed → ClaimHolds program (given_in done) claimed × Fits program (given_in done) claimed

  -- a line that leaves answers and claim
  quiet_good : (done : List Line) (state later : State) (l : Line) → IsGood done state → IsSound program later
      → later.answers ≡ state.answers → later.best ≡ state.best → answer_in l ≡ []
      → ((claimed : Claim) → later.claim ≡ Some claimed → ClaimHolds program (given_in done) claimed × Fits program (given_in done) claimed)
      → IsGood (done ++ l ∷ []) later
  quiet_good done state later l good sound answers best no_answer claimed =
      let same : given_in (done ++ l ∷ []) ≡ given_in done =
      given_one_more done l ∙ ap (λ (rest : List Answer). given_in done ++ rest) no_answer ∙ append-nil (given_in done) in
      record {
        sound = sound;
        models = subst (AllByRecursion (IsAnswerOf program)) (sym same) good.models;
        apart = subst IsApart (sym same) good.apart;
        improve = λ kind. subst (Improve program) (sym same) (good.improve kind);
        above = λ kind answer m e.
            good.above kind answer (subst (λ (list : List Answer). IsMember list answer) same m)
            (subst (λ (b : Option Best). improves (cost_in b) (objective_of program answer) ≡ true) best e);
        listed = λ kind. answers ∙ good.listed kind ∙ sym same;
        unlisted = λ kind. answers ∙ good.unlisted kind;
        last = λ kind. ap answer_in_best best ∙ good.last kind ∙ ap last_of (sym same);
        best = subst IsModelOf (sym best) good.best;
        no_best = λ kind. best ∙ good.no_best kind;
        claimed = λ claim e. subst (λ (list : List Answer). ClaimHolds program list claim × Fits program list claim) (sym same) (claimed claim e);
      }

  -- nothing is claimed yet
  unclaimed_yet : (done : List Line) (state : State) → state.claim ≡ None → (claimed : Claim) → state.claim ≡ Some claimed
      → ClaimHolds program (given_in done) claimed × Fits program (given_in done) claimed
  unclaimed_yet done state none claimed e = let never : None ≡ Some claimed = sym none ∙ e in absurd (cc never)

  answer_good : (done : List Line) (state : State) (atoms : List ℕ) (values : List (ℕ × ℤ)) → IsGood done state → IsValid program state (line.Answer atoms values)
      → IsGood (done ++ line.Answer atoms values ∷ []) (after program state (line.Answer atoms values))
  answer_good done state atoms values good valid =
      let answer = answer_of atoms values in
      let new = valid.valid in
      let one : given_in (done ++ line.Answer atoms values ∷ []) ≡ given_in done ++ answer ∷ [] = given_one_more done (line.Answer atoms values) in
      let is : state.answers ≡ given_in done = good.listed new.kind in
      let other : program.has_objective ≡ true → ⊥ = λ kind. true≢false (sym kind ∙ new.kind) in
      record {
        sound = step_sound program reasons state (line.Answer atoms values) good.sound valid;
        models = subst (AllByRecursion (IsAnswerOf program)) (sym one) (property_append (IsAnswerOf program) (given_in done) (answer ∷ []) good.models (new.line.answer, tt));
        apart = subst IsApart (sym one)
            (apart_one_more (given_in done) answer good.apart (λ m. new.unlisted (subst (λ (list : List Answer). IsMember list answer) (sym is) m)));
        improve = λ kind. absurd (other kind);
        above = λ kind. absurd (other kind);
        listed = λ kind. ap (λ (list : List Answer). list ++ answer ∷ []) is ∙ sym one;
        unlisted = λ kind. absurd (other kind);
        last = λ kind. absurd (other kind);
        best = good.best;
        no_best = good.no_best;
        claimed = unclaimed_yet (done ++ line.Answer atoms values ∷ []) (after program state (line.Answer atoms values)) valid.unclaimed;
      }

  better_good : (done : List Line) (state : State) (cost : ℤ) (atoms : List ℕ) (values : List (ℕ × ℤ)) → IsGood done state → IsValid program state (line.Better cost atoms values)
      → IsGood (done ++ line.Better cost atoms values ∷ []) (after program state (line.Better cost atoms values))
  better_good done state cost atoms values good valid =
      let answer = answer_of atoms values in
      let new = valid.valid in
      let one : given_in (done ++ line.Better cost atoms values ∷ []) ≡ given_in done ++ answer ∷ [] = given_one_more done (line.Better cost atoms values) in
      let other : program.has_objective ≡ false → ⊥ = λ kind. true≢false (sym new.kind ∙ kind) in
      let smaller : improves (last_cost state) (objective_of program answer) ≡ true = subst (λ (c : ℤ). improves (last_cost state) c ≡ true) new.cost_is new.smaller in
      record {
        sound = step_sound program reasons state (line.Better cost atoms values) good.sound valid;
        models = subst (AllByRecursion (IsAnswerOf program)) (sym one) (property_append (IsAnswerOf program) (given_in done) (answer ∷ []) good.models (new.line.answer, tt));
        apart = subst IsApart (sym one) (apart_one_more (given_in done) answer good.apart (λ m. good.above new.kind answer m smaller));
        improve = λ kind. subst (Improve program) (sym one)
            (improve_one_more program (given_in done) answer (good.improve kind) (λ last e. less state.best good.best smaller last (good.last kind ∙ e)));
        above = λ kind earlier m e. above earlier (append_member (given_in done) (answer ∷ []) earlier (subst (λ (list : List Answer). IsMember list earlier) one m)) e;
        listed = λ kind. absurd (other kind);
        unlisted = good.unlisted;
        last = λ kind. sym (ap last_of one ∙ last_append None (given_in done) answer);
        best = (new.line.answer, sym new.cost_is);
        no_best = λ kind. absurd (other kind);
        claimed = unclaimed_yet (done ++ line.Better cost atoms values ∷ []) (after program state (line.Better cost atoms values)) valid.unclaimed;
      }
    where
      less : (best : Option Best) → IsModelOf best → improves (cost_in best) (objective_of program (answer_of atoms values)) ≡ true
          → (last : Answer) → answer_in_best best ≡ Some last → objective_of program (answer_of atoms values) <ℤ objective_of program last
      less None model e last is = absurd (cc is)
      less (Some best) model e last is =
          let same : best.answer ≡ last = cc in
          subst (λ (a : Answer). objective_of program (answer_of atoms values) <ℤ objective_of program a) same
          (subst (λ (c : ℤ). objective_of program (answer_of atoms values) <ℤ c) (sym model.1) (less_than (objective_of program (answer_of atoms values)) best.cost e))

      above : (earlier : Answer) → IsMember (given_in done) earlier ⊎ IsMember (answer_of atoms values ∷ []) earlier
          → int_lt (objective_of program earlier) cost ≡ true → ⊥
      above earlier (inl m) e =
          good.above valid.valid.kind earlier m (improves_trans (last_cost state) cost (objective_of program earlier) valid.valid.smaller e)
      above earlier (inr (inl same)) e =
          not_less cost (subst (λ (c : ℤ). int_lt c cost ≡ true) (ap (objective_of program) same ∙ sym valid.valid.cost_is) e)
      above earlier (inr (inr none)) e = none

  -- a line that claims
  claim_good : (done : List Line) (state : State) (l : Line) (claimed : Claim) → IsGood done state → answer_in l ≡ []
      → after program state l ≡ record state { claim = Some claimed } → ClaimHolds program (given_in done) claimed → Fits program (given_in done) claimed
      → IsSound program (record state { claim = Some claimed }) → IsGood (done ++ l ∷ []) (after program state l)
  claim_good done state l claimed good no_answer is holds fits sound =
      subst (IsGood (done ++ l ∷ [])) (sym is) (quiet_good done state (record state { claim = Some claimed }) l good sound refl refl no_answer
      (λ other e. let same : claimed ≡ other = cc in subst (λ (claim : Claim). ClaimHolds program (given_in done) claim × Fits program (given_in done) claim) same (holds, fits)))

  -- the claims

  none_claimed : (done : List Line) (state : State) → IsGood done state → IsValid program state line.EndNone → ClaimHolds program (given_in done) claim.Nothing
  none_claimed done state good valid answer stable =
      none_remains state good.sound valid.valid.empty answer (record {
        stable = stable;
        unlisted = subst (λ (list : List Answer). IsMember list answer → ⊥) (sym valid.valid.given.0) (λ m. m);
        cheaper = subst (λ (last : Option Best). improves (cost_in last) (objective_of program answer) ≡ true) (sym valid.valid.given.1) refl;
      })

  none_given : (done : List Line) (state : State) → IsGood done state → IsValid program state line.EndNone → given_in done ≡ []
  none_given done state good valid = go (bool_cases program.has_objective)
    where
      go : (program.has_objective ≡ true) ⊎ (program.has_objective ≡ false) → given_in done ≡ []
      go (inl kind) = (last_none None (given_in done) (sym (good.last kind) ∙ ap answer_in_best valid.valid.given.1)).1
      go (inr kind) = sym (good.listed kind) ∙ valid.valid.given.0

  -- an answer was listed, so that there is no objective
  no_objective : (state : State) → 1 ≤ length state.answers → (program.has_objective ≡ true → state.answers ≡ []) → program.has_objective ≡ false
  no_objective state some unlisted = go (bool_cases program.has_objective)
    where
      go : (program.has_objective ≡ true) ⊎ (program.has_objective ≡ false) → program.has_objective ≡ false
      go (inl kind) = let none : length state.answers ≡ 0 = ap length (unlisted kind) in absurd (omega (arith, none, some))
      go (inr kind) = kind

  all_claimed : (done : List Line) (state : State) (count : ℕ) → IsGood done state → IsValid program state (line.EndAll count)
      → ClaimHolds program (given_in done) (claim.All count) × Fits program (given_in done) (claim.All count)
  all_claimed done state count good valid =
      let given = valid.valid.given in
      let some : 1 ≤ length state.answers = subst (λ (n : ℕ). 1 ≤ n) (sym given.1) given.0 in
      let kind = no_objective state some good.unlisted in
      let is : state.answers ≡ given_in done = good.listed kind in
      let number : length (given_in done) ≡ count = ap length (sym is) ∙ given.1 in (
        record {
          number = number;
          apart = good.apart;
          all = λ answer. (
            λ m. property_member (IsAnswerOf program) (given_in done) answer good.models m,
            λ stable. go answer stable (good.no_best kind) is (decide_member (given_in done) answer),
          );
        },
        (kind, given.0, number),
      )
    where
      go : (answer : Answer) → IsAnswerOf program answer → state.best ≡ None → state.answers ≡ given_in done
          → IsMember (given_in done) answer ⊎ (IsMember (given_in done) answer → ⊥) → IsMember (given_in done) answer
      go answer stable none is (inl m) = m
      go answer stable none is (inr other) = absurd (none_remains state good.sound valid.valid.empty answer (record {
        stable = stable;
        unlisted = λ m. other (subst (λ (list : List Answer). IsMember list answer) is m);
        cheaper = subst (λ (last : Option Best). improves (cost_in last) (objective_of program answer) ≡ true) (sym none) refl;
      }))

  -- a better answer was given, so that there is an objective
  an_objective : (state : State) (cost : ℤ) → last_cost state ≡ Some cost → (program.has_objective ≡ false → state.best ≡ None) → program.has_objective ≡ true
  an_objective state cost given no_best = go (bool_cases program.has_objective)
    where
      go : (program.has_objective ≡ true) ⊎ (program.has_objective ≡ false) → program.has_objective ≡ true
      go (inl kind) = kind
      go (inr kind) = let none : None ≡ Some cost = sym (ap cost_in (no_best kind)) ∙ given in absurd (cc none)

  -- the objective of the last answer is the last cost
  best_given : (best : Option Best) → IsModelOf best → option_map (objective_of program) (answer_in_best best) ≡ cost_in best
  best_given None model = refl
  best_given (Some best) model = ap Some model.1

  cost_given : (done : List Line) (state : State) → IsGood done state → last_cost state ≡ best_of program (given_in done)
  cost_given done state good = go program.has_objective refl
    where
      go : (kind : Bool) → program.has_objective ≡ kind → last_cost state ≡ (if kind then option_map (objective_of program) (last_of (given_in done)) else None)
      go true kind = sym (best_given state.best good.best) ∙ ap (option_map (objective_of program)) (good.last kind)
      go false kind = ap cost_in (good.no_best kind)

  best_claimed : (done : List Line) (state : State) (cost : ℤ) → IsGood done state → IsValid program state (line.EndBest cost) → ClaimHolds program (given_in done) (claim.Best cost)
  best_claimed done state cost good valid =
      let kind = an_objective state cost valid.valid.given good.no_best in
      subst (λ (last : Option Answer). IsOptimum program last cost) (good.last kind) (with_best (good.unlisted kind) state.best refl good.best valid.valid.given)
    where
      at_least : (a b : ℤ) → (int_lt a b ≡ true → ⊥) → b ≤ℤ a
      at_least a b never = cases (int_lt a b) refl
        where
          cases : (less : Bool) → int_lt a b ≡ less → b ≤ℤ a
          cases true e = absurd (never e)
          cases false e = grind (arith, nat_tests, ints, e)

      with_best : state.answers ≡ [] → (best : Option Best) → state.best ≡ best → IsModelOf best → cost_in best ≡ Some cost → IsOptimum program (answer_in_best best) cost
      with_best none None is model e = absurd (cc e)
      with_best none (Some best) is model e =
          let same : best.cost ≡ cost = cc in
          record {
            answer = best.answer;
            given = refl;
            stable = model.0;
            cost_is = model.1 ∙ same;
            least = λ other stable. at_least (objective_of program other) cost (λ less. none_remains state good.sound valid.valid.empty other (record {
              stable = stable;
              unlisted = subst (λ (list : List Answer). IsMember list other → ⊥) (sym none) (λ m. m);
              cheaper = subst (λ (last : Option Best). improves (cost_in last) (objective_of program other) ≡ true) (sym is) (subst (λ (c : ℤ). int_lt (objective_of program other) c ≡ true) (sym same) less);
            }));
          }

  -- LINE BY LINE

  step_good : (done : List Line) (state : State) (l : Line) → IsGood done state → IsValid program state l → IsGood (done ++ l ∷ []) (after program state l)
  step_good done state (line.Header version min max limit) good valid = absurd valid.valid
  step_good done state (line.Sum c lits) good valid =
      let l = line.Sum c lits in quiet_good done state (after program state l) l good (step_sound program reasons state l good.sound valid) refl refl refl (unclaimed_yet done (after program state l) valid.unclaimed)
  step_good done state (line.Distinct c a b lits) good valid =
      let l = line.Distinct c a b lits in quiet_good done state (after program state l) l good (step_sound program reasons state l good.sound valid) refl refl refl (unclaimed_yet done (after program state l) valid.unclaimed)
  step_good done state (line.Window c a b lits) good valid =
      let l = line.Window c a b lits in quiet_good done state (after program state l) l good (step_sound program reasons state l good.sound valid) refl refl refl (unclaimed_yet done (after program state l) valid.unclaimed)
  step_good done state (line.Pair c i j lits) good valid =
      let l = line.Pair c i j lits in quiet_good done state (after program state l) l good (step_sound program reasons state l good.sound valid) refl refl refl (unclaimed_yet done (after program state l) valid.unclaimed)
  step_good done state (line.Loop atoms lits) good valid =
      let l = line.Loop atoms lits in quiet_good done state (after program state l) l good (step_sound program reasons state l good.sound valid) refl refl refl (unclaimed_yet done (after program state l) valid.unclaimed)
  step_good done state (line.Hole c lits) good valid =
      let l = line.Hole c lits in quiet_good done state (after program state l) l good (step_sound program reasons state l good.sound valid) refl refl refl (unclaimed_yet done (after program state l) valid.unclaimed)
  step_good done state (line.Learned id links lits) good valid =
      let l = line.Learned id links lits in quiet_good done state (after program state l) l good (step_sound program reasons state l good.sound valid) refl refl refl (unclaimed_yet done (after program state l) valid.unclaimed)
  step_good done state (line.Answer atoms values) good valid = answer_good done state atoms values good valid
  step_good done state (line.Better cost atoms values) good valid = better_good done state cost atoms values good valid
  step_good done state line.EndNone good valid =
      claim_good done state line.EndNone claim.Nothing good refl refl (none_claimed done state good valid) (none_given done state good valid) (step_sound program reasons state line.EndNone good.sound valid)
  step_good done state (line.EndAll count) good valid =
      let claimed = all_claimed done state count good valid in
      claim_good done state (line.EndAll count) (claim.All count) good refl refl claimed.0 claimed.1 (step_sound program reasons state (line.EndAll count) good.sound valid)
  step_good done state (line.EndBest cost) good valid =
      let kind = an_objective state cost valid.valid.given good.no_best in
      let given = sym (cost_given done state good) ∙ valid.valid.given in
      claim_good done state (line.EndBest cost) (claim.Best cost) good refl refl (best_claimed done state cost good valid) (kind, given) (step_sound program reasons state (line.EndBest cost) good.sound valid)

  start_good : IsGood [] (start program)
  start_good = record {
    sound = start_sound program inputs;
    models = tt;
    apart = tt;
    improve = λ kind. tt;
    above = λ kind answer m e. m;
    listed = λ kind. refl;
    unlisted = λ kind. refl;
    last = λ kind. refl;
    best = tt;
    no_best = λ kind. refl;
    claimed = unclaimed_yet [] (start program) refl;
  }

  all_good : (done lines : List Line) (state : State) → IsGood done state → AreValid program state lines → IsGood (done ++ lines) (after_all program state lines)
  all_good done [] state good valid = subst (λ (list : List Line). IsGood list state) (sym (append-nil done)) good
  all_good done (l ∷ lines) state good valid =
      subst (λ (list : List Line). IsGood list (after_all program (after program state l) lines)) (append_assoc done (l ∷ []) lines)
      (all_good (done ++ l ∷ []) lines (after program state l) (step_good done state l good valid.0) valid.1)

  lines_good : (lines : List Line) → AreValid program (start program) lines → IsGood lines (after_all program (start program) lines)
  lines_good lines valid = all_good [] lines (start program) start_good valid

  pub lines_sound : (lines : List Line) → AreValid program (start program) lines → IsSound program (after_all program (start program) lines)
  lines_sound lines valid = (lines_good lines valid).sound

  pub claim_holds : (lines : List Line) (claimed : Claim) → IsAccepted program lines claimed → ClaimHolds program (given_in lines) claimed
  claim_holds lines claimed accepted = ((lines_good lines accepted.valid).claimed claimed accepted.claimed).0

  pub claim_fits : (lines : List Line) (claimed : Claim) → IsAccepted program lines claimed → Fits program (given_in lines) claimed
  claim_fits lines claimed accepted = ((lines_good lines accepted.valid).claimed claimed accepted.claimed).1

  pub lines_found : (lines : List Line) → AreValid program (start program) lines → AreFound program (given_in lines)
  lines_found lines valid = let good = lines_good lines valid in record { models = good.models; apart = good.apart; improve = good.improve }

  pub lines_given : (lines : List Line) → AreValid program (start program) lines → IsGivenIn program (given_in lines) (after_all program (start program) lines)
  lines_given lines valid =
      let good = lines_good lines valid in
      record { listed = good.listed; unlisted = good.unlisted; last = good.last; cost = cost_given lines (after_all program (start program) lines) good }
