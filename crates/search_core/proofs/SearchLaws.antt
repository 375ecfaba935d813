-- What holds of a search at each of its moments, kept by each of its steps.
use Rattle.std.proofs.Common.{◌⊎◌, inl, inr, ◌≡◌, ℕ, zero, suc, ◌+◌, ◌<◌, ◌≤◌, ◌||◌, max, Bool, true, false, IsTrue, List, [], ◌∷◌, ◌++◌, length, get_or, Option, None, Some, refl, sym, ap, subst, arith}
use Rattle.std.specs.List.{All, AllByRecursion}
use Rattle.std.proofs.lemmas.Option.{get_or_from_slice_get, slice_get_within}
use Rattle.symbols.specs.declared.ends.Ends.{Ends}
use Rattle.literals.specs.declared.lit.Lit.{Lit}
use Rattle.literals.specs.Nogoods.{without}
use Rattle.ground_model.specs.declared.program.GroundProgram.{GroundProgram}
use Rattle.trail.specs.declared.shape.Shape.{Shape}
use Rattle.trail.specs.declared.entry.Entry.{Entry}
use Rattle.trail.specs.declared.entry.Why.TheVariants.{Decision}
use Rattle.trail.specs.Assignment.{Assignment, IsAssignment, Follow, Names, truth_on, since_on, undone_to, with_entry, entry_of}
use Rattle.trail.specs.Growth.{Grows}
use Rattle.trail.proofs.GrowthLaws.{grows_set}
use Rattle.trail.proofs.AssignmentLaws.{undone_all}
use Rattle.nogood_store.specs.Holding.{Held, Holding, IsHeld, IsFront, seen_of}
use Rattle.conflict_analysis.specs.Levels.{level_at, level_since, level_on, highest, IsAsserting}
use Rattle.derivation_meaning.specs.State.{Best, cost_in}
use Rattle.propagator_core.specs.Meaning.{Meaning}
use Rattle.propagator_core.specs.Several.{AllStand, some_valid}
use Rattle.propagator_core.specs.Quiet.{IsSteady}
use Rattle.propagator_core.proofs.SeveralLaws.{stands_on}
use Rattle.trail_worlds.specs.Calm.{IsCalm}
use Rattle.propagation.specs.Waking.{Rows, HasRows, OthersRest}
use Rattle.propagation.specs.Causes.{opened}
use Rattle.unfounded_sets.specs.Dependence.{Dependence, dependence_of, positive_atoms, Fits}
use Rattle.unfounded_sets.specs.Loops.{shows_loop}
use Rattle.unfounded_sets.specs.Laws.{HoldsSupports}
use Rattle.unfounded_sets.proofs.LawLemmas.{holds_law}
use Rattle.unfounded_sets.proofs.ReasonLemmas.{shown_law}
use Rattle.founded_propagation.specs.Founding.{valid_with, IsCausedWith, IsMetWith}
use Rattle.linear_normal.specs.declared.numbered.Conjunction.{Conjunction}
use Rattle.linear_normal.specs.Numbering.{numbering}
use Rattle.linear_normal.specs.Steps.{is_valid}
use Rattle.learning.specs.Known.{Known}
use Rattle.learning.specs.Learning.{AreNumbered, IsAnswered}
use Rattle.learning.specs.Told.{IsTellableStart}
use Rattle.conflict_analysis.specs.declared.learned.Start.{Start}
use Rattle.conflict_analysis.specs.declared.learned.Start.TheVariants as start
use Rattle.conflict_analysis.specs.Chains.{IsConflicting}
use Rattle.learning.specs.Explained.{IsExplained, IsSound}
use Rattle.completion.specs.Inputs.{input_nogoods}
use Rattle.trail_worlds.specs.Total.{shape_of}
use Rattle.std.proofs.lemmas.List.{length_push, length-map}
use Rattle.learning.proofs.ExplainedLaws.{growth_law, decision_law, undo_law, hold_law, starts_law}
use Rattle.search_laws.specs.Levels.{IsCalmBelow}
use Rattle.search_core.specs.inner.Invariant.{IsSet, IsTold, IsSearch}
use Rattle.search_laws.proofs.LevelLaws.{calm_opened, calm_grown, calm_like}
use Rattle.search_laws.proofs.HoldLaws.{all_push, held_more, front_more}

-- AS ONE OF THE SAME

-- under another store that holds the same, and propagators of the same meanings
pub search_like : (program : GroundProgram) (known : Known) (held : List Held) (holding : Holding) (t : Assignment) (ms ns : List Meaning) (rows : Rows) → holding.held ≡ held → ns ≡ ms
    → IsSearch program known (record { held = held; looked = holding.looked }) t ms rows → IsSearch program known holding t ns rows
search_like program known held holding t ms ns rows e f s =
    subst (λ qs. IsSearch program known holding t qs rows) (sym f)
    (subst (λ hs. IsSearch program known (record { held = hs; looked = holding.looked }) t ms rows) (sym e) s)

-- LOOPS

-- what propagators or loops show is a valid step, whatever the cost
sound_with : (program : GroundProgram) (ms : List Meaning) (d : Dependence) → d ≡ dependence_of program → IsSound program (some_valid ms) → IsSound program (valid_with ms d)
sound_with program ms d e sound r h = by_test (some_valid ms (shape_of program) r) refl h
  where
    by_test : (b : Bool) → some_valid ms (shape_of program) r ≡ b → IsTrue (b || shows_loop d r) → is_valid program (numbering program) None r.nogood r.step ≡ true
    by_test true at shown = sound r at
    by_test false at shown = shown_law program r (subst (λ (q : Dependence). IsTrue (shows_loop q r)) e shown) program refl None

-- the dependence of a program fits its trails
pub fits_program : (program : GroundProgram) (d : Dependence) (s : Shape) → d ≡ dependence_of program → s ≡ shape_of program → Fits d s
fits_program program d s e f =
    subst (λ (q : Dependence). Fits q s) (sym e) (subst (Fits (dependence_of program)) (sym f)
    (record { atoms = refl; bodies = sym (length-map (numbering program).bodies (λ (body : Conjunction). positive_atoms body.lits)) }))

-- and where the input nogoods are held it is held that true atoms have true bodies
pub supports_program : (program : GroundProgram) (d : Dependence) (held : List Held) → d ≡ dependence_of program → AllByRecursion (IsHeld held) (input_nogoods program) → HoldsSupports d held
supports_program program d held e inputs = subst (λ (q : Dependence). HoldsSupports q held) (sym e) (holds_law program held inputs)

-- GROWTH

-- propagation
pub search_grown : (program : GroundProgram) (known : Known) (before after : Holding) (t u : Assignment) (ms ns : List Meaning) (rows : Rows) (d : Dependence) → IsSearch program known before t ms rows
    → d ≡ dependence_of program → Grows (IsCausedWith before.held ms d) t u → after.held ≡ before.held → ns ≡ ms → IsFront after.looked (seen_of u.entries) → IsSearch program known after u ns rows
search_grown program known before after t u ms ns rows d s e g same means looked =
    search_like program known before.held after u ms ns rows same means (record {
      is_set = s.is_set;
      explained = growth_law program (cost_in known.best) before.held (valid_with ms d) t u (sound_with program ms d e s.is_set.work.sound) s.held.named g s.explained;
      held = record { named = s.held.named; inputs = s.held.inputs; numbered = s.held.numbered; looked = looked };
      told = record { unclaimed = s.told.unclaimed; unbettered = s.told.unbettered; reached = s.told.reached; listed = s.told.listed };
      calm = calm_grown (IsCausedWith before.held ms d) before.held ms t u s.is_set.steady g s.calm;
    })

-- DECISIONS

decided_grows : (t u : Assignment) (lit : Lit) → Names t.shape lit → truth_on t lit ≡ None → u ≡ with_entry (opened t) (entry_of (opened t) lit Decision) → Grows (λ _ _. Unit {0}) (opened t) u
decided_grows t u lit names is_open e = grows_set (λ _ _. Unit {0}) (opened t) u lit Decision names (is_open, e) tt

pub search_decided : (program : GroundProgram) (known : Known) (holding : Holding) (t u : Assignment) (ms : List Meaning) (rows : Rows) (lit : Lit) → IsSearch program known holding t ms rows
    → IsAssignment t → IsCalm holding.held ms t → Names t.shape lit → truth_on t lit ≡ None → u ≡ with_entry (opened t) (entry_of (opened t) lit Decision) → IsSearch program known holding u ms rows
search_decided program known holding t u ms rows lit s is calm names is_open e =
    let g = decided_grows t u lit names is_open e in
    record {
      is_set = s.is_set;
      explained = decision_law program (cost_in known.best) holding.held t u lit is (is_open, e) s.explained;
      held = record {
        named = s.held.named;
        inputs = s.held.inputs;
        numbered = s.held.numbered;
        looked = subst (λ (w : Assignment). IsFront holding.looked (seen_of w.entries)) (sym e) (front_more holding.looked t.entries (entry_of (opened t) lit Decision ∷ []) s.held.looked);
      };
      told = s.told;
      calm = calm_grown (λ _ _. Unit {0}) holding.held ms (opened t) u s.is_set.steady g (calm_opened holding.held ms t is s.is_set.steady calm s.calm);
    }

pub stand_decided : {X : Type 0} (stands : X → Ends → List Entry → Type 0) (looked : X → ℕ) (xs : List X) (t u : Assignment) (lit : Lit) → Names t.shape lit → truth_on t lit ≡ None
    → u ≡ with_entry (opened t) (entry_of (opened t) lit Decision) → AllStand stands looked xs t → AllStand stands looked xs u
stand_decided stands looked xs t u lit names is_open e a k d lt =
    let h = a k d lt in
    stands_on (λ _ _. Unit {0}) (stands (get_or xs k d)) (looked (get_or xs k d)) (opened t) u (decided_grows t u lit names is_open e) (record { within = h.within; for_these = h.for_these })

pub decided_longer : (t u : Assignment) (lit : Lit) → u ≡ with_entry (opened t) (entry_of (opened t) lit Decision) → length t.entries < length u.entries
decided_longer t u lit e =
    let long : length u.entries ≡ length (t.entries ++ entry_of (opened t) lit Decision ∷ []) = ap (λ (w : Assignment). length w.entries) e in
    let one = length_push t.entries (entry_of (opened t) lit Decision) in
    omega (arith, long, one)

-- WHO RESTS

-- each propagator rests where all is calm
pub rest_calm : (held : List Held) (ms : List Meaning) (places : List ℕ) (t : Assignment) → IsCalm held ms t → OthersRest places ms t
rest_calm held ms places t calm i m at =
    inr (subst (λ (n : Meaning). IsTrue (n.rests t)) (get_or_from_slice_get ms i m m at) (calm.rest i m (slice_get_within ms i m at)))

-- LEVELS

follow_low : (s : Shape) (before : List Lit) (level : ℕ) (es : List Entry) (high : ℕ) → Follow s before level es high → level ≤ high
follow_low s before level [] high f = f
follow_low s before level (e ∷ es) high f = let first = f.2 in let rest = follow_low s (before ++ e.lit ∷ []) e.level es high f.3 in omega (arith, first, rest)

high_at : (s : Shape) (before : List Lit) (level : ℕ) (es : List Entry) (high i : ℕ) → Follow s before level es high → level_at es i ≤ high
high_at s before level [] high i f = omega arith
high_at s before level (e ∷ es) high zero f = follow_low s (before ++ e.lit ∷ []) e.level es high f.3
high_at s before level (e ∷ es) high (suc i) f = high_at s (before ++ e.lit ∷ []) e.level es high i f.3

-- a literal became true at a level up to the open one
level_low : (t : Assignment) (l : Lit) → IsAssignment t → level_on t l ≤ t.level
level_low t l is = by_since (since_on t l)
  where
    by_since : (o : Option ℕ) → level_since t.entries o ≤ t.level
    by_since None = omega arith
    by_since (Some i) = high_at t.shape [] 0 t.entries t.level i is.entries

highest_low : (t : Assignment) (lits : List Lit) (high : ℕ) → 0 < high → AllByRecursion (λ m. level_on t m < high) lits → highest t lits < high
highest_low t [] high above a = above
highest_low t (l ∷ ls) high above a = let first = a.0 in let rest = highest_low t ls high above a.1 in least (level_on t l) (highest t ls) first rest
  where
    least : (n k : ℕ) → n < high → k < high → max n k < high
    least n k p q = omega (arith, p, q)

-- the search goes back to a lower level
pub asserting_below : (t : Assignment) (lits : List Lit) (level : ℕ) → IsAssignment t → IsAsserting t lits level → level < t.level
asserting_below t lits level is a =
    let low = level_low t a.top is in
    let next = a.next in
    let under = highest_low t (without lits a.top) (level_on t a.top) a.above a.others in
    omega (arith, low, next, under)

-- HOLDING

-- one more nogood is held, at the level to which the search goes back
pub search_held : (program : GroundProgram) (known then : Known) (before after : Holding) (t u : Assignment) (level : ℕ) (ms ns : List Meaning) (rows : Rows) (h : Held)
    → IsSearch program known before t ms rows → IsAssignment t → u ≡ undone_to level t → after.held ≡ before.held ++ h ∷ [] → ns ≡ ms → IsFront after.looked (seen_of u.entries)
    → AllByRecursion (Names (shape_of program)) h.nogood → AreNumbered then (before.held ++ h ∷ []) → then.best ≡ known.best
    → IsTold program then (record { held = before.held ++ h ∷ []; looked = after.looked })
    → IsCalmBelow (before.held ++ h ∷ []) ms u
    → IsSearch program then after u ns rows
search_held program known then before after t u level ms ns rows h s is back more means looked names numbered best told calm =
    search_like program then (before.held ++ h ∷ []) after u ms ns rows more means (record {
      is_set = s.is_set;
      explained =
          subst (λ (b : Option Best). IsExplained program (cost_in b) (before.held ++ h ∷ []) u) (sym best)
          (hold_law program (cost_in known.best) before.held (h ∷ []) u
          (subst (IsExplained program (cost_in known.best) before.held) (sym back) (undo_law program (cost_in known.best) before.held t level is s.explained)));
      held = record {
        named = all_push (λ (g : Held). AllByRecursion (Names (shape_of program)) g.nogood) before.held h s.held.named names;
        inputs = held_more before.held h (input_nogoods program) s.held.inputs;
        numbered = numbered;
        looked = looked;
      };
      told = told;
      calm = calm;
    })

-- nothing is below level 0
pub calm_lowest : (held : List Held) (ms : List Meaning) (t u : Assignment) → u ≡ undone_to 0 t → IsCalmBelow held ms u
calm_lowest held ms t u e level lt = absurd (let zero_level : u.level ≡ 0 = ap (λ (w : Assignment). w.level) e in omega (arith, zero_level, lt))

-- at level 0 all is calm, where all was calm
pub calm_first : (held : List Held) (ms : List Meaning) (t : Assignment) → IsAssignment t → All IsSteady ms → IsCalm held ms t → IsCalmBelow held ms t → IsCalm held ms (undone_to 0 t)
calm_first held ms t is steady calm below = by_level (split t.level)
  where
    split : (n : ℕ) → (n ≡ 0) ⊎ (0 < n)
    split n = grind arith

    by_level : (t.level ≡ 0) ⊎ (0 < t.level) → IsCalm held ms (undone_to 0 t)
    by_level (inl e) = calm_like held ms t (undone_to 0 t) refl (undone_all t 0 is (omega (arith, e))) steady calm
    by_level (inr lt) = below 0 lt

-- CONFLICTS

-- a nogood on which propagation stops is one from which something can be learned and told
pub met_starts : (program : GroundProgram) (known : Known) (holding : Holding) (t : Assignment) (ms : List Meaning) (rows : Rows) (d : Dependence) (from : Start) → IsSearch program known holding t ms rows → d ≡ dependence_of program → IsMetWith holding.held ms d t from
    → IsConflicting holding.held t from × IsTellableStart program (cost_in known.best) from
met_starts program known holding t ms rows d (start.Held id) s e met = (starts_law program (cost_in known.best) holding.held (valid_with ms d) t (sound_with program ms d e s.is_set.work.sound) s.held.named s.explained.shape).0 id met
met_starts program known holding t ms rows d (start.Shown r) s e met = (starts_law program (cost_in known.best) holding.held (valid_with ms d) t (sound_with program ms d e s.is_set.work.sound) s.held.named s.explained.shape).1 r met

pub is_answered : (program : GroundProgram) (known : Known) (holding : Holding) (t : Assignment) (ms : List Meaning) (rows : Rows) (d : Dependence) (last : ℕ) (from : Start) → IsSearch program known holding t ms rows → d ≡ dependence_of program → IsMetWith holding.held ms d t from → known.next ≡ last + 1
    → IsAnswered program known last holding.held t from
is_answered program known holding t ms rows d last from s e met next = record {
  next = next;
  unclaimed = s.told.unclaimed;
  numbered = s.held.numbered;
  shape = s.explained.shape;
  told = s.explained.tellable;
  start_told = (met_starts program known holding t ms rows d from s e met).1;
}

-- ROWS

pub rows_for : (program : GroundProgram) (ms : List Meaning) (rows : Rows) (s : Shape) (count : ℕ) → s ≡ shape_of program → count ≡ length ms → IsSet program ms rows → HasRows s count rows
rows_for program ms rows s count e f set = subst (λ x. HasRows x count rows) (sym e) (subst (λ n. HasRows (shape_of program) n rows) (sym f) set.has_rows)
