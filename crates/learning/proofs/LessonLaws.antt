-- The lines of a lesson lead to the learned nogood, or take all ids.
use Rattle.std.proofs.Common.{◌≡◌, ℕ, zero, suc, true, ◌<◌, get_or, ◌+◌, ◌-◌, ◌≤◌, ◌^◌, List, [], ◌∷◌, ◌++◌, take, length, Some, refl, sym, ◌∙◌, ap, subst, arith}
use Rattle.std.specs.List.{AllByRecursion}
use Rattle.std.proofs.lemmas.List.{map-append, take_more}
use Rattle.literals.specs.declared.lit.Lit.{Lit}
use Rattle.ground_model.specs.declared.program.GroundProgram.{GroundProgram}
use Rattle.trail.specs.Assignment.{Assignment}
use Rattle.nogood_store.specs.Holding.{Held}
use Rattle.conflict_analysis.specs.declared.learned.Start.{Start}
use Rattle.conflict_analysis.specs.declared.learned.Start.TheVariants as from
use Rattle.conflict_analysis.specs.declared.learned.Link.{Link}
use Rattle.conflict_analysis.specs.declared.learned.Learned.{Learned}
use Rattle.conflict_analysis.specs.Chains.{replayed, IsUsable}
use Rattle.derivation.specs.declared.line.Line.{Line}
use Rattle.derivation.specs.declared.line.Line.TheVariants as l
use Rattle.derivation.specs.Whole.{count_learned}
use Rattle.derivation_meaning.specs.State.{State, cost_in}
use Rattle.derivation_meaning.specs.Valid.{after, with_nogood}
use Rattle.derivation_meaning.specs.Acceptance.{after_all}
use Rattle.derivation_meaning.specs.Claims.{given_in}
use Rattle.literals.specs.declared.reason.Step.{Step}
use Rattle.literals.specs.declared.reason.Step.TheVariants as s
use Rattle.learning.specs.Known.{Known, state_of}
use Rattle.learning.specs.Told.{line_by, line_of, IsTellableStart}
use Rattle.learning.specs.Chain.{uses_of, shown_lines, id_for, next_for, links_from, lines_of}
use Rattle.learning.specs.Learning.{Lead, IsAnswered, IsLesson, IsFull, learned_in}
use Rattle.learning.proofs.LinesProof.{lines_proved, front_proved}
use Rattle.learning.proofs.ReasonLaws.{uses_told}
use Rattle.learning.proofs.StateLaws.{learned_state}

-- how many ids are taken

shown_push : (us : List Start) (u : Start) → length (shown_lines (us ++ u ∷ [])) ≡ length (shown_lines us) + length (shown_lines (u ∷ []))
shown_push [] u = omega arith
shown_push (from.Held id ∷ us) u = shown_push us u
shown_push (from.Shown r ∷ us) u = let rest = shown_push us u in omega (arith, rest)

pub shown_one : (u : Start) → length (shown_lines (u ∷ [])) ≤ 1
shown_one (from.Held id) = omega arith
shown_one (from.Shown r) = omega arith

pub shown_next : (first : Start) (chain : List Link) (i : ℕ) (k : Link) → i < length chain → k ≡ get_or chain i k
    → length (shown_lines (uses_of first (take (i + 1) chain))) ≡ length (shown_lines (uses_of first (take i chain))) + length (shown_lines (k.used ∷ []))
shown_next first chain i k lt is =
    let more : take (i + 1) chain ≡ take i chain ++ k ∷ [] = take_more chain i k lt ∙ ap (λ (x : Link). take i chain ++ x ∷ []) (sym is) in
    ap (λ (ks : List Link). length (shown_lines (uses_of first ks))) more
    ∙ ap (λ (us : List Start). length (shown_lines (first ∷ us))) (map-append (λ (x : Link). x.used) (take i chain) (k ∷ [])) ∙ shown_push (uses_of first (take i chain)) k.used

-- how many `r` lines there are

by_step : (by : Step) (lits : List Lit) (lines : List Line) → count_learned (line_by by lits ∷ lines) ≡ count_learned lines
by_step (s.Sum c) lits lines = omega arith
by_step (s.Distinct c a b) lits lines = omega arith
by_step (s.Window c a b) lits lines = omega arith
by_step (s.Pair c i j) lits lines = omega arith
by_step (s.Loop atoms) lits lines = omega arith
by_step (s.Hole c) lits lines = omega arith

shown_count : (us : List Start) (more : List Line) → count_learned (shown_lines us ++ more) ≡ count_learned more
shown_count [] more = refl
shown_count (from.Held id ∷ us) more = shown_count us more
shown_count (from.Shown r ∷ us) more = by_step r.step r.nogood (shown_lines us ++ more) ∙ shown_count us more

front_count : (us : List Start) (count : ℕ) → count_learned (take count (shown_lines us)) ≡ 0
front_count us zero = refl
front_count [] (suc n) = refl
front_count (from.Held id ∷ us) (suc n) = front_count us (suc n)
front_count (from.Shown r ∷ us) (suc n) = by_step r.step r.nogood (take n (shown_lines us)) ∙ front_count us n

-- they give no answer

gives_by : (by : Step) (lits : List Lit) (lines : List Line) → given_in (line_by by lits ∷ lines) ≡ given_in lines
gives_by (s.Sum c) lits lines = refl
gives_by (s.Distinct c a b) lits lines = refl
gives_by (s.Window c a b) lits lines = refl
gives_by (s.Pair c i j) lits lines = refl
gives_by (s.Loop atoms) lits lines = refl
gives_by (s.Hole c) lits lines = refl

shown_gives : (us : List Start) (more : List Line) → given_in (shown_lines us ++ more) ≡ given_in more
shown_gives [] more = refl
shown_gives (from.Held id ∷ us) more = shown_gives us more
shown_gives (from.Shown r ∷ us) more = gives_by r.step r.nogood (shown_lines us ++ more) ∙ shown_gives us more

front_gives : (us : List Start) (count : ℕ) → given_in (take count (shown_lines us)) ≡ []
front_gives us zero = refl
front_gives [] (suc n) = refl
front_gives (from.Held id ∷ us) (suc n) = front_gives us (suc n)
front_gives (from.Shown r ∷ us) (suc n) = gives_by r.step r.nogood (take n (shown_lines us)) ∙ front_gives us n

-- and they claim nothing

claims_by : (program : GroundProgram) (state : State) (by : Step) (lits : List Lit) → (after program state (line_by by lits)).claim ≡ state.claim
claims_by program state (s.Sum c) lits = refl
claims_by program state (s.Distinct c a b) lits = refl
claims_by program state (s.Window c a b) lits = refl
claims_by program state (s.Pair c i j) lits = refl
claims_by program state (s.Loop atoms) lits = refl
claims_by program state (s.Hole c) lits = refl

front_claims : (program : GroundProgram) (state : State) (us : List Start) (count : ℕ) → (after_all program state (take count (shown_lines us))).claim ≡ state.claim
front_claims program state us zero = refl
front_claims program state [] (suc n) = refl
front_claims program state (from.Held id ∷ us) (suc n) = front_claims program state us (suc n)
front_claims program state (from.Shown r ∷ us) (suc n) = front_claims program (after program state (line_of r)) us n ∙ claims_by program state r.step r.nogood

-- what an analysis gives

pub lesson_told : (program : GroundProgram) (known : Known) (last id : ℕ) (held : List Held) (t : Assignment) (start : Start) (learned : Learned)
    → learned.first ≡ start → AllByRecursion (λ k. IsUsable held t k.used) learned.chain → replayed held start learned.chain ≡ Some learned.nogood
    → id ≡ last + length (shown_lines (uses_of learned.first learned.chain)) + 1
    → IsAnswered program known last held t start → IsLesson program known held learned id
lesson_told program known last id held t start learned same used replays is a =
    let S : State = state_of held known in
    let us : List Start = uses_of learned.first learned.chain in
    let start_told : IsTellableStart program (cost_in known.best) learned.first = subst (IsTellableStart program (cost_in known.best)) (sym same) a.start_told in
    let law = lines_proved program known held learned.first learned.chain learned.nogood a.unclaimed a.numbered.below
    (start_told, uses_told program (cost_in known.best) held t learned.chain a.shape a.told used) (subst (λ (u : Start). replayed held u learned.chain ≡ Some learned.nogood) (sym same) replays) in
    let next = a.next in
    let number : known.next + length (shown_lines us) ≡ id = omega (arith, next, is) in
    let above = a.numbered.inputs in
    let state : with_nogood (record S { next = id }) learned.nogood true true ≡ learned_in held known learned id =
    learned_state held known learned.nogood id (omega (arith, above, number)) (omega (arith, number)) a.numbered.given in
    record {
      lead = record {
        lines = lines_of known.next learned.first learned.chain learned.nogood;
        valid = law.0;
        leads = sym (law.1 ∙ ap (λ (n : ℕ). with_nogood (record S { next = n }) learned.nogood true true) number ∙ state);
        counted = shown_count us (l.Learned (id_for known.next learned.first) (links_from (next_for known.next learned.first) learned.chain) learned.nogood ∷ []);
        gives_none = shown_gives us (l.Learned (id_for known.next learned.first) (links_from (next_for known.next learned.first) learned.chain) learned.nogood ∷ []);
        unclaimed = refl;
      };
      lines = refl;
    }

pub lesson_full : (program : GroundProgram) (known : Known) (last : ℕ) (held : List Held) (t : Assignment) (start : Start) (learned : Learned)
    → learned.first ≡ start → AllByRecursion (λ k. IsUsable held t k.used) learned.chain → last ≤ 2 ^ 64 - 1
    → 2 ^ 64 ≤ last + length (shown_lines (uses_of learned.first learned.chain)) + 1
    → IsAnswered program known last held t start → IsFull program known held
lesson_full program known last held t start learned same used within full a =
    let us : List Start = uses_of learned.first learned.chain in
    let count : ℕ = 2 ^ 64 - known.next in
    let next = a.next in
    let start_told : IsTellableStart program (cost_in known.best) learned.first = subst (IsTellableStart program (cost_in known.best)) (sym same) a.start_told in
    let law = front_proved program known held us count a.unclaimed (start_told, uses_told program (cost_in known.best) held t learned.chain a.shape a.told used) (omega (arith, next, full)) in
    let lead : Lead program (state_of held known) (after_all program (state_of held known) (take count (shown_lines us))) 0 = record {
      lines = take count (shown_lines us);
      valid = law.0;
      leads = refl;
      counted = front_count us count;
      gives_none = front_gives us count;
      unclaimed = front_claims program (state_of held known) us count;
    } in
    (after_all program (state_of held known) (take count (shown_lines us)), lead, law.1 ∙ omega (arith, next, within))
