-- What the check of an answer rests on.
use Rattle.std.proofs.Common.{◌≡◌, ◌<◌, ◌≤◌, ◌+◌, ◌-◌, ◌⊎◌, inl, inr, ℕ, zero, suc, Bool, true, false, ◌&&◌, ◌||◌, ◌==◌, nat_le, ℤ, int_le, List, [], ◌∷◌, length, slice_set, slice_index_or, refl, sym, ◌∙◌, ap, subst, subst₂, true≢false, eqb-true, arith}
use Rattle.std.specs.List.{AllByRecursion, list_all}
use Rattle.std.proofs.lemmas.Bool.Decides.{nat_tests}
use Rattle.std.proofs.lemmas.Int.{ints}
use Rattle.symbols.specs.declared.ends.Ends.{Ends}
use Rattle.definite_rules.specs.Least as definite
use Rattle.ground_model.specs.declared.answer.Answer.{Answer}
use Rattle.ground_model.specs.declared.program.GroundProgram.{GroundProgram}
use Rattle.ground_model.specs.inner.Agreement.{are_within, is_shaped, Agree, IsStableCandidate}
use Rattle.ground_model.specs.Answers.{IsNumbered, ascend_from, has_atom, value_at, IsWithin, IsValuation, IsAnswerOf}
use Rattle.ground_model.specs.Duties.{rule_holds, IsStableByTests}
use Rattle.ground_model.specs.Reduct.{reduct}
use Rattle.ground_model.specs.Sizes.{IsReadableRule}
use Rattle.ground_model.specs.World.{World, world_by, world_of}
use Rattle.ground_model.specs.Ways.{derivable}
use Rattle.ground_model.proofs.Bools.{and_elim, and_intro, bool_cases, same_test}
use Rattle.ground_model.proofs.MemberLemmas.{same_nat}
use Rattle.ground_model.proofs.Ascending.{above_last}
use Rattle.ground_model.proofs.ReductLemmas.{reduct_up, reduct_down, ways_counted}
use Rattle.ground_model.proofs.SizeLemmas.{readable_rules}
use Rattle.ground_model.proofs.AnswerLemmas.{derivable_numbered, answer_atoms}
use Rattle.ground_model.proofs.DutyLemmas.{by_tests, to_tests}

-- FLAGS

or_false : (b : Bool) → (b || false) ≡ b
or_false true = refl
or_false false = refl

pub flags_end : (flags : List Bool) (atoms : List ℕ) → ((a : ℕ) → (slice_index_or flags a false || has_atom [] a) ≡ has_atom atoms a)
    → (a : ℕ) → slice_index_or flags a false ≡ has_atom atoms a
flags_end flags atoms f a = sym (or_false (slice_index_or flags a false)) ∙ f a

differs : (x a : ℕ) → ((x ≡ a) → ⊥) → (x == a) ≡ false
differs x a unequal = grind (arith, nat_tests)

set_flag : (flags : List Bool) (x a : ℕ) → x < length flags → slice_index_or (slice_set flags x true) a false ≡ ((x == a) || slice_index_or flags a false)
set_flag [] x a below = absurd (omega arith)
set_flag (f ∷ flags) zero zero below = refl
set_flag (f ∷ flags) zero (suc a) below = ap (λ t. t || slice_index_or flags a false) (sym (differs zero (suc a) (λ e. omega arith)))
set_flag (f ∷ flags) (suc x) zero below = ap (λ t. t || f) (sym (differs (suc x) zero (λ e. omega arith)))
set_flag (f ∷ flags) (suc x) (suc a) below = set_flag flags x a (omega arith) ∙ ap (λ t. t || slice_index_or flags a false) (same (x == a) refl)
  where
    same : (t : Bool) → (x == a) ≡ t → (x == a) ≡ (suc x == suc a)
    same t e = grind (arith, nat_tests)

swap_or : (x f r : Bool) → ((x || f) || r) ≡ (f || (x || r))
swap_or true true r = refl
swap_or true false r = refl
swap_or false f r = refl

pub flags_step : (flags : List Bool) (x : ℕ) (rest : List ℕ) (whole : List ℕ) → x < length flags
    → ((a : ℕ) → (slice_index_or flags a false || has_atom (x ∷ rest) a) ≡ has_atom whole a)
    → (a : ℕ) → (slice_index_or (slice_set flags x true) a false || has_atom rest a) ≡ has_atom whole a
flags_step flags x rest whole below f a =
    ap (λ t. t || has_atom rest a) (set_flag flags x a below) ∙ swap_or (x == a) (slice_index_or flags a false) (has_atom rest a) ∙ f a

-- VALUES

pub within_from_test : (ends : Ends) (values : List ℤ) → are_within ends values ≡ true → AllByRecursion (IsWithin ends) values
within_from_test ends [] e = tt
within_from_test ends (value ∷ values) e =
    let p = and_elim (int_le ends.min value && int_le value ends.max) (are_within ends values) e in
    let q = and_elim (int_le ends.min value) (int_le value ends.max) p.0 in
    let low = q.0 in let high = q.1 in
    ((grind (arith, ints), grind (arith, ints)), within_from_test ends values p.1)

pub test_from_within : (ends : Ends) (values : List ℤ) → AllByRecursion (IsWithin ends) values → are_within ends values ≡ true
test_from_within ends [] w = refl
test_from_within ends (value ∷ values) w =
    let low = w.0.0 in let high = w.0.1 in
    and_intro (int_le ends.min value && int_le value ends.max) (are_within ends values)
    (and_intro (int_le ends.min value) (int_le value ends.max) (grind (arith, ints)) (grind (arith, ints))) (test_from_within ends values w.1)

pub known_from_test : (last : ℕ) (atoms : List ℕ) → list_all (λ n. nat_le n last) atoms ≡ true → AllByRecursion (λ a. a ≤ last) atoms
known_from_test last [] e = tt
known_from_test last (a ∷ atoms) e =
    let p = and_elim (nat_le a last) (list_all (λ n. nat_le n last) atoms) e in
    let t = p.0 in (grind (arith, nat_tests), known_from_test last atoms p.1)

pub test_from_known : (last : ℕ) (atoms : List ℕ) → AllByRecursion (IsNumbered last) atoms → list_all (λ n. nat_le n last) atoms ≡ true
test_from_known last [] w = refl
test_from_known last (a ∷ atoms) w =
    let k = w.0.known in
    and_intro (nat_le a last) (list_all (λ n. nat_le n last) atoms) (grind (arith, nat_tests)) (test_from_known last atoms w.1)

-- STABLE BY THE LEAST MODEL OF THE REDUCT

past_end : (flags : List Bool) (a : ℕ) → length flags ≤ a → slice_index_or flags a false ≡ false
past_end [] a past = refl
past_end (f ∷ flags) zero past = absurd (omega arith)
past_end (f ∷ flags) (suc a) past = past_end flags a (omega arith)

module _ (program : GroundProgram) (flags : List Bool) (values : List ℤ) (candidate : IsStableCandidate program flags values) (least : List Bool)
    (size : length least ≡ length program.atoms) (is : definite.IsLeastModel (reduct program.rules (world_by flags values)) least) where
  abbrev world : World
  world = world_by flags values

  readable : AllByRecursion (IsReadableRule (length program.atoms) (length program.variables)) program.rules
  readable = readable_rules (length program.symbols) (length program.atoms) (length program.variables) program.ends program.rules program.sound_rules

  down : (rank a : ℕ) → 0 < a → definite.Derivable (reduct program.rules world) rank (a - 1) → derivable program.rules world rank a ≡ true
  down =
      reduct_down program.rules world
      (ways_counted (length program.symbols) (length program.atoms) (length program.variables) program.ends program.rules program.sound_rules)

  flagged_number : (a : ℕ) → slice_index_or flags a false ≡ true → (0 < a) × (a - 1 < length least)
  flagged_number zero t = absurd (true≢false (sym t ∙ candidate.first))
  flagged_number (suc a) t = (omega arith, go (bool_cases (nat_le (length flags) (suc a))))
    where
      go : (nat_le (length flags) (suc a) ≡ true) ⊎ (nat_le (length flags) (suc a) ≡ false) → suc a - 1 < length least
      go (inl e) =
          let past : length flags ≤ suc a = grind (arith, nat_tests) in
          absurd (true≢false (sym t ∙ past_end flags (suc a) past))
      go (inr e) = let n = candidate.size in let m = size in let less : suc a < length flags = grind (arith, nat_tests) in omega arith

  pub from_agreement : Agree least flags → list_all (rule_holds world) program.rules ≡ true → IsStableByTests program.rules world
  from_agreement agree duties = record {
    derived = λ a t.
        let n = flagged_number a t in
        let above = n.0 in
        let e : (a - 1) + 1 ≡ a = omega arith in
        let d = is.derived (a - 1) (agree (a - 1) n.1 ∙ ap (λ k. slice_index_or flags k false) e ∙ t) in
        (d.0, down d.0 a above d.1);
    closed = λ a rank d.
        let n = derivable_numbered (length program.atoms) (length program.variables) program.rules world readable rank a d in
        let above = n.above in let known = n.known in let m = size in
        let e : (a - 1) + 1 ≡ a = omega arith in
        let below : a - 1 < length least = omega arith in
        sym (ap (λ k. slice_index_or flags k false) e) ∙ sym (agree (a - 1) below) ∙ is.closed (a - 1) rank (reduct_up program.rules world rank a d);
    duties = duties;
  }

  pub to_agreement : IsStableByTests program.rules world → Agree least flags
  to_agreement s k below = same_test (slice_index_or least k false) (slice_index_or flags (k + 1) false) up back
    where
      place : (k + 1) - 1 ≡ k
      place = omega arith

      up : slice_index_or least k false ≡ true → slice_index_or flags (k + 1) false ≡ true
      up t =
          let d = is.derived k t in
          s.closed (k + 1) d.0 (down d.0 (k + 1) (omega arith) (subst (λ n. definite.Derivable (reduct program.rules world) d.0 n) (sym place) d.1))

      back : slice_index_or flags (k + 1) false ≡ true → slice_index_or least k false ≡ true
      back t =
          let d = s.derived (k + 1) t in
          is.closed k d.0 (subst (λ n. definite.Derivable (reduct program.rules world) d.0 n) place (reduct_up program.rules world d.0 (k + 1) d.1))

-- THE ANSWER'S WORLD

pub same_world : (flags : List Bool) (answer : Answer) → ((a : ℕ) → slice_index_or flags a false ≡ has_atom answer.atoms a) → world_by flags answer.values ≡ world_of answer
same_world flags answer f = λ i. record { atoms = λ a. f a i; values = value_at answer.values }

pub candidate_of : (program : GroundProgram) (flags : List Bool) (answer : Answer) → ascend_from 0 answer.atoms ≡ true → IsValuation program answer.values
    → length flags ≡ length program.atoms + 1 → ((a : ℕ) → slice_index_or flags a false ≡ has_atom answer.atoms a) → IsStableCandidate program flags answer.values
candidate_of program flags answer ascending valuation size f = record { size = size; first = f 0 ∙ none; valuation = valuation }
  where
    none : has_atom answer.atoms 0 ≡ false
    none = go (bool_cases (has_atom answer.atoms 0))
      where
        go : (has_atom answer.atoms 0 ≡ true) ⊎ (has_atom answer.atoms 0 ≡ false) → has_atom answer.atoms 0 ≡ false
        go (inl e) = let below = above_last 0 answer.atoms 0 ascending e in absurd (omega arith)
        go (inr e) = e

module _ (program : GroundProgram) (answer : Answer) where
  pub from_stable : (flags : List Bool) → ascend_from 0 answer.atoms ≡ true → IsValuation program answer.values → ((a : ℕ) → slice_index_or flags a false ≡ has_atom answer.atoms a)
      → IsStableByTests program.rules (world_by flags answer.values) → IsAnswerOf program answer
  from_stable flags ascending valuation f s = record {
    ascending = ascending;
    valuation = valuation;
    stable = by_tests program.symbols program.rules (world_of answer) (subst (IsStableByTests program.rules) (same_world flags answer f) s);
  }

  pub to_stable : (flags : List Bool) → ((a : ℕ) → slice_index_or flags a false ≡ has_atom answer.atoms a) → IsAnswerOf program answer
      → IsStableByTests program.rules (world_by flags answer.values)
  to_stable flags f is = subst (IsStableByTests program.rules) (sym (same_world flags answer f)) (to_tests program.symbols program.rules (world_of answer) is.stable)

  pub known_atoms : IsAnswerOf program answer → list_all (λ n. nat_le n (length program.atoms)) answer.atoms ≡ true
  known_atoms is = test_from_known (length program.atoms) answer.atoms (answer_atoms program answer is)

-- THE SHAPE OF AN ANSWER

pub record HasShape (program : GroundProgram) (answer : Answer) : Type 0 where
  pub ascending : ascend_from 0 answer.atoms ≡ true
  pub known : AllByRecursion (λ a. a ≤ length program.atoms) answer.atoms
  pub valuation : IsValuation program answer.values

pub shape_from_test : (program : GroundProgram) (answer : Answer) → is_shaped program answer ≡ true → HasShape program answer
shape_from_test program answer e =
    let p = and_elim (ascend_from 0 answer.atoms && list_all (λ n. nat_le n (length program.atoms)) answer.atoms && (length answer.values == length program.variables))
    (are_within program.ends answer.values) e in
    let q = and_elim (ascend_from 0 answer.atoms && list_all (λ n. nat_le n (length program.atoms)) answer.atoms) (length answer.values == length program.variables) p.0 in
    let r = and_elim (ascend_from 0 answer.atoms) (list_all (λ n. nat_le n (length program.atoms)) answer.atoms) q.0 in
    record {
      ascending = r.0;
      known = known_from_test (length program.atoms) answer.atoms r.1;
      valuation = record {
        each = eqb-true (length answer.values) (length program.variables) q.1;
        within = within_from_test program.ends answer.values p.1;
      };
    }

pub test_from_answer : (program : GroundProgram) (answer : Answer) → IsAnswerOf program answer → is_shaped program answer ≡ true
test_from_answer program answer is =
    and_intro (ascend_from 0 answer.atoms && list_all (λ n. nat_le n (length program.atoms)) answer.atoms && (length answer.values == length program.variables))
    (are_within program.ends answer.values)
    (and_intro (ascend_from 0 answer.atoms && list_all (λ n. nat_le n (length program.atoms)) answer.atoms) (length answer.values == length program.variables)
    (and_intro (ascend_from 0 answer.atoms) (list_all (λ n. nat_le n (length program.atoms)) answer.atoms) is.ascending (known_atoms program answer is))
    (same_nat (length answer.values) (length program.variables) is.valuation.each))
    (test_from_within program.ends answer.values is.valuation.within)

pub size_of_candidate : (program : GroundProgram) (flags : List Bool) (values : List ℤ) → IsStableCandidate program flags values
    → AllByRecursion (IsReadableRule (length flags - 1) (length values)) program.rules
size_of_candidate program flags values candidate =
    let n = candidate.size in
    let atoms : length program.atoms ≡ length flags - 1 = omega arith in
    subst₂ (λ x y. AllByRecursion (IsReadableRule x y) program.rules) atoms (sym candidate.valuation.each)
    (readable_rules (length program.symbols) (length program.atoms) (length program.variables) program.ends program.rules program.sound_rules)
