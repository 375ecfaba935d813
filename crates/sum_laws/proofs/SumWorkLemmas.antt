-- The propagator of a program's sum does its work.
use Rattle.std.proofs.Common.{◌≡◌, ◌⊎◌, inl, inr, ℕ, zero, suc, true, false, ◌&&◌, ℤ, int_le, int_lt, List, [], ◌∷◌, length, refl, sym, ◌∙◌, ap, ap₂, subst, true≢false, eqb-true, None, Some, IsTrue, arith}
use Rattle.std.specs.List.{list_all, list_any}
use Rattle.std.proofs.lemmas.Int.{ints}
use Rattle.literals.specs.declared.lit.Lit.{Lit}
use Rattle.literals.specs.declared.lit.Lit.TheVariants as l
use Rattle.literals.specs.declared.reason.Step.{Step}
use Rattle.literals.specs.declared.reason.Step.TheVariants.{Sum, Distinct, Window, Pair, Loop, Hole}
use Rattle.literals.specs.declared.reason.Reason.{Reason}
use Rattle.ground_model.specs.declared.program.GroundProgram.{GroundProgram}
use Rattle.ground_model.specs.Answers.{IsNumbered}
use Rattle.ground_model.proofs.Bools.{and_elim, and_intro, or_elim}
use Rattle.ground_model.proofs.MemberLemmas.{same_nat, all_member, member_any}
use Rattle.linear_normal.specs.declared.constraint.Item.{Item}
use Rattle.linear_normal.specs.declared.constraint.Item.TheVariants.{Value, Truth}
use Rattle.linear_normal.specs.declared.constraint.Constraint.TheVariants as c
use Rattle.linear_normal.specs.declared.numbered.Numbered.{Numbered}
use Rattle.linear_normal.specs.Numbering.{numbering}
use Rattle.linear_normal.specs.Bounds.{least_sum, greatest_sum}
use Rattle.linear_normal.specs.Steps.{is_one_of, is_named, is_sum, is_shown, is_valid}
use Rattle.linear_normal.specs.Truth.{numbered_in, items_value}
use Rattle.numbering_laws.specs.Items.{counts_truth, is_item_within}
use Rattle.numbering_laws.proofs.ItemLemmas.{items_law}
use Rattle.trail.specs.declared.shape.Shape.{Shape}
use Rattle.trail.specs.Assignment.{Assignment, IsAssignment, is_true_on}
use Rattle.trail.proofs.AssignmentLaws.{truth-true, truth-false}
use Rattle.sum_propagator.specs.Sums.{is_of, is_step_of, valid_sum, settled_sum, bounds_on}
use Rattle.trail_worlds.specs.Total.{shape_of, IsTotal}
use Rattle.trail_worlds.specs.Worlds.{truths_on, IsSettledOn}
use Rattle.trail_worlds.specs.Sums.{HasOneSum}
use Rattle.trail_worlds.proofs.SumLemmas.{sum_law}
use Rattle.trail_worlds.proofs.TruthLemmas.{numbered_one}
use Rattle.sum_laws.specs.SumWork.{SumWorkLaw}

module _ (program : GroundProgram) (n : ℕ) (items : List Item) (most : ℤ) (found : numbered_in (numbering program).constraints n ≡ Some (c.AtMost items most)) where
  abbrev N : Numbered
  N = numbering program

  abbrev constraints : ℕ
  constraints = length N.constraints

  within : list_all (is_item_within (length program.variables) constraints) items ≡ true
  within = (and_elim (is_one_of constraints n) (list_all (is_item_within (length program.variables) constraints) items) ((items_law program).within n items most found)).1

  -- VALID REASONS

  named_same : (lits : List Lit) → list_all (is_of (shape_of program)) lits ≡ list_all (is_named program N) lits
  named_same [] = refl
  named_same (lit ∷ lits) = ap₂ ◌&&◌ (one lit) (named_same lits)
    where
      one : (lit : Lit) → is_of (shape_of program) lit ≡ is_named program N lit
      one (l.Atom a sign) = refl
      one (l.Body b sign) = refl
      one (l.Constraint m sign) = refl
      one (l.AtMost x k) = refl
      one (l.AtLeast x k) = refl

  no_zero : n ≡ 0 → ⊥
  no_zero e = none (sym (ap (numbered_in N.constraints) e) ∙ found)
    where
      none : {Y : Type 0} {y : Y} → None ≡ Some y → ⊥
      none p = cc

  -- a step of the sum shows exactly that its bounds refute it
  shown_same : (lits : List Lit) → is_shown program N None lits (Sum n) ≡ is_sum program.ends lits n (Some (c.AtMost items most))
  shown_same lits = go n no_zero ∙ ap (is_sum program.ends lits n) found
    where
      go : (m : ℕ) → (m ≡ 0 → ⊥) → is_shown program N None lits (Sum m) ≡ is_sum program.ends lits m (numbered_in N.constraints m)
      go zero f = absurd (f refl)
      go (suc m) f = refl

  own_step : (step : Step) → is_step_of n step ≡ true → step ≡ Sum n
  own_step (Sum m) e = ap Sum (eqb-true m n e)
  own_step (Distinct m a b) e = absurd (true≢false (sym e))
  own_step (Window m a b) e = absurd (true≢false (sym e))
  own_step (Pair m i j) e = absurd (true≢false (sym e))
  own_step (Loop set) e = absurd (true≢false (sym e))
  own_step (Hole m) e = absurd (true≢false (sym e))

  valid_parts : (reason : Reason) → valid_sum n items most (shape_of program) reason ≡ true
      → (list_all (is_named program N) reason.nogood ≡ true) × (reason.step ≡ Sum n) × (is_sum program.ends reason.nogood n (Some (c.AtMost items most)) ≡ true)
  valid_parts reason e =
      let p = and_elim (list_all (is_of (shape_of program)) reason.nogood && is_step_of n reason.step) (is_sum program.ends reason.nogood n (Some (c.AtMost items most))) e in
      let q = and_elim (list_all (is_of (shape_of program)) reason.nogood) (is_step_of n reason.step) p.0 in
      (sym (named_same reason.nogood) ∙ q.0, own_step reason.step q.1, p.1)

  sound : (reason : Reason) → valid_sum n items most (shape_of program) reason ≡ true → (reason.step ≡ Sum n) × (is_valid program N None reason.nogood reason.step ≡ true)
  sound reason e =
      let p = valid_parts reason e in
      (p.1, ap (is_valid program N None reason.nogood) p.1 ∙ and_intro (list_all (is_named program N) reason.nogood) (is_shown program N None reason.nogood (Sum n)) p.0 (shown_same reason.nogood ∙ p.2))

  complete : (reason : Reason) → reason.step ≡ Sum n → is_valid program N None reason.nogood reason.step ≡ true → valid_sum n items most (shape_of program) reason ≡ true
  complete reason same e =
      let p = and_elim (list_all (is_named program N) reason.nogood) (is_shown program N None reason.nogood (Sum n)) (sym (ap (is_valid program N None reason.nogood) same) ∙ e) in
      and_intro (list_all (is_of (shape_of program)) reason.nogood && is_step_of n reason.step) (is_sum program.ends reason.nogood n (Some (c.AtMost items most)))
      (and_intro (list_all (is_of (shape_of program)) reason.nogood) (is_step_of n reason.step) (named_same reason.nogood ∙ p.0) (ap (is_step_of n) same ∙ same_nat n n refl))
      (sym (shown_same reason.nogood) ∙ p.1)

  -- SETTLED

  counted : (k : ℕ) → list_any (counts_truth k) items ≡ true → IsNumbered constraints k
  counted k e =
      let r = member_any (counts_truth k) items e in
      one r.0 (all_member (is_item_within (length program.variables) constraints) items r.0 within r.1) r.2
    where
      one : (item : Item) → is_item_within (length program.variables) constraints item ≡ true → counts_truth k item ≡ true → IsNumbered constraints k
      one (Value x q) w f = absurd (true≢false (sym f))
      one (Truth m q) w f = subst (IsNumbered constraints) (eqb-true m k f) (numbered_one constraints m w)

  settled_is : (t : Assignment) → t.shape ≡ shape_of program → IsAssignment t → IsTotal t → settled_sum n items most t ≡ true → IsSettledOn t n (c.AtMost items most)
  settled_is t shape is total e =
      go (or_elim (is_true_on t (l.Constraint n true) && int_le (greatest_sum (bounds_on t) items) most) (is_true_on t (l.Constraint n false) && int_lt most (least_sum (bounds_on t) items)) e)
    where
      sums : HasOneSum t items
      sums = sum_law t is total items (subst (λ (s : Shape). IsTrue (list_all (is_item_within s.variables s.constraints) items)) (sym shape) within)

      over : (least value : ℤ) → least ≡ value → int_lt most least ≡ true → int_le value most ≡ false
      over least value same f = grind (arith, ints, same, f)

      go : ((is_true_on t (l.Constraint n true) && int_le (greatest_sum (bounds_on t) items) most) ≡ true)
          ⊎ ((is_true_on t (l.Constraint n false) && int_lt most (least_sum (bounds_on t) items)) ≡ true) → IsSettledOn t n (c.AtMost items most)
      go (inl p) =
          let q = and_elim (is_true_on t (l.Constraint n true)) (int_le (greatest_sum (bounds_on t) items) most) p in
          truth-true t (l.Constraint n true) q.0 ∙ ap Some (sym (sym (ap (λ z. int_le z most) sums.greatest) ∙ q.1))
      go (inr p) =
          let q = and_elim (is_true_on t (l.Constraint n false)) (int_lt most (least_sum (bounds_on t) items)) p in
          truth-false t (l.Constraint n true) is q.0 ∙ ap Some (sym (over (least_sum (bounds_on t) items) (items_value (truths_on t) items) sums.least q.1))

pub sum_work_law : SumWorkLaw
sum_work_law program n items most found = record {
  fits = (items_law program).within n items most found;
  sound = sound program n items most found;
  complete = complete program n items most found;
  settles = record { counted = counted program n items most found; settles = settled_is program n items most found };
}
