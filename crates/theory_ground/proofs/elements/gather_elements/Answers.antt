use Rattle.std.proofs.Common.{◌≡◌, ◌<◌, List, length, map, sym, ◌∙◌, ap, subst, arith}
use Rattle.symbols.proofs.TableLemmas.{IsFront-trans}
use Rattle.ground_model.specs.Members.{IsMember}
use Rattle.match_index.proofs.IndexLaws.{IsIndexOf-front}
use Rattle.program_meaning.specs.Said.{value_in}
use Rattle.row_tests.specs.Judged.{atoms_in}
use Rattle.instance_plans.specs.declared.plan.Plan.{Plan}
use Rattle.collected_elements.proofs.ElementLemmas.{err_again}
use Rattle.theory_ground.specs.inner.Rows.{IsPart}
use Rattle.theory_ground.proofs.PlanLemmas.{count_is, elements_length, element_plan, element_tree, there_over, there_many, there_more}
use Rattle.theory_ground.proofs.elements.gather_elements.Goals as goal

pub bounds-elements-place : goal.bounds-elements-place
bounds-elements-place c =
    let h = c.requires.plan in
    subst (λ n. c.loop-place.place < n)
    (sym (elements_length h.0 h.1 c.args.plan.now h.2 c.as_slice-elements.result.now c.as_slice-elements.ensures c.items-plans.result.now c.items-plans.ensures)) c.loop-place-test.true

pub gather_element-requires-clause-plan : goal.gather_element-requires-clause-plan
gather_element-requires-clause-plan c =
    let h = c.requires.plan in
    record {
      rule = h.0;
      is = element_plan h.0 h.1 c.args.plan.now h.2 c.as_slice-elements.result.now c.as_slice-elements.ensures c.items-plans.result.now c.items-plans.ensures c.loop-place.place
          c.index-elements-place.result c.index-plans-place.result c.index-elements-place.is c.index-plans-place.is c.loop-place-test.true;
      each = h.3;
    }

pub gather_element-requires-clause-element : goal.gather_element-requires-clause-element
gather_element-requires-clause-element c =
    let h = c.requires.plan in
    let below = subst (λ n. c.loop-place.place < n)
    (sym (elements_length h.0 h.1 c.args.plan.now h.2 c.as_slice-elements.result.now c.as_slice-elements.ensures c.items-plans.result.now c.items-plans.ensures)) c.loop-place-test.true in
    element_tree h.0 h.1 c.args.plan.now h.2 c.as_slice-elements.result.now c.as_slice-elements.ensures c.items-plans.result.now c.items-plans.ensures c.loop-place.place
    c.index-elements-place.result c.index-elements-place.is below

pub gather_element-requires-clause-index : goal.gather_element-requires-clause-index
gather_element-requires-clause-index c = IsIndexOf-front c.args.symbols.now c.loop-place.symbols c.args.index.now c.loop-place.invariant.kept c.requires.index

pub returns-in-Err-clause-over : goal.returns-in-Err-clause-over
returns-in-Err-clause-over c = λ e rule theory is each.
    there_over c.args.symbols.now c.loop-place.symbols c.args.index.now c.args.values.now rule theory c.args.plan.now is each c.as_slice-elements.result.now c.as_slice-elements.ensures
    c.items-plans.result.now c.items-plans.ensures c.loop-place.place c.index-elements-place.result c.index-plans-place.result c.index-elements-place.is c.index-plans-place.is
    c.loop-place-test.true c.loop-place.invariant.kept c.requires.index c.symbols_are_distinct.ensures c.requires.values (c.in-Err.ensures.over (err_again e))

pub returns-in-Err-clause-many : goal.returns-in-Err-clause-many
returns-in-Err-clause-many c = λ e rule theory is each.
    there_many c.args.symbols.now c.loop-place.symbols c.args.index.now c.args.values.now rule theory c.args.plan.now is each c.as_slice-elements.result.now c.as_slice-elements.ensures
    c.items-plans.result.now c.items-plans.ensures c.loop-place.place c.index-elements-place.result c.index-plans-place.result c.index-elements-place.is c.index-plans-place.is
    c.loop-place-test.true c.loop-place.invariant.kept c.requires.index c.symbols_are_distinct.ensures c.requires.values c.args.most (c.in-Err.ensures.many (err_again e))

pub loop-place-preserved : goal.loop-place-preserved
loop-place-preserved c = record {
  part = λ rule theory is each.
      there_more c.args.symbols.now c.loop-place.symbols c.args.index.now c.args.values.now rule theory c.args.plan.now is each c.as_slice-elements.result.now c.as_slice-elements.ensures
      c.items-plans.result.now c.items-plans.ensures c.loop-place.place c.index-elements-place.result c.index-plans-place.result c.index-elements-place.is c.index-plans-place.is
      c.loop-place-test.true c.loop-place.invariant.kept c.requires.index c.symbols_are_distinct.ensures c.requires.values c.gather_element.new.symbols c.loop-place.gathered
      c.gather_element.new.gathered c.in-Ok.ensures.kept (c.loop-place.invariant.part rule theory is each) c.in-Ok.ensures.all;
  kept = IsFront-trans c.args.symbols.now c.loop-place.symbols c.gather_element.new.symbols c.loop-place.invariant.kept c.in-Ok.ensures.kept;
}

pub returns-clause-gathered : goal.returns-clause-gathered
returns-clause-gathered c = λ rule theory is each.
    let all : c.loop-place.place ≡ length c.items-plans.result.now = omega (arith, c.loop-place-test.false, c.loop-place.auto.place-end) in
    let count = all ∙ plans_same c.items-plans.result.now c.args.plan.now.elements c.items-plans.ensures ∙ sym (count_is rule theory c.args.plan.now is) in
    subst (λ n. IsPart c.loop-place.symbols (IsMember (atoms_in c.args.symbols.now c.args.index.now)) rule (map (value_in c.args.symbols.now) c.args.values.now) theory n c.loop-place.gathered) count
    (c.loop-place.invariant.part rule theory is each)
  where
    plans_same : (xs ys : List Plan) → xs ≡ ys → length xs ≡ length ys
    plans_same xs ys e = ap length e
