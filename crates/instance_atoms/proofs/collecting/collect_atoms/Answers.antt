use Rattle.std.proofs.Common.{map, take, length, Some, sym, subst}
use Rattle.symbols.proofs.TableLemmas.{IsFront-trans}
use Rattle.syntax_tree.specs.declared.binding.Value.{Value as HeldValue}
use Rattle.syntax_tree.specs.Outcome.{IsKnown}
use Rattle.ground_model.specs.Members.{IsMember}
use Rattle.match_index.proofs.IndexLaws.{IsIndexOf-front}
use Rattle.program_meaning.specs.Said.{value_in}
use Rattle.program_meaning.specs.Tuples.{theories}
use Rattle.row_bindings.proofs.HeldLemmas.{values-front}
use Rattle.row_tests.specs.Judged.{atoms_in}
use Rattle.row_tests.proofs.Growing.{atoms-front}
use Rattle.theory_plans.specs.Planned.{IsTheoryPlan}
use Rattle.theory_ground.proofs.RowLemmas.{by_recursion}
use Rattle.instance_atoms.specs.inner.Steps.{IsStep}
use Rattle.instance_atoms.proofs.StepLemmas.{zip_place, step_same, passed_same, all_stop, whole_step, end_collected, end_stop}
use Rattle.instance_atoms.proofs.collecting.collect_atoms.Goals as goal

pub with_plan-requires-clause-plan : goal.with_plan-requires-clause-plan
with_plan-requires-clause-plan c =
    let h = c.requires.plans in
    let at = zip_place (IsTheoryPlan h.0) (theories h.0) c.args.plans.now c.loop-place.place c.index-plans-place.result h.1 c.index-plans-place.is c.loop-place-test.true in
    (h.0, at.x, at.is, h.2)

pub with_plan-requires-clause-index : goal.with_plan-requires-clause-index
with_plan-requires-clause-index c = IsIndexOf-front c.args.symbols.now c.loop-place.symbols c.args.index.now c.loop-place.invariant.kept c.requires.index

pub returns-in-Err-clause-stop : goal.returns-in-Err-clause-stop
returns-in-Err-clause-stop c = λ rule zip each.
    let old = c.args.symbols.now in
    let now = c.loop-place.symbols in
    let known = by_recursion (λ (v : HeldValue). IsKnown (length c.args.symbols.now) (Some v)) c.args.values.now c.requires.values in
    let at = zip_place (IsTheoryPlan rule) (theories rule) c.args.plans.now c.loop-place.place c.index-plans-place.result zip c.index-plans-place.is c.loop-place-test.true in
    all_stop (IsMember (atoms_in c.args.symbols.now c.args.index.now)) rule (map (value_in c.args.symbols.now) c.args.values.now) at.x c.args.most c.in-Err.stop at.member
    (passed_same (atoms_in now c.args.index.now) (atoms_in old c.args.index.now) rule (map (value_in now) c.args.values.now) (map (value_in old) c.args.values.now) at.x c.args.most c.in-Err.stop
    (atoms-front old now c.args.index.now c.loop-place.invariant.kept c.requires.index) (values-front old now c.args.values.now c.loop-place.invariant.kept known)
    (c.in-Err.ensures.stop rule at.x at.is each))

pub loop-place-preserved : goal.loop-place-preserved
loop-place-preserved c =
    let old = c.args.symbols.now in
    let now = c.loop-place.symbols in
    let new = c.with_plan.new.symbols in
    let known = by_recursion (λ (v : HeldValue). IsKnown (length c.args.symbols.now) (Some v)) c.args.values.now c.requires.values in
    let atoms = atoms-front old now c.args.index.now c.loop-place.invariant.kept c.requires.index in
    let values = values-front old now c.args.values.now c.loop-place.invariant.kept known in
    record {
      step = λ rule zip each.
          let at = zip_place (IsTheoryPlan rule) (theories rule) c.args.plans.now c.loop-place.place c.index-plans-place.result zip c.index-plans-place.is c.loop-place-test.true in
          let before = step_same now (atoms_in old c.args.index.now) (atoms_in now c.args.index.now) rule (map (value_in old) c.args.values.now) (map (value_in now) c.args.values.now)
          (take c.loop-place.place (theories rule)) c.loop-place.step (sym atoms) (sym values) (c.loop-place.invariant.step rule zip each) in
          let after = c.in-Ok.ensures.more rule at.x at.is each (take c.loop-place.place (theories rule)) before in
          subst (λ ts. IsStep c.with_plan.new.symbols (IsMember (atoms_in c.args.symbols.now c.args.index.now)) rule (map (value_in c.args.symbols.now) c.args.values.now) ts c.in-Ok.next) (sym at.next)
          (step_same new (atoms_in now c.args.index.now) (atoms_in old c.args.index.now) rule (map (value_in now) c.args.values.now) (map (value_in old) c.args.values.now) _ c.in-Ok.next atoms values after);
      kept = IsFront-trans old now new c.loop-place.invariant.kept c.in-Ok.ensures.kept;
    }

pub returns-clause-collected : goal.returns-clause-collected
returns-clause-collected c =
    end_collected c.loop-place.symbols (IsMember (atoms_in c.args.symbols.now c.args.index.now)) c.args.plans.now (length c.args.values.now) (map (value_in c.args.symbols.now) c.args.values.now)
    c.loop-place.step c.finished.result c.finished.ensures
    (whole_step c.loop-place.symbols (IsMember (atoms_in c.args.symbols.now c.args.index.now)) c.args.plans.now (length c.args.values.now) (map (value_in c.args.symbols.now) c.args.values.now)
    c.loop-place.place c.loop-place.step c.loop-place-test.false c.loop-place.invariant.step)

pub returns-clause-stop : goal.returns-clause-stop
returns-clause-stop c =
    end_stop c.loop-place.symbols (IsMember (atoms_in c.args.symbols.now c.args.index.now)) c.args.plans.now (length c.args.values.now) (map (value_in c.args.symbols.now) c.args.values.now) c.args.most
    c.loop-place.step c.finished.result c.finished.ensures
    (whole_step c.loop-place.symbols (IsMember (atoms_in c.args.symbols.now c.args.index.now)) c.args.plans.now (length c.args.values.now) (map (value_in c.args.symbols.now) c.args.values.now)
    c.loop-place.place c.loop-place.step c.loop-place-test.false c.loop-place.invariant.step)
