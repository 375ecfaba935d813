use Rattle.std.proofs.Common.{◌+ℤ◌, FitsSigned, to_z, of_z}
use Rattle.std.proofs.lemmas.Int.{to_z-of_z}
use Rattle.std.specs.Int.{w128}
use Rattle.linear_normal.specs.Bounds.{bounds_named}
use Rattle.linear_normal.specs.Steps.{is_within_window}
use Rattle.step_rules.specs.inner.Counts.{work_in}
use Rattle.step_rules.proofs.CountLemmas.{work_step, work_fits}
use Rattle.step_rules.proofs.disjoint.added.Goals as goal

pub loop-place-preserved : goal.loop-place-preserved
loop-place-preserved c =
    let test = is_within_window (bounds_named c.args.ends c.args.lits.now) c.args.window.from c.args.window.to in
    let step =
    work_step test c.args.places.now c.loop-place.place-index c.place-item.result (work_in test c.args.places.now) (to_z w128 c.loop-place.work-bits) c.work_of-work.result
    c.loop-place-test.true c.place-item.is c.loop-place.invariant.so_far c.loop-place.invariant.short c.loop-place.invariant.size c.work_of-work.ensures.value c.work_of-work.ensures.size in
    let below = c.loop-place-test.true in
    let few = c.requires.few.number in
    let term : FitsSigned w128 c.work_of-work.result = record { sfits = c.work_of-work.type_inv } in
    let sum : FitsSigned w128 (to_z w128 c.loop-place.work-bits +ℤ c.work_of-work.result) = work_fits c.loop-place.place-index _ (omega (Rattle.std.proofs.Common.arith, below, few)) step.size in
    rw (to_z-of_z w128 c.work_of-work.result term, to_z-of_z w128 (to_z w128 c.loop-place.work-bits +ℤ c.work_of-work.result) sum) (record {
      so_far = step.so_far;
      short = step.short;
      size = step.size;
    })
