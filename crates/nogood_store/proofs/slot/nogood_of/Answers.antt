use Rattle.std.proofs.Common.{arith, sym, []}
use Rattle.nogood_store.proofs.HeldLaws.{search_up, search_down, search_ends, found_under}
use Rattle.nogood_store.proofs.slot.nogood_of.Goals as goal
use Rattle.nogood_store.proofs.slot.nogood_of.Goals.{else-low-slots-via-then-low-slots+else-slots-low, else-low-slots-via-else-low-slots}

pub loop-low-preserved-then-slots-middle : goal.loop-low-preserved-then-slots-middle
loop-low-preserved-then-slots-middle c = record {
  order = omega arith;
  within = omega arith;
  below = λ k d h. search_up c.args.slots.now c.args.id _ c.index-slots-middle.result c.requires (omega arith) c.if-slots-middle.true k d h;
  above = λ k d h l. c.loop-low.invariant.above k d h l;
}

pub loop-low-preserved : goal.loop-low-preserved
loop-low-preserved c = record {
  order = omega arith;
  within = omega arith;
  below = λ k d h. c.loop-low.invariant.below k d h;
  above = λ k d h l. search_down c.args.slots.now c.args.id _ c.index-slots-middle.result c.requires (omega arith) c.if-slots-middle.false k d h l;
}

pub returns-then-slots-low : goal.returns-then-slots-low
returns-then-slots-low c = found_under c.args.slots.now c.args.id c.loop-low.low c.index-slots-low.result c.index-slots-low-then-slots-low.result c.requires c.if-low-slots.true c.if-slots-low.true

pub returns-else-low-slots : goal.returns-else-low-slots
returns-else-low-slots c =
    elim c.else-low-slots.branch [
      | else-low-slots-via-then-low-slots+else-slots-low w ↦
          sym (search_ends c.args.slots.now c.args.id c.loop-low.low w.index-slots-low.result c.requires
          (λ k d h. c.loop-low.invariant.below k d h)
          (λ k d h l. c.loop-low.invariant.above k d (omega arith) l)
          (λ l e. w.if-slots-low.false e))
      | else-low-slots-via-else-low-slots w ↦
          sym (search_ends c.args.slots.now c.args.id c.loop-low.low (record { id = 0; nogood = [] }) c.requires
          (λ k d h. c.loop-low.invariant.below k d h)
          (λ k d h l. c.loop-low.invariant.above k d (omega arith) l)
          (λ l e. absurd (omega arith)))
    ]
