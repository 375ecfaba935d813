use Rattle.std.proofs.Common.{◌-◌, sym, ◌∙◌, arith}
use Rattle.ground_parts.proofs.HashSteps.{before, has_more, differ_more, differ_rest}
use Rattle.ground_parts.proofs.different.differ_by_hash.Goals as goal

pub returns-then-not-branch : goal.returns-then-not-branch
returns-then-not-branch c =
    let above = c.loop-at-test.true in
    let within = c.loop-at.invariant.within in
    let next = before c.args.places.now c.loop-at.at c.index-places-at.result above within c.index-places-at.is in
    sym (differ_rest c.args.places.now (c.loop-at.at - 1)
    (differ_more c.loop-at.later.keys (record { ref_ptr = (0, 0); now = c.index-places-at.result }) c.in_ok-insert.field-0 c.args.places.now c.loop-at.at c.in_ok-insert.ensures.added next c.loop-at.invariant.members
    c.loop-at.invariant.so_far ∙ c.if-not-branch.true))

pub loop-at-preserved : goal.loop-at-preserved
loop-at-preserved c =
    let above = c.loop-at-test.true in
    let within = c.loop-at.invariant.within in
    let next = before c.args.places.now c.loop-at.at c.index-places-at.result above within c.index-places-at.is in
    record {
      within = omega arith;
      members = has_more c.loop-at.later.keys c.insert.new.self.keys _ c.in_ok-insert.field-0 _ c.args.places.now c.loop-at.at c.if-not-branch.false c.in_ok-insert.ensures.keys next c.loop-at.invariant.members;
      so_far = differ_more c.loop-at.later.keys (record { ref_ptr = (0, 0); now = c.index-places-at.result }) c.in_ok-insert.field-0 c.args.places.now c.loop-at.at c.in_ok-insert.ensures.added next c.loop-at.invariant.members
          c.loop-at.invariant.so_far ∙ c.if-not-branch.false;
    }
