use Rattle.std.proofs.Common.{◌-◌, pos, get_or, sym, ◌∙◌, to_z, of_z, arith}
use Rattle.std.specs.Int.{w128}
use Rattle.ground_model.proofs.DifferLemmas.{before, has_more, differ_more, differ_rest, start_fits}
use Rattle.ground_model.proofs.theory.all_differ.Goals as goal

pub returns-then-not-branch : goal.returns-then-not-branch
returns-then-not-branch c =
    let above = c.loop-at-test.true in
    let within = c.loop-at.invariant.within in
    let span = get_or c.args.spans.now (c.loop-at.at - 1) (pos 0, pos 0) in
    let next = before c.args.spans.now c.loop-at.at (pos 0, pos 0) above within in
    sym (differ_rest c.args.spans.now (c.loop-at.at - 1)
    (differ_more c.loop-at.later.keys (to_z w128 (of_z w128 span.0)) c.in_ok-insert.field-0 c.args.spans.now c.loop-at.at span c.in_ok-insert.ensures.added
    (start_fits c.args.spans.now (c.loop-at.at - 1) (pos 0, pos 0) c.requires (omega arith)) next c.loop-at.invariant.members c.loop-at.invariant.so_far
    ∙ c.if-not-branch.true))

pub loop-at-preserved : goal.loop-at-preserved
loop-at-preserved c =
    let above = c.loop-at-test.true in
    let within = c.loop-at.invariant.within in
    let span = get_or c.args.spans.now (c.loop-at.at - 1) (pos 0, pos 0) in
    let next = before c.args.spans.now c.loop-at.at (pos 0, pos 0) above within in
    let same = start_fits c.args.spans.now (c.loop-at.at - 1) (pos 0, pos 0) c.requires (omega arith) in
    record {
      within = omega arith;
      members = has_more c.loop-at.later.keys c.insert.new.self.keys (to_z w128 (of_z w128 span.0)) c.in_ok-insert.field-0 _ c.args.spans.now c.loop-at.at span
          c.if-not-branch.false c.in_ok-insert.ensures.keys same next c.loop-at.invariant.members;
      so_far = differ_more c.loop-at.later.keys (to_z w128 (of_z w128 span.0)) c.in_ok-insert.field-0 c.args.spans.now c.loop-at.at span c.in_ok-insert.ensures.added same next
          c.loop-at.invariant.members c.loop-at.invariant.so_far
          ∙ c.if-not-branch.false;
    }
