use Rattle.std.proofs.Common.{◌+◌, ap, sym, subst, ◌∙◌, drop}
use Rattle.trail.specs.Assignment.{Names}
use Rattle.nogood_store.proofs.HeldLaws.{all_at}
use Rattle.conflict_analysis.specs.Marked.{Board, Fits, IsMark, mark_at}
use Rattle.conflict_analysis.specs.inner.Runs.{boards_with, all_but}
use Rattle.conflict_analysis.proofs.RunLaws.{fits_board, marks_board, in_step}
use Rattle.conflict_analysis.proofs.put.put_all.Goals as goal

pub loop-lit-preserved : goal.loop-lit-preserved
loop-lit-preserved c =
    let named = all_at (Names c.args.trail.now.shape) c.args.lits.now c.loop-lit.lit-index _ c.requires.named c.loop-lit-test.true in
    record {
      fits = subst (Fits c.args.trail.now.shape) (sym c.in_ok-count.ensures.board) (fits_board c.args.trail.now c.loop-lit.marks _ c.loop-lit.invariant.fits);
      marks = λ i. subst (λ (b : Board). IsMark c.args.trail.now (mark_at b i)) (sym c.in_ok-count.ensures.board) (marks_board c.args.trail.now c.loop-lit.marks _ c.loop-lit.invariant.fits named.within c.loop-lit.invariant.marks i);
      counted = c.in_ok-count.ensures.counted;
      board = c.loop-lit.invariant.board
          ∙ in_step c.args.trail.now c.loop-lit.marks c.args.out c.args.lits.now c.loop-lit.lit-index _ c.loop-lit-test.true (sym c.if-is_out.ensures)
          ∙ ap (λ (b : Board). boards_with c.args.trail.now b (all_but c.args.out (drop (c.loop-lit.lit-index + 1) c.args.lits.now))) (sym c.in_ok-count.ensures.board);
    }
