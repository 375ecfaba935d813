use Rattle.std.proofs.Common.{ap, subst, ◌∙◌}
use Rattle.trail.specs.declared.shape.Shape.{Shape}
use Rattle.conflict_analysis.specs.Chains.{nogood_of}
use Rattle.conflict_analysis.specs.Marked.{Fits}
use Rattle.conflict_analysis.proofs.FinalLaws.{clear_count, start_run}
use Rattle.conflict_analysis.proofs.analysis.resolve_from.Goals as goal

pub put_all-requires-clause-counted : goal.put_all-requires-clause-counted
put_all-requires-clause-counted g c = clear_count c.args.trail.now c.highest-high.result c.begin.new.self.marks c.in_ok-begin.ensures.clear

pub resolve_all-requires : goal.resolve_all-requires
resolve_all-requires g c =
    let n = c.requires.1.1.0 in (
      c.requires.1.0,
      start_run c.args.store.now.held c.args.trail.now g.first c.args.chain.now c.highest-high.result c.in_ok-count.count n.0 c.start_lits-lits.result.now c.begin.new.self c.put_all.new.marks
          c.shape.ensures.assignment c.requires.1.1.1
          (ap (nogood_of c.args.store.now.held) c.requires.0 ∙ n.1) n.2 n.3
          (c.start_lits-lits.ensures.value n.0 n.1) c.start_lits-lits.ensures.rises c.highest-high.ensures
          (subst (λ (s : Shape). Fits s c.begin.new.self) c.shape.ensures.value c.in_ok-begin.ensures.fits)
          c.in_ok-begin.ensures.clear c.in_ok-count.ensures.board c.in_ok-count.ensures.counted,
    )
