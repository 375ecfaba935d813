use Rattle.std.proofs.Common.{true}
use Rattle.literals.specs.declared.lit.Lit.TheVariants.{Atom}
use Rattle.trail.specs.Assignment.{is_true_on}
use Rattle.decisions.proofs.ScanLaws.{filter_more}
use Rattle.decisions.proofs.answer.true_atoms.Goals as goal

pub loop-at-preserved : goal.loop-at-preserved
loop-at-preserved c = filter_more (λ a. is_true_on c.args.trail.now (Atom a true)) c.loop-at.at c.loop-at.atoms c.put_true.new.atoms c.loop-at.invariant c.in_ok-put_true.ensures
