use Rattle.proof_checker.specs.inner.View.{state_of}
use Rattle.proof_checker.proofs.NextLemmas.{learned_taken}
use Rattle.proof_checker.proofs.next.take_learned.Goals as goal

pub returns-clause-ok : goal.returns-clause-ok
returns-clause-ok c =
    learned_taken (state_of c.args.state.now) c.add.new.state c.settle.new.self c.in_ok-nogood.nogood c.args.lits.now c.in_ok-add.ensures.ok c.in_ok-nogood.ensures
    c.settle.ensures
