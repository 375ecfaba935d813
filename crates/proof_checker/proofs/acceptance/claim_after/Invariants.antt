use Rattle.std.proofs.Common.{◌≡◌, ◌↔◌, drop}
use Rattle.derivation_meaning.specs.State.{start}
use Rattle.derivation_meaning.specs.Acceptance.{AreValid, after_all}
use Rattle.proof_checker.specs.inner.View.{state_of}
use Rattle.proof_checker.proofs.acceptance.claim_after.Given as goal

abbrev pub invariant-loop-line : goal.invariant-loop-line
invariant-loop-line l = record {
  valid : AreValid l.program (state_of l.state) (drop l.line-index l.lines) ↔ AreValid l.program (start l.program) l.lines;
  after : after_all l.program (state_of l.state) (drop l.line-index l.lines) ≡ after_all l.program (start l.program) l.lines;
}
