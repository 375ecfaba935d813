use Rattle.std.proofs.Common.{◌≡◌, false, rules}
use Rattle.std.proofs.lemmas.Bool.{iff_false}
use Rattle.proof_checker.specs.inner.View.{state_of}
use Rattle.proof_checker.proofs.JudgeLemmas.{ruled_refused}
use Rattle.proof_checker.proofs.judging.judge_rule.Goals as goal

pub returns-else-is_allowed-clause-refused : goal.returns-else-is_allowed-clause-refused
returns-else-is_allowed-clause-refused c =
    let gone : c.is_allowed.result ≡ false = search rules in
    ruled_refused c.args.program.now (state_of c.args.state.now) c.args.line.now c.requires.ruled c.requires.unclaimed (λ v. iff_false c.is_allowed.ensures gone v)
