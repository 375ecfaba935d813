use Rattle.std.proofs.Common.{sym, ◌∙◌, ap}
use Rattle.literals.specs.declared.reason.Step.TheVariants as s
use Rattle.linear_normal.specs.declared.numbered.Numbered.{Numbered}
use Rattle.linear_normal.specs.Steps.{is_valid}
use Rattle.derivation_meaning.specs.State.{last_cost}
use Rattle.proof_checker.specs.inner.View.{state_of}
use Rattle.proof_checker.proofs.lines.is_loop_line.Goals as goal

pub returns : goal.returns
returns c =
    let cost = last_cost (state_of c.args.state.now) in
    let e = c.is_valid_loop.ensures cost ∙ ap (λ (n : Numbered). is_valid c.args.program.now n cost c.args.lits.now (s.Loop c.args.set.now)) c.requires in
    (λ t. sym e ∙ t, λ shown. e ∙ shown)
