use Rattle.std.proofs.Common.{◌≡◌, ◌+◌, ◌∙◌, [], sym, ap, drop, length, None, false, true, true≢false, arith, rules}
use Rattle.std.proofs.Math.ListN.{drop_of_length-le}
use Rattle.derivation_meaning.specs.State.{held_from}
use Rattle.proof_checker.specs.inner.View.{state_of}
use Rattle.proof_checker.proofs.ClaimedLemmas.{line_next, first_valid, first_after, kept_valid, kept_after, refused, claimed}
use Rattle.proof_checker.proofs.acceptance.claim_after.Goals as goal

pub loop-line-init : goal.loop-line-init
loop-line-init c =
    let first = c.in_ok-state.ensures ∙ ap (λ input. record { next = 1 + length input; live = held_from 1 input; answers = []; best = None; claim = None }) c.requires.input in
    record {
      valid = first_valid c.args.program.now c.args.lines.now (state_of c.in_ok-state.state) first;
      after = first_after c.args.program.now c.args.lines.now (state_of c.in_ok-state.state) first;
    }

pub loop-line-preserved : goal.loop-line-preserved
loop-line-preserved c =
    let yes : c.in_ok-is_valid_line.field-0 ≡ true = search rules in
    let line = c.line-item.result in
    let now = state_of c.loop-line.state in
    let next = line_next c.args.lines.now c.loop-line.line-index line c.loop-line-test.true c.line-item.is in
    record {
      valid = kept_valid c.args.program.now c.args.lines.now now line _ _ next (state_of c.advance.new.state) (c.in_ok-is_valid_line.ensures.0 yes) c.in_ok-advance.ensures.ok c.loop-line.invariant.valid;
      after = kept_after c.args.program.now c.args.lines.now now line _ _ next (state_of c.advance.new.state) c.in_ok-advance.ensures.ok c.loop-line.invariant.after;
    }

pub returns-then-not-branch : goal.returns-then-not-branch
returns-then-not-branch c =
    let no : c.in_ok-is_valid_line.field-0 ≡ false = search rules in
    let line = c.line-item.result in
    let next = line_next c.args.lines.now c.loop-line.line-index line c.loop-line-test.true c.line-item.is in
    refused c.args.program.now c.args.lines.now (state_of c.loop-line.state) line _ _ next
    (λ v. true≢false (sym (c.in_ok-is_valid_line.ensures.1 v) ∙ no)) c.loop-line.invariant.valid

pub returns : goal.returns
returns c =
    claimed c.args.program.now c.args.lines.now (drop c.loop-line.line-index c.args.lines.now) (state_of c.loop-line.state) (drop_of_length-le c.args.lines.now (omega (arith, c.loop-line-test.false)))
    c.loop-line.invariant.valid c.loop-line.invariant.after
