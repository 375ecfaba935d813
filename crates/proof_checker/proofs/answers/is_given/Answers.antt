use Rattle.std.proofs.Common.{◌≡◌, true, false, refl, sym, ◌∙◌, true≢false, rules}
use Rattle.proof_checker.proofs.AnswerLineLemmas.{given_later, given_here}
use Rattle.proof_checker.proofs.answers.is_given.Goals as goal

pub loop-one-preserved : goal.loop-one-preserved
loop-one-preserved c =
    let no : c.is_same.result ≡ false = search rules in
    given_later c.args.answers.now c.loop-one.one-index c.one-item.result c.args.answer.now c.loop-one-test.true c.one-item.is
    (λ same. true≢false (sym (c.is_same.ensures.1 same) ∙ no)) c.loop-one.invariant

pub returns-then-is_same : goal.returns-then-is_same
returns-then-is_same c =
    let yes : c.is_same.result ≡ true = search rules in
    (λ t. given_here c.args.answers.now c.loop-one.one-index c.one-item.result c.args.answer.now c.loop-one-test.true c.one-item.is (c.is_same.ensures.0 yes), λ m. refl)
