use Rattle.std.proofs.Common.{◌≡◌, ◌==◌, false, length, sym, ◌∙◌, true≢false, rules}
use Rattle.proof_checker.proofs.AnswerLineLemmas.{names_sized}
use Rattle.proof_checker.proofs.answers.names_variables.Goals as goal

pub returns-else-values-count : goal.returns-else-values-count
returns-else-values-count c =
    let no : (length c.args.values.now == c.args.count) ≡ false = search rules in
    (λ yes. absurd (true≢false (sym yes ∙ no)), λ names. names_sized c.args.count c.args.values.now names)
