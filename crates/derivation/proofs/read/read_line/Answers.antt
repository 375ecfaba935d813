use Rattle.std.proofs.Common.{sym, ◌∙◌, ap}
use Rattle.std.proofs.lemmas.Bool.{iff_false}
use Rattle.derivation.specs.Spelling.{spelling}
use Rattle.derivation.proofs.LineLaws.{none_read, only_read, no_line}
use Rattle.derivation.proofs.NogoodLaws.{line_nogood}
use Rattle.derivation.proofs.read.read_line.Goals as goal

pub returns-in_default-clause-bad : goal.returns-in_default-clause-bad
returns-in_default-clause-bad c = λ _ other ok e. none_read c.args.bytes.now (sym c.in_default.is ∙ c.in_ok-line.ensures) other ok e

pub returns-then-not-is_line-clause-bad : goal.returns-then-not-is_line-clause-bad
returns-then-not-is_line-clause-bad c =
    λ _ other ok e. no_line c.args.bytes.now c.in-Some.line (sym c.in-Some.is ∙ c.in_ok-line.ensures) c.if-not-is_line.ensures other ok e

pub returns-then-not-branch-clause-bad : goal.returns-then-not-branch-clause-bad
returns-then-not-branch-clause-bad c =
    λ _ other ok e. iff_false c.in_ok-is_spelling.ensures c.if-not-branch.true
    (e ∙ ap spelling (only_read c.args.bytes.now c.in-Some.line (sym c.in-Some.is ∙ c.in_ok-line.ensures) other ok e))

pub returns-clause-only : goal.returns-clause-only
returns-clause-only c = λ other ok e. only_read c.args.bytes.now c.in-Some.line (sym c.in-Some.is ∙ c.in_ok-line.ensures) other ok e

pub returns-clause-nogood : goal.returns-clause-nogood
returns-clause-nogood c = line_nogood c.in-Some.line (sym c.if-not-is_line.ensures)
