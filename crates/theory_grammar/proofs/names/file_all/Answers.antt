use Rattle.std.proofs.Common.{◌∙◌, ◌+◌, sym, ap}
use Rattle.syntax_tree.specs.declared.rule.Name.{Name}
use Rattle.theory_grammar.specs.inner.Names.{with_number}
use Rattle.theory_grammar.proofs.NameNumbers.{filed_next}
use Rattle.theory_grammar.proofs.names.file_all.Goals as goal

pub loop-filed-preserved : goal.loop-filed-preserved
loop-filed-preserved c =
    let filed = c.loop-filed.filed in
    let entries = c.loop-filed.numbers.entries in
    let is = c.index-names-filed.is in
    filed_next c.args.names.now filed entries c.file.new.numbers.entries c.index-names-filed.result c.loop-filed-test.true is c.loop-filed.invariant
    (c.in_ok-file.ensures.ok ∙ ap (λ (name : Name). with_number entries name.text (filed + 1)) (sym is))
