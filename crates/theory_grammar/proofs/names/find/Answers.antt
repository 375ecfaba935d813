use Rattle.syntax_tree.proofs.Holding.{ok_along}
use Rattle.theory_grammar.proofs.NameNumbers.{filed_all}
use Rattle.theory_grammar.proofs.names.find.Goals as goal

pub returns-clause-value : goal.returns-clause-value
returns-clause-value c =
    ok_along c.filed_number.result _ _ c.filed_number.ensures
    (λ number is. filed_all c.args.names.now c.file_all.new.filed c.file_all.new.numbers.entries c.args.name.now number c.in_ok-file_all.ensures.filed c.in_ok-file_all.ensures.all is)
