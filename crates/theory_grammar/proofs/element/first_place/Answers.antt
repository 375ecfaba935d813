use Rattle.theory_grammar.proofs.ElementReads.{first_read}
use Rattle.std.proofs.Common.{subst}
use Rattle.theory_grammar.specs.State.{Reads}
use Rattle.theory_grammar.specs.TheoryState.{judged_class}
use Rattle.theory_grammar.proofs.element.first_place.Goals as goal

pub returns-in-Ok : goal.returns-in-Ok
returns-in-Ok c =
    first_read c.args.text.now c.args.tokens.now c.args.name c.args.at c.args.seen.now c.judged_term.new.seen c.fail_at.new.self c.in-Ok.read.term c.in-Ok.read.shape c.in-Ok.read.next c.lacks_difference.result
    (subst (λ free. Reads (judged_class free) c.args.text.now c.args.tokens.now c.args.at c.args.seen.now c.judged_term.new.seen c.in-Ok.read.term c.in-Ok.read.shape c.in-Ok.read.next) c.is_dom.ensures c.in-Ok.ensures) c.lacks_difference.ensures
    c.fail_at.ensures
