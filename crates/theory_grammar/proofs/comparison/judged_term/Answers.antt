use Rattle.std.proofs.Common.{◌∙◌, ap}
use Rattle.theory_grammar.specs.State.{refused}
use Rattle.theory_grammar.proofs.PartReads.{judged_read}
use Rattle.theory_grammar.proofs.comparison.judged_term.Goals as goal

pub returns-in-Ok : goal.returns-in-Ok
returns-in-Ok c =
    judged_read c.args.text.now c.args.tokens.now c.args.free c.args.at c.args.seen.now c.term.new.seen c.refuse.new.self c.in-Ok.read.term c.in-Ok.read.shape c.in-Ok.read.next c.in-Ok.ensures
    (c.refuse.ensures ∙ ap (λ s. record c.term.new.seen { bad = refused c.term.new.seen.bad s c.args.at }) c.judged_shape.ensures)
