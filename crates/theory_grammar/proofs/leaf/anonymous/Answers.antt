use Rattle.std.proofs.Common.{sym, subst}
use Rattle.theory_grammar.specs.State.{Reads, unary_class}
use Rattle.theory_grammar.proofs.Leaves.{anonymous_read}
use Rattle.theory_grammar.proofs.leaf.anonymous.Goals as goal

pub returns-in-Ok : goal.returns-in-Ok
returns-in-Ok c =
    subst (λ r. Reads (unary_class c.args.depth) c.args.text.now c.args.tokens.now c.args.at c.args.seen.now c.see.new.self r.term r.shape r.next) (sym c.other.ensures)
    (anonymous_read c.args.depth c.args.text.now c.args.tokens.now c.args.at c.requires.at c.args.seen.now c.see.new.self c.requires.word c.in-Ok.ensures)
