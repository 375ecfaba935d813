use Rattle.std.proofs.Common.{◌∙◌, ◌++◌, ◌∷◌, ◌==◌, [], ap, sym, subst}
use Rattle.grammar.specs.Tree.{number_of}
use Rattle.theory_grammar.specs.State.{Reads, unary_class, noted, with_name}
use Rattle.theory_grammar.proofs.Leaves.{variable_read}
use Rattle.theory_grammar.proofs.leaf.variable.Goals as goal

pub returns-in-Ok : goal.returns-in-Ok
returns-in-Ok c =
    let old = c.args.seen.now in
    subst (λ r. Reads (unary_class c.args.depth) c.args.text.now c.args.tokens.now c.args.at c.args.seen.now c.number.new.self r.term r.shape r.next) (sym c.other.ensures)
    (variable_read c.args.depth c.args.text.now c.args.tokens.now c.args.at c.requires.at c.args.seen.now c.number.new.self _ c.in-Ok.number c.requires.word
    (c.in-Ok.ensures.0 ∙ ap (λ name. record old { names = with_name old.names name; places = old.places ++ noted c.args.tokens.now c.args.at (number_of old.names name == 0) ∷ [] }) c.bytes_at.ensures)
    (c.in-Ok.ensures.1 ∙ ap (number_of c.number.new.self.names) c.bytes_at.ensures))
