use Rattle.std.proofs.Common.{◌∙◌, ap, sym, subst}
use Rattle.grammar.specs.Word.{string_content}
use Rattle.theory_grammar.specs.State.{Reads, unary_class}
use Rattle.theory_grammar.proofs.Leaves.{string_read}
use Rattle.theory_grammar.proofs.leaf.string.Goals as goal

pub returns-in-Ok : goal.returns-in-Ok
returns-in-Ok c =
    subst (λ r. Reads (unary_class c.args.depth) c.args.text.now c.args.tokens.now c.args.at c.args.seen.now c.args.seen.now r.term r.shape r.next) (sym c.other.ensures)
    (string_read c.args.depth c.args.text.now c.args.tokens.now c.args.at c.requires.at c.args.seen.now _ c.in-Ok.content c.requires.word (c.in-Ok.ensures ∙ ap string_content c.bytes_at.ensures))
