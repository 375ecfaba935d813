use Rattle.std.proofs.Common.{◌∙◌, ap, sym, subst, w32, FitsSigned, rules, pos}
use Rattle.std.specs.Str.Parse.{digits_value}
use Rattle.std.proofs.lemmas.Int.{to_z-of_z}
use Rattle.lexer.specs.declared.token.TokenKind.TheVariants.{Num}
use Rattle.grammar.specs.Spelled.{IsSpelled}
use Rattle.grammar.proofs.SpelledLemmas.{digits_there}
use Rattle.theory_grammar.specs.State.{Reads, unary_class}
use Rattle.theory_grammar.proofs.Leaves.{number_read}
use Rattle.theory_grammar.proofs.leaf.number.Goals as goal

pub number_of-requires : goal.number_of-requires
number_of-requires c =
    subst (IsSpelled Num) (sym c.bytes_at.ensures) (digits_there c.args.text.now c.args.tokens.now c.args.at _ _ c.requires.tokens c.requires.at c.requires.word)

pub returns : goal.returns
returns c =
    let fits : FitsSigned w32 c.number_of.result = search rules in
    subst (λ r. Reads (unary_class c.args.depth) c.args.text.now c.args.tokens.now c.args.at c.args.seen.now c.args.seen.now r.term r.shape r.next) (sym c.other.ensures)
    (number_read c.args.depth c.args.text.now c.args.tokens.now c.args.at c.requires.at c.args.seen.now _ _ c.requires.word
    (to_z-of_z w32 c.number_of.result fits ∙ c.number_of.ensures ∙ ap (λ bytes. pos (digits_value 10 bytes)) c.bytes_at.ensures))
