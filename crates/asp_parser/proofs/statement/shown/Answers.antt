use Rattle.std.proofs.Common.{◌+◌, ◌∙◌, ap, sym, subst, arith, w32, FitsSigned, rules, pos, nat_abs}
use Rattle.std.specs.Str.Parse.{digits_value}
use Rattle.std.proofs.lemmas.Int.{to_z-of_z}
use Rattle.lexer.specs.declared.token.TokenKind.TheVariants.{Num}
use Rattle.grammar.specs.declared.mark.Mark.TheVariants as m
use Rattle.grammar.specs.Spelled.{IsSpelled}
use Rattle.grammar.proofs.SpelledLemmas.{digits_there}
use Rattle.theory_grammar.proofs.Loops.{mark_within}
use Rattle.asp_parser.proofs.ShowReads.{show_open, show_take}
use Rattle.asp_parser.proofs.statement.shown.Goals as goal

pub number_of-arity-requires : goal.number_of-arity-requires
number_of-arity-requires c =
    subst (IsSpelled Num) (sym c.bytes_at.ensures) (digits_there c.args.text.now c.args.tokens.now (c.args.at + 3) _ _ c.requires.tokens c.requires.at c.requires.word)

pub returns-then-not-is_mark : goal.returns-then-not-is_mark
returns-then-not-is_mark c = λ kept. (show_open c.args.text.now c.args.tokens.now c.args.at c.requires.begins _ c.requires.name c.requires.divide _ c.requires.word (sym c.if-not-is_mark.ensures.is), omega (arith, c.requires.at))

pub returns-in-Ok : goal.returns-in-Ok
returns-in-Ok c = λ kept.
    let fits : FitsSigned w32 c.number_of-arity.result = search rules in
    show_take c.args.text.now c.args.tokens.now c.args.at c.requires.begins _ c.requires.name c.requires.divide _ c.requires.word kept _ _ (c.in-Ok.ensures ∙ c.bytes_at-2.ensures)
    (ap nat_abs (to_z-of_z w32 c.number_of-arity.result fits ∙ c.number_of-arity.ensures ∙ ap (λ bytes. pos (digits_value 10 bytes)) c.bytes_at.ensures)) (sym c.if-not-is_mark.ensures.is)
    (omega (arith, mark_within c.args.text.now c.args.tokens.now m.Dot (c.args.at + 4) (sym c.if-not-is_mark.ensures.is)))
