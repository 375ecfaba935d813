use Rattle.std.proofs.Common.{false, refl, sym, subst}
use Rattle.grammar.specs.Word.{words_at}
use Rattle.grammar.specs.Reading.{level}
use Rattle.grammar.specs.TheoryReading.{atom_with, given_with}
use Rattle.theory_grammar.specs.TheoryState.{Takes, given_class}
use Rattle.theory_grammar.proofs.TermReads.{fails_along}
use Rattle.asp_parser.proofs.ChoiceReads.{chosen_take, chosen_atom_fails, chosen_given_fails}
use Rattle.asp_parser.proofs.choice.chosen.Goals as goal

pub returns-in-Ok-listed : goal.returns-in-Ok-listed
returns-in-Ok-listed c =
    chosen_take c.args.text.now c.args.tokens.now c.args.at c.args.kept.now c.atom.new.seen c.given.new.seen c.in-Ok.read.0 c.in-Ok-listed.condition _ c.in-Ok.read.1 c.in-Ok-given.next c.in-Ok.ensures
    (subst (λ z. Takes (given_class false) c.args.text.now c.args.tokens.now c.in-Ok.read.1 c.atom.new.seen c.given.new.seen z c.in-Ok-given.next) (sym c.in-Ok-listed.ensures) c.in-Ok-given.ensures) refl

pub returns-in-Err : goal.returns-in-Err
returns-in-Err c =
    fails_along c.args.text.now c.args.tokens.now c.in-Err.stop (atom_with (level 64) (words_at c.args.text.now c.args.tokens.now c.args.at)) _ (λ f h. chosen_atom_fails c.args.text.now c.args.tokens.now c.args.at f h) c.in-Err.ensures

pub returns-in-Err-given : goal.returns-in-Err-given
returns-in-Err-given c =
    fails_along c.args.text.now c.args.tokens.now c.in-Err-given.stop (given_with (level 64) (words_at c.args.text.now c.args.tokens.now c.in-Ok.read.1)) _
    (λ f h. chosen_given_fails c.args.text.now c.args.tokens.now c.args.at c.in-Ok.read.1 c.args.kept.now.seen c.atom.new.seen c.in-Ok.read.0 f c.in-Ok.ensures h) c.in-Err-given.ensures
