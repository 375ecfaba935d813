use Rattle.std.proofs.Common.{ap}
use Rattle.grammar.specs.Word.{words_at}
use Rattle.grammar.specs.Reading.{unary_at, starts_next}
use Rattle.grammar.specs.TheoryReading.{is_name}
use Rattle.theory_grammar.proofs.ConditionReads.{atom_read, atom_fails}
use Rattle.theory_grammar.proofs.TermReads.{fails_along}
use Rattle.theory_grammar.proofs.condition.entered.Goals as goal

pub returns-in-Ok-enter : goal.returns-in-Ok-enter
returns-in-Ok-enter c =
    atom_read c.args.text.now c.args.tokens.now c.args.at c.args.seen.now c.named.new.seen c.enter.new.self c.in-Ok.read.term c.in-Ok.read.shape c.in-Ok.read.next _ (ap (starts_next is_name) c.requires.word) c.in-Ok.ensures c.len-before.ensures c.in-Ok-enter.ensures

pub returns-in-Err : goal.returns-in-Err
returns-in-Err c =
    fails_along c.args.text.now c.args.tokens.now c.in-Err.stop (unary_at 64 (words_at c.args.text.now c.args.tokens.now c.args.at)) _
    (λ f h. atom_fails c.args.text.now c.args.tokens.now c.args.at f (ap (starts_next is_name) c.requires.word) h) c.in-Err.ensures
