use Rattle.std.proofs.Common.{refl, subst}
use Rattle.grammar.specs.Word.{words_at}
use Rattle.grammar.specs.Reading.{level}
use Rattle.grammar.specs.TheoryReading.{given_with}
use Rattle.theory_grammar.specs.TheoryState.{Takes, given_class}
use Rattle.theory_grammar.proofs.ElementReads.{element_read, given_fails}
use Rattle.theory_grammar.proofs.TermReads.{fails_along}
use Rattle.theory_grammar.proofs.element.element.Goals as goal

pub returns-in-Ok-given : goal.returns-in-Ok-given
returns-in-Ok-given c =
    element_read c.args.text.now c.args.tokens.now c.args.name c.args.at c.args.seen.now c.first_place.new.seen c.duration.new.seen c.places.new.seen c.given.new.seen c.in-Ok.first.term c.in-Ok.first.shape c.in-Ok-duration.read.0 c.in-Ok-places.read.0
    c.in-Ok-given.condition _ c.in-Ok.first.next c.in-Ok-duration.read.1 c.in-Ok-places.read.1 c.in-Ok-given.next c.in-Ok.ensures c.in-Ok-duration.ensures c.in-Ok-places.ensures
    (subst (λ b. Takes (given_class b) c.args.text.now c.args.tokens.now c.in-Ok-places.read.1 c.places.new.seen c.given.new.seen c.in-Ok-given.condition c.in-Ok-given.next) c.is_diff.ensures c.in-Ok-given.ensures) refl

pub returns-in-Err-given : goal.returns-in-Err-given
returns-in-Err-given c =
    fails_along c.args.text.now c.args.tokens.now c.in-Err-given.stop (given_with (level 64) (words_at c.args.text.now c.args.tokens.now c.in-Ok-places.read.1)) _
    (λ f h. given_fails c.args.text.now c.args.tokens.now c.args.at c.in-Ok.first.next c.in-Ok-duration.read.1 c.in-Ok-places.read.1 c.in-Ok.ensures.form c.in-Ok-duration.ensures.form c.in-Ok-places.ensures.form f
    c.in-Ok.ensures.is c.in-Ok-duration.ensures.is c.in-Ok-places.ensures.is h) c.in-Err-given.ensures
