use Rattle.std.proofs.Common.{sym, ◌∙◌, ap, subst}
use Rattle.grammar.specs.Check.{first_of}
use Rattle.theory_grammar.specs.Kept.{place_of}
use Rattle.asp_parser.specs.StatementState.{Takes, form_class, failing_of, crowded}
use Rattle.asp_parser.specs.TextState.{fault_there, IsRefusal}
use Rattle.asp_parser.proofs.TextLemmas.{refused, room, fails_at, passes}
use Rattle.asp_parser.proofs.text.checked.Goals as goal

pub returns-in-Err : goal.returns-in-Err
returns-in-Err c =
    subst (IsRefusal c.args.text.now c.args.tokens.now c.args.at) (sym c.stopped.ensures) (refused c.args.text.now c.args.tokens.now c.args.at c.in-Err.stop c.requires.at c.in-Err.ensures)

pub returns-in-Some : goal.returns-in-Some
returns-in-Some c =
    let kept = c.form.new.kept in
    let read = subst (λ old. Takes form_class c.args.text.now c.args.tokens.now c.args.at old kept c.in-Ok.read.0 c.in-Ok.read.1) c.new-kept.ensures c.in-Ok.ensures in
    let same = c.sooner_crowded.ensures ∙ ap (λ z. first_of z (crowded c.items.result.now)) c.first.ensures ∙ ap (λ z. first_of (failing_of kept) (crowded z)) c.items.ensures in
    subst (IsRefusal c.args.text.now c.args.tokens.now c.args.at)
    (sym (c.fault_at_word.ensures ∙ ap (fault_there c.args.text.now (place_of c.args.text.now c.args.tokens.now c.in-Some.failing.at)) c.check_cause.ensures))
    (fails_at c.args.text.now c.args.tokens.now c.args.at kept c.in-Ok.read.0 c.in-Ok.read.1 read c.in-Some.failing (sym same ∙ c.in-Some.is))

pub statement-requires : goal.statement-requires
statement-requires c =
    let kept = c.form.new.kept in
    room c.args.text.now c.args.tokens.now c.args.at kept c.in-Ok.read.0 c.in-Ok.read.1
    (subst (λ old. Takes form_class c.args.text.now c.args.tokens.now c.args.at old kept c.in-Ok.read.0 c.in-Ok.read.1) c.new-kept.ensures c.in-Ok.ensures)

pub returns-in-Ok-statement : goal.returns-in-Ok-statement
returns-in-Ok-statement c =
    let kept = c.form.new.kept in
    let read = subst (λ old. Takes form_class c.args.text.now c.args.tokens.now c.args.at old kept c.in-Ok.read.0 c.in-Ok.read.1) c.new-kept.ensures c.in-Ok.ensures in
    let same = c.sooner_crowded.ensures ∙ ap (λ z. first_of z (crowded c.items.result.now)) c.first.ensures ∙ ap (λ z. first_of (failing_of kept) (crowded z)) c.items.ensures in
    passes c.args.text.now c.args.tokens.now c.args.at kept c.in-Ok.read.0 c.in-Ok.read.1 read c.in-Ok-statement.made (sym same ∙ c.in_default.is) c.in-Ok-statement.ensures

pub returns-in-Err-statement : goal.returns-in-Err-statement
returns-in-Err-statement c = tt
