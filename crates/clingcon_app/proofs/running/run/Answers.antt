use Rattle.std.proofs.Common.{◌≡◌, ℕ, ◌<◌, ◌^◌, ◌++◌, List, length, true, false, refl, sym, ◌∙◌, ap, subst, rules}
use Rattle.clingcon_app.specs.Words.{are_files, names_of}
use Rattle.clingcon_app.specs.Texts.{AreTexts, AreRefused, IsTooLarge, too_large_line}
use Rattle.clingcon_app.specs.Printed.{PrintTexts, AreOther, not_built, satisfiable}
use Rattle.clingcon_app.proofs.TextLemmas.{length-told, few-names}
use Rattle.clingcon_app.proofs.OutcomeLemmas.{printed-unnamed, printed-unbuilt, printed-answer, printed-refused, printed-large, ended-by, cut-by, cut-maybe, cut-answer}
use Rattle.clingcon_app.proofs.running.run.Goals as goal

pub returns-then-not-are_files-clause-front : goal.returns-then-not-are_files-clause-front
returns-then-not-are_files-clause-front g c = λ is.
    let unnamed : are_files c.args.words.now ≡ false = search rules in
    cut-by 71 (g.F.Files.tells c.args.files.now) (g.F.Files.tells c.args.files.now).taken c.args.words.now (g.O.Sink.tells c.args.out.now) (g.O.Sink.tells c.refuse.new.out) not_built c.refuse.result.answers
    (printed-unnamed (g.F.Files.tells c.args.files.now) (g.F.Files.tells c.args.files.now).taken c.args.words.now not_built unnamed refl) refl (c.refuse.ensures.front is) c.refuse.ensures.answers

pub name_at-requires : goal.name_at-requires
name_at-requires g c = let below : c.in-Err-TooLarge.at < length (names_of c.args.words.now) = search rules in below

pub returns-in-Err-TooLarge-clause-front : goal.returns-in-Err-TooLarge-clause-front
returns-in-Err-TooLarge-clause-front g c = λ is.
    let named : are_files c.args.words.now ≡ true = search rules in
    let large : IsTooLarge (g.F.Files.tells c.args.files.now) (names_of c.args.words.now) (g.F.Files.tells c.read_texts.new.files).taken c.name_at.result.now = search rules in
    cut-maybe 70 (g.F.Files.tells c.args.files.now) (g.F.Files.tells c.read_texts.new.files).taken c.args.words.now (g.O.Sink.tells c.args.out.now) (g.O.Sink.tells c.refuse_size.new.out) (too_large_line c.name_at.result.now) c.refuse_size.result.answers
    (printed-large (g.F.Files.tells c.args.files.now) (g.F.Files.tells c.read_texts.new.files).taken c.args.words.now c.name_at.result.now named large) refl (c.refuse_size.ensures.front is) c.refuse_size.ensures.answers

pub verdict_of-requires-clause-named : goal.verdict_of-requires-clause-named
verdict_of-requires-clause-named g c =
    ap length c.items.ensures ∙ length-told (g.F.Files.tells c.args.files.now) (names_of c.args.words.now) c.in-Ok.texts c.in-Ok.ensures.texts.told

pub verdict_of-requires-clause-few : goal.verdict_of-requires-clause-few
verdict_of-requires-clause-few g c =
    let named : are_files c.args.words.now ≡ true = search rules in
    subst (λ (n : ℕ). n < 2 ^ 32)
    (sym (ap length c.items.ensures ∙ length-told (g.F.Files.tells c.args.files.now) (names_of c.args.words.now) c.in-Ok.texts c.in-Ok.ensures.texts.told))
    (few-names c.args.words.now named)

pub returns-in-Ok-Answer-clause-ended : goal.returns-in-Ok-Answer-clause-ended
returns-in-Ok-Answer-clause-ended g c =
    let named : are_files c.args.words.now ≡ true = search rules in
    let prints : PrintTexts c.items.result.now (c.in-Ok-Answer.block ++ satisfiable) = search rules in
    ended-by c.print_answer.result.status 10 (g.F.Files.tells c.args.files.now) (g.F.Files.tells c.read_texts.new.files).taken c.args.words.now (g.O.Sink.tells c.args.out.now) (g.O.Sink.tells c.print_answer.new.out)
    (c.items-in-Ok-Answer.result.now ++ satisfiable)
    (printed-answer (g.F.Files.tells c.args.files.now) (g.F.Files.tells c.read_texts.new.files).taken c.args.words.now c.items.result.now (c.items-in-Ok-Answer.result.now ++ satisfiable) named
    (subst (λ (l : List (List ℕ)). AreTexts (g.F.Files.tells c.args.files.now) (names_of c.args.words.now) l) (sym c.items.ensures) c.in-Ok.ensures.texts)
    (subst (λ (l : List ℕ). PrintTexts c.items.result.now (l ++ satisfiable)) (sym c.items-in-Ok-Answer.ensures) prints))
    c.print_answer.ensures.statuses c.print_answer.ensures.whole

pub returns-in-Ok-Answer-clause-front : goal.returns-in-Ok-Answer-clause-front
returns-in-Ok-Answer-clause-front g c = λ is.
    let named : are_files c.args.words.now ≡ true = search rules in
    let prints : PrintTexts c.items.result.now (c.in-Ok-Answer.block ++ satisfiable) = search rules in
    cut-answer (g.F.Files.tells c.args.files.now) (g.F.Files.tells c.read_texts.new.files).taken c.args.words.now (g.O.Sink.tells c.args.out.now) (g.O.Sink.tells c.print_answer.new.out)
    (c.items-in-Ok-Answer.result.now ++ satisfiable) c.print_answer.result.answers
    (printed-answer (g.F.Files.tells c.args.files.now) (g.F.Files.tells c.read_texts.new.files).taken c.args.words.now c.items.result.now (c.items-in-Ok-Answer.result.now ++ satisfiable) named
    (subst (λ (l : List (List ℕ)). AreTexts (g.F.Files.tells c.args.files.now) (names_of c.args.words.now) l) (sym c.items.ensures) c.in-Ok.ensures.texts)
    (subst (λ (l : List ℕ). PrintTexts c.items.result.now (l ++ satisfiable)) (sym c.items-in-Ok-Answer.ensures) prints))
    (c.print_answer.ensures.front is)

pub returns-in-Ok-Refused-clause-front : goal.returns-in-Ok-Refused-clause-front
returns-in-Ok-Refused-clause-front g c = λ is.
    let named : are_files c.args.words.now ≡ true = search rules in
    let refused : AreRefused (names_of c.args.words.now) c.items.result.now c.in-Ok-Refused.line = search rules in
    cut-by 65 (g.F.Files.tells c.args.files.now) (g.F.Files.tells c.read_texts.new.files).taken c.args.words.now (g.O.Sink.tells c.args.out.now) (g.O.Sink.tells c.refuse-in-Ok-Refused.new.out)
    c.items-in-Ok-Refused.result.now c.refuse-in-Ok-Refused.result.answers
    (printed-refused (g.F.Files.tells c.args.files.now) (g.F.Files.tells c.read_texts.new.files).taken c.args.words.now c.items.result.now c.items-in-Ok-Refused.result.now named
    (subst (λ (l : List (List ℕ)). AreTexts (g.F.Files.tells c.args.files.now) (names_of c.args.words.now) l) (sym c.items.ensures) c.in-Ok.ensures.texts)
    (subst (λ (l : List ℕ). AreRefused (names_of c.args.words.now) c.items.result.now l) (sym c.items-in-Ok-Refused.ensures) refused)) refl
    (c.refuse-in-Ok-Refused.ensures.front is) c.refuse-in-Ok-Refused.ensures.answers

pub returns-in-Ok-NotBuilt-clause-front : goal.returns-in-Ok-NotBuilt-clause-front
returns-in-Ok-NotBuilt-clause-front g c = λ is.
    let named : are_files c.args.words.now ≡ true = search rules in
    let other : AreOther c.items.result.now = search rules in
    cut-by 71 (g.F.Files.tells c.args.files.now) (g.F.Files.tells c.read_texts.new.files).taken c.args.words.now (g.O.Sink.tells c.args.out.now) (g.O.Sink.tells c.refuse-in-Ok-NotBuilt.new.out) not_built c.refuse-in-Ok-NotBuilt.result.answers
    (printed-unbuilt (g.F.Files.tells c.args.files.now) (g.F.Files.tells c.read_texts.new.files).taken c.args.words.now c.items.result.now not_built named
    (subst (λ (l : List (List ℕ)). AreTexts (g.F.Files.tells c.args.files.now) (names_of c.args.words.now) l) (sym c.items.ensures) c.in-Ok.ensures.texts)
    other refl) refl
    (c.refuse-in-Ok-NotBuilt.ensures.front is) c.refuse-in-Ok-NotBuilt.ensures.answers
