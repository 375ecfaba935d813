use Rattle.std.proofs.Common.{◌∙◌, false, ap}
use Rattle.grammar.specs.Check.{has_one_place, places_where}
use Rattle.theory_grammar.specs.State.{least}
use Rattle.theory_grammar.specs.TheoryState.{judged_class}
use Rattle.theory_grammar.proofs.MissingReads.{more_term}
use Rattle.theory_grammar.proofs.element.place.Goals as goal

pub returns : goal.returns
returns c =
    more_term c.args.text.now c.args.tokens.now (places_where (has_one_place c.args.name)) (judged_class false) c.args.at c.args.seen.now c.fail_at.new.self c.judged_term.new.seen c.judged_term.result
    (c.fail_at.ensures ∙ ap (λ b. record c.args.seen.now { bad = least c.args.seen.now.bad (places_where b c.args.at) }) c.has_one_place.ensures) c.judged_term.ensures
