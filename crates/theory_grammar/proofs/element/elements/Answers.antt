use Rattle.std.proofs.Common.{◌∙◌, sym, ap}
use Rattle.grammar.specs.Check.{places_where}
use Rattle.theory_grammar.specs.State.{least}
use Rattle.theory_grammar.proofs.MissingReads.{elements_none, elements_some}
use Rattle.theory_grammar.proofs.element.elements.Goals as goal

pub returns-then-not-begins_term : goal.returns-then-not-begins_term
returns-then-not-begins_term c =
    elements_none c.args.text.now c.args.tokens.now c.args.name c.args.at c.args.seen.now c.fail_at.new.self _ (sym c.if-not-begins_term.ensures) c.requires.at
    (c.fail_at.ensures ∙ ap (λ b. record c.args.seen.now { bad = least c.args.seen.now.bad (places_where b c.args.at) }) c.is_diff.ensures) c.new.ensures

pub returns : goal.returns
returns c =
    elements_some c.args.text.now c.args.tokens.now c.args.name c.args.at c.args.seen.now c.all_elements.new.seen c.all_elements.result (sym c.if-not-begins_term.ensures) c.all_elements.ensures
