use Rattle.std.proofs.Common.{◌∙◌, ◌++◌, ap}
use Rattle.unfounded_sets.specs.inner.Outer.{of_parts}
use Rattle.unfounded_sets.specs.inner.Open.{facts_of, open_rules}
use Rattle.unfounded_sets.proofs.FoundedLemmas.{rules_below}
use Rattle.unfounded_sets.proofs.founded.given.Goals as goal

pub least_model-requires : goal.least_model-requires
least_model-requires c =
    rules_below (of_parts c.args.atoms c.args.bodies.now c.args.supports.now) c.args.trail.now c.requires.whole c.requires.fits c.add_open.new.rules
    (c.in_ok-add_open.ensures
    ∙ ap (λ rules. rules ++ open_rules c.args.trail.now c.args.bodies.now c.args.supports.now) (c.in_ok-add_facts.ensures ∙ ap (λ rules. rules ++ facts_of c.args.trail.now c.args.atoms) c.new-rules.ensures))
