use Rattle.std.proofs.Common.{◌∙◌, ◌+◌, ◌++◌, ◌∷◌, [], ap, sym, append_assoc}
use Rattle.unfounded_sets.specs.inner.Open.{fact, facts_of}
use Rattle.unfounded_sets.proofs.OpenLemmas.{facts_more, facts_same}
use Rattle.unfounded_sets.proofs.founded.add_facts.Goals as goal

pub loop-at-preserved-then-not-is_true : goal.loop-at-preserved-then-not-is_true
loop-at-preserved-then-not-is_true c =
    c.loop-at.invariant ∙ ap (λ more. c.args.rules.now ++ more) (sym (facts_same c.args.trail.now c.loop-at.at (sym c.is_true.ensures ∙ c.if-not-is_true.true)))

pub loop-at-preserved : goal.loop-at-preserved
loop-at-preserved c =
    c.in_ok-push.ensures.ok ∙ ap (λ rules. rules ++ fact (c.loop-at.at + 1) ∷ []) c.loop-at.invariant
    ∙ append_assoc c.args.rules.now (facts_of c.args.trail.now c.loop-at.at) (fact (c.loop-at.at + 1) ∷ [])
    ∙ ap (λ more. c.args.rules.now ++ more) (sym (facts_more c.args.trail.now c.loop-at.at (sym c.is_true.ensures ∙ c.if-not-is_true.false)))
