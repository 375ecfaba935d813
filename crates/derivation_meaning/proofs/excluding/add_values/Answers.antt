use Rattle.std.proofs.Common.{◌+◌, ◌++◌, ◌∙◌, sym, ap}
use Rattle.std.specs.List.{flat_map, range_with_len}
use Rattle.std.proofs.lemmas.List.{append_assoc}
use Rattle.derivation_meaning.specs.Lines.{value_lits}
use Rattle.derivation_meaning.proofs.ExcludingLemmas.{values_next}
use Rattle.derivation_meaning.proofs.excluding.add_values.Goals as goal

pub loop-at-preserved : goal.loop-at-preserved
loop-at-preserved c =
    c.in_ok-add_value.ensures
    ∙ ap (λ lits. lits ++ value_lits c.args.answer.now (c.loop-at.at + 1)) c.loop-at.invariant
    ∙ append_assoc c.args.lits.now (flat_map (value_lits c.args.answer.now) (range_with_len 1 c.loop-at.at)) (value_lits c.args.answer.now (c.loop-at.at + 1))
    ∙ ap (λ more. c.args.lits.now ++ more) (sym (values_next (value_lits c.args.answer.now) c.loop-at.at))
