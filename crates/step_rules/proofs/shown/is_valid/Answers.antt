use Rattle.std.proofs.Common.{◌∙◌, ap}
use Rattle.linear_normal.specs.declared.numbered.Numbered.{Numbered}
use Rattle.linear_normal.specs.Steps as spec
use Rattle.step_rules.proofs.SizedLemmas.{sized_by}
use Rattle.step_rules.proofs.shown.is_valid.Goals as goal

pub is_valid_sized-requires : goal.is_valid_sized-requires
is_valid_sized-requires c = record { sorted = c.requires.nogood.rises; sized = sized_by c.args.program.now c.args.numbered.now c.requires.numbered }

pub returns : goal.returns
returns c =
    c.is_valid_sized.ensures
    ∙ ap (λ (numbered : Numbered). spec.is_valid c.args.program.now numbered c.args.cost c.args.lits.now c.args.step.now) c.requires.numbered
