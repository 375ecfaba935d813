use Rattle.std.proofs.Common.{map}
use Rattle.ground_model.specs.Members.{IsMember}
use Rattle.program_meaning.specs.Said.{value_in}
use Rattle.row_tests.specs.Judged.{atoms_in}
use Rattle.syntax_tree.proofs.Holding.{ok_along}
use Rattle.theory_ground.proofs.StopLemmas.{err_along}
use Rattle.instance_atoms.proofs.StepLemmas.{step_atom, step_stop, passed}
use Rattle.instance_atoms.proofs.collecting.with_plan.Goals as goal

pub returns-in-Ok-clause-more : goal.returns-in-Ok-clause-more
returns-in-Ok-clause-more c =
    ok_along c.with_atom.result _ _ c.with_atom.ensures.more
    (λ next w rule theory is each done h.
    step_atom c.args.symbols.now c.collect.new.symbols c.in-Ok.ensures.kept (IsMember (atoms_in c.args.symbols.now c.args.index.now)) rule (map (value_in c.args.symbols.now) c.args.values.now) done theory
    c.args.step next c.in-Ok.atom h (c.in-Ok.ensures.collected rule theory is each) c.in-Ok.ensures.known w)

pub returns-in-Err-clause-more : goal.returns-in-Err-clause-more
returns-in-Err-clause-more c =
    ok_along c.with_stop.result _ _ c.with_stop.ensures.more
    (λ next w rule theory is each done h.
    step_stop c.args.symbols.now c.collect.new.symbols c.in-Err.ensures.kept (IsMember (atoms_in c.args.symbols.now c.args.index.now)) rule (map (value_in c.args.symbols.now) c.args.values.now) done theory
    c.args.most c.args.step next c.in-Err.stop h (c.in-Err.ensures.stop rule theory is each) w)

pub returns-in-Err-clause-stop : goal.returns-in-Err-clause-stop
returns-in-Err-clause-stop c =
    err_along c.with_stop.result _ _ c.with_stop.ensures.stop
    (λ outer w rule theory is each.
    passed (IsMember (atoms_in c.args.symbols.now c.args.index.now)) rule (map (value_in c.args.symbols.now) c.args.values.now) theory c.args.most c.in-Err.stop outer
    (c.in-Err.ensures.stop rule theory is each) w)
