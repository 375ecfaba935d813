use Rattle.std.proofs.Common.{map}
use Rattle.ground_model.specs.Members.{IsMember}
use Rattle.program_meaning.specs.Said.{value_in}
use Rattle.theory_ground.proofs.PlanLemmas.{name_is, places_front, whole_gathered}
use Rattle.theory_ground.proofs.StopLemmas.{atom_stop}
use Rattle.theory_ground.proofs.collecting.with_elements.Goals as goal

pub collected_atom-requires-clause-places : goal.collected_atom-requires-clause-places
collected_atom-requires-clause-places c = places_front c.args.symbols.now c.judge_right.new.symbols c.in-Ok.ensures.kept c.args.gathered.places c.requires.places

pub returns-in-Ok-collected_atom-clause-collected : goal.returns-in-Ok-collected_atom-clause-collected
returns-in-Ok-collected_atom-clause-collected c = λ atoms rule theory is each whole.
    c.in-Ok-collected_atom.ensures.collects atoms rule (map (value_in c.args.symbols.now) c.args.values.now) theory (name_is rule theory c.args.plan.now is)
    (whole_gathered c.args.symbols.now c.judge_right.new.symbols c.in-Ok.ensures.kept (IsMember atoms) rule (map (value_in c.args.symbols.now) c.args.values.now) theory c.args.gathered c.in-Ok.guard whole
    (c.in-Ok.ensures.judged rule theory is each))

pub returns-in-Err-collected_atom-clause-stop : goal.returns-in-Err-collected_atom-clause-stop
returns-in-Err-collected_atom-clause-stop c = λ atoms most rule theory is each whole.
    atom_stop c.judge_right.new.symbols (IsMember atoms) rule (map (value_in c.args.symbols.now) c.args.values.now) theory most c.in-Err-collected_atom.stop c.stop_of_atom.result c.stop_of_atom.ensures
    (c.in-Err-collected_atom.ensures.collects atoms rule (map (value_in c.args.symbols.now) c.args.values.now) theory (name_is rule theory c.args.plan.now is)
    (whole_gathered c.args.symbols.now c.judge_right.new.symbols c.in-Ok.ensures.kept (IsMember atoms) rule (map (value_in c.args.symbols.now) c.args.values.now) theory c.args.gathered c.in-Ok.guard whole
    (c.in-Ok.ensures.judged rule theory is each)))
