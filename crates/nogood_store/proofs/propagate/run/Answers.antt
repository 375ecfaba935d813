use Rattle.trail.proofs.GrowthLaws.{grows_on}
use Rattle.nogood_store.specs.Propagation.{IsForced}
use Rattle.nogood_store.specs.Kept.{held_of}
use Rattle.nogood_store.proofs.Ending.{left_working, stored_working, all_quiet, none_map}
use Rattle.nogood_store.proofs.propagate.run.Goals as goal

pub returns-in_err-id-clause-left : goal.returns-in_err-id-clause-left
returns-in_err-id-clause-left c = left_working c.args.slots.now c.take_all.new.work c.take_all.new.trail c.in_err-id.ensures.working

pub returns-in-Some-clause-left : goal.returns-in-Some-clause-left
returns-in-Some-clause-left c = left_working c.args.slots.now c.take_all.new.work c.take_all.new.trail c.in_ok-id.ensures.working

pub returns-in_err-found-clause-grows : goal.returns-in_err-found-clause-grows
returns-in_err-found-clause-grows c = grows_on (IsForced (held_of c.args.slots.now)) c.args.trail.now c.take_all.new.trail c.catch_up.new.trail c.in_ok-id.ensures.grows c.in_err-found.ensures.grows

pub returns-in_err-found-clause-left : goal.returns-in_err-found-clause-left
returns-in_err-found-clause-left c = left_working c.args.slots.now c.catch_up.new.work c.catch_up.new.trail c.in_err-found.ensures.working

pub returns-clause-grows : goal.returns-clause-grows
returns-clause-grows c = grows_on (IsForced (held_of c.args.slots.now)) c.args.trail.now c.take_all.new.trail c.catch_up.new.trail c.in_ok-id.ensures.grows c.in_ok-found.ensures.grows

pub returns-clause-left : goal.returns-clause-left
returns-clause-left c = left_working c.args.slots.now c.catch_up.new.work c.catch_up.new.trail c.in_ok-found.ensures.working

pub returns-clause-quiet : goal.returns-clause-quiet
returns-clause-quiet c = none_map c.in_ok-found.found c.in_ok-found.ensures.done c.in_ok-found.ensures.all (λ d h. all_quiet c.args.slots.now c.catch_up.new.work c.catch_up.new.trail c.in_ok-found.ensures.working d h)

pub returns-clause-stored : goal.returns-clause-stored
returns-clause-stored c = none_map c.in_ok-found.found c.in_ok-found.ensures.done c.in_ok-found.ensures.all (λ d h under. stored_working c.args.slots.now c.catch_up.new.work c.catch_up.new.trail c.in_ok-found.ensures.working h under)
