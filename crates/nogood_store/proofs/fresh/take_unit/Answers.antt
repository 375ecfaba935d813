use Rattle.std.proofs.Common.{◌<◌, ◌+◌, List, length, sym, subst}
use Rattle.literals.specs.declared.lit.Lit.{Lit}
use Rattle.nogood_store.specs.Kept.{held_of}
use Rattle.nogood_store.proofs.Working.{working_grown, fresh_grown}
use Rattle.nogood_store.proofs.Visiting.{read_among}
use Rattle.nogood_store.proofs.fresh.take_unit.Goals as goal

pub close-requires-clause-among : goal.close-requires-clause-among
close-requires-clause-among c = read_among c.args.slots.now c.args.slot c.args.first c.lits_of-lits.result.now c.lits_of-lits.ensures.value (subst (λ (m : List Lit). c.args.first < length m) (sym c.lits_of-lits.ensures.value) c.requires.first)

pub returns-in_err-id-clause-working : goal.returns-in_err-id-clause-working
returns-in_err-id-clause-working c = working_grown c.args.slots.now c.args.work.now c.args.trail.now c.close.new.trail c.in_err-id.ensures.grows c.requires.working

pub take_false-requires-clause-working : goal.take_false-requires-clause-working
take_false-requires-clause-working c = working_grown c.args.slots.now c.args.work.now c.args.trail.now c.close.new.trail c.in_ok-id.ensures.grows c.requires.working

pub take_false-requires-clause-done : goal.take_false-requires-clause-done
take_false-requires-clause-done c = fresh_grown c.args.slots.now c.args.work.now.fresh.items (held_of c.args.slots.now) c.args.trail.now c.close.new.trail (c.args.index + 1) c.in_ok-id.ensures.grows c.requires.done

pub returns-in-Some-clause-working : goal.returns-in-Some-clause-working
returns-in-Some-clause-working c = working_grown c.args.slots.now c.args.work.now c.args.trail.now c.close.new.trail c.in_ok-id.ensures.grows c.requires.working
