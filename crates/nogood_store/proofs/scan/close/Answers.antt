use Rattle.std.proofs.Common.{◌∙◌, sym, ap, subst, Some, get_or}
use Rattle.literals.specs.declared.lit.Lit.{Lit}
use Rattle.literals.specs.Lits.{IsLit, complement_of}
use Rattle.trail.specs.declared.entry.Why.TheVariants.{Held as ByHeld}
use Rattle.trail.specs.Assignment.{Places, entry_of}
use Rattle.trail.proofs.AssignmentLaws.{true-truth}
use Rattle.nogood_store.proofs.HeldLaws.{get_any}
use Rattle.nogood_store.proofs.Growing.{names_opposite, open_opposite, placed_done}
use Rattle.nogood_store.proofs.Working.{lit_named}
use Rattle.nogood_store.proofs.Ending.{closed_conflict, closed_grows, entry_true}
use Rattle.nogood_store.proofs.scan.close.Goals as goal

pub truth-requires : goal.truth-requires
truth-requires c = lit_named c.args.trail.now.shape c.args.slots.now c.args.slot c.args.lit c.requires.named c.requires.within c.requires.among

pub complement-requires : goal.complement-requires
complement-requires c = (lit_named c.args.trail.now.shape c.args.slots.now c.args.slot c.args.lit c.requires.named c.requires.within c.requires.among).literal

pub set-requires : goal.set-requires
set-requires c =
    rw c.complement.ensures.value
    (names_opposite c.args.trail.now.shape c.args.lit (lit_named c.args.trail.now.shape c.args.slots.now c.args.slot c.args.lit c.requires.named c.requires.within c.requires.among)
    (subst IsLit c.complement.ensures.value c.complement.ensures.literal))

pub returns-in-Some-true-clause-conflict : goal.returns-in-Some-true-clause-conflict
returns-in-Some-true-clause-conflict c = closed_conflict c.args.slots.now c.args.slot (get_or c.args.slots.now c.args.slot c.index-slots-slot.result) c.args.trail.now c.args.lit c.requires.ascend c.requires.within (get_any c.args.slots.now c.args.slot c.index-slots-slot.result (get_or c.args.slots.now c.args.slot c.index-slots-slot.result) c.requires.within) c.requires.others (true-truth c.args.trail.now c.args.lit (sym c.in-Some-true.ensures ∙ ap Some c.in-Some-true.field-0-test))

pub returns-in_ok-set-in-None-clause-grows : goal.returns-in_ok-set-in-None-clause-grows
returns-in_ok-set-in-None-clause-grows c =
    closed_grows c.args.slots.now c.args.slot (get_or c.args.slots.now c.args.slot c.index-slots-slot.result) c.args.trail.now c.set.new.self c.args.lit c.requires.ascend c.requires.named c.requires.within (get_any c.args.slots.now c.args.slot c.index-slots-slot.result (get_or c.args.slots.now c.args.slot c.index-slots-slot.result) c.requires.within) c.requires.among c.requires.others (sym c.in-None.ensures)
    (names_opposite c.args.trail.now.shape c.args.lit (lit_named c.args.trail.now.shape c.args.slots.now c.args.slot c.args.lit c.requires.named c.requires.within c.requires.among) (subst IsLit c.complement.ensures.value c.complement.ensures.literal))
    (placed_done c.args.trail.now c.set.new.self (complement_of c.args.lit) (ByHeld (get_or c.args.slots.now c.args.slot c.index-slots-slot.result).id) c.in_ok-set-in-None.field-0
    (subst (λ (l : Lit). Places c.args.trail.now l (ByHeld (get_or c.args.slots.now c.args.slot c.index-slots-slot.result).id) c.in_ok-set-in-None.field-0 c.set.new.self) c.complement.ensures.value c.in_ok-set-in-None.ensures.ok)
    (open_opposite c.args.trail.now c.args.lit (sym c.in-None.ensures)))

pub returns-in_ok-set-in-None-clause-quiet : goal.returns-in_ok-set-in-None-clause-quiet
returns-in_ok-set-in-None-clause-quiet c =
    entry_true c.args.trail.now c.set.new.self (entry_of c.args.trail.now (complement_of c.args.lit) (ByHeld (get_or c.args.slots.now c.args.slot c.index-slots-slot.result).id))
    (placed_done c.args.trail.now c.set.new.self (complement_of c.args.lit) (ByHeld (get_or c.args.slots.now c.args.slot c.index-slots-slot.result).id) c.in_ok-set-in-None.field-0
    (subst (λ (l : Lit). Places c.args.trail.now l (ByHeld (get_or c.args.slots.now c.args.slot c.index-slots-slot.result).id) c.in_ok-set-in-None.field-0 c.set.new.self) c.complement.ensures.value c.in_ok-set-in-None.ensures.ok)
    (open_opposite c.args.trail.now c.args.lit (sym c.in-None.ensures)))
