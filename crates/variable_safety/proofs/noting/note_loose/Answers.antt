use Rattle.std.proofs.Common.{refl}
use Rattle.variable_safety.specs.inner.Binding.{plain_literals}
use Rattle.variable_safety.proofs.Notes.{none_loose_at, loose_noted_at}
use Rattle.variable_safety.proofs.noting.note_loose.Goals as goal

pub returns-then-is_empty : goal.returns-then-is_empty
returns-then-is_empty c =
    none_loose_at c.args.given.now.listed c.args.variables.now (plain_literals c.args.literals.now) c.args.given.now.flags c.items.result.now
    c.new-locals.result c.note_others.new.found c.args.found.now c.args.given.now.flagged c.items.ensures c.new-locals.ensures c.in_ok-note_others.ensures
    (c.if-is_empty.ensures.0 refl)

pub returns : goal.returns
returns c =
    loose_noted_at c.args.given.now.listed c.args.variables.now (plain_literals c.args.literals.now) c.args.given.now.flags c.items.result.now
    c.new-locals.result c.note_others.new.found c.items-2.result.now c.args.found.now c.note_unbound.new.found c.args.given.now.flagged c.items.ensures
    c.new-locals.ensures c.in_ok-note_others.ensures c.items-2.ensures c.in_ok-note_unbound.ensures
