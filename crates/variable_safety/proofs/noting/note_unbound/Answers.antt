use Rattle.variable_safety.specs.inner.Binding.{plain_literals}
use Rattle.variable_safety.proofs.Notes.{unbound_noted_at}
use Rattle.variable_safety.proofs.noting.note_unbound.Goals as goal

pub returns : goal.returns
returns c =
    unbound_noted_at c.args.given.now.listed c.items.result.now c.args.locals.now (plain_literals c.args.literals.now) c.in_ok-flags.flags
    c.items-2.result.now c.args.found.now c.note_others.new.found c.items.ensures c.items-2.ensures c.in_ok-flags.ensures c.in_ok-note_others.ensures
