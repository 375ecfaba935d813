use Rattle.std.proofs.Common.{[], ◌∙◌, ap, refl}
use Rattle.variable_safety.specs.inner.Binding.{plain_literals}
use Rattle.variable_safety.proofs.Notes.{loose_at}
use Rattle.variable_safety.proofs.unsafety.note_globals.Goals as goal

pub returns : goal.returns
returns c =
    loose_at [] c.in_ok-none.none.listed c.args.globals.now c.args.globals.now (plain_literals c.args.rule.now.body) (plain_literals c.items.result.now)
    c.args.found.now c.note_loose.new.found (c.in_ok-none.ensures ∙ c.new.ensures) refl (ap plain_literals c.items.ensures) c.in_ok-note_loose.ensures
