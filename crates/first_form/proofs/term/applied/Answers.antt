use Rattle.std.proofs.Common.{Err, ap, ◌∙◌}
use Rattle.first_form.proofs.Functions.{never_deep, applied_is}
use Rattle.first_form.proofs.Tables.{known_id}
use Rattle.first_form.proofs.term.applied.Goals as goal

pub unreachable-requires : goal.unreachable-requires
unreachable-requires c =
    never_deep c.args.symbols.now c.args.name.now c.args.args.now c.requires.shallow (c.function.ensures.too_deep (c.in-Err-TooDeep.is ∙ ap Err c.in-Err-TooDeep.field-0-is))

pub returns-in-Ok-clause-read : goal.returns-in-Ok-clause-read
returns-in-Ok-clause-read c = applied_is c.args.symbols.now c.function.new.self c.args.name.now c.args.args.now c.in-Ok.id c.requires.some c.in-Ok.ensures.id

pub returns-in-Ok-clause-known : goal.returns-in-Ok-clause-known
returns-in-Ok-clause-known c = known_id c.function.new.self c.in-Ok.id _ c.in-Ok.ensures.id
