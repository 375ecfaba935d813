use Rattle.std.proofs.Common.{[], map, ap}
use Rattle.program_meaning.specs.Read.{rule_read, literal_read}
use Rattle.variable_safety.proofs.Unsafes.{rule_noted_at}
use Rattle.variable_safety.proofs.unsafety.loose_variables.Goals as goal

pub returns : goal.returns
returns c =
    rule_noted_at (rule_read c.args.rule.now []) c.args.globals c.items.result.now c.in_ok-given.given.listed c.new-found.result c.note_globals.new.found
    c.note_head.new.found c.note_body.new.found (map literal_read c.items-2.result.now) c.requires c.items.ensures c.in_ok-given.ensures c.new-found.ensures
    (ap (map literal_read) c.items-2.ensures) c.in_ok-note_globals.ensures c.in_ok-note_head.ensures c.in_ok-note_body.ensures
