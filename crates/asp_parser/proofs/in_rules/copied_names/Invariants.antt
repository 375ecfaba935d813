use Rattle.std.proofs.Common.{◌≡◌, take}
use Rattle.asp_parser.proofs.in_rules.copied_names.Given as goal

abbrev pub invariant-loop-name : goal.invariant-loop-name
invariant-loop-name l = l.copy ≡ take l.name-index l.names
