use Rattle.std.proofs.Common.{map, take}
use Rattle.std.specs.List.{flat_map}
use Rattle.program_meaning.specs.Read.{literal_read, plains}
use Rattle.safety_meaning.specs.Failures.{atom_of}
use Rattle.safety.specs.inner.Rules.{AddsAnswers}
use Rattle.safety.proofs.conditions.in_condition.Given as goal

abbrev pub invariant-loop-literal : goal.invariant-loop-literal
invariant-loop-literal l = AddsAnswers l.ways.table.keys l.flags (flat_map atom_of (plains (map literal_read (take l.literal-index l.condition)))) l.fn.found l.found
