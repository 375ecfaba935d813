use Rattle.std.proofs.Common.{map, take}
use Rattle.std.specs.List.{flat_map}
use Rattle.program_meaning.specs.Read.{literal_read}
use Rattle.program_meaning.specs.Tuples.{told_in}
use Rattle.safety_meaning.specs.Failures.{atoms_of_theory}
use Rattle.safety.specs.inner.Rules.{AddsAnswers}
use Rattle.safety.proofs.conditions.in_body.Given as goal

abbrev pub invariant-loop-literal : goal.invariant-loop-literal
invariant-loop-literal l = AddsAnswers l.ways.table.keys l.flags (flat_map atoms_of_theory (flat_map told_in (map literal_read (take l.literal-index l.body)))) l.fn.found l.found
