use Rattle.std.proofs.Common.{◌≡◌, drop}
use Rattle.std.specs.List.{list_any}
use Rattle.linear_normal.specs.Steps.{is_empty_range}
use Rattle.step_rules.specs.inner.Holes.{leaves_none}
use Rattle.step_rules.proofs.hole.is_empty_range.Given as goal

abbrev pub invariant-loop-lit : goal.invariant-loop-lit
invariant-loop-lit l = is_empty_range l.ends l.lits l.variables ≡ list_any (leaves_none l.fn.ends l.fn.lits l.fn.variables) (drop l.lit-index l.lits)
