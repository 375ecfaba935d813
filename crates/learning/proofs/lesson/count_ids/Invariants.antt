use Rattle.std.proofs.Common.{◌≡◌, ◌≤◌, ◌+◌, take, length}
use Rattle.learning.specs.Chain.{shown_lines, uses_of}
use Rattle.learning.proofs.lesson.count_ids.Given as goal

abbrev pub invariant-loop-link : goal.invariant-loop-link
invariant-loop-link l = record {
  is : l.count ≡ length (shown_lines (uses_of l.first (take l.link-index l.chain)));
  within : l.count ≤ l.link-index + 1;
}
