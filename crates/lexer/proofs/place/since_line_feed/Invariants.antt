use Rattle.std.proofs.Common.{◌≡◌, ◌≤◌, ◌+◌, ◌-◌, take}
use Rattle.std.specs.List.{suffix_len}
use Rattle.lexer.specs.Places.{is_in_line}
use Rattle.lexer.proofs.place.since_line_feed.Given as goal

abbrev pub invariant-loop-start : goal.invariant-loop-start
invariant-loop-start l = record {
  within : l.start ≤ l.at;
  since : (l.at - l.start) + suffix_len is_in_line (take l.start l.text) ≡ suffix_len is_in_line (take l.at l.text);
}

abbrev pub decreases-loop-start : goal.decreases-loop-start
decreases-loop-start l = l.start
