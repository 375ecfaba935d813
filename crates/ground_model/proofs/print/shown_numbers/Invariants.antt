use Rattle.std.proofs.Common.{◌≡◌, ◌++◌, drop, filter, length}
use Rattle.std.specs.List.{AllByRecursion}
use Rattle.ground_model.specs.Answers.{IsNumbered}
use Rattle.ground_model.specs.Printed.{is_shown}
use Rattle.ground_model.proofs.print.shown_numbers.Given as goal

abbrev pub invariant-loop-number : goal.invariant-loop-number
invariant-loop-number l = record {
  so_far : l.list ++ filter (is_shown l.flags) (drop l.number-index l.numbers) ≡ filter (is_shown l.flags) l.numbers;
  left : AllByRecursion (IsNumbered (length l.flags)) (drop l.number-index l.numbers);
  done : AllByRecursion (IsNumbered (length l.flags)) l.list;
}
