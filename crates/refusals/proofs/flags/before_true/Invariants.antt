use Rattle.std.proofs.Common.{◌≡◌, ◌+◌, drop}
use Rattle.load_meaning.specs.Lines.{before_true}
use Rattle.refusals.proofs.flags.before_true.Given as goal

abbrev pub invariant-loop-at : goal.invariant-loop-at
invariant-loop-at l = before_true l.fn.number l.flags ≡ l.at + before_true l.left (drop l.at l.flags)
