use Rattle.std.proofs.Common.{◌≡◌, ◌++◌, drop}
use Rattle.std.specs.List.{AllByRecursion}
use Rattle.ground_model.specs.Reduct.{positives}
use Rattle.ground_model.specs.Sizes.{IsCounted}
use Rattle.ground_model.proofs.reduct.push_positives.Given as goal

abbrev pub invariant-loop-literal : goal.invariant-loop-literal
invariant-loop-literal l = record {
  so_far : l.into.items ++ positives (drop l.literal-index l.body) ≡ l.fn.into.items ++ positives l.body;
  left : AllByRecursion IsCounted (drop l.literal-index l.body);
}
