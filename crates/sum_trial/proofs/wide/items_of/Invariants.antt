use Rattle.std.proofs.Common.{◌≡◌, ◌≤◌, ◌+◌, ◌-◌, IsTrue}
use Rattle.std.specs.List.{AllByRecursion, list_all}
use Rattle.trail.specs.declared.shape.Shape.{Shape}
use Rattle.numbering_laws.specs.Items.{are_items}
use Rattle.sum_propagator.specs.Sums.{is_item_of}
use Rattle.sum_trial.specs.Trials.{wide_items}
use Rattle.sum_trial.proofs.MoreLaws.{IsBefore}
use Rattle.sum_trial.proofs.wide.items_of.Given as goal

abbrev pub invariant-loop-before : goal.invariant-loop-before
invariant-loop-before l = record {
  exactly : l.items ≡ wide_items (l.before - 1);
  earlier : AllByRecursion (IsBefore (l.before + 1)) l.items;
  items : IsTrue (are_items 1 l.items);
  named : (s : Shape) → l.fn.constraints ≤ s.constraints → 2 ≤ s.variables → IsTrue (list_all (is_item_of s) l.items);
}
