use Rattle.std.proofs.Common.{◌≡◌, ◌++◌, drop}
use Rattle.std.specs.List.{filter_map}
use Rattle.rewriting.specs.Order.{order_in, firsts, variable_in}
use Rattle.rewriting.specs.inner.Flags.{AreFlags}
use Rattle.rewriting.proofs.order.note_all.Given as goal

abbrev pub invariant-loop-sight : goal.invariant-loop-sight
invariant-loop-sight l = record {
  flags : AreFlags l.flags l.order;
  order : order_in l.sights ≡ l.order ++ firsts l.order (filter_map variable_in (drop l.sight-index l.sights));
}
