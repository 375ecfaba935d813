use Rattle.std.proofs.Common.{rules, int_lt, ℤ}
use Rattle.std.proofs.lemmas.List.Sorted.{IsPartitionPoint-from_clause}
use Rattle.propagators.proofs.GapLaws.{parted_below}
use Rattle.propagators.proofs.gap.count_below.Goals as goal

pub returns-clause-parted : goal.returns-clause-parted
returns-clause-parted c = IsPartitionPoint-from_clause (λ (x : ℤ × ℤ). int_lt x.1 c.args.k) _ _ c.partition_point.ensures.partitioned (parted_below c.args.intervals.now c.args.k c.requires) (λ a r q k. search rules)
