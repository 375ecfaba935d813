use Rattle.std.proofs.Common.{rules}
use Rattle.std.proofs.lemmas.List.Sorted.{IsPartitionPoint-from_clause}
use Rattle.literals.specs.Nogoods.{is_before}
use Rattle.literals.proofs.SortedLaws.{parted_by}
use Rattle.literals.proofs.sorted.place_in.Goals as goal

pub returns : goal.returns
returns c = IsPartitionPoint-from_clause (λ x. is_before x c.args.lit) _ _ c.partition_point.ensures.partitioned (parted_by c.args.lits.now c.args.lit c.requires) (λ a r q k. search rules)
