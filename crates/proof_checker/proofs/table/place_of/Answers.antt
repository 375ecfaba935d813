use Rattle.std.proofs.Common.{nat_lt, rules}
use Rattle.std.proofs.lemmas.List.Sorted.{IsPartitionPoint-from_clause}
use Rattle.proof_checker.proofs.TableLemmas.{split_by}
use Rattle.proof_checker.proofs.table.place_of.Goals as goal

pub returns : goal.returns
returns c =
    IsPartitionPoint-from_clause (λ one. nat_lt one.id c.args.id) _ _ c.partition_point.ensures.partitioned (split_by c.args.live.now c.args.id c.requires)
    (λ a r q k. search rules)
