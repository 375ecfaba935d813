use Rattle.std.proofs.lemmas.List.Filters.{dedup_is}
use Rattle.linear_normal.proofs.SelectionLemmas.{unique_ascend, unique_members}
use Rattle.linear_normal.proofs.selections.ascending_atoms.Goals as goal

pub returns-clause-ascends : goal.returns-clause-ascends
returns-clause-ascends c =
    unique_ascend c.args.items.now c.in_ok-atoms.atoms.items c.sort_unstable.new.self.items c.dedup.new.self.items c.in_ok-atoms.ensures c.sort_unstable.ensures.permutation c.sort_unstable.ensures.sorted
    (dedup_is _ _ _ c.dedup.ensures.filtered) c.requires

pub returns-clause-members : goal.returns-clause-members
returns-clause-members c =
    unique_members c.args.items.now c.in_ok-atoms.atoms.items c.sort_unstable.new.self.items c.dedup.new.self.items c.in_ok-atoms.ensures c.sort_unstable.ensures.permutation c.sort_unstable.ensures.sorted
    (dedup_is _ _ _ c.dedup.ensures.filtered)
