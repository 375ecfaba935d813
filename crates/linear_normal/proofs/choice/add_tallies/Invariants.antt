use Rattle.std.proofs.Common.{◌≡◌, ◌++◌, ◌∷◌, [], pos, map, drop, flat_map, vec_items}
use Rattle.std.specs.List.{AllByRecursion}
use Rattle.linear_normal.specs.Contents.{Counted, SomeTrue}
use Rattle.linear_normal.specs.Numbering.{item_of}
use Rattle.linear_normal.specs.inner.Tables.{IsSmallItem}
use Rattle.linear_normal.proofs.GrowthLemmas.{GivesLeft}
use Rattle.linear_normal.proofs.choice.add_tallies.Given as goal

abbrev pub invariant-loop-row : goal.invariant-loop-row
invariant-loop-row l = record {
  small : AllByRecursion IsSmallItem l.items;
  gives : GivesLeft l.fn.keys.keys l.keys.keys (flat_map (λ row. SomeTrue (vec_items row) ∷ []) (drop l.row-index l.rows)) (flat_map (λ row. SomeTrue (vec_items row) ∷ []) l.rows)
      (λ later. l.items ++ map (λ row. item_of later (Counted (vec_items row) (pos 1))) (drop l.row-index l.rows) ≡ map (λ row. item_of later (Counted (vec_items row) (pos 1))) l.rows);
}
