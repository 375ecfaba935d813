use Rattle.std.proofs.Common.{◌≡◌, ◌++◌, ◌∷◌, [], ◌+◌, List, pos, map, drop, vec_items, ◌∙◌, ap, subst, sym}
use Rattle.std.specs.List.{AllByRecursion}
use Rattle.linear_normal.specs.Contents.{Content, Counted, SomeTrue}
use Rattle.linear_normal.specs.Numbering.{item_of}
use Rattle.linear_normal.specs.inner.Tables.{IsSmallItem, Gives, tally_terms}
use Rattle.linear_normal.proofs.ChoiceLemmas.{tally_of_row, singles, row_items}
use Rattle.linear_normal.proofs.GrowthLemmas.{left_next, left_last, one_left, none_left, mapped_next, mapped_last, all_push}
use Rattle.linear_normal.proofs.choice.add_tallies.Goals as goal

pub loop-row-preserved : goal.loop-row-preserved
loop-row-preserved c =
    let i = c.loop-row.row-index in
    let rows = c.args.rows.now in
    record {
      small = subst (AllByRecursion IsSmallItem) (sym c.in_ok-push.ensures.ok) (all_push IsSmallItem c.loop-row.items c.in_ok-item.item c.loop-row.invariant.small c.in_ok-item.ensures.small);
      gives = left_next _ _ _ _ (SomeTrue (vec_items c.row-item.result) ∷ []) _ _ _ _ _
          (one_left (λ row. SomeTrue (vec_items row) ∷ []) rows i c.row-item.result c.row-item.result c.loop-row-test.true c.row-item.is)
          c.loop-row.invariant.gives (tally_of_row _ _ _ (vec_items c.row-item.result) c.in_ok-item.item c.deref.ensures.value c.in_ok-item.ensures.gives)
          (λ later first next. ap (λ items. items ++ map (λ row. item_of later (Counted (vec_items row) (pos 1))) (drop (i + 1) rows)) c.in_ok-push.ensures.ok
          ∙ mapped_next (λ row. item_of later (Counted (vec_items row) (pos 1))) rows i c.row-item.result c.loop-row.items (map (λ row. item_of later (Counted (vec_items row) (pos 1))) rows) c.in_ok-item.item
          c.loop-row-test.true first (next ∙ ap (λ row. item_of later (Counted (vec_items row) (pos 1))) c.row-item.is));
    }

pub returns-clause-gives : goal.returns-clause-gives
returns-clause-gives c =
    let rows = c.args.rows.now in
    subst (λ (demands : List Content). Gives c.args.keys.now.keys c.loop-row.keys.keys demands (λ later. c.loop-row.items ≡ map (item_of later) (tally_terms (map vec_items rows)))) (singles vec_items rows)
    (left_last _ _ _ _ _ _ (none_left (λ row. SomeTrue (vec_items row) ∷ []) rows c.loop-row.row-index c.loop-row-test.false) c.loop-row.invariant.gives
    (λ later first. mapped_last (λ row. item_of later (Counted (vec_items row) (pos 1))) rows c.loop-row.row-index c.loop-row.items _ c.loop-row-test.false first ∙ row_items vec_items later rows))
