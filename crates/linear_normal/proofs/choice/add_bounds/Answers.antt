use Rattle.std.proofs.Common.{◌++◌, option_to_list, map, vec_items}
use Rattle.linear_normal.proofs.ChoiceLemmas.{bounds_given}
use Rattle.linear_normal.proofs.choice.add_bounds.Goals as goal

pub returns : goal.returns
returns c =
    bounds_given _ _ _ c.in_ok-items.items c.items-2.result.now (map vec_items c.args.rows.now) c.args.first (option_to_list c.args.left ++ option_to_list c.args.right) _ _
    c.in_ok-items.ensures.gives c.items-2.ensures c.in_ok-add_duties.ensures
