use Rattle.std.proofs.Common.{List, ◌≡◌, subst, sym, get_or, pos}
use Rattle.linear_normal.specs.declared.constraint.Item.{Item}
use Rattle.linear_normal.specs.declared.constraint.Item.TheVariants.{Value}
use Rattle.trail_bounds.proofs.ItemSums.{at_place}
use Rattle.sum_propagator.proofs.narrow.press_one.Goals as goal

pub press_item-requires-clause-item : goal.press_item-requires-clause-item
press_item-requires-clause-item c = λ d.
    subst (λ (items : List Item). get_or c.args.sum.now.items c.args.at d ≡ get_or items c.args.at (Value 0 (pos 0))) (sym c.items.ensures) (at_place c.args.sum.now.items c.args.at d (Value 0 (pos 0)) c.requires.at)
