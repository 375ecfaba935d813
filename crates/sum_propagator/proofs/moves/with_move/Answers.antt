use Rattle.std.proofs.Common.{refl, inl, inr, get_or, pos}
use Rattle.linear_normal.specs.declared.constraint.Item.TheVariants.{Value}
use Rattle.trail_bounds.proofs.ItemSums.{at_place}
use Rattle.sum_propagator.proofs.moves.with_move.Goals as goal

pub returns-in-None : goal.returns-in-None
returns-in-None c = inl (c.in-None.ensures.none, refl)

pub returns-in-Some : goal.returns-in-Some
returns-in-Some c =
    let s = c.in-Some.ensures.some in
    inr (record {
      at = c.in-Some.at;
      item = get_or c.args.items.now c.in-Some.at (Value 0 (pos 0));
      within = s.0;
      is = λ d. at_place c.args.items.now c.in-Some.at d (Value 0 (pos 0)) s.0;
      key = s.1 (Value 0 (pos 0));
      least = c.with_item_moved.ensures.least;
      greatest = c.with_item_moved.ensures.greatest;
    })
