use Rattle.std.proofs.Common.{List, subst, sym, refl, ◌∙◌}
use Rattle.linear_normal.specs.declared.constraint.Item.{Item}
use Rattle.sum_propagator.specs.Moves.{AreRising, IsMoved}
use Rattle.sum_propagator.proofs.Following.{here, moves_none, moves_either}
use Rattle.sum_propagator.proofs.moves.with_entry.Goals as goal

pub with_move-requires-clause-rising : goal.with_move-requires-clause-rising
with_move-requires-clause-rising c = subst AreRising (sym c.items.ensures) c.requires.rising

pub returns-in-None : goal.returns-in-None
returns-in-None c =
    moves_none c.args.trail.now c.args.place c.entry.result.now.lit c.replaced.result c.args.sum.now.items c.args.totals
    (here c.args.trail.now c.args.place c.entry.result.now c.entry.result.now.lit c.replaced.result c.requires.assignment c.requires.place c.entry.ensures refl c.replaced.ensures)
    (sym c.moved_by.ensures ∙ c.in-None.is) c.requires.totals

pub returns-in-Some : goal.returns-in-Some
returns-in-Some c =
    moves_either c.args.trail.now c.args.place c.entry.result.now.lit c.replaced.result c.in-Some.one c.args.sum.now.number c.args.sum.now.items c.args.totals c.with_move.result
    c.requires.assignment c.args.sum.now.are_items c.args.sum.now.coefficients c.args.sum.now.few
    (here c.args.trail.now c.args.place c.entry.result.now c.entry.result.now.lit c.replaced.result c.requires.assignment c.requires.place c.entry.ensures refl c.replaced.ensures)
    (sym c.moved_by.ensures ∙ c.in-Some.is)
    (subst (λ (items : List Item). IsMoved items c.in-Some.one c.args.totals c.with_move.result) c.items.ensures c.with_move.ensures) c.requires.totals
