use Rattle.trail_bounds.proofs.ItemSums.{at_place}
use Rattle.sum_propagator.proofs.Backing.{backs_instead, back_ok}
use Rattle.linear_normal.specs.declared.constraint.Item.TheVariants.{Value}
use Rattle.std.proofs.Common.{pos, ℕ, ◌<◌, length, subst}
use Rattle.sum_propagator.proofs.reason.back_at.Goals as goal

pub returns-then-at-but : goal.returns-then-at-but
returns-then-at-but c =
    back_ok c.args.trail.now c.args.side c.args.items.now c.args.but c.args.instead c.args.at c.args.slack _ c.args.lits.now.items c.back_item.new.lits.items c.back_item.result c.back_item.ensures c.requires.at c.if-at-but.true (λ d. at_place c.args.items.now c.args.at d _ c.requires.at)

pub returns : goal.returns
returns c = λ start first b. backs_instead c.args.trail.now c.args.side c.args.items.now c.args.but c.args.instead start c.args.slack c.args.at (Value 0 (pos 0)) first c.args.lits.now.items c.push.new.self.items (c.requires.instead (subst (λ (n : ℕ). n < length c.args.items.now) c.if-at-but.false c.requires.at)) b c.requires.at c.if-at-but.false c.in_ok-push.ensures.items
