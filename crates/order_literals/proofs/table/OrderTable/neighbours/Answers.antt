use Rattle.std.proofs.Common.{◌≡◌, ◌≤◌, ap}
use Rattle.order_literals.proofs.TableLaws.{near_below, near_above}
use Rattle.order_literals.proofs.table.OrderTable.neighbours.Goals as goal

pub returns-clause-below : goal.returns-clause-below
returns-clause-below c =
    let made : c.self.inside.made.items ≡ c.args.self.now.made = ap (λ t. t.made) c.self.view_is in
    let within : c.args.x ≤ c.self.inside.variables = rw (ap (λ t. t.variables) c.self.view_is) c.requires in
    near_below c.self.inside.variables c.self.inside.made.items c.args.self.now.made c.self.inside.rows.items c.index-row.result.now c.args.x c.args.k c.below.result c.self.invariant within c.index-row.ensures made c.ranges.k c.below.ensures

pub returns-clause-above : goal.returns-clause-above
returns-clause-above c =
    let made : c.self.inside.made.items ≡ c.args.self.now.made = ap (λ t. t.made) c.self.view_is in
    let within : c.args.x ≤ c.self.inside.variables = rw (ap (λ t. t.variables) c.self.view_is) c.requires in
    near_above c.self.inside.variables c.self.inside.made.items c.args.self.now.made c.self.inside.rows.items c.index-row.result.now c.args.x c.args.k c.above.result c.self.invariant within c.index-row.ensures made c.ranges.k c.above.ensures
