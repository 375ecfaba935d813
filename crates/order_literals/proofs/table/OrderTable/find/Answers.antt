use Rattle.std.proofs.Common.{◌≡◌, ◌≤◌, Some, ◌∙◌, ap}
use Rattle.order_literals.proofs.TableLaws.{find_row}
use Rattle.order_literals.proofs.table.OrderTable.find.Goals as goal

pub returns-in-Some : goal.returns-in-Some
returns-in-Some c =
    let made : c.self.inside.made.items ≡ c.args.self.now.made = ap (λ t. t.made) c.self.view_is in
    let within : c.args.x ≤ c.self.inside.variables = rw (ap (λ t. t.variables) c.self.view_is) c.requires in
    ap Some c.at.ensures ∙ c.in-Some.ensures ∙ find_row c.self.inside.variables c.self.inside.made.items c.args.self.now.made c.self.inside.rows.items c.index.result.now c.args.x c.args.k c.self.invariant within c.index.ensures made c.ranges.k

pub returns-in-None : goal.returns-in-None
returns-in-None c =
    let made : c.self.inside.made.items ≡ c.args.self.now.made = ap (λ t. t.made) c.self.view_is in
    let within : c.args.x ≤ c.self.inside.variables = rw (ap (λ t. t.variables) c.self.view_is) c.requires in
    c.in-None.ensures ∙ find_row c.self.inside.variables c.self.inside.made.items c.args.self.now.made c.self.inside.rows.items c.index.result.now c.args.x c.args.k c.self.invariant within c.index.ensures made c.ranges.k
