use Rattle.std.proofs.Common.{◌≡◌, ◌≤◌, ◌∙◌, ap}
use Rattle.order_literals.proofs.TableLaws.{row_lacks, table_made, view_made, place_after}
use Rattle.order_literals.proofs.table.OrderTable.make.Goals as goal

pub put_in-requires-clause-absent : goal.put_in-requires-clause-absent
put_in-requires-clause-absent c =
    let made : c.self.inside.made.items ≡ c.args.self.now.made = ap (λ t. t.made) c.self.view_is in
    let within : c.args.x ≤ c.self.inside.variables = rw (ap (λ t. t.variables) c.self.view_is) c.requires.within in
    row_lacks c.self.inside.variables c.self.inside.made.items c.self.inside.rows.items c.args.x c.args.k c.self.invariant within (rw made c.requires.new) c.ranges.k

pub invariant_of-self-in-Ok : goal.invariant_of-self-in-Ok
invariant_of-self-in-Ok c =
    let made : c.self.inside.made.items ≡ c.args.self.now.made = ap (λ t. t.made) c.self.view_is in
    let within : c.args.x ≤ c.self.inside.variables = rw (ap (λ t. t.variables) c.self.view_is) c.requires.within in
    table_made c.self.inside.variables c.self.inside.made.items c.push.new.self.items c.self.inside.rows.items c.put_in.new.rows.items c.args.x c.args.k c.len-place.result c.self.invariant within c.ranges.k (c.len-place.ensures ∙ c.self.inside.made.ok.0) c.in_ok-push.ensures.items c.in-Ok.ensures.ok

pub returns-in-Ok-clause-made : goal.returns-in-Ok-clause-made
returns-in-Ok-clause-made c = view_made c.args.self.now c.self.inside.variables c.self.inside.made.items c.push.new.self.items c.args.x c.args.k c.self.view_is c.requires.new c.ranges.k c.in_ok-push.ensures.items

pub returns-in-Ok-clause-id : goal.returns-in-Ok-clause-id
returns-in-Ok-clause-id c =
    let made : c.self.inside.made.items ≡ c.args.self.now.made = ap (λ t. t.made) c.self.view_is in
    let within : c.args.x ≤ c.self.inside.variables = rw (ap (λ t. t.variables) c.self.view_is) c.requires.within in
    place_after c.self.inside.made.items c.push.new.self.items c.args.x c.args.k c.at.result (rw made c.requires.new) c.ranges.k (c.at.ensures ∙ c.len-place.ensures ∙ c.self.inside.made.ok.0) c.in_ok-push.ensures.items
