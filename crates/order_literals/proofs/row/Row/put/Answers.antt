use Rattle.std.proofs.Common.{◌≡◌, List, subst, ◌∙◌, w32, to_z, of_z}
use Rattle.std.specs.Prelude.{insert}
use Rattle.order_literals.specs.declared.row.Made.{Made}
use Rattle.order_literals.specs.inner.Rows.{Ascends, place_in, placed}
use Rattle.order_literals.proofs.RowLaws.{belongs, insert_at, ascends_placed}
use Rattle.order_literals.proofs.row.Row.put.Goals as goal

pub invariant_of-self-2 : goal.invariant_of-self-2
invariant_of-self-2 c =
    let now : c.deref.result.now ≡ c.args.self.now = c.deref.ensures.value ∙ c.self.view_is in
    let at : c.place_of_number-at.result ≡ place_in c.args.self.now c.args.number = belongs c.deref.result.now c.args.self.now c.args.number c.place_of_number-at.result c.ranges.number now c.place_of_number-at.ensures.value in
    let rises : Ascends c.args.self.now = subst Ascends c.self.view_is c.self.invariant in
    let made : c.insert.new.self.items ≡ placed c.args.number c.args.place c.args.self.now =
    insert_at c.args.self.now c.insert.new.self.items c.args.number c.args.place c.place_of_number-at.result c.ranges.number at c.requires (subst (λ (xs : List Made). c.insert.new.self.items ≡ insert xs c.place_of_number-at.result (record { number = to_z w32 (of_z w32 c.args.number); place = c.args.place })) c.self.view_is c.in_ok-insert.ensures.items)
    in
    rw made (ascends_placed c.args.self.now c.args.number c.args.place rises)

pub returns-clause-ok : goal.returns-clause-ok
returns-clause-ok c =
    let now : c.deref.result.now ≡ c.args.self.now = c.deref.ensures.value ∙ c.self.view_is in
    let at : c.place_of_number-at.result ≡ place_in c.args.self.now c.args.number = belongs c.deref.result.now c.args.self.now c.args.number c.place_of_number-at.result c.ranges.number now c.place_of_number-at.ensures.value in
    insert_at c.args.self.now c.insert.new.self.items c.args.number c.args.place c.place_of_number-at.result c.ranges.number at c.requires (subst (λ (xs : List Made). c.insert.new.self.items ≡ insert xs c.place_of_number-at.result (record { number = to_z w32 (of_z w32 c.args.number); place = c.args.place })) c.self.view_is c.in_ok-insert.ensures.items)
