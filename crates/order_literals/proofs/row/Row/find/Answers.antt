use Rattle.std.proofs.Common.{◌≡◌, ◌<◌, List, length, get_or, subst, ◌∙◌, ap, rules, arith, FitsSigned, w32, pos}
use Rattle.order_literals.specs.declared.row.Made.{Made}
use Rattle.order_literals.specs.inner.Rows.{Ascends, place_in}
use Rattle.order_literals.proofs.RowLaws.{belongs, find_end, find_hit, find_miss}
use Rattle.order_literals.proofs.row.Row.find.Goals as goal

pub returns-then-at-len : goal.returns-then-at-len
returns-then-at-len c =
    let now : c.deref.result.now ≡ c.args.self.now = c.deref.ensures.value ∙ c.self.view_is in
    let at : c.place_of_number-at.result ≡ place_in c.args.self.now c.args.number = belongs c.deref.result.now c.args.self.now c.args.number c.place_of_number-at.result c.ranges.number now c.place_of_number-at.ensures.value in
    let rises : Ascends c.args.self.now = subst Ascends c.self.view_is c.self.invariant in
    let len : c.len.result ≡ length c.args.self.now = c.len.ensures ∙ c.self.inside.list.ok.0 ∙ ap length c.self.view_is in
    find_end c.args.self.now c.args.number c.place_of_number-at.result (record { number = pos 0; place = 0 }) rises at (omega arith)

pub returns-then-made-number : goal.returns-then-made-number
returns-then-made-number c =
    let now : c.deref.result.now ≡ c.args.self.now = c.deref.ensures.value ∙ c.self.view_is in
    let at : c.place_of_number-at.result ≡ place_in c.args.self.now c.args.number = belongs c.deref.result.now c.args.self.now c.args.number c.place_of_number-at.result c.ranges.number now c.place_of_number-at.ensures.value in
    let rises : Ascends c.args.self.now = subst Ascends c.self.view_is c.self.invariant in
    let item : c.index-made.result.now ≡ get_or c.args.self.now c.place_of_number-at.result c.index-made.result.now = subst (λ (xs : List Made). c.index-made.result.now ≡ get_or xs c.place_of_number-at.result c.index-made.result.now) c.self.view_is c.index-made.ensures in
    let item_fits : FitsSigned w32 c.index-made.result.now.number = search rules in
    find_miss c.args.self.now c.args.number c.place_of_number-at.result c.index-made.result.now rises at item c.if-made-number.true

pub returns : goal.returns
returns c =
    let now : c.deref.result.now ≡ c.args.self.now = c.deref.ensures.value ∙ c.self.view_is in
    let at : c.place_of_number-at.result ≡ place_in c.args.self.now c.args.number = belongs c.deref.result.now c.args.self.now c.args.number c.place_of_number-at.result c.ranges.number now c.place_of_number-at.ensures.value in
    let len : c.len.result ≡ length c.args.self.now = c.len.ensures ∙ c.self.inside.list.ok.0 ∙ ap length c.self.view_is in
    let item : c.index-made.result.now ≡ get_or c.args.self.now c.place_of_number-at.result c.index-made.result.now = subst (λ (xs : List Made). c.index-made.result.now ≡ get_or xs c.place_of_number-at.result c.index-made.result.now) c.self.view_is c.index-made.ensures in
    let item_fits : FitsSigned w32 c.index-made.result.now.number = search rules in
    let within : c.place_of_number-at.result < length c.args.self.now = omega (arith, ap length now, c.place_of_number-at.ensures.within) in
    find_hit c.args.self.now c.args.number c.place_of_number-at.result c.index-made.result.now at within item c.ranges.number item_fits c.if-made-number.false
