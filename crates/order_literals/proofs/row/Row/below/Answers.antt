use Rattle.std.proofs.Common.{◌≡◌, ◌-◌, List, get_or, subst, sym, ◌∙◌, rules, arith, FitsSigned, w32}
use Rattle.order_literals.specs.declared.row.Made.{Made}
use Rattle.order_literals.specs.inner.Rows.{place_in}
use Rattle.order_literals.proofs.RowLaws.{belongs, below_none, below_hit}
use Rattle.order_literals.proofs.row.Row.below.Goals as goal

pub returns-then-at-eq0 : goal.returns-then-at-eq0
returns-then-at-eq0 c =
    let now : c.deref.result.now ≡ c.args.self.now = c.deref.ensures.value ∙ c.self.view_is in
    let at : c.place_of_number-at.result ≡ place_in c.args.self.now c.args.number = belongs c.deref.result.now c.args.self.now c.args.number c.place_of_number-at.result c.ranges.number now c.place_of_number-at.ensures.value in
    sym (below_none c.args.self.now c.args.number (sym at ∙ c.if-at-eq0.true))

pub returns : goal.returns
returns c =
    let now : c.deref.result.now ≡ c.args.self.now = c.deref.ensures.value ∙ c.self.view_is in
    let at : c.place_of_number-at.result ≡ place_in c.args.self.now c.args.number = belongs c.deref.result.now c.args.self.now c.args.number c.place_of_number-at.result c.ranges.number now c.place_of_number-at.ensures.value in
    let item : c.index-made.result.now ≡ get_or c.args.self.now (c.place_of_number-at.result - 1) c.index-made.result.now = subst (λ (xs : List Made). c.index-made.result.now ≡ get_or xs (c.place_of_number-at.result - 1) c.index-made.result.now) c.self.view_is c.index-made.ensures in
    let item_fits : FitsSigned w32 c.index-made.result.now.number = search rules in
    below_hit c.args.self.now c.args.number c.place_of_number-at.result c.index-made.result.now at (omega arith) item item_fits
