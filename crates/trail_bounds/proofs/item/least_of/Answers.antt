use Rattle.std.proofs.Common.{rules, arith, ◌≡◌, ◌<ℤ◌, ◌*ℤ◌, pos, FitsSigned, w32, sym}
use Rattle.std.specs.Int.{w128}
use Rattle.std.proofs.lemmas.Int.{ints, to_z-of_z}
use Rattle.trail_bounds.proofs.Times.{least_is_down, product_small}
use Rattle.trail_bounds.proofs.item.least_of.Goals as goal

pub returns-else-c-ge0-clause-value : goal.returns-else-c-ge0-clause-value
returns-else-c-ge0-clause-value c =
    let fc : FitsSigned w128 c.args.c = search rules in
    let fh : FitsSigned w32 c.args.range.high = search rules in
    let e : c.from-else-c-ge0.result ≡ c.args.range.high = simp to_z-of_z at c.from-else-c-ge0.ensures in
    let down : c.args.c <ℤ pos 0 = (let h = c.if-c-ge0.false in grind (arith, ints, to_z-of_z)) in
    let small = product_small c.args.c c.args.range.high c.requires c.args.range.high_small in
    let fp : FitsSigned w128 (c.args.c *ℤ c.args.range.high) = search (rules, small) in
    rw (e, to_z-of_z w128 c.args.c fc, to_z-of_z w128 c.args.range.high (search rules), to_z-of_z w128 (c.args.c *ℤ c.args.range.high) fp) (sym (least_is_down c.args.c c.args.range.low c.args.range.high down))

pub returns-else-c-ge0-clause-small : goal.returns-else-c-ge0-clause-small
returns-else-c-ge0-clause-small c =
    let fc : FitsSigned w128 c.args.c = search rules in
    let fh : FitsSigned w32 c.args.range.high = search rules in
    let e : c.from-else-c-ge0.result ≡ c.args.range.high = simp to_z-of_z at c.from-else-c-ge0.ensures in
    let small = product_small c.args.c c.args.range.high c.requires c.args.range.high_small in
    let fp : FitsSigned w128 (c.args.c *ℤ c.args.range.high) = search (rules, small) in
    rw (e, to_z-of_z w128 c.args.c fc, to_z-of_z w128 c.args.range.high (search rules), to_z-of_z w128 (c.args.c *ℤ c.args.range.high) fp) small
