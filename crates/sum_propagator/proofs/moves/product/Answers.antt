use Rattle.std.proofs.Common.{rules, refl, ◌≡◌, ◌*ℤ◌, FitsSigned, w32}
use Rattle.std.specs.Int.{w128}
use Rattle.std.proofs.lemmas.Int.{to_z-of_z}
use Rattle.sum_propagator.proofs.Moving.{product_wide}
use Rattle.sum_propagator.proofs.moves.product.Goals as goal

pub overflow_mul-result : goal.overflow_mul-result
overflow_mul-result c =
    let fc : FitsSigned w128 c.args.c = search rules in
    let fk : FitsSigned w32 c.args.k = search rules in
    let e : c.from.result ≡ c.args.k = simp to_z-of_z at c.from.ensures in
    let small = product_wide c.args.c c.args.k c.requires fk in
    let fp : FitsSigned w128 (c.args.c *ℤ c.args.k) = search (rules, small) in
    rw (e, to_z-of_z w128 c.args.c fc, to_z-of_z w128 c.args.k (search rules)) fp

pub returns-clause-value : goal.returns-clause-value
returns-clause-value c =
    let fc : FitsSigned w128 c.args.c = search rules in
    let fk : FitsSigned w32 c.args.k = search rules in
    let e : c.from.result ≡ c.args.k = simp to_z-of_z at c.from.ensures in
    let small = product_wide c.args.c c.args.k c.requires fk in
    let fp : FitsSigned w128 (c.args.c *ℤ c.args.k) = search (rules, small) in
    rw (e, to_z-of_z w128 c.args.c fc, to_z-of_z w128 c.args.k (search rules), to_z-of_z w128 (c.args.c *ℤ c.args.k) fp) refl

pub returns-clause-small : goal.returns-clause-small
returns-clause-small c =
    let fc : FitsSigned w128 c.args.c = search rules in
    let fk : FitsSigned w32 c.args.k = search rules in
    let e : c.from.result ≡ c.args.k = simp to_z-of_z at c.from.ensures in
    let small = product_wide c.args.c c.args.k c.requires fk in
    let fp : FitsSigned w128 (c.args.c *ℤ c.args.k) = search (rules, small) in
    rw (e, to_z-of_z w128 c.args.c fc, to_z-of_z w128 c.args.k (search rules), to_z-of_z w128 (c.args.c *ℤ c.args.k) fp) small
