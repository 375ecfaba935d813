use Rattle.std.proofs.Common.{rules, ap, sym, Bool, ◌+ℤ◌, pos, FitsSigned}
use Rattle.std.specs.Prelude.{cond}
use Rattle.std.specs.Int.{w128}
use Rattle.std.proofs.lemmas.Int.{to_z-of_z}
use Rattle.sum_propagator.proofs.moves.stepped.Goals as goal

pub returns-then-least-clause-least : goal.returns-then-least-clause-least
returns-then-least-clause-least c =
    let small = c.requires.small.least in
    let more = c.requires.step in
    let fa : FitsSigned w128 c.args.totals.least = search (rules, small) in
    let fr : FitsSigned w128 c.args.step = search rules in
    let fs : FitsSigned w128 (c.args.totals.least +ℤ c.args.step) = search (rules, small, more) in
    simp to_z-of_z (ap (λ (b : Bool). c.args.totals.least +ℤ cond b c.args.step (pos 0)) (sym c.if-least.true))

pub returns-else-least-clause-greatest : goal.returns-else-least-clause-greatest
returns-else-least-clause-greatest c =
    let small = c.requires.small.greatest in
    let more = c.requires.step in
    let fa : FitsSigned w128 c.args.totals.greatest = search (rules, small) in
    let fr : FitsSigned w128 c.args.step = search rules in
    let fs : FitsSigned w128 (c.args.totals.greatest +ℤ c.args.step) = search (rules, small, more) in
    simp to_z-of_z (ap (λ (b : Bool). c.args.totals.greatest +ℤ cond b (pos 0) c.args.step) (sym c.if-least.false))
