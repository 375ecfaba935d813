use Rattle.std.proofs.Common.{◌≡◌, ◌++◌, ◌+◌, drop}
use Rattle.completion.specs.Inputs.{bodies_nogoods}
use Rattle.completion.proofs.body.add_bodies.Given as goal

abbrev pub invariant-loop-body : goal.invariant-loop-body
invariant-loop-body l = record {
  place : l.number ≡ l.first + l.body-index;
  so_far : l.nogoods ++ bodies_nogoods l.number (drop l.body-index l.bodies) ≡ l.fn.nogoods ++ bodies_nogoods l.first l.bodies;
}
