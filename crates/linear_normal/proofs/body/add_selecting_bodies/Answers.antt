use Rattle.std.proofs.Common.{◌++◌, ◌+◌, ◌∷◌, [], length, length-append, arith, map, drop, ◌∙◌, ap, sym}
use Rattle.linear_normal.specs.Bodies.{selecting_body}
use Rattle.linear_normal.specs.Numbering.{conjunction_of}
use Rattle.linear_normal.proofs.GrowthLemmas.{mapped_next, twice}
use Rattle.linear_normal.proofs.body.add_selecting_bodies.Goals as goal

pub loop-item-init : goal.loop-item-init
loop-item-init c = record { length = omega arith; bodies = λ later variables body own. ap (λ xs. c.args.bodies.now ++ xs) (sym (twice (selecting_body body) (conjunction_of later variables) c.args.items.now)) }

pub loop-item-preserved : goal.loop-item-preserved
loop-item-preserved c = record {
  length = omega (arith, c.loop-item.invariant.length, ap length c.in_ok-push.ensures.ok, length-append c.loop-item.bodies (c.in_ok-next.next ∷ []));
  bodies = λ later variables body own.
      ap (λ bodies. bodies ++ map (λ item. conjunction_of later variables (selecting_body body item)) (drop (c.loop-item.item-index + 1) c.args.items.now)) c.in_ok-push.ensures.ok
      ∙ mapped_next (λ item. conjunction_of later variables (selecting_body body item)) c.args.items.now c.loop-item.item-index c.item-item.result c.loop-item.bodies _ c.in_ok-next.next c.loop-item-test.true
      (c.loop-item.invariant.bodies later variables body own) (c.in_ok-next.ensures later variables body own ∙ ap (λ item. conjunction_of later variables (selecting_body body item)) c.item-item.is);
}
