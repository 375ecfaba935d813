use Rattle.std.proofs.Common.{◌+◌, ◌∷◌, [], arith, ap, ◌∙◌, length, length-append}
use Rattle.nogood_store.proofs.HeldLaws.{filled_on, below_push}
use Rattle.nogood_store.proofs.store.Store.new.Goals as goal

pub fill-preserved : goal.fill-preserved
fill-preserved c = record {
  count = omega (arith, ap length c.in-Some.ensures, length-append c.pop.new.self (c.in-Some.nogood ∷ []));
  held = rw c.in_ok-add-in-Some.ensures.ok (filled_on _ c.fill.store.held c.fill.id c.fill.rest c.pop.new.self c.in-Some.nogood c.fill.invariant.held c.in-Some.ensures);
  below = rw c.in_ok-add-in-Some.ensures.ok (below_push (c.fill.id + 1) c.fill.store.held c.in-Some.nogood c.fill.invariant.below);
  looked = c.in_ok-add-in-Some.ensures.looked ∙ c.fill.invariant.looked;
}
