use Rattle.std.proofs.Common.{refl, arith}
use Rattle.nogood_store.proofs.Ending.{enlisted_fresh, enlisted_pair, stored_same}
use Rattle.nogood_store.proofs.watching.enlist.Goals as goal

pub enlist-preserved : goal.enlist-preserved
enlist-preserved c = record {
  stored =
      enlisted_pair c.args.slots.now c.enlist.work (record c.enlist.work { fresh = c.push.new.self }) _ c.len-in-enlist.result (record { first = 0; second = 0 }) (omega arith) (omega arith) refl c.in_ok-push.ensures.items refl c.in_ok-push-2.ensures.items
      (enlisted_fresh c.args.slots.now c.enlist.work (record c.enlist.work { fresh = c.push.new.self }) c.len-in-enlist.result (omega arith) refl c.in_ok-push.ensures.items c.enlist.invariant.stored);
  same = record { shape = c.enlist.invariant.same.shape; places = c.enlist.invariant.same.places; lists = c.enlist.invariant.same.lists; looked = c.enlist.invariant.same.looked };
}

pub returns-in_err-push-2-clause-stored : goal.returns-in_err-push-2-clause-stored
returns-in_err-push-2-clause-stored c =
    stored_same c.args.slots.now (record c.enlist.work { fresh = c.push.new.self }) _ refl c.in_err-push-2.ensures.items
    (enlisted_fresh c.args.slots.now c.enlist.work (record c.enlist.work { fresh = c.push.new.self }) c.len-in-enlist.result (omega arith) refl c.in_ok-push.ensures.items c.enlist.invariant.stored)
