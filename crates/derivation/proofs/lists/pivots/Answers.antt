use Rattle.std.proofs.Common.{length, refl, arith}
use Rattle.derivation.specs.Reading.{pivot_item}
use Rattle.derivation.proofs.Turns.{row_turn, row_stop, row_over}
use Rattle.derivation.proofs.lists.pivots.Goals as goal

pub returns-in-None : goal.returns-in-None
returns-in-None c = row_stop pivot_item (length c.args.bytes.now) c.items.counter c.items.found c.items.rest.now _ c.items.invariant.read c.in-None.ensures

pub items-preserved : goal.items-preserved
items-preserved c = record {
  last = refl;
  read = row_turn pivot_item (length c.args.bytes.now) c.items.counter c.items.found c.items.rest.now _ c.items.invariant.read c.in-Some.item c.in-Some.after.now c.push.new.self c.items-test.true
      c.in-Some.ensures c.in_ok-push-in-Some.ensures.ok;
}

pub returns : goal.returns
returns c = row_over pivot_item (length c.args.bytes.now) c.items.counter c.items.found c.items.rest.now _ c.items.invariant.read (omega arith)
