use Rattle.std.proofs.Common.{◌+◌, ◌-◌, ◌/◌, ◌<◌, arith, pos, FitsSigned, w32, to_z, of_z, get_or, length, rules}
use Rattle.order_literals.specs.declared.row.Made.{Made}
use Rattle.order_literals.proofs.RowLaws.{past_step, before_step, place_within}
use Rattle.order_literals.proofs.row.place_of_number.Goals as goal

pub halve-init : goal.halve-init
halve-init c = record { low = omega arith; high = place_within c.args.list.now (to_z w32 (of_z w32 c.args.number)); within = omega arith }

pub halve-preserved-then-list-middle : goal.halve-preserved-then-list-middle
halve-preserved-then-list-middle c =
    let d : Made = record { number = pos 0; place = 0 } in
    let middle : c.halve.low + (c.halve.high - c.halve.low) / 2 < length c.args.list.now = omega arith in
    let holds : FitsSigned w32 (get_or c.args.list.now (c.halve.low + (c.halve.high - c.halve.low) / 2) d).number = search rules in
    record {
      low = past_step c.args.list.now (c.halve.low + (c.halve.high - c.halve.low) / 2) d c.args.number c.ranges.number holds c.requires middle c.if-list-middle.true;
      high = c.halve.invariant.high;
      within = c.halve.invariant.within;
    }

pub halve-preserved : goal.halve-preserved
halve-preserved c =
    let d : Made = record { number = pos 0; place = 0 } in
    let middle : c.halve.low + (c.halve.high - c.halve.low) / 2 < length c.args.list.now = omega arith in
    let holds : FitsSigned w32 (get_or c.args.list.now (c.halve.low + (c.halve.high - c.halve.low) / 2) d).number = search rules in
    record {
      low = c.halve.invariant.low;
      high = before_step c.args.list.now (c.halve.low + (c.halve.high - c.halve.low) / 2) d c.args.number c.ranges.number holds middle c.if-list-middle.false;
      within = omega arith;
    }
