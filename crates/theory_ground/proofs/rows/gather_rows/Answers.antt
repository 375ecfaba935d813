use Rattle.std.proofs.Common.{length}
use Rattle.symbols.proofs.TableLemmas.{IsFront-trans}
use Rattle.instance_plans.specs.Plans.{element_read}
use Rattle.instance_search.specs.Found.{IsKnownRow}
use Rattle.collected_elements.proofs.ElementLemmas.{err_again}
use Rattle.program_meaning.specs.Said.{value_in}
use Rattle.std.proofs.Common.{map}
use Rattle.theory_ground.specs.inner.Rows.{HasFlag}
use Rattle.theory_ground.proofs.RowLemmas.{one_gathered, flag_front, over_at_row, at_place}
use Rattle.theory_ground.proofs.rows.gather_rows.Goals as goal

pub gather_row-requires-clause-flag : goal.gather_row-requires-clause-flag
gather_row-requires-clause-flag c =
    let old = c.args.symbols.now in
    let row = c.index-rows-place.result in
    let known = at_place (IsKnownRow (length c.args.symbols.now)) c.args.rows.now c.loop-place.place c.index-rows-place.result c.index-rows-place.is c.loop-place-test.true c.requires.rows in
    let flag = at_place (HasFlag c.args.symbols.now c.args.plan.now (map (value_in c.args.symbols.now) c.args.given.now)) c.args.rows.now c.loop-place.place c.index-rows-place.result
    c.index-rows-place.is c.loop-place-test.true c.requires.flags in
    flag_front old c.loop-place.symbols c.args.plan.now c.args.given.now c.index-rows-place.result c.loop-place.invariant.kept c.requires.values known flag

pub returns-in-Err-clause-over : goal.returns-in-Err-clause-over
returns-in-Err-clause-over c = λ e.
    let old = c.args.symbols.now in
    let known = at_place (IsKnownRow (length c.args.symbols.now)) c.args.rows.now c.loop-place.place c.index-rows-place.result c.index-rows-place.is c.loop-place-test.true c.requires.rows in
    over_at_row old c.loop-place.symbols c.args.name (element_read c.args.element.now) c.args.plan.now c.args.given.now c.args.rows.now c.loop-place.place c.index-rows-place.result
    c.loop-place.invariant.kept c.requires.values known c.index-rows-place.is c.loop-place-test.true (c.in-Err.ensures.over (err_again e))

pub loop-place-preserved : goal.loop-place-preserved
loop-place-preserved c =
    let old = c.args.symbols.now in
    let now = c.loop-place.symbols in
    let new = c.gather_row.new.symbols in
    let known = at_place (IsKnownRow (length c.args.symbols.now)) c.args.rows.now c.loop-place.place c.index-rows-place.result c.index-rows-place.is c.loop-place-test.true c.requires.rows in
    record {
      all = one_gathered old now new c.args.name (element_read c.args.element.now) c.args.plan.now c.args.given.now c.args.rows.now c.loop-place.place c.index-rows-place.result
          c.args.gathered.now c.loop-place.gathered c.gather_row.new.gathered c.loop-place.invariant.kept c.in-Ok.ensures.kept c.requires.values known c.index-rows-place.is
          c.loop-place-test.true c.loop-place.invariant.all c.in-Ok.ensures.one;
      kept = IsFront-trans old now new c.loop-place.invariant.kept c.in-Ok.ensures.kept;
    }
