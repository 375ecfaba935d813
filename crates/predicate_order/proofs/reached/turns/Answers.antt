use Rattle.std.proofs.Common.{[], ◌∷◌, ◌++◌, ap, ◌∙◌, subst, sym, slice_get, Some, ◌≡◌}
use Rattle.predicate_order.specs.Ways.{at_once}
use Rattle.predicate_order.specs.Judged.{Judges, AnyReached}
use Rattle.predicate_order.proofs.Numbers.{ways_kept, got_below}
use Rattle.predicate_order.proofs.reached.turns.Goals as goal

pub returns-in_err-start-clause-kept : goal.returns-in_err-start-clause-kept
returns-in_err-start-clause-kept c = λ named z.
    ways_kept c.args.ways.now.table.keys c.number.new.table.keys c.number.ensures.kept c.args.ways.now.ways named z

pub flags_from-requires-clause-known : goal.flags_from-requires-clause-known
flags_from-requires-clause-known c =
    (c.requires.0, ways_kept c.args.ways.now.table.keys c.number.new.table.keys c.number.ensures.kept c.args.ways.now.ways c.requires.0 c.requires.1)

pub flags_from-requires-clause-start : goal.flags_from-requires-clause-start
flags_from-requires-clause-start c = got_below c.number.new.table.keys c.in_ok-start.start c.in_ok-head.head c.in_ok-start.ensures.number

pub returns-in_err-flags-clause-kept : goal.returns-in_err-flags-clause-kept
returns-in_err-flags-clause-kept c = λ named z.
    ways_kept c.args.ways.now.table.keys c.number.new.table.keys c.number.ensures.kept c.args.ways.now.ways named z

pub returns-clause-kept : goal.returns-clause-kept
returns-clause-kept c = λ named z.
    ways_kept c.args.ways.now.table.keys c.number.new.table.keys c.number.ensures.kept c.args.ways.now.ways named z

pub returns-clause-answer : goal.returns-clause-answer
returns-clause-answer c = λ named z.
    let keys = c.number.new.table.keys in
    let kept = ways_kept c.args.ways.now.table.keys keys c.number.ensures.kept c.args.ways.now.ways named z in
    let here : slice_get keys c.in_ok-start.start ≡ Some c.args.reads.now.head = c.in_ok-start.ensures.number ∙ ap Some c.in_ok-head.ensures in
    let judged = c.in_ok-flags.ensures named c.args.reads.now.head kept here in
    let all = named ++ at_once c.args.reads.now.head ∷ [] in
    let told = c.any_reached.ensures all (subst (λ v. Judges keys v all) (sym c.items.ensures) judged) in
    ((λ e. subst (AnyReached all) c.items-2.ensures (told.0 e)), (λ r. told.1 (subst (AnyReached all) (sym c.items-2.ensures) r)))
