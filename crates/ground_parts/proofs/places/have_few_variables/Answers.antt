use Rattle.std.proofs.Common.{◌-◌, length, refl}
use Rattle.ground_model.specs.Sound.{occurs, first_places}
use Rattle.ground_parts.proofs.Counted.{counted, none_occurs_below, same_few}
use Rattle.ground_parts.proofs.places.have_few_variables.Goals as goal

pub returns-clause-few : goal.returns-clause-few
returns-clause-few c =
    let test = occurs (first_places c.args.places.now) in
    same_few test (length c.args.seen.now - 1) c.mark_places-count.result _
    (counted c.args.seen.now c.mark_places-count.new.seen test c.mark_places-count.result c.requires.size c.mark_places-count.auto.seen c.requires.unset
    c.mark_places-count.ensures.flags c.mark_places-count.ensures.count (none_occurs_below (length c.args.seen.now) c.args.places.now c.requires.places))
    refl
