use Rattle.std.proofs.Common.{rules, ◌≡◌, ◌<◌, ◌≤◌, length, get_or, map}
use Rattle.propagators.specs.contracts.any.AnyPropagator.TheImpl.{ghosts as of_any}
use Rattle.propagators.specs.Meanings.{meanings_from}
use Rattle.propagators.proofs.ListingLaws.{meanings_all, apart_at, work_of, fit_of}
use Rattle.propagators.proofs.listing.propagators_of.Goals as goal

pub add-requires-clause-items : goal.add-requires-clause-items
add-requires-clause-items c =
    let lt : c.loop-at.at < length c.args.numbered.now.constraints = search rules in
    let is : get_or c.args.numbered.now.constraints c.loop-at.at c.index-constraints-at.result ≡ c.index-constraints-at.result = search rules in
    apart_at c.args.ground.now c.args.numbered.now c.loop-at.at c.index-constraints-at.result c.requires.numbering lt is

pub returns-clause-work : goal.returns-clause-work
returns-clause-work c =
    let le : length c.args.numbered.now.constraints ≤ c.loop-at.at = search rules in
    work_of c.args.ground.now c.args.numbered.now (map of_any.meaning c.loop-at.all) c.requires.numbering c.requires.no_tuples
    (meanings_all c.args.numbered.now.constraints c.loop-at.at (map of_any.meaning c.loop-at.all) (meanings_from 1 c.args.numbered.now.constraints) le c.loop-at.invariant.meanings)

pub returns-clause-fit : goal.returns-clause-fit
returns-clause-fit c =
    let le : length c.args.numbered.now.constraints ≤ c.loop-at.at = search rules in
    fit_of c.args.ground.now c.args.numbered.now (map of_any.meaning c.loop-at.all) c.requires.numbering
    (meanings_all c.args.numbered.now.constraints c.loop-at.at (map of_any.meaning c.loop-at.all) (meanings_from 1 c.args.numbered.now.constraints) le c.loop-at.invariant.meanings)
