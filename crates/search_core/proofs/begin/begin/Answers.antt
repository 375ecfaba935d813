use Rattle.std.proofs.Common.{length, map, ap, sym, subst, ◌∙◌}
use Rattle.std.specs.List.{list_any}
use Rattle.derivation_meaning.specs.State.{is_empty}
use Rattle.propagator_core.specs.Several.{AllStand}
use Rattle.search_core.proofs.FirstLaws.{known_as, search_begins, state_begins, closed_begins, rest_begins, set_begins, holding_as, trail_as, awake_as}
use Rattle.search_core.proofs.begin.begin.Goals as goal

pub room_of-requires-clause-search : goal.room_of-requires-clause-search
room_of-requires-clause-search g c =
    let P = g.P.Propagator in
    let program = c.args.ground in
    let xs = c.into_vec-propagators.result.items in
    let h = c.in_ok-holdings.holdings in
    let s = c.shape_for-shape in
    let made = c.in_ok-tools in
    search_begins program h.notes h.store h.trail _ (map P.meaning xs) made.tools.wakes
    (set_begins program c.args.numbered P.meaning c.args.propagators c.deref.result.now xs s.result made.tools.wakes c.requires.numbered c.requires.plain c.requires.work c.requires.fit
    c.into_vec-propagators.ensures c.deref.ensures.value s.ensures made.ensures.rows made.ensures.wakes made.ensures.steady)
    (known_as (length c.args.input) h.notes c.in_ok-holdings.ensures.notes program (ap length c.requires.input))
    (holding_as program c.args.input h.store c.in_ok-holdings.ensures.store c.requires.input)
    (trail_as program s.result h.trail c.in_ok-holdings.ensures.trail s.ensures)

pub room_of-requires-clause-stand : goal.room_of-requires-clause-stand
room_of-requires-clause-stand g c =
    let P = g.P.Propagator in
    let t = c.in_ok-holdings.holdings.trail in
    subst (λ zs. AllStand P.stands P.looked zs t) (sym c.into_vec-propagators.ensures) (c.requires.new t)

pub room_of-requires-clause-count : goal.room_of-requires-clause-count
room_of-requires-clause-count g c = c.in_ok-tools.ensures.count ∙ ap length c.deref.ensures.value

pub room_of-requires-clause-closed : goal.room_of-requires-clause-closed
room_of-requires-clause-closed g c =
    let h = c.in_ok-holdings in
    closed_begins c.args.ground h.holdings.notes h.holdings.store h.holdings.closed (holding_as c.args.ground c.args.input h.holdings.store h.ensures.store c.requires.input) (h.ensures.closed ∙ ap (list_any is_empty) c.requires.input)

pub room_of-requires-clause-rested : goal.room_of-requires-clause-rested
room_of-requires-clause-rested g c =
    let P = g.P.Propagator in
    let xs = c.into_vec-propagators.result.items in
    let made = c.in_ok-tools in
    rest_begins P.meaning xs made.tools.awake.places c.in_ok-holdings.holdings.trail
    (awake_as made.tools.awake.places _ (length xs) made.ensures.awake (ap length c.deref.ensures.value))

pub returns-clause-state : goal.returns-clause-state
returns-clause-state g c =
    let program = c.args.ground in
    let h = c.in_ok-holdings in
    c.room_of.ensures.state
    ∙ state_begins program h.holdings.notes h.holdings.store (known_as (length c.args.input) h.holdings.notes h.ensures.notes program (ap length c.requires.input)) (holding_as program c.args.input h.holdings.store h.ensures.store c.requires.input)
