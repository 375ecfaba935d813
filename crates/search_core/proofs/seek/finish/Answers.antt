use Rattle.std.proofs.Common.{map, sym, ◌∙◌}
use Rattle.search_core.proofs.TurnLaws.{ends}
use Rattle.search_core.proofs.seek.finish.Goals as goal

pub returns-clause-ends : goal.returns-clause-ends
returns-clause-ends g c =
    let P = g.P.Propagator in
    let r = c.args.room.now in
    ends r.ground r.notes c.claim.new.self r.store r.trail (map P.meaning r.propagators.items) r.wakes c.requires.room.search (sym c.requires.room.closed ∙ c.requires.closed) c.claim.ensures
