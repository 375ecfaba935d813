use Rattle.linear_normal.proofs.PartLemmas.{equal_places, other_places}
use Rattle.linear_normal.proofs.table.part_places.Goals as goal

pub returns-then-eq : goal.returns-then-eq
returns-then-eq c =
    equal_places c.args.keys.now.keys c.args.one.now c.args.other.now c.place_or-first.result c.len-count.result c.eq.result c.len-count.ensures.len c.eq.ensures
    c.place_or-first.ensures.place c.if-eq.true

pub returns : goal.returns
returns c =
    other_places c.args.keys.now.keys c.args.one.now c.args.other.now c.place_or-first.result c.place_or.result c.len-count.result c.max.result c.eq.result c.len-count.ensures.len c.eq.ensures
    c.place_or-first.ensures.place c.if-eq.false c.max.ensures c.place_or.ensures.place
