use Rattle.linear_normal.proofs.PartLemmas.{takes_both}
use Rattle.linear_normal.proofs.table.add_both.Goals as goal

pub returns-clause-takes : goal.returns-clause-takes
returns-clause-takes c =
    takes_both _ _ _ _ c.args.one c.args.other c.in_ok-i.i c.in_ok-j.j c.in_ok-number.number _ _ _ _ c.part_places-first.ensures c.in_ok-i.ensures.number c.in_ok-j.ensures.number
    c.in_ok-number.ensures.puts c.in_ok-put.ensures.puts c.in_ok-put-2.ensures.puts
