use Rattle.linear_normal.proofs.TableLemmas.{place_found, place_next}
use Rattle.linear_normal.proofs.table.place_or.Goals as goal

pub returns-in-Some-clause-place : goal.returns-in-Some-clause-place
returns-in-Some-clause-place c = place_found c.args.keys.now.keys c.args.key.now c.args.next c.in-Some.place c.in-Some.ensures.found c.in-Some.ensures.index

pub returns-in-None-clause-place : goal.returns-in-None-clause-place
returns-in-None-clause-place c = place_next c.args.keys.now.keys c.args.key.now c.args.next c.in-None.ensures.found
