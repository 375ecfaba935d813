use Rattle.proof_checker.proofs.TableLemmas.{found_then, found_else}
use Rattle.proof_checker.proofs.table.find_in.Goals as goal

pub returns-then-one-id : goal.returns-then-one-id
returns-then-one-id c =
    found_then c.args.live.now c.args.id c.place_of-at.result c.index-live-at.result c.requires c.place_of-at.ensures c.if-at-live.false c.index-live-at.is c.if-one-id.true

pub returns-else-one-id : goal.returns-else-one-id
returns-else-one-id c =
    found_else c.args.live.now c.args.id c.place_of-at.result c.index-live-at.result c.requires c.place_of-at.ensures c.if-at-live.false c.index-live-at.is c.if-one-id.false
