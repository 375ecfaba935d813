use Rattle.std.proofs.Common.{arith}
use Rattle.linear_normal.proofs.TableLemmas.{puts}
use Rattle.linear_normal.proofs.table.put.Goals as goal

pub returns-clause-puts : goal.returns-clause-puts
returns-clause-puts c =
    puts c.args.keys.now.keys c.insert_full.new.self.keys c.args.key c.in_ok-place.place c.in_ok-number.number c.in_ok-place.ensures.keys c.in_ok-place.ensures.index c.in_ok-number.ensures.number (omega arith)
