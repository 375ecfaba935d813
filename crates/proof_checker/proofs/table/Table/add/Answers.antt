use Rattle.std.proofs.Common.{false, refl}
use Rattle.proof_checker.proofs.TableLemmas.{passing_more}
use Rattle.proof_checker.proofs.table.Table.add.Goals as goal

pub invariant_of-self-else-is_held : goal.invariant_of-self-else-is_held
invariant_of-self-else-is_held c =
    passing_more c.self.inside.coming c.push_next-else-is_held.new.coming c.self.inside.held c.self.inside.passing c.push_next-else-is_held.new.list
    (record { id = c.self.inside.coming; nogood = c.args.nogood; is_held = false; is_learned = c.args.is_learned }) c.self.invariant
    c.in_ok-push_next-2.ensures.ok c.in_ok-push_next-2.ensures.next refl refl
