use Rattle.std.proofs.Common.{◌≡◌, rules, Some}
use Rattle.std.specs.List.{find}
use Rattle.literals.specs.Nogoods.{joined, without, answers}
use Rattle.literals.proofs.Worlds.{resolved_met, found_answers}
use Rattle.literals.proofs.Merges.{nogood_resolved}
use Rattle.literals.proofs.nogood.resolve.Goals as goal

pub invariant_of-result : goal.invariant_of-result
invariant_of-result c =
    let made : c.in_ok-items.items.items ≡ joined (without c.args.left.now c.args.pivot) (without c.args.right.now c.in-Some.q) = search rules in
    rw made (nogood_resolved c.args.left.now c.args.right.now c.args.pivot c.in-Some.q c.lits.ensures.nogood c.lits-2.ensures.nogood)

pub returns-clause-sound : goal.returns-clause-sound
returns-clause-sound c =
    let found : find (answers c.args.pivot) c.args.right.now ≡ Some c.in-Some.q = search rules in
    let made : c.in_ok-items.items.items ≡ joined (without c.args.left.now c.args.pivot) (without c.args.right.now c.in-Some.q) = search rules in
    λ t left right.
    rw made (resolved_met t c.args.left.now c.args.pivot c.args.right.now c.in-Some.q (found_answers c.args.pivot c.args.right.now c.in-Some.q found) left right)
