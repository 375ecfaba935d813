use Rattle.std.proofs.Common.{length}
use Rattle.numbered_rules.proofs.RuleLemmas.{places_over, places_known_by}
use Rattle.numbered_rules.proofs.numbering.numbered_places.Goals as goal

pub returns-clause-places : goal.returns-clause-places
returns-clause-places c = λ symbols variables have. places_over symbols variables c.args.numbers.now have c.args.held.now c.requires _ c.in_ok-made.ensures

pub returns-clause-known : goal.returns-clause-known
returns-clause-known c = places_known_by (length c.args.numbers.now) c.args.numbers.now c.args.held.now c.requires _ c.in_ok-made.ensures
