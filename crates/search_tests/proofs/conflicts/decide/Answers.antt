use Rattle.conflict_analysis.proofs.JustifiedLaws.{justified_decision}
use Rattle.search_tests.proofs.conflicts.decide.Goals as goal

pub returns-clause-justified : goal.returns-clause-justified
returns-clause-justified c = justified_decision c.args.store.now.held c.args.trail.now c.open_level.new.self c.set.new.self c.args.lit c.in_ok-set.field-0 c.level.ensures.assignment c.requires.justified c.in_ok-open_level.ensures.ok c.in_ok-set.ensures.ok
