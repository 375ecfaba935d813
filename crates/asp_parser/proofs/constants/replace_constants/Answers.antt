use Rattle.asp_parser.proofs.Statements.{program_stays}
use Rattle.asp_parser.proofs.constants.replace_constants.Goals as goal

pub returns-in-Ok-with_constants-clause-tree : goal.returns-in-Ok-with_constants-clause-tree
returns-in-Ok-with_constants-clause-tree c =
    program_stays c.in-Ok.constants c.in-Ok.ensures.trees c.args.program c.in-Ok-with_constants.program c.in-Ok-with_constants.ensures.statements c.in-Ok-with_constants.ensures.files c.requires
