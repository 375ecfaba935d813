use Rattle.program_meaning.specs.Read.{literal_read, plain_of}
use Rattle.safety_meaning.specs.Failures.{atom_of}
use Rattle.safety.proofs.Answering.{nested_answers_more}
use Rattle.safety.proofs.conditions.in_condition.Goals as goal

pub loop-literal-preserved : goal.loop-literal-preserved
loop-literal-preserved c =
    nested_answers_more c.args.ways.now.table.keys c.args.flags.now atom_of plain_of literal_read c.args.condition.now c.loop-literal.literal-index c.literal-item.result c.args.found.now
    c.loop-literal.found c.in_literal.new.found c.literal-item.is c.loop-literal-test.true c.loop-literal.invariant c.in_ok-in_literal.ensures
