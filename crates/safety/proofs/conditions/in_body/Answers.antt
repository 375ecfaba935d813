use Rattle.program_meaning.specs.Read.{literal_read}
use Rattle.program_meaning.specs.Tuples.{told_in}
use Rattle.safety_meaning.specs.Failures.{atoms_of_theory}
use Rattle.safety.proofs.Answering.{nested_answers_more}
use Rattle.safety.proofs.conditions.in_body.Goals as goal

pub loop-literal-preserved : goal.loop-literal-preserved
loop-literal-preserved c =
    nested_answers_more c.args.ways.now.table.keys c.args.flags.now atoms_of_theory told_in literal_read c.args.body.now c.loop-literal.literal-index c.literal-item.result c.args.found.now
    c.loop-literal.found c.in_told.new.found c.literal-item.is c.loop-literal-test.true c.loop-literal.invariant c.in_ok-in_told.ensures
