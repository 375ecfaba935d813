use Rattle.ground_model.specs.Printed.{block}
use Rattle.clingcon_app.specs.Printed.{satisfiable}
use Rattle.clingcon_app.proofs.ProgramLemmas.{printed_one}
use Rattle.clingcon_app.proofs.answering.block_of.Goals as goal

pub write_answer-requires-clause-values : goal.write_answer-requires-clause-values
write_answer-requires-clause-values c = c.in_ok-answer.ensures.only.one.valuation

pub returns : goal.returns
returns c = record {
  program = c.in_ok-program.program;
  says = c.in_ok-program.ensures.says;
  answer = c.in_ok-answer.answer;
  only = c.in_ok-answer.ensures.only;
  text = printed_one c.new-block.result c.write_answer.new.out (block c.in_ok-program.program c.in_ok-answer.answer 1) satisfiable c.new-block.ensures
      c.in_ok-write_answer.ensures.ok;
}
