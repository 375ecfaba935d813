use Rattle.text_laws.proofs.EveryText.{any_answer}
use Rattle.text_laws.proofs.law.every_text_has_an_answer.Goals as goal

pub returns : goal.returns
returns c = any_answer c.args.text.now c.first_fault.result c.first_fault.ensures.tokens c.first_fault.ensures.fault
