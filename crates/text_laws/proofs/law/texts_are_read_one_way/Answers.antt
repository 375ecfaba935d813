use Rattle.text_laws.proofs.OneReading.{one_reading, no_fault_beside}
use Rattle.text_laws.proofs.OneFault.{one_fault}
use Rattle.text_laws.proofs.law.texts_are_read_one_way.Goals as goal

pub returns-clause-statements : goal.returns-clause-statements
returns-clause-statements c text one other found again = one_reading text one other found again

pub returns-clause-fault : goal.returns-clause-fault
returns-clause-fault c text one other is again = one_fault text one other is again

pub returns-clause-apart : goal.returns-clause-apart
returns-clause-apart c text statements fault found is = no_fault_beside text statements fault found is
