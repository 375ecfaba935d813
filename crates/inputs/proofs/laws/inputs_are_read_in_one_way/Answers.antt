use Rattle.inputs.proofs.OneTexts.{one_texts, none_too_large, one_too_large}
use Rattle.inputs.proofs.SomeTexts.{all_sized}
use Rattle.inputs.proofs.laws.inputs_are_read_in_one_way.Goals as goal

pub returns-clause-texts : goal.returns-clause-texts
returns-clause-texts c files names texts others all are are_too = one_texts files names texts others all are are_too

pub returns-clause-large : goal.returns-clause-large
returns-clause-large c files names m n name other all a b = one_too_large files names m n name other all a b

pub returns-clause-apart : goal.returns-clause-apart
returns-clause-apart c files names texts taken name all are large = none_too_large files names texts taken name all are large

pub returns-clause-some : goal.returns-clause-some
returns-clause-some c files names texts told = all_sized files names texts told
