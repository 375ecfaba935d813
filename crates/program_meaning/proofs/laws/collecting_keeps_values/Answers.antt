use Rattle.program_meaning.proofs.CollectedValue.{collected_law}
use Rattle.program_meaning.proofs.CollectedForms.{form_law, ordinary_law, sound_term_law}
use Rattle.program_meaning.proofs.laws.collecting_keeps_values.Goals as goal

pub returns-clause-value : goal.returns-clause-value
returns-clause-value c = collected_law

pub returns-clause-form : goal.returns-clause-form
returns-clause-form c = form_law

pub returns-clause-ordinary : goal.returns-clause-ordinary
returns-clause-ordinary c = ordinary_law

pub returns-clause-sound : goal.returns-clause-sound
returns-clause-sound c = sound_term_law
