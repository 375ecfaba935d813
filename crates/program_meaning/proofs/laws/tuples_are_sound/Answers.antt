use Rattle.program_meaning.proofs.SoundTuples.{sound_tuples_law, few_tuple_variables_law}
use Rattle.program_meaning.proofs.SoundRelations.{sound_relation_law, sound_values_law}
use Rattle.program_meaning.proofs.laws.tuples_are_sound.Goals as goal

pub returns-clause-tuples : goal.returns-clause-tuples
returns-clause-tuples c = sound_tuples_law

pub returns-clause-variables : goal.returns-clause-variables
returns-clause-variables c = few_tuple_variables_law

pub returns-clause-relation : goal.returns-clause-relation
returns-clause-relation c = sound_relation_law

pub returns-clause-values : goal.returns-clause-values
returns-clause-values c = sound_values_law
