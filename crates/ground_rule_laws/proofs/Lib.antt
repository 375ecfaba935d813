pub mod FewAtoms
pub mod FewIntervals
pub mod SoundPlaces
pub mod SoundObjectives
pub mod SoundRules
