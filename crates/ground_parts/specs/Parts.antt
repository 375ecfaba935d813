-- The parts of a ground program, and when they make one.
use Rattle.std.specs.Prelude.{◌^◌, nat_lt, ◌==◌, Bool, ◌&&◌, length}
use Rattle.ground_model.specs.declared.program.GroundProgram.{GroundProgram}
use Rattle.ground_model.specs.Sound.{are_known, are_sound_rules, is_sound_objective}
use Rattle.ground_parts.specs.declared.parts.GroundParts.{GroundParts}

-- atoms and variables are fewer than 2^32, symbols of the table, and have one flag each
abbrev pub has_sound_names : GroundParts → Bool
has_sound_names parts =
    nat_lt (length parts.atoms) (2 ^ 32) && nat_lt (length parts.variables) (2 ^ 32)
    && are_known (length parts.symbols) parts.atoms && are_known (length parts.symbols) parts.variables
    && (length parts.shown_atoms == length parts.atoms) && (length parts.shown_variables == length parts.variables)

-- parts make a ground program: they keep what every ground program keeps
abbrev pub make_a_program : GroundParts → Bool
make_a_program parts =
    has_sound_names parts
    && are_sound_rules (length parts.symbols) (length parts.atoms) (length parts.variables) parts.ends parts.rules
    && is_sound_objective (length parts.symbols) (length parts.variables) parts.smaller parts.larger

-- the parts of a program are its fields
abbrev pub parts_of : GroundProgram → GroundParts
parts_of program = record {
  ends = program.ends;
  atoms = program.atoms;
  variables = program.variables;
  rules = program.rules;
  has_objective = program.has_objective;
  smaller = program.smaller;
  larger = program.larger;
  shown_atoms = program.shown_atoms;
  shown_variables = program.shown_variables;
  symbols = program.symbols;
}
