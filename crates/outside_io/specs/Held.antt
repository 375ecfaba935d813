-- What a list of named inputs holds.
use Rattle.std.specs.Prelude.{ℕ, List, find}
use Rattle.std.specs.Str.{bytes_eq}
use Rattle.std.specs.Option.{option_map}
use Rattle.std.specs.declared.option.Option.{Option}
use Rattle.outside_io.specs.declared.memory_file.MemoryFile.{MemoryFile}

-- the first entry of a name
abbrev pub entry_of : List MemoryFile → List ℕ → Option MemoryFile
entry_of files name = find (λ file. bytes_eq file.name name) files

-- the bytes under a name: those of its first entry
abbrev pub held_under : List MemoryFile → List ℕ → Option (List ℕ)
held_under files name = option_map (λ file. file.bytes) (entry_of files name)
